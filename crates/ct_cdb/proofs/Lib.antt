pub mod Rows
pub mod ReadBack
pub mod Fitting
pub mod Numbers
pub mod Written
