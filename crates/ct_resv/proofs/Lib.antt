pub mod Leaving
pub mod Listing
pub mod Sizes
pub mod Sameness
pub mod WhoPasses
pub mod Walk
pub mod Refusals
pub mod Sound
