-- The frame of the invariant: numbers and stages, queue order, open functions.
pub mod Books
pub mod Orders
pub mod Opens
