pub mod Stores
pub mod Answers
pub mod Sizes
