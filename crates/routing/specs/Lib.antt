pub mod Finds
pub mod Searching
pub mod Lent
