pub mod Books
pub mod Doubts
pub mod Calls
pub mod Runs
