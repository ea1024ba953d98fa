pub mod Printing
pub mod Filling
pub mod Reading
