pub mod Walking
pub mod Short
pub mod Keeping
