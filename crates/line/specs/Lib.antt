pub mod Lines
pub mod Words
pub mod Sinks
