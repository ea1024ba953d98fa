pub mod Refusals
pub mod Buffers
