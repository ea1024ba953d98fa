pub mod Rows
pub mod Walking
pub mod Standing
pub mod Keeping
pub mod Promising
pub mod Ordering
