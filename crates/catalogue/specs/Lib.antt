pub mod Places
pub mod Calls
pub mod Walks
pub mod Asks
pub mod Routes
pub mod Keeping
