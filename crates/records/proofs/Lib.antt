pub mod Readings
pub mod RoundTrip
pub mod Records
