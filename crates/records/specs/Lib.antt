pub mod Feed
pub mod Write
pub mod RoundTrip
pub mod Records
