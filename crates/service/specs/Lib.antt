pub mod Serving
pub mod Services
pub mod Feeds
pub mod Input
