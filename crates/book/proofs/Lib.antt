pub mod Fronts
pub mod Booked
pub mod Refusing
pub mod Answering
pub mod Beginning
pub mod Endings
pub mod Sounding
