pub mod Fronts
pub mod TwoParts
pub mod Known
pub mod Leaving
