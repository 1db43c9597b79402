pub mod Paired
pub mod Pairs
pub mod Refusals
pub mod Written
