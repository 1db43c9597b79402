pub mod Insides
pub mod Keeping
pub mod Partners
pub mod Standings
