pub mod Filters
pub mod Commands
pub mod Packets
pub mod Worlds
pub mod OfTurns
pub mod OfLinks
pub mod Reading
