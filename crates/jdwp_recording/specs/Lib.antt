pub mod Assemblies
pub mod Directions
pub mod FaultNumbers
pub mod Fields
pub mod SequenceNumbers
pub mod Sides
pub mod Streams
