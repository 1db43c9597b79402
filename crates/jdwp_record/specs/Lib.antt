pub mod Faults
pub mod Halves
pub mod Naming
pub mod Recorders
