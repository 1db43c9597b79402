pub mod FallingMachine
pub mod FallingLaws
