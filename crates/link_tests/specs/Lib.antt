pub mod SpinningMachine
pub mod SpinningLaws
