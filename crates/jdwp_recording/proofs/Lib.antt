pub mod AssemblyLaws
pub mod DirectionLaws
