pub mod Keeping
pub mod Leading
pub mod Planned
pub mod Taking
