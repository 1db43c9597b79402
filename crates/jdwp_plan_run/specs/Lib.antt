pub mod Asking
pub mod Calls
pub mod Endings
pub mod Expecting
pub mod Runs
pub mod RunsKept
pub mod Tellings
