pub mod Closing
pub mod Onward
pub mod LiveClosing
pub mod LiveOnward
