pub mod Lists
pub mod Sets
pub mod Maps
pub mod Before
pub mod Faults
pub mod Again
