pub mod HandleValues
pub mod Joined
pub mod LooseValues
pub mod Requests
pub mod Standing
