pub mod HandshakeSteps
pub mod Texts
pub mod Takes
pub mod Loop
pub mod Passed
pub mod Puts
pub mod Keeps
pub mod Wide
