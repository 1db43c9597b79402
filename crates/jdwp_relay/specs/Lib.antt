pub mod Flows
pub mod LineText
pub mod Spans
pub mod Passages
pub mod Ducts
pub mod Captures
pub mod Relays
