pub mod Patterns
pub mod Limits
pub mod Rising
pub mod CompositeKept
pub mod ModifierPassed
pub mod KindsAsked
pub mod Picked
