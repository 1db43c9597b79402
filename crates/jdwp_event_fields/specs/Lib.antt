pub mod Events
pub mod EventSets
