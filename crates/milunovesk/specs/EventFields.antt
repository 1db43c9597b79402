-- What contracts say of events by kind.
pub use Rattle.jdwp_event_fields.specs.EventSets
pub use Rattle.jdwp_event_fields.specs.Events
pub use Rattle.jdwp_event_fields.specs.declared.event.Event
pub use Rattle.jdwp_event_fields.specs.declared.event_set.EventSet
