use Rattle.std.proofs.Common.{◌≡◌, ◌≤◌, ◌++◌, take, drop, vec_capacity}
use Rattle.std.specs.List.{flat_map}
use Rattle.jdwp_wire.specs.Each.{EncodesAll}
use Rattle.jdwp_wire.specs.Listed.{first_refusal}
use Rattle.jdwp_layout.specs.Shapes.{Events}
use Rattle.jdwp_layout.specs.Grammar.{EncodesEntry}
use Rattle.jdwp_layout.specs.Writes.{entry_canonical, entry_refusal}
use Rattle.jdwp_event.proofs.event.put_events.Given as goal

abbrev pub invariant-loop-event : goal.invariant-loop-event
invariant-loop-event l = record {
  written : l.output.items ≡ l.fn.output.items ++ flat_map (entry_canonical l.sizes) (take l.event-index l.events);
  capacity : vec_capacity l.fn.output ≤ vec_capacity l.output;
  encoded : EncodesAll (EncodesEntry l.sizes Events) (take l.event-index l.events) (flat_map (entry_canonical l.sizes) (take l.event-index l.events));
  refusal : first_refusal (entry_refusal l.sizes Events) (drop l.event-index l.events) ≡ first_refusal (entry_refusal l.sizes Events) l.events;
}
