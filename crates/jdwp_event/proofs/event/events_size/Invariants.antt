use Rattle.std.proofs.Common.{◌<◌, ◌^◌, List}
use Rattle.jdwp_layout.specs.Meanings.{ScalarMeaning}
use Rattle.jdwp_layout.specs.Writes.{entry_canonical}
use Rattle.jdwp_layout.proofs.Sizes.{Sized}
use Rattle.jdwp_event.proofs.event.events_size.Given as goal

abbrev pub invariant-loop-event : goal.invariant-loop-event
invariant-loop-event l = record {
  sized : Sized (λ (e : List ScalarMeaning). e) (entry_canonical l.sizes) l.events l.event-index l.total;
  small : l.total < 2 ^ 64;
}
