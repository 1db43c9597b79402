use Rattle.std.proofs.Common.{◌≡◌, drop}
use Rattle.jdwp_wire.specs.Listed.{first_refusal}
use Rattle.jdwp_layout.specs.Shapes.{entry_shape}
use Rattle.jdwp_layout.specs.Meanings.{entry_meanings}
use Rattle.jdwp_layout.specs.Writes.{entry_refusal}
use Rattle.jdwp_layout.proofs.fitting.refusal_of_list.Given as goal

abbrev pub invariant-loop-scalars : goal.invariant-loop-scalars
invariant-loop-scalars l = first_refusal (entry_refusal l.sizes (entry_shape l.entry)) (entry_meanings (drop l.scalars-index l.entries)) ≡ first_refusal (entry_refusal l.sizes (entry_shape l.entry)) (entry_meanings l.entries)
