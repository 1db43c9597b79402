use Rattle.std.proofs.Common.{◌≡◌, ℕ, take}
use Rattle.std.specs.BTreeSet.{contains}
use Rattle.std.specs.List.{list_any}
use Rattle.std.specs.Ordering.{nat_cmp}
use Rattle.jdwp_layout.specs.Meanings.{entry_meanings}
use Rattle.jdwp_mirror.specs.Mirror.{begins_with_object}
use Rattle.jdwp_mirror.proofs.reply.listed_among.Given as goal

abbrev pub invariant-loop-entry : goal.invariant-loop-entry
invariant-loop-entry l = (t : ℕ) → contains nat_cmp l.listed t ≡ list_any (begins_with_object t) (entry_meanings (take l.entry-index l.entries))
