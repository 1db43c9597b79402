use Rattle.std.proofs.Common.{◌≡◌, length}
use Rattle.jdwp_script_machine.proofs.machine.places_of.Given as goal

abbrev pub invariant-loop-entry : goal.invariant-loop-entry
invariant-loop-entry l = length l.places.items ≡ l.entry-index
