use Rattle.std.proofs.Common.{take}
use Rattle.jdwp_script.specs.Limits.{is_in}
use Rattle.jdwp_script.specs.IdSets.{Holds}
use Rattle.jdwp_script.proofs.id_set.set_of.Given as goal

abbrev pub invariant-loop-id : goal.invariant-loop-id
invariant-loop-id l = Holds l.set (is_in (take l.id-index l.ids))
