use Rattle.std.proofs.Common.{◌≡◌, drop, map}
use Rattle.jdwp_script.specs.Meanings.{group_part}
use Rattle.jdwp_script.specs.IdSets.{has}
use Rattle.jdwp_script.specs.References.{nothing, groups_lost}
use Rattle.jdwp_script.proofs.references.groups_lost.Given as goal

abbrev pub invariant-loop-group : goal.invariant-loop-group
invariant-loop-group l = groups_lost (has l.before) (map group_part (drop l.group-index l.groups)) ≡ groups_lost nothing (map group_part l.groups)
