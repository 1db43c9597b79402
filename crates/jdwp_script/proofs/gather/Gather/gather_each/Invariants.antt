use Rattle.std.proofs.Common.{◌≡◌, ◌++◌, take, map}
use Rattle.std.specs.List.{flat_map}
use Rattle.jdwp_script.proofs.gather.Gather.gather_each.Given as goal

abbrev pub invariant-loop-part : goal.invariant-loop-part
invariant-loop-part g l = l.ids.items ≡ l.fn.ids.items ++ flat_map g.Self.Gather.gathers (map g.Self.Gather.meaning (take l.part-index l.parts))
