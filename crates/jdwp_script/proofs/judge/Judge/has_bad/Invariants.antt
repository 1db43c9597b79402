use Rattle.std.proofs.Common.{◌≡◌, drop, map}
use Rattle.std.specs.List.{list_any}
use Rattle.jdwp_script.proofs.judge.Judge.has_bad.Given as goal

abbrev pub invariant-loop-part : goal.invariant-loop-part
invariant-loop-part g l = list_any (g.Self.Judge.judges l.self) (map g.Self.Judge.meaning (drop l.part-index l.parts)) ≡ list_any (g.Self.Judge.judges l.self) (map g.Self.Judge.meaning l.parts)
