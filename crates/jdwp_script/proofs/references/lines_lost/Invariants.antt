use Rattle.std.proofs.Common.{◌≡◌, drop, None}
use Rattle.jdwp_script.specs.References.{lines_lost}
use Rattle.jdwp_script.proofs.references.lines_lost.Given as goal

abbrev pub invariant-loop-line : goal.invariant-loop-line
invariant-loop-line l = lines_lost l.last l.before (drop l.line-index l.lines) ≡ lines_lost l.last None l.lines
