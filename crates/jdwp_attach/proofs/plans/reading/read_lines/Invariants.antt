use Rattle.std.proofs.Common.{◌≡◌, length, map, take}
use Rattle.std.specs.Str.Lines.{lines}
use Rattle.jdwp_attach.specs.PlanLines.{line_for, said_by}
use Rattle.jdwp_attach.specs.Plans.{read_well}
use Rattle.jdwp_attach.proofs.plans.reading.read_lines.Given as goal

abbrev pub invariant-loop-line : goal.invariant-loop-line
invariant-loop-line l = map (line_for l.command) (take (length l.yielded) (lines l.text)) ≡ map read_well (map said_by l.plan.items)
