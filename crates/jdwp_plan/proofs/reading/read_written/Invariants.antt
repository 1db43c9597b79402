use Rattle.std.proofs.Common.{◌≡◌, length, map, take}
use Rattle.std.specs.Str.Lines.{lines}
use Rattle.jdwp_plan.specs.Lines.{line_of}
use Rattle.jdwp_plan.specs.Meanings.{said_by}
use Rattle.jdwp_plan.specs.Plans.{read_well}
use Rattle.jdwp_plan.proofs.reading.read_written.Given as goal

abbrev pub invariant-loop-line : goal.invariant-loop-line
invariant-loop-line l = map line_of (take (length l.yielded) (lines l.text)) ≡ map read_well (map said_by l.plan.items)
