-- What a plan waits for that stands still.
use Rattle.std.specs.Prelude.{ℕ, zero, suc, List, Option, None, Some}
use Rattle.std.specs.List.{slice_get}
use Rattle.jdwp_attach.specs.Lines.{Said}
use Rattle.jdwp_attach.specs.Lines.Said.{Ask, Answers, Events, Mirror, LoseTarget, LoseDebugger, Attach}
use Rattle.jdwp_plan.specs.declared.plan_line.PlanLine.{PlanLine}
use Rattle.jdwp_plan.specs.declared.plan_line.PlanLine.TheVariants as written
use Rattle.jdwp_program.specs.declared.awaiting.Awaited.{Awaited}
use Rattle.jdwp_program.specs.declared.awaiting.Awaited.TheVariants as awaited

-- what a line waits for; one that waits for nothing of its own still waits for the session to begin
abbrev pub awaited_by : Said → Awaited
awaited_by (Ask set number bytes) = awaited.Widths
awaited_by Answers = awaited.Answers
awaited_by (Events count) = awaited.Composites count
awaited_by Mirror = awaited.Widths
awaited_by LoseTarget = awaited.Widths
awaited_by LoseDebugger = awaited.Widths
awaited_by Attach = awaited.Ends

-- what this line waits for; behind the last one the answers are waited for
abbrev pub awaited_of : Option Said → Awaited
awaited_of None = awaited.LastAnswers
awaited_of (Some line) = awaited_by line

-- what the line at this place waits for, counted from 1; no line is the one before the first
abbrev pub awaited_at : List Said → ℕ → Awaited
awaited_at plan zero = awaited.LastAnswers
awaited_at plan (suc place) = awaited_of (slice_get plan place)

-- ---- plans in words

-- what a line waits for; one that waits for nothing of its own still waits for the session to begin
abbrev pub awaited_by_written : PlanLine → Awaited
awaited_by_written (written.Ask set number text) = awaited.Answers
awaited_by_written (written.Events count) = awaited.Composites count
awaited_by_written written.WaitEvent = awaited.NextComposite
awaited_by_written written.Nothing = awaited.Widths
awaited_by_written written.Version = awaited.Widths
awaited_by_written (written.Let name path) = awaited.Widths
awaited_by_written (written.Expect text) = awaited.Widths
awaited_by_written (written.ExpectHeld text) = awaited.Widths
awaited_by_written (written.ExpectFree text) = awaited.Widths
awaited_by_written (written.Timeout milliseconds) = awaited.Widths
awaited_by_written written.Mirror = awaited.Widths
awaited_by_written written.MayEnd = awaited.Widths

-- what this line waits for; none waits behind the last
abbrev pub awaited_of_written : Option PlanLine → Awaited
awaited_of_written None = awaited.LastAnswers
awaited_of_written (Some line) = awaited_by_written line

-- what the line at this place waits for, counted from 1; no line is the one before the first
abbrev pub awaited_at_written : List PlanLine → ℕ → Awaited
awaited_at_written plan zero = awaited.LastAnswers
awaited_at_written plan (suc place) = awaited_of_written (slice_get plan place)
