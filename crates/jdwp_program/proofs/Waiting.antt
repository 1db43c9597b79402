-- The line of a plan that waits.
use Rattle.std.proofs.Common.{◌≡◌, ◌≤◌, ℕ, suc, List, Some, length, map, refl}
use Rattle.std.specs.List.{slice_get}
use Rattle.std.proofs.lemmas.Option.{slice_get-map, slice_get_past}
use Rattle.jdwp_attach.specs.PlanLines.{said_by}
use Rattle.jdwp_attach.specs.declared.plans.plan_line.PlanLine.{PlanLine}
use Rattle.jdwp_plan.specs.declared.plan_line.PlanLine.{PlanLine as WrittenLine}
use Rattle.jdwp_program.specs.Awaiting.{awaited_at, awaited_at_written, awaited_by, awaited_by_written}
use Rattle.jdwp_program.specs.declared.awaiting.Awaited.TheVariants as awaited

-- the line stands there
pub awaited_there : (plan : List PlanLine) (number place : ℕ) (line : PlanLine) → number ≡ suc place → slice_get plan place ≡ Some line → awaited_at (map said_by plan) number ≡ awaited_by (said_by line)
awaited_there plan number place line is there = rw (is, slice_get-map said_by plan place, there) refl

-- the plan has no such line
pub awaited_behind : (plan : List PlanLine) (number place : ℕ) → number ≡ suc place → length plan ≤ place → awaited_at (map said_by plan) number ≡ awaited.LastAnswers
awaited_behind plan number place is past = rw (is, slice_get-map said_by plan place, slice_get_past plan place past) refl

-- the same of a plan in words
pub written_there : (plan : List WrittenLine) (number place : ℕ) (line : WrittenLine) → number ≡ suc place → slice_get plan place ≡ Some line → awaited_at_written plan number ≡ awaited_by_written line
written_there plan number place line is there = rw (is, there) refl

pub written_behind : (plan : List WrittenLine) (number place : ℕ) → number ≡ suc place → length plan ≤ place → awaited_at_written plan number ≡ awaited.LastAnswers
written_behind plan number place is past = rw (is, slice_get_past plan place past) refl
