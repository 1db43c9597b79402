use Rattle.std.proofs.Common.{ℕ, Option, drop}
use Rattle.jdwp_answer.specs.Lines.{BeginsAt, IsLeast, IsLeft}
use Rattle.jdwp_answer.proofs.method.LineTable.code_index_of.Given as goal

abbrev pub invariant-loop-entry : goal.invariant-loop-entry
invariant-loop-entry l = (r : Option ℕ) → IsLeast (IsLeft l.line l.least (drop l.entry-index l.self.lines.items)) r → BeginsAt l.line l.self.lines.items r
