use Rattle.std.proofs.Common.{Option, drop}
use Rattle.jdwp_answer.specs.declared.method.LineEntry.{LineEntry}
use Rattle.jdwp_answer.specs.Lines.{IsEntryAt, Nearest}
use Rattle.jdwp_answer.proofs.lines.entry_at.Given as goal

abbrev pub invariant-loop-entry : goal.invariant-loop-entry
invariant-loop-entry l = (r : Option LineEntry) → Nearest l.index l.best (drop l.entry-index l.entries) r → IsEntryAt l.index l.entries r
