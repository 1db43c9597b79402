use Rattle.std.proofs.Common.{[], length, take}
use Rattle.std.specs.Str.Lines.{lines}
use Rattle.jdwp_show.specs.declared.table.Table.{Table}
use Rattle.jdwp_show.specs.Transcripts.{Tells}
use Rattle.jdwp_judge.specs.LineJudges.{HasHeardLines, told_of}
use Rattle.jdwp_judge.proofs.capture.hear_lines.Given as goal

abbrev pub invariant-loop-line : goal.invariant-loop-line
invariant-loop-line l = record {
  heard : (table : Table) → HasHeardLines table l.fn.judge [] → HasHeardLines table l.judge (take (length l.yielded) (lines l.text));
  told_so : (table : Table) → HasHeardLines table l.fn.judge [] → Tells l.fn.lines (told_of table (take (length l.yielded) (lines l.text))) l.lines;
}
