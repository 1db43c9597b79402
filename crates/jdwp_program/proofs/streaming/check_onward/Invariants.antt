use Rattle.std.proofs.Common.{◌≡◌, ◌++◌, ℕ, List, length}
use Rattle.std.specs.Io.KnownBytes.{Consumes, Keeps}
use Rattle.jdwp_judge.specs.CaptureJudges.{HasHeardText}
use Rattle.jdwp_show.specs.declared.table.Table.{Table}
use Rattle.jdwp_program.proofs.streaming.check_onward.Given as goal

abbrev pub invariant-reads : goal.invariant-reads
invariant-reads g l = record {
  size : length l.block ≡ length l.fn.block;
  kept : Keeps (g.O.Write.contents l.fn.out) (g.O.Write.contents l.out);
  so_far : (table : Table) (text : List ℕ) → HasHeardText table l.fn.judge text → (read : List ℕ) × Consumes (g.I.Read.remaining l.fn.input) (g.I.Read.remaining l.input) read × HasHeardText table l.judge (text ++ read);
}
