use Rattle.std.proofs.Common.{◌≡◌, ◌++◌, ℕ, List, Option, length}
use Rattle.std.specs.Io.KnownBytes.{Appends, Consumes}
use Rattle.jdwp_judge.specs.CaptureJudges.{HasHeardText, told_text}
use Rattle.jdwp_show.specs.declared.table.Table.{Table}
use Rattle.jdwp_program.proofs.streaming.show_onward.Given as goal

abbrev pub invariant-reads : goal.invariant-reads
invariant-reads g l = record {
  size : length l.block ≡ length l.fn.block;
  so_far : (table : Table) (text : List ℕ) → HasHeardText table l.fn.judge text → (read : List ℕ) × Consumes (g.I.Read.remaining l.fn.input) (g.I.Read.remaining l.input) read × HasHeardText table l.judge (text ++ read)
      × ((start : Option (List ℕ)) → Appends start (g.O.Write.contents l.fn.out) (told_text table text) → Appends start (g.O.Write.contents l.out) (told_text table (text ++ read)));
}
