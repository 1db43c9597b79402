use Rattle.std.proofs.Common.{ℕ, List}
use Rattle.std.specs.Io.KnownBytes.{Appends}
use Rattle.jdwp_program.specs.Outputs.{shown_texts}
use Rattle.jdwp_files.proofs.recording.record_at.Given as goal

abbrev pub invariant-sessions : goal.invariant-sessions
invariant-sessions g l = (captures : List (List ℕ)) × Appends (g.O.Write.contents l.fn.out) (g.O.Write.contents l.out) (shown_texts captures)
