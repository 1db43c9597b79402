use Rattle.std.proofs.Common.{◌≤◌, length, take}
use Rattle.std.specs.Io.KnownBytes.{Appends}
use Rattle.jdwp_program.proofs.printing.print.Given as goal

abbrev pub invariant-writes : goal.invariant-writes
invariant-writes g l = (l.sent ≤ length l.text) × Appends (g.W.Write.contents l.fn.out) (g.W.Write.contents l.out) (take l.sent l.text)
