use Rattle.std.proofs.Common.{length}
use Rattle.std.specs.Str.Lines.{lines}
use Rattle.jdwp_draw.proofs.SentLemmas.{AreSent}
use Rattle.jdwp_draw.proofs.sent.read_sent.Given as goal

-- what the lines so far say, and what is left
abbrev pub invariant-loop-line : goal.invariant-loop-line
invariant-loop-line l = AreSent (lines l.text) (length l.yielded) l.sent
