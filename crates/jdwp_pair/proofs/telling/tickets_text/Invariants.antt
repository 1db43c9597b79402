use Rattle.std.proofs.Common.{◌≡◌, take}
use Rattle.std.specs.String.{string_bytes}
use Rattle.jdwp_pair.specs.Telling.{lost_text}
use Rattle.jdwp_pair.proofs.telling.tickets_text.Given as goal

-- the lines of those so far
abbrev pub invariant-loop-outcome : goal.invariant-loop-outcome
invariant-loop-outcome l = string_bytes l.text ≡ lost_text (take l.outcome-index l.outcomes)
