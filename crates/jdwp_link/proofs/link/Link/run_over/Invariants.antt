use Rattle.std.proofs.Common.{◌≡◌, false, take, true}
use Rattle.jdwp_link.specs.Clauses.{Ran, RanOver}
use Rattle.jdwp_link.specs.Told.{event_meanings}
use Rattle.jdwp_link.proofs.link.Link.run_over.Given as goal

-- the events before this one are done
abbrev pub invariant-loop-place : goal.invariant-loop-place
invariant-loop-place g l =
    Ran g.M.Machine.meaning (take l.place (event_meanings l.events)) l.fn.self l.self l.outcomes.items
    × (g.W.Way.has_failed l.way ≡ false → RanOver g.M.Machine.meaning (take l.place (event_meanings l.events)) l.fn.self l.self (g.W.Way.story l.fn.way) (g.W.Way.story l.way))
    × (g.W.Way.has_failed l.fn.way ≡ true → l.way ≡ l.fn.way)
