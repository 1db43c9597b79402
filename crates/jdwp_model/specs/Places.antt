-- Where the commands are that a debugger asked and that were not answered.
use Rattle.std.specs.Prelude.{◌≡◌, ◌≤◌, ℕ, ◌+◌, false, if◌then◌else◌, List, [], ◌∷◌}
use Rattle.jdwp_action.specs.Actions.{Command}
use Rattle.jdwp_mirror.specs.Messages.{Ticket, same_ticket, Call, Greets, Asks, Handshake, Reply, Report}
use Rattle.jdwp_model.specs.World.{is_closed, Packet, World}

-- the commands whose replies are under way
abbrev pub replies : {S : Type 0} → List (Packet S) → List (Ticket × Command)
replies [] = []
replies ((Reply k c x, a) ∷ ps) = (k, c) ∷ replies ps
replies ((Report c, a) ∷ ps) = replies ps
replies ((Handshake, a) ∷ ps) = replies ps

-- the commands that are under way
abbrev pub commands : List Call → List (Ticket × Command)
commands [] = []
commands (Asks k c ∷ cs) = (k, c) ∷ commands cs
commands (Greets ∷ cs) = commands cs

-- what all of them count for together
abbrev pub tally : (Ticket × Command → ℕ) → List (Ticket × Command) → ℕ
tally f [] = 0
tally f (p ∷ ps) = f p + tally f ps

abbrev pub one_of : Ticket → Ticket × Command → ℕ
one_of k p = if same_ticket p.0 k then 1 else 0

-- Of the commands whose replies are under way, the deferred ones and those that are under way themselves, no two have the same ticket.
abbrev pub EachAtOnePlace : {S : Type 0} → World S → Type 0
EachAtOnePlace w =
    (k : Ticket) → is_closed w.debugger ≡ false →
    tally (one_of k) (replies w.to_debugger) + (tally (one_of k) w.deferred + tally (one_of k) (commands w.to_target)) ≤ 1
