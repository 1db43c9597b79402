-- Parts of an event, as the code makes them one after the other.
use Rattle.std.specs.Prelude.{◌≡◌, ◌+◌, ℕ, Bool, true, false, ◌&&◌, not, List, [], ◌∷◌, ◌++◌, Some, None, map}
use Rattle.jdwp_end.specs.Ends.{is_open}
use Rattle.jdwp_machine.specs.Meanings.{Meaning}
use Rattle.jdwp_action.specs.Actions.{Command}
use Rattle.jdwp_event.specs.Composites.{CompositeMeaning}
use Rattle.jdwp_debugger.specs.Asking.{HasAsked, refusal_of_ask}
use Rattle.jdwp_debugger.specs.Debuggers as debuggers
use Rattle.jdwp_debugger.specs.Debuggers.{Debugger, has_tickets, tickets_of}
use Rattle.jdwp_debugger.specs.DebuggerTurns as turns
use Rattle.jdwp_debugger.specs.DebuggerTurns.{Told}
use Rattle.jdwp_debugger.specs.declared.pending.Ticket.{Ticket}
use Rattle.jdwp_model.specs.Events
use Rattle.jdwp_model.specs.Events.{LinkEvent}
use Rattle.jdwp_link.specs.declared.events.Outcome.{Outcome}
use Rattle.jdwp_link.specs.declared.events.Outcome.TheVariants as outcome
use Rattle.jdwp_link.specs.Clauses.{Goes, MayStop}
use Rattle.jdwp_link.specs.Links.{Link, debugger_lost}

-- ---- an event

-- it goes, and what it tells is put behind what was told before
abbrev pub Tells : {S : Type 0} → Meaning S → LinkEvent → Link S → Link S → List Outcome → List Outcome → Type 0
Tells m e old new before after = (os : List Outcome) × (after ≡ before ++ os) × Goes m e old new os

-- it wants memory, and nothing has changed
abbrev pub Stops : {S : Type 0} → Meaning S → LinkEvent → Link S → Link S → List Outcome → List Outcome → Type 0
Stops m e old new before after = (new ≡ old) × (after ≡ before) × MayStop m old e

-- ---- a command

-- what asking a command tells, and what it leaves of a debugger
abbrev pub AsksSo : Command → Debugger → Outcome → Debugger → Type 0
AsksSo c old (outcome.Asked ticket) new = (refusal_of_ask old c ≡ None) × (ticket.0 ≡ old.tickets + 1) × HasAsked c old new
AsksSo c old (outcome.Refused refused) new = (refusal_of_ask old c ≡ Some refused) × (new ≡ old)
AsksSo c old (outcome.Answered ticket answer) new = ⊥
AsksSo c old (outcome.Lost ticket) new = ⊥
AsksSo c old (outcome.Seen composite) new = ⊥

-- ---- a turn of the debugger

-- what a turn tells
abbrev pub outcomes_of : Told → List Events.Outcome
outcomes_of turns.Nothing = []
outcomes_of turns.Hello = []
outcomes_of turns.Parked = []
outcomes_of (turns.Sizes composites) = map Events.Seen composites
outcomes_of (turns.Answered ticket answer) = Events.Answered ticket answer ∷ []
outcomes_of (turns.Seen composite) = Events.Seen composite ∷ []

-- whether it handled a message
abbrev pub told_did : Told → Bool
told_did turns.Nothing = false
told_did turns.Hello = true
told_did turns.Parked = true
told_did (turns.Sizes composites) = true
told_did (turns.Answered ticket answer) = true
told_did (turns.Seen composite) = true

-- these composites were read
abbrev pub seen_of : List CompositeMeaning → List Outcome
seen_of composites = map (λ (c : CompositeMeaning). outcome.Seen c) composites

-- ---- tickets that are lost

-- these tickets are lost
abbrev pub lost_of : List Ticket → List Outcome
lost_of tickets = map (λ (k : Ticket). outcome.Lost k) tickets

-- tickets wait at an end that closed
abbrev pub is_left : Debugger → Bool
is_left d = not (is_open d.end) && has_tickets d.pending

-- they are lost and told, and what waits to leave is kept
abbrev pub settled : {S : Type 0} → Bool → Link S → Link S
settled true l = record (debugger_lost l) { did = l.did }
settled false l = l

abbrev pub settled_debugger : Bool → Debugger → Debugger
settled_debugger true d = debuggers.lost_debugger (debuggers.with_taken d.end.outgoing d)
settled_debugger false d = d

abbrev pub settled_bytes : Bool → Debugger → List ℕ → List ℕ
settled_bytes true d kept = kept ++ d.end.outgoing
settled_bytes false d kept = kept

abbrev pub lost_where : Bool → Debugger → List Outcome
lost_where true d = lost_of (tickets_of d.pending)
lost_where false d = []
