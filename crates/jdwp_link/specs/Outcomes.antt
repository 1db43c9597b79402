-- What is told of runs, in the code's own types: each ticket is answered or lost once, and by the answer that the target gave; and what no
-- end meets.
use Rattle.std.specs.Prelude.{◌≡◌, ℕ, ◌+◌, List, [], ◌∷◌, ◌++◌, Err, map}
use Rattle.jdwp_end.specs.Ends.{front_of}
use Rattle.jdwp_layout.specs.declared.answer.Answer.{Answer}
use Rattle.jdwp_machine.specs.Meanings.{Meaning}
use Rattle.jdwp_target.specs.Targets.{Target}
use Rattle.jdwp_target.specs.Turns as target_turns
use Rattle.jdwp_target.specs.declared.target.TargetFault.{TargetFault}
use Rattle.jdwp_target.specs.declared.target.TargetFault.TheVariants as target_fault
use Rattle.jdwp_debugger.specs.Debuggers.{Debugger, tickets_of}
use Rattle.jdwp_debugger.specs.DebuggerTurns as debugger_turns
use Rattle.jdwp_debugger.specs.declared.faults.DebuggerFault.{DebuggerFault}
use Rattle.jdwp_debugger.specs.declared.faults.DebuggerFault.TheVariants as debugger_fault
use Rattle.jdwp_debugger.specs.declared.pending.Ticket.{Ticket}
use Rattle.jdwp_model.specs.Events.{LinkEvent}
use Rattle.jdwp_model.specs.Given.{IsIn, given_answers}
use Rattle.jdwp_model.specs.Next.{run}
use Rattle.jdwp_model.specs.Tickets.{tickets_to, times}
use Rattle.jdwp_model.specs.World.{opening}
use Rattle.jdwp_link.specs.declared.events.Outcome.{Outcome}
use Rattle.jdwp_link.specs.declared.events.Outcome.TheVariants as outcome
use Rattle.jdwp_link.specs.Clauses.{Ran, measure_of}
use Rattle.jdwp_link.specs.Links.{Link}
use Rattle.jdwp_link.specs.Stands.{IsLink, StandsFor}

-- ---- tickets

-- those that were answered or lost, in order
abbrev pub settled_in : List Outcome → List ℕ
settled_in [] = []
settled_in (outcome.Answered ticket answer ∷ os) = ticket.0 ∷ settled_in os
settled_in (outcome.Lost ticket ∷ os) = ticket.0 ∷ settled_in os
settled_in (outcome.Asked ticket ∷ os) = settled_in os
settled_in (outcome.Refused refused ∷ os) = settled_in os
settled_in (outcome.Seen composite ∷ os) = settled_in os

-- those that wait, in the order asked
abbrev pub waiting_at : Debugger → List ℕ
waiting_at d = map (λ (k : Ticket). k.0) (tickets_of d.pending)

-- Whatever happened to a link before: the tickets that a run of it settles and those that wait then are those that waited before and those
-- that were given in it, each as often. So from a new link on each ticket that was given was answered, or was lost, or waits, and once.
abbrev pub SettlesEachOnce : {S : Type 0} → Meaning S → Type 0
SettlesEachOnce {S} m =
    (es : List LinkEvent) (old new : Link S) (told : List Outcome) (k : ℕ) → IsLink m old → Ran m es old new told →
    times k (settled_in told ++ waiting_at new.debugger) + times k (tickets_to old.debugger.tickets)
    ≡ times k (waiting_at old.debugger) + times k (tickets_to new.debugger.tickets)

-- ---- answers

-- those that were told, by the ticket
abbrev pub answers_in : List Outcome → List (ℕ × Answer)
answers_in [] = []
answers_in (outcome.Answered ticket answer ∷ os) = (ticket.0, answer) ∷ answers_in os
answers_in (outcome.Lost ticket ∷ os) = answers_in os
answers_in (outcome.Asked ticket ∷ os) = answers_in os
answers_in (outcome.Refused refused ∷ os) = answers_in os
answers_in (outcome.Seen composite ∷ os) = answers_in os

-- Each answer that is told of a run is the one that the target gave to that ticket, in it or by the events before it.
abbrev pub TellsAsGiven : {S : Type 0} → Meaning S → Type 0
TellsAsGiven {S} m =
    (first : S) (before es : List LinkEvent) (old new : Link S) (told : List Outcome) (p : ℕ × Answer) →
    StandsFor m old (run m old.target.settings (measure_of m old) (opening m first) before) → Ran m es old new told →
    IsIn (answers_in told) p → IsIn (given_answers m old.target.settings (measure_of m old) (opening m first) (before ++ es)) p

-- ---- faults

-- A turn of either end at what stands in front of it can fail by want of memory alone.
pub record MeetsNoFault {S : Type 0} (m : Meaning S) (l : Link S) : Type 0 where
  pub target : (fault : TargetFault) (after : Target S) → target_turns.TurnsAt m (front_of l.target.end) l.target (Err fault) after → fault ≡ target_fault.NoMemory
  pub debugger : (fault : DebuggerFault) (after : Debugger) → debugger_turns.TurnsAt (front_of l.debugger.end) l.debugger (Err fault) after → fault ≡ debugger_fault.NoMemory
