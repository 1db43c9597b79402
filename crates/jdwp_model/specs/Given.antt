-- What the target answered, by the ticket.
use Rattle.std.specs.Prelude.{◌≡◌, ◌≤◌, ℕ, ◌⊎◌, Bool, true, false, List, [], ◌∷◌, ◌++◌, Option, Some, None}
use Rattle.jdwp_layout.specs.declared.answer.Answer.{Answer}
use Rattle.jdwp_end.specs.declared.phase.Phase.{Phase}
use Rattle.jdwp_end.specs.declared.phase.Phase.TheVariants.{Established}
use Rattle.jdwp_machine.specs.Meanings.{Meaning}
use Rattle.jdwp_debuggee.specs.Settings.{Settings}
use Rattle.jdwp_action.specs.Actions.{Command}
use Rattle.jdwp_debuggee.specs.Effects.{effect}
use Rattle.jdwp_mirror.specs.Messages.{Ticket, Call, Asks}
use Rattle.jdwp_model.specs.Events
use Rattle.jdwp_model.specs.Events.{LinkEvent, Outcome}
use Rattle.jdwp_model.specs.World.{Measure, World, opening}
use Rattle.jdwp_model.specs.Tickets.{times}
use Rattle.jdwp_model.specs.Next.{defers, target_front, release_front, next, outcomes}

-- the answer to a command that is carried out, as the debuggee is then
abbrev pub gives_command : {S : Type 0} → Meaning S → Settings → World S → Ticket → Command → List (ℕ × Answer)
gives_command m settings w None c = []
gives_command m settings w (Some k) c = (k, (effect m settings w.now c).answer) ∷ []

-- and none yet to one that is deferred
abbrev pub gives_or : {S : Type 0} → Meaning S → Settings → World S → Ticket → Command → Bool → List (ℕ × Answer)
gives_or m settings w k c true = []
gives_or m settings w k c false = gives_command m settings w k c

abbrev pub gives_call : {S : Type 0} → Meaning S → Settings → World S → Phase → Call → List (ℕ × Answer)
gives_call m settings w Established (Asks k c) = gives_or m settings w k c (defers w c)
gives_call m settings w phase call = []

abbrev pub gives_front : {S : Type 0} → Meaning S → Settings → World S → Option (Call × List Call) → List (ℕ × Answer)
gives_front m settings w None = []
gives_front m settings w (Some (call, rest)) = gives_call m settings w w.target call

abbrev pub gives_released : {S : Type 0} → Meaning S → Settings → World S → Option ((Ticket × Command) × List (Ticket × Command)) → List (ℕ × Answer)
gives_released m settings w None = []
gives_released m settings w (Some ((k, c), rest)) = gives_command m settings w k c

abbrev pub gives : {S : Type 0} → Meaning S → Settings → Measure → World S → LinkEvent → List (ℕ × Answer)
gives m settings measure w Events.TargetTurn = gives_front m settings w (target_front settings measure w)
gives m settings measure w (Events.Release place) = gives_released m settings w (release_front settings measure w place)
gives m settings measure w e = []

-- all that the target answered in a run
abbrev pub given_answers : {S : Type 0} → Meaning S → Settings → Measure → World S → List LinkEvent → List (ℕ × Answer)
given_answers m settings measure w [] = []
given_answers m settings measure w (e ∷ es) = gives m settings measure w e ++ given_answers m settings measure (next m settings measure w e).0 es

-- the answers that the debugger told
abbrev pub told_answers : List Outcome → List (ℕ × Answer)
told_answers [] = []
told_answers (Events.Answered k answer ∷ os) = (k, answer) ∷ told_answers os
told_answers (o ∷ os) = told_answers os

abbrev pub IsIn : List (ℕ × Answer) → ℕ × Answer → Type 0
IsIn [] p = ⊥
IsIn (q ∷ qs) p = (q ≡ p) ⊎ IsIn qs p

-- Each answer that the debugger tells of a ticket is the one that the target gave when it carried out the command of that ticket: as it
-- handled it, or, where it deferred it, as it released it.
abbrev pub TellsWhatWasGiven : {S : Type 0} → Meaning S → Type 0
TellsWhatWasGiven {S} m =
    (settings : Settings) (measure : Measure) (s : S) (events : List LinkEvent) (p : ℕ × Answer) →
    IsIn (told_answers (outcomes m settings measure (opening m s) events)) p → IsIn (given_answers m settings measure (opening m s) events) p

-- the tickets of answers
abbrev pub answer_tickets : List (ℕ × Answer) → List ℕ
answer_tickets [] = []
answer_tickets (p ∷ ps) = p.0 ∷ answer_tickets ps

-- No ticket is given two answers.
abbrev pub GivesOnce : {S : Type 0} → Meaning S → Type 0
GivesOnce {S} m =
    (settings : Settings) (measure : Measure) (s : S) (events : List LinkEvent) (k : ℕ) → times k (answer_tickets (given_answers m settings measure (opening m s) events)) ≤ 1
