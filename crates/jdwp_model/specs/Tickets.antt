-- The commands that a debugger asked, by their tickets: which were settled, how often, and in which order.
use Rattle.std.specs.Prelude.{◌≡◌, ℕ, zero, suc, ◌+◌, ◌==◌, true, if◌then◌else◌, List, [], ◌∷◌, ◌++◌, Some, None}
use Rattle.jdwp_machine.specs.Meanings.{Meaning}
use Rattle.jdwp_debuggee.specs.Settings.{Settings}
use Rattle.jdwp_action.specs.Actions.{Command}
use Rattle.jdwp_mirror.specs.Messages.{Ticket}
use Rattle.jdwp_model.specs.Events
use Rattle.jdwp_model.specs.Events.{LinkEvent, Outcome, defer_nothing}
use Rattle.jdwp_model.specs.World.{Measure, opening}
use Rattle.jdwp_model.specs.Next.{run, outcomes}
use Rattle.jdwp_model.specs.Headline.{MayBegin}

-- the tickets that were answered or lost, in order
abbrev pub settled : List Outcome → List ℕ
settled [] = []
settled (Events.Answered k answer ∷ os) = k ∷ settled os
settled (Events.Lost k ∷ os) = k ∷ settled os
settled (o ∷ os) = settled os

-- the tickets of commands
abbrev pub tickets : List (Ticket × Command) → List ℕ
tickets [] = []
tickets ((Some k, c) ∷ ps) = k ∷ tickets ps
tickets ((None, c) ∷ ps) = tickets ps

-- the tickets from 1 to n
abbrev pub tickets_to : ℕ → List ℕ
tickets_to zero = []
tickets_to (suc n) = tickets_to n ++ suc n ∷ []

-- how often a ticket stands in a list
abbrev pub times : ℕ → List ℕ → ℕ
times k [] = 0
times k (j ∷ js) = (if j == k then 1 else 0) + times k js

-- Each ticket that was given is settled once or waits, and no other: each stands as often among those that were answered or lost, and
-- those that wait, as among all that were given.
abbrev pub SettlesOnce : {S : Type 0} → Meaning S → Type 0
SettlesOnce {S} m =
    (settings : Settings) (measure : Measure) (s : S) (events : List LinkEvent) (k : ℕ) → MayBegin m settings s →
    times k (settled (outcomes m settings measure (opening m s) events) ++ tickets (run m settings measure (opening m s) events).pending)
    ≡ times k (tickets_to (run m settings measure (opening m s) events).asked)

-- As long as no target begins to defer replies, each ticket is settled in the order in which tickets were given: those that were answered
-- or lost, and then those that wait, are all that were given.
abbrev pub SettlesInOrder : {S : Type 0} → Meaning S → Type 0
SettlesInOrder {S} m =
    (settings : Settings) (measure : Measure) (s : S) (events : List LinkEvent) → MayBegin m settings s → defer_nothing events ≡ true →
    settled (outcomes m settings measure (opening m s) events) ++ tickets (run m settings measure (opening m s) events).pending
    ≡ tickets_to (run m settings measure (opening m s) events).asked
