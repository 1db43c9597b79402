-- The events that a run of both ends is made of, and what they tell.
use Rattle.std.specs.Prelude.{◌≡◌, ◌⊎◌, ℕ, ◌≤◌, ◌+◌, ◌-◌, ◌^◌, min, Bool, true, false, List, [], ◌∷◌, Option, Some, None, count_by}
use Rattle.std.specs.List.{AllByRecursion}
use Rattle.jdwp_attach.specs.OwnCounts.{suspend_count}
use Rattle.jdwp_debugger.specs.declared.asking.Refused.{Refused}
use Rattle.jdwp_debugger.specs.declared.order.Order.{Order}
use Rattle.jdwp_debugger.specs.declared.order.Order.TheVariants.{One, Apart}
use Rattle.jdwp_machine.specs.Meanings.{Meaning}
use Rattle.jdwp_model.specs.Events
use Rattle.jdwp_model.specs.Events.{LinkEvent}
use Rattle.jdwp_link.specs.declared.events.Outcome.{Outcome}
use Rattle.jdwp_link.specs.declared.events.Outcome.TheVariants as outcome
use Rattle.jdwp_link.specs.Clauses.{Ran}
use Rattle.jdwp_link.specs.Links.{Link}
use Rattle.jdwp_end.specs.Story.{Story, with_written}
use Rattle.jdwp_pair.specs.Telling.{turn_text}

-- ---- what is told

abbrev pub is_seen : Outcome → Bool
is_seen (outcome.Seen composite) = true
is_seen (outcome.Asked ticket) = false
is_seen (outcome.Refused refused) = false
is_seen (outcome.Answered ticket answer) = false
is_seen (outcome.Lost ticket) = false

-- how many composites are told of
abbrev pub seen_in : List Outcome → ℕ
seen_in outcomes = count_by is_seen outcomes

-- the first refusal that is told of
abbrev pub refusal_in : List Outcome → Option Refused
refusal_in [] = None
refusal_in (outcome.Refused refused ∷ outcomes) = Some refused
refusal_in (outcome.Asked ticket ∷ outcomes) = refusal_in outcomes
refusal_in (outcome.Answered ticket answer ∷ outcomes) = refusal_in outcomes
refusal_in (outcome.Lost ticket ∷ outcomes) = refusal_in outcomes
refusal_in (outcome.Seen composite ∷ outcomes) = refusal_in outcomes

-- ---- events

-- so many bytes come to an end at once at most
abbrev pub piece : ℕ
piece = 4096

-- What happens in a round beside its line and the turns of the debugger: bytes come to an end, the target handles what is in front of it, a
-- deferred command is answered, a thread makes a step. Nothing is told of it.
abbrev pub IsQuiet : LinkEvent → Type 0
IsQuiet (Events.ToTarget count) = count ≤ piece
IsQuiet (Events.ToDebugger count) = count ≤ piece
IsQuiet Events.TargetTurn = Unit {0}
IsQuiet (Events.Step thread) = Unit {0}
IsQuiet (Events.Release place) = Unit {0}
IsQuiet Events.DebuggerTurn = ⊥
IsQuiet Events.Attach = ⊥
IsQuiet (Events.Ask command) = ⊥
IsQuiet Events.TargetLoses = ⊥
IsQuiet Events.DebuggerLoses = ⊥
IsQuiet (Events.Defer deferring) = ⊥

-- an end notices that the connection is lost
abbrev pub IsLoss : LinkEvent → Type 0
IsLoss Events.TargetLoses = Unit {0}
IsLoss Events.DebuggerLoses = Unit {0}
IsLoss Events.Attach = ⊥
IsLoss (Events.Ask command) = ⊥
IsLoss (Events.ToTarget count) = ⊥
IsLoss (Events.ToDebugger count) = ⊥
IsLoss Events.TargetTurn = ⊥
IsLoss Events.DebuggerTurn = ⊥
IsLoss (Events.Step thread) = ⊥
IsLoss (Events.Release place) = ⊥
IsLoss (Events.Defer deferring) = ⊥

-- ---- events one at a time

-- this event happened, and nothing is told of it
abbrev pub Quietly : {S : Type 0} → Meaning S → LinkEvent → Link S → Link S → Type 0
Quietly m e old new = Ran m (e ∷ []) old new []

-- such events lead from one link to the other
abbrev pub Moves : {S : Type 0} → Meaning S → Link S → Link S → Type 0
Moves m old new = (events : List LinkEvent) × AllByRecursion IsQuiet events × Ran m events old new []

-- no event happened
abbrev pub Stays : {S : Type 0} → Meaning S → Link S → Link S → Type 0
Stays m old new = (outcomes : List Outcome) × Ran m [] old new outcomes

-- this event happened
abbrev pub Happens : {S : Type 0} → Meaning S → LinkEvent → Link S → Link S → Type 0
Happens m e old new = (outcomes : List Outcome) × Ran m (e ∷ []) old new outcomes

-- losses happened, or none
abbrev pub MayLose : {S : Type 0} → Meaning S → Link S → Link S → Type 0
MayLose m old new = (events : List LinkEvent) × (outcomes : List Outcome) × AllByRecursion IsLoss events × Ran m events old new outcomes

-- ---- how a run stands

-- The link; how many lines of the plan were carried out; whether the widths of ids were known once, so that lines may be; how many composites
-- were read in the session, as far as they are counted; what was printed; and in which order the debugger takes the target to send.
pub record Standing (S : Type 0) : Type 0 where
  pub link : Link S
  pub carried : ℕ
  pub begun : Bool
  pub read : ℕ
  pub out : Story
  pub order : Order

-- so many are counted at most
abbrev pub counted : ℕ → ℕ
counted n = min n (2 ^ 64 - 1)

-- A turn of the debugger that told this: each composite of it counts, and each message has its line, and each ticket that is lost with it.
abbrev pub read_by : {S : Type 0} → List Outcome → Link S → Standing S → Standing S
read_by told new old = record old { link = new; read = counted (old.read + seen_in told); out = with_written (turn_text new.debugger told) old.out }

-- The debugger handles what is in front of it: whether it read a message. Where it read none, nothing is told.
abbrev pub Reads : {S : Type 0} → Meaning S → Standing S → Bool → Standing S → Type 0
Reads m old true new = (told : List Outcome) × Ran m (Events.DebuggerTurn ∷ []) old.link new.link told × (new.link.did ≡ true) × (new ≡ read_by told new.link old)
Reads m old false new = Happens m Events.DebuggerTurn old.link new.link × (new.link.did ≡ false) × (new ≡ record old { link = new.link })

-- Where the target is taken to send replies and events by threads of its own, the suspend count of a thread may be asked behind a turn.
abbrev pub MayCount : {S : Type 0} → Meaning S → Order → Link S → Link S → Type 0
MayCount m One old new = new ≡ old
MayCount m Apart old new = (new ≡ old) ⊎ ((thread : ℕ) × Happens m (Events.Ask (suspend_count thread)) old new)

-- Events of rounds lead from where one run stands to the other: those of which nothing is told, and turns of the debugger, with the counts
-- that are asked behind them.
pub data Leads {S : Type 0} (m : Meaning S) (first : Standing S) : Standing S → Type 0 where
  Rests : Leads m first first
  Moved : (old : Standing S) (new : Link S) → Leads m first old → Moves m old.link new → Leads m first (record old { link = new })
  Turned : (old new : Standing S) (handled : Bool) → Leads m first old → Reads m old handled new → Leads m first new
  AskedCount : (old : Standing S) (new : Link S) → Leads m first old → MayCount m old.order old.link new → Leads m first (record old { link = new })
