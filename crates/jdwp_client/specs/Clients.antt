-- A client of a session, and what its calls do. What follows says of any call which steps led from the client before it to the one after
-- it; of the debugger's steps `DebuggerTurns` and `Asking` of jdwp_debugger say what they do (JDWP specification, "JDWP Overview").
use Rattle.std.specs.Prelude.{◌≡◌, ◌≢◌, ◌⊎◌, ℕ, ◌+◌, ◌-◌, ◌^◌, ◌≤◌, ◌==◌, Bool, true, false, List, [], ◌∷◌, ◌++◌, length, Option, Some, None, is_none, Ok, Err}
use Rattle.std.specs.List.{flat_map, list_any, position}
use Rattle.jdwp_wire.specs.Streams.{More, IsFront}
use Rattle.jdwp_end.specs.Ends.{front_of, is_open, room_of}
use Rattle.jdwp_action.specs.Actions.{Command}
use Rattle.jdwp_event.specs.Composites.{CompositeMeaning}
use Rattle.jdwp_layout.specs.declared.answer.Answer.{Answer}
use Rattle.jdwp_end.specs.Story.{FailsFlush, FailsRead, FailsWrite, Story, flushed, with_read, with_written}
use Rattle.jdwp_debugger.specs.declared.asking.Refused.TheVariants as refusal
use Rattle.jdwp_debugger.specs.declared.faults.DebuggerFault.{DebuggerFault}
use Rattle.jdwp_debugger.specs.declared.faults.DebuggerFault.TheVariants as faults
use Rattle.jdwp_debugger.specs.declared.pending.Ticket.{Ticket}
use Rattle.jdwp_debugger.specs.declared.turning.Read.{Read}
use Rattle.jdwp_debugger.specs.Asking.{HasAsked, refusal_of_ask}
use Rattle.jdwp_debugger.specs.Debuggers.{Debugger, Unanswered, lost_debugger, tickets_of, unanswered, with_fed, with_taken}
use Rattle.jdwp_debugger.specs.DebuggerTurns.{Told, TurnsAt, read_meaning}
use Rattle.jdwp_client.specs.declared.errors.Awaited.{Awaited}
use Rattle.jdwp_client.specs.declared.errors.ClientError.{ClientError}
use Rattle.jdwp_client.specs.declared.errors.ClientError.TheVariants as error
use Rattle.jdwp_client.specs.declared.errors.Loss.TheVariants.{ByRead, ByWrite}
use Rattle.jdwp_client.specs.Errors.{IsToldOf}
use Rattle.jdwp_client.specs.Keeping.{HandsOut, answers_in, composites_in, is_full, is_under}
use Rattle.jdwp_client.specs.Turning.{unread}

-- The debugger and its pipe; the composites and the answers that were told and not handed out, each in the order told; the ticket of the last command
-- that was put; the tickets that were neither answered nor lost as the session ended, once it has; and how many
-- composites may be kept.
pub record Client (P : Type 0) : Type 0 where
  pub debugger : Debugger
  pub pipe : P
  pub events : List CompositeMeaning
  pub answers : List (Ticket × Answer)
  pub sent : Option Ticket
  pub lost : Option (List Ticket)
  pub most_events : ℕ

-- ---- steps

abbrev pub moved : {P : Type 0} → Debugger → P → Client P → Client P
moved d pipe c = record c { debugger = d; pipe = pipe }

-- the debugger loses the connection, and the session is over: what is kept stays
abbrev pub ended : {P : Type 0} → Client P → Client P
ended c = record c { debugger = lost_debugger c.debugger; lost = Some (tickets_of c.debugger.pending) }

-- the same where the session is over
abbrev pub ended_where : {P : Type 0} → Bool → Client P → Client P
ended_where true c = c
ended_where false c = ended c

abbrev pub settled : {P : Type 0} → Client P → Client P
settled c = ended_where (is_open c.debugger.end) c

-- and where a turn failed so
abbrev pub failed_by : {P : Type 0} → ClientError → Client P → Client P
failed_by (error.Fault fault) c = ended c
failed_by e c = c

-- what a turn told is kept, behind what was kept before, in order
abbrev pub with_told : {P : Type 0} → Told → Debugger → Client P → Client P
with_told told d c = record c { debugger = d; events = c.events ++ composites_in told; answers = c.answers ++ answers_in told }

-- nothing else than the debugger and what is kept has changed
abbrev pub IsTurned : {P : Type 0} → Client P → Client P → Type 0
IsTurned old new = new ≡ record old { debugger = new.debugger; events = new.events; answers = new.answers }

-- All that waited to leave was written, and has left.
pub record Puts {P : Type 0} (story : P → Story) (old new : Client P) : Type 0 where
  pub pipe : story new.pipe ≡ flushed (with_written old.debugger.end.outgoing (story old.pipe))
  pub is : new ≡ moved (with_taken old.debugger.end.outgoing old.debugger) new.pipe old

-- So many steps of a wait, and what the turns among them told. A step is made only where the session is open and what is waited for is missing,
-- and begins as what waits to leave is written and leaves. Bytes are read only where nothing whole has come. A session that a turn closed is over.
pub data Waits {P : Type 0} (story : P → Story) (is_missing : Client P → Bool) (base : Client P) : ℕ → List Told → Client P → Type 0 where
  Begins : Waits story is_missing base 0 [] base
  Writes : (n : ℕ) (told : List Told) (old new : Client P) → Waits story is_missing base n told old → is_missing old ≡ true → is_open old.debugger.end ≡ true
      → Puts story old new → Waits story is_missing base (n + 1) told new
  Turns : (n : ℕ) (told : List Told) (old mid : Client P) (read : Read) (d : Debugger) → Waits story is_missing base n told old → is_missing old ≡ true
      → is_open old.debugger.end ≡ true → Puts story old mid → TurnsAt (front_of mid.debugger.end) mid.debugger (Ok read) d
      → Waits story is_missing base (n + 1) (told ++ read_meaning read ∷ []) (settled (with_told (read_meaning read) d mid))
  Reads : (n : ℕ) (told : List Told) (old mid : Client P) (bytes : List ℕ) (pipe : P) → Waits story is_missing base n told old → is_missing old ≡ true
      → is_open old.debugger.end ≡ true → Puts story old mid → front_of mid.debugger.end ≡ More → length bytes ≤ room_of mid.debugger.end
      → story pipe ≡ with_read bytes (story mid.pipe)
      → Waits story is_missing base (n + 1) told (moved (with_fed bytes (unread mid.debugger)) pipe mid)

-- the composites and the answers that turns told, in order
abbrev pub composites_told : List Told → List CompositeMeaning
composites_told told = flat_map composites_in told

abbrev pub answers_told : List Told → List (Ticket × Answer)
answers_told told = flat_map answers_in told

-- What is kept behind the steps of a wait is what was kept before them, and then what was told in them: each once, in the order told, and
-- nothing else.
pub record KeepsTold {P : Type 0} (base : Client P) (told : List Told) (new : Client P) : Type 0 where
  pub events : new.events ≡ base.events ++ composites_told told
  pub answers : new.answers ≡ base.answers ++ answers_told told

-- so many such steps led to this client, and some did
abbrev pub WaitsIn : {P : Type 0} → (P → Story) → (Client P → Bool) → Client P → ℕ → Client P → Type 0
WaitsIn {P} story is_missing base n new = (told : List Told) × Waits story is_missing base n told new

abbrev pub WaitsTo : {P : Type 0} → (P → Story) → (Client P → Bool) → Client P → Client P → Type 0
WaitsTo {P} story is_missing base new = (n : ℕ) × WaitsIn story is_missing base n new

-- how many steps a wait may take
abbrev pub MOST_STEPS : ℕ
MOST_STEPS = 2 ^ 64 - 1

-- ---- how calls fail

-- The session ended, since the connection was lost: a read failed where nothing whole had come; or a write, of a beginning of what waited to
-- leave, or the flush behind all of it.
abbrev pub LosesByRead : {P : Type 0} → (P → Story) → Client P → Client P → Type 0
LosesByRead {P} story old new = (front_of old.debugger.end ≡ More) × FailsRead (story old.pipe) (story new.pipe) × (new ≡ ended (moved (unread old.debugger) new.pipe old))

abbrev pub FailsPut : Story → Story → List ℕ → List ℕ → Type 0
FailsPut old new taken outgoing = (IsFront taken outgoing × FailsWrite old new taken) ⊎ ((taken ≡ outgoing) × FailsFlush (with_written outgoing old) new)

pub record PutsPart {P : Type 0} (story : P → Story) (old new : Client P) : Type 0 where
  pub taken : List ℕ
  pub fails : FailsPut (story old.pipe) (story new.pipe) taken old.debugger.end.outgoing
  pub is : new ≡ moved (with_taken taken old.debugger) new.pipe old

abbrev pub LosesByWrite : {P : Type 0} → (P → Story) → Client P → Client P → Type 0
LosesByWrite {P} story old new = (mid : Client P) × PutsPart story old mid × (new ≡ ended mid)

-- The session ended, since a turn refused what the target sent.
abbrev pub Refuses : {P : Type 0} → DebuggerFault → Client P → Client P → Type 0
Refuses {P} fault old new =
    (fault ≢ faults.NoMemory) × ((d : Debugger) × TurnsAt (front_of old.debugger.end) old.debugger (Err fault) d × (new ≡ ended (moved d old.pipe old)))

-- A step failed in this way, where it was made: what waited to leave was written before a turn or a read.
abbrev pub StepFails : {P : Type 0} → (P → Story) → ClientError → Client P → Client P → Type 0
StepFails {P} story (error.Fault fault) old new = (mid : Client P) × Puts story old mid × Refuses fault mid new
StepFails {P} story (error.Lost ByRead) old new = (mid : Client P) × Puts story old mid × LosesByRead story mid new
StepFails {P} story (error.Lost ByWrite) old new = LosesByWrite story old new
StepFails {P} story e old new = ⊥

-- Why a wait ended without what was waited for, and what it left: the session stays open where memory, room or steps ran out; where it is
-- over, it was so before, or by a step that failed.
abbrev pub Stops : {P : Type 0} → (P → Story) → (Client P → Bool) → Client P → ClientError → Client P → Type 0
Stops {P} story is_missing base error.NoMemory new = WaitsTo story is_missing base new
Stops {P} story is_missing base error.TooManySteps new = WaitsIn story is_missing base MOST_STEPS new
Stops {P} story is_missing base error.TooManyEvents new = WaitsTo story is_missing base new × (is_full new.most_events new.events ≡ true)
Stops {P} story is_missing base error.Closed new = WaitsTo story is_missing base new × (is_missing new ≡ true) × (is_open new.debugger.end ≡ false)
Stops {P} story is_missing base (error.Refused refused) new = ⊥
Stops {P} story is_missing base (error.NotWaiting ticket) new = ⊥
Stops {P} story is_missing base e new = (old : Client P) × WaitsTo story is_missing base old × (is_missing old ≡ true) × StepFails story e old new

-- what one step does to a wait for anything that is missing, whatever steps it made before
abbrev pub GoesOn : {P : Type 0} → (P → Story) → Client P → Client P → Type 0
GoesOn {P} story old new =
    (is_missing : Client P → Bool) (base : Client P) (n : ℕ) → is_missing old ≡ true → WaitsIn story is_missing base n old → WaitsIn story is_missing base (n + 1) new

abbrev pub EndsWait : {P : Type 0} → (P → Story) → Client P → ClientError → Client P → Type 0
EndsWait {P} story old e new =
    (is_missing : Client P → Bool) (base : Client P) (n : ℕ) → is_missing old ≡ true → WaitsIn story is_missing base n old → Stops story is_missing base e new

-- the same of the part of a step behind what it wrote first
abbrev pub GoesOnBehind : {P : Type 0} → (P → Story) → Client P → Client P → Type 0
GoesOnBehind {P} story mid new = (old : Client P) → is_open old.debugger.end ≡ true → Puts story old mid → GoesOn story old new

abbrev pub EndsBehind : {P : Type 0} → (P → Story) → Client P → ClientError → Client P → Type 0
EndsBehind {P} story mid e new = (old : Client P) → is_open old.debugger.end ≡ true → Puts story old mid → EndsWait story old e new

-- bytes were read, for which there was room, and fed
pub record ReadsOnce {P : Type 0} (story : P → Story) (old new : Client P) : Type 0 where
  pub bytes : List ℕ
  pub few : length bytes ≤ room_of old.debugger.end
  pub pipe : story new.pipe ≡ with_read bytes (story old.pipe)
  pub is : new ≡ moved (with_fed bytes old.debugger) new.pipe old

-- ---- limits of time

-- the pipe was given a limit of time, or has none any more, and nothing went through it
abbrev pub IsLimited : {P : Type 0} → (P → Story) → Client P → Client P → Type 0
IsLimited {P} story old new = (story new.pipe ≡ story old.pipe) × (new ≡ moved old.debugger new.pipe old)

-- A call did this within a limit of time, which was given before and taken back behind it.
pub record Within {P : Type 0} (story : P → Story) (Does : Client P → Client P → Type 0) (old new : Client P) : Type 0 where
  pub first : Client P
  pub last : Client P
  pub begins : IsLimited story old first
  pub does : Does first last
  pub ends : IsLimited story last new

-- The same of one that failed, of which this was told.
abbrev pub FailsWithin : {P : Type 0} → (P → Story) → Awaited → (Client P → ClientError → Client P → Type 0) → Client P → ClientError → Client P → Type 0
FailsWithin {P} story awaited Fails old told new =
    (e : ClientError) × IsToldOf awaited e told × Within story (λ (first last : Client P). Fails first e last) old new

-- ---- what is asked

-- a command was put, under this ticket
abbrev pub asked_under : {P : Type 0} → ℕ → Debugger → Client P → Client P
asked_under ticket d c = record c { debugger = d; sent = Some (record { 0 = ticket }) }

-- A command was put, under the next ticket, and its packet waits to leave.
pub record Enqueues {P : Type 0} (command : Command) (ticket : ℕ) (old new : Client P) : Type 0 where
  pub unrefused : refusal_of_ask old.debugger command ≡ None
  pub ticket_is : ticket ≡ old.debugger.tickets + 1
  pub asked : Debugger
  pub has : HasAsked command old.debugger asked
  pub is : new ≡ asked_under ticket asked old

-- A command was put, and all that waited to leave was written, its packet last, and has left.
pub record Sends {P : Type 0} (story : P → Story) (command : Command) (ticket : ℕ) (old new : Client P) : Type 0 where
  pub unrefused : refusal_of_ask old.debugger command ≡ None
  pub ticket_is : ticket ≡ old.debugger.tickets + 1
  pub asked : Debugger
  pub has : HasAsked command old.debugger asked
  pub put : Puts story (asked_under ticket asked old) new

-- Why a command was not sent: this debugger refused it, or memory ran out, and nothing has changed; or the connection was lost.
abbrev pub FailsToSend : {P : Type 0} → (P → Story) → Command → Client P → ClientError → Client P → Type 0
FailsToSend {P} story command old (error.Refused refused) new = (refusal_of_ask old.debugger command ≡ Some refused) × (new ≡ old)
FailsToSend {P} story command old error.Closed new = (refusal_of_ask old.debugger command ≡ Some refusal.Closed) × (new ≡ old)
FailsToSend {P} story command old error.NoMemory new = (refusal_of_ask old.debugger command ≡ None) × (new ≡ old)
FailsToSend {P} story command old (error.Lost ByWrite) new = (d : Debugger) × HasAsked command old.debugger d × LosesByWrite story (asked_under d.tickets d old) new
FailsToSend {P} story command old e new = ⊥

-- ---- what is waited for

abbrev pub with_events : {P : Type 0} → List CompositeMeaning → Client P → Client P
with_events events c = record c { events = events }

abbrev pub with_answers : {P : Type 0} → List (Ticket × Answer) → Client P → Client P
with_answers answers c = record c { answers = answers }

-- no answer is kept under this ticket
abbrev pub lacks_answer : {P : Type 0} → ℕ → Client P → Bool
lacks_answer ticket c = is_none (position (is_under ticket) c.answers)

-- no composite is kept
abbrev pub lacks_events : {P : Type 0} → Client P → Bool
lacks_events c = length c.events == 0

-- none that passes is
abbrev pub lacks_event : {P : Type 0} → (CompositeMeaning → Bool) → Client P → Bool
lacks_event passes c = is_none (position passes c.events)

-- the widths of ids are not known
abbrev pub lacks_sizes : {P : Type 0} → Client P → Bool
lacks_sizes c = is_none c.debugger.sizes

-- The wait ended as this answer was kept under the ticket, or it was kept already, and it was handed out.
abbrev pub GivesAnswer : {P : Type 0} → (P → Story) → ℕ → Client P → Answer → Client P → Type 0
GivesAnswer {P} story ticket base answer new =
    (old : Client P) × WaitsTo story (lacks_answer ticket) base old × HandsOut (is_under ticket) old.answers (record { 0 = ticket }, answer) new.answers
    × (new ≡ with_answers new.answers old)

-- The same of the first composite that passes.
abbrev pub GivesEvent : {P : Type 0} → (P → Story) → (CompositeMeaning → Bool) → Client P → CompositeMeaning → Client P → Type 0
GivesEvent {P} story passes base c new =
    (old : Client P) × WaitsTo story (lacks_event passes) base old × HandsOut passes old.events c new.events × (new ≡ with_events new.events old)

-- The same of the first of all.
abbrev pub GivesFirst : {P : Type 0} → (P → Story) → Client P → CompositeMeaning → Client P → Type 0
GivesFirst {P} story base c new = (old : Client P) × WaitsTo story lacks_events base old × (old.events ≡ c ∷ new.events) × (new ≡ with_events new.events old)

-- a command waits for its answer under this ticket
abbrev pub is_waiting : {P : Type 0} → ℕ → Client P → Bool
is_waiting ticket c = list_any (λ (u : Unanswered). u.ticket == ticket) (unanswered c.debugger.pending)

-- A command was sent under the next ticket, and its answer was waited for.
abbrev pub AsksFor : {P : Type 0} → (P → Story) → Command → Client P → Answer → Client P → Type 0
AsksFor {P} story command old answer new =
    (mid : Client P) × Sends story command (old.debugger.tickets + 1) old mid × GivesAnswer story (old.debugger.tickets + 1) mid answer new

-- It was not sent; or it was, and the wait ended without its answer.
abbrev pub FailsToAsk : {P : Type 0} → (P → Story) → Command → Client P → ClientError → Client P → Type 0
FailsToAsk {P} story command old e new =
    FailsToSend story command old e new
    ⊎ ((mid : Client P) × Sends story command (old.debugger.tickets + 1) old mid × Stops story (lacks_answer (old.debugger.tickets + 1)) mid e new)

-- Nothing is kept under the ticket, and no command waits under it, or the session is over.
abbrev pub WaitsNot : {P : Type 0} → Ticket → Client P → ClientError → Type 0
WaitsNot ticket c (error.NotWaiting other) = (other ≡ ticket) × (lacks_answer ticket.0 c ≡ true) × (is_waiting ticket.0 c ≡ false)
WaitsNot ticket c error.Closed = (lacks_answer ticket.0 c ≡ true) × (is_waiting ticket.0 c ≡ false) × (is_open c.debugger.end ≡ false)
WaitsNot ticket c e = ⊥

-- Why no answer was waited for, or the wait ended without it.
abbrev pub FailsToWait : {P : Type 0} → (P → Story) → Ticket → Client P → ClientError → Client P → Type 0
FailsToWait {P} story ticket old (error.NotWaiting other) new = WaitsNot ticket old (error.NotWaiting other) × (new ≡ old)
FailsToWait {P} story ticket old e new = Stops story (lacks_answer ticket.0) old e new
