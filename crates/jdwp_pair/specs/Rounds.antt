-- A round: the next line of the plan, where it is due; the target handles what comes to it; where it handled nothing, the newest deferred
-- command is released, or where none is deferred each live thread steps; and the debugger handles what comes to it.
use Rattle.std.specs.Prelude.{◌≡◌, ◌⊎◌, ℕ, ◌+◌, ◌-◌, ◌^◌, nat_le, nat_lt, Bool, true, false, ◌||◌, List, [], ◌∷◌, length, Option, Some, None, is_some}
use Rattle.jdwp_wire.specs.Streams as streams
use Rattle.jdwp_end.specs.Ends.{is_open, room_of}
use Rattle.jdwp_machine.specs.Meanings.{Meaning}
use Rattle.jdwp_debugger.specs.declared.order.Order.{Order}
use Rattle.jdwp_model.specs.Events
use Rattle.jdwp_link.specs.declared.events.Outcome.{Outcome}
use Rattle.jdwp_link.specs.Clauses.{Ran}
use Rattle.jdwp_link.specs.Links.{Link}
use Rattle.jdwp_engine.specs.Rounds.{IsNext}
use Rattle.jdwp_end.specs.Story.{FailsWrite, Story, with_written}
use Rattle.jdwp_attach.specs.declared.plans.plan_line.PlanLine.{PlanLine}
use Rattle.jdwp_pair.specs.declared.ended.PairEnded.{PairEnded}
use Rattle.jdwp_pair.specs.declared.ended.PairEnded.TheVariants as ended
use Rattle.jdwp_pair.specs.Events.{Happens, Leads, MayCount, Moves, Quietly, Reads, Standing, Stays, piece}
use Rattle.jdwp_pair.specs.Lines.{EndsAtNext, TakesLine}
use Rattle.jdwp_pair.specs.Telling.{turn_text}

-- ---- again and again

-- it did something, so often, one time after the other
pub data Repeats {A : Type 0} (Does : A → Bool → A → Type 0) (first : A) : ℕ → A → Type 0 where
  NotYet : Repeats Does first 0 first
  OneMore : (n : ℕ) (old new : A) → Repeats Does first n old → Does old true new → Repeats Does first (n + 1) new

-- so often at most: no program lives that long
abbrev pub most_times : ℕ
most_times = 2 ^ 64 - 1

-- It is done until it does nothing: whether it did something before.
pub record Until {A : Type 0} (Does : A → Bool → A → Type 0) (old : A) (did : Bool) (new : A) : Type 0 where
  pub times : ℕ
  pub last : A
  pub repeats : Repeats Does old times last
  pub ends : Does last false new ⊎ ((times ≡ most_times) × (new ≡ last))
  pub whether : did ≡ nat_lt 0 times

-- ---- the target

-- a piece of the bytes under way comes to it: whether it was a whole one
abbrev pub PieceToTarget : {S : Type 0} → Meaning S → Link S → Bool → Link S → Type 0
PieceToTarget m old whole new = Quietly m (Events.ToTarget piece) old new × (whole ≡ nat_le piece (room_of old.target.end - room_of new.target.end))

-- All bytes under way come to it, or as many as it has room for: pieces of them, until one is not whole.
abbrev pub ComesToTarget : {S : Type 0} → Meaning S → Link S → Link S → Type 0
ComesToTarget m old new = (some : Bool) × Until (PieceToTarget m) old some new

-- they come, and it handles what is in front of it: whether it handled a message
abbrev pub TurnsTarget : {S : Type 0} → Meaning S → Link S → Bool → Link S → Type 0
TurnsTarget {S} m old handled new = (fed : Link S) × ComesToTarget m old fed × Quietly m Events.TargetTurn fed new × (handled ≡ new.did)

-- ---- the machine

-- From the last one on, each thread that lives then makes a step, by rising id: those that a step starts are among them where their ids are
-- higher, those that it ends are not. Whether one of them was made.
pub data StepsEach {S : Type 0} (m : Meaning S) : Option ℕ → Link S → Bool → Link S → Type 0 where
  Over : (last : Option ℕ) (l : Link S) → IsNext (m.live l.target.moment.machine) last None → StepsEach m last l false l
  Steps : (last : Option ℕ) (old mid new : Link S) (thread : ℕ) (more : Bool) → IsNext (m.live old.target.moment.machine) last (Some thread)
      → Quietly m (Events.Step thread) old mid → StepsEach m (Some thread) mid more new → StepsEach m last old (mid.did || more) new

-- The newest of these deferred commands is released; where there is none, each live thread makes a step. Whether something was done.
abbrev pub ReleasesOrSteps : {S : Type 0} → Meaning S → List streams.Message → Link S → Bool → Link S → Type 0
ReleasesOrSteps m [] old did new = StepsEach m None old did new
ReleasesOrSteps m (oldest ∷ later) old did new = Quietly m (Events.Release (length later)) old new × (did ≡ new.did)

-- that comes where the target handled no message
abbrev pub MovesOn : {S : Type 0} → Meaning S → Bool → Link S → Bool → Link S → Type 0
MovesOn m true old did new = (did ≡ true) × (new ≡ old)
MovesOn m false old did new = ReleasesOrSteps m old.target.deferred old did new

-- The target handles messages until there is none, and the machine moves on where there was none. Whether something was done.
abbrev pub RunsMachine : {S : Type 0} → Meaning S → Link S → Bool → Link S → Type 0
RunsMachine {S} m old did new = (handled : Bool) × (mid : Link S) × Until (TurnsTarget m) old handled mid × MovesOn m handled mid did new

-- ---- the debugger

abbrev pub PieceToDebugger : {S : Type 0} → Meaning S → Link S → Bool → Link S → Type 0
PieceToDebugger m old whole new = Quietly m (Events.ToDebugger piece) old new × (whole ≡ nat_le piece (room_of old.debugger.end - room_of new.debugger.end))

abbrev pub ComesToDebugger : {S : Type 0} → Meaning S → Link S → Link S → Type 0
ComesToDebugger m old new = (some : Bool) × Until (PieceToDebugger m) old some new

-- behind a turn that handled a message a count may be asked
abbrev pub MayCountWhere : {S : Type 0} → Meaning S → Bool → Standing S → Standing S → Type 0
MayCountWhere {S} m true read new = (counted : Link S) × MayCount m read.order read.link counted × (new ≡ record read { link = counted })
MayCountWhere m false read new = new ≡ read

-- bytes come, and it handles what is in front of it, and it is told: whether it handled a message
abbrev pub ReadsWhatComes : {S : Type 0} → Meaning S → Standing S → Bool → Standing S → Type 0
ReadsWhatComes {S} m old handled new = (fed : Link S) × ComesToDebugger m old.link fed × Reads m (record old { link = fed }) handled new

-- it does, and then a count may be asked
abbrev pub TurnsDebugger : {S : Type 0} → Meaning S → Standing S → Bool → Standing S → Type 0
TurnsDebugger {S} m old handled new = (read : Standing S) × ReadsWhatComes m old handled read × MayCountWhere m handled read new

-- ---- a round

-- from now on lines may be carried out, where the widths of ids are known
abbrev pub begun_where : {S : Type 0} → Standing S → Standing S
begun_where s = record s { begun = s.begun || is_some s.link.debugger.sizes }

-- Whether something happened in it: a line was carried out, an end handled a message, a command was released or a step was made.
pub record IsRound {S : Type 0} (m : Meaning S) (plan : List PlanLine) (old : Standing S) (happened : Bool) (new : Standing S) : Type 0 where
  pub taken : Bool
  pub named : Standing S
  pub takes : TakesLine m plan old taken named
  pub moved : Bool
  pub stepped : Link S
  pub machine : RunsMachine m named.link moved stepped
  pub handled : Bool
  pub last : Standing S
  pub debugger : Until (TurnsDebugger m) (record named { link = stepped }) handled last
  pub whether : happened ≡ (taken || (moved || handled))
  pub left : new ≡ begun_where last

-- ---- a round that does not come to its end

-- How a run may end at an event of a round: the turn of the debugger, which was in a session, read that it is over, and that was told; an
-- allocation was refused or the connection failed, and nothing was told; or a write failed of what was told.
abbrev pub EndsTurn : {S : Type 0} → Meaning S → PairEnded → Standing S → Link S → Story → Type 0
EndsTurn m ended.Done old new after =
    (is_open old.link.debugger.end ≡ true)
    × ((told : List Outcome) × Ran m (Events.DebuggerTurn ∷ []) old.link new told × (is_open new.debugger.end ≡ false) × (after ≡ with_written (turn_text new.debugger told) old.out))
EndsTurn m ended.LostByWrite old new after =
    (told : List Outcome) × Ran m (Events.DebuggerTurn ∷ []) old.link new told × FailsWrite old.out after (turn_text new.debugger told)
EndsTurn m ended.NoMemory old new after = (Stays m old.link new ⊎ Happens m Events.DebuggerTurn old.link new) × (after ≡ old.out)
EndsTurn m ended.LostConnection old new after = (Stays m old.link new ⊎ Happens m Events.DebuggerTurn old.link new) × (after ≡ old.out)
EndsTurn m (ended.RefusedLine place number) old new after = ⊥
EndsTurn m ended.TurnLimit old new after = ⊥
EndsTurn m (ended.Standstill waits) old new after = ⊥

-- it does so behind other events
abbrev pub EndsMoving : {S : Type 0} → Meaning S → PairEnded → Standing S → Link S → Story → Type 0
EndsMoving {S} m how old new after = (last : Standing S) × Leads m old last × EndsTurn m how last new after

-- A round that ends the run: at its line, or behind it.
abbrev pub EndsRound : {S : Type 0} → Meaning S → List PlanLine → PairEnded → Standing S → Link S → Story → Type 0
EndsRound {S} m plan how old new after =
    EndsAtNext m plan how old new after ⊎ ((taken : Bool) × (named : Standing S) × TakesLine m plan old taken named × EndsMoving m how named new after)

-- ---- calls

-- how an event of which nothing is told may end a run
abbrev pub FailsToMove : PairEnded → Type 0
FailsToMove ended.NoMemory = Unit {0}
FailsToMove ended.LostConnection = Unit {0}
FailsToMove ended.LostByWrite = ⊥
FailsToMove (ended.RefusedLine place number) = ⊥
FailsToMove ended.Done = ⊥
FailsToMove ended.TurnLimit = ⊥
FailsToMove (ended.Standstill waits) = ⊥

-- it did, behind others
abbrev pub EndsQuietly : {S : Type 0} → Meaning S → PairEnded → Link S → Link S → Type 0
EndsQuietly m how old new = FailsToMove how × Moves m old new

-- how asking a count may: memory was wanting before it was asked, or behind it
abbrev pub StopsCounting : {S : Type 0} → Meaning S → Order → Link S → Link S → Type 0
StopsCounting {S} m order old new = (counted : Link S) × MayCount m order old counted × Stays m counted new

-- how an event may
abbrev pub EndsAt : {S : Type 0} → Meaning S → Events.LinkEvent → PairEnded → Link S → Link S → Type 0
EndsAt m event ended.NoMemory old new = Stays m old new
EndsAt m event ended.LostConnection old new = Stays m old new ⊎ Happens m event old new
EndsAt m event ended.LostByWrite old new = ⊥
EndsAt m event (ended.RefusedLine place number) old new = ⊥
EndsAt m event ended.Done old new = ⊥
EndsAt m event ended.TurnLimit old new = ⊥
EndsAt m event (ended.Standstill waits) old new = ⊥

-- where steps may be left to make
abbrev pub StepsUntil : {S : Type 0} → Meaning S → Link S → Bool → Option ℕ → Link S → Type 0
StepsUntil {S} m first made last now = (more : Bool) (new : Link S) → StepsEach m last now more new → StepsEach m None first (made || more) new
