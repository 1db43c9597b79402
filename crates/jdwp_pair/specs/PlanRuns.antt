-- A run of a plan, round by round, and how it ends.
use Rattle.std.specs.Prelude.{◌≡◌, ◌⊎◌, ℕ, ◌≤◌, ◌+◌, min, nat_le, Bool, true, false, ◌&&◌, not, List, [], ◌∷◌, length}
use Rattle.jdwp_machine.specs.Meanings.{Meaning}
use Rattle.jdwp_debuggee.specs.Settings.{Settings}
use Rattle.jdwp_debuggee.specs.State.{new_state}
use Rattle.jdwp_debugger.specs.declared.order.Order.{Order}
use Rattle.jdwp_debugger.specs.Debuggers.{has_tickets}
use Rattle.jdwp_model.specs.Events.{Attach, Defer, TargetLoses}
use Rattle.jdwp_link.specs.Clauses.{HoldsSuspended}
use Rattle.jdwp_link.specs.Links.{Link, new_link}
use Rattle.jdwp_end.specs.Story.{FailsFlush, Story, flushed}
use Rattle.jdwp_attach.specs.declared.plans.plan_line.PlanLine.{PlanLine}
use Rattle.jdwp_pair.specs.declared.ended.PairEnded.{PairEnded}
use Rattle.jdwp_pair.specs.declared.ended.PairEnded.TheVariants as ended
use Rattle.jdwp_pair.specs.Events.{Happens, MayLose, Standing}
use Rattle.jdwp_pair.specs.Lines.{EndsLosing, LosesDebugger}
use Rattle.jdwp_pair.specs.Rounds.{EndsRound, IsRound}

-- ---- rounds

-- before the first round of a run that prints to this, whose target is taken to send in this order
abbrev pub beginning : {S : Type 0} → Order → Link S → Story → Standing S
beginning order l out = record { link = l; carried = 0; begun = false; read = 0; out = out; order = order }

-- The plan is finished: all lines were carried out, once lines may be, and no command waits for its answer.
abbrev pub is_finished : {S : Type 0} → List PlanLine → Standing S → Bool
is_finished plan s = s.begun && (nat_le (length plan) s.carried && not (has_tickets s.link.debugger.pending))

-- so many rounds, one behind the other: something happened in each, and behind none of them the plan was finished
pub data Rounds {S : Type 0} (m : Meaning S) (plan : List PlanLine) (first : Standing S) : ℕ → Standing S → Type 0 where
  NoRound : Rounds m plan first 0 first
  Another : (n : ℕ) (old new : Standing S) → Rounds m plan first n old → IsRound m plan old true new → is_finished plan new ≡ false → Rounds m plan first (n + 1) new

-- ---- how a run ends behind them

-- How losing both ends comes out, the debugger first: they lost the connection, and the tickets that are lost were printed; or it failed at
-- the debugger, or behind it at the target.
abbrev pub LosesBoth : {S : Type 0} → Meaning S → PairEnded → Link S → Story → Link S → Story → Type 0
LosesBoth {S} m ended.Done old before new after = (mid : Link S) × LosesDebugger m old before mid after × Happens m TargetLoses mid new
LosesBoth {S} m ended.NoMemory old before new after =
    EndsLosing m ended.NoMemory old before new after ⊎ ((mid : Link S) × LosesDebugger m old before mid after × MayLose m mid new)
LosesBoth {S} m ended.LostConnection old before new after =
    EndsLosing m ended.LostConnection old before new after ⊎ ((mid : Link S) × LosesDebugger m old before mid after × MayLose m mid new)
LosesBoth m ended.LostByWrite old before new after = EndsLosing m ended.LostByWrite old before new after
LosesBoth m (ended.RefusedLine place number) old before new after = ⊥
LosesBoth m ended.TurnLimit old before new after = ⊥
LosesBoth m (ended.Standstill waits) old before new after = ⊥

-- a round finished the plan, and both ends lose the connection
abbrev pub Finishes : {S : Type 0} → Meaning S → List PlanLine → PairEnded → Standing S → Link S → Story → Type 0
Finishes {S} m plan how old new after =
    (last : Standing S) × IsRound m plan old true last × (is_finished plan last ≡ true) × LosesBoth m how last.link last.out new after

-- How a run of at most `limit` rounds ends behind so many: all rounds were used; nothing happened in the next one, and the line behind those
-- that were carried out waits, counted from 1; or the next one ends it, or finishes the plan.
abbrev pub EndsBehind : {S : Type 0} → Meaning S → List PlanLine → ℕ → ℕ → PairEnded → Standing S → Link S → Story → Type 0
EndsBehind m plan limit rounds ended.TurnLimit old new after = (rounds ≡ limit) × (new ≡ old.link) × (after ≡ old.out)
EndsBehind {S} m plan limit rounds (ended.Standstill waits) old new after =
    (last : Standing S) × IsRound m plan old false last × (new ≡ last.link) × (after ≡ last.out) × (waits ≡ min last.carried (length plan) + 1)
EndsBehind m plan limit rounds how old new after = EndsRound m plan how old new after ⊎ Finishes m plan how old new after

pub record Ends {S : Type 0} (m : Meaning S) (plan : List PlanLine) (limit : ℕ) (how : PairEnded) (first : Standing S) (new : Link S) (after : Story) : Type 0 where
  pub rounds : ℕ
  pub within : rounds ≤ limit
  pub last : Standing S
  pub reached : Rounds m plan first rounds last
  pub ends : EndsBehind m plan limit rounds how last new after

-- how a run ends whose last flush failed: a refusal is told as one, and so is a connection that failed
abbrev pub unflushed_end : PairEnded → PairEnded
unflushed_end (ended.RefusedLine place number) = ended.RefusedLine place number
unflushed_end ended.LostConnection = ended.LostConnection
unflushed_end ended.Done = ended.LostByWrite
unflushed_end ended.LostByWrite = ended.LostByWrite
unflushed_end ended.NoMemory = ended.LostByWrite
unflushed_end ended.TurnLimit = ended.LostByWrite
unflushed_end (ended.Standstill waits) = ended.LostByWrite

-- A run of a plan: a session begins, and rounds follow, of which this is told.
abbrev pub RunsPlan : {S : Type 0} → Meaning S → Order → List PlanLine → ℕ → PairEnded → Link S → Story → Link S → Story → Type 0
RunsPlan {S} m order plan limit how old before new after = (first : Link S) × Happens m Attach old first × Ends m plan limit how (beginning order first before) new after

-- The same, and what was printed leaves; or the last flush fails.
pub data PairsBy {S : Type 0} (m : Meaning S) (order : Order) (plan : List PlanLine) (limit : ℕ) (old : Link S) (before : Story) (new : Link S) : PairEnded → Story → Type 0 where
  Leaves : (how : PairEnded) (printed : Story) → RunsPlan m order plan limit how old before new printed → PairsBy m order plan limit old before new how (flushed printed)
  Stays : (how : PairEnded) (printed after : Story) → RunsPlan m order plan limit how old before new printed → FailsFlush printed after
      → PairsBy m order plan limit old before new (unflushed_end how) after

-- The same of a link before its first session, whose target defers replies from the beginning or answers each command at once. Whom the link's
-- debugger shows as suspended is suspended at the end.
abbrev pub PairsNewBy : {S : Type 0} → Meaning S → Settings → Bool → Order → S → List PlanLine → ℕ → PairEnded → Story → Story → Type 0
PairsNewBy {S} m settings defer order machine plan limit ended before after =
    (begun : Link S) × (new : Link S) × Happens m (Defer defer) (new_link settings (record { state = new_state (m.live machine); machine = machine })) begun
    × PairsBy m order plan limit begun before new ended after × HoldsSuspended new

-- the same, of some number of rounds, whatever was printed before
abbrev pub PairsNew : {S : Type 0} → Meaning S → Settings → Bool → Order → S → List PlanLine → PairEnded → Type 0
PairsNew m settings defer order machine plan ended = (limit : ℕ) × (before : Story) × (after : Story) × PairsNewBy m settings defer order machine plan limit ended before after
