-- The lines of a plan: when one can be carried out, what it does, and how a run may end at it.
use Rattle.std.specs.Prelude.{◌≡◌, ◌⊎◌, ℕ, ◌+◌, nat_le, Bool, true, false, ◌&&◌, ◌||◌, not, List, [], ◌∷◌, Option, Some, None, is_some, slice_get}
use Rattle.jdwp_wire.specs.Widths.{Widths}
use Rattle.jdwp_end.specs.Ends.{is_open}
use Rattle.jdwp_machine.specs.Meanings.{Meaning}
use Rattle.jdwp_action.specs.Actions.{Command, Raw}
use Rattle.jdwp_debugger.specs.declared.asking.Refused.{Refused}
use Rattle.jdwp_debugger.specs.declared.asking.Refused.TheVariants as refusal
use Rattle.jdwp_debugger.specs.declared.order.Order.{Order}
use Rattle.jdwp_debugger.specs.declared.order.Order.TheVariants.{One, Apart}
use Rattle.jdwp_debugger.specs.Debuggers.{Debugger, has_tickets}
use Rattle.jdwp_debugger.specs.RefusedNumbers.{refused_number}
use Rattle.jdwp_model.specs.Events.{Attach, Ask, TargetLoses, DebuggerLoses}
use Rattle.jdwp_link.specs.declared.events.Outcome.{Outcome}
use Rattle.jdwp_link.specs.Clauses.{Ran}
use Rattle.jdwp_link.specs.Links.{Link}
use Rattle.jdwp_end.specs.Story.{FailsWrite, Story, with_written}
use Rattle.jdwp_attach.specs.declared.plans.plan_line.PlanLine.{PlanLine}
use Rattle.jdwp_attach.specs.declared.plans.plan_line.PlanLine.TheVariants as line
use Rattle.jdwp_attach.specs.PlanAsks.{command_asked}
use Rattle.jdwp_port.specs.Served.{lives}
use Rattle.jdwp_attach.specs.Telling.{TellsKnown, TellsMirror}
use Rattle.jdwp_pair.specs.declared.ended.PairEnded.{PairEnded}
use Rattle.jdwp_pair.specs.declared.ended.PairEnded.TheVariants as ended
use Rattle.jdwp_pair.specs.Events.{Happens, MayLose, Standing, Stays, refusal_in}
use Rattle.jdwp_pair.specs.Followers.{Follows}
use Rattle.jdwp_pair.specs.Telling.{lost_text}

-- ---- when a line can be carried out

-- The command that a line asks: its bytes are read in ids so wide, and stay as they are where the widths are not known.
abbrev pub command_by : Option Widths → ℕ → ℕ → List ℕ → Option Command
command_by (Some widths) set number bytes = command_asked widths set number bytes
command_by None set number bytes = Some (record { set = set; number = number; carried = Raw bytes })

-- A session may begin: both ends are closed, no command waits for its answer, and a thread of the machine lives.
abbrev pub may_begin : {S : Type 0} → Meaning S → Link S → Bool
may_begin m l =
    not (is_open l.target.end)
    && (not (is_open l.debugger.end) && (not (has_tickets l.debugger.pending) && lives m l.target))

-- Whether a line can be carried out, so many composites having been read in the session: `ask` where the widths of ids are known, or the
-- debugger is in no session; `answers` where no command waits for its answer; `events` where so many were read; `attach` where a session
-- may begin; `mirror` and a loss always.
abbrev pub is_due : {S : Type 0} → Meaning S → PlanLine → ℕ → Link S → Bool
is_due m (line.Ask set number bytes) read l = is_some l.debugger.sizes || not (is_open l.debugger.end)
is_due m line.Answers read l = not (has_tickets l.debugger.pending)
is_due m (line.Events count) read l = nat_le count read
is_due m line.Mirror read l = true
is_due m line.LoseTarget read l = true
is_due m line.LoseDebugger read l = true
is_due m line.Attach read l = may_begin m l

abbrev pub is_due_at : {S : Type 0} → Meaning S → Option PlanLine → Standing S → Bool
is_due_at m None s = false
is_due_at m (Some line) s = is_due m line s.read s.link

-- Whether the next line of the plan is carried out in a round that begins so: no line is before the widths of ids were known once.
abbrev pub next_is_due : {S : Type 0} → Meaning S → List PlanLine → Standing S → Bool
next_is_due m plan s = s.begun && is_due_at m (slice_get plan s.carried) s

-- ---- what a line does

-- a command was asked, and not refused
abbrev pub AsksFor : {S : Type 0} → Meaning S → Option Command → Link S → Link S → Type 0
AsksFor m None old new = ⊥
AsksFor m (Some command) old new = (outcomes : List Outcome) × Ran m (Ask command ∷ []) old new outcomes × (refusal_in outcomes ≡ None)

-- These lines tell what is known: those of the mirror; or where the target is taken to send replies and events by threads of its own, what is
-- surely so by all that the debugger put and read, as one that followed it knows.
abbrev pub TellsBy : {S : Type 0} → Meaning S → Order → Link S → List ℕ → Type 0
TellsBy m One l text = TellsMirror l.debugger.mirror text
TellsBy m Apart l text = (f : Debugger) × Follows m l f × TellsKnown f text

-- they were printed
abbrev pub PrintsKnown : {S : Type 0} → Meaning S → Order → Link S → Story → Story → Type 0
PrintsKnown m order l before after = (text : List ℕ) × TellsBy m order l text × (after ≡ with_written text before)

-- the debugger noticed that the connection is lost, and the tickets that are lost with it were printed
abbrev pub LosesDebugger : {S : Type 0} → Meaning S → Link S → Story → Link S → Story → Type 0
LosesDebugger m old before new after = (told : List Outcome) × Ran m (DebuggerLoses ∷ []) old new told × (after ≡ with_written (lost_text told) before)

-- what a line does to a link, and what is printed of it
abbrev pub CarriesOut : {S : Type 0} → Meaning S → Order → PlanLine → Link S → Story → Link S → Story → Type 0
CarriesOut m order (line.Ask set number bytes) old before new after = AsksFor m (command_by old.debugger.sizes set number bytes.items) old new × (after ≡ before)
CarriesOut m order line.Answers old before new after = (new ≡ old) × (after ≡ before)
CarriesOut m order (line.Events count) old before new after = (new ≡ old) × (after ≡ before)
CarriesOut m order line.Mirror old before new after = (new ≡ old) × PrintsKnown m order old before after
CarriesOut m order line.LoseTarget old before new after = Happens m TargetLoses old new × (after ≡ before)
CarriesOut m order line.LoseDebugger old before new after = LosesDebugger m old before new after
CarriesOut m order line.Attach old before new after = Happens m Attach old new × (after ≡ before)

-- of so many composites read so many are counted behind a line: none behind `attach`, where the session is new
abbrev pub counted_behind : PlanLine → ℕ → ℕ
counted_behind (line.Ask set number bytes) read = read
counted_behind line.Answers read = read
counted_behind (line.Events count) read = read
counted_behind line.Mirror read = read
counted_behind line.LoseTarget read = read
counted_behind line.LoseDebugger read = read
counted_behind line.Attach read = 0

-- how a run stands behind a line that left this
abbrev pub behind : {S : Type 0} → PlanLine → Link S → Story → Standing S → Standing S
behind line new after old = record old { link = new; carried = old.carried + 1; read = counted_behind line old.read; out = after }

-- The next line of the plan is carried out exactly where it is due: whether it was.
abbrev pub TakesLine : {S : Type 0} → Meaning S → List PlanLine → Standing S → Bool → Standing S → Type 0
TakesLine m plan old true new =
    (next_is_due m plan old ≡ true)
    × ((line : PlanLine) × (slice_get plan old.carried ≡ Some line) × CarriesOut m old.order line old.link old.out new.link new.out × (new ≡ behind line new.link new.out old))
TakesLine m plan old false new = (next_is_due m plan old ≡ false) × (new ≡ old)

-- ---- how a run may end at a line

-- a command is refused with this number, or there is none since the bytes do not read
abbrev pub RefusesCommand : {S : Type 0} → Meaning S → Option Command → ℕ → Link S → Link S → Type 0
RefusesCommand m None number old new = (number ≡ refused_number refusal.BadCommand) × (new ≡ old)
RefusesCommand m (Some command) number old new =
    (outcomes : List Outcome) × (refused : Refused) × Ran m (Ask command ∷ []) old new outcomes × (refusal_in outcomes ≡ Some refused) × (number ≡ refused_number refused)

abbrev pub RefusesLine : {S : Type 0} → Meaning S → PlanLine → ℕ → Link S → Link S → Type 0
RefusesLine m (line.Ask set number bytes) refused old new = RefusesCommand m (command_by old.debugger.sizes set number bytes.items) refused old new
RefusesLine m line.Answers refused old new = ⊥
RefusesLine m (line.Events count) refused old new = ⊥
RefusesLine m line.Mirror refused old new = ⊥
RefusesLine m line.LoseTarget refused old new = ⊥
RefusesLine m line.LoseDebugger refused old new = ⊥
RefusesLine m line.Attach refused old new = ⊥

-- a command was asked, refused or not
abbrev pub Asks : {S : Type 0} → Meaning S → Option Command → Link S → Link S → Type 0
Asks m None old new = ⊥
Asks m (Some command) old new = Happens m (Ask command) old new

-- the event of a line happened
abbrev pub Does : {S : Type 0} → Meaning S → PlanLine → Link S → Link S → Type 0
Does m (line.Ask set number bytes) old new = Asks m (command_by old.debugger.sizes set number bytes.items) old new
Does m line.Answers old new = ⊥
Does m (line.Events count) old new = ⊥
Does m line.Mirror old new = ⊥
Does m line.LoseTarget old new = Happens m TargetLoses old new
Does m line.LoseDebugger old new = Happens m DebuggerLoses old new
Does m line.Attach old new = Happens m Attach old new

-- these lines were printed in part, and then a write failed
abbrev pub FailsKnown : {S : Type 0} → Meaning S → Order → Link S → Story → Story → Type 0
FailsKnown m order l before after = (text : List ℕ) × TellsBy m order l text × FailsWrite before after text

-- the debugger noticed that the connection is lost, and a write failed of the tickets that are lost with it
abbrev pub FailsLost : {S : Type 0} → Meaning S → Link S → Story → Link S → Story → Type 0
FailsLost m old before new after = (told : List Outcome) × Ran m (DebuggerLoses ∷ []) old new told × FailsWrite before after (lost_text told)

-- a write failed of what a line prints
abbrev pub FailsLine : {S : Type 0} → Meaning S → Order → PlanLine → Link S → Story → Link S → Story → Type 0
FailsLine m order line.Mirror old before new after = (new ≡ old) × FailsKnown m order old before after
FailsLine m order line.LoseDebugger old before new after = FailsLost m old before new after
FailsLine m order (line.Ask set number bytes) old before new after = ⊥
FailsLine m order line.Answers old before new after = ⊥
FailsLine m order (line.Events count) old before new after = ⊥
FailsLine m order line.LoseTarget old before new after = ⊥
FailsLine m order line.Attach old before new after = ⊥

-- How a run may end at a line of this place, counted from 1: its command is refused; what it does failed or wanted memory, and nothing was
-- printed of it; or a write failed of what it prints.
abbrev pub EndsLine : {S : Type 0} → Meaning S → Order → PlanLine → ℕ → PairEnded → Link S → Story → Link S → Story → Type 0
EndsLine m order line place (ended.RefusedLine at number) old before new after = (at ≡ place) × RefusesLine m line number old new × (after ≡ before)
EndsLine m order line place ended.NoMemory old before new after = MayLose m old new × (after ≡ before)
EndsLine m order line place ended.LostConnection old before new after = (MayLose m old new ⊎ Does m line old new) × (after ≡ before)
EndsLine m order line place ended.LostByWrite old before new after = FailsLine m order line old before new after
EndsLine m order line place ended.Done old before new after = ⊥
EndsLine m order line place ended.TurnLimit old before new after = ⊥
EndsLine m order line place (ended.Standstill waits) old before new after = ⊥

-- it does at the next line, which is due
abbrev pub EndsAtNext : {S : Type 0} → Meaning S → List PlanLine → PairEnded → Standing S → Link S → Story → Type 0
EndsAtNext m plan how old new after =
    (next_is_due m plan old ≡ true) × ((line : PlanLine) × (slice_get plan old.carried ≡ Some line) × EndsLine m old.order line (old.carried + 1) how old.link old.out new after)

-- ---- calls

-- how asking the command of a line at this place may end a run
abbrev pub EndsAsking : {S : Type 0} → Meaning S → Option Command → ℕ → PairEnded → Link S → Link S → Type 0
EndsAsking m command place (ended.RefusedLine at number) old new = (at ≡ place) × RefusesCommand m command number old new
EndsAsking m command place ended.NoMemory old new = Stays m old new
EndsAsking m command place ended.LostConnection old new = Stays m old new ⊎ Asks m command old new
EndsAsking m command place ended.LostByWrite old new = ⊥
EndsAsking m command place ended.Done old new = ⊥
EndsAsking m command place ended.TurnLimit old new = ⊥
EndsAsking m command place (ended.Standstill waits) old new = ⊥

-- how printing what is known may
abbrev pub FailsToTellKnown : {S : Type 0} → Meaning S → Order → Link S → PairEnded → Story → Story → Type 0
FailsToTellKnown m order l ended.NoMemory before after = after ≡ before
FailsToTellKnown m order l ended.LostByWrite before after = FailsKnown m order l before after
FailsToTellKnown m order l ended.LostConnection before after = ⊥
FailsToTellKnown m order l ended.Done before after = ⊥
FailsToTellKnown m order l (ended.RefusedLine place number) before after = ⊥
FailsToTellKnown m order l ended.TurnLimit before after = ⊥
FailsToTellKnown m order l (ended.Standstill waits) before after = ⊥

-- how a loss at the debugger may
abbrev pub EndsLosing : {S : Type 0} → Meaning S → PairEnded → Link S → Story → Link S → Story → Type 0
EndsLosing m ended.NoMemory old before new after = MayLose m old new × (after ≡ before)
EndsLosing m ended.LostConnection old before new after = MayLose m old new × (after ≡ before)
EndsLosing m ended.LostByWrite old before new after = FailsLost m old before new after
EndsLosing m ended.Done old before new after = ⊥
EndsLosing m (ended.RefusedLine place number) old before new after = ⊥
EndsLosing m ended.TurnLimit old before new after = ⊥
EndsLosing m (ended.Standstill waits) old before new after = ⊥

-- how a loss at the target may
abbrev pub EndsLosingTarget : {S : Type 0} → Meaning S → PairEnded → Link S → Link S → Type 0
EndsLosingTarget m ended.NoMemory old new = MayLose m old new
EndsLosingTarget m ended.LostConnection old new = MayLose m old new
EndsLosingTarget m ended.LostByWrite old new = ⊥
EndsLosingTarget m ended.Done old new = ⊥
EndsLosingTarget m (ended.RefusedLine place number) old new = ⊥
EndsLosingTarget m ended.TurnLimit old new = ⊥
EndsLosingTarget m (ended.Standstill waits) old new = ⊥
