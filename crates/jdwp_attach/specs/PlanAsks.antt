-- What a debugger puts for the steps of a run of a plan: the packets of the commands that they ask.
use Rattle.std.specs.Prelude.{◌≡◌, ◌⊎◌, ℕ, ◌+◌, ◌<◌, ◌^◌, true, List, [], ◌∷◌, ◌++◌, Option, Some, None, is_some, Result, Ok, Err}
use Rattle.std.specs.List.{AllByRecursion}
use Rattle.jdwp_wire.specs.declared.data_fault.DataFault.{DataFault}
use Rattle.jdwp_wire.specs.Frames.{header_bytes}
use Rattle.jdwp_wire.specs.Widths.{Widths}
use Rattle.jdwp_layout.specs.CommandTable.{row_at}
use Rattle.jdwp_layout.specs.Meanings.{DatumMeaning}
use Rattle.jdwp_layout.specs.Reads.{data_at}
use Rattle.jdwp_layout.specs.Rows.{Row, RowShapes}
use Rattle.jdwp_end.specs.declared.phase.Phase.TheVariants.{AwaitingHandshake, Established}
use Rattle.jdwp_action.specs.Actions.{Command, Content, Raw}
use Rattle.jdwp_debugger.specs.Asking.{command_bytes, id_after}
use Rattle.jdwp_debugger.specs.Debuggers.{Asked, Debugger}
use Rattle.jdwp_debugger.specs.DebuggerTurns.{sizes_header}
use Rattle.jdwp_attach.specs.declared.plans.plan_line.PlanLine.{PlanLine}
use Rattle.jdwp_attach.specs.declared.plans.plan_line.PlanLine.TheVariants as line
use Rattle.jdwp_attach.specs.OwnCounts.{Step, Line, Count, suspend_count}

-- ---- the command of a line

-- the data of a command, where the request's layout reads them
abbrev pub content_asked : ℕ → ℕ → Result (List DatumMeaning) DataFault → Option Command
content_asked set number (Ok content) = Some (record { set = set; number = number; carried = Content content })
content_asked set number (Err fault) = None

abbrev pub shapes_asked : Widths → ℕ → ℕ → List ℕ → Option RowShapes → Option Command
shapes_asked w set number bytes None = Some (record { set = set; number = number; carried = Raw bytes })
shapes_asked w set number bytes (Some shapes) = content_asked set number (data_at w shapes.request bytes)

abbrev pub row_asked : Widths → ℕ → ℕ → List ℕ → Option Row → Option Command
row_asked w set number bytes None = Some (record { set = set; number = number; carried = Raw bytes })
row_asked w set number bytes (Some row) = shapes_asked w set number bytes row.shapes

-- The command that a line asks: its bytes are read by the layout of the request, or stay as they are where it has none. None where they
-- do not read.
abbrev pub command_asked : Widths → ℕ → ℕ → List ℕ → Option Command
command_asked w set number bytes = row_asked w set number bytes (row_at set number)

-- ---- how many commands are asked

-- so many commands a line asks
abbrev pub asks_of : PlanLine → ℕ
asks_of (line.Ask set number bytes) = 1
asks_of other = 0

abbrev pub step_asks : Step → ℕ
step_asks (Line line) = asks_of line
step_asks (Count thread) = 1

-- so many these steps ask
abbrev pub asks : List Step → ℕ
asks [] = 0
asks (step ∷ steps) = step_asks step + asks steps

-- ---- what is put

-- The n-th id from the first on. After 2^32 of them an id may still wait for its reply, and is passed over.
abbrev pub IsNthId : ℕ → ℕ → ℕ → Type 0
IsNthId first n id = n < 2 ^ 32 → id ≡ id_after first n

-- What is put for a line: the packet of the command that it asks, in ids so wide, under the n-th id; and nothing where it asks none.
abbrev pub PutsLine : Widths → ℕ → ℕ → PlanLine → List ℕ → Type 0
PutsLine w first n (line.Ask set number carried) bytes =
    (id : ℕ) × (command : Command) × IsNthId first n id × (command_asked w set number carried.items ≡ Some command) × (bytes ≡ command_bytes w id command)
PutsLine w first n other bytes = bytes ≡ []

-- and for a step: that of the count that the engine asks for
abbrev pub PutsStep : Widths → ℕ → ℕ → Step → List ℕ → Type 0
PutsStep w first n (Line line) bytes = PutsLine w first n line bytes
PutsStep w first n (Count thread) bytes = (id : ℕ) × IsNthId first n id × (bytes ≡ command_bytes w id (suspend_count thread))

-- the same of steps, one after the other, each under the next id
abbrev pub PutsSteps : Widths → ℕ → ℕ → List Step → List ℕ → Type 0
PutsSteps w first n [] bytes = bytes ≡ []
PutsSteps w first n (step ∷ steps) bytes =
    (front : List ℕ) × (rest : List ℕ) × PutsStep w first n step front × PutsSteps w first (n + step_asks step) steps rest × (bytes ≡ front ++ rest)

-- Behind what it had put as the session began, a debugger put IDSizes under the id that was next then, and behind it what these steps
-- ask, under the ids that follow, and nothing else.
abbrev pub HasPut : Widths → List Step → Debugger → Debugger → Type 0
HasPut w steps base d =
    (bytes : List ℕ) × PutsSteps w base.next_id 1 steps bytes × (d.end.session.enqueued ≡ base.end.session.enqueued ++ (header_bytes (sizes_header base.next_id) ++ bytes))

-- no step was made, and nothing was put
abbrev pub HasPutNone : List Step → Debugger → Debugger → Type 0
HasPutNone steps base d = (steps ≡ []) × (d.end.session.enqueued ≡ base.end.session.enqueued)

-- What was asked since the session began is what these steps ask: as many tickets were given, and it is what was put, behind IDSizes. Before
-- the target's handshake was read nothing is.
abbrev pub HasAskedSteps : List Step → Debugger → Debugger → Type 0
HasAskedSteps steps base d = (d.tickets ≡ base.tickets + asks steps) × (HasPutNone steps base d ⊎ ((w : Widths) × HasPut w steps base d))

-- the plan begins with these lines
abbrev pub IsBeginning : List PlanLine → List PlanLine → Type 0
IsBeginning done plan = (rest : List PlanLine) × (plan ≡ done ++ rest)

-- ---- how far a session is

-- the target's handshake was not read, and nothing was put
abbrev pub AwaitsHello : List Step → Debugger → Debugger → Type 0
AwaitsHello steps base d =
    HasPutNone steps base d × (d.end.phase ≡ AwaitingHandshake) × (d.sizes ≡ None) × (d.pending ≡ []) × (d.next_id ≡ base.next_id)

-- it was, and IDSizes alone was put, which waits for its reply
abbrev pub AwaitsSizes : List Step → Debugger → Debugger → Type 0
AwaitsSizes steps base d =
    (steps ≡ []) × (d.end.session.enqueued ≡ base.end.session.enqueued ++ header_bytes (sizes_header base.next_id)) × (d.sizes ≡ None)
    × ((asked : Asked) × (asked.ticket ≡ None) × (d.pending ≡ asked ∷ [])) × (d.next_id ≡ id_after base.next_id 1)

-- so many ids were given from the first on: the next is the one behind them, and what waits for its reply has one of them
abbrev pub CountsIds : ℕ → ℕ → Debugger → Type 0
CountsIds first n d =
    n < 2 ^ 32 → (d.next_id ≡ id_after first n) × AllByRecursion (λ (p : Asked). (k : ℕ) × (k < n) × (p.id ≡ id_after first k)) d.pending

-- the widths of ids are known: what these steps ask was put, and each command that waits for its reply has a ticket
abbrev pub KnowsSizes : List Step → Debugger → Debugger → Type 0
KnowsSizes steps base d =
    (w : Widths) × (d.sizes ≡ Some w) × HasPut w steps base d × (d.end.phase ≡ Established) × AllByRecursion (λ (p : Asked). is_some p.ticket ≡ true) d.pending
    × CountsIds base.next_id (asks steps + 1) d

-- one of the three
abbrev pub Stands : List Step → Debugger → Debugger → Type 0
Stands steps base d = AwaitsHello steps base d ⊎ (AwaitsSizes steps base d ⊎ KnowsSizes steps base d)
