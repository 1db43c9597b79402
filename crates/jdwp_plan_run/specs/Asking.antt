-- The commands of lines `ask`, and what asking them does.
use Rattle.std.specs.Prelude.{◌≡◌, ◌≢◌, ◌⊎◌, ℕ, List, [], ◌∷◌, Option, Some, None, Ok}
use Rattle.jdwp_action.specs.Actions.{Carried, Command, Content, Raw}
use Rattle.jdwp_client.specs.declared.errors.Awaited.TheVariants as awaited
use Rattle.jdwp_client.specs.declared.errors.ClientError.{ClientError}
use Rattle.jdwp_client.specs.Clients.{AsksFor, Client, FailsToAsk, Stops, WaitsTo, lacks_sizes}
use Rattle.jdwp_end.specs.Story.{Story}
use Rattle.jdwp_layout.specs.declared.answer.Answer.{Answer}
use Rattle.jdwp_layout.specs.Meanings.{DatumMeaning}
use Rattle.jdwp_layout.specs.Rows.{RowShapes}
use Rattle.jdwp_layout.specs.Shapes.{ItemShape}
use Rattle.jdwp_plan.specs.Filling.{IsUnfilled, filled}
use Rattle.jdwp_show.specs.Data.{shapes_of}
use Rattle.jdwp_text.specs.Says.{Says}
use Rattle.jdwp_wire.specs.Widths.{Widths}
use Rattle.jdwp_plan_run.specs.declared.stop.LineRefusal.TheVariants as refusal
use Rattle.jdwp_plan_run.specs.declared.stop.Stop.{Stop}
use Rattle.jdwp_plan_run.specs.declared.stop.Stop.TheVariants as stop
use Rattle.jdwp_plan_run.specs.Calls.{Calls, FailsCall}

-- ---- the command of a line

-- The text with the values in it was wanting: a `$` has none, or memory was.
abbrev pub FillStops : List (List ℕ × List ℕ) → List ℕ → Stop → Type 0
FillStops values text (stop.Refused (refusal.Fill fault)) = IsUnfilled values text fault
FillStops values text stop.NoMemory = Unit {0}
FillStops values text s = ⊥

-- the text with the values in it, behind a space
abbrev pub IsSpaced : List (List ℕ × List ℕ) → List ℕ → List ℕ → Type 0
IsSpaced values text full = (rest : List ℕ) × (filled values text ≡ Ok rest) × (full ≡ 32 ∷ rest)

-- the data of a line are this text, each item behind a space
abbrev pub SaysData : List (List ℕ × List ℕ) → Option (List ℕ) → List ℕ → Type 0
SaysData values None full = full ≡ []
SaysData values (Some text) full = IsSpaced values text full

-- it was wanting
abbrev pub TextStops : List (List ℕ × List ℕ) → Option (List ℕ) → Stop → Type 0
TextStops values None s = ⊥
TextStops values (Some text) s = FillStops values text s

-- these data are shown as this text, in this layout, with ids of these widths
abbrev pub IsReadAs : Widths → List ItemShape → List ℕ → List DatumMeaning → Type 0
IsReadAs widths layout text items = (bytes : List ℕ) × Says widths layout text items bytes

-- the text is that of no data, or memory was wanting
abbrev pub IsNoData : Stop → Type 0
IsNoData (stop.Refused (refusal.Data fault)) = Unit {0}
IsNoData (stop.Refused refusal.NotText) = Unit {0}
IsNoData stop.NoMemory = Unit {0}
IsNoData s = ⊥

-- the data of a line are these
abbrev pub ReadsData : Widths → List ItemShape → List (List ℕ × List ℕ) → Option (List ℕ) → List DatumMeaning → Type 0
ReadsData widths layout values text items = (full : List ℕ) × SaysData values text full × IsReadAs widths layout full items

-- or it has none
abbrev pub DataStops : List (List ℕ × List ℕ) → Option (List ℕ) → Stop → Type 0
DataStops values text s = TextStops values text s ⊎ IsNoData s

-- The command carries the data that the line says, in the layout of its request; one whose data are not read carries none.
abbrev pub CarriesData : Widths → Option RowShapes → List (List ℕ × List ℕ) → Option (List ℕ) → Carried → Type 0
CarriesData widths None values text carried = (text ≡ None) × (carried ≡ Raw [])
CarriesData widths (Some shapes) values text carried = (items : List DatumMeaning) × ReadsData widths shapes.request values text items × (carried ≡ Content items)

abbrev pub shapes_at : ℕ → ℕ → Option RowShapes
shapes_at set number = shapes_of (record { set = set; number = number })

-- the command of the line `ask` of this set and number, with these data
abbrev pub IsCommand : Widths → List (List ℕ × List ℕ) → ℕ → ℕ → Option (List ℕ) → Command → Type 0
IsCommand widths values set number text command =
    (command.set ≡ set) × (command.number ≡ number) × CarriesData widths (shapes_at set number) values text command.carried

-- The line has no such command: its data are not read and it has some; or they are, and it has none.
abbrev pub CommandStopsBy : Option RowShapes → List (List ℕ × List ℕ) → Option (List ℕ) → Stop → Type 0
CommandStopsBy None values text s = (text ≢ None) × (s ≡ stop.Refused refusal.NoLayout)
CommandStopsBy (Some shapes) values text s = DataStops values text s

abbrev pub CommandStops : List (List ℕ × List ℕ) → ℕ → ℕ → Option (List ℕ) → Stop → Type 0
CommandStops values set number text s = CommandStopsBy (shapes_at set number) values text s

-- the session has begun, and the ids have these widths
abbrev pub Attaches : {P : Type 0} → (P → Story) → Widths → Client P → Client P → Type 0
Attaches story sizes old new = WaitsTo story lacks_sizes old new × (new.debugger.sizes ≡ Some sizes)

-- The command that a line says was asked, once the session had begun, and this was its answer.
pub record AsksLine {P : Type 0} (story : P → Story) (timeout : Option ℕ) (values : List (List ℕ × List ℕ)) (set number : ℕ) (text : Option (List ℕ)) (answer : Answer) (old new : Client P) : Type 0 where
  pub sizes : Widths
  pub ready : Client P
  pub begins : Calls story timeout (Attaches story sizes) old ready
  pub command : Command
  pub says : IsCommand sizes values set number text command
  pub answers : Calls story timeout (λ (a b : Client P). AsksFor story command a answer b) ready new

-- the same where the session has begun, and the ids have these widths
abbrev pub AsksReady : {P : Type 0} → (P → Story) → Option ℕ → Widths → List (List ℕ × List ℕ) → ℕ → ℕ → Option (List ℕ) → Answer → Client P → Client P → Type 0
AsksReady {P} story timeout sizes values set number text answer old new =
    (command : Command) × IsCommand sizes values set number text command × Calls story timeout (λ (a b : Client P). AsksFor story command a answer b) old new

-- the command was not answered
abbrev pub CallStops : {P : Type 0} → (P → Story) → Option ℕ → Command → Stop → Client P → Client P → Type 0
CallStops story timeout command (stop.Client e) old new = FailsCall story timeout awaited.Reply (FailsToAsk story command) old e new
CallStops story timeout command s old new = ⊥

-- there was none, and nothing has changed; or it was not answered
abbrev pub ReadyStops : {P : Type 0} → (P → Story) → Option ℕ → Widths → List (List ℕ × List ℕ) → ℕ → ℕ → Option (List ℕ) → Stop → Client P → Client P → Type 0
ReadyStops story timeout sizes values set number text s old new =
    (CommandStops values set number text s × (new ≡ old))
    ⊎ ((command : Command) × IsCommand sizes values set number text command × CallStops story timeout command s old new)

-- the session had begun, and no command was asked
abbrev pub RefusesAsk : {P : Type 0} → (P → Story) → Option ℕ → List (List ℕ × List ℕ) → ℕ → ℕ → Option (List ℕ) → Stop → Client P → Client P → Type 0
RefusesAsk story timeout values set number text s old new = (sizes : Widths) × Calls story timeout (Attaches story sizes) old new × CommandStops values set number text s

-- the command was asked, and was not answered
pub record AsksInVain {P : Type 0} (story : P → Story) (timeout : Option ℕ) (values : List (List ℕ × List ℕ)) (set number : ℕ) (text : Option (List ℕ)) (e : ClientError) (old new : Client P) : Type 0 where
  pub sizes : Widths
  pub ready : Client P
  pub begins : Calls story timeout (Attaches story sizes) old ready
  pub command : Command
  pub says : IsCommand sizes values set number text command
  pub fails : FailsCall story timeout awaited.Reply (FailsToAsk story command) ready e new

-- the session did not begin; or it did, and the command was not answered
abbrev pub FailsAsk : {P : Type 0} → (P → Story) → Option ℕ → List (List ℕ × List ℕ) → ℕ → ℕ → Option (List ℕ) → ClientError → Client P → Client P → Type 0
FailsAsk story timeout values set number text e old new =
    FailsCall story timeout awaited.Beginning (Stops story lacks_sizes) old e new ⊎ AsksInVain story timeout values set number text e old new

abbrev pub AskStops : {P : Type 0} → (P → Story) → Option ℕ → List (List ℕ × List ℕ) → ℕ → ℕ → Option (List ℕ) → Stop → Client P → Client P → Type 0
AskStops story timeout values set number text (stop.Client e) old new = FailsAsk story timeout values set number text e old new
AskStops story timeout values set number text s old new = RefusesAsk story timeout values set number text s old new
