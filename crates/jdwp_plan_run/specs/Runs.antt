-- Runs of plans: what each line does, and how a run ends.
use Rattle.std.specs.Prelude.{◌≡◌, ℕ, ◌+◌, ◌-◌, ◌<◌, ◌^◌, min, Bool, true, false, List, [], ◌∷◌, ◌++◌, take, slice_get, Option, Some, None, string_bytes}
use Rattle.std.specs.Option.{option_map}
use Rattle.jdwp_attach.specs.Telling.{TellsKnown}
use Rattle.jdwp_client.specs.declared.errors.Awaited.TheVariants as awaited
use Rattle.jdwp_client.specs.declared.errors.ClientError.{ClientError}
use Rattle.jdwp_client.specs.Clients.{Client, GivesFirst, Stops, lacks_events}
use Rattle.jdwp_end.specs.Story.{Story}
use Rattle.jdwp_event.specs.Composites.{CompositeMeaning}
use Rattle.jdwp_layout.specs.declared.answer.Answer.{Answer}
use Rattle.jdwp_layout.specs.Meanings.{ScalarMeaning}
use Rattle.jdwp_plan.specs.declared.plan_line.Path.{Path}
use Rattle.jdwp_plan.specs.declared.plan_line.PlanLine.{PlanLine}
use Rattle.jdwp_plan.specs.declared.plan_line.PlanLine.TheVariants as line
use Rattle.jdwp_show.specs.DataText.{scalar_text}
use Rattle.jdwp_plan_run.specs.declared.ended.PlanEnded.{PlanEnded}
use Rattle.jdwp_plan_run.specs.declared.ended.PlanEnded.TheVariants.{Done, At}
use Rattle.jdwp_plan_run.specs.declared.stop.Stop.{Stop}
use Rattle.jdwp_plan_run.specs.declared.stop.Stop.TheVariants as stop
use Rattle.jdwp_plan_run.specs.Asking.{AskStops, AsksLine}
use Rattle.jdwp_plan_run.specs.Calls.{Calls, FailsCall}
use Rattle.jdwp_plan_run.specs.Expecting.{ExpectStops, HeldStops, IsHeldSo, IsTold, ItemStops, item_told}
use Rattle.jdwp_plan_run.specs.Tellings.{PrintStops, Telling, event_line, printed, reply_line, told_of_answer, told_of_event}

-- A run between two lines: its client; the values that are bound; what was told last, if anything was; how many composites were told; how many
-- milliseconds a call may wait, where that is limited; whether the session may end before the plan does; what went to the output.
pub record Running (P : Type 0) : Type 0 where
  pub client : Client P
  pub values : List (List ℕ × List ℕ)
  pub told : Option Telling
  pub composites : ℕ
  pub timeout : Option ℕ
  pub may_end : Bool
  pub out : Story

-- before the first line
abbrev pub begun : {P : Type 0} → Client P → Story → Running P
begun client out = record { client = client; values = []; told = None; composites = 0; timeout = None; may_end = false; out = out }

-- one composite more was told; no more are counted than a line can name
abbrev pub one_more : ℕ → ℕ
one_more composites = min (composites + 1) (2 ^ 32 - 1)

-- ---- what lines do

-- the answer was told
abbrev pub told_answer : {P : Type 0} → ℕ → ℕ → Answer → Client P → Running P → Running P
told_answer set number answer client r =
    record r { client = client; told = Some (told_of_answer answer); out = printed (reply_line set number (told_of_answer answer).text) r.out }

-- the composite was told
abbrev pub told_event : {P : Type 0} → CompositeMeaning → Client P → Running P → Running P
told_event c client r =
    record r { client = client; told = Some (told_of_event c); composites = one_more r.composites; out = printed (event_line (told_of_event c).text) r.out }

-- the text of what the debugger knows was told
abbrev pub told_known : {P : Type 0} → List ℕ → Running P → Running P
told_known text r = record r { told = Some (record { text = text; items = None }); out = printed text r.out }

abbrev pub TellsKnownOf : {P : Type 0} → Running P → Running P → Type 0
TellsKnownOf old new = (text : List ℕ) × TellsKnown old.client.debugger text × (new ≡ told_known text old)

abbrev pub Binds : {P : Type 0} → List ℕ → Path → Running P → Running P → Type 0
Binds name path old new = (x : ScalarMeaning) × (item_told path old.told ≡ Some x) × (new ≡ record old { values = (name, scalar_text x) ∷ old.values })

-- the command that the line says was asked, once, and its answer was told
abbrev pub Asks : {P : Type 0} → (P → Story) → ℕ → ℕ → Option (List ℕ) → Running P → Running P → Type 0
Asks story set number text old new =
    (answer : Answer) × AsksLine story old.timeout old.values set number text answer old.client new.client × (new ≡ told_answer set number answer new.client old)

-- the next composite was waited for, and was told
abbrev pub TakesEvent : {P : Type 0} → (P → Story) → Running P → Running P → Type 0
TakesEvent {P} story old new =
    (c : CompositeMeaning) × Calls story old.timeout (λ (a b : Client P). GivesFirst story a c b) old.client new.client × (new ≡ told_event c new.client old)

-- so many were
pub data TakesEvents {P : Type 0} (story : P → Story) : Running P → ℕ → Running P → Type 0 where
  NoMore : (r : Running P) → TakesEvents story r 0 r
  OneMore : (n : ℕ) (old mid new : Running P) → TakesEvents story old n mid → TakesEvent story mid new → TakesEvents story old (n + 1) new

-- what a line does
abbrev pub LineDoes : {P : Type 0} → (P → Story) → PlanLine → Running P → Running P → Type 0
LineDoes story line.Nothing old new = new ≡ old
LineDoes story line.Version old new = new ≡ old
LineDoes story (line.Ask set number text) old new = Asks story set number (option_map string_bytes text) old new
LineDoes story (line.Let name path) old new = Binds (string_bytes name) path old new
LineDoes story (line.Expect text) old new = IsTold old.values old.told (string_bytes text) × (new ≡ old)
LineDoes story (line.ExpectHeld text) old new = IsHeldSo old.values old.client.debugger (string_bytes text) true × (new ≡ old)
LineDoes story (line.ExpectFree text) old new = IsHeldSo old.values old.client.debugger (string_bytes text) false × (new ≡ old)
LineDoes story (line.Timeout ms) old new = new ≡ record old { timeout = Some ms }
LineDoes story (line.Events count) old new = TakesEvents story old (count - old.composites) new
LineDoes story line.WaitEvent old new = TakesEvent story old new
LineDoes story line.Mirror old new = TellsKnownOf old new
LineDoes story line.MayEnd old new = new ≡ record old { may_end = true }

-- lines one after the other, each once
pub data Carries {P : Type 0} (story : P → Story) : Running P → List PlanLine → Running P → Type 0 where
  NoLine : (r : Running P) → Carries story r [] r
  OneLine : (lines : List PlanLine) (l : PlanLine) (old mid new : Running P) → Carries story old lines mid → LineDoes story l mid new → Carries story old (lines ++ l ∷ []) new

-- ---- why lines are not carried out

-- no composite came
abbrev pub FailsEvent : {P : Type 0} → (P → Story) → Option ℕ → ClientError → Client P → Client P → Type 0
FailsEvent story timeout e old new = FailsCall story timeout awaited.Event (Stops story lacks_events) old e new

abbrev pub EventStops : {P : Type 0} → (P → Story) → Running P → Stop → Client P → Type 0
EventStops story old (stop.Client e) new = FailsEvent story old.timeout e old.client new
EventStops story old s new = PrintStops s

-- fewer came than were waited for
pub record EventsStop {P : Type 0} (story : P → Story) (count : ℕ) (old : Running P) (why : Stop) (new : Client P) : Type 0 where
  pub taken : ℕ
  pub last : Running P
  pub fewer : taken < count - old.composites
  pub takes : TakesEvents story old taken last
  pub stops : EventStops story last why new

abbrev pub AskLineStops : {P : Type 0} → (P → Story) → ℕ → ℕ → Option (List ℕ) → Running P → Stop → Client P → Type 0
AskLineStops story set number text old stop.NoMemory new = Unit {0}
AskLineStops story set number text old stop.NotPrinted new = Unit {0}
AskLineStops story set number text old why new = AskStops story old.timeout old.values set number text why old.client new

-- Why a line was not carried out, and what that left of the client. Something else was told than an `expect` says, or a thread is held and was
-- to be free, or the other way round; the line says nothing that can be done, and no command was asked for it; a call of the client failed;
-- what was told could not be printed; or memory was wanting.
abbrev pub LineStops : {P : Type 0} → (P → Story) → PlanLine → Running P → Stop → Client P → Type 0
LineStops story (line.Ask set number text) old why new = AskLineStops story set number (option_map string_bytes text) old why new
LineStops story (line.Let name path) old why new = ItemStops path old.told why × (new ≡ old.client)
LineStops story (line.Expect text) old why new = ExpectStops old.values old.told (string_bytes text) why × (new ≡ old.client)
LineStops story (line.ExpectHeld text) old why new = HeldStops old.values old.client.debugger (string_bytes text) true why × (new ≡ old.client)
LineStops story (line.ExpectFree text) old why new = HeldStops old.values old.client.debugger (string_bytes text) false why × (new ≡ old.client)
LineStops story (line.Events count) old why new = EventsStop story count old why new
LineStops story line.WaitEvent old why new = EventStops story old why new
LineStops story line.Mirror old why new = PrintStops why × (new ≡ old.client)
LineStops story l old why new = ⊥

-- ---- how runs end

-- The run came to the line of this number, counted from 1, and no further: those before it were carried out, in order, each once. Whether one
-- of them says that the session may end is told.
pub record EndsAt {P : Type 0} (story : P → Story) (first : Running P) (plan : List PlanLine) (number : ℕ) (may_end : Bool) (why : Stop) (new : Client P) : Type 0 where
  pub before : ℕ
  pub number_is : number ≡ before + 1
  pub reached : PlanLine
  pub is : slice_get plan before ≡ Some reached
  pub last : Running P
  pub carried : Carries story first (take before plan) last
  pub may : may_end ≡ last.may_end
  pub stops : LineStops story reached last why new

-- all lines were carried out, and this went to the output
pub record CarriesAll {P : Type 0} (story : P → Story) (first : Running P) (plan : List PlanLine) (new : Client P) (out : Story) : Type 0 where
  pub last : Running P
  pub carried : Carries story first plan last
  pub client : last.client ≡ new
  pub output : last.out ≡ out

-- how a run of a plan ends that begins so, with this client and this output behind it
abbrev pub Ends : {P : Type 0} → (P → Story) → Running P → List PlanLine → PlanEnded → Client P → Story → Type 0
Ends story first plan Done new out = CarriesAll story first plan new out
Ends story first plan (At number may_end why) new out = EndsAt story first plan number may_end why new
