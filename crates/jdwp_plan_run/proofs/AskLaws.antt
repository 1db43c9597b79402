-- The commands of lines.
use Rattle.std.proofs.Common.{◌≡◌, ◌≢◌, ◌∷◌, ℕ, List, [], Option, Some, None, Result, Ok, Err, inl, inr, refl, subst, sym}
use Rattle.std.specs.Prelude.{IfErr, IfOk}
use Rattle.jdwp_action.specs.Actions.{Command, Content, Raw}
use Rattle.jdwp_client.specs.declared.errors.ClientError.{ClientError}
use Rattle.jdwp_client.specs.Clients.{Client}
use Rattle.jdwp_end.specs.Story.{Story}
use Rattle.jdwp_layout.specs.declared.command.Layouts.{Layouts}
use Rattle.jdwp_layout.specs.Meanings.{DatumMeaning}
use Rattle.jdwp_layout.specs.Rows.{RowShapes, row_shapes}
use Rattle.jdwp_layout.specs.Shapes.{ItemShape, shape}
use Rattle.jdwp_wire.specs.Widths.{Widths}
use Rattle.jdwp_plan_run.specs.declared.stop.LineRefusal.TheVariants as refusal
use Rattle.jdwp_plan_run.specs.declared.stop.Stop.{Stop}
use Rattle.jdwp_plan_run.specs.declared.stop.Stop.TheVariants as stop
use Rattle.jdwp_plan_run.specs.Asking.{AskStops, Attaches, CallStops, CarriesData, CommandStops, CommandStopsBy, DataStops, FillStops, IsCommand, IsReadAs, IsSpaced, ReadsData, ReadyStops, SaysData, TextStops, shapes_at}
use Rattle.jdwp_plan_run.specs.Calls.{Calls}

-- the command of data that were read
pub read-command : (sizes : Widths) (layouts : Layouts) (values : List (List ℕ × List ℕ)) (set number : ℕ) (text : Option (List ℕ)) (items : List DatumMeaning) (command : Command)
    → row_shapes (Some layouts) ≡ shapes_at set number → command ≡ record { set = set; number = number; carried = Content items }
    → ReadsData sizes (shape layouts.request) values text items → IsCommand sizes values set number text command
read-command sizes layouts values set number text items command found is reads =
    subst (λ (c : Command). IsCommand sizes values set number text c) (sym is)
    (refl, refl, subst (λ (o : Option RowShapes). CarriesData sizes o values text (Content items)) found (items, reads, refl))

-- the command of data that are not read
pub raw-command : (sizes : Widths) (values : List (List ℕ × List ℕ)) (set number : ℕ) (text : Option (List ℕ)) (command : Command) → None ≡ shapes_at set number
    → text ≡ None → command ≡ record { set = set; number = number; carried = Raw [] } → IsCommand sizes values set number text command
raw-command sizes values set number text command found none is =
    subst (λ (c : Command). IsCommand sizes values set number text c) (sym is)
    (refl, refl, subst (λ (o : Option RowShapes). CarriesData sizes o values text (Raw [])) found (none, refl))

pub stops-read : (layouts : Layouts) (values : List (List ℕ × List ℕ)) (set number : ℕ) (text : Option (List ℕ)) (s : Stop)
    → row_shapes (Some layouts) ≡ shapes_at set number → DataStops values text s → CommandStops values set number text s
stops-read layouts values set number text s found h = subst (λ (o : Option RowShapes). CommandStopsBy o values text s) found h

pub stops-raw : (values : List (List ℕ × List ℕ)) (set number : ℕ) (text : Option (List ℕ)) (s : Stop) → None ≡ shapes_at set number → text ≢ None → s ≡ stop.Refused refusal.NoLayout
    → CommandStops values set number text s
stops-raw values set number text s found some is = subst (λ (o : Option RowShapes). CommandStopsBy o values text s) found (some, is)

-- ---- texts of data

pub if-ok : {A E : Type 0} {P Q : A → Type 0} (r : Result A E) → ((a : A) → P a → Q a) → IfOk r P → IfOk r Q
if-ok (Ok a) f p = f a p
if-ok (Err e) f p = p

pub if-err : {A E : Type 0} {P Q : E → Type 0} (r : Result A E) → ((e : E) → P e → Q e) → IfErr r P → IfErr r Q
if-err (Ok a) f p = p
if-err (Err e) f p = f e p

pub reads : (sizes : Widths) (layout : List ItemShape) (values : List (List ℕ × List ℕ)) (text : Option (List ℕ)) (full passed : List ℕ) (items : List DatumMeaning) → passed ≡ full
    → SaysData values text full → IsReadAs sizes layout passed items → ReadsData sizes layout values text items
reads sizes layout values text full passed items same says read = (full, says, subst (λ (t : List ℕ). IsReadAs sizes layout t items) same read)

pub spaced-as : (values : List (List ℕ × List ℕ)) (passed text full : List ℕ) → passed ≡ text → IsSpaced values passed full → SaysData values (Some text) full
spaced-as values passed text full same h = subst (λ (t : List ℕ). IsSpaced values t full) same h

pub stops-as : (values : List (List ℕ × List ℕ)) (passed text : List ℕ) (s : Stop) → passed ≡ text → FillStops values passed s → TextStops values (Some text) s
stops-as values passed text s same h = subst (λ (t : List ℕ). FillStops values t s) same h

pub no-memory-fills : (values : List (List ℕ × List ℕ)) (text : List ℕ) (s : Stop) → s ≡ stop.NoMemory → FillStops values text s
no-memory-fills values text s is = subst (λ (w : Stop). FillStops values text w) (sym is) tt

-- a command whose data stop stops the line: no call of the client does so
text-no-call : (values : List (List ℕ × List ℕ)) (text : Option (List ℕ)) (e : ClientError) → TextStops values text (stop.Client e) → ⊥
text-no-call values None e h = h
text-no-call values (Some text) e h = h

data-no-call : (values : List (List ℕ × List ℕ)) (text : Option (List ℕ)) (e : ClientError) → DataStops values text (stop.Client e) → ⊥
data-no-call values text e (inl h) = text-no-call values text e h
data-no-call values text e (inr h) = h

command-no-call : (shapes : Option RowShapes) (values : List (List ℕ × List ℕ)) (text : Option (List ℕ)) (e : ClientError) → CommandStopsBy shapes values text (stop.Client e) → ⊥
command-no-call None values text e h = let same = h.1 in cc
command-no-call (Some shapes) values text e h = data-no-call values text e h

pub refused-ask : {P : Type 0} (story : P → Story) (timeout : Option ℕ) (values : List (List ℕ × List ℕ)) (set number : ℕ) (text : Option (List ℕ)) (s : Stop) (sizes : Widths) (old new : Client P)
    → Calls story timeout (Attaches story sizes) old new → CommandStops values set number text s → AskStops story timeout values set number text s old new
refused-ask story timeout values set number text (stop.Client e) sizes old new begins stops = absurd (command-no-call (shapes_at set number) values text e stops)
refused-ask story timeout values set number text (stop.Differs expected found) sizes old new begins stops = (sizes, begins, stops)
refused-ask story timeout values set number text (stop.Refused r) sizes old new begins stops = (sizes, begins, stops)
refused-ask story timeout values set number text stop.NoMemory sizes old new begins stops = (sizes, begins, stops)
refused-ask story timeout values set number text stop.NotPrinted sizes old new begins stops = (sizes, begins, stops)

vain : {P : Type 0} (story : P → Story) (timeout : Option ℕ) (values : List (List ℕ × List ℕ)) (set number : ℕ) (text : Option (List ℕ)) (s : Stop) (sizes : Widths) (command : Command)
    (old ready new : Client P) → Calls story timeout (Attaches story sizes) old ready → IsCommand sizes values set number text command → CallStops story timeout command s ready new
    → AskStops story timeout values set number text s old new
vain story timeout values set number text (stop.Client e) sizes command old ready new begins says fails =
    inr (record { sizes = sizes; ready = ready; begins = begins; command = command; says = says; fails = fails })
vain story timeout values set number text (stop.Differs expected found) sizes command old ready new begins says fails = absurd fails
vain story timeout values set number text (stop.Refused r) sizes command old ready new begins says fails = absurd fails
vain story timeout values set number text stop.NoMemory sizes command old ready new begins says fails = absurd fails
vain story timeout values set number text stop.NotPrinted sizes command old ready new begins says fails = absurd fails

pub line-stops : {P : Type 0} (story : P → Story) (timeout : Option ℕ) (values : List (List ℕ × List ℕ)) (set number : ℕ) (text : Option (List ℕ)) (s : Stop) (sizes : Widths)
    (old ready new : Client P) → Calls story timeout (Attaches story sizes) old ready → ReadyStops story timeout sizes values set number text s ready new
    → AskStops story timeout values set number text s old new
line-stops {P} story timeout values set number text s sizes old ready new begins (inl h) =
    refused-ask story timeout values set number text s sizes old new (subst (λ (c : Client P). Calls story timeout (Attaches story sizes) old c) (sym h.1) begins) h.0
line-stops story timeout values set number text s sizes old ready new begins (inr h) = vain story timeout values set number text s sizes h.0 old ready new begins h.1 h.2
