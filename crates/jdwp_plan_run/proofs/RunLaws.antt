-- Lines of plans, one after the other.
use Rattle.std.proofs.Common.{◌≡◌, ◌∙◌, ◌<◌, ◌≤◌, ◌+◌, ◌-◌, ◌^◌, ℕ, Bool, false, List, [], ◌∷◌, ◌++◌, length, take, get_or, Option, Some, None, Result, Ok, Err, ap, refl, subst, sym}
use Rattle.std.specs.Prelude.{IfErr, OnOk}
use Rattle.std.proofs.lemmas.List.{take_all, take_more}
use Rattle.std.proofs.lemmas.Option.{slice_get_read}
use Rattle.jdwp_client.specs.Clients.{Client, GivesFirst}
use Rattle.jdwp_debugger.specs.Debuggers.{Debugger}
use Rattle.jdwp_end.specs.Story.{Story}
use Rattle.jdwp_event.specs.Composites.{CompositeMeaning}
use Rattle.jdwp_layout.specs.declared.answer.Answer.{Answer}
use Rattle.jdwp_plan.specs.declared.plan_line.Path.{Path}
use Rattle.jdwp_plan.specs.declared.plan_line.PlanLine.{PlanLine}
use Rattle.jdwp_plan_run.specs.declared.carrying.Run.{Run}
use Rattle.jdwp_plan_run.specs.declared.stop.Stop.{Stop}
use Rattle.jdwp_plan_run.specs.declared.stop.Stop.TheVariants as stop
use Rattle.jdwp_plan_run.specs.declared.telling.Told.{Told}
use Rattle.jdwp_attach.specs.Telling.{TellsKnown}
use Rattle.jdwp_plan_run.specs.Asking.{AskStops, AsksLine}
use Rattle.jdwp_plan_run.specs.Calls.{Calls}
use Rattle.jdwp_plan_run.specs.Expecting.{ExpectStops, HeldStops, IsHeldSo, IsTold, ItemStops}
use Rattle.jdwp_plan_run.specs.Runs.{AskLineStops, Asks, Binds, Carries, EndsAt, EventStops, LineDoes, LineStops, NoLine, OneLine, Running, TakesEvent, TakesEvents, TellsKnownOf, begun, one_more, told_answer, told_event, told_known}
use Rattle.jdwp_plan_run.specs.RunsKept.{BindsIn, TellsAnswer, TellsEvent, TellsText, running, telling}
use Rattle.jdwp_plan_run.specs.Tellings.{PrintStops, Telling, event_line, printed, reply_line, told_of_answer, told_of_event}

-- ---- results

pub both-ok : {A E Q : Type 0} (P : Type 0) (r : Result A E) → Q → OnOk r P → OnOk r (P × Q)
both-ok P (Ok a) q h = (h, q)
both-ok P (Err e) q h = h

pub both-err : {A E Q : Type 0} (P : E → Type 0) (r : Result A E) → Q → IfErr r P → IfErr r (λ e. P e × Q)
both-err P (Ok a) q h = h
both-err P (Err e) q h = (h, q)

-- the same of the texts of lines, and of the debugger of a client
pub told-ok : {A E Q : Type 0} (r : Result A E) (values : List (List ℕ × List ℕ)) (told : Option Telling) (text line : List ℕ) → text ≡ line → Q → OnOk r (IsTold values told text)
    → OnOk r (IsTold values told line × Q)
told-ok r values told text line same q h = both-ok (IsTold values told line) r q (subst (λ (t : List ℕ). OnOk r (IsTold values told t)) same h)

pub told-err : {A Q : Type 0} (r : Result A Stop) (values : List (List ℕ × List ℕ)) (told : Option Telling) (text line : List ℕ) → text ≡ line → Q → IfErr r (ExpectStops values told text)
    → IfErr r (λ why. ExpectStops values told line why × Q)
told-err r values told text line same q h = both-err (λ why. ExpectStops values told line why) r q (subst (λ (t : List ℕ). IfErr r (ExpectStops values told t)) same h)

pub held-ok : {A E Q : Type 0} (r : Result A E) (values : List (List ℕ × List ℕ)) (d client : Debugger) (text line : List ℕ) (held : Bool) → d ≡ client → text ≡ line → Q
    → OnOk r (IsHeldSo values d text held) → OnOk r (IsHeldSo values client line held × Q)
held-ok r values d client text line held its same q h =
    both-ok (IsHeldSo values client line held) r q (subst (λ (x : Debugger). OnOk r (IsHeldSo values x line held)) its (subst (λ (t : List ℕ). OnOk r (IsHeldSo values d t held)) same h))

pub held-err : {A Q : Type 0} (r : Result A Stop) (values : List (List ℕ × List ℕ)) (d client : Debugger) (text line : List ℕ) (held : Bool) → d ≡ client → text ≡ line → Q
    → IfErr r (HeldStops values d text held) → IfErr r (λ why. HeldStops values client line held why × Q)
held-err r values d client text line held its same q h =
    both-err (λ why. HeldStops values client line held why) r q (subst (λ (x : Debugger). IfErr r (HeldStops values x line held)) its (subst (λ (t : List ℕ). IfErr r (HeldStops values d t held)) same h))

pub bound : {P : Type 0} (name : List ℕ) (path : Path) (old new : Run) (client : Client P) (out : Story) → BindsIn name path old new → Binds name path (running client old out) (running client new out)
bound name path old new client out h = (h.0, h.1, ap (λ (r : Run). running client r out) h.2)

pub bound-ok : {P A E : Type 0} (r : Result A E) (name line : List ℕ) (path : Path) (old new : Run) (client : Client P) (out : Story) → name ≡ line → OnOk r (BindsIn name path old new)
    → OnOk r (Binds line path (running client old out) (running client new out))
bound-ok (Ok a) name line path old new client out same h = subst (λ (t : List ℕ). Binds t path (running client old out) (running client new out)) same (bound name path old new client out h)
bound-ok (Err e) name line path old new client out same h = h

-- ---- what lines leave

pub answered : {P : Type 0} (set number : ℕ) (answer : Answer) (old new : Client P) (run : Run) (told : Told) (out left : Story) → telling told ≡ told_of_answer answer
    → left ≡ printed (reply_line set number told.text.items) out → running new (record run { told = Some told }) left ≡ told_answer set number answer new (running old run out)
answered set number answer old new run told out left tells prints =
    ap (λ (o : Story). record (running old run out) { client = new; told = Some (telling told); out = o }) prints
    ∙ ap (λ (t : Telling). record (running old run out) { client = new; told = Some t; out = printed (reply_line set number t.text) out }) tells

pub took : {P : Type 0} (c : CompositeMeaning) (old new : Client P) (run : Run) (told : Told) (count : ℕ) (out left : Story) → telling told ≡ told_of_event c
    → count ≡ one_more run.composites → left ≡ printed (event_line told.text.items) out
    → running new (record run { told = Some told; composites = count }) left ≡ told_event c new (running old run out)
took c old new run told count out left tells counts prints =
    ap (λ (o : Story). record (running old run out) { client = new; told = Some (telling told); composites = count; out = o }) prints
    ∙ ap (λ (n : ℕ). record (running old run out) { client = new; told = Some (telling told); composites = n; out = printed (event_line told.text.items) out }) counts
    ∙ ap (λ (t : Telling). record (running old run out) { client = new; told = Some t; composites = one_more run.composites; out = printed (event_line t.text) out }) tells

pub knew : {P : Type 0} (client : Client P) (run : Run) (told : Told) (text : List ℕ) (out left : Story) → telling told ≡ record { text = text; items = None } → left ≡ printed text out
    → running client (record run { told = Some told }) left ≡ told_known text (running client run out)
knew client run told text out left tells prints =
    ap (λ (o : Story). record (running client run out) { told = Some (telling told); out = o }) prints
    ∙ ap (λ (t : Telling). record (running client run out) { told = Some t; out = printed text out }) tells

-- the command of a line was asked, and its answer told
pub asked : {P : Type 0} (story : P → Story) (set number : ℕ) (text : Option (List ℕ)) (answer : Answer) (old new : Client P) (run after : Run) (out left : Story)
    → AsksLine story run.timeout run.values set number text answer old new → TellsAnswer set number answer run out after left
    → Asks story set number text (running old run out) (running new after left)
asked story set number text answer old new run after out left asks tells =
    (answer, asks, ap (λ (r : Run). running new r left) tells.2 ∙ answered set number answer old new run tells.0 out left tells.1 tells.3)

-- a composite was waited for, and told
pub taken : {P : Type 0} (story : P → Story) (c : CompositeMeaning) (old new : Client P) (run after : Run) (out left : Story)
    → Calls story run.timeout (λ (a b : Client P). GivesFirst story a c b) old new → TellsEvent c run out after left → TakesEvent story (running old run out) (running new after left)
taken story c old new run after out left gives tells =
    (c, gives, ap (λ (r : Run). running new r left) tells.2 ∙ took c old new run tells.0 (one_more run.composites) out left tells.1 refl tells.3)

-- what the debugger knows was told
pub known : {P : Type 0} (d : Debugger) (client : Client P) (run after : Run) (text : List ℕ) (out left : Story) → d ≡ client.debugger → TellsKnown d text → TellsText text run out after left
    → TellsKnownOf (running client run out) (running client after left)
known d client run after text out left same knows tells =
    (text, subst (λ (x : Debugger). TellsKnown x text) same knows, ap (λ (r : Run). running client r left) tells.2 ∙ knew client run tells.0 text out left tells.1 tells.3)

-- ---- why they stop

pub ask-stops : {P : Type 0} (story : P → Story) (set number : ℕ) (text : Option (List ℕ)) (old : Running P) (s : Stop) (new : Client P)
    → AskStops story old.timeout old.values set number text s old.client new → AskLineStops story set number text old s new
ask-stops story set number text old (stop.Differs expected found) new h = h
ask-stops story set number text old (stop.Refused r) new h = h
ask-stops story set number text old (stop.Client e) new h = h
ask-stops story set number text old stop.NoMemory new h = tt
ask-stops story set number text old stop.NotPrinted new h = tt

pub print-stops-ask : {P : Type 0} (story : P → Story) (set number : ℕ) (text : Option (List ℕ)) (old : Running P) (s : Stop) (new : Client P)
    → PrintStops s → AskLineStops story set number text old s new
print-stops-ask story set number text old (stop.Differs expected found) new h = absurd h
print-stops-ask story set number text old (stop.Refused r) new h = absurd h
print-stops-ask story set number text old (stop.Client e) new h = absurd h
print-stops-ask story set number text old stop.NoMemory new h = tt
print-stops-ask story set number text old stop.NotPrinted new h = tt

pub print-stops-event : {P : Type 0} (story : P → Story) (old : Running P) (s : Stop) (new : Client P) → PrintStops s → EventStops story old s new
print-stops-event story old (stop.Differs expected found) new h = h
print-stops-event story old (stop.Refused r) new h = h
print-stops-event story old (stop.Client e) new h = absurd h
print-stops-event story old stop.NoMemory new h = h
print-stops-event story old stop.NotPrinted new h = h

-- ---- runs

-- a line more
pub one-line : {P : Type 0} (story : P → Story) (first : Running P) (plan : List PlanLine) (k : ℕ) (l : PlanLine) (mid new : Running P) → k < length plan → l ≡ get_or plan k l
    → Carries story first (take k plan) mid → LineDoes story l mid new → Carries story first (take (k + 1) plan) new
one-line story first plan k l mid new inside at carried does =
    subst (λ (ls : List PlanLine). Carries story first ls new) (sym (take_more plan k l inside ∙ ap (λ (x : PlanLine). take k plan ++ x ∷ []) (sym at)))
    (OneLine (take k plan) l first mid new carried does)

-- all of them
pub all-lines : {P : Type 0} (story : P → Story) (first : Running P) (plan : List PlanLine) (k : ℕ) (last : Running P) → length plan ≤ k
    → Carries story first (take k plan) last → Carries story first plan last
all-lines story first plan k last past carried = subst (λ (ls : List PlanLine). Carries story first ls last) (take_all k plan past) carried

-- the run ended at a line
pub ends-at : {P : Type 0} (story : P → Story) (first : Running P) (plan : List PlanLine) (k : ℕ) (l : PlanLine) (s : Stop) (last : Running P) (new : Client P) → k < length plan
    → l ≡ get_or plan k l → Carries story first (take k plan) last → LineStops story l last s new → EndsAt story first plan (k + 1) last.may_end s new
ends-at story first plan k l s last new inside at carried stops = record {
  before = k;
  number_is = refl;
  reached = l;
  is = slice_get_read plan (length plan) k l refl inside at;
  last = last;
  carried = carried;
  may = refl;
  stops = stops;
}

-- ---- results

pub on-ok : {A E P Q : Type 0} (r : Result A E) → (P → Q) → OnOk r P → OnOk r Q
on-ok (Ok a) f p = f p
on-ok (Err e) f p = p

pub if-err : {A E : Type 0} {P Q : E → Type 0} (r : Result A E) → ((e : E) → P e → Q e) → IfErr r P → IfErr r Q
if-err (Ok a) f p = p
if-err (Err e) f p = f e p

pub no-memory-item : (path : Path) (told : Option Telling) (s : Stop) → s ≡ stop.NoMemory → ItemStops path told s
no-memory-item path told s is = subst (λ (w : Stop). ItemStops path told w) (sym is) tt

-- as many composites as were missing
pub so-many : {P : Type 0} (story : P → Story) (old new : Running P) (n wanted : ℕ) → n ≡ wanted → TakesEvents story old n new → TakesEvents story old wanted new
so-many story old new n wanted same h = subst (λ (k : ℕ). TakesEvents story old k new) same h

-- before the first line
pub begins : {P : Type 0} (story : P → Story) (client : Client P) (run : Run) (out : Story) (plan : List PlanLine)
    → run ≡ record { values = []; told = None; composites = 0; timeout = None; may_end = false } → Carries story (begun client out) (take 0 plan) (running client run out)
begins story client run out plan is = subst (λ (r : Run). Carries story (begun client out) (take 0 plan) (running client r out)) (sym is) (NoLine (begun client out))
