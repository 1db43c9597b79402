-- How a run of a plan goes on from one call to the next.
use Rattle.std.proofs.Common.{◌≡◌, ◌∙◌, ℕ, ◌<◌, ◌≤◌, ◌+◌, ◌++◌, List, [], ◌∷◌, length, Bool, true, false, Result, Ok, Err, OnOk, IfErr, Option, Some, None, is_some, not, inl, inr, ◌||◌, get_or, take, drop, sym, ap, refl, subst, append_assoc, arith}
use Rattle.std.proofs.lemmas.Grind.{common_steps}
use Rattle.std.proofs.lemmas.List.{append-nil, drop_more, take-append-drop, take_all, take_more}
use Rattle.jdwp_end.specs.Ends.{front_of, is_open}
use Rattle.jdwp_debugger.specs.Asking.{HasAsked, command_bytes, refusal_of_ask}
use Rattle.jdwp_value.specs.declared.id.ObjectId.{ObjectId}
use Rattle.jdwp_wire.specs.Widths.{Widths}
use Rattle.jdwp_watch.specs.Ledgers.{Account}
use Rattle.jdwp_debugger.specs.FollowingKept.{following_by}
use Rattle.jdwp_debugger.specs.Holding.{named_in}
use Rattle.jdwp_event.specs.Told.{id_found}
use Rattle.std.specs.Borrow.{Bor}
use Rattle.jdwp_action.specs.Actions.{Command}
use Rattle.jdwp_debugger.specs.declared.pending.Ticket.{Ticket}
use Rattle.jdwp_debugger.specs.Debuggers.{Asked, Debugger, Unanswered, and_then, at_place, has_tickets, seen_unanswered, unanswered, with_fed, with_taken}
use Rattle.jdwp_debugger.specs.DebuggerTurns.{TurnsAt}
use Rattle.jdwp_debugger.specs.declared.turning.Read.{Read}
use Rattle.jdwp_debugger.specs.declared.turning.Read.TheVariants as read
use Rattle.jdwp_end.specs.Story.{Story, flushed, with_written}
use Rattle.jdwp_attach.specs.declared.plans.plan_line.PlanLine.{PlanLine}
use Rattle.jdwp_attach.specs.declared.plans.plan_line.PlanLine.TheVariants as line
use Rattle.jdwp_attach.specs.OwnCounts.{AreSteps, AsksDue, Count, Line, Step, suspend_count}
use Rattle.jdwp_attach.specs.PlanAsks.{IsBeginning, Stands, asks, asks_of}
use Rattle.jdwp_attach.specs.PlanRuns.{IsAsk, LineGoesOn}
use Rattle.jdwp_attach.specs.PlanWaits.{Awaits, HandlesFewer, IsNextLine, IsThere}
use Rattle.jdwp_attach.specs.Runs.{IsAtAnswers, IsGoing, IsReady, Reaches, ReadsMore, Standing, TellsLine, at}
use Rattle.jdwp_attach.specs.Telling.{lines_of}
use Rattle.jdwp_attach.proofs.Reached.{are-line, reach-all, reach-asked, reach-fed, reach-passed}
use Rattle.jdwp_attach.proofs.Stages.{asks-append, one-asked, stands-line}
use Rattle.jdwp_attach.proofs.Turned.{Moves}

-- ---- lines of a plan

pub line-more : (plan : List PlanLine) (i : ℕ) (line : PlanLine) → i < length plan → line ≡ get_or plan i line → take (i + 1) plan ≡ take i plan ++ line ∷ []
line-more plan i line inside is = take_more plan i line inside ∙ ap (λ (x : PlanLine). take i plan ++ x ∷ []) (sym is)

pub line-split : (plan : List PlanLine) (i : ℕ) (line : PlanLine) → i < length plan → line ≡ get_or plan i line → plan ≡ take i plan ++ line ∷ drop (i + 1) plan
line-split plan i line inside is =
    sym (take-append-drop i plan) ∙ ap (λ (x : List PlanLine). take i plan ++ x) (drop_more plan i line inside ∙ ap (λ (x : PlanLine). x ∷ drop (i + 1) plan) (sym is))

-- a plan begins with none of its lines, and with all of them
pub begins-none : (plan : List PlanLine) → IsBeginning [] plan
begins-none plan = (plan, refl)

pub begins-all : (plan : List PlanLine) → IsBeginning plan plan
begins-all plan = ([], sym (append-nil plan))

pub begins-line : (done rest : List PlanLine) (line : PlanLine) → IsBeginning done (done ++ line ∷ rest)
begins-line done rest line = (line ∷ rest, refl)

pub begins-behind : (done rest : List PlanLine) (line : PlanLine) → IsBeginning (done ++ line ∷ []) (done ++ line ∷ rest)
begins-behind done rest line = (rest, sym (append_assoc done (line ∷ []) rest))

-- the line behind those that were carried out
pub next-is : (at line : PlanLine) (done rest : List PlanLine) → at ≡ line → IsNextLine line (done ++ at ∷ rest) done
next-is at line done rest is = (rest, ap (λ (l : PlanLine). done ++ l ∷ rest) is)

-- a line that was carried out
pub line-goes-on : (plan : List PlanLine) (i : ℕ) (line : PlanLine) (old new : Standing) → i < length plan → line ≡ get_or plan i line → LineGoesOn line old new
    → (base : Standing) → IsGoing plan (take i plan) base old → IsGoing plan (take (i + 1) plan) base new
line-goes-on plan i line old new inside is f base k =
    let split = line-split plan i line inside is in
    subst (λ (done : List PlanLine). IsGoing plan done base new) (sym (line-more plan i line inside is))
    (subst (λ (p : List PlanLine). IsGoing p (take i plan ++ line ∷ []) base new) (sym split)
    (f (take i plan) (drop (i + 1) plan) base (subst (λ (p : List PlanLine). IsGoing p (take i plan) base old) split k)))

-- all of them were
pub all-go : (plan : List PlanLine) (i : ℕ) (base now : Standing) → length plan ≤ i → IsGoing plan (take i plan) base now → IsGoing plan plan base now
all-go plan i base now past k = subst (λ (done : List PlanLine). IsGoing plan done base now) (take_all i plan past) k

-- ---- what is printed

pub written-none : (s : Story) → with_written [] s ≡ s
written-none s = simp append-nil

written-twice : (x y : List ℕ) (s : Story) → with_written y (with_written x s) ≡ with_written (x ++ y) s
written-twice x y s = simp append_assoc

pub printed-again : (a b c : Story) (x y z : List ℕ) → b ≡ with_written x a → c ≡ with_written y b → z ≡ x ++ y → c ≡ with_written z a
printed-again a b c x y z e f g = f ∙ ap (λ (s : Story). with_written y s) e ∙ written-twice x y a ∙ ap (λ (t : List ℕ). with_written t a) (sym g)

-- ---- what goes on

-- all that was put was written, and this text was printed
pub moved-goes : (plan done done' : List PlanLine) (base : Standing) (s o : Story) (old mid : Debugger) (left left' turns tickets : ℕ) (s' o' : Story) (new : Debugger) (text told : List ℕ)
    (k : IsGoing plan done base (at s o old left)) (steps : List Step) → Moves old mid turns tickets → AreSteps base.debugger.order done' steps → Reaches plan base.debugger steps told mid → told ≡ k.told ++ text
    → Stands steps base.debugger mid → is_open mid.end ≡ true → asks steps ≡ asks k.steps + tickets → left' + turns ≡ left → new ≡ with_taken mid.end.outgoing mid → s' ≡ with_written mid.end.outgoing s
    → o' ≡ with_written text o → IsGoing plan done' base (at s' o' new left')
moved-goes plan done done' base s o old mid left left' turns tickets s' o' new text told k steps p are r tells stands opened counts spent is written printed =
    rw (is, written) (record {
      ready = (opened, grind (arith, common_steps));
      kept = p.kept ∙ k.kept;
      steps = steps;
      are = are;
      told = told;
      reached = reach-all plan base.debugger steps told mid mid.end.outgoing refl r;
      asked = omega (arith, p.tickets_are, k.asked, counts);
      stands = stands;
      read = grind (arith, common_steps, k.read, p.fed);
      written = grind (arith, common_steps, k.written, k.ready.1, p.enqueued, p.outgoing, append_assoc);
      taken = grind (arith, common_steps, k.taken, k.ready.1, p.taken, p.enqueued, p.outgoing);
      failed_reads = k.failed_reads;
      failed_writes = k.failed_writes;
      ends = k.ends;
      prompt = k.prompt;
      printed = printed-again base.out o o' k.told text told k.printed printed tells;
      turns = omega (arith, p.turns_are, k.turns, spent);
    })

-- bytes were read and fed, behind a turn that handled nothing
pub read-goes : (plan done : List PlanLine) (base : Standing) (s o : Story) (old mid new : Debugger) (left left' : ℕ) (s' : Story)
    → IsGoing plan done base (at s o old left) → Awaits plan done old → TurnsAt (front_of old.end) old (Ok read.Nothing) mid → mid ≡ record old { last = [] } → ReadsMore mid new (flushed s) s' → left' + 1 ≡ left
    → IsGoing plan done base (at s' o new left')
read-goes plan done base s o old mid new left left' s' k awaits turned same (more, fed, read, fits) spent =
    let last : Debugger = with_fed more (record old { last = [] }) in
    let is : last ≡ with_fed more mid = ap (λ (x : Debugger). with_fed more x) (sym same) in
    rw (fed, read, same) (record {
      ready = k.ready;
      kept = k.kept;
      steps = k.steps;
      are = k.are;
      told = k.told;
      reached = reach-fed plan done base.debugger k.steps k.told old mid last more k.are k.reached awaits turned fits is;
      asked = k.asked;
      stands = k.stands;
      read = grind (arith, common_steps, k.read, append_assoc);
      written = k.written;
      taken = k.taken;
      failed_reads = k.failed_reads;
      failed_writes = k.failed_writes;
      ends = k.ends;
      prompt = k.prompt;
      printed = k.printed;
      turns = omega (arith, k.turns, spent);
    })

-- ---- results

pub on-ok : {A E P Q : Type 0} (r : Result A E) → (P → Q) → OnOk r P → OnOk r Q
on-ok (Ok a) f p = f p
on-ok (Err e) f p = p

pub on-both : {A E P Q R : Type 0} (r : Result A E) → (P → Q → R) → OnOk r P → OnOk r Q → OnOk r R
on-both (Ok a) f p q = f p q
on-both (Err e) f p q = p

pub on-three : {A E P Q R S : Type 0} (r : Result A E) → (P → Q → R → S) → OnOk r P → OnOk r Q → OnOk r R → OnOk r S
on-three (Ok a) f p q s = f p q s
on-three (Err e) f p q s = p

pub if-err : {A E : Type 0} {P Q : E → Type 0} (r : Result A E) → ((e : E) → P e → Q e) → IfErr r P → IfErr r Q
if-err (Ok a) f p = p
if-err (Err e) f p = f e p

-- ---- lines

-- a line that asks nothing, of which this text was printed
pub line-goes : (plan done : List PlanLine) (line : PlanLine) (base : Standing) (s o o' : Story) (d : Debugger) (left : ℕ) (text : List ℕ) → asks_of line ≡ 0 → is_some d.sizes ≡ true → IsThere line d
    → TellsLine line d text → o' ≡ with_written text o → IsGoing plan done base (at s o d left) → IsGoing plan (done ++ line ∷ []) base (at s o' d left)
line-goes plan done line base s o o' d left text none known there tells printed k =
    let steps = k.steps ++ Line line ∷ [] in
    let asked : d.tickets ≡ base.debugger.tickets + asks steps = omega (arith, k.asked, none, asks-append k.steps (Line line)) in
    record {
      ready = k.ready;
      kept = k.kept;
      steps = steps;
      are = are-line base.debugger.order done k.steps line k.are;
      told = k.told ++ text;
      reached = reach-passed plan base.debugger k.steps k.told d line text k.reached asked there tells;
      asked = asked;
      stands = stands-line k.steps line base.debugger d none known k.stands;
      read = k.read;
      written = k.written;
      taken = k.taken;
      failed_reads = k.failed_reads;
      failed_writes = k.failed_writes;
      ends = k.ends;
      prompt = k.prompt;
      printed = printed-again base.out o o' k.told text (k.told ++ text) k.printed printed refl;
      turns = k.turns;
    }

-- a line that asks nothing and tells nothing
pub silent-goes : (plan done : List PlanLine) (line : PlanLine) (base : Standing) (s o : Story) (d : Debugger) (left : ℕ) → asks_of line ≡ 0 → is_some d.sizes ≡ true → IsThere line d
    → TellsLine line d [] → IsGoing plan done base (at s o d left) → IsGoing plan (done ++ line ∷ []) base (at s o d left)
silent-goes plan done line base s o d left none known there tells k = line-goes plan done line base s o o d left [] none known there tells (sym (written-none o)) k

pub taken-ready : (mid new : Debugger) → is_open mid.end ≡ true → new ≡ with_taken mid.end.outgoing mid → IsReady new
taken-ready mid new opened is = rw is (opened, grind (arith, common_steps))

-- a line that asks waits for nothing, and tells nothing
ask-there : (line : PlanLine) (set number : ℕ) (bytes : List ℕ) (d : Debugger) → IsAsk line set number bytes → IsThere line d
ask-there (line.Ask s n carried) set number bytes d h = tt
ask-there other set number bytes d h = absurd h

ask-tells : (line : PlanLine) (set number : ℕ) (bytes : List ℕ) (d : Debugger) → IsAsk line set number bytes → TellsLine line d []
ask-tells (line.Ask s n carried) set number bytes d h = refl
ask-tells other set number bytes d h = absurd h

-- a command that was asked
pub asked-moves : (command : Command) (old new : Debugger) → HasAsked command old new → Moves old new 0 1
asked-moves command old new h =
    rw h.is (record {
      order = refl;
      kept = refl;
      fed = refl;
      turns_are = omega arith;
      tickets_are = refl;
      taken = refl;
      bytes = command_bytes h.widths h.id command;
      enqueued = refl;
      outgoing = refl;
    })

-- the line asks it
pub asked-passes : (plan : List PlanLine) (steps : List Step) (line : PlanLine) (base old mid : Debugger) (text : List ℕ) (command : Command) (set number : ℕ) (bytes : List ℕ) → IsAsk line set number bytes
    → is_open old.end ≡ true → refusal_of_ask old command ≡ None → HasAsked command old mid → old.tickets ≡ base.tickets + asks steps → Reaches plan base steps text old
    → Reaches plan base (steps ++ Line line ∷ []) (text ++ []) mid
asked-passes plan steps line base old mid text command set number bytes asks-it opened unrefused asked tickets r =
    reach-passed plan base steps text mid line [] (reach-asked plan base steps text old mid command r opened unrefused asked)
    (omega (arith, tickets, (asked-moves command old mid asked).tickets_are, asks-append steps (Line line), one-asked line set number bytes asks-it)) (ask-there line set number bytes mid asks-it)
    (ask-tells line set number bytes mid asks-it)

pub asked-open : (command : Command) (old new : Debugger) → HasAsked command old new → is_open old.end ≡ true → is_open new.end ≡ true
asked-open command old new h opened = rw h.is opened

-- somebody is named exactly where something is followed
pub follows-so : (ledger : Option Account) (w : Widths) (pending : List Asked) → is_some (named_in ledger) ≡ is_some (following_by ledger w pending)
follows-so None w pending = refl
follows-so (Some a) w pending = refl

-- the count that is due was asked, or the debugger refuses it
pub due-asked : (due : Option ℕ) (found : Option ObjectId) (thread : ObjectId) (command : Command) (old new : Debugger) → found ≡ id_found due → found ≡ Some thread → command ≡ suspend_count thread.0
    → refusal_of_ask old command ≡ None → HasAsked command old new → (own : List Step) × AsksDue due old new own
due-asked None found thread command old new e f is unrefused h = absurd (let g : None ≡ Some thread = sym e ∙ f in cc)
due-asked (Some t) found thread command old new e f is unrefused h =
    let same : t ≡ thread.0 = let g = sym e ∙ f in cc in
    let asks : command ≡ suspend_count t = is ∙ ap (λ (n : ℕ). suspend_count n) (sym same) in
    (Count t ∷ [], inl (refl, rw (← asks) unrefused, rw (← asks) h))

pub due-refused : (due : Option ℕ) (found : Option ObjectId) (thread : ObjectId) (command : Command) (old new : Debugger) → found ≡ id_found due → found ≡ Some thread → command ≡ suspend_count thread.0
    → is_some (refusal_of_ask old command) ≡ true → new ≡ old → (own : List Step) × AsksDue due old new own
due-refused None found thread command old new e f is refused same = absurd (let g : None ≡ Some thread = sym e ∙ f in cc)
due-refused (Some t) found thread command old new e f is refused same =
    let thread-is : t ≡ thread.0 = let g = sym e ∙ f in cc in
    let asks : command ≡ suspend_count t = is ∙ ap (λ (n : ℕ). suspend_count n) (sym thread-is) in
    ([], inr (refl, rw (← asks) refused, same))

-- the count that was due behind a turn, or none
pub due-moves : (due : Option ℕ) (old mid new : Debugger) (own : List Step) (turns : ℕ) → Moves old mid turns 0 → AsksDue due mid new own → Moves old new turns (asks own)
due-moves None old mid new own turns p (none, same) = rw (none, same) p
due-moves (Some thread) old mid new own turns p (inr (none, refused, same)) = rw (none, same) p
due-moves (Some thread) old mid new own turns p (inl (one, unrefused, h)) =
    let q = asked-moves _ mid new h in
    rw one (record {
      order = q.order ∙ p.order;
      kept = q.kept ∙ p.kept;
      fed = q.fed ∙ p.fed;
      turns_are = omega (arith, q.turns_are, p.turns_are);
      tickets_are = omega (arith, q.tickets_are, p.tickets_are);
      bytes = p.bytes ++ q.bytes;
      taken = q.taken ∙ p.taken;
      enqueued = q.enqueued ∙ ap (λ (x : List ℕ). x ++ q.bytes) p.enqueued ∙ append_assoc old.end.session.enqueued p.bytes q.bytes;
      outgoing = q.outgoing ∙ ap (λ (x : List ℕ). x ++ q.bytes) p.outgoing ∙ append_assoc old.end.outgoing p.bytes q.bytes;
    })

-- one is asked of an open session alone
pub due-opens : (due : Option ℕ) (mid new : Debugger) (own : List Step) → AsksDue due mid new own → is_open new.end ≡ true → is_open mid.end ≡ true
due-opens None mid new own (none, same) opened = rw same at opened
due-opens (Some thread) mid new own (inr (none, refused, same)) opened = rw same at opened
due-opens (Some thread) mid new own (inl (one, unrefused, h)) opened = rw h.established refl

pub due-closed : (due : Option ℕ) (mid new : Debugger) (own : List Step) → AsksDue due mid new own → is_open new.end ≡ false → new ≡ mid
due-closed None mid new own (none, same) closed = same
due-closed (Some thread) mid new own (inr (none, refused, same)) closed = same
due-closed (Some thread) mid new own (inl (one, unrefused, h)) closed =
    absurd (let e = sym closed ∙ asked-open _ mid new h (rw h.established refl) in cc)

-- what the turn told stays
due-same : (due : Option ℕ) (mid new : Debugger) (own : List Step) → AsksDue due mid new own → (new.last ≡ mid.last) × (new.sizes ≡ mid.sizes)
due-same None mid new own (none, same) = rw same (refl, refl)
due-same (Some thread) mid new own (inr (none, refused, same)) = rw same (refl, refl)
due-same (Some thread) mid new own (inl (one, unrefused, h)) = rw h.is (refl, refl)

pub due-sizes : (due : Option ℕ) (mid new : Debugger) (own : List Step) → AsksDue due mid new own → new.sizes ≡ mid.sizes
due-sizes due mid new own h = (due-same due mid new own h).1

pub due-lines : (due : Option ℕ) (mid new : Debugger) (own : List Step) (r : Read) → AsksDue due mid new own → lines_of (Ok r) new ≡ lines_of (Ok r) mid
due-lines due mid new own r h =
    let same = due-same due mid new own h in
    rw (same.0, same.1) refl

-- ---- what a turn is made for

-- the widths of ids
pub none-is : {A : Type 0} (r o : Option A) (b : Bool) → r ≡ o → is_some r ≡ not b → b ≡ true → o ≡ None
none-is None o b is e test = sym is
none-is (Some x) o b is e test = absurd (let f : true ≡ false = e ∙ ap not test in cc)

-- answers
pub answers-awaited : (plan done : List PlanLine) (d : Debugger) → IsAtAnswers plan done → has_tickets d.pending ≡ true → Awaits plan done d
answers-awaited plan done d at waits =
    elim at [
      | inl next ↦ inr (inl (line.Answers, next, waits))
      | inr all ↦ inr (inr (all, waits))
    ]

-- composites
pub events-awaited : (plan done : List PlanLine) (d : Debugger) (count : ℕ) → IsNextLine (line.Events count) plan done → HandlesFewer count d → Awaits plan done d
events-awaited plan done d count next fewer = inr (inl (line.Events count, next, fewer))

-- ---- commands that wait

first-by : (k : Option Ticket) (c : Command) (us : List Unanswered) (b : Bool) → (at_place us 0 ≡ None → b ≡ false) → at_place (and_then k c us) 0 ≡ None → (is_some k || b) ≡ false
first-by None c us b rest e = rest e
first-by (Some k) c us b rest e = absurd cc

first-none : (ps : List Asked) → at_place (unanswered ps) 0 ≡ None → has_tickets ps ≡ false
first-none [] e = refl
first-none (p ∷ ps) e = first-by p.ticket p.command (unanswered ps) (has_tickets ps) (first-none ps) e

none-by : (k : Option Ticket) (c : Command) (us : List Unanswered) (b : Bool) → (b ≡ false → is_some (at_place us 0) ≡ true → ⊥) → (is_some k || b) ≡ false → is_some (at_place (and_then k c us) 0) ≡ true → ⊥
none-by None c us b rest e some = rest e some
none-by (Some k) c us b rest e some = cc

none-first : (ps : List Asked) → has_tickets ps ≡ false → is_some (at_place (unanswered ps) 0) ≡ true → ⊥
none-first [] e some = cc
none-first (p ∷ ps) e some = none-by p.ticket p.command (unanswered ps) (has_tickets ps) (none-first ps) e some

seen-some : (r : Option (Ticket × Bor Command)) (u : Option Unanswered) → is_some r ≡ true → seen_unanswered r ≡ u → is_some u ≡ true
seen-some None u some e = absurd cc
seen-some (Some x) u some e = ap (λ (o : Option Unanswered). is_some o) (sym e)

seen-none : (r : Option (Ticket × Bor Command)) (u : Option Unanswered) → is_some r ≡ false → seen_unanswered r ≡ u → u ≡ None
seen-none None u none e = sym e
seen-none (Some x) u none e = absurd cc

first-some : (ps : List Asked) → is_some (at_place (unanswered ps) 0) ≡ true → has_tickets ps ≡ true
first-some ps e =
    elim (has_tickets ps) as (λ (b : Bool). has_tickets ps ≡ b → b ≡ true) [
      | true ↦ λ is. refl
      | false ↦ λ is. absurd (none-first ps is e)
    ] refl

pub some-waits : (ps : List Asked) (r : Option (Ticket × Bor Command)) → is_some r ≡ true → seen_unanswered r ≡ at_place (unanswered ps) 0 → has_tickets ps ≡ true
some-waits ps r some e = first-some ps (seen-some r _ some e)

pub none-waits : (ps : List Asked) (r : Option (Ticket × Bor Command)) → is_some r ≡ false → seen_unanswered r ≡ at_place (unanswered ps) 0 → has_tickets ps ≡ false
none-waits ps r none e = first-none ps (seen-none r _ none e)
