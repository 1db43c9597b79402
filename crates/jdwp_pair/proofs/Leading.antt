-- events one after the other, and what they lead to together
use Rattle.std.proofs.Common.{◌≡◌, ◌≤◌, inl, inr, ℕ, ◌+◌, ◌-◌, nat_lt, Bool, true, false, ◌||◌, List, [], ◌∷◌, ◌++◌, length, Option, Some, None, Result, Ok, Err, IfOk, IfErr, OnErr, OnOk, if◌then◌else◌, refl, sym, ◌∙◌, ap, subst, arith}
use Rattle.std.proofs.lemmas.Grind.{common_steps}
use Rattle.std.proofs.lemmas.List.{append_assoc}
use Rattle.std.specs.List.{AllByRecursion}
use Rattle.jdwp_wire.specs.Streams as streams
use Rattle.jdwp_machine.specs.Meanings.{Meaning}
use Rattle.jdwp_debuggee.specs.Settings.{Settings}
use Rattle.jdwp_debuggee.specs.State.{Moment}
use Rattle.jdwp_debuggee.specs.Steps.{occurs}
use Rattle.jdwp_model.specs.Events as events
use Rattle.jdwp_model.specs.Events.{LinkEvent}
use Rattle.jdwp_model.specs.Next.{acts, did_after, next, outcomes, run, stepped, steps, steps_now}
use Rattle.jdwp_model.specs.World.{Measure, World}
use Rattle.jdwp_model.specs.Measures.{measured}
use Rattle.jdwp_link.specs.declared.events.Outcome.{Outcome}
use Rattle.jdwp_link.specs.Clauses.{Ran, measure_of}
use Rattle.jdwp_link.specs.Links.{Link}
use Rattle.jdwp_link.specs.Stands.{IsLink, StandsFor}
use Rattle.jdwp_link.specs.Told.{told_outcomes}
use Rattle.jdwp_engine.specs.Rounds.{IsNext}
use Rattle.jdwp_end.specs.Story.{Story, with_written}
use Rattle.jdwp_pair.specs.declared.ended.PairEnded.{PairEnded}
use Rattle.jdwp_pair.specs.declared.ended.PairEnded.TheVariants as ended
use Rattle.jdwp_pair.specs.Events.{Happens, IsQuiet, Leads, Rests, Moved, Turned, AskedCount, Moves, Quietly, Standing, Stays, counted, piece, read_by, seen_in}
use Rattle.jdwp_pair.specs.Rounds.{ComesToDebugger, ComesToTarget, EndsAt, EndsMoving, EndsQuietly, MayCountWhere, MovesOn, PieceToDebugger, PieceToTarget, ReadsWhatComes, ReleasesOrSteps, Repeats, NotYet, OneMore, RunsMachine, StepsEach, Over, Steps, StepsUntil, TurnsDebugger, TurnsTarget, Until, most_times}
use Rattle.jdwp_pair.specs.Telling.{FailsToTell, turn_text}

run-append : {S : Type 0} (m : Meaning S) (settings : Settings) (measure : Measure) (x : World S) (es fs : List LinkEvent) → run m settings measure x (es ++ fs) ≡ run m settings measure (run m settings measure x es) fs
run-append m settings measure x [] fs = refl
run-append m settings measure x (e ∷ es) fs = run-append m settings measure (next m settings measure x e).0 es fs

outcomes-append : {S : Type 0} (m : Meaning S) (settings : Settings) (measure : Measure) (x : World S) (es fs : List LinkEvent)
    → outcomes m settings measure x (es ++ fs) ≡ outcomes m settings measure x es ++ outcomes m settings measure (run m settings measure x es) fs
outcomes-append m settings measure x [] fs = refl
outcomes-append m settings measure x (e ∷ es) fs =
    ap (λ os. (next m settings measure x e).1 ++ os) (outcomes-append m settings measure (next m settings measure x e).0 es fs)
    ∙ sym (append_assoc (next m settings measure x e).1 (outcomes m settings measure (next m settings measure x e).0 es) (outcomes m settings measure (run m settings measure (next m settings measure x e).0 es) fs))

did-append : {S : Type 0} (m : Meaning S) (settings : Settings) (measure : Measure) (x : World S) (before : Bool) (es fs : List LinkEvent)
    → did_after m settings measure x before (es ++ fs) ≡ did_after m settings measure (run m settings measure x es) (did_after m settings measure x before es) fs
did-append m settings measure x before [] fs = refl
did-append m settings measure x before (e ∷ es) fs = did-append m settings measure (next m settings measure x e).0 (acts m settings measure x e) es fs

told-append : (xs ys : List events.Outcome) → told_outcomes (xs ++ ys) ≡ told_outcomes xs ++ told_outcomes ys
told-append [] ys = refl
told-append (x ∷ xs) ys = ap (λ l. told_outcomes (x ∷ []) ++ l) (told-append xs ys)

-- ---- runs

-- no event
pub ran-none : {S : Type 0} (m : Meaning S) (l : Link S) → Ran m [] l l []
ran-none m l = record { stands = λ x s. s; tells = λ x s. refl; did = λ x s. refl; settings = λ x s. refl; sizes = λ x s. refl }

-- events, and then others
pub ran-both : {S : Type 0} (m : Meaning S) (es fs : List LinkEvent) (old mid new : Link S) (os more : List Outcome) → Ran m es old mid os → Ran m fs mid new more → Ran m (es ++ fs) old new (os ++ more)
ran-both {S} m es fs old mid new os more r g =
    let measure = measure_of m old in
    let settings = old.target.settings in
    let at = λ (x : World S). run m settings measure x es in
    let same = λ (x : World S) (s : StandsFor m old x). ap (λ v. measured v mid.target.settings.limits) (r.sizes x s) ∙ ap (λ u. measured (m.sizes old.target.moment.machine) u.limits) (r.settings x s) in
    let run-is : (x : World S) → StandsFor m old x → run m mid.target.settings (measure_of m mid) (at x) fs ≡ run m settings measure (at x) fs =
    (λ x s. ap (λ u. run m u (measure_of m mid) (at x) fs) (r.settings x s) ∙ ap (λ q. run m settings q (at x) fs) (same x s)) in
    let told-is : (x : World S) → StandsFor m old x → outcomes m mid.target.settings (measure_of m mid) (at x) fs ≡ outcomes m settings measure (at x) fs =
    (λ x s. ap (λ u. outcomes m u (measure_of m mid) (at x) fs) (r.settings x s) ∙ ap (λ q. outcomes m settings q (at x) fs) (same x s)) in
    record {
      stands = λ x s. subst (StandsFor m new) (run-is x s ∙ sym (run-append m settings measure x es fs)) (g.stands (at x) (r.stands x s));
      tells = λ x s. ap (λ l. l ++ more) (r.tells x s) ∙ (ap (λ l. told_outcomes (outcomes m settings measure x es) ++ l) (g.tells (at x) (r.stands x s) ∙ ap told_outcomes (told-is x s))
          ∙ (sym (told-append (outcomes m settings measure x es) (outcomes m settings measure (at x) fs)) ∙ ap told_outcomes (sym (outcomes-append m settings measure x es fs))));
      did = λ x s. g.did (at x) (r.stands x s) ∙ (ap (λ u. did_after m u (measure_of m mid) (at x) mid.did fs) (r.settings x s) ∙ (ap (λ q. did_after m settings q (at x) mid.did fs) (same x s)
          ∙ (ap (λ b. did_after m settings measure (at x) b fs) (r.did x s) ∙ sym (did-append m settings measure x old.did es fs))));
      settings = λ x s. g.settings (at x) (r.stands x s) ∙ r.settings x s;
      sizes = λ x s. g.sizes (at x) (r.stands x s) ∙ r.sizes x s;
    }

-- ---- events of which nothing is told

pub all-append : (P : LinkEvent → Type 0) (es fs : List LinkEvent) → AllByRecursion P es → AllByRecursion P fs → AllByRecursion P (es ++ fs)
all-append P [] fs a b = b
all-append P (e ∷ es) fs a b = (a.0, all-append P es fs a.1 b)

-- of no event nothing is told
stays-told : {S : Type 0} (m : Meaning S) (old new : Link S) (os : List Outcome) → IsLink m old → Ran m [] old new os → os ≡ []
stays-told m old new os l r = r.tells l.world l.stands

-- nor is of these
quiet-told : {S : Type 0} (m : Meaning S) (e : LinkEvent) (old new : Link S) (os : List Outcome) → IsLink m old → IsQuiet e → Ran m (e ∷ []) old new os → os ≡ []
quiet-told m (events.ToTarget n) old new os l q r = r.tells l.world l.stands
quiet-told m (events.ToDebugger n) old new os l q r = r.tells l.world l.stands
quiet-told m events.TargetTurn old new os l q r = r.tells l.world l.stands
quiet-told m (events.Step t) old new os l q r = r.tells l.world l.stands
quiet-told m (events.Release place) old new os l q r = r.tells l.world l.stands
quiet-told m events.DebuggerTurn old new os l q r = absurd q
quiet-told m events.Attach old new os l q r = absurd q
quiet-told m (events.Ask c) old new os l q r = absurd q
quiet-told m events.TargetLoses old new os l q r = absurd q
quiet-told m events.DebuggerLoses old new os l q r = absurd q
quiet-told m (events.Defer d) old new os l q r = absurd q

pub quietly : {S : Type 0} (m : Meaning S) (e : LinkEvent) (old new : Link S) (os : List Outcome) → IsLink m old → IsQuiet e → Ran m (e ∷ []) old new os → Quietly m e old new
quietly m e old new os l q r = subst (λ (told : List Outcome). Ran m (e ∷ []) old new told) (quiet-told m e old new os l q r) r

pub moves-none : {S : Type 0} (m : Meaning S) (l : Link S) → Moves m l l
moves-none m l = ([], tt, ran-none m l)

pub moves-on : {S : Type 0} (m : Meaning S) (old mid new : Link S) → Moves m old mid → Moves m mid new → Moves m old new
moves-on m old mid new (es, a, r) (fs, b, g) = (es ++ fs, all-append IsQuiet es fs a b, ran-both m es fs old mid new [] [] r g)

pub moves-one : {S : Type 0} (m : Meaning S) (e : LinkEvent) (old new : Link S) → IsQuiet e → Quietly m e old new → Moves m old new
moves-one m e old new q r = (e ∷ [], (q, tt), r)

stays-moves : {S : Type 0} (m : Meaning S) (old new : Link S) → IsLink m old → Stays m old new → Moves m old new
stays-moves m old new l (os, r) = ([], tt, subst (λ (told : List Outcome). Ran m [] old new told) (stays-told m old new os l r) r)

happened-moves : {S : Type 0} (m : Meaning S) (e : LinkEvent) (old new : Link S) → IsLink m old → IsQuiet e → Happens m e old new → Moves m old new
happened-moves m e old new l q (os, r) = moves-one m e old new q (quietly m e old new os l q r)

-- one of them that ended the run
pub quiet-ends : {S : Type 0} (m : Meaning S) (e : LinkEvent) (how : PairEnded) (old new : Link S) → IsLink m old → IsQuiet e → EndsAt m e how old new → EndsQuietly m how old new
quiet-ends m e ended.NoMemory old new l q h = (tt, stays-moves m old new l h)
quiet-ends m e ended.LostConnection old new l q (inl h) = (tt, stays-moves m old new l h)
quiet-ends m e ended.LostConnection old new l q (inr h) = (tt, happened-moves m e old new l q h)
quiet-ends m e ended.LostByWrite old new l q h = absurd h
quiet-ends m e (ended.RefusedLine place number) old new l q h = absurd h
quiet-ends m e ended.Done old new l q h = absurd h
quiet-ends m e ended.TurnLimit old new l q h = absurd h
quiet-ends m e (ended.Standstill waits) old new l q h = absurd h

-- behind others
pub quietly-ends : {S : Type 0} (m : Meaning S) (how : PairEnded) (old mid new : Link S) → Moves m old mid → EndsQuietly m how mid new → EndsQuietly m how old new
quietly-ends m how old mid new moves (fails, more) = (fails, moves-on m old mid new moves more)

-- ---- again and again

pub repeats-move : {S : Type 0} (m : Meaning S) (Does : Link S → Bool → Link S → Type 0) (each : (a b : Link S) (did : Bool) → Does a did b → Moves m a b) (old : Link S) (n : ℕ) (new : Link S) → Repeats Does old n new → Moves m old new
repeats-move m Does each old _ _ NotYet = moves-none m old
repeats-move m Does each old _ _ (OneMore n mid new r d) = moves-on m old mid new (repeats-move m Does each old n mid r) (each mid new true d)

until-moves : {S : Type 0} (m : Meaning S) (Does : Link S → Bool → Link S → Type 0) (each : (a b : Link S) (did : Bool) → Does a did b → Moves m a b) (old new : Link S) (did : Bool) → Until Does old did new → Moves m old new
until-moves m Does each old new did u =
    let before = repeats-move m Does each old u.times u.last u.repeats in
    elim u.ends [
      | inl d ↦ moves-on m old u.last new before (each u.last new false d)
      | inr e ↦ subst (λ l. Moves m old l) (sym e.1) before
    ]

-- it stopped, or was done as often as it may be
pub until-stops : {A : Type 0} (Does : A → Bool → A → Type 0) (old last new : A) (n : ℕ) (did : Bool) → Repeats Does old n last → Does last false new → did ≡ nat_lt 0 n → Until Does old did new
until-stops Does old last new n did r d e = record { times = n; last = last; repeats = r; ends = inl d; whether = e }

pub until-used : {A : Type 0} (Does : A → Bool → A → Type 0) (old new : A) (n : ℕ) (did : Bool) → Repeats Does old n new → n ≡ most_times → did ≡ nat_lt 0 n → Until Does old did new
until-used Does old new n did r all e = record { times = n; last = new; repeats = r; ends = inr (all, refl); whether = e }

pub once-more : (n : ℕ) → true ≡ nat_lt 0 (n + 1)
once-more n = grind (arith, common_steps)

-- ---- bytes come to an end, and it handles them

pub piece-to-target-moves : {S : Type 0} (m : Meaning S) (old new : Link S) (whole : Bool) → PieceToTarget m old whole new → Moves m old new
piece-to-target-moves m old new whole (r, e) = moves-one m (events.ToTarget piece) old new (omega arith) r

pub piece-to-debugger-moves : {S : Type 0} (m : Meaning S) (old new : Link S) (whole : Bool) → PieceToDebugger m old whole new → Moves m old new
piece-to-debugger-moves m old new whole (r, e) = moves-one m (events.ToDebugger piece) old new (omega arith) r

pub come-to-target-moves : {S : Type 0} (m : Meaning S) (old new : Link S) → ComesToTarget m old new → Moves m old new
come-to-target-moves m old new (some, u) = until-moves m (PieceToTarget m) (λ a b did d. piece-to-target-moves m a b did d) old new some u

pub come-to-debugger-moves : {S : Type 0} (m : Meaning S) (old new : Link S) → ComesToDebugger m old new → Moves m old new
come-to-debugger-moves m old new (some, u) = until-moves m (PieceToDebugger m) (λ a b did d. piece-to-debugger-moves m a b did d) old new some u

pub turns-target-moves : {S : Type 0} (m : Meaning S) (old new : Link S) (handled : Bool) → TurnsTarget m old handled new → Moves m old new
turns-target-moves m old new handled (fed, comes, r, e) = moves-on m old fed new (come-to-target-moves m old fed comes) (moves-one m events.TargetTurn fed new tt r)

pub target-moves : {S : Type 0} (m : Meaning S) (old new : Link S) (handled : Bool) → Until (TurnsTarget m) old handled new → Moves m old new
target-moves m old new handled u = until-moves m (TurnsTarget m) (λ a b did d. turns-target-moves m a b did d) old new handled u

-- ---- the machine

or-assoc : (a b c : Bool) → (a || (b || c)) ≡ ((a || b) || c)
or-assoc true b c = refl
or-assoc false b c = refl

or-false : (a : Bool) → (a || false) ≡ a
or-false true = refl
or-false false = refl

-- nothing was stepped yet; a thread stepped; and there is no other
pub steps-begin : {S : Type 0} (m : Meaning S) (first : Link S) → StepsUntil m first false None first
steps-begin m first more new rest = rest

pub steps-on : {S : Type 0} (m : Meaning S) (first now mid : Link S) (made after : Bool) (last : Option ℕ) (t : ℕ) → StepsUntil m first made last now → IsNext (m.live now.target.moment.machine) last (Some t) → Quietly m (events.Step t) now mid
    → after ≡ (made || mid.did) → StepsUntil m first after (Some t) mid
steps-on m first now mid made after last t u next r e = λ more new rest.
    subst (λ (b : Bool). StepsEach m None first b new) (or-assoc made mid.did more ∙ ap (λ (b : Bool). b || more) (sym e)) (u (mid.did || more) new (Steps last now mid new t more next r rest))

pub steps-over : {S : Type 0} (m : Meaning S) (first now : Link S) (made : Bool) (last : Option ℕ) → StepsUntil m first made last now → IsNext (m.live now.target.moment.machine) last None → StepsEach m None first made now
steps-over m first now made last u over = subst (λ (b : Bool). StepsEach m None first b now) (or-false made) (u false now (Over last now over))

-- a step that was not made left the threads that live as they were
pub unmade-live : {S : Type 0} (m : Meaning S) (t : ℕ) (old new : Link S) → IsLink m old → Quietly m (events.Step t) old new → new.did ≡ false
    → m.live new.target.moment.machine ≡ m.live old.target.moment.machine
unmade-live {S} m t old new l r none =
    let x = l.world in
    let unmade : steps_now m old.target.settings (measure_of m old) x t ≡ false = sym (r.did x l.stands) ∙ none in
    let same : steps m old.target.settings (measure_of m old) x t ≡ x = ap (λ (b : Bool). if b then stepped x (occurs m x.now t) else x) unmade in
    ap (λ (now : Moment S). m.live now.machine) ((r.stands x l.stands).parts.target.now ∙ (ap (λ (w : World S). w.now) same ∙ sym l.stands.parts.target.now))

pub steps-move : {S : Type 0} (m : Meaning S) (last : Option ℕ) (old : Link S) (did : Bool) (new : Link S) → StepsEach m last old did new → Moves m old new
steps-move m _ _ _ _ (Over last l over) = moves-none m l
steps-move m _ _ _ _ (Steps last old mid new t more next r rest) = moves-on m old mid new (moves-one m (events.Step t) old mid tt r) (steps-move m (Some t) mid more new rest)

-- the newest of some
pub releases-newest : {S : Type 0} (m : Meaning S) (deferred : List streams.Message) (n : ℕ) (old new : Link S) → n ≡ length deferred → (n ≡ 0 → ⊥) → Quietly m (events.Release (n - 1)) old new → ReleasesOrSteps m deferred old new.did new
releases-newest m [] n old new e some r = absurd (some e)
releases-newest m (oldest ∷ later) n old new e some r =
    let place : n - 1 ≡ length later = grind (arith, common_steps, e) in
    (subst (λ (k : ℕ). Quietly m (events.Release k) old new) place r, refl)

pub steps-none : {S : Type 0} (m : Meaning S) (deferred : List streams.Message) (n : ℕ) (old new : Link S) (did : Bool) → n ≡ length deferred → n ≡ 0 → StepsEach m None old did new → ReleasesOrSteps m deferred old did new
steps-none m [] n old new did e none s = s
steps-none m (oldest ∷ later) n old new did e none s = absurd (grind (arith, common_steps, e, none))

releases-or-steps-move : {S : Type 0} (m : Meaning S) (deferred : List streams.Message) (old new : Link S) (did : Bool) → ReleasesOrSteps m deferred old did new → Moves m old new
releases-or-steps-move m [] old new did s = steps-move m None old did new s
releases-or-steps-move m (oldest ∷ later) old new did (r, e) = moves-one m (events.Release (length later)) old new tt r

moves-on-moves : {S : Type 0} (m : Meaning S) (handled : Bool) (old new : Link S) (did : Bool) → MovesOn m handled old did new → Moves m old new
moves-on-moves m true old new did (e, same) = subst (λ l. Moves m old l) (sym same) (moves-none m old)
moves-on-moves m false old new did r = releases-or-steps-move m old.target.deferred old new did r

pub machine-moves : {S : Type 0} (m : Meaning S) (old new : Link S) (did : Bool) → RunsMachine m old did new → Moves m old new
machine-moves m old new did (handled, mid, u, r) = moves-on m old mid new (target-moves m old mid handled u) (moves-on-moves m handled mid new did r)

-- ---- the debugger

pub leads-on : {S : Type 0} (m : Meaning S) (a b c : Standing S) → Leads m a b → Leads m b c → Leads m a c
leads-on m a b _ x Rests = x
leads-on m a b _ x (Moved old new l moves) = Moved old new (leads-on m a b old x l) moves
leads-on m a b _ x (Turned old new handled l r) = Turned old new handled (leads-on m a b old x l) r
leads-on m a b _ x (AskedCount old new l c) = AskedCount old new (leads-on m a b old x l) c

pub leads-moved : {S : Type 0} (m : Meaning S) (old : Standing S) (new : Link S) → Moves m old.link new → Leads m old (record old { link = new })
leads-moved m old new moves = Moved old new Rests moves

pub reads-lead : {S : Type 0} (m : Meaning S) (old new : Standing S) (handled : Bool) → ReadsWhatComes m old handled new → Leads m old new
reads-lead m old new handled (fed, comes, r) = Turned (record old { link = fed }) new handled (leads-moved m old fed (come-to-debugger-moves m old.link fed comes)) r

count-leads : {S : Type 0} (m : Meaning S) (first read : Standing S) (handled : Bool) (new : Standing S) → Leads m first read → MayCountWhere m handled read new → Leads m first new
count-leads m first read true new l (counted, c, e) = subst (λ s. Leads m first s) (sym e) (AskedCount read counted l c)
count-leads m first read false new l e = subst (λ s. Leads m first s) (sym e) l

turns-debugger-lead : {S : Type 0} (m : Meaning S) (old new : Standing S) (handled : Bool) → TurnsDebugger m old handled new → Leads m old new
turns-debugger-lead m old new handled (read, r, c) = count-leads m old read handled new (reads-lead m old read handled r) c

pub repeats-lead : {S : Type 0} (m : Meaning S) (old : Standing S) (n : ℕ) (new : Standing S) → Repeats (TurnsDebugger m) old n new → Leads m old new
repeats-lead m old _ _ NotYet = Rests
repeats-lead m old _ _ (OneMore n mid new r d) = leads-on m old mid new (repeats-lead m old n mid r) (turns-debugger-lead m mid new true d)

pub debugger-leads : {S : Type 0} (m : Meaning S) (old new : Standing S) (handled : Bool) → Until (TurnsDebugger m) old handled new → Leads m old new
debugger-leads m old new handled u =
    let before = repeats-lead m old u.times u.last u.repeats in
    elim u.ends [
      | inl d ↦ leads-on m old u.last new before (turns-debugger-lead m u.last new false d)
      | inr e ↦ subst (λ s. Leads m old s) (sym e.1) before
    ]

-- ---- ends of a round

-- an event of which nothing is told ended it
pub moving-ends : {S : Type 0} (m : Meaning S) (how : PairEnded) (old : Standing S) (new : Link S) → EndsQuietly m how old.link new → EndsMoving m how old new old.out
moving-ends m ended.NoMemory old new (fails, moves) = (record old { link = new }, leads-moved m old new moves, (inl ([], ran-none m new), refl))
moving-ends m ended.LostConnection old new (fails, moves) = (record old { link = new }, leads-moved m old new moves, (inl ([], ran-none m new), refl))
moving-ends m ended.LostByWrite old new (fails, moves) = absurd fails
moving-ends m (ended.RefusedLine place number) old new (fails, moves) = absurd fails
moving-ends m ended.Done old new (fails, moves) = absurd fails
moving-ends m ended.TurnLimit old new (fails, moves) = absurd fails
moving-ends m (ended.Standstill waits) old new (fails, moves) = absurd fails

-- a turn of the debugger did, behind bytes that came
pub turning-ends : {S : Type 0} (m : Meaning S) (how : PairEnded) (old : Standing S) (fed new : Link S) → Moves m old.link fed → EndsAt m events.DebuggerTurn how fed new → EndsMoving m how old new old.out
turning-ends m ended.NoMemory old fed new moves h = (record old { link = fed }, leads-moved m old fed moves, (inl h, refl))
turning-ends m ended.LostConnection old fed new moves h = (record old { link = fed }, leads-moved m old fed moves, (h, refl))
turning-ends m ended.LostByWrite old fed new moves h = absurd h
turning-ends m (ended.RefusedLine place number) old fed new moves h = absurd h
turning-ends m ended.Done old fed new moves h = absurd h
turning-ends m ended.TurnLimit old fed new moves h = absurd h
turning-ends m (ended.Standstill waits) old fed new moves h = absurd h

-- telling what it read did
pub telling-ends : {S : Type 0} (m : Meaning S) (how : PairEnded) (old : Standing S) (fed new : Link S) (told : List Outcome) (after : Story) → Moves m old.link fed → Ran m (events.DebuggerTurn ∷ []) fed new told
    → FailsToTell (turn_text new.debugger told) how old.out after → EndsMoving m how old new after
telling-ends m ended.NoMemory old fed new told after moves r e = (record old { link = fed }, leads-moved m old fed moves, (inr (told, r), e))
telling-ends m ended.LostByWrite old fed new told after moves r f = (record old { link = fed }, leads-moved m old fed moves, (told, r, f))
telling-ends m ended.LostConnection old fed new told after moves r f = absurd f
telling-ends m (ended.RefusedLine place number) old fed new told after moves r f = absurd f
telling-ends m ended.Done old fed new told after moves r f = absurd f
telling-ends m ended.TurnLimit old fed new told after moves r f = absurd f
telling-ends m (ended.Standstill waits) old fed new told after moves r f = absurd f

-- behind other events
pub ends-behind : {S : Type 0} (m : Meaning S) (how : PairEnded) (a b : Standing S) (new : Link S) (after : Story) → Leads m a b → EndsMoving m how b new after → EndsMoving m how a new after
ends-behind m how a b new after l (last, more, e) = (last, leads-on m a b last l more, e)

-- ---- where a call succeeded, or failed

pub on-ok : {A E P Q : Type 0} (r : Result A E) → (P → Q) → OnOk r P → OnOk r Q
on-ok (Ok a) f p = f p
on-ok (Err e) f p = p

pub on-err : {A E P Q : Type 0} (r : Result A E) → (P → Q) → OnErr r P → OnErr r Q
on-err (Ok a) f p = p
on-err (Err e) f p = f p

pub always-err : {A E P : Type 0} (r : Result A E) → P → OnErr r P
always-err (Ok a) p = tt
always-err (Err e) p = p

pub if-ok : {A E : Type 0} {P Q : A → Type 0} (r : Result A E) → ((a : A) → P a → Q a) → IfOk r P → IfOk r Q
if-ok (Ok a) f p = f a p
if-ok (Err e) f p = p

pub if-err : {A E : Type 0} {P Q : E → Type 0} (r : Result A E) → ((e : E) → P e → Q e) → IfErr r P → IfErr r Q
if-err (Ok a) f p = p
if-err (Err e) f p = f e p

-- ---- what a turn of the debugger leaves

pub read-so : {S : Type 0} (told : List Outcome) (new : Link S) (old : Standing S) (read : ℕ) (out : Story) → read ≡ counted (old.read + seen_in told) → out ≡ with_written (turn_text new.debugger told) old.out
    → record old { link = new; read = read; out = out } ≡ read_by told new old
read-so told new old read out e f = ap (λ (n : ℕ). record old { link = new; read = n; out = out }) e ∙ ap (λ (s : Story). record old { link = new; read = counted (old.read + seen_in told); out = s }) f

pub release-else : {S A : Type 0} (m : Meaning S) (r : Result Bool A) (deferred : List streams.Message) (n : ℕ) (old new : Link S) → n ≡ length deferred → n ≡ 0 → IfOk r (λ did. StepsEach m None old did new) → IfOk r (λ did. ReleasesOrSteps m deferred old did new)
release-else m r deferred n old new e none h = if-ok r (λ did s. steps-none m deferred n old new did e none s) h
