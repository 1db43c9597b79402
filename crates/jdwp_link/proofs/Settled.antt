-- what is told of a run, from the beginning of the link on
use Rattle.std.proofs.Common.{◌≡◌, ℕ, ◌+◌, inr, Some, None, List, [], ◌∷◌, ◌++◌, map, refl, sym, ◌∙◌, ap, subst, arith}
use Rattle.std.proofs.lemmas.List.{append_assoc}
use Rattle.jdwp_wire.specs.Widths.{Widths}
use Rattle.jdwp_layout.specs.declared.answer.Answer.{Answer}
use Rattle.jdwp_machine.specs.Meanings.{Meaning}
use Rattle.jdwp_action.specs.Actions.{Command}
use Rattle.jdwp_debuggee.specs.Settings.{Settings}
use Rattle.jdwp_mirror.specs.Messages as mirror
use Rattle.jdwp_debugger.specs.Debuggers.{tickets_of}
use Rattle.jdwp_debugger.specs.declared.pending.Ticket.{Ticket}
use Rattle.jdwp_model.specs.Events as events
use Rattle.jdwp_model.specs.Events.{LinkEvent}
use Rattle.jdwp_model.specs.Given.{IsIn, TellsWhatWasGiven, told_answers}
use Rattle.jdwp_model.specs.Next.{lost_tickets, next, outcomes, run}
use Rattle.jdwp_model.specs.Tickets.{SettlesOnce, settled, tickets, tickets_to, times}
use Rattle.jdwp_model.specs.World.{Measure, World, opening}
use Rattle.jdwp_link.specs.declared.events.Outcome.{Outcome}
use Rattle.jdwp_link.specs.Clauses.{measure_of}
use Rattle.jdwp_link.specs.EventParts.{lost_of}
use Rattle.jdwp_link.specs.Laws.{HoldsOfWorlds}
use Rattle.jdwp_link.specs.Links.{Link}
use Rattle.jdwp_link.specs.Outcomes.{SettlesEachOnce, TellsAsGiven, answers_in, settled_in, waiting_at}
use Rattle.jdwp_link.specs.Stands.{Parts, StandsFor}
use Rattle.jdwp_link.specs.Told.{told_outcomes}
use Rattle.jdwp_link.proofs.Losing.{loses-tells}
use Rattle.jdwp_link.proofs.Reached.{Known, known}

-- ---- one list of events behind another

run-append : {S : Type 0} (m : Meaning S) (settings : Settings) (measure : Measure) (x : World S) (before es : List LinkEvent)
    → run m settings measure x (before ++ es) ≡ run m settings measure (run m settings measure x before) es
run-append m settings measure x [] es = refl
run-append m settings measure x (e ∷ before) es = run-append m settings measure (next m settings measure x e).0 before es

outcomes-append : {S : Type 0} (m : Meaning S) (settings : Settings) (measure : Measure) (x : World S) (before es : List LinkEvent)
    → outcomes m settings measure x (before ++ es) ≡ outcomes m settings measure x before ++ outcomes m settings measure (run m settings measure x before) es
outcomes-append m settings measure x [] es = refl
outcomes-append m settings measure x (e ∷ before) es =
    ap (λ os. (next m settings measure x e).1 ++ os) (outcomes-append m settings measure (next m settings measure x e).0 before es)
    ∙ sym (append_assoc (next m settings measure x e).1 (outcomes m settings measure (next m settings measure x e).0 before) (outcomes m settings measure (run m settings measure (next m settings measure x e).0 before) es))

-- ---- tickets

settled-told : (os : List events.Outcome) → settled_in (told_outcomes os) ≡ settled os
settled-told [] = refl
settled-told (events.Answered k answer ∷ os) = ap (λ l. k ∷ l) (settled-told os)
settled-told (events.Lost k ∷ os) = ap (λ l. k ∷ l) (settled-told os)
settled-told (events.Asked k ∷ os) = settled-told os
settled-told (events.Refused r ∷ os) = settled-told os
settled-told (events.Seen c ∷ os) = settled-told os

settled-append : (xs ys : List events.Outcome) → settled (xs ++ ys) ≡ settled xs ++ settled ys
settled-append [] ys = refl
settled-append (events.Answered k answer ∷ xs) ys = ap (λ l. k ∷ l) (settled-append xs ys)
settled-append (events.Lost k ∷ xs) ys = ap (λ l. k ∷ l) (settled-append xs ys)
settled-append (events.Asked k ∷ xs) ys = settled-append xs ys
settled-append (events.Refused r ∷ xs) ys = settled-append xs ys
settled-append (events.Seen c ∷ xs) ys = settled-append xs ys

settled-lost : (ps : List (mirror.Ticket × Command)) → settled (lost_tickets ps) ≡ tickets ps
settled-lost [] = refl
settled-lost ((Some k, c) ∷ ps) = ap (λ l. k ∷ l) (settled-lost ps)
settled-lost ((None, c) ∷ ps) = settled-lost ps

settled-lost-of : (ts : List Ticket) → settled_in (lost_of ts) ≡ map (λ (k : Ticket). k.0) ts
settled-lost-of [] = refl
settled-lost-of (t ∷ ts) = ap (λ l. t.0 ∷ l) (settled-lost-of ts)

-- the tickets that wait are those of the world
waits-are : {S : Type 0} (m : Meaning S) (settings : Settings) (w : Widths) (l : Link S) (x : World S) → Known m settings x → Parts m settings w l x → waiting_at l.debugger ≡ tickets x.pending
waits-are m settings w l x k s =
    sym (settled-lost-of (tickets_of l.debugger.pending)) ∙ (ap settled_in (loses-tells m settings w l x k s) ∙ (settled-told (lost_tickets x.pending) ∙ settled-lost x.pending))

times-append : (k : ℕ) (xs ys : List ℕ) → times k (xs ++ ys) ≡ times k xs + times k ys
times-append k [] ys = omega arith
times-append k (x ∷ xs) ys = omega (arith, times-append k xs ys)

-- what a run settles, where that is known from the beginning on up to its beginning and up to its end
between : (k : ℕ) (before more waited waits given_before given : List ℕ) → times k (before ++ waited) ≡ times k given_before → times k ((before ++ more) ++ waits) ≡ times k given
    → times k (more ++ waits) + times k given_before ≡ times k waited + times k given
between k before more waited waits given_before given a b =
    omega (arith, a, b, times-append k before waited, times-append k (before ++ more) waits, times-append k before more, times-append k more waits)

pub settles-each-once : {S : Type 0} (m : Meaning S) → HoldsOfWorlds m → SettlesOnce m → SettlesEachOnce m
settles-each-once {S} m worlds once es old new told k link ran =
    let x = link.world in
    let s = link.stands in
    let settings = old.target.settings in
    let measure = measure_of m old in
    let r = s.reached in
    let y = run m settings measure x es in
    let t : StandsFor m new y = ran.stands x s in
    let first = once settings measure r.first r.events k r.begins in
    let both = once settings measure r.first (r.events ++ es) k r.begins in
    let before = settled (outcomes m settings measure (opening m r.first) r.events) in
    let a : times k (before ++ tickets x.pending) ≡ times k (tickets_to x.asked) = subst (λ (z : World S). times k (before ++ tickets z.pending) ≡ times k (tickets_to z.asked)) r.is first in
    let all : settled (outcomes m settings measure (opening m r.first) (r.events ++ es)) ≡ before ++ settled (outcomes m settings measure x es) =
    ap settled (outcomes-append m settings measure (opening m r.first) r.events es)
    ∙ (settled-append (outcomes m settings measure (opening m r.first) r.events) (outcomes m settings measure (run m settings measure (opening m r.first) r.events) es)
    ∙ ap (λ z. before ++ settled (outcomes m settings measure z es)) r.is) in
    let ends : run m settings measure (opening m r.first) (r.events ++ es) ≡ y = run-append m settings measure (opening m r.first) r.events es ∙ ap (λ z. run m settings measure z es) r.is in
    let b : times k ((before ++ settled (outcomes m settings measure x es)) ++ tickets y.pending) ≡ times k (tickets_to y.asked) =
    subst (λ l. times k (l ++ tickets y.pending) ≡ times k (tickets_to y.asked)) all
    (subst (λ (z : World S). times k (settled (outcomes m settings measure (opening m r.first) (r.events ++ es)) ++ tickets z.pending) ≡ times k (tickets_to z.asked)) ends both) in
    let core = between k before (settled (outcomes m settings measure x es)) (tickets x.pending) (tickets y.pending) (tickets_to x.asked) (tickets_to y.asked) a b in
    let told_is : settled_in told ≡ settled (outcomes m settings measure x es) = ap settled_in (ran.tells x s) ∙ settled-told (outcomes m settings measure x es) in
    let waited : waiting_at old.debugger ≡ tickets x.pending = waits-are m settings _ old x (known m worlds settings _ x s.reached) s.parts in
    let waits : waiting_at new.debugger ≡ tickets y.pending = waits-are m new.target.settings _ new y (known m worlds new.target.settings _ y t.reached) t.parts in
    let left : times k (settled_in told ++ waiting_at new.debugger) + times k (tickets_to old.debugger.tickets) ≡ times k (settled (outcomes m settings measure x es) ++ tickets y.pending) + times k (tickets_to x.asked) =
    ap (λ l. times k (l ++ waiting_at new.debugger) + times k (tickets_to old.debugger.tickets)) told_is
    ∙ (ap (λ l. times k (settled (outcomes m settings measure x es) ++ l) + times k (tickets_to old.debugger.tickets)) waits
    ∙ ap (λ n. times k (settled (outcomes m settings measure x es) ++ tickets y.pending) + times k (tickets_to n)) s.parts.debugger.tickets) in
    let right : times k (waiting_at old.debugger) + times k (tickets_to new.debugger.tickets) ≡ times k (tickets x.pending) + times k (tickets_to y.asked) =
    ap (λ l. times k l + times k (tickets_to new.debugger.tickets)) waited ∙ ap (λ n. times k (tickets x.pending) + times k (tickets_to n)) t.parts.debugger.tickets in
    left ∙ (core ∙ sym right)

-- ---- answers

answers-told : (os : List events.Outcome) → answers_in (told_outcomes os) ≡ told_answers os
answers-told [] = refl
answers-told (events.Answered k answer ∷ os) = ap (λ l. (k, answer) ∷ l) (answers-told os)
answers-told (events.Lost k ∷ os) = answers-told os
answers-told (events.Asked k ∷ os) = answers-told os
answers-told (events.Refused r ∷ os) = answers-told os
answers-told (events.Seen c ∷ os) = answers-told os

told-append : (xs ys : List events.Outcome) → told_answers (xs ++ ys) ≡ told_answers xs ++ told_answers ys
told-append [] ys = refl
told-append (events.Answered k answer ∷ xs) ys = ap (λ l. (k, answer) ∷ l) (told-append xs ys)
told-append (events.Lost k ∷ xs) ys = told-append xs ys
told-append (events.Asked k ∷ xs) ys = told-append xs ys
told-append (events.Refused r ∷ xs) ys = told-append xs ys
told-append (events.Seen c ∷ xs) ys = told-append xs ys

in-back : (xs ys : List (ℕ × Answer)) (p : ℕ × Answer) → IsIn ys p → IsIn (xs ++ ys) p
in-back [] ys p h = h
in-back (x ∷ xs) ys p h = inr (in-back xs ys p h)

pub tells-as-given : {S : Type 0} (m : Meaning S) → TellsWhatWasGiven m → TellsAsGiven m
tells-as-given m gives first before es old new told p stands ran h =
    let settings = old.target.settings in
    let measure = measure_of m old in
    let x = run m settings measure (opening m first) before in
    let here : IsIn (told_answers (outcomes m settings measure x es)) p = subst (λ l. IsIn l p) (ap answers_in (ran.tells x stands) ∙ answers-told (outcomes m settings measure x es)) h in
    let all : told_answers (outcomes m settings measure (opening m first) (before ++ es)) ≡ told_answers (outcomes m settings measure (opening m first) before) ++ told_answers (outcomes m settings measure x es) =
    ap told_answers (outcomes-append m settings measure (opening m first) before es) ∙ told-append (outcomes m settings measure (opening m first) before) (outcomes m settings measure x es) in
    gives settings measure first (before ++ es) p (subst (λ l. IsIn l p) (sym all) (in-back (told_answers (outcomes m settings measure (opening m first) before)) (told_answers (outcomes m settings measure x es)) p here))
