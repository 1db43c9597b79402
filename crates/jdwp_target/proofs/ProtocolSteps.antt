-- Steps in the protocol's words.
use Rattle.std.proofs.Common.{◌≡◌, ◌≢◌, ◌∙◌, ℕ, ◌+◌, ◌<◌, ◌==◌, List, [], ◌∷◌, ◌++◌, Bool, true, false, ◌&&◌, ◌||◌, not, cond, if◌then◌else◌, Option, Some, None, Result, Ok, Err, sym, ap, refl, subst, arith}
use Rattle.std.specs.Prelude.{OnErr}
use Rattle.std.specs.Option.{option_map, option_or}
use Rattle.std.proofs.lemmas.Bool.{eq-eqb, eqb-true}
use Rattle.std.proofs.lemmas.Bool.Decides.{nat_tests}
use Rattle.jdwp_wire.specs.Streams.{stream}
use Rattle.jdwp_wire.specs.Widths.{Widths}
use Rattle.jdwp_end.specs.declared.phase.Phase.{Phase}
use Rattle.jdwp_end.specs.declared.phase.Phase.TheVariants.{AwaitingHandshake, Closed, Established}
use Rattle.jdwp_end.specs.Ends.{is_established, is_established_phase, is_paused}
use Rattle.jdwp_event.specs.Composites.{CompositeMeaning, POLICY_ALL, POLICY_EVENT_THREAD, POLICY_NONE, gathered}
use Rattle.jdwp_event.specs.Occurrences.{HappeningMeaning, runs_out, started}
use Rattle.jdwp_machine.specs.Meanings.{Meaning}
use Rattle.jdwp_debuggee.specs.Settings.{Settings}
use Rattle.jdwp_debuggee.specs.SoundLaws.{mapped}
use Rattle.jdwp_debuggee.specs.State.{Moment, State, Thread, at_limit, changed, count_by, count_in, count_of, is_marked, or_zero}
use Rattle.jdwp_debuggee.specs.StepParts.{is_ready}
use Rattle.jdwp_debuggee.specs.Steps.{Step, death_by, happens, is_full, is_zero, may_step, occurs, occurs_by, raised_by, report_by, with_happening, with_started}
use Rattle.jdwp_debuggee.specs.ThreadLaws.{count-changed}
use Rattle.jdwp_debuggee.proofs.ThreadLists.{count-append, count-marked}
use Rattle.jdwp_target.specs.declared.target.Stepped.{Stepped}
use Rattle.jdwp_target.specs.declared.target.Stepped.TheVariants.{Frozen, Quiet, Reported}
use Rattle.jdwp_target.specs.declared.target.TargetFault.{TargetFault}
use Rattle.jdwp_target.specs.Protocol.{IsReported, KeepsCounts, PutsReport, RaisesCountOf, RaisesCounts, count, count_before, requests}
use Rattle.jdwp_target.specs.Sends.{report_of}
use Rattle.jdwp_target.specs.Standings.{Standing, behind, reports_step, steps_apart, steps_at, steps_in_session}
use Rattle.jdwp_target.specs.Targets.{Target, standing, with_step}
use Rattle.jdwp_target.specs.Turns.{StepsAt, StepsWhere, is_frozen, told_by_end, told_of_step}

-- ---- a step that was made

record Made {S : Type 0} (m : Meaning S) (t : ℕ) (old new : Target S) (stepped : Stepped) : Type 0 where
  may : may_step m old.settings old.moment t ≡ true
  told : stepped ≡ told_of_step (occurs m old.moment t)
  new_is : new ≡ with_step m t old

unfrozen : (a b : Bool) → (a || not b) ≡ false → b ≡ true
unfrozen true b e = absurd cc
unfrozen false true e = refl
unfrozen false false e = absurd cc

made-where : {S : Type 0} (m : Meaning S) (t : ℕ) (old new : Target S) (stepped : Stepped) (b : Bool) → is_frozen m t old ≡ b → StepsWhere m t old stepped new b → stepped ≢ Frozen → Made m t old new stepped
made-where m t old new stepped true is steps moves = absurd (moves steps.0)
made-where m t old new stepped false is steps moves = record { may = unfrozen _ _ is; told = steps.0; new_is = steps.1 }

made : {S : Type 0} (m : Meaning S) (t : ℕ) (old new : Target S) (stepped : Stepped) → StepsAt m t old (Ok stepped) new → stepped ≢ Frozen → Made m t old new stepped
made m t old new stepped steps moves = made-where m t old new stepped _ refl steps moves

-- what it leaves of the threads
threads-by : {S : Type 0} (w : Widths) (id : ℕ) (o : Step S) (now : Standing S) (b : Bool) → (steps_in_session w id o (behind o now) b).after.moment.state.threads ≡ o.after.state.threads
threads-by w id o now true = refl
threads-by w id o now false = refl

threads-at : {S : Type 0} (w : Widths) (id : ℕ) (o : Step S) (now : Standing S) (phase : Phase) → (steps_at w id o (behind o now) phase).after.moment.state.threads ≡ o.after.state.threads
threads-at w id o now Established = threads-by w id o now o.dies
threads-at w id o now AwaitingHandshake = elim o.dies as (λ (b : Bool). (steps_apart (behind o now) b).after.moment.state.threads ≡ o.after.state.threads) [ true ↦ refl | false ↦ refl ]
threads-at w id o now Closed = elim o.dies as (λ (b : Bool). (steps_apart (behind o now) b).after.moment.state.threads ≡ o.after.state.threads) [ true ↦ refl | false ↦ refl ]

threads-made : {S : Type 0} (m : Meaning S) (t : ℕ) (old new : Target S) (stepped : Stepped) → Made m t old new stepped → new.moment.state.threads ≡ (occurs m old.moment t).after.state.threads
threads-made m t old new stepped d =
    let by : new.moment.state.threads ≡ (reports_step (m.sizes old.moment.machine) old.moment.state.next_packet (occurs m old.moment t) (standing old)).after.moment.state.threads = rw (d.new_is, d.may) refl in
    by ∙ threads-at (m.sizes old.moment.machine) old.moment.state.next_packet (occurs m old.moment t) (standing old) old.end.phase

-- ---- counts behind a happening

-- a thread that a step starts is not suspended
started-count : (o : Option ℕ) (state : State) (u k : ℕ) → count_of (with_started o state) u ≡ Some k → k ≡ or_zero (count_of state u)
started-count None state u k h = sym (ap or_zero h)
started-count (Some s) state u k h =
    let both = sym (count-append state.threads (record { id = s; suspend_count = 0; death_reported = false } ∷ []) u) ∙ h in
    elim (count_of state u) as (λ (o : Option ℕ). option_or o (count_in (record { id = s; suspend_count = 0; death_reported = false } ∷ []) u) ≡ Some k → k ≡ or_zero o) [
      | Some j ↦ λ e. cc
      | None ↦ λ e. elim (s == u) as (λ (b : Bool). count_by (cond b (Some (record { id = s; suspend_count = 0; death_reported = false })) None) ≡ Some k → k ≡ 0) [ true ↦ λ x. cc | false ↦ λ x. absurd cc ] e
    ] both

-- what a step that is reported leaves
record Reports {S : Type 0} (now : Moment S) (h : HappeningMeaning) (c : CompositeMeaning) (o : Step S) : Type 0 where
  sends : o.sends ≡ Some c
  dies : o.dies ≡ false
  counts : (u n : ℕ) → count_of o.after.state u ≡ Some n → n ≡ raised_by c.policy h.thread u (or_zero (count_of now.state u))

raised-from : (c : CompositeMeaning) (thread u n : ℕ) (before : Option ℕ) (before_it : ℕ) → ((k : ℕ) → before ≡ Some k → k ≡ before_it) → option_map (raised_by c.policy thread u) before ≡ Some n → n ≡ raised_by c.policy thread u before_it
raised-from c thread u n before before_it was h =
    let j = mapped (raised_by c.policy thread u) before n h in
    j.2 ∙ ap (λ (k : ℕ). raised_by c.policy thread u k) (was j.0 j.1)

death-reports : {S : Type 0} (m : Meaning S) (now : Moment S) (t : ℕ) (h : HappeningMeaning) (o : Option CompositeMeaning) (c : CompositeMeaning) → o ≡ Some c → told_of_step (death_by m now.machine t h now.state o) ≡ Reported
    → Reports now h c (death_by m now.machine t h now.state o)
death-reports m now t h None c is told = absurd (let e = is in cc)
death-reports m now t h (Some d) c is told = record {
  sends = is;
  dies = refl;
  counts = λ u n e.
      let same : d ≡ c = cc in
      let moved = sym (count-changed (raised_by d.policy h.thread) now.state.threads u) ∙ (sym (count-marked t (changed (raised_by d.policy h.thread) now.state.threads) u) ∙ e) in
      subst (λ (x : CompositeMeaning). n ≡ raised_by x.policy h.thread u (or_zero (count_of now.state u))) same
      (raised-from d h.thread u n (count_of now.state u) (or_zero (count_of now.state u)) (λ k x. sym (ap or_zero x)) moved);
}

report-reports : {S : Type 0} (m : Meaning S) (now : Moment S) (t : ℕ) (h : HappeningMeaning) (o : Option CompositeMeaning) (c : CompositeMeaning) → o ≡ Some c → Reports now h c (report_by m now.machine t h now.state o)
report-reports m now t h None c is = absurd (let e = is in cc)
report-reports m now t h (Some d) c is = record {
  sends = is;
  dies = refl;
  counts = λ u n e.
      let same : d ≡ c = cc in
      let moved = sym (count-changed (raised_by d.policy h.thread) (with_started (started h) (with_happening h now.state)).threads u) ∙ e in
      subst (λ (x : CompositeMeaning). n ≡ raised_by x.policy h.thread u (or_zero (count_of now.state u))) same
      (raised-from d h.thread u n (count_of (with_started (started h) (with_happening h now.state)) u) (or_zero (count_of now.state u)) (started-count (started h) (with_happening h now.state) u) moved);
}

happens-reports : {S : Type 0} (m : Meaning S) (now : Moment S) (t : ℕ) (h : HappeningMeaning) (b : Bool) (c : CompositeMeaning) → gathered h now.state.requests ≡ Some c → told_of_step (happens m now t h b) ≡ Reported
    → Reports now h c (happens m now t h b)
happens-reports m now t h true c is told = death-reports m now t h (gathered h now.state.requests) c is told
happens-reports m now t h false c is told = report-reports m now t h (gathered h now.state.requests) c is

occurs-reports : {S : Type 0} (m : Meaning S) (now : Moment S) (t : ℕ) (b : Bool) (c : CompositeMeaning) → gathered (m.next now.machine t) now.state.requests ≡ Some c → told_of_step (occurs_by m now t b) ≡ Reported
    → Reports now (m.next now.machine t) c (occurs_by m now t b)
occurs-reports m now t true c is told = absurd (let e = told in cc)
occurs-reports m now t false c is told = happens-reports m now t (m.next now.machine t) (runs_out (m.next now.machine t)) c is told

-- there is a composite where a step is reported
some-composite : {S : Type 0} (m : Meaning S) (now : Moment S) (t : ℕ) (h : HappeningMeaning) (o : Option CompositeMeaning) (b : Bool) → o ≡ gathered h now.state.requests
    → told_of_step (if b then death_by m now.machine t h now.state o else report_by m now.machine t h now.state o) ≡ Reported → (c : CompositeMeaning) × (gathered h now.state.requests ≡ Some c)
some-composite m now t h None true is told = absurd (let e = told in cc)
some-composite m now t h None false is told = absurd (let e = told in cc)
some-composite m now t h (Some c) b is told = (c, sym is)

happens-some : {S : Type 0} (m : Meaning S) (now : Moment S) (t : ℕ) (h : HappeningMeaning) (b : Bool) → told_of_step (happens m now t h b) ≡ Reported → (c : CompositeMeaning) × (gathered h now.state.requests ≡ Some c)
happens-some m now t h true told = some-composite m now t h (gathered h now.state.requests) true refl told
happens-some m now t h false told = some-composite m now t h (gathered h now.state.requests) false refl told

occurs-some : {S : Type 0} (m : Meaning S) (now : Moment S) (t : ℕ) (b : Bool) → told_of_step (occurs_by m now t b) ≡ Reported → (c : CompositeMeaning) × (gathered (m.next now.machine t) now.state.requests ≡ Some c)
occurs-some m now t true told = absurd (let e = told in cc)
occurs-some m now t false told = happens-some m now t (m.next now.machine t) (runs_out (m.next now.machine t)) told

-- ---- clauses

step-reports : {S : Type 0} (m : Meaning S) (t : ℕ) (old new : Target S) (c : CompositeMeaning) (d : Made m t old new Reported) → gathered (m.next old.moment.machine t) (requests old) ≡ Some c
    → Reports old.moment (m.next old.moment.machine t) c (occurs m old.moment t)
step-reports m t old new c d is = occurs-reports m old.moment t (is_marked old.moment.state t) c is (sym d.told)

-- the counts by the policy
counts-by : {S : Type 0} (m : Meaning S) (t : ℕ) (old new : Target S) (result : Result Stepped TargetFault) (c : CompositeMeaning) → StepsAt m t old result new → IsReported m t c old result
    → (u n : ℕ) → count new u ≡ Some n → n ≡ raised_by c.policy (m.next old.moment.machine t).thread u (count_before old u)
counts-by m t old new result c steps (is, passes) u n has =
    let d = made m t old new Reported (subst (λ (r : Result Stepped TargetFault). StepsAt m t old r new) is steps) (λ e. cc) in
    (step-reports m t old new c d passes).counts u n (sym (ap (λ (ts : List Thread). count_in ts u) (threads-made m t old new Reported d)) ∙ has)

pub stepped-all : {S : Type 0} (m : Meaning S) (t : ℕ) (old new : Target S) (result : Result Stepped TargetFault) (c : CompositeMeaning) → StepsAt m t old result new → IsReported m t c old result → c.policy ≡ POLICY_ALL → RaisesCounts old new
stepped-all m t old new result c steps told all u n has =
    counts-by m t old new result c steps told u n has ∙ ap (λ (p : ℕ). raised_by p (m.next old.moment.machine t).thread u (count_before old u)) all

pub stepped-none : {S : Type 0} (m : Meaning S) (t : ℕ) (old new : Target S) (result : Result Stepped TargetFault) (c : CompositeMeaning) → StepsAt m t old result new → IsReported m t c old result → c.policy ≡ POLICY_NONE → KeepsCounts old new
stepped-none m t old new result c steps told none u n has =
    counts-by m t old new result c steps told u n has ∙ ap (λ (p : ℕ). raised_by p (m.next old.moment.machine t).thread u (count_before old u)) none

other-false : (e u : ℕ) → u ≢ e → (e == u) ≡ false
other-false e u other =
    elim (e == u) as (λ (b : Bool). (e == u) ≡ b → b ≡ false) [
      | true ↦ λ same. absurd (other (sym (eqb-true e u same)))
      | false ↦ λ _. refl
    ] refl

pub stepped-one : {S : Type 0} (m : Meaning S) (t : ℕ) (old new : Target S) (result : Result Stepped TargetFault) (c : CompositeMeaning) → StepsAt m t old result new → IsReported m t c old result → c.policy ≡ POLICY_EVENT_THREAD
    → RaisesCountOf (m.next old.moment.machine t).thread old new
stepped-one m t old new result c steps told one =
    let e = (m.next old.moment.machine t).thread in
    let by : (u n : ℕ) → count new u ≡ Some n → n ≡ cond (e == u) (count_before old u + 1) (count_before old u) = λ u n has.
    counts-by m t old new result c steps told u n has ∙ ap (λ (p : ℕ). raised_by p e u (count_before old u)) one in (
      λ n has. by e n has ∙ ap (λ (b : Bool). cond b (count_before old e + 1) (count_before old e)) (eq-eqb e e refl),
      λ u n other has. by u n has ∙ ap (λ (b : Bool). cond b (count_before old u + 1) (count_before old u)) (other-false e u other),
    )

-- what is sent
puts-report : {S : Type 0} (w : Widths) (id : ℕ) (o : Step S) (now : Standing S) (phase : Phase) (c : CompositeMeaning) → is_established_phase phase ≡ true → o.sends ≡ Some c → o.dies ≡ false
    → (steps_at w id o (behind o now) phase).sends ≡ report_of w id c ∷ []
puts-report w id o now Established c runs sends lives = rw (lives, sends) refl
puts-report w id o now AwaitingHandshake c runs sends lives = absurd (let e = runs in cc)
puts-report w id o now Closed c runs sends lives = absurd (let e = runs in cc)

pub stepped-reported : {S : Type 0} (m : Meaning S) (t : ℕ) (old new : Target S) → StepsAt m t old (Ok Reported) new
    → (c : CompositeMeaning) × (gathered (m.next old.moment.machine t) (requests old) ≡ Some c) × (is_established old.end ≡ true → PutsReport m c old new)
stepped-reported m t old new steps =
    let d = made m t old new Reported steps (λ e. cc) in
    let w = m.sizes old.moment.machine in
    let id = old.moment.state.next_packet in
    let o = occurs m old.moment t in
    let some = occurs-some m old.moment t (is_marked old.moment.state t) (sym d.told) in
    let r = step-reports m t old new some.0 d some.1 in
    let out : new.end.outgoing ≡ old.end.outgoing ++ stream (reports_step w id o (standing old)).sends = rw (d.new_is, d.may) refl in (
      some.0,
      some.1,
      λ runs.
          ([], out ∙ ap (λ (ms : _). old.end.outgoing ++ stream ms) (puts-report w id o (standing old) old.end.phase some.0 runs r.sends r.dies)),
    )

-- ---- a step that is not reported

quiet-counts : {S : Type 0} (m : Meaning S) (now : Moment S) (t : ℕ) (h : HappeningMeaning) (o : Option CompositeMeaning) (b : Bool)
    → told_of_step (if b then death_by m now.machine t h now.state o else report_by m now.machine t h now.state o) ≡ Quiet
    → (u n : ℕ) → count_of (if b then death_by m now.machine t h now.state o else report_by m now.machine t h now.state o).after.state u ≡ Some n → n ≡ or_zero (count_of now.state u)
quiet-counts m now t h None true told u n has = absurd (let e = told in cc)
quiet-counts m now t h None false told u n has = started-count (started h) (with_happening h now.state) u n has
quiet-counts m now t h (Some c) true told u n has = absurd (let e = told in cc)
quiet-counts m now t h (Some c) false told u n has = absurd (let e = told in cc)

quiet-happens : {S : Type 0} (m : Meaning S) (now : Moment S) (t : ℕ) (h : HappeningMeaning) (b : Bool) → told_of_step (happens m now t h b) ≡ Quiet
    → (u n : ℕ) → count_of (happens m now t h b).after.state u ≡ Some n → n ≡ or_zero (count_of now.state u)
quiet-happens m now t h true told = quiet-counts m now t h (gathered h now.state.requests) true told
quiet-happens m now t h false told = quiet-counts m now t h (gathered h now.state.requests) false told

quiet-occurs : {S : Type 0} (m : Meaning S) (now : Moment S) (t : ℕ) (b : Bool) → told_of_step (occurs_by m now t b) ≡ Quiet
    → (u n : ℕ) → count_of (occurs_by m now t b).after.state u ≡ Some n → n ≡ or_zero (count_of now.state u)
quiet-occurs m now t true told u n has = absurd (let e = told in cc)
quiet-occurs m now t false told u n has = quiet-happens m now t (m.next now.machine t) (runs_out (m.next now.machine t)) told u n has

pub stepped-quiet : {S : Type 0} (m : Meaning S) (t : ℕ) (old new : Target S) → StepsAt m t old (Ok Quiet) new → KeepsCounts old new
stepped-quiet m t old new steps u n has =
    let d = made m t old new Quiet steps (λ e. cc) in
    quiet-occurs m old.moment t (is_marked old.moment.state t) (sym d.told) u n (sym (ap (λ (ts : List Thread). count_in ts u) (threads-made m t old new Quiet d)) ∙ has)

-- ---- nothing happens

no-frozen : (sends : Option CompositeMeaning) (ends : Bool) → Frozen ≡ told_by_end sends ends → ⊥
no-frozen sends true e = cc
no-frozen None false e = cc
no-frozen (Some c) false e = cc

frozen-by : {S : Type 0} (m : Meaning S) (t : ℕ) (old new : Target S) (b : Bool) → StepsWhere m t old Frozen new b → new ≡ old
frozen-by m t old new true steps = steps.1
frozen-by m t old new false steps = absurd (no-frozen (occurs m old.moment t).sends (occurs m old.moment t).ends steps.0)

pub stepped-frozen : {S : Type 0} (m : Meaning S) (t : ℕ) (old new : Target S) → StepsAt m t old (Ok Frozen) new → new ≡ old
stepped-frozen m t old new steps = frozen-by m t old new _ steps

pub stepped-unless : {S : Type 0} (m : Meaning S) (t : ℕ) (old new : Target S) (result : Result Stepped TargetFault) → StepsAt m t old result new → OnErr result (new ≡ old)
stepped-unless m t old new (Ok stepped) steps = tt
stepped-unless m t old new (Err f) steps = steps.3

-- a thread that is suspended is not ready
never : (a b c d : Bool) → (a && (b && (c && (false && d)))) ≡ false
never false b c d = refl
never true false c d = refl
never true true false d = refl
never true true true d = refl

above-zero : (k : ℕ) → 0 < k → (k == 0) ≡ false
above-zero k some = grind (arith, nat_tests)

positive : (o : Option ℕ) (n : ℕ) → o ≡ Some n → 0 < n → is_zero o ≡ false
positive None n is some = absurd cc
positive (Some k) n is some =
    let same : n ≡ k = cc in
    above-zero k (subst (λ (x : ℕ). 0 < x) same some)

never-may : {S : Type 0} (m : Meaning S) (settings : Settings) (now : Moment S) (t : ℕ) → is_zero (count_of now.state t) ≡ false → may_step m settings now t ≡ false
never-may m settings now t suspended =
    let others = not (at_limit settings.count_limit now.state) && not (is_full m settings now t) in
    ap (λ (b : Bool). now.state.handshaken && (now.state.alive && (not now.state.held && (b && others)))) suspended ∙ never now.state.handshaken now.state.alive (not now.state.held) others

never-ready : (settings : Settings) (state : State) (t : ℕ) → is_zero (count_of state t) ≡ false → is_ready settings state t ≡ false
never-ready settings state t suspended =
    let below = not (at_limit settings.count_limit state) in
    ap (λ (b : Bool). state.handshaken && (state.alive && (not state.held && (b && below)))) suspended ∙ never state.handshaken state.alive (not state.held) below

frozen-true : (a : Bool) → (a || true) ≡ true
frozen-true true = refl
frozen-true false = refl

pub stepped-suspended : {S : Type 0} (m : Meaning S) (t : ℕ) (old new : Target S) (result : Result Stepped TargetFault) (n : ℕ) → StepsAt m t old result new → count old t ≡ Some n → 0 < n → (result ≡ Ok Frozen) × (new ≡ old)
stepped-suspended m t old new (Err f) n steps is some = absurd (let e = sym (never-ready old.settings old.moment.state t (positive _ n is some)) ∙ steps.2 in cc)
stepped-suspended m t old new (Ok stepped) n steps is some =
    let stays = never-may m old.settings old.moment t (positive _ n is some) in
    let frozen : is_frozen m t old ≡ true = ap (λ (b : Bool). is_paused old.end || not b) stays ∙ frozen-true (is_paused old.end) in
    let at = subst (λ (b : Bool). StepsWhere m t old stepped new b) frozen steps in
    (ap Ok at.0, at.1)
