-- what the code keeps stays at a step
use Rattle.jdwp_wire.specs.Numbers.{greatest_int}
use Rattle.std.proofs.Common.{◌≡◌, ◌≤◌, ◌<◌, ◌^◌, ◌==◌, ◌+◌, nat_lt, ℕ, Bool, true, false, not, ◌&&◌, cond, map, Option, Some, None, List, [], ◌∷◌, length, suc, refl, sym, ◌∙◌, ap, subst, arith, is_some}
use Rattle.std.specs.List.{filter}
use Rattle.std.proofs.lemmas.Bool.{eqb-true, false_from_ne_true, ltb-true}
use Rattle.std.proofs.lemmas.List.{length-map}
use Rattle.jdwp_event.specs.Filters.{all_counted, counted}
use Rattle.jdwp_event.specs.Occurrences.{HappeningMeaning, OccurrenceMeaning, Moved, Entered, Left, Threw, Prepared, Started, RanOut, is_run_out, runs_out, started, started_by}
use Rattle.jdwp_event.specs.Composites.{CompositeMeaning, POLICY_ALL, gathered}
use Rattle.jdwp_event.specs.Requests.{Request}
use Rattle.jdwp_machine.specs.Meanings.{Meaning, has}
use Rattle.jdwp_machine.specs.Laws.{IsLawful, AreDistinct}
use Rattle.jdwp_debuggee.specs.Debuggees.{Debuggee, IsKept, at_moment, visiting}
use Rattle.jdwp_debuggee.specs.Entries.{AllAtMost}
use Rattle.jdwp_debuggee.specs.Facts.{IsSound}
use Rattle.jdwp_debuggee.specs.Settings.{Settings}
use Rattle.jdwp_debuggee.specs.State.{State, Moment, Thread, at_limit, changed, count_of, ids, is_marked, is_other, marked, with_packet, without_thread}
use Rattle.jdwp_debuggee.specs.Steps.{Step, death_by, ended_by, ends, happens, is_full, is_zero, may_step, occurs, occurs_by, raised_by, report_by, with_happening, starts, starts_by, stopped_by, suspended_by, thread_ended, with_started}
use Rattle.jdwp_debuggee.specs.StepParts.{AreFew, Steps, is_full_by, is_ready, packet_after, raised_for, stopped_for, unless_last, with_new}
use Rattle.jdwp_debuggee.specs.Visits.{turned, turned_one, visits_at, visits_for, visits_stepped}
use Rattle.jdwp_debuggee.proofs.Kept.{most-of}
use Rattle.jdwp_debuggee.proofs.Small.{and-left, and-right}
use Rattle.jdwp_debuggee.specs.ThreadLaws.{has-count}
use Rattle.jdwp_debuggee.proofs.Distinct.{distinct-filter, distinct-none, distinct-push, ids-changed, ids-marked}
use Rattle.jdwp_debuggee.proofs.Happenings.{happens_step, ready}

-- ---- when a thread may step

regrouped : (a b c d e f : Bool) → (a && (b && (c && (d && (e && f))))) ≡ ((a && (b && (c && (d && e)))) && f)
regrouped true true true true e f = refl
regrouped true true true false e f = refl
regrouped true true false d e f = refl
regrouped true false c d e f = refl
regrouped false b c d e f = refl

pub may-ready : {S : Type 0} (m : Meaning S) (settings : Settings) (now : Moment S) (t : ℕ) → may_step m settings now t ≡ (is_ready settings now.state t && not (is_full_by (starts m now t) settings now.state))
may-ready m settings now t = regrouped now.state.handshaken now.state.alive (not now.state.held) (is_zero (count_of now.state t)) (not (at_limit settings.count_limit now.state)) (not (is_full m settings now t))

some-zero : (c : Option ℕ) → is_zero c ≡ true → is_some c ≡ true
some-zero None h = absurd (cc)
some-zero (Some n) h = refl

pub live-ready : {S : Type 0} (m : Meaning S) (settings : Settings) (now : Moment S) (t : ℕ) → IsSound m settings now → is_ready settings now.state t ≡ true → has (m.live now.machine) t ≡ true
live-ready m settings now t s h =
    let a = and-right now.state.alive _ (and-right now.state.handshaken _ h) in
    let b = and-left (is_zero (count_of now.state t)) _ (and-right (not now.state.held) _ a) in
    s.lives t ∙ some-zero (count_of now.state t) b

pub live-may : {S : Type 0} (m : Meaning S) (d : Debuggee S) (t : ℕ) → IsKept m d → may_step m d.settings d.moment t ≡ true → has (m.live d.moment.machine) t ≡ true
live-may m d t k h = (ready m d.settings d.moment t k.sound h).live

-- ---- the states that a step may leave

ends-state : {S : Type 0} (m : Meaning S) (s : S) (t : ℕ) (x : State × Bool) → (ends m s t x).after.state ≡ x.0
ends-state m s t (state, b) = refl

-- what is kept of the state that a step leaves, where there may be so many requests
record Fine (most : ℕ) (st : State) : Type 0 where
  distinct : AreDistinct (ids st.threads)
  next : st.next_request ≤ greatest_int + 1
  room : length st.requests ≤ most

fine-ended : (t most : ℕ) (st : State) (ts : List Thread) → (without_thread t st).threads ≡ ts → Fine most st → Fine most (ended_by ts (without_thread t st)).0
fine-ended t most st [] e f = record { distinct = distinct-none; next = f.next; room = omega arith }
fine-ended t most st (p ∷ ps) e f = record { distinct = distinct-filter t st.threads f.distinct; next = f.next; room = f.room }

fine-seen : (most : ℕ) (h : HappeningMeaning) (st : State) → Fine most st → Fine most (with_happening h st)
fine-seen most h st f = record {
  distinct = f.distinct;
  next = f.next;
  room = let e = length-map st.requests (counted h) in let r : length st.requests ≤ most = f.room in omega (arith, e, r);
}

new-apart : {S : Type 0} (m : Meaning S) → IsLawful m → (d : Debuggee S) (t n : ℕ) → IsKept m d → has (m.live d.moment.machine) t ≡ true → started (m.next d.moment.machine t) ≡ Some n → has (ids d.moment.state.threads) n ≡ false
new-apart m law d t n k live e =
    false_from_ne_true (has (ids d.moment.state.threads) n) (λ h.
    let lives : has (m.live d.moment.machine) n ≡ true = k.sound.lives n ∙ (sym (has-count d.moment.state.threads n) ∙ h) in
    let lived : m.ever d.moment.machine n ≡ true = law.live_ever d.moment.machine k.sound.state n lives in
    let never : m.ever d.moment.machine n ≡ false = law.new_thread d.moment.machine t n (k.sound.state, live) e in
    absurd (cc))

fine-started : {S : Type 0} (m : Meaning S) → IsLawful m → (d : Debuggee S) (t most : ℕ) (o : Option ℕ) → IsKept m d → has (m.live d.moment.machine) t ≡ true → started (m.next d.moment.machine t) ≡ o → Fine most (with_happening (m.next d.moment.machine t) d.moment.state) → Fine most (with_started o (with_happening (m.next d.moment.machine t) d.moment.state))
fine-started m law d t most None k live e f = f
fine-started m law d t most (Some n) k live e f = record { distinct = distinct-push d.moment.state.threads _ (new-apart m law d t n k live e) k.distinct; next = f.next; room = f.room }

fine-counts : (f : ℕ → ℕ → ℕ) (st : State) → AreDistinct (ids st.threads) → AreDistinct (ids (changed f st.threads))
fine-counts f st h = subst AreDistinct (sym (ids-changed f st.threads)) h

fine-step : {S : Type 0} (m : Meaning S) → IsLawful m → (d : Debuggee S) (t : ℕ) → IsKept m d → has (m.live d.moment.machine) t ≡ true → Fine d.settings.limits.requests (occurs m d.moment t).after.state
fine-step m law d t k live =
    let now = d.moment in
    let h = m.next now.machine t in
    let most = d.settings.limits.requests in
    let old : Fine most now.state = record { distinct = k.distinct; next = k.next; room = k.room } in
    let told : Fine most (with_happening h now.state) = fine-seen most h now.state old in
    elim (is_marked now.state t) as (λ b. Fine most (occurs_by m now t b).after.state) [
      | true ↦ subst (Fine most) (sym (ends-state m now.machine t (thread_ended t now.state))) (fine-ended t most now.state _ refl old)
      | false ↦ elim (runs_out h) as (λ b. Fine most (happens m now t h b).after.state) [
        | true ↦ elim (gathered h now.state.requests) as (λ o. Fine most (death_by m now.machine t h now.state o).after.state) [
          | None ↦ subst (Fine most) (sym (ends-state m now.machine t (thread_ended t (with_happening h now.state)))) (fine-ended t most (with_happening h now.state) _ refl told)
          | Some c ↦ record {
            distinct = subst AreDistinct (sym (ids-marked t (changed (raised_by c.policy h.thread) now.state.threads))) (fine-counts (raised_by c.policy h.thread) now.state k.distinct);
            next = k.next;
            room = told.room;
          }
        ]
        | false ↦ elim (gathered h now.state.requests) as (λ o. Fine most (report_by m now.machine t h now.state o).after.state) [
          | None ↦ fine-started m law d t most _ k live refl told
          | Some c ↦
              let s = fine-started m law d t most _ k live refl told in
              record { distinct = fine-counts (raised_by c.policy h.thread) (with_started (started h) (with_happening h now.state)) s.distinct; next = s.next; room = s.room }
        ]
      ]
    ]

apart : {b : Bool} → b ≡ true → b ≡ false → ⊥
apart h k = cc

pub kept-step : {S : Type 0} (m : Meaning S) → IsLawful m → (d : Debuggee S) (t : ℕ) → IsKept m d → may_step m d.settings d.moment t ≡ true → IsKept m (at_moment (occurs m d.moment t).after d)
kept-step m law d t k h =
    let r = happens_step m law d.settings d.moment t k.sound h in
    let f = fine-step m law d t k (live-may m d t k h) in
    record {
      sound = r.sound;
      distinct = f.distinct;
      quiet = λ e. absurd (apart (and-left d.moment.state.handshaken _ h) (sym r.handshaken ∙ e));
      limit = k.limit;
      next = f.next;
      limits = k.limits;
      room = f.room;
    }

-- ---- the parts of a step

nonzero : (n : ℕ) → (suc n == 0) ≡ false
nonzero n = false_from_ne_true (suc n == 0) (λ e. let z : suc n ≡ 0 = eqb-true (suc n) 0 e in absurd (omega arith))

-- a thread ended, and with the last one the machine died
ended-from : (st : State) (ts : List Thread) (b : Bool) → st.alive ≡ true → b ≡ (length ts == 0) → (record st { threads = ts; requests = unless_last b st.requests; alive = not b }, b) ≡ ended_by ts (record st { threads = ts })
ended-from st [] b l e =
    let last : b ≡ true = e in
    subst (λ (x : Bool). (record st { threads = []; requests = unless_last x st.requests; alive = not x }, x) ≡ ended_by [] (record st { threads = [] })) (sym last) refl
ended-from st (p ∷ ps) b l e =
    let others : b ≡ false = e ∙ nonzero (length ps) in
    subst (λ (x : Bool). (record st { threads = p ∷ ps; requests = unless_last x st.requests; alive = not x }, x) ≡ ended_by (p ∷ ps) (record st { threads = p ∷ ps })) (sym others)
    (ap (λ (x : Bool). let y : State × Bool = (record st { threads = p ∷ ps; alive = x }, false) in y) (sym l))

pub ended-is : (t : ℕ) (st : State) (ts : List Thread) (rs : List Request) (b : Bool) → st.alive ≡ true → ts ≡ filter (is_other t) st.threads → b ≡ (length ts == 0) → rs ≡ unless_last b st.requests → (record st { threads = ts; requests = rs; alive = not b }, b) ≡ thread_ended t st
ended-is t st ts rs b l e f g =
    subst (λ (x : List Request). (record st { threads = ts; requests = x; alive = not b }, b) ≡ thread_ended t st) (sym g)
    (subst (λ (x : List Thread). b ≡ (length x == 0) → (record st { threads = x; requests = unless_last b st.requests; alive = not b }, b) ≡ thread_ended t st) (sym e) (λ h. ended-from st (filter (is_other t) st.threads) b l h) f)

-- what a step does, by what is known of it
by-mark : {S : Type 0} (m : Meaning S) (now : Moment S) (t : ℕ) (x : State × Bool) → is_marked now.state t ≡ true → x ≡ thread_ended t now.state → ends m now.machine t x ≡ occurs m now t
by-mark m now t x e f = ap (λ y. ends m now.machine t y) f ∙ ap (λ b. occurs_by m now t b) (sym e)

by-happening : {S : Type 0} (m : Meaning S) (now : Moment S) (t : ℕ) (h : HappeningMeaning) (b : Bool) → is_marked now.state t ≡ false → h ≡ m.next now.machine t → runs_out h ≡ b → happens m now t h b ≡ occurs m now t
by-happening m now t h b e n r = ap (λ x. happens m now t h x) (sym r) ∙ (ap (λ x. happens m now t x (runs_out x)) n ∙ ap (λ x. occurs_by m now t x) (sym e))

pub by-death : {S : Type 0} (m : Meaning S) (now : Moment S) (t : ℕ) (h : HappeningMeaning) (o : Option CompositeMeaning) → is_marked now.state t ≡ false → h ≡ m.next now.machine t → runs_out h ≡ true → o ≡ gathered h now.state.requests → death_by m now.machine t h now.state o ≡ occurs m now t
by-death m now t h o e n r g = ap (λ x. death_by m now.machine t h now.state x) g ∙ by-happening m now t h true e n r

pub by-report : {S : Type 0} (m : Meaning S) (now : Moment S) (t : ℕ) (h : HappeningMeaning) (o : Option CompositeMeaning) → is_marked now.state t ≡ false → h ≡ m.next now.machine t → runs_out h ≡ false → o ≡ gathered h now.state.requests → report_by m now.machine t h now.state o ≡ occurs m now t
by-report m now t h o e n r g = ap (λ x. report_by m now.machine t h now.state x) g ∙ by-happening m now t h false e n r

state-started : (o : Option ℕ) (st : State) → record st { threads = with_new o st.threads } ≡ with_started o st
state-started None st = refl
state-started (Some n) st = refl

-- the step that a report leaves
abbrev pub reported : {S : Type 0} → Meaning S → S → ℕ → HappeningMeaning → State → Option CompositeMeaning → Step S
reported m s t h st o = record {
  after = record {
    state = record st {
      threads = raised_for o h.thread (with_new (started h) st.threads);
      requests = all_counted h st.requests;
      next_packet = packet_after o st.next_packet;
      stopped = stopped_for o h.thread st.stopped;
    };
    machine = m.stepped s t;
  };
  sends = o;
  ends = false;
  dies = false;
}

pub report-is : {S : Type 0} (m : Meaning S) (s : S) (t : ℕ) (h : HappeningMeaning) (st : State) (o : Option CompositeMeaning) → reported m s t h st o ≡ report_by m s t h st o
report-is m s t h st None =
    ap (λ (x : State). let y : Step _ = record { after = record { state = x; machine = m.stepped s t }; sends = None; ends = false; dies = false } in y) (state-started (started h) (with_happening h st))
report-is m s t h st (Some c) =
    ap (λ (x : State). let y : Step _ = record { after = record { state = with_packet (stopped_by c h.thread (suspended_by c h.thread x)); machine = m.stepped s t }; sends = Some c; ends = false; dies = false } in y) (state-started (started h) (with_happening h st))

-- ---- for the code's calls

pub kept-from : {S : Type 0} (m : Meaning S) → IsLawful m → (d : Debuggee S) (t : ℕ) (o : Step S) → IsKept m d → may_step m d.settings d.moment t ≡ true → o ≡ occurs m d.moment t → IsKept m (at_moment o.after d)
kept-from m law d t o k h e = subst (λ (x : Step _). IsKept m (at_moment x.after d)) (sym e) (kept-step m law d t k h)

alive-may : {S : Type 0} (m : Meaning S) (d : Debuggee S) (t : ℕ) → may_step m d.settings d.moment t ≡ true → d.moment.state.alive ≡ true
alive-may m d t h = and-left d.moment.state.alive _ (and-right d.moment.state.handshaken _ h)

-- a thread whose death was reported ended
pub marked-ends : {S : Type 0} (m : Meaning S) (d : Debuggee S) (t : ℕ) (ts : List Thread) (rs : List Request) (b : Bool) → may_step m d.settings d.moment t ≡ true → is_marked d.moment.state t ≡ true → ts ≡ filter (is_other t) d.moment.state.threads → b ≡ (length ts == 0) → rs ≡ unless_last b d.moment.state.requests
    → ends m d.moment.machine t (record d.moment.state { threads = ts; requests = rs; alive = not b }, b) ≡ occurs m d.moment t
marked-ends m d t ts rs b h e f g r = by-mark m d.moment t _ e (ended-is t d.moment.state ts rs b (alive-may m d t h) f g r)

-- a thread that has run out ended, and no request reports it
pub silent-ends : {S : Type 0} (m : Meaning S) (d : Debuggee S) (t : ℕ) (h : HappeningMeaning) (ts : List Thread) (rs : List Request) (b : Bool) → may_step m d.settings d.moment t ≡ true → is_marked d.moment.state t ≡ false → h ≡ m.next d.moment.machine t → runs_out h ≡ true → None ≡ gathered h d.moment.state.requests → ts ≡ filter (is_other t) d.moment.state.threads → b ≡ (length ts == 0) → rs ≡ unless_last b (all_counted h d.moment.state.requests)
    → ends m d.moment.machine t (record d.moment.state { threads = ts; requests = rs; alive = not b }, b) ≡ occurs m d.moment t
silent-ends m d t h ts rs b may e n o q f g r =
    ap (λ y. ends m d.moment.machine t y) (ended-is t (with_happening h d.moment.state) ts rs b (alive-may m d t may) f g r)
    ∙ by-death m d.moment t h None e n o q

-- any other step
pub goes-on : {S : Type 0} (m : Meaning S) (d : Debuggee S) (t : ℕ) (h : HappeningMeaning) (o : Option CompositeMeaning) → is_marked d.moment.state t ≡ false → h ≡ m.next d.moment.machine t → runs_out h ≡ false → o ≡ gathered h d.moment.state.requests → reported m d.moment.machine t h d.moment.state o ≡ occurs m d.moment t
goes-on m d t h o e n r g = report-is m d.moment.machine t h d.moment.state o ∙ by-report m d.moment t h o e n r g

pub may-step : {S : Type 0} (m : Meaning S) (d : Debuggee S) (t : ℕ) (h : HappeningMeaning) (b : Bool) → is_marked d.moment.state t ≡ false → h ≡ m.next d.moment.machine t → is_ready d.settings d.moment.state t ≡ true → b ≡ is_full_by (started h) d.settings d.moment.state → not b ≡ may_step m d.settings d.moment t
may-step m d t h b e n r f =
    ap not (f ∙ (ap (λ x. is_full_by (started x) d.settings d.moment.state) n ∙ ap (λ x. is_full_by (starts_by x (m.next d.moment.machine t)) d.settings d.moment.state) (sym e)))
    ∙ (ap (λ x. x && not (is_full_by (starts m d.moment t) d.settings d.moment.state)) (sym r) ∙ sym (may-ready m d.settings d.moment t))

-- a thread whose death was reported starts nobody
pub may-end : {S : Type 0} (m : Meaning S) (d : Debuggee S) (t : ℕ) → is_marked d.moment.state t ≡ true → is_ready d.settings d.moment.state t ≡ true → may_step m d.settings d.moment t ≡ true
may-end m d t e r =
    may-ready m d.settings d.moment t
    ∙ (ap (λ x. x && not (is_full_by (starts m d.moment t) d.settings d.moment.state)) r ∙ ap (λ x. not (is_full_by (starts_by x (m.next d.moment.machine t)) d.settings d.moment.state)) e)

pub not-ready : {S : Type 0} (m : Meaning S) (d : Debuggee S) (t : ℕ) → is_ready d.settings d.moment.state t ≡ false → false ≡ may_step m d.settings d.moment t
not-ready m d t r = ap (λ x. x && not (is_full_by (starts m d.moment t) d.settings d.moment.state)) (sym r) ∙ sym (may-ready m d.settings d.moment t)

with-new-most : (o : Option ℕ) (k : ℕ) (ts : List Thread) → AllAtMost k ts → AllAtMost k (with_new o ts)
with-new-most None k ts a = a
with-new-most (Some n) k [] a = (omega arith, tt)
with-new-most (Some n) k (p ∷ ps) a = (a.0, with-new-most (Some n) k ps a.1)

pub most-started : {S : Type 0} (m : Meaning S) (d : Debuggee S) (o : Option ℕ) → IsKept m d → AllAtMost greatest_int (with_new o d.moment.state.threads)
most-started m d o k = with-new-most o greatest_int d.moment.state.threads (most-of m d k)

pub kept-marked : {S : Type 0} (m : Meaning S) → IsLawful m → (d : Debuggee S) (t : ℕ) (ts : List Thread) (rs : List Request) (b : Bool) → IsKept m d → may_step m d.settings d.moment t ≡ true → is_marked d.moment.state t ≡ true → ts ≡ filter (is_other t) d.moment.state.threads → b ≡ (length ts == 0) → rs ≡ unless_last b d.moment.state.requests
    → IsKept m (at_moment (record { state = record d.moment.state { threads = ts; requests = rs; alive = not b }; machine = m.ended d.moment.machine t }) d)
kept-marked m law d t ts rs b k may e f g r = kept-from m law d t _ k may (marked-ends m d t ts rs b may e f g r)

pub kept-silent : {S : Type 0} (m : Meaning S) → IsLawful m → (d : Debuggee S) (t : ℕ) (h : HappeningMeaning) (ts : List Thread) (rs : List Request) (b : Bool) → IsKept m d → may_step m d.settings d.moment t ≡ true → is_marked d.moment.state t ≡ false → h ≡ m.next d.moment.machine t → runs_out h ≡ true → None ≡ gathered h d.moment.state.requests → ts ≡ filter (is_other t) d.moment.state.threads → b ≡ (length ts == 0) → rs ≡ unless_last b (all_counted h d.moment.state.requests)
    → IsKept m (at_moment (record { state = record d.moment.state { threads = ts; requests = rs; alive = not b }; machine = m.ended d.moment.machine t }) d)
kept-silent m law d t h ts rs b k may e n o q f g r = kept-from m law d t _ k may (silent-ends m d t h ts rs b may e n o q f g r)

pub kept-death : {S : Type 0} (m : Meaning S) → IsLawful m → (d : Debuggee S) (t : ℕ) (h : HappeningMeaning) (c : CompositeMeaning) → IsKept m d → may_step m d.settings d.moment t ≡ true → is_marked d.moment.state t ≡ false → h ≡ m.next d.moment.machine t → runs_out h ≡ true → Some c ≡ gathered h d.moment.state.requests
    → IsKept m (at_moment (death_by m d.moment.machine t h d.moment.state (Some c)).after d)
kept-death m law d t h c k may e n o q = kept-from m law d t _ k may (by-death m d.moment t h (Some c) e n o q)

pub kept-report : {S : Type 0} (m : Meaning S) → IsLawful m → (d : Debuggee S) (t : ℕ) (h : HappeningMeaning) (o : Option CompositeMeaning) → IsKept m d → may_step m d.settings d.moment t ≡ true → is_marked d.moment.state t ≡ false → h ≡ m.next d.moment.machine t → runs_out h ≡ false → o ≡ gathered h d.moment.state.requests
    → IsKept m (at_moment (reported m d.moment.machine t h d.moment.state o).after d)
kept-report m law d t h o k may e n r q = kept-from m law d t _ k may (goes-on m d t h o e n r q)

-- ---- no thread too many starts

not-true : (b : Bool) → not b ≡ true → b ≡ false
not-true true h = cc
not-true false h = refl

not-false : (b : Bool) → not b ≡ false → b ≡ true
not-false true h = refl
not-false false h = cc

few-by : (o : Option ℕ) (settings : Settings) (state : State) → is_full_by o settings state ≡ false → settings.limits.live < 2 ^ 32 → AreFew o state.threads
few-by None settings state h l = tt
few-by (Some n) settings state h l =
    let below : length state.threads < settings.limits.live = ltb-true (length state.threads) settings.limits.live (not-false (nat_lt (length state.threads) settings.limits.live) h) in
    omega arith

pub few-started : {S : Type 0} (m : Meaning S) (d : Debuggee S) (t : ℕ) (h : HappeningMeaning) → IsKept m d → may_step m d.settings d.moment t ≡ true → is_marked d.moment.state t ≡ false → h ≡ m.next d.moment.machine t → d.settings.limits.live < 2 ^ 32 → AreFew (started h) d.moment.state.threads
few-started m d t h k may e n l =
    let room = not-true _ (and-right (is_ready d.settings d.moment.state t) _ (sym (may-ready m d.settings d.moment t) ∙ may)) in
    few-by (started h) d.settings d.moment.state
    (ap (λ x. is_full_by (started x) d.settings d.moment.state) n ∙ (ap (λ x. is_full_by (starts_by x (m.next d.moment.machine t)) d.settings d.moment.state) (sym e) ∙ room)) l

-- ---- a death that is reported

none-starts : (thread : ℕ) (o : OccurrenceMeaning) → is_run_out o ≡ true → started_by thread o ≡ None
none-starts thread (Moved p) e = refl
none-starts thread (Entered p) e = refl
none-starts thread (Left p v) e = refl
none-starts thread (Threw p x) e = refl
none-starts thread (Prepared p) e = refl
none-starts thread Started e = absurd (cc)
none-starts thread RanOut e = refl

turned-marked : (t : ℕ) (before after : List Thread) → turned before (map (marked t) after) ≡ turned before after
turned-marked t [] after = refl
turned-marked t (p ∷ before) [] = refl
turned-marked t (p ∷ before) (q ∷ after) =
    elim (q.id == t) as (λ b. turned_one (p.suspend_count == 0) ((cond b (record q { death_reported = true }) q).suspend_count == 0) + turned before (map (marked t) after) ≡ turned_one (p.suspend_count == 0) (q.suspend_count == 0) + turned before after) [
      | true ↦ ap (λ (n : ℕ). turned_one (p.suspend_count == 0) (q.suspend_count == 0) + n) (turned-marked t before after)
      | false ↦ ap (λ (n : ℕ). turned_one (p.suspend_count == 0) (q.suspend_count == 0) + n) (turned-marked t before after)
    ]

-- what it visits
death-visits : {S : Type 0} (m : Meaning S) (now : Moment S) (t visits : ℕ) (h : HappeningMeaning) (c : CompositeMeaning) → is_marked now.state t ≡ false → h ≡ m.next now.machine t → runs_out h ≡ true → Some c ≡ gathered h now.state.requests
    → visits_at c.policy now.state.threads (changed (raised_by c.policy h.thread) now.state.threads) visits ≡ visits_stepped m now t visits
death-visits {S = S} m now t visits h c e n o q =
    let starts_none : None ≡ starts m now t =
    sym (none-starts h.thread h.occurrence o) ∙ (ap (λ (x : HappeningMeaning). started x) n ∙ ap (λ (b : Bool). starts_by b (m.next now.machine t)) (sym e)) in
    let raised = changed (raised_by c.policy h.thread) now.state.threads in
    ap (λ (k : ℕ). cond (c.policy == POLICY_ALL) k visits) (sym (turned-marked t now.state.threads raised))
    ∙ (ap (λ (x : Option ℕ). visits_at c.policy (with_started x now.state).threads (map (marked t) raised) visits) starts_none
    ∙ ap (λ (x : Step S). visits_for x.sends (with_started (starts m now t) now.state).threads x.after.state.threads visits) (by-death m now t h (Some c) e n o q))

pub steps-death : {S : Type 0} (m : Meaning S) (d : Debuggee S) (t : ℕ) (h : HappeningMeaning) (c : CompositeMeaning) → may_step m d.settings d.moment t ≡ true → is_marked d.moment.state t ≡ false → h ≡ m.next d.moment.machine t → runs_out h ≡ true → Some c ≡ gathered h d.moment.state.requests
    → Steps m t d (visiting (visits_at c.policy d.moment.state.threads (changed (raised_by c.policy h.thread) d.moment.state.threads) d.visits) (at_moment (death_by m d.moment.machine t h d.moment.state (Some c)).after d)) (record { sends = Some c; ends = false; dies = false })
steps-death {S = S} m d t h c may e n o q =
    let is = by-death m d.moment t h (Some c) e n o q in
    record {
      may = may;
      after = ap (λ (k : ℕ). visiting k (at_moment (death_by m d.moment.machine t h d.moment.state (Some c)).after d)) (death-visits m d.moment t d.visits h c e n o q) ∙ ap (λ (x : Step S). visiting (visits_stepped m d.moment t d.visits) (at_moment x.after d)) is;
      sends = ap (λ (x : Step S). x.sends) is;
      ends = ap (λ (x : Step S). x.ends) is;
      dies = ap (λ (x : Step S). x.dies) is;
    }
