-- what holds after each event, and what follows
use Rattle.std.proofs.Common.{◌≡◌, ℕ, ◌+◌, ◌==◌, ◌<◌, ◌≤◌, inl, inr, Bool, true, false, ◌||◌, ◌&&◌, not, cond, List, [], ◌∷◌, ◌++◌, length, refl, sym, ◌∙◌, ap, subst, arith, length-append, append_assoc}
use Rattle.std.specs.Prelude.{nat_le}
use Rattle.std.proofs.lemmas.Bool.{eq-eqb}
use Rattle.jdwp_layout.specs.declared.answer.Answer.{Answer}
use Rattle.jdwp_event.specs.Told.{composite_thread}
use Rattle.jdwp_action.specs.Actions
use Rattle.jdwp_action.specs.Actions.{Command, action_of}
use Rattle.jdwp_apart.specs.Messages.{Composite, Reply, Invocation, is_invocation, is_refused, may_ask, answered_count, counted, counted_by}
use Rattle.jdwp_apart.specs.Watch.{Bound, later, recount, answered_to, surely_gives, all_lower, rest, sure}
use Rattle.jdwp_apart.specs.World.{Life, Alive, Ended, is_unborn, is_alive, is_ended, Reported, Given, Packet, Answers, Reports, World, Event, Asks, CarriesOut, Stops, Begins, Ends, Invokes, Enters, Declines, Leaves, Returns, SendsReply, SendsComposite, Reads, opening, living, asked, may_answer, reply_of, carried_out, carries_out, stopped, lives_one, is_none_unsent, may_stop, becomes, front, back, invoked, enters, declines, leaves, returns_to, on_one, Invoked, Phase, Waits, Runs, Over, sends_reply, sends_composite, reads, next, run}
use Rattle.jdwp_apart.specs.Headline.{Always, SureIsSuspended, SureIsCovered, CountIsAtMost, SettlesExactly, ShownOnceAsked, Throughout, IsSurelySuspended, StaysSuspended, unread_replies, unread_composites, answers_in, reports_in}
use Rattle.jdwp_apart.proofs.Sums.{commands, all_stop, all_give, all_raise, all_take, all_take_most, all_running, all_running_most, all_invoked, later_most, front_back, stops_after}
use Rattle.jdwp_apart.proofs.Bounds.{at_least, below}
use Rattle.jdwp_apart.proofs.Keeps.{Inv, full, waits, both, opening_inv, asked_inv, carried_inv, stopped_inv, begun_inv, ended_inv, replied_inv, told_inv, invoked_inv, enters_inv, declines_inv, leaves_inv, returns_inv}
use Rattle.jdwp_apart.proofs.Streams.{Spaced, spaced_paced, spaced_stopped, spaced_replies, spaced_reports, answers_sent, answers_still, reports_sent, reports_still, no}

pub record Holds (first : ℕ → Bool) (w : World) : Type 0 where
  pub inv : Inv first w (unread_composites w) (unread_replies w)
  pub spaced : Spaced w.watch.one_by_one w.watch.answered w.stream w.composites

-- ---- each event

-- what was sent, and what was not, stays as it is
still : (first : ℕ → Bool) (w : World) (rs : List Given) (us : List Reported) (ps : List Packet) (xs : List Reported) (ys : List Given) → Inv first w xs ys → Inv first (record w { replies = rs; composites = us; stream = ps }) xs ys
still first w rs us ps xs ys i =
    record {
      answered = i.answered;
      pending = i.pending;
      order = i.order;
      unborn = i.unborn;
      each = i.each;
      invoked = i.invoked;
      runs = i.runs;
      first_known = i.first_known;
      exact = i.exact;
    }

if_true : (b : Bool) (Q : Bool → Type 0) → (b ≡ true → Q true) → Q false → Q b
if_true true Q h k = h refl
if_true false Q h k = k

carries_holds : (first : ℕ → Bool) (w : World) (cs : List Command) (answer : Answer) → w.waiting ≡ cs → Holds first w → Holds first (carries_out w cs answer)
carries_holds first w [] answer e i = i
carries_holds first w (c ∷ cs) answer e i =
    if_true (may_answer (action_of c) answer w.lives w.counts) (λ b. Holds first (cond b (carried_out w c cs answer) w))
    (λ h. record {
      inv = subst (λ x. Inv first (carried_out w c cs answer) (unread_composites w) x) (append_assoc (answers_in w.stream) w.replies ((reply_of c answer, living w) ∷ []))
          (carried_inv first w (unread_composites w) (unread_replies w) c cs answer e h i.inv);
      spaced = i.spaced;
    }) i

none_unsent : (b : Bool) (us : List Reported) → (is_none_unsent us || not b) ≡ true → b ≡ true → us ≡ []
none_unsent b [] h e = refl
none_unsent true (x ∷ us) h e = no (sym h)
none_unsent false (x ∷ us) h e = no (sym e)

le_from : (a b : ℕ) → nat_le a b ≡ true → a ≤ b
le_from a b h = elim (at_least a b) [ inl k ↦ k.1 | inr k ↦ no (sym h ∙ k.0) ]

stops_holds : (first : ℕ → Bool) (w : World) (s : Composite) → may_stop w s ≡ true → Holds first w → Holds first (stopped w s)
stops_holds first w s h i =
    let a = both (lives_one (composite_thread s.meaning) w.lives) (nat_le s.since w.done && (is_none_unsent w.composites || not w.watch.one_by_one)) h in
    let b = both (nat_le s.since w.done) (is_none_unsent w.composites || not w.watch.one_by_one) a.1 in
    let x : Reported = (s, w.done, living w) in
    let n : w.watch.answered + length (unread_replies w) ≡ w.done = i.inv.answered in
    let m = length-append (answers_in w.stream) w.replies in
    record {
      inv = subst (λ q. Inv first (stopped w s) q (unread_replies w)) (append_assoc (reports_in w.stream) w.composites (x ∷ []))
          (stopped_inv first w (unread_composites w) (unread_replies w) s a.0 (le_from s.since w.done b.0) i.inv);
      spaced = spaced_stopped w.watch.one_by_one w.watch.answered w.stream w.composites x (none_unsent w.watch.one_by_one w.composites b.1) (omega arith) i.spaced;
    }

sends_reply_holds : (first : ℕ → Bool) (w : World) (rs : List Given) → w.replies ≡ rs → Holds first w → Holds first (sends_reply w rs)
sends_reply_holds first w [] e i = i
sends_reply_holds first w (r ∷ rs) e i =
    let ps = w.stream ++ Answers r ∷ [] in
    record {
      inv = still first w rs w.composites ps (reports_in ps ++ w.composites) (answers_in ps ++ rs)
          (subst (λ q. Inv first w (q ++ w.composites) (answers_in ps ++ rs)) (reports_still w.stream r)
          (subst (λ q. Inv first w (unread_composites w) q) (ap (λ x. answers_in w.stream ++ x) e ∙ answers_sent w.stream r rs) i.inv));
      spaced = spaced_replies w.watch.one_by_one w.watch.answered w.stream w.composites r i.spaced;
    }

sends_composite_holds : (first : ℕ → Bool) (w : World) (us : List Reported) → w.composites ≡ us → Holds first w → Holds first (sends_composite w us)
sends_composite_holds first w [] e i = i
sends_composite_holds first w (s ∷ us) e i =
    let ps = w.stream ++ Reports s ∷ [] in
    record {
      inv = still first w w.replies us ps (reports_in ps ++ us) (answers_in ps ++ w.replies)
          (subst (λ q. Inv first w (reports_in ps ++ us) (q ++ w.replies)) (answers_still w.stream s)
          (subst (λ q. Inv first w q (unread_replies w)) (ap (λ x. reports_in w.stream ++ x) e ∙ reports_sent w.stream s us) i.inv));
      spaced = spaced_reports w.watch.one_by_one w.watch.answered w.stream s us (subst (λ q. Spaced w.watch.one_by_one w.watch.answered w.stream q) e i.spaced);
    }

reads_holds : (first : ℕ → Bool) (w : World) (ps : List Packet) → w.stream ≡ ps → Holds first w → Holds first (reads w ps)
reads_holds first w [] e i = i
reads_holds first w (Answers r ∷ ps) e i =
    record {
      inv = replied_inv first w (reports_in ps ++ w.composites) r (answers_in ps ++ w.replies) ps
          (subst (λ q. Inv first w (reports_in q ++ w.composites) (answers_in q ++ w.replies)) e i.inv);
      spaced = subst (λ q. Spaced w.watch.one_by_one w.watch.answered q w.composites) e i.spaced;
    }
reads_holds first w (Reports s ∷ ps) e i =
    let p : Spaced w.watch.one_by_one w.watch.answered (Reports s ∷ ps) w.composites = subst (λ q. Spaced w.watch.one_by_one w.watch.answered q w.composites) e i.spaced in
    record {
      inv = told_inv first w s (reports_in ps ++ w.composites) (answers_in ps ++ w.replies) ps
          (spaced_paced w.watch.one_by_one w.watch.answered (Reports s ∷ ps) w.composites p)
          (subst (λ q. Inv first w (reports_in q ++ w.composites) (answers_in q ++ w.replies)) e i.inv);
      spaced = p.1;
    }

enters_holds : (first : ℕ → Bool) (w : World) (before : List Invoked) (v : Invocation) (p : Phase) (after : List Invoked) → before ++ (v, p) ∷ after ≡ w.invocations → Holds first w → Holds first (enters w before v p after)
enters_holds first w before v Waits after e i = record { inv = enters_inv first w (unread_composites w) (unread_replies w) before v Waits after e i.inv; spaced = i.spaced }
enters_holds first w before v (Runs lived) after e i = i
enters_holds first w before v Over after e i = i

declines_holds : (first : ℕ → Bool) (w : World) (before : List Invoked) (v : Invocation) (p : Phase) (after : List Invoked) → before ++ (v, p) ∷ after ≡ w.invocations → Holds first w → Holds first (declines w before v p after)
declines_holds first w before v Waits after e i = record { inv = declines_inv first w (unread_composites w) (unread_replies w) before v Waits after e i.inv; spaced = i.spaced }
declines_holds first w before v (Runs lived) after e i = i
declines_holds first w before v Over after e i = i

leaves_holds : (first : ℕ → Bool) (w : World) (before : List Invoked) (v : Invocation) (p : Phase) (after : List Invoked) → before ++ (v, p) ∷ after ≡ w.invocations → Holds first w → Holds first (leaves w before v p after)
leaves_holds first w before v Waits after e i = i
leaves_holds first w before v (Runs lived) after e i = record { inv = leaves_inv first w (unread_composites w) (unread_replies w) before v (Runs lived) after e i.inv; spaced = i.spaced }
leaves_holds first w before v Over after e i = i

returns_holds : (first : ℕ → Bool) (w : World) (before : List Invoked) (v : Invocation) (p : Phase) (after : List Invoked) → before ++ (v, p) ∷ after ≡ w.invocations → Holds first w → Holds first (returns_to w before v p after)
returns_holds first w before v Waits after e i = i
returns_holds first w before v (Runs lived) after e i = i
returns_holds first w before v Over after e i = record { inv = returns_inv first w (unread_composites w) (unread_replies w) before v Over after e i.inv; spaced = i.spaced }

on_one_holds : (first : ℕ → Bool) (f : World → List Invoked → Invocation → Phase → List Invoked → World) (w : World) (before rest : List Invoked) →
    ((v : Invocation) (p : Phase) (after : List Invoked) → before ++ (v, p) ∷ after ≡ w.invocations → Holds first w → Holds first (f w before v p after)) →
    before ++ rest ≡ w.invocations → Holds first w → Holds first (on_one f w before rest)
on_one_holds first f w before [] h e i = i
on_one_holds first f w before (x ∷ after) h e i = h x.0 x.1 after e i

pub by_event : (first : ℕ → Bool) (w : World) (e : Event) → Holds first w → Holds first (next w e)
by_event first w (Asks c) i =
    if_true (may_ask c) (λ b. Holds first (cond b (asked w c) w))
    (λ _. record { inv = asked_inv first w (unread_composites w) (unread_replies w) c i.inv; spaced = i.spaced }) i
by_event first w (CarriesOut answer) i = carries_holds first w w.waiting answer refl i
by_event first w (Stops s) i = if_true (may_stop w s) (λ b. Holds first (cond b (stopped w s) w)) (λ h. stops_holds first w s h i) i
by_event first w (Begins t n) i =
    if_true (is_unborn (w.lives t)) (λ b. Holds first (cond b (becomes w t Alive n) w))
    (λ h. record { inv = begun_inv first w (unread_composites w) (unread_replies w) t n h i.inv; spaced = i.spaced }) i
by_event first w (Ends t) i =
    if_true (is_alive (w.lives t)) (λ b. Holds first (cond b (becomes w t Ended 0) w))
    (λ h. record { inv = ended_inv first w (unread_composites w) (unread_replies w) t i.inv; spaced = i.spaced }) i
by_event first w (Invokes c v) i =
    if_true (is_invocation c) (λ b. Holds first (cond b (invoked w v) w))
    (λ _. record { inv = invoked_inv first w (unread_composites w) (unread_replies w) v i.inv; spaced = i.spaced }) i
by_event first w (Enters n) i = on_one_holds first enters w (front n w.invocations) (back n w.invocations) (enters_holds first w (front n w.invocations)) (front_back n w.invocations) i
by_event first w (Declines n) i = on_one_holds first declines w (front n w.invocations) (back n w.invocations) (declines_holds first w (front n w.invocations)) (front_back n w.invocations) i
by_event first w (Leaves n) i = on_one_holds first leaves w (front n w.invocations) (back n w.invocations) (leaves_holds first w (front n w.invocations)) (front_back n w.invocations) i
by_event first w (Returns n) i = on_one_holds first returns_to w (front n w.invocations) (back n w.invocations) (returns_holds first w (front n w.invocations)) (front_back n w.invocations) i
by_event first w SendsReply i = sends_reply_holds first w w.replies refl i
by_event first w SendsComposite i = sends_composite_holds first w w.composites refl i
by_event first w Reads i = reads_holds first w w.stream refl i

by_events : (first : ℕ → Bool) (w : World) (es : List Event) → Holds first w → Holds first (run w es)
by_events first w [] i = i
by_events first w (e ∷ es) i = by_events first (next w e) es (by_event first w e i)

pub opening_holds : (b : Bool) (first : ℕ → Bool) → Holds first (opening b first)
opening_holds b first = record { inv = opening_inv b first; spaced = λ _. refl }

at_all : (b : Bool) (first : ℕ → Bool) (events : List Event) → Holds first (run (opening b first) events)
at_all b first events = by_events first (opening b first) events (opening_holds b first)

-- ---- what follows

lasts : (l : Life) → l ≡ Alive → is_ended l ≡ false
lasts l h = ap is_ended h

covered : (first : ℕ → Bool) (w : World) → Holds first w → SureIsCovered first w
covered first w h t a =
    let i = h.inv in
    let ss = unread_composites w in
    let rs = unread_replies w in
    let o = i.each t (lasts (w.lives t) a) in
    let x : (w.watch.told t).value + (stops_after (w.watch.told t).base ss t + all_raise rs t) ≤ full w t + all_take rs t = o.told in
    let y : (w.watch.recounted t).value + (stops_after (w.watch.recounted t).base ss t + all_raise rs t) ≤ full w t + all_take rs t = o.recounted in
    let l : later (w.watch.told t).value (w.watch.recounted t).value ≤ full w t + all_take rs t =
    later_most (w.watch.told t).value (w.watch.recounted t).value (full w t + all_take rs t) (omega arith) (omega arith) in
    let m = all_take_most rs t in
    let e = waits first w ss rs t i in
    let r = all_running_most w.invocations t in
    let v = i.invoked t in
    omega arith

at_most : (first : ℕ → Bool) (w : World) → Holds first w → CountIsAtMost first w
at_most first w h t f a n = let e = (h.inv.exact t f (lasts (w.lives t) a) n).same in omega arith

later_first : (a b : ℕ) → a ≤ later a b
later_first a b = elim (at_least a b) [ inl h ↦ subst (λ c. a ≤ cond c b a) (sym h.0) h.1 | inr h ↦ subst (λ c. a ≤ cond c b a) (sym h.0) (omega arith) ]

later_second : (a b : ℕ) → b ≤ later a b
later_second a b =
    elim (at_least a b) [
      | inl h ↦ subst (λ c. b ≤ cond c b a) (sym h.0) (omega arith)
      | inr h ↦ let i = h.1 in subst (λ c. b ≤ cond c b a) (sym h.0) (omega arith)
    ]

nothing : (w : World) → w.stream ≡ [] → w.replies ≡ [] → unread_replies w ≡ []
nothing w a b = ap (λ x. answers_in x ++ w.replies) a ∙ b

nothing_reported : (w : World) → w.stream ≡ [] → w.composites ≡ [] → unread_composites w ≡ []
nothing_reported w a b = ap (λ x. reports_in x ++ w.composites) a ∙ b

exactly : (first : ℕ → Bool) (w : World) → Holds first w → SettlesExactly first w
exactly first w h t f a s n =
    let i = h.inv in
    let ss = unread_composites w in
    let rs = unread_replies w in
    let no_replies = nothing w s.stream s.replies in
    let e = (i.exact t f (lasts (w.lives t) a) n).same in
    let x : all_stop ss t ≡ 0 = ap (λ k. all_stop k t) (nothing_reported w s.stream s.composites) in
    let y : all_give rs t ≡ 0 = ap (λ k. all_give k t) no_replies in
    let u : all_lower (commands rs) t ≡ 0 = ap (λ k. all_lower (commands k) t) no_replies in
    let v : all_lower w.waiting t ≡ 0 = ap (λ k. all_lower k t) s.waiting in
    let q = waits first w ss rs t i in
    let r : all_running w.invocations t ≡ 0 = ap (λ k. all_running k t) s.invocations in
    let m : all_invoked w.invocations t ≡ 0 = ap (λ k. all_invoked k t) s.invocations in
    let o = i.invoked t in
    let c = covered first w h t a in
    let l = later_first (w.watch.told t).value (w.watch.recounted t).value in
    omega arith

-- ---- once asked

recount_least : (k n : ℕ) (b : Bound) → n ≤ (recount k n b).value
recount_least k n b =
    elim (below b.value n) [
      | inl h ↦ subst (λ c. n ≤ (cond c (record { value = n; base = k }) b).value) (sym h.0) (omega arith)
      | inr h ↦ subst (λ c. n ≤ (cond c (record { value = n; base = k }) b).value) (sym h.0) h.1
    ]

same_thread : (t : ℕ) → (t == t) ≡ true
same_thread t = eq-eqb t t refl

told_of : (t : ℕ) (r : Reply) → action_of r.command ≡ Actions.SuspendCount t → is_refused r.answer ≡ false → counted r t ≡ answered_count r.answer
told_of t r a n =
    ap (λ b. cond b 0 (counted_by (action_of r.command) (answered_count r.answer) t)) n
    ∙ ap (λ x. counted_by x (answered_count r.answer) t) a
    ∙ ap (λ b. cond b (answered_count r.answer) 0) (same_thread t)

asked_once : (first : ℕ → Bool) (w : World) → Holds first w → ShownOnceAsked first w
asked_once first w h t r ps a s =
    subst (λ q. sure (reads w q).watch t ≡ w.counts t) (sym s.next) (exact_now (reads_holds first w (Answers r ∷ ps) s.next h))
  where
    exact_now : Holds first (reads w (Answers r ∷ ps)) → sure (reads w (Answers r ∷ ps)).watch t ≡ w.counts t
    exact_now g =
        let v = (reads w (Answers r ∷ ps)).watch in
        let k = w.watch.answered + 1 in
        let c : sure v t ≤ w.counts t = covered first (reads w (Answers r ∷ ps)) g t a in
        let p : all_lower v.pending t ≡ 0 = ap (λ q. all_lower (rest q) t) s.waits in
        let j : v.invoked t ≡ 0 = s.not_invoked in
        let m : counted r.0 t ≡ w.counts t = told_of t r.0 s.asked s.not_refused ∙ s.stands in
        let n : counted r.0 t ≤ (v.recounted t).value = recount_least k (counted r.0 t) (answered_to k (surely_gives (w.watch.knows t) k r.0 t) r.0 t (w.watch.recounted t)) in
        let l = later_second (v.told t).value (v.recounted t).value in
        omega arith

-- ---- all the while

pub suspended_now : (first : ℕ → Bool) (w : World) (t : ℕ) → Holds first w → IsSurelySuspended t w → 0 < w.counts t
suspended_now first w t h s = let c = covered first w h t s.lives in let k : 0 < sure w.watch t = s.sure in omega arith

stays : (first : ℕ → Bool) (w : World) (t : ℕ) (es : List Event) → Holds first w → Throughout (IsSurelySuspended t) w es → Throughout (λ v. 0 < v.counts t) w es
stays first w t [] h s = suspended_now first w t h s
stays first w t (e ∷ es) h s = (suspended_now first w t h s.0, stays first (next w e) t es (by_event first w e h) s.1)

-- ---- always

pub always_covered : Always SureIsCovered
always_covered b first events = covered first (run (opening b first) events) (at_all b first events)

pub always_suspended : Always SureIsSuspended
always_suspended b first events t a h = let k = always_covered b first events t a in omega arith

pub always_at_most : Always CountIsAtMost
always_at_most b first events = at_most first (run (opening b first) events) (at_all b first events)

pub always_exact : Always SettlesExactly
always_exact b first events = exactly first (run (opening b first) events) (at_all b first events)

pub always_once_asked : Always ShownOnceAsked
always_once_asked b first events = asked_once first (run (opening b first) events) (at_all b first events)

pub always_stays : Always StaysSuspended
always_stays b first events t later_events s = stays first (run (opening b first) events) t later_events (at_all b first events) s
