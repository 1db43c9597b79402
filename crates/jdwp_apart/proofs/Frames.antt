-- a thread's frames stay while it is surely suspended
use Rattle.std.proofs.Common.{◌≡◌, ℕ, suc, ◌+◌, ◌==◌, ◌<◌, ◌≤◌, Bool, true, false, ◌||◌, cond, List, [], ◌∷◌, ◌++◌, length, Option, Some, None, refl, sym, ◌∙◌, ap, subst, arith, length-append, append_assoc}
use Rattle.std.proofs.lemmas.Bool.{cond_both, eqb-true, eq-eqb, lt-ltb}
use Rattle.jdwp_layout.specs.declared.answer.Answer.{Answer}
use Rattle.jdwp_action.specs.Actions
use Rattle.jdwp_action.specs.Actions.{Command, Action, action_of}
use Rattle.jdwp_apart.specs.Messages.{Invocation, is_thread, is_invocation, may_ask}
use Rattle.jdwp_apart.specs.World.{Reported, Given, Packet, Answers, Reports, World, Event, Asks, CarriesOut, Stops, Begins, Ends, Invokes, Enters, Declines, Leaves, Returns, SendsReply, SendsComposite, Reads, Invoked, Phase, Waits, Runs, Over, Alive, Ended, is_unborn, is_alive, living, opening, asked, may_answer, reply_of, carried_out, carries_out, stopped, may_stop, becomes, front, back, invoked, enters, declines, leaves, returns_to, on_one, sends_reply, sends_composite, reads}
use Rattle.jdwp_apart.specs.Headline.{IsSurelySuspended, unread_replies, answers_in}
use Rattle.jdwp_apart.specs.Frames.{asks_of, writes_of, Framed, FramedEvent, Happens, Moves, Writes, is_suspended, with_frames, answers_by, answers_next, writes_by, writes_next, next_framed, run_framed, AlwaysFramed, has_write, asks_write, ThroughoutFramed, FramesStay, AnswersStayTrue}
use Rattle.jdwp_apart.proofs.Sums.{commands}
use Rattle.jdwp_apart.proofs.Streams.{answers_sent, answers_still}
use Rattle.jdwp_apart.proofs.Holds.{Holds, opening_holds, by_event, suspended_now}

-- ---- the target itself goes on as any does

written-holds : (first : ℕ → Bool) (w : Framed) (o : Option ℕ) (answer : Answer) (frames : Command → Answer) → Holds first w.world → Holds first (writes_by w o answer frames).world
written-holds first w None answer frames h = h
written-holds first w (Some t) answer frames h = by_event first w.world (CarriesOut answer) h

writes-holds : (first : ℕ → Bool) (w : Framed) (cs : List Command) (answer : Answer) (frames : Command → Answer) → Holds first w.world → Holds first (writes_next w cs answer frames).world
writes-holds first w [] answer frames h = h
writes-holds first w (c ∷ cs) answer frames h = written-holds first w (writes_of (action_of c)) answer frames h

framed-holds : (first : ℕ → Bool) (w : Framed) (e : FramedEvent) → Holds first w.world → Holds first (next_framed w e).world
framed-holds first w (Happens (CarriesOut answer)) h = by_event first w.world (CarriesOut (answers_next w w.world.waiting answer)) h
framed-holds first w (Happens e) h = by_event first w.world e h
framed-holds first w (Moves t frames) h = cond_both (is_suspended w.world t) w (with_frames w t frames) (λ v. Holds first v.world) (λ _. h) (λ _. h)
framed-holds first w (Writes answer frames) h = writes-holds first w w.world.waiting answer frames h

run-holds : (first : ℕ → Bool) (w : Framed) (es : List FramedEvent) → Holds first w.world → Holds first (run_framed w es).world
run-holds first w [] h = h
run-holds first w (e ∷ es) h = run-holds first (next_framed w e) es (framed-holds first w e h)

-- ---- what was answered

-- a reply says of the thread's frames what they are
abbrev IsGood : ℕ → (Command → Answer) → Given → Type 0
IsGood t frames r = asks_of (action_of r.0.command) ≡ Some t → r.0.answer ≡ frames r.0.command

-- each reply does, of those that answer commands after the first d; the first of the list is the one after n others
abbrev AreGood : ℕ → (Command → Answer) → ℕ → ℕ → List Given → Type 0
AreGood t frames d n [] = Unit {0}
AreGood t frames d n (r ∷ rs) = (d ≤ n → IsGood t frames r) × AreGood t frames d (n + 1) rs

good-more : (t : ℕ) (frames : Command → Answer) (d n : ℕ) (rs : List Given) (r : Given) → AreGood t frames d n rs → IsGood t frames r → AreGood t frames d n (rs ++ r ∷ [])
good-more t frames d n [] r g h = ((λ _. h), tt)
good-more t frames d n (x ∷ rs) r g h = (g.0, good-more t frames d (n + 1) rs r g.1 h)

good-first : (t : ℕ) (frames : Command → Answer) (d n : ℕ) (rs : List Given) → n + length rs ≤ d → AreGood t frames d n rs
good-first t frames d n [] h = tt
good-first t frames d n (r ∷ rs) h =
    let k : n + suc (length rs) ≤ d = h in
    ((λ l. absurd (omega arith)), good-first t frames d (n + 1) rs (omega arith))

-- ---- what holds from where the thread is surely suspended

record Kept (t d : ℕ) (was : Command → Answer) (w : Framed) : Type 0 where
  no_write : has_write w.world.waiting t ≡ false
  same : (c : Command) → w.frames t c ≡ was c
  good : AreGood t was d w.world.watch.answered (unread_replies w.world)

-- the parts of a target of which this speaks
record SameParts (v w : World) : Type 0 where
  waiting : v.waiting ≡ w.waiting
  unread : unread_replies v ≡ unread_replies w
  answered : v.watch.answered ≡ w.watch.answered

same-parts : (w : World) → SameParts w w
same-parts w = record { waiting = refl; unread = refl; answered = refl }

kept-same : (t d : ℕ) (was : Command → Answer) (w : Framed) (v : World) → SameParts v w.world → Kept t d was w → Kept t d was (record w { world = v })
kept-same t d was w v s k =
    record {
      no_write = ap (λ l. has_write l t) s.waiting ∙ k.no_write;
      same = k.same;
      good = subst (λ n. AreGood t was d n (unread_replies v)) (sym s.answered) (subst (AreGood t was d w.world.watch.answered) (sym s.unread) k.good);
    }

no : {P : Type 0} → true ≡ false → P
no h = absurd (cc)

neither : (a b : Bool) → (a || b) ≡ false → (a ≡ false) × (b ≡ false)
neither true b h = absurd (cc)
neither false b h = (refl, h)

either-not : (a b : Bool) → a ≡ false → b ≡ false → (a || b) ≡ false
either-not a b h k = ap (λ x. x || b) h ∙ k

write-append : (xs ys : List Command) (t : ℕ) → has_write xs t ≡ false → has_write ys t ≡ false → has_write (xs ++ ys) t ≡ false
write-append [] ys t h k = k
write-append (x ∷ xs) ys t h k =
    let n = neither (is_thread (writes_of (action_of x)) t) (has_write xs t) h in
    either-not (is_thread (writes_of (action_of x)) t) (has_write (xs ++ ys) t) n.0 (write-append xs ys t n.1 k)

write-back : (xs ys : List Command) (t : ℕ) → has_write (xs ++ ys) t ≡ false → has_write ys t ≡ false
write-back [] ys t h = h
write-back (x ∷ xs) ys t h = write-back xs ys t (neither (is_thread (writes_of (action_of x)) t) (has_write (xs ++ ys) t) h).1

-- ---- one event

same-thread : (t : ℕ) → (t == t) ≡ true
same-thread t = eq-eqb t t refl

answer-good : (t : ℕ) (was : Command → Answer) (w : Framed) (c : Command) (o : Option ℕ) (answer : Answer) → 0 < w.world.counts t → ((c : Command) → w.frames t c ≡ was c) → o ≡ Some t → answers_by w c o answer ≡ was c
answer-good t was w c o answer p s e =
    ap (λ x. answers_by w c x answer) e ∙ (ap (λ b. cond b (w.frames t c) answer) (lt-ltb 0 (w.world.counts t) p) ∙ s c)

given-kept : (t d : ℕ) (was : Command → Answer) (w : Framed) (c : Command) (cs : List Command) (answer : Answer) → w.world.waiting ≡ c ∷ cs → (asks_of (action_of c) ≡ Some t → answer ≡ was c) → Kept t d was w → Kept t d was (record w { world = carries_out w.world (c ∷ cs) answer })
given-kept t d was w c cs answer e good k =
    cond_both (may_answer (action_of c) answer w.world.lives w.world.counts) (carried_out w.world c cs answer) w.world (λ v. Kept t d was (record w { world = v }))
    (λ _. record {
      no_write = (neither (is_thread (writes_of (action_of c)) t) (has_write cs t) (sym (ap (λ l. has_write l t) e) ∙ k.no_write)).1;
      same = k.same;
      good = subst (AreGood t was d w.world.watch.answered) (append_assoc (answers_in w.world.stream) w.world.replies ((reply_of c answer, living w.world) ∷ []))
          (good-more t was d w.world.watch.answered (unread_replies w.world) (reply_of c answer, living w.world) k.good good);
    })
    (λ _. record { no_write = k.no_write; same = k.same; good = k.good })

carries-kept : (t d : ℕ) (was : Command → Answer) (w : Framed) (cs : List Command) (answer : Answer) → 0 < w.world.counts t → w.world.waiting ≡ cs → Kept t d was w → Kept t d was (record w { world = carries_out w.world cs (answers_next w cs answer) })
carries-kept t d was w [] answer p e k = record { no_write = k.no_write; same = k.same; good = k.good }
carries-kept t d was w (c ∷ cs) answer p e k =
    given-kept t d was w c cs (answers_by w c (asks_of (action_of c)) answer) e (answer-good t was w c (asks_of (action_of c)) answer p k.same) k

writes-no-question : (a : Action) (u t : ℕ) → writes_of a ≡ Some u → asks_of a ≡ Some t → ⊥
writes-no-question (Actions.SetSlots v f values) u t h k = cc
writes-no-question a u t h k = cc

other-frames : (t u : ℕ) (frames : Command → Answer) (w : Framed) (c : Command) → (u == t) ≡ false → (with_frames w u frames).frames t c ≡ w.frames t c
other-frames t u frames w c h = ap (λ b. cond b frames (w.frames t) c) h

written-kept : (t d : ℕ) (was : Command → Answer) (w : Framed) (c : Command) (cs : List Command) (o : Option ℕ) (answer : Answer) (frames : Command → Answer) → w.world.waiting ≡ c ∷ cs → writes_of (action_of c) ≡ o → Kept t d was w → Kept t d was (writes_by w o answer frames)
written-kept t d was w c cs None answer frames e h k = k
written-kept t d was w c cs (Some u) answer frames e h k =
    let g = given-kept t d was w c cs answer e (λ q. absurd (writes-no-question (action_of c) u t h q)) k in
    let v : Framed = record w { world = carries_out w.world (c ∷ cs) answer } in
    let n : is_thread (writes_of (action_of c)) t ≡ false = (neither (is_thread (writes_of (action_of c)) t) (has_write cs t) (sym (ap (λ l. has_write l t) e) ∙ k.no_write)).0 in
    let f : (u == t) ≡ false = sym (ap (λ x. is_thread x t) h) ∙ n in
    subst (λ l. Kept t d was (with_frames (record w { world = carries_out w.world l answer }) u frames)) (sym e)
    (record { no_write = g.no_write; same = λ i. other-frames t u frames v i f ∙ g.same i; good = g.good })

writes-kept : (t d : ℕ) (was : Command → Answer) (w : Framed) (cs : List Command) (answer : Answer) (frames : Command → Answer) → w.world.waiting ≡ cs → Kept t d was w → Kept t d was (writes_next w cs answer frames)
writes-kept t d was w [] answer frames e k = k
writes-kept t d was w (c ∷ cs) answer frames e k = written-kept t d was w c cs (writes_of (action_of c)) answer frames e refl k

reads-kept : (t d : ℕ) (was : Command → Answer) (w : Framed) (ps : List Packet) → w.world.stream ≡ ps → Kept t d was w → Kept t d was (record w { world = reads w.world ps })
reads-kept t d was w [] e k = record { no_write = k.no_write; same = k.same; good = k.good }
reads-kept t d was w (Answers r ∷ ps) e k =
    let g : AreGood t was d w.world.watch.answered (r ∷ (answers_in ps ++ w.world.replies)) = subst (λ l. AreGood t was d w.world.watch.answered (answers_in l ++ w.world.replies)) e k.good in
    record { no_write = k.no_write; same = k.same; good = g.1 }
reads-kept t d was w (Reports s ∷ ps) e k =
    record { no_write = k.no_write; same = k.same; good = subst (λ l. AreGood t was d w.world.watch.answered (answers_in l ++ w.world.replies)) e k.good }

asked-kept : (t d : ℕ) (was : Command → Answer) (w : Framed) (c : Command) → is_thread (writes_of (action_of c)) t ≡ false → Kept t d was w → Kept t d was (record w { world = asked w.world c })
asked-kept t d was w c n k =
    record { no_write = write-append w.world.waiting (c ∷ []) t k.no_write (either-not (is_thread (writes_of (action_of c)) t) false n refl); same = k.same; good = k.good }

-- ---- events that leave these parts

sent-same : (w : World) (rs : List Given) → w.replies ≡ rs → SameParts (sends_reply w rs) w
sent-same w [] e = same-parts w
sent-same w (r ∷ rs) e = record { waiting = refl; unread = sym (ap (λ l. answers_in w.stream ++ l) e ∙ answers_sent w.stream r rs); answered = refl }

told-same : (w : World) (us : List Reported) → SameParts (sends_composite w us) w
told-same w [] = same-parts w
told-same w (s ∷ us) = record { waiting = refl; unread = sym (ap (λ l. l ++ w.replies) (answers_still w.stream s)); answered = refl }

cond-same : (b : Bool) (v w : World) → SameParts v w → SameParts (cond b v w) w
cond-same true v w s = s
cond-same false v w s = same-parts w

becomes-same : (b : Bool) (w v : World) → SameParts v w → SameParts (cond b v w) w
becomes-same b w v s = cond-same b v w s

one-same : (f : World → List Invoked → Invocation → Phase → List Invoked → World) (w : World) (before rest : List Invoked) → ((i : Invocation) (p : Phase) (after : List Invoked) → SameParts (f w before i p after) w) → SameParts (on_one f w before rest) w
one-same f w before [] h = same-parts w
one-same f w before (x ∷ after) h = h x.0 x.1 after

enters-same : (w : World) (before : List Invoked) (i : Invocation) (p : Phase) (after : List Invoked) → SameParts (enters w before i p after) w
enters-same w before i Waits after = record { waiting = refl; unread = refl; answered = refl }
enters-same w before i (Runs lived) after = same-parts w
enters-same w before i Over after = same-parts w

declines-same : (w : World) (before : List Invoked) (i : Invocation) (p : Phase) (after : List Invoked) → SameParts (declines w before i p after) w
declines-same w before i Waits after = record { waiting = refl; unread = refl; answered = refl }
declines-same w before i (Runs lived) after = same-parts w
declines-same w before i Over after = same-parts w

leaves-same : (w : World) (before : List Invoked) (i : Invocation) (p : Phase) (after : List Invoked) → SameParts (leaves w before i p after) w
leaves-same w before i Waits after = same-parts w
leaves-same w before i (Runs lived) after = record { waiting = refl; unread = refl; answered = refl }
leaves-same w before i Over after = same-parts w

returns-same : (w : World) (before : List Invoked) (i : Invocation) (p : Phase) (after : List Invoked) → SameParts (returns_to w before i p after) w
returns-same w before i Waits after = same-parts w
returns-same w before i (Runs lived) after = same-parts w
returns-same w before i Over after = record { waiting = refl; unread = refl; answered = refl }

-- ---- all events

happens-kept : (t d : ℕ) (was : Command → Answer) (w : Framed) (e : Event) → asks_write (Happens e ∷ []) t ≡ false → 0 < w.world.counts t → Kept t d was w → Kept t d was (next_framed w (Happens e))
happens-kept t d was w (CarriesOut answer) n p k = carries-kept t d was w w.world.waiting answer p refl k
happens-kept t d was w Reads n p k = reads-kept t d was w w.world.stream refl k
happens-kept t d was w (Asks c) n p k =
    cond_both (may_ask c) (asked w.world c) w.world (λ v. Kept t d was (record w { world = v })) (λ _. asked-kept t d was w c (neither (is_thread (writes_of (action_of c)) t) false n).0 k)
    (λ _. record { no_write = k.no_write; same = k.same; good = k.good })
happens-kept t d was w (Stops s) n p k = kept-same t d was w _ (cond-same (may_stop w.world s) (stopped w.world s) w.world (record { waiting = refl; unread = refl; answered = refl })) k
happens-kept t d was w (Begins u c) n p k = kept-same t d was w _ (cond-same (is_unborn (w.world.lives u)) (becomes w.world u Alive c) w.world (record { waiting = refl; unread = refl; answered = refl })) k
happens-kept t d was w (Ends u) n p k = kept-same t d was w _ (cond-same (is_alive (w.world.lives u)) (becomes w.world u Ended 0) w.world (record { waiting = refl; unread = refl; answered = refl })) k
happens-kept t d was w (Invokes c i) n p k = kept-same t d was w _ (cond-same (is_invocation c) (invoked w.world i) w.world (record { waiting = refl; unread = refl; answered = refl })) k
happens-kept t d was w (Enters i) n p k = kept-same t d was w _ (one-same enters w.world (front i w.world.invocations) (back i w.world.invocations) (enters-same w.world (front i w.world.invocations))) k
happens-kept t d was w (Declines i) n p k = kept-same t d was w _ (one-same declines w.world (front i w.world.invocations) (back i w.world.invocations) (declines-same w.world (front i w.world.invocations))) k
happens-kept t d was w (Leaves i) n p k = kept-same t d was w _ (one-same leaves w.world (front i w.world.invocations) (back i w.world.invocations) (leaves-same w.world (front i w.world.invocations))) k
happens-kept t d was w (Returns i) n p k = kept-same t d was w _ (one-same returns_to w.world (front i w.world.invocations) (back i w.world.invocations) (returns-same w.world (front i w.world.invocations))) k
happens-kept t d was w SendsReply n p k = kept-same t d was w _ (sent-same w.world w.world.replies refl) k
happens-kept t d was w SendsComposite n p k = kept-same t d was w _ (told-same w.world w.world.composites) k

moves-kept : (t d : ℕ) (was : Command → Answer) (w : Framed) (u : ℕ) (frames : Command → Answer) → 0 < w.world.counts t → Kept t d was w → Kept t d was (next_framed w (Moves u frames))
moves-kept t d was w u frames p k =
    cond_both (is_suspended w.world u) w (with_frames w u frames) (Kept t d was) (λ _. k) (λ h.
    let f : (u == t) ≡ false = differ (u == t) (λ e. let q : u ≡ t = eqb-true u t e in no (sym (lt-ltb 0 (w.world.counts t) p) ∙ (ap (is_suspended w.world) (sym q) ∙ h))) in
    record { no_write = k.no_write; same = λ c. other-frames t u frames w c f ∙ k.same c; good = k.good })
  where
    differ : (b : Bool) → (b ≡ true → true ≡ false) → b ≡ false
    differ true h = let x = h refl in absurd (cc)
    differ false h = refl

framed-kept : (t d : ℕ) (was : Command → Answer) (w : Framed) (e : FramedEvent) → asks_write (e ∷ []) t ≡ false → 0 < w.world.counts t → Kept t d was w → Kept t d was (next_framed w e)
framed-kept t d was w (Happens e) n p k = happens-kept t d was w e n p k
framed-kept t d was w (Moves u frames) n p k = moves-kept t d was w u frames p k
framed-kept t d was w (Writes answer frames) n p k = writes-kept t d was w w.world.waiting answer frames refl k

-- ---- along events

write-parts : (e : FramedEvent) (es : List FramedEvent) (t : ℕ) → asks_write (e ∷ es) t ≡ false → (asks_write (e ∷ []) t ≡ false) × (asks_write es t ≡ false)
write-parts (Happens (Asks c)) es t h = let n = neither (is_thread (writes_of (action_of c)) t) (asks_write es t) h in (either-not (is_thread (writes_of (action_of c)) t) false n.0 refl, n.1)
write-parts (Happens e) es t h = (refl, h)
write-parts (Moves u frames) es t h = (refl, h)
write-parts (Writes answer frames) es t h = (refl, h)

-- What is kept at one moment of a run, and what is left of it.
record Left (first : ℕ → Bool) (t d : ℕ) (was : Command → Answer) (w : Framed) (es : List FramedEvent) : Type 0 where
  kept : Kept t d was w
  holds : Holds first w.world
  no_write : asks_write es t ≡ false
  surely : ThroughoutFramed (IsSurelySuspended t) w es

left-next : (first : ℕ → Bool) (t d : ℕ) (was : Command → Answer) (w : Framed) (e : FramedEvent) (es : List FramedEvent) → Left first t d was w (e ∷ es) → Left first t d was (next_framed w e) es
left-next first t d was w e es l =
    let n = write-parts e es t l.no_write in
    record {
      kept = framed-kept t d was w e n.0 (suspended_now first w.world t l.holds l.surely.0) l.kept;
      holds = framed-holds first w e l.holds;
      no_write = n.1;
      surely = l.surely.1;
    }

left-along : (first : ℕ → Bool) (t d : ℕ) (was : Command → Answer) (w : Framed) (es rest : List FramedEvent) → Left first t d was w (es ++ rest) → Left first t d was (run_framed w es) rest
left-along first t d was w [] rest l = l
left-along first t d was w (e ∷ es) rest l = left-along first t d was (next_framed w e) es rest (left-next first t d was w e (es ++ rest) l)

left-all : (first : ℕ → Bool) (t d : ℕ) (was : Command → Answer) (w : Framed) (es : List FramedEvent) → Left first t d was w es → Kept t d was (run_framed w es)
left-all first t d was w [] l = l.kept
left-all first t d was w (e ∷ es) l = left-all first t d was (next_framed w e) es (left-next first t d was w e es l)

first-left : (first : ℕ → Bool) (t d : ℕ) (w : Framed) (es : List FramedEvent) → Holds first w.world → has_write w.world.watch.pending t ≡ false → asks_write es t ≡ false → ThroughoutFramed (IsSurelySuspended t) w es → w.world.watch.answered + length (unread_replies w.world) ≤ d → Left first t d (w.frames t) w es
first-left first t d w es h n a s m =
    record {
      kept = record {
        no_write = write-back (commands (unread_replies w.world)) w.world.waiting t (sym (ap (λ l. has_write l t) h.inv.pending) ∙ n);
        same = λ c. refl;
        good = good-first t (w.frames t) d w.world.watch.answered (unread_replies w.world) m;
      };
      holds = h;
      no_write = a;
      surely = s;
    }

stay : (first : ℕ → Bool) (w : Framed) → Holds first w.world → FramesStay first w
stay first w h t es c n a s =
    let d = w.world.watch.answered + length (unread_replies w.world) in
    (left-all first t d (w.frames t) w es (first-left first t d w es h n a s (omega arith))).same c

length-commands : (rs : List Given) → length (commands rs) ≡ length rs
length-commands [] = refl
length-commands (r ∷ rs) = ap suc (length-commands rs)

asked-first : (first : ℕ → Bool) (w : World) → Holds first w → w.watch.answered + length (unread_replies w) ≤ w.watch.answered + length w.watch.pending
asked-first first w h =
    let e : length w.watch.pending ≡ length (commands (unread_replies w) ++ w.waiting) = ap length h.inv.pending in
    let f = length-append (commands (unread_replies w)) w.waiting in
    let g = length-commands (unread_replies w) in
    omega arith

answer-now : (t d : ℕ) (was : Command → Answer) (w : Framed) (r : Given) (ps : List Packet) → Kept t d was w → w.world.stream ≡ Answers r ∷ ps → d ≤ w.world.watch.answered → action_of r.0.command ≡ Actions.AskFrames t → r.0.answer ≡ was r.0.command
answer-now t d was w r ps k e m q =
    let g : AreGood t was d w.world.watch.answered (r ∷ (answers_in ps ++ w.world.replies)) = subst (λ l. AreGood t was d w.world.watch.answered (answers_in l ++ w.world.replies)) e k.good in
    g.0 m (ap asks_of q)

run-along : (w : Framed) (xs ys : List FramedEvent) → run_framed w (xs ++ ys) ≡ run_framed (run_framed w xs) ys
run-along w [] ys = refl
run-along w (x ∷ xs) ys = run-along (next_framed w x) xs ys

answers : (first : ℕ → Bool) (w : Framed) → Holds first w.world → AnswersStayTrue first w
answers first w h t before after r ps n a s q e m =
    let d = w.world.watch.answered + length w.world.watch.pending in
    let es = before ++ Happens Reads ∷ after in
    let l = first-left first t d w es h n a s (asked-first first w.world h) in
    let x = (left-along first t d (w.frames t) w before (Happens Reads ∷ after) l).kept in
    let y : r.0.answer ≡ w.frames t r.0.command = answer-now t d (w.frames t) (run_framed w before) r ps x e m q in
    (left-all first t d (w.frames t) w es l).same r.0.command ∙ sym y

-- ---- always

opened-framed : (b : Bool) (first : ℕ → Bool) (frames : ℕ → Command → Answer) (es : List FramedEvent) → Holds first (run_framed (record { world = opening b first; frames = frames }) es).world
opened-framed b first frames es = run-holds first (record { world = opening b first; frames = frames }) es (opening_holds b first)

pub always_frames : AlwaysFramed FramesStay
always_frames b first frames es = stay first (run_framed (record { world = opening b first; frames = frames }) es) (opened-framed b first frames es)

pub always_answers : AlwaysFramed AnswersStayTrue
always_answers b first frames es = answers first (run_framed (record { world = opening b first; frames = frames }) es) (opened-framed b first frames es)
