-- How the facts of an engine's run go on from one call to the next.
use Rattle.std.proofs.Common.{◌≡◌, ◌≢◌, ◌∙◌, ℕ, ◌<◌, ◌≤◌, ◌-◌, ◌++◌, Some, List, [], ◌∷◌, length, Bool, true, false, Ok, Err, ◌⊎◌, inl, inr, nat_le, take, drop, sym, ap, refl, subst, append_assoc, arith}
use Rattle.std.proofs.lemmas.Bool.{leb-false, lt-leb}
use Rattle.std.proofs.lemmas.Grind.{common_steps}
use Rattle.std.proofs.lemmas.List.{append-nil, length-drop, take_all}
use Rattle.jdwp_wire.specs.Bytes.{IsBytes}
use Rattle.jdwp_wire.specs.FaultNumbers.{fault_number}
use Rattle.jdwp_wire.specs.Streams.{Message, More, IsFront}
use Rattle.jdwp_wire.specs.declared.frame.FrameFault.{FrameFault}
use Rattle.jdwp_end.specs.Ends.{front_of, is_established, is_open, is_paused, next_of}
use Rattle.jdwp_end.specs.Ends as ends
use Rattle.jdwp_end.specs.Runs.{Carries}
use Rattle.jdwp_end.specs.CarryingLaws.{carries-taken}
use Rattle.jdwp_end.specs.FrontLaws.{front-fault, front-next, front-whole}
use Rattle.jdwp_machine.specs.Meanings.{Meaning}
use Rattle.jdwp_target.specs.declared.target.TargetFault.TheVariants.{Frame, NoMemory}
use Rattle.jdwp_target.specs.declared.target.Turn.{Turn}
use Rattle.jdwp_target.specs.declared.target.Turn.TheVariants.{Nothing}
use Rattle.jdwp_target.specs.Closings.{ClosesForReason}
use Rattle.jdwp_target.specs.Standings.{handled}
use Rattle.jdwp_target.specs.Deeds.{DefersFew, acts_in}
use Rattle.jdwp_target.specs.ReleaseLaws.{found}
use Rattle.jdwp_target.specs.Targets.{Target, Ran, full_standing, lost_target, opened_target, with_fed, with_release, with_taken}
use Rattle.jdwp_target.specs.Turns.{TurnsAt, deferred_at}
use Rattle.jdwp_end.specs.declared.pipes.ended.Ended.{Ended}
use Rattle.jdwp_end.specs.declared.pipes.ended.Ended.TheVariants as ended
use Rattle.jdwp_end.specs.declared.pipes.ended.Ended.TheVariants.{Done, LostByRead, LostByWrite, Refused, TurnLimit}
use Rattle.jdwp_end.specs.Story.{FailsFlush, FailsRead, FailsWrite, Story, flushed, with_read, with_written}
use Rattle.jdwp_engine.specs.declared.serving.AfterRound.{AfterRound}
use Rattle.jdwp_engine.specs.declared.serving.AfterRound.TheVariants.{Goes, Ends}
use Rattle.jdwp_engine.specs.Next.{IfEnds}
use Rattle.jdwp_engine.specs.Outcome.{CallsForMemory, EndsSo, FrontIs, IsFaultOf, IsLost, MayEnd, MayStep}
use Rattle.jdwp_engine.specs.Run.{GoesOn, InOrder, IsGoing, LosesAtRead, LosesAtWrite, ReadsMore, WritesAll, cost}
use Rattle.jdwp_engine.specs.Steps.{Advances, StepsIf, StepsOn}
use Rattle.jdwp_engine.specs.Sessions.{ReleasesNewest}
use Rattle.jdwp_engine.proofs.Advancing.{HasEnded, message-advances, release-advances}
use Rattle.jdwp_engine.proofs.Fronts.{front-left}
use Rattle.jdwp_engine.proofs.Turns.{frame-Fault, handled-Whole, no_memory-Whole, released-one}

-- ---- a write that fails

-- of what was taken of some bytes some was written: a beginning of all of them
pub fails-whole : (s t : Story) (taken whole : List ℕ) → IsFront taken whole → FailsWrite s t taken → FailsWrite s t whole
fails-whole s t taken whole front f =
    let w = f.written in
    record {
      written = (w.0, w.1, (w.2.0 ++ front.0, front.1 ∙ ap (λ (x : List ℕ). x ++ front.0) w.2.1 ∙ append_assoc w.0 w.2.0 front.0));
      failed_writes = f.failed_writes;
      read = f.read;
      early = f.early;
    }

-- ---- what is put

-- a target that enqueued these bytes, and stands in the same session
record Puts {S : Type 0} (old new : Target S) : Type 0 where
  settings : new.settings ≡ old.settings
  began : new.began ≡ old.began
  lost : new.end.session.lost ≡ old.end.session.lost
  fed : new.end.session.fed ≡ old.end.session.fed
  bytes : List ℕ
  enqueued : new.end.session.enqueued ≡ old.end.session.enqueued ++ bytes
  outgoing : new.end.outgoing ≡ old.end.outgoing ++ bytes

puts-of : {S : Type 0} (old new : Target S) (why : Type 0) → Advances old new why → Puts old new
puts-of old new why p =
    record { settings = p.settings; began = p.began; lost = p.lost; fed = p.fed; bytes = p.bytes; enqueued = p.enqueued; outgoing = p.outgoing }

puts-nothing : {S : Type 0} (v : Target S) → Puts v v
puts-nothing v =
    record { settings = refl; began = refl; lost = refl; fed = refl; bytes = []; enqueued = sym (append-nil v.end.session.enqueued); outgoing = sym (append-nil v.end.outgoing) }

puts-if : {S : Type 0} (old new : Target S) (made : Bool) → StepsIf old new made → Puts old new
puts-if old new true p = puts-of old new _ p
puts-if old new false same = rw same (puts-nothing old)

-- all that was put was written, and the session goes on
going : {S : Type 0} (base : Target S) (start s : Story) (old new : Target S) → IsGoing base start s old → Puts old new
    → is_open new.end ≡ true → IsGoing base start (with_written new.end.outgoing s) (with_taken new.end.outgoing new)
going base start s old new k p opened = record {
  opened = opened;
  kept = p.lost ∙ k.kept;
  idle = grind (arith, common_steps);
  settings = p.settings ∙ k.settings;
  began = p.began ∙ k.began;
  read = grind (arith, common_steps, k.read, p.fed);
  written = grind (arith, common_steps, k.written, k.idle, p.enqueued, p.outgoing, append_assoc);
  failed_reads = k.failed_reads;
  failed_writes = k.failed_writes;
  ends = k.ends;
  prompt = k.prompt;
}

-- the reason for which a session closed stays when what waits is taken
ended-taken : {S : Type 0} (m : Meaning S) (v : Target S) → HasEnded v → HasEnded (with_taken v.end.outgoing v)
ended-taken m v (inl e) =
    let out : List ℕ = v.end.outgoing in
    let whole : take (length out) out ≡ out = take_all (length out) out (omega arith) in
    let le : length out ≤ length out = omega arith in
    let messages : List Message = e.0 ++ e.1 ∷ [] in
    inl (e.0, e.1, subst (λ (x : List ℕ). Carries (ends.with_taken x v.end) messages) whole (carries-taken v.end messages (length out) le e.2), e.3)
ended-taken m v (inr e) = inr e

-- all that was put was written, and the session is closed
in-order : {S : Type 0} (base : Target S) (start s : Story) (old new : Target S) → IsGoing base start s old → Puts old new
    → InOrder base start (with_written new.end.outgoing s) (with_taken new.end.outgoing new)
in-order base start s old new k p =
    let all : s.written ++ new.end.outgoing ≡ start.written ++ new.end.session.enqueued = grind (arith, common_steps, k.written, k.idle, p.enqueued, p.outgoing, append_assoc) in
    record {
      settings = p.settings ∙ k.settings;
      began = p.began ∙ k.began;
      read = grind (arith, common_steps, k.read, p.fed);
      written = (new.end.session.enqueued, all, ([], sym (append-nil new.end.session.enqueued)));
      whole = λ _. all;
      failed_writes = omega (arith, k.failed_writes);
      prompt = k.prompt;
    }

-- a write of it failed
fails : {S : Type 0} (base : Target S) (start s t : Story) (old new : Target S) (taken : List ℕ) → IsGoing base start s old → Puts old new
    → FailsWrite s t new.end.outgoing → InOrder base start t (lost_target (with_taken taken new))
fails base start s t old new taken k p f =
    let w = f.written in
    record {
      settings = p.settings ∙ k.settings;
      began = p.began ∙ k.began;
      read = grind (arith, common_steps, k.read, p.fed, f.read);
      written = (
        old.end.session.enqueued ++ w.0,
        grind (arith, common_steps, k.written, w.1, append_assoc),
        (w.2.0, grind (arith, common_steps, p.enqueued, p.outgoing, k.idle, w.2.1, append_assoc)),
      );
      whole = λ e. absurd (omega (arith, f.failed_writes, k.failed_writes, e));
      failed_writes = omega (arith, f.failed_writes, k.failed_writes);
      prompt = f.early ∙ k.prompt;
    }

-- ---- a read

read-going : {S : Type 0} (base : Target S) (start s : Story) (target : Target S) (more : List ℕ) → IsGoing base start s target → IsGoing base start (with_read more s) (with_fed more target)
read-going base start s target more k = record {
  opened = k.opened;
  kept = k.kept;
  idle = k.idle;
  settings = k.settings;
  began = k.began;
  read = grind (arith, common_steps, k.read, append_assoc);
  written = k.written;
  failed_reads = k.failed_reads;
  failed_writes = k.failed_writes;
  ends = k.ends;
  prompt = k.prompt;
}

-- nothing waits, and nothing is written any more
stays-in-order : {S : Type 0} (base : Target S) (start s t : Story) (old new : Target S) → IsGoing base start s old → t.read ≡ s.read → t.written ≡ s.written → t.failed_writes ≡ s.failed_writes → t.early ≡ s.early
    → new.settings ≡ old.settings → new.began ≡ old.began → new.end.session.fed ≡ old.end.session.fed → new.end.session.enqueued ≡ old.end.session.enqueued
    → InOrder base start t new
stays-in-order base start s t old new k read written failed early settings began fed enqueued =
    let all : t.written ≡ start.written ++ new.end.session.enqueued = grind (arith, common_steps, written, k.written, enqueued) in
    record {
      settings = settings ∙ k.settings;
      began = began ∙ k.began;
      read = grind (arith, common_steps, read, k.read, fed);
      written = (new.end.session.enqueued, all, ([], sym (append-nil new.end.session.enqueued)));
      whole = λ _. all;
      failed_writes = omega (arith, failed, k.failed_writes);
      prompt = early ∙ k.prompt;
    }

-- a read failed
read-ends : {S : Type 0} (m : Meaning S) (base : Target S) (start s t : Story) (target : Target S) → IsGoing base start s target → FailsRead s t → FrontIs (λ next. next ≡ More) target.end → Ran m target → target.deferred ≡ []
    → InOrder base start t (lost_target target) × MayEnd m LostByRead start (flushed t) (lost_target target)
read-ends m base start s t target k f front ran none = (
  stays-in-order base start s t target (lost_target target) k f.read f.written f.failed_writes f.early refl refl refl refl,
  (omega (arith, f.fails, k.failed_reads, k.ends), front, (target, ran, k.kept, none, refl), (f.failed_writes ∙ k.failed_writes, refl)),
)

-- nothing changed, or the bytes in front begin no message
lost-in-order : {S : Type 0} (base : Target S) (start s : Story) (target : Target S) → IsGoing base start s target → InOrder base start s (lost_target target)
lost-in-order base start s target k = stays-in-order base start s s target (lost_target target) k refl refl refl refl refl refl refl refl

same-in-order : {S : Type 0} (base : Target S) (start s : Story) (target : Target S) → IsGoing base start s target → InOrder base start s target
same-in-order base start s target k = stays-in-order base start s s target target k refl refl refl refl refl refl refl refl

-- ---- rounds

-- a round that goes on after a message or steps
advance-goes : {S : Type 0} (s t : Story) (old new newest : Target S) (why : Type 0) → Advances old new why
    → (is_open new.end ≡ true) × WritesAll new newest s t → GoesOn old newest s t
advance-goes s t old new newest why p h =
    rw (h.1.0, h.1.1) (omega (arith, p.costs), λ base start k. going base start s old new k (puts-of old new why p) h.0)

-- a round that ends after a message or steps: the session closed, or a write failed
advance-ends : {S : Type 0} (m : Meaning S) (s t : Story) (old new newest : Target S) (next : AfterRound) → Advances old new (HasEnded new)
    → IfEnds next (λ ended. (ended ≡ Done) ⊎ (ended ≡ LostByWrite))
    → (next ≡ Ends Done → (is_open new.end ≡ false) × WritesAll new newest s t)
    → (next ≡ Ends LostByWrite → LosesAtWrite m new newest s t)
    → IfEnds next (EndsSo m old newest s t)
advance-ends m s t old new newest Goes p which done fails-so = tt
advance-ends {S = S} m s t old new newest (Ends ended) p which done fails-so =
    elim which [
      | inl is ↦
          let d = done (ap Ends is) in
          rw (is, d.1.0, d.1.1) (
            λ h. cc,
            λ base start k. (
              in-order base start s old new k (puts-of old new _ p),
              (ended-taken m new (p.closes d.0), d.0, p.lost ∙ k.kept, (k.failed_writes, refl)),
            ),
          )
      | inr is ↦
          let f = fails-so (ap Ends is) in
          rw (is, f.1.2) (
            λ h. cc,
            λ base start k. (
              fails base start s t old new f.1.0 k (puts-of old new _ p) f.0,
              (omega (arith, f.0.failed_writes, k.failed_writes), (with_taken f.1.0 new, f.1.1, p.lost ∙ k.kept, refl)),
            ),
          )
    ]

-- a message that was handled
message-of : {S : Type 0} (m : Meaning S) (old new : Target S) (turn : Turn) → ClosesForReason m → is_open old.end ≡ true → IsBytes old.end.incoming → Ran m old → TurnsAt m (front_of old.end) old (Ok turn) new → turn ≢ Nothing → Advances old new (HasEnded new)
message-of m old new turn reason opened fits ran turned some =
    let w = handled-Whole m (front_of old.end) old new turn turned some in
    rw w.3 (message-advances m old w.0 w.1 reason opened fits w.2 ran)

pub message-goes : {S : Type 0} (m : Meaning S) (s t : Story) (old new newest : Target S) (turn : Turn) → ClosesForReason m → is_open old.end ≡ true → IsBytes old.end.incoming → Ran m old → TurnsAt m (front_of old.end) old (Ok turn) new → turn ≢ Nothing
    → (is_open new.end ≡ true) × WritesAll new newest s t → GoesOn old newest s t
message-goes m s t old new newest turn reason opened fits ran turned some h = advance-goes s t old new newest (HasEnded new) (message-of m old new turn reason opened fits ran turned some) h

pub message-ends : {S : Type 0} (m : Meaning S) (s t : Story) (old new newest : Target S) (turn : Turn) (next : AfterRound) → ClosesForReason m → is_open old.end ≡ true → IsBytes old.end.incoming → Ran m old → TurnsAt m (front_of old.end) old (Ok turn) new → turn ≢ Nothing
    → IfEnds next (λ ended. (ended ≡ Done) ⊎ (ended ≡ LostByWrite))
    → (next ≡ Ends Done → (is_open new.end ≡ false) × WritesAll new newest s t × Ran m newest)
    → (next ≡ Ends LostByWrite → LosesAtWrite m new newest s t)
    → IfEnds next (EndsSo m old newest s t)
message-ends m s t old new newest turn next reason opened fits ran turned some which done fails-so =
    advance-ends m s t old new newest next (message-of m old new turn reason opened fits ran turned some) which (λ e. let d = done e in (d.0, d.1)) fails-so

-- steps that were made
steps-of : {S : Type 0} (old new : Target S) → StepsOn old new → Advances old new (HasEnded new)
steps-of old new p = record {
  settings = p.settings;
  began = p.began;
  lost = p.lost;
  fed = p.fed;
  bytes = p.bytes;
  enqueued = p.enqueued;
  outgoing = p.outgoing;
  costs = p.costs;
  closes = λ closed. inr (p.closes closed);
}

pub steps-goes : {S : Type 0} (s t : Story) (old new newest : Target S) → StepsOn old new → (is_open new.end ≡ true) × WritesAll new newest s t → GoesOn old newest s t
steps-goes s t old new newest p h = advance-goes s t old new newest _ p h

pub steps-ends : {S : Type 0} (m : Meaning S) (s t : Story) (old new newest : Target S) (next : AfterRound) → StepsOn old new
    → IfEnds next (λ ended. (ended ≡ Done) ⊎ (ended ≡ LostByWrite))
    → (next ≡ Ends Done → (is_open new.end ≡ false) × WritesAll new newest s t × Ran m newest)
    → (next ≡ Ends LostByWrite → LosesAtWrite m new newest s t)
    → IfEnds next (EndsSo m old newest s t)
steps-ends m s t old new newest next p which done fails-so = advance-ends m s t old new newest next (steps-of old new p) which (λ e. let d = done e in (d.0, d.1)) fails-so

-- a command that was released
pub release-goes : {S : Type 0} (m : Meaning S) (s t : Story) (old new newest : Target S) (place : ℕ) → ClosesForReason m → is_open old.end ≡ true → DefersFew (full_standing old) → new ≡ with_release m place old
    → (is_open new.end ≡ true) × WritesAll new newest s t → GoesOn old newest s t
release-goes m s t old new newest place reason opened few is h = advance-goes s t old new newest (HasEnded new) (rw is (release-advances m old place reason opened few)) h

pub release-ends : {S : Type 0} (m : Meaning S) (s t : Story) (old new newest : Target S) (place : ℕ) (next : AfterRound) → ClosesForReason m → is_open old.end ≡ true → DefersFew (full_standing old) → new ≡ with_release m place old
    → IfEnds next (λ ended. (ended ≡ Done) ⊎ (ended ≡ LostByWrite))
    → (next ≡ Ends Done → (is_open new.end ≡ false) × WritesAll new newest s t × Ran m newest)
    → (next ≡ Ends LostByWrite → LosesAtWrite m new newest s t)
    → IfEnds next (EndsSo m old newest s t)
release-ends m s t old new newest place next reason opened few is which done fails-so =
    advance-ends m s t old new newest next (rw is (release-advances m old place reason opened few)) which (λ e. let d = done e in (d.0, d.1)) fails-so

-- a release wanted memory
pub unreleased-ends : {S : Type 0} (m : Meaning S) (s : Story) (old new : Target S) → old.deferred ≢ [] → new ≡ old → EndsSo m old new s s ended.NoMemory
unreleased-ends m s old new some same =
    rw same (λ e. cc, λ base start k. (same-in-order base start s old k, (inr (inr some), (k.opened, k.kept), (k.failed_writes, refl))))

-- the newest deferred command is there, where the end flows
pub record Newest {S : Type 0} (v : Target S) : Type 0 where
  pub message : Message
  pub others : List Message
  pub is : deferred_at (length v.deferred - 1) v ≡ Some (message, others)

no-some : (xs : List Message) → 0 < length xs → xs ≢ []
no-some [] some e = absurd (omega arith)
no-some (x ∷ xs) some e = cc

session-of : {S : Type 0} (v : Target S) (b : Bool) → is_established v.end ≡ b → (is_established v.end ≡ false → v.deferred ≡ []) → 0 < length v.deferred → b ≡ true
session-of v true e none some = refl
session-of v false e none some = absurd (no-some v.deferred some (none e))

pub newest : {S : Type 0} (v : Target S) → DefersFew (full_standing v) → is_paused v.end ≡ false → 0 < length v.deferred → Newest v
newest v few flows some =
    let f = found (length v.deferred - 1) v.deferred (omega arith) in
    let session = session-of v (is_established v.end) refl few.none some in
    record { message = f.message; others = f.others; is = rw (session, flows) f.is }

pub newest-released : {S : Type 0} (m : Meaning S) (old new : Target S) (turn : Turn) → DefersFew (full_standing old) → is_paused old.end ≡ false → ReleasesNewest m old (Ok turn) new → new ≡ with_release m (length old.deferred - 1) old
newest-released m old new turn few flows (some, released) =
    let n = newest old few flows some in
    released-one m (length old.deferred - 1) old new (deferred_at (length old.deferred - 1) old) n.message n.others turn n.is released

pub some-deferred : {S : Type 0} (v : Target S) → 0 < length v.deferred → v.deferred ≢ []
some-deferred v some = no-some v.deferred some

-- what waited was taken: the end is paused no more than before
less-waits : (most n k : ℕ) → nat_le most n ≡ false → k ≤ n → nat_le most k ≡ false
less-waits most n k e le = lt-leb most k (omega (arith, leb-false most n e, le))

taken-flows : {S : Type 0} (target : Target S) → MayStep target → MayStep (with_taken target.end.outgoing target)
taken-flows target may =
    let out : List ℕ = target.end.outgoing in
    (may.0, may.1, less-waits target.end.limits.packet (length out) (length (drop (length out) out)) may.2 (omega (arith, length-drop (length out) out)))

-- a step wanted memory, and what steps before it put was written
pub memory-goes : {S : Type 0} (m : Meaning S) (s t : Story) (old mid newest : Target S) (made : Bool) → StepsIf old mid made → MayStep mid → (is_open mid.end ≡ true) × WritesAll mid newest s t
    → EndsSo m old newest s t ended.NoMemory
memory-goes m s t old mid newest made p may h =
    rw (h.1.0, h.1.1) (
      λ e. cc,
      λ base start k.
          let now = going base start s old mid k (puts-if old mid made p) h.0 in
          (same-in-order base start (with_written mid.end.outgoing s) (with_taken mid.end.outgoing mid) now, (inr (inl (taken-flows mid may)), (now.opened, now.kept), (now.failed_writes, refl))),
    )

-- the same, and a write failed
pub memory-ends : {S : Type 0} (m : Meaning S) (s t : Story) (old mid newest : Target S) (made : Bool) (next : AfterRound) → StepsIf old mid made → is_open mid.end ≡ true
    → IfEnds next (λ ended. (ended ≡ Done) ⊎ (ended ≡ LostByWrite))
    → (next ≡ Ends Done → (is_open mid.end ≡ false) × WritesAll mid newest s t × Ran m newest)
    → (next ≡ Ends LostByWrite → LosesAtWrite m mid newest s t)
    → IfEnds next (EndsSo m old newest s t)
memory-ends m s t old mid newest made Goes p opened which done fails-so = tt
memory-ends m s t old mid newest made (Ends ended) p opened which done fails-so =
    elim which [
      | inl is ↦ absurd (let closed = (done (ap Ends is)).0 in let e = sym opened ∙ closed in cc)
      | inr is ↦
          let f = fails-so (ap Ends is) in
          let puts = puts-if old mid made p in
          rw (is, f.1.2) (
            λ h. cc,
            λ base start k. (
              fails base start s t old mid f.1.0 k puts f.0,
              (omega (arith, f.0.failed_writes, k.failed_writes), (with_taken f.1.0 mid, f.1.1, puts.lost ∙ k.kept, refl)),
            ),
          )
    ]

-- a round that goes on after a read
pub read-goes : {S : Type 0} (s t : Story) (old new newest : Target S) → new ≡ old → ReadsMore new newest s t → GoesOn old newest s t
read-goes s t old new newest same (more, fed, read) =
    rw (fed, read, same) (omega arith, λ base start k. read-going base start s old more k)

-- a round that ends at a read
pub read-next-ends : {S : Type 0} (m : Meaning S) (s t : Story) (old new newest : Target S) (next : AfterRound) → Ran m old → is_open old.end ≡ true → is_paused old.end ≡ false → front_of old.end ≡ More → old.deferred ≡ [] → new ≡ old
    → IfEnds next (λ ended. (ended ≡ LostByRead) × LosesAtRead new newest s t)
    → IfEnds next (EndsSo m old newest s t)
read-next-ends m s t old new newest Goes ran opened flows more none same which = tt
read-next-ends m s t old new newest (Ends ended) ran opened flows more none same (is, (loses, fails-so)) =
    let next : next_of old.end ≡ More = sym (front-next old.end flows) ∙ more in
    let front = front-left (λ next. next ≡ More) old.end (handled (acts_in ran.deeds)) ran.carries opened next in
    rw (is, loses, same) (λ h. cc, λ base start k. read-ends m base start s t old k fails-so front ran none)

-- a round that ends at a fault
pub fault-next-ends : {S : Type 0} (m : Meaning S) (s : Story) (old new : Target S) (fault : FrameFault) (number : ℕ) → Ran m old → is_open old.end ≡ true
    → TurnsAt m (front_of old.end) old (Err (Frame fault)) new → number ≡ fault_number fault
    → (base : Target S) (start : Story) → IsGoing base start s old → InOrder base start s new × MayEnd m (Refused number) start (flushed s) new
fault-next-ends m s old new fault number ran opened turned number-is base start k =
    let f = frame-Fault m (front_of old.end) old new fault turned in
    let front = front-left (IsFaultOf number) old.end (handled (acts_in ran.deeds)) ran.carries opened (fault, number-is, front-fault old.end fault f.0) in
    rw f.1 (lost-in-order base start s old k, (front, (old, ran, k.kept, refl), inl (k.failed_writes, refl)))

-- a round that ends for want of memory
pub memory-next-ends : {S : Type 0} (m : Meaning S) (s : Story) (old new : Target S) → Ran m old → is_open old.end ≡ true
    → TurnsAt m (front_of old.end) old (Err NoMemory) new
    → (base : Target S) (start : Story) → IsGoing base start s old → InOrder base start s new × MayEnd m ended.NoMemory start (flushed s) new
memory-next-ends m s old new ran opened turned base start k =
    let n = no_memory-Whole m (front_of old.end) old new turned in
    let w = n.0 in
    let next = (front-whole old.end w.0 w.1 w.2).1 in
    let front = front-left (CallsForMemory m old) old.end (handled (acts_in ran.deeds)) ran.carries opened (w.0, w.1, next, w.3) in
    rw n.1 (same-in-order base start s old k, (inl front, (k.opened, k.kept), (k.failed_writes, refl)))

-- ---- flushes

-- all that was written left, and the run goes on so
flushed-going : {S : Type 0} (base : Target S) (start s : Story) (target : Target S) → IsGoing base start s target → IsGoing base start (flushed s) target
flushed-going base start s target k = record {
  opened = k.opened;
  kept = k.kept;
  idle = k.idle;
  settings = k.settings;
  began = k.began;
  read = k.read;
  written = k.written;
  failed_reads = k.failed_reads;
  failed_writes = k.failed_writes;
  ends = k.ends;
  prompt = k.prompt;
}

pub flushed-goes : {S : Type 0} (s mid t : Story) (old new : Target S) → mid ≡ flushed s → GoesOn old new mid t → GoesOn old new s t
flushed-goes {S = S} s mid t old new e goes =
    let on = subst (λ (x : Story). GoesOn old new x t) e goes in
    (on.0, λ base start k. on.1 base start (flushed-going base start s old k))

pub flushed-ends : {S : Type 0} (m : Meaning S) (s mid t : Story) (old new : Target S) (next : AfterRound) → mid ≡ flushed s → IfEnds next (EndsSo m old new mid t) → IfEnds next (EndsSo m old new s t)
flushed-ends m s mid t old new Goes e so = tt
flushed-ends {S = S} m s mid t old new (Ends ended) e so =
    let on = subst (λ (x : Story). EndsSo m old new x t ended) e so in
    (on.0, λ base start k. on.1 base start (flushed-going base start s old k))

-- a flush failed, and nothing else happened
flush-in-order : {S : Type 0} (base : Target S) (start now after : Story) (old new : Target S) → InOrder base start now old → FailsFlush now after
    → new.settings ≡ old.settings → new.began ≡ old.began → new.end.session.fed ≡ old.end.session.fed → new.end.session.enqueued ≡ old.end.session.enqueued
    → InOrder base start after new
flush-in-order {S = S} base start now after old new o e settings began fed enqueued =
    let w = o.written in
    rw e (record {
      settings = settings ∙ o.settings;
      began = began ∙ o.began;
      read = grind (arith, common_steps, o.read, fed);
      written = (w.0, w.1, grind (arith, common_steps, w.2, enqueued));
      whole = λ f. absurd (omega (arith, o.failed_writes, f));
      failed_writes = omega (arith, o.failed_writes);
      prompt = o.prompt;
    })

-- the flush before steps or a read failed
pub flush-ends : {S : Type 0} (m : Meaning S) (s t : Story) (target : Target S) → Ran m target → FailsFlush s t → EndsSo m target (lost_target target) s t LostByWrite
flush-ends m s t target ran e = (
  λ h. cc,
  λ base start k.
      let o = flush-in-order base start s t target (lost_target target) (same-in-order base start s target k) e refl refl refl refl in
      (o, (rw e (omega (arith, k.failed_writes)), (target, ran, k.kept, refl))),
)

-- the last flush failed, and the connection is lost now
pub kept-ends : {S : Type 0} (m : Meaning S) (base : Target S) (start now after : Story) (target : Target S) → Ran m target → target.end.session.lost ≡ false → InOrder base start now target
    → FailsFlush now after → InOrder base start after (lost_target target) × MayEnd m LostByWrite start after (lost_target target)
kept-ends m base start now after target ran kept o e = (
  flush-in-order base start now after target (lost_target target) o e refl refl refl refl,
  (rw e (omega (arith, o.failed_writes)), (target, ran, kept, refl)),
)

-- the same, where the connection was lost before
pub lost-ends : {S : Type 0} (m : Meaning S) (base : Target S) (start now after : Story) (target : Target S) → IsLost m target → InOrder base start now target
    → FailsFlush now after → InOrder base start after target × MayEnd m LostByWrite start after target
lost-ends m base start now after target gone o e = (
  flush-in-order base start now after target target o e refl refl refl refl,
  (rw e (omega (arith, o.failed_writes)), gone),
)

-- what was kept, and what was lost
pub kept-by : {S : Type 0} (m : Meaning S) (e : Ended) (start now : Story) (target : Target S) → (e ≡ Done) ⊎ ((e ≡ ended.NoMemory) ⊎ (e ≡ TurnLimit)) → MayEnd m e start now target → target.end.session.lost ≡ false
kept-by m Done start now target which h = h.2
kept-by m ended.NoMemory start now target which h = h.1.1
kept-by m TurnLimit start now target which h = h.0.1
kept-by m LostByRead start now target which h = absurd (elim which [ inl e ↦ cc | inr (inl e) ↦ cc | inr (inr e) ↦ cc ])
kept-by m LostByWrite start now target which h = absurd (elim which [ inl e ↦ cc | inr (inl e) ↦ cc | inr (inr e) ↦ cc ])
kept-by m (Refused number) start now target which h = absurd (elim which [ inl e ↦ cc | inr (inl e) ↦ cc | inr (inr e) ↦ cc ])

pub lost-by : {S : Type 0} (m : Meaning S) (e : Ended) (start now : Story) (target : Target S) → (e ≡ LostByRead) ⊎ (e ≡ LostByWrite) → MayEnd m e start now target → IsLost m target
lost-by m LostByRead start now target which h = let x = h.2 in (x.0, x.1, x.2, x.4)
lost-by m LostByWrite start now target which h = h.1
lost-by m (Refused number) start now target which h = absurd (elim which [ inl e ↦ cc | inr e ↦ cc ])
lost-by m Done start now target which h = absurd (elim which [ inl e ↦ cc | inr e ↦ cc ])
lost-by m ended.NoMemory start now target which h = absurd (elim which [ inl e ↦ cc | inr e ↦ cc ])
lost-by m TurnLimit start now target which h = absurd (elim which [ inl e ↦ cc | inr e ↦ cc ])

-- the last flush failed behind a frame fault
pub refused-ends : {S : Type 0} (m : Meaning S) (base : Target S) (start now after : Story) (target : Target S) (number : ℕ) → InOrder base start now target
    → MayEnd m (Refused number) start (flushed now) target → FailsFlush now after → InOrder base start after target × MayEnd m (Refused number) start after target
refused-ends m base start now after target number o h e = (
  flush-in-order base start now after target target o e refl refl refl refl,
  (h.0, h.1, rw e (inr (omega (arith, o.failed_writes)))),
)

-- a session that begins
pub going-opened : {S : Type 0} (s : Story) (v : Target S) → v ≡ opened_target v → IsGoing v s s v
going-opened {S = S} s v e =
    subst (λ (x : Target S). IsGoing x s s x) (sym e)
    (record {
      opened = refl;
      kept = refl;
      idle = refl;
      settings = refl;
      began = refl;
      read = sym (append-nil s.read);
      written = sym (append-nil s.written);
      failed_reads = refl;
      failed_writes = refl;
      ends = refl;
      prompt = refl;
    })

-- what is spent where a session begins
pub cost-opened : {S : Type 0} (s : Story) (v : Target S) → v ≡ opened_target v → cost s v ≡ s.rooms
cost-opened {S = S} s v e = subst (λ (x : Target S). cost s x ≡ s.rooms) (sym e) (omega arith)
