-- How a session ends whose last round wrote, or read: the facts of an engine's run, as it ended.
use Rattle.std.proofs.Common.{◌≡◌, ◌≢◌, ◌∙◌, ℕ, ◌≤◌, ◌++◌, List, [], ◌∷◌, length, Bool, true, false, Ok, ◌⊎◌, inl, inr, take, sym, refl, subst, append_assoc, arith}
use Rattle.std.proofs.lemmas.Grind.{common_steps}
use Rattle.std.proofs.lemmas.List.{append-nil, take_all}
use Rattle.jdwp_wire.specs.Bytes.{IsBytes}
use Rattle.jdwp_wire.specs.Streams.{Message, More}
use Rattle.jdwp_end.specs.Ends.{front_of, is_open, is_paused, next_of}
use Rattle.jdwp_end.specs.Ends as ends
use Rattle.jdwp_end.specs.Runs.{Carries}
use Rattle.jdwp_end.specs.CarryingLaws.{carries-taken}
use Rattle.jdwp_end.specs.FrontLaws.{front-next}
use Rattle.jdwp_machine.specs.Meanings.{Meaning}
use Rattle.jdwp_target.specs.declared.target.Turn.{Turn}
use Rattle.jdwp_target.specs.declared.target.Turn.TheVariants.{Nothing}
use Rattle.jdwp_target.specs.Closings.{ClosesForReason}
use Rattle.jdwp_target.specs.Standings.{handled}
use Rattle.jdwp_target.specs.Deeds.{acts_in}
use Rattle.jdwp_target.specs.Targets.{Target, Ran, lost_target, with_taken}
use Rattle.jdwp_target.specs.Turns.{TurnsAt}
use Rattle.jdwp_end.specs.declared.pipes.ended.Ended.{Ended}
use Rattle.jdwp_end.specs.declared.pipes.ended.Ended.TheVariants.{Done, LostByRead, LostByWrite}
use Rattle.jdwp_end.specs.Story.{FailsRead, FailsWrite, Story, flushed, with_written}
use Rattle.jdwp_engine.specs.Outcome.{EndsSo, FrontIs, MayEnd}
use Rattle.jdwp_engine.specs.Run.{InOrder, IsGoing, LosesAtRead, LosesAtWrite, WritesAll}
use Rattle.jdwp_engine.specs.Steps.{Advances, StepsIf, StepsOn}
use Rattle.jdwp_engine.proofs.Advancing.{HasEnded, message-advances}
use Rattle.jdwp_engine.proofs.Fronts.{front-left}
use Rattle.jdwp_engine.proofs.Turns.{handled-Whole}

-- ---- what is put

-- a target that enqueued these bytes, and stands in the same session
record Puts {S : Type 0} (old new : Target S) : Type 0 where
  settings : new.settings ≡ old.settings
  began : new.began ≡ old.began
  lost : new.end.session.lost ≡ old.end.session.lost
  fed : new.end.session.fed ≡ old.end.session.fed
  bytes : List ℕ
  enqueued : new.end.session.enqueued ≡ old.end.session.enqueued ++ bytes
  outgoing : new.end.outgoing ≡ old.end.outgoing ++ bytes

puts-of : {S : Type 0} (old new : Target S) (why : Type 0) → Advances old new why → Puts old new
puts-of old new why p =
    record { settings = p.settings; began = p.began; lost = p.lost; fed = p.fed; bytes = p.bytes; enqueued = p.enqueued; outgoing = p.outgoing }

puts-nothing : {S : Type 0} (v : Target S) → Puts v v
puts-nothing v =
    record { settings = refl; began = refl; lost = refl; fed = refl; bytes = []; enqueued = sym (append-nil v.end.session.enqueued); outgoing = sym (append-nil v.end.outgoing) }

puts-if : {S : Type 0} (old new : Target S) (made : Bool) → StepsIf old new made → Puts old new
puts-if old new true p = puts-of old new _ p
puts-if old new false same = rw same (puts-nothing old)

-- the reason for which a session closed stays when what waits is taken
ended-taken : {S : Type 0} (m : Meaning S) (v : Target S) → HasEnded v → HasEnded (with_taken v.end.outgoing v)
ended-taken m v (inl e) =
    let out : List ℕ = v.end.outgoing in
    let whole : take (length out) out ≡ out = take_all (length out) out (omega arith) in
    let le : length out ≤ length out = omega arith in
    let messages : List Message = e.0 ++ e.1 ∷ [] in
    inl (e.0, e.1, subst (λ (x : List ℕ). Carries (ends.with_taken x v.end) messages) whole (carries-taken v.end messages (length out) le e.2), e.3)
ended-taken m v (inr e) = inr e

-- all that was put was written, and the session is closed
in-order : {S : Type 0} (base : Target S) (start s : Story) (old new : Target S) → IsGoing base start s old → Puts old new
    → InOrder base start (with_written new.end.outgoing s) (with_taken new.end.outgoing new)
in-order base start s old new k p =
    let all : s.written ++ new.end.outgoing ≡ start.written ++ new.end.session.enqueued = grind (arith, common_steps, k.written, k.idle, p.enqueued, p.outgoing, append_assoc) in
    record {
      settings = p.settings ∙ k.settings;
      began = p.began ∙ k.began;
      read = grind (arith, common_steps, k.read, p.fed);
      written = (new.end.session.enqueued, all, ([], sym (append-nil new.end.session.enqueued)));
      whole = λ _. all;
      failed_writes = omega (arith, k.failed_writes);
      prompt = k.prompt;
    }

-- a write of it failed
fails : {S : Type 0} (base : Target S) (start s t : Story) (old new : Target S) (taken : List ℕ) → IsGoing base start s old → Puts old new
    → FailsWrite s t new.end.outgoing → InOrder base start t (lost_target (with_taken taken new))
fails base start s t old new taken k p f =
    let w = f.written in
    record {
      settings = p.settings ∙ k.settings;
      began = p.began ∙ k.began;
      read = grind (arith, common_steps, k.read, p.fed, f.read);
      written = (
        old.end.session.enqueued ++ w.0,
        grind (arith, common_steps, k.written, w.1, append_assoc),
        (w.2.0, grind (arith, common_steps, p.enqueued, p.outgoing, k.idle, w.2.1, append_assoc)),
      );
      whole = λ e. absurd (omega (arith, f.failed_writes, k.failed_writes, e));
      failed_writes = omega (arith, f.failed_writes, k.failed_writes);
      prompt = f.early ∙ k.prompt;
    }

-- nothing waits, and nothing is written any more
stays-in-order : {S : Type 0} (base : Target S) (start s t : Story) (old new : Target S) → IsGoing base start s old → t.read ≡ s.read → t.written ≡ s.written → t.failed_writes ≡ s.failed_writes → t.early ≡ s.early
    → new.settings ≡ old.settings → new.began ≡ old.began → new.end.session.fed ≡ old.end.session.fed → new.end.session.enqueued ≡ old.end.session.enqueued
    → InOrder base start t new
stays-in-order base start s t old new k read written failed early settings began fed enqueued =
    let all : t.written ≡ start.written ++ new.end.session.enqueued = grind (arith, common_steps, written, k.written, enqueued) in
    record {
      settings = settings ∙ k.settings;
      began = began ∙ k.began;
      read = grind (arith, common_steps, read, k.read, fed);
      written = (new.end.session.enqueued, all, ([], sym (append-nil new.end.session.enqueued)));
      whole = λ _. all;
      failed_writes = omega (arith, failed, k.failed_writes);
      prompt = early ∙ k.prompt;
    }

-- a read failed
read-ends : {S : Type 0} (m : Meaning S) (base : Target S) (start s t : Story) (target : Target S) → IsGoing base start s target → FailsRead s t → FrontIs (λ next. next ≡ More) target.end → Ran m target → target.deferred ≡ []
    → InOrder base start t (lost_target target) × MayEnd m LostByRead start (flushed t) (lost_target target)
read-ends m base start s t target k f front ran none = (
  stays-in-order base start s t target (lost_target target) k f.read f.written f.failed_writes f.early refl refl refl refl,
  (omega (arith, f.fails, k.failed_reads, k.ends), front, (target, ran, k.kept, none, refl), (f.failed_writes ∙ k.failed_writes, refl)),
)

-- ---- a round that ends behind a message, a release or steps

-- a message that was handled
pub message-of : {S : Type 0} (m : Meaning S) (old new : Target S) (turn : Turn) → ClosesForReason m → is_open old.end ≡ true → IsBytes old.end.incoming → Ran m old → TurnsAt m (front_of old.end) old (Ok turn) new → turn ≢ Nothing → Advances old new (HasEnded new)
message-of m old new turn reason opened fits ran turned some =
    let w = handled-Whole m (front_of old.end) old new turn turned some in
    rw w.3 (message-advances m old w.0 w.1 reason opened fits w.2 ran)

-- steps that were made
pub steps-of : {S : Type 0} (old new : Target S) → StepsOn old new → Advances old new (HasEnded new)
steps-of old new p = record {
  settings = p.settings;
  began = p.began;
  lost = p.lost;
  fed = p.fed;
  bytes = p.bytes;
  enqueued = p.enqueued;
  outgoing = p.outgoing;
  costs = p.costs;
  closes = λ closed. inr (p.closes closed);
}

-- the session closed, or a write failed
pub written-ends : {S : Type 0} (m : Meaning S) (s t : Story) (old new newest : Target S) (e : Ended) → Advances old new (HasEnded new)
    → (e ≡ Done) ⊎ (e ≡ LostByWrite)
    → (e ≡ Done → (is_open new.end ≡ false) × WritesAll new newest s t)
    → (e ≡ LostByWrite → LosesAtWrite m new newest s t)
    → EndsSo m old newest s t e
written-ends {S = S} m s t old new newest e p which done fails-so =
    elim which [
      | inl is ↦
          let d = done is in
          rw (is, d.1.0, d.1.1) (
            λ h. cc,
            λ base start k. (
              in-order base start s old new k (puts-of old new _ p),
              (ended-taken m new (p.closes d.0), d.0, p.lost ∙ k.kept, (k.failed_writes, refl)),
            ),
          )
      | inr is ↦
          let f = fails-so is in
          rw (is, f.1.2) (
            λ h. cc,
            λ base start k. (
              fails base start s t old new f.1.0 k (puts-of old new _ p) f.0,
              (omega (arith, f.0.failed_writes, k.failed_writes), (with_taken f.1.0 new, f.1.1, p.lost ∙ k.kept, refl)),
            ),
          )
    ]

-- a step wanted memory, the session is open, and a write failed
pub starved-ends : {S : Type 0} (m : Meaning S) (s t : Story) (old mid newest : Target S) (made : Bool) (e : Ended) → StepsIf old mid made → is_open mid.end ≡ true
    → (e ≡ Done) ⊎ (e ≡ LostByWrite)
    → (e ≡ Done → (is_open mid.end ≡ false) × WritesAll mid newest s t)
    → (e ≡ LostByWrite → LosesAtWrite m mid newest s t)
    → EndsSo m old newest s t e
starved-ends m s t old mid newest made e p opened which done fails-so =
    elim which [
      | inl is ↦ absurd (let closed = (done is).0 in let both = sym opened ∙ closed in cc)
      | inr is ↦
          let f = fails-so is in
          let puts = puts-if old mid made p in
          rw (is, f.1.2) (
            λ h. cc,
            λ base start k. (
              fails base start s t old mid f.1.0 k puts f.0,
              (omega (arith, f.0.failed_writes, k.failed_writes), (with_taken f.1.0 mid, f.1.1, puts.lost ∙ k.kept, refl)),
            ),
          )
    ]

-- a read failed
pub unread-ends : {S : Type 0} (m : Meaning S) (s t : Story) (old new newest : Target S) (e : Ended) → Ran m old → is_open old.end ≡ true → is_paused old.end ≡ false → front_of old.end ≡ More → old.deferred ≡ [] → new ≡ old
    → (e ≡ LostByRead) × LosesAtRead new newest s t → EndsSo m old newest s t e
unread-ends m s t old new newest e ran opened flows more none same (is, (loses, fails-so)) =
    let next : next_of old.end ≡ More = sym (front-next old.end flows) ∙ more in
    let front = front-left (λ next. next ≡ More) old.end (handled (acts_in ran.deeds)) ran.carries opened next in
    rw (is, loses, same) (λ h. cc, λ base start k. read-ends m base start s t old k fails-so front ran none)
