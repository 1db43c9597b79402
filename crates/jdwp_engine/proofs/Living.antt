-- How the facts of a live run go on: those of an engine's run, of what went through the pipe.
use Rattle.std.proofs.Common.{◌≡◌, ◌∙◌, ℕ, [], true, false, Bool, Ok, ◌⊎◌, ap, arith, subst}
use Rattle.std.proofs.lemmas.List.{append-nil}
use Rattle.jdwp_wire.specs.Bytes.{IsBytes}
use Rattle.jdwp_wire.specs.Streams.{More}
use Rattle.jdwp_end.specs.Ends.{front_of, is_open, is_paused}
use Rattle.jdwp_machine.specs.Meanings.{Meaning}
use Rattle.jdwp_target.specs.declared.target.Turn.{Turn}
use Rattle.jdwp_target.specs.declared.target.Turn.TheVariants.{Nothing}
use Rattle.jdwp_target.specs.Closings.{ClosesForReason}
use Rattle.jdwp_target.specs.Deeds.{DefersFew}
use Rattle.jdwp_target.specs.Targets.{Target, Ran, full_standing, with_fed, with_release}
use Rattle.jdwp_target.specs.Turns.{TurnsAt}
use Rattle.jdwp_end.specs.declared.pipes.ended.Ended.{Ended}
use Rattle.jdwp_end.specs.declared.pipes.ended.Ended.TheVariants as ended
use Rattle.jdwp_end.specs.declared.pipes.ended.Ended.TheVariants.{Done, LostByRead, LostByWrite}
use Rattle.jdwp_end.specs.Story.{Story}
use Rattle.jdwp_end.specs.Story as story
use Rattle.jdwp_engine.specs.Outcome.{EndsSo, MayStep}
use Rattle.jdwp_engine.specs.Run.{GoesOn, IsGoing}
use Rattle.jdwp_engine.specs.Run as run
use Rattle.jdwp_engine.specs.Steps.{StepsIf, StepsOn}
use Rattle.jdwp_engine.proofs.Advancing.{release-advances}
use Rattle.jdwp_engine.proofs.Runs.{memory-goes, message-goes, read-goes, release-goes, steps-goes}
use Rattle.jdwp_engine.specs.declared.pipes.pipe.Patience.{Patience}
use Rattle.jdwp_engine.specs.declared.pipes.pipe.Patience.TheVariants.{Forever}
use Rattle.jdwp_engine.specs.LiveMoving.{ReadsOn}
use Rattle.jdwp_engine.specs.LiveStory.{LiveStory}
use Rattle.jdwp_engine.specs.declared.live.AfterLiveRound.{AfterLiveRound}
use Rattle.jdwp_engine.specs.declared.live.AfterLiveRound.TheVariants.{Goes, Ends}
use Rattle.jdwp_engine.specs.LiveNext.{IfEnds}
use Rattle.jdwp_engine.proofs.LiveEnding.{message-of, starved-ends, steps-of, unread-ends, written-ends}
use Rattle.jdwp_engine.specs.LiveRounds.{LosesAtRead, LosesAtWrite, ReadsSome, WritesAll}

-- ---- what went through, of what is said of a live pipe

abbrev pub HasWritten : {S : Type 0} → Target S → Target S → LiveStory → LiveStory → Type 0
HasWritten mid new now after = (is_open mid.end ≡ true) × WritesAll mid new now after

writes : {S : Type 0} (mid new : Target S) (now after : LiveStory) → WritesAll mid new now after → run.WritesAll mid new now.through after.through
writes mid new now after h = (h.0, ap (λ (s : LiveStory). s.through) h.1)

written : {S : Type 0} (mid new : Target S) (now after : LiveStory) → HasWritten mid new now after → (is_open mid.end ≡ true) × run.WritesAll mid new now.through after.through
written mid new now after h = (h.0, writes mid new now after h.1)

loses : {S : Type 0} (m : Meaning S) (mid new : Target S) (now after : LiveStory) → LosesAtWrite m mid new now after → run.LosesAtWrite m mid new now.through after.through
loses m mid new now after h = (h.0.through, h.1, h.0.rooms)

-- why a write ends a session, for every way in which it may
abbrev pub Which : Ended → Type 0
Which e = (e ≡ Done) ⊎ (e ≡ LostByWrite)

abbrev pub IfDone : {S : Type 0} → Meaning S → AfterLiveRound → Target S → Target S → LiveStory → LiveStory → Type 0
IfDone m next mid new now after = next ≡ Ends Done → (is_open mid.end ≡ false) × WritesAll mid new now after × Ran m new

abbrev pub IfLoses : {S : Type 0} → Meaning S → AfterLiveRound → Target S → Target S → LiveStory → LiveStory → Type 0
IfLoses m next mid new now after = next ≡ Ends LostByWrite → LosesAtWrite m mid new now after

done-so : {S : Type 0} (m : Meaning S) (e : Ended) (mid new : Target S) (now after : LiveStory) → IfDone m (Ends e) mid new now after
    → e ≡ Done → (is_open mid.end ≡ false) × run.WritesAll mid new now.through after.through
done-so m e mid new now after done is =
    let d = done (ap Ends is) in
    (d.0, writes mid new now after d.1)

loses-so : {S : Type 0} (m : Meaning S) (e : Ended) (mid new : Target S) (now after : LiveStory) → IfLoses m (Ends e) mid new now after
    → e ≡ LostByWrite → run.LosesAtWrite m mid new now.through after.through
loses-so m e mid new now after fails is = loses m mid new now after (fails (ap Ends is))

-- ---- a message

pub message-on : {S : Type 0} (m : Meaning S) (s t : LiveStory) (old new newest : Target S) (turn : Turn) → ClosesForReason m → is_open old.end ≡ true → IsBytes old.end.incoming → Ran m old → TurnsAt m (front_of old.end) old (Ok turn) new
    → (turn ≡ Nothing → ⊥) → HasWritten new newest s t → GoesOn old newest s.through t.through
message-on m s t old new newest turn reason opened fits ran turned some h =
    message-goes m s.through t.through old new newest turn reason opened fits ran turned some (written new newest s t h)

pub message-over : {S : Type 0} (m : Meaning S) (s t : LiveStory) (old new newest : Target S) (turn : Turn) (next : AfterLiveRound) → ClosesForReason m → is_open old.end ≡ true → IsBytes old.end.incoming → Ran m old → TurnsAt m (front_of old.end) old (Ok turn) new
    → (turn ≡ Nothing → ⊥) → IfEnds next Which → IfDone m next new newest s t → IfLoses m next new newest s t → IfEnds next (EndsSo m old newest s.through t.through)
message-over m s t old new newest turn Goes reason opened fits ran turned some which done fails = tt
message-over m s t old new newest turn (Ends e) reason opened fits ran turned some which done fails =
    written-ends m s.through t.through old new newest e (message-of m old new turn reason opened fits ran turned some) which (done-so m e new newest s t done) (loses-so m e new newest s t fails)

-- ---- a release

pub release-on : {S : Type 0} (m : Meaning S) (s t : LiveStory) (old new newest : Target S) (place : ℕ) → ClosesForReason m → is_open old.end ≡ true → DefersFew (full_standing old) → new ≡ with_release m place old
    → HasWritten new newest s t → GoesOn old newest s.through t.through
release-on m s t old new newest place reason opened few is h = release-goes m s.through t.through old new newest place reason opened few is (written new newest s t h)

pub release-over : {S : Type 0} (m : Meaning S) (s t : LiveStory) (old new newest : Target S) (place : ℕ) (next : AfterLiveRound) → ClosesForReason m → is_open old.end ≡ true → DefersFew (full_standing old) → new ≡ with_release m place old
    → IfEnds next Which → IfDone m next new newest s t → IfLoses m next new newest s t → IfEnds next (EndsSo m old newest s.through t.through)
release-over m s t old new newest place Goes reason opened few is which done fails = tt
release-over m s t old new newest place (Ends e) reason opened few is which done fails =
    written-ends m s.through t.through old new newest e (rw is (release-advances m old place reason opened few)) which (done-so m e new newest s t done) (loses-so m e new newest s t fails)

-- ---- steps

pub steps-go : {S : Type 0} (s t : LiveStory) (old new newest : Target S) → StepsOn old new → HasWritten new newest s t → GoesOn old newest s.through t.through
steps-go s t old new newest p h = steps-goes s.through t.through old new newest p (written new newest s t h)

pub steps-over : {S : Type 0} (m : Meaning S) (s t : LiveStory) (old new newest : Target S) (next : AfterLiveRound) → StepsOn old new
    → IfEnds next Which → IfDone m next new newest s t → IfLoses m next new newest s t → IfEnds next (EndsSo m old newest s.through t.through)
steps-over m s t old new newest Goes p which done fails = tt
steps-over m s t old new newest (Ends e) p which done fails =
    written-ends m s.through t.through old new newest e (steps-of old new p) which (done-so m e new newest s t done) (loses-so m e new newest s t fails)

-- a step wanted memory, and what steps before it put was written; or a write failed
pub memory-on : {S : Type 0} (m : Meaning S) (s t : LiveStory) (old mid newest : Target S) (made : Bool) → StepsIf old mid made → MayStep mid → HasWritten mid newest s t
    → EndsSo m old newest s.through t.through ended.NoMemory
memory-on m s t old mid newest made p may h = memory-goes m s.through t.through old mid newest made p may (written mid newest s t h)

pub memory-over : {S : Type 0} (m : Meaning S) (s t : LiveStory) (old mid newest : Target S) (made : Bool) (e : Ended) → StepsIf old mid made → is_open mid.end ≡ true
    → Which e → IfDone m (Ends e) mid newest s t → IfLoses m (Ends e) mid newest s t → EndsSo m old newest s.through t.through e
memory-over m s t old mid newest made e p opened which done fails =
    starved-ends m s.through t.through old mid newest made e p opened which (done-so m e mid newest s t done) (loses-so m e mid newest s t fails)

-- ---- a read

pub read-on : {S : Type 0} (patience : Patience) (s t : LiveStory) (old mid newest : Target S) → mid ≡ old → ReadsSome patience mid newest s t → GoesOn old newest s.through t.through
read-on patience s t old mid newest same h = read-goes s.through t.through old mid newest same (h.0, h.2, ap (λ (x : LiveStory). x.through) h.3)

pub read-over : {S : Type 0} (m : Meaning S) (patience : Patience) (s t : LiveStory) (old mid newest : Target S) (next : AfterLiveRound) → Ran m old → is_open old.end ≡ true → is_paused old.end ≡ false → front_of old.end ≡ More → old.deferred ≡ [] → mid ≡ old
    → IfEnds next (λ e. (e ≡ LostByRead) × LosesAtRead patience mid newest s t) → IfEnds next (EndsSo m old newest s.through t.through)
read-over m patience s t old mid newest Goes ran opened flows more none same which = tt
read-over m patience s t old mid newest (Ends e) ran opened flows more none same (is, (lost, fails)) =
    unread-ends m s.through t.through old mid newest e ran opened flows more none same (is, (lost, fails.through))

-- a read that waits is given bytes
pub waited : {S : Type 0} (some : Bool) (old new : Target S) (s t : LiveStory) → ReadsOn (λ (v : Target S). v.end) with_fed Forever some old new s t → ReadsSome Forever old new s t
waited true old new s t h = (h.0, h.1, h.2, h.3)
waited false old new s t h = absurd (let e = h.0 in cc)

-- ---- a read that found nothing

nothing-going : {S : Type 0} (base : Target S) (start s : Story) (target : Target S) → IsGoing base start s target → IsGoing base start (story.with_read [] s) target
nothing-going base start s target k = record {
  opened = k.opened;
  kept = k.kept;
  idle = k.idle;
  settings = k.settings;
  began = k.began;
  read = append-nil s.read ∙ k.read;
  written = k.written;
  failed_reads = k.failed_reads;
  failed_writes = k.failed_writes;
  ends = k.ends;
  prompt = k.prompt;
}

pub nothing-on : {S : Type 0} (s mid t : Story) (old new : Target S) → mid ≡ story.with_read [] s → GoesOn old new mid t → GoesOn old new s t
nothing-on {S = S} s mid t old new e goes =
    let on = subst (λ (x : Story). GoesOn old new x t) e goes in
    (omega (arith, on.0), λ base start k. on.1 base start (nothing-going base start s old k))

pub nothing-over : {S : Type 0} (m : Meaning S) (s mid t : Story) (old new : Target S) (next : AfterLiveRound) → mid ≡ story.with_read [] s → IfEnds next (EndsSo m old new mid t) → IfEnds next (EndsSo m old new s t)
nothing-over m s mid t old new Goes e so = tt
nothing-over {S = S} m s mid t old new (Ends how) e so =
    let on = subst (λ (x : Story). EndsSo m old new x t how) e so in
    (on.0, λ base start k. on.1 base start (nothing-going base start s old k))

-- ---- a flush

flushed-going : {S : Type 0} (base : Target S) (start s : Story) (target : Target S) → IsGoing base start s target → IsGoing base start (story.flushed s) target
flushed-going base start s target k = record {
  opened = k.opened;
  kept = k.kept;
  idle = k.idle;
  settings = k.settings;
  began = k.began;
  read = k.read;
  written = k.written;
  failed_reads = k.failed_reads;
  failed_writes = k.failed_writes;
  ends = k.ends;
  prompt = k.prompt;
}

pub flushed-over : {S : Type 0} (m : Meaning S) (s mid t : Story) (old new : Target S) (next : AfterLiveRound) → mid ≡ story.flushed s → IfEnds next (EndsSo m old new mid t) → IfEnds next (EndsSo m old new s t)
flushed-over m s mid t old new Goes e so = tt
flushed-over {S = S} m s mid t old new (Ends how) e so =
    let on = subst (λ (x : Story). EndsSo m old new x t how) e so in
    (on.0, λ base start k. on.1 base start (flushed-going base start s old k))
