-- How the rounds of a live session follow from what each call did.
use Rattle.std.proofs.Common.{◌≡◌, ◌∙◌, ◌-◌, [], length, Bool, true, false, None, Result, Ok, Err, inl, inr, sym, ap, subst}
use Rattle.jdwp_wire.specs.Streams.{More}
use Rattle.jdwp_end.specs.Ends.{front_of, is_established, is_open}
use Rattle.jdwp_machine.specs.Meanings.{Meaning}
use Rattle.jdwp_target.specs.declared.target.TargetFault.{TargetFault}
use Rattle.jdwp_target.specs.declared.target.Turn.{Turn}
use Rattle.jdwp_target.specs.ReadsBack.{ReleaseReadsBack}
use Rattle.jdwp_target.specs.Targets.{Target}
use Rattle.jdwp_end.specs.declared.pipes.ended.Ended.{Ended}
use Rattle.jdwp_end.specs.declared.pipes.ended.Ended.TheVariants.{LostByRead}
use Rattle.jdwp_engine.specs.Rounds.{StepsEach}
use Rattle.jdwp_engine.specs.Sessions.{ReleasesNewest}
use Rattle.jdwp_engine.specs.declared.pipes.pipe.Patience.TheVariants.{Step, Forever}
use Rattle.jdwp_engine.specs.LiveStory.{LiveStory, flushed, with_read}
use Rattle.jdwp_engine.specs.declared.live.AfterLiveRound.{AfterLiveRound}
use Rattle.jdwp_engine.specs.declared.live.AfterLiveRound.TheVariants.{Goes, Ends}
use Rattle.jdwp_engine.specs.LiveNext.{IfEnds}
use Rattle.jdwp_engine.specs.LiveRounds.{LastRound, LosesAtRead, Moves, ReadsSome, Releases, Rests, Round, Steps, CantRead, CantWait, CantWrite, Closes, Reads, patience_at, patience_of}
use Rattle.jdwp_engine.proofs.Living.{IfDone, IfLoses, Which}

-- a step of each live thread, behind a flush and a read that found nothing
pub moved : {S : Type 0} (m : Meaning S) (old mid : Target S) (before now : LiveStory) (came : Result Bool TargetFault) → Rests old → is_established old.end ≡ true → StepsEach m None old came mid
    → now ≡ with_read Step [] (flushed before) → Moves m old before came mid now
moved m old mid before now came rests session each e = subst (λ (x : LiveStory). Moves m old before came mid x) (sym e) (Steps came mid rests session each)

-- a release, behind a flush
pub released-newest : {S : Type 0} (m : Meaning S) (old mid : Target S) (before now : LiveStory) (turn : Turn) → front_of old.end ≡ More → ReleasesNewest m old (Ok turn) mid → ReleaseReadsBack m (length old.deferred - 1) old
    → now ≡ flushed before → Moves m old before (Ok true) mid now
released-newest m old mid before now turn asks released reads e = subst (λ (x : LiveStory). Moves m old before (Ok true) mid x) (sym e) (Releases turn mid asks released reads)

-- what was put was written, and the session closed; or a write failed
pub writes-last : {S : Type 0} (m : Meaning S) (old mid new : Target S) (before now after : LiveStory) (next : AfterLiveRound) → Moves m old before (Ok true) mid now
    → IfEnds next Which → IfDone m next mid new now after → IfLoses m next mid new now after → IfEnds next (LastRound m old before new after)
writes-last m old mid new before now after Goes moves which done fails = tt
writes-last m old mid new before now after (Ends ended) moves which done fails =
    elim which [
      | inl is ↦ let d = done (ap Ends is) in rw is (Closes mid now moves d.0 d.1)
      | inr is ↦ rw is (CantWrite (Ok true) mid now moves (λ e. cc) (fails (ap Ends is)))
    ]

-- the same behind a release
pub release-last : {S : Type 0} (m : Meaning S) (old mid new : Target S) (now after : LiveStory) (next : AfterLiveRound) (turn : Turn) → front_of old.end ≡ More → ReleasesNewest m old (Ok turn) mid
    → ReleaseReadsBack m (length old.deferred - 1) old
    → IfEnds next Which → IfDone m next mid new now after → IfLoses m next mid new now after
    → IfEnds next (λ ended. (before : LiveStory) → now ≡ flushed before → LastRound m old before new after ended)
release-last m old mid new now after Goes turn asks released reads which done fails = tt
release-last m old mid new now after (Ends ended) turn asks released reads which done fails =
    λ before e. writes-last m old mid new before now after (Ends ended) (released-newest m old mid before now turn asks released reads e) which done fails

-- the same behind steps
pub steps-last : {S : Type 0} (m : Meaning S) (old mid new : Target S) (now after : LiveStory) (next : AfterLiveRound) → Rests old → is_established old.end ≡ true → StepsEach m None old (Ok true) mid
    → IfEnds next Which → IfDone m next mid new now after → IfLoses m next mid new now after
    → IfEnds next (λ ended. (before : LiveStory) → now ≡ with_read Step [] (flushed before) → LastRound m old before new after ended)
steps-last m old mid new now after Goes rests session each which done fails = tt
steps-last m old mid new now after (Ends ended) rests session each which done fails =
    λ before e. writes-last m old mid new before now after (Ends ended) (moved m old mid before now (Ok true) rests session each e) which done fails

-- a step wanted memory, the session is open, and a write failed
pub starved-last : {S : Type 0} (m : Meaning S) (old mid new : Target S) (now after : LiveStory) (fault : TargetFault) (ended : Ended) → Rests old → is_established old.end ≡ true → StepsEach m None old (Err fault) mid → is_open mid.end ≡ true
    → Which ended → IfDone m (Ends ended) mid new now after → IfLoses m (Ends ended) mid new now after
    → (before : LiveStory) → now ≡ with_read Step [] (flushed before) → LastRound m old before new after ended
starved-last m old mid new now after fault ended rests session each opened which done fails before e =
    elim which [
      | inl is ↦ absurd (let shut = (done (ap Ends is)).0 in let both = sym opened ∙ shut in cc)
      | inr is ↦ rw is (CantWrite (Err fault) mid now (moved m old mid before now (Err fault) rests session each e) (λ e. cc) (fails (ap Ends is)))
    ]

-- no step was made, and the read that waits failed
pub waits-last : {S : Type 0} (m : Meaning S) (old mid new : Target S) (now after : LiveStory) (next : AfterLiveRound) → Rests old → is_established old.end ≡ true → StepsEach m None old (Ok false) mid
    → IfEnds next (λ ended. (ended ≡ LostByRead) × LosesAtRead Forever mid new now after)
    → IfEnds next (λ ended. (before : LiveStory) → now ≡ with_read Step [] (flushed before) → LastRound m old before new after ended)
waits-last m old mid new now after Goes rests session each which = tt
waits-last m old mid new now after (Ends ended) rests session each (is, loses) =
    λ before e. rw is (CantWait mid now (moved m old mid before now (Ok false) rests session each e) loses)

-- the first read of a round
pub reads-first : {S : Type 0} (m : Meaning S) (old new : Target S) (now after : LiveStory) (greeted : Bool) → Rests old → is_established old.end ≡ greeted → ReadsSome (patience_at greeted) old new now after
    → (before : LiveStory) → now ≡ flushed before → Round m old before new after
reads-first {S = S} m old new now after greeted rests session h before e =
    let at : ReadsSome (patience_of old) old new now after = subst (λ (b : Bool). ReadsSome (patience_at b) old new now after) (sym session) h in
    Reads rests (subst (λ (x : LiveStory). ReadsSome (patience_of old) old new x after) e at)

pub reads-last : {S : Type 0} (m : Meaning S) (old new : Target S) (now after : LiveStory) (greeted : Bool) (next : AfterLiveRound) → Rests old → is_established old.end ≡ greeted
    → IfEnds next (λ ended. (ended ≡ LostByRead) × LosesAtRead (patience_at greeted) old new now after)
    → IfEnds next (λ ended. (before : LiveStory) → now ≡ flushed before → LastRound m old before new after ended)
reads-last m old new now after greeted Goes rests session which = tt
reads-last {S = S} m old new now after greeted (Ends ended) rests session (is, loses) =
    λ before e.
    let at : LosesAtRead (patience_of old) old new now after = subst (λ (b : Bool). LosesAtRead (patience_at b) old new now after) (sym session) loses in
    rw is (CantRead rests (subst (λ (x : LiveStory). LosesAtRead (patience_of old) old new x after) e at))

-- behind what stood before: a flush, or a flush and a read that found nothing
pub behind-last : {S : Type 0} (m : Meaning S) (old new : Target S) (before now after : LiveStory) (next : AfterLiveRound) → now ≡ flushed before
    → IfEnds next (λ ended. (before : LiveStory) → now ≡ flushed before → LastRound m old before new after ended)
    → IfEnds next (LastRound m old before new after)
behind-last m old new before now after Goes e last = tt
behind-last m old new before now after (Ends ended) e last = last before e

pub behind-nothing : {S : Type 0} (m : Meaning S) (old new : Target S) (mid now after : LiveStory) (next : AfterLiveRound) → now ≡ with_read Step [] mid
    → IfEnds next (λ ended. (before : LiveStory) → now ≡ with_read Step [] (flushed before) → LastRound m old before new after ended)
    → IfEnds next (λ ended. (before : LiveStory) → mid ≡ flushed before → LastRound m old before new after ended)
behind-nothing m old new mid now after Goes e last = tt
behind-nothing m old new mid now after (Ends ended) e last = λ before same. last before (e ∙ ap (λ (x : LiveStory). with_read Step [] x) same)
