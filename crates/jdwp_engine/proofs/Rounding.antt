-- How the rounds of a session follow from what each call did.
use Rattle.std.proofs.Common.{◌≡◌, ◌∙◌, ◌-◌, [], length, Bool, true, false, None, Result, Ok, Err, ◌⊎◌, inl, inr, sym, ap, subst}
use Rattle.jdwp_wire.specs.Streams.{More}
use Rattle.jdwp_end.specs.Ends.{front_of, is_open}
use Rattle.jdwp_machine.specs.Meanings.{Meaning}
use Rattle.jdwp_target.specs.declared.target.TargetFault.{TargetFault}
use Rattle.jdwp_target.specs.declared.target.Turn.{Turn}
use Rattle.jdwp_target.specs.ReadsBack.{ReleaseReadsBack}
use Rattle.jdwp_target.specs.Targets.{Target, Ran}
use Rattle.jdwp_end.specs.declared.pipes.ended.Ended.{Ended}
use Rattle.jdwp_end.specs.declared.pipes.ended.Ended.TheVariants.{Done, LostByRead, LostByWrite, Refused, NoMemory, TurnLimit}
use Rattle.jdwp_end.specs.Endings.{unflushed_end}
use Rattle.jdwp_end.specs.Story.{Story, flushed}
use Rattle.jdwp_engine.specs.declared.serving.AfterRound.{AfterRound}
use Rattle.jdwp_engine.specs.declared.serving.AfterRound.TheVariants.{Goes, Ends}
use Rattle.jdwp_engine.specs.Next.{IfEnds}
use Rattle.jdwp_engine.specs.Rounds.{StepsEach}
use Rattle.jdwp_engine.specs.Run.{LosesAtRead, LosesAtWrite, WritesAll}
use Rattle.jdwp_engine.specs.Sessions.{LastRound, Moves, Releases, ReleasesNewest, Steps, CantRead, CantWrite, Closes}

-- a step of each live thread, behind a flush
pub moved : {S : Type 0} (m : Meaning S) (old mid : Target S) (before now : Story) (came : Result Bool TargetFault) → front_of old.end ≡ More → old.deferred ≡ [] → StepsEach m None old came mid → now ≡ flushed before
    → Moves m old before came mid now
moved m old mid before now came asks none each e = subst (λ (x : Story). Moves m old before came mid x) (sym e) (Steps came mid asks none each)

-- a release, behind a flush
pub released-newest : {S : Type 0} (m : Meaning S) (old mid : Target S) (before now : Story) (turn : Turn) → front_of old.end ≡ More → ReleasesNewest m old (Ok turn) mid → ReleaseReadsBack m (length old.deferred - 1) old → now ≡ flushed before
    → Moves m old before (Ok true) mid now
released-newest m old mid before now turn asks released reads e = subst (λ (x : Story). Moves m old before (Ok true) mid x) (sym e) (Releases turn mid asks released reads)

-- what was put was written, and the session closed; or a write failed
pub writes-last : {S : Type 0} (m : Meaning S) (old mid new : Target S) (before now after : Story) (next : AfterRound) → Moves m old before (Ok true) mid now
    → IfEnds next (λ ended. (ended ≡ Done) ⊎ (ended ≡ LostByWrite))
    → (next ≡ Ends Done → (is_open mid.end ≡ false) × WritesAll mid new now after × Ran m new)
    → (next ≡ Ends LostByWrite → LosesAtWrite m mid new now after)
    → IfEnds next (LastRound m old before new after)
writes-last m old mid new before now after Goes moves which done fails = tt
writes-last m old mid new before now after (Ends ended) moves which done fails =
    elim which [
      | inl is ↦ let d = done (ap Ends is) in rw is (Closes mid now moves d.0 d.1)
      | inr is ↦ rw is (CantWrite (Ok true) mid now moves (λ e. cc) (fails (ap Ends is)))
    ]

-- the same behind a release
pub release-last : {S : Type 0} (m : Meaning S) (old mid new : Target S) (now after : Story) (next : AfterRound) (turn : Turn) → front_of old.end ≡ More → ReleasesNewest m old (Ok turn) mid
    → ReleaseReadsBack m (length old.deferred - 1) old
    → IfEnds next (λ ended. (ended ≡ Done) ⊎ (ended ≡ LostByWrite))
    → (next ≡ Ends Done → (is_open mid.end ≡ false) × WritesAll mid new now after × Ran m new)
    → (next ≡ Ends LostByWrite → LosesAtWrite m mid new now after)
    → IfEnds next (λ ended. (before : Story) → now ≡ flushed before → LastRound m old before new after ended)
release-last m old mid new now after Goes turn asks released reads which done fails = tt
release-last m old mid new now after (Ends ended) turn asks released reads which done fails =
    λ before e. writes-last m old mid new before now after (Ends ended) (released-newest m old mid before now turn asks released reads e) which done fails

-- the same behind steps
pub steps-last : {S : Type 0} (m : Meaning S) (old mid new : Target S) (now after : Story) (next : AfterRound) → front_of old.end ≡ More → old.deferred ≡ [] → StepsEach m None old (Ok true) mid
    → IfEnds next (λ ended. (ended ≡ Done) ⊎ (ended ≡ LostByWrite))
    → (next ≡ Ends Done → (is_open mid.end ≡ false) × WritesAll mid new now after × Ran m new)
    → (next ≡ Ends LostByWrite → LosesAtWrite m mid new now after)
    → IfEnds next (λ ended. (before : Story) → now ≡ flushed before → LastRound m old before new after ended)
steps-last m old mid new now after Goes asks none each which done fails = tt
steps-last m old mid new now after (Ends ended) asks none each which done fails =
    λ before e. writes-last m old mid new before now after (Ends ended) (moved m old mid before now (Ok true) asks none each e) which done fails

-- a step wanted memory, the session is open, and a write failed
pub starved-last : {S : Type 0} (m : Meaning S) (old mid new : Target S) (now after : Story) (fault : TargetFault) (ended : Ended) → front_of old.end ≡ More → old.deferred ≡ [] → StepsEach m None old (Err fault) mid → is_open mid.end ≡ true
    → (ended ≡ Done) ⊎ (ended ≡ LostByWrite)
    → (Ends ended ≡ Ends Done → (is_open mid.end ≡ false) × WritesAll mid new now after × Ran m new)
    → (Ends ended ≡ Ends LostByWrite → LosesAtWrite m mid new now after)
    → (before : Story) → now ≡ flushed before → LastRound m old before new after ended
starved-last m old mid new now after fault ended asks none each opened which done fails before e =
    elim which [
      | inl is ↦ absurd (let shut = (done (ap Ends is)).0 in let both = sym opened ∙ shut in cc)
      | inr is ↦ rw is (CantWrite (Err fault) mid now (moved m old mid before now (Err fault) asks none each e) (λ e. cc) (fails (ap Ends is)))
    ]

-- no step was made, and the read failed
pub reads-last : {S : Type 0} (m : Meaning S) (old mid new : Target S) (now after : Story) (next : AfterRound) → front_of old.end ≡ More → old.deferred ≡ [] → StepsEach m None old (Ok false) mid
    → IfEnds next (λ ended. (ended ≡ LostByRead) × LosesAtRead mid new now after)
    → IfEnds next (λ ended. (before : Story) → now ≡ flushed before → LastRound m old before new after ended)
reads-last m old mid new now after Goes asks none each which = tt
reads-last m old mid new now after (Ends ended) asks none each (is, loses) =
    λ before e. rw is (CantRead mid now (moved m old mid before now (Ok false) asks none each e) loses)

-- behind the flush that stood before
pub flushed-last : {S : Type 0} (m : Meaning S) (old new : Target S) (before now after : Story) (next : AfterRound) → now ≡ flushed before
    → IfEnds next (λ ended. (before : Story) → now ≡ flushed before → LastRound m old before new after ended)
    → IfEnds next (LastRound m old before new after)
flushed-last m old new before now after Goes e last = tt
flushed-last m old new before now after (Ends ended) e last = last before e

-- a flush that fails uses up no rounds
pub no-limit : (how : Ended) → unflushed_end how ≡ TurnLimit → ⊥
no-limit Done e = cc
no-limit LostByRead e = cc
no-limit LostByWrite e = cc
no-limit (Refused number) e = cc
no-limit NoMemory e = cc
no-limit TurnLimit e = cc
