-- The steps of a round: each live thread is stepped once, by rising id.
use Rattle.std.specs.Prelude.{◌≡◌, ℕ, ◌≤◌, ◌||◌, nat_lt, Bool, true, false, List, [], ◌∷◌, take, drop, Option, Some, None, Result, Ok, Err}
use Rattle.jdwp_machine.specs.Meanings.{Meaning, has}
use Rattle.jdwp_target.specs.declared.target.Stepped.{Stepped}
use Rattle.jdwp_target.specs.declared.target.Stepped.TheVariants.{Frozen, Quiet, Reported, Ended}
use Rattle.jdwp_target.specs.declared.target.TargetFault.{TargetFault}
use Rattle.jdwp_target.specs.Targets.{Target}
use Rattle.jdwp_target.specs.ReadsBack.{StepReadsBack}
use Rattle.jdwp_target.specs.Turns.{StepsAt}
use Rattle.jdwp_value.specs.declared.id.ObjectId.{ObjectId}

-- the number of an id, where there is one
abbrev pub id_in : Option ObjectId → Option ℕ
id_in None = None
id_in (Some id) = Some id.0

-- above the last one that was stepped, or none was
abbrev pub is_above : Option ℕ → ℕ → Bool
is_above None id = true
is_above (Some last) id = nat_lt last id

-- The id of the next thread to step: one of these, above the last, and no other of them is above the last and below it.
pub record IsNextThread (ids : List ℕ) (last : Option ℕ) (next : ℕ) : Type 0 where
  pub lives : has ids next ≡ true
  pub above : is_above last next ≡ true
  pub least : (id : ℕ) → has ids id ≡ true → is_above last id ≡ true → next ≤ id

-- There is none where none of these is above the last.
abbrev pub IsNext : List ℕ → Option ℕ → Option ℕ → Type 0
IsNext ids last None = (id : ℕ) → has ids id ≡ true → is_above last id ≡ false
IsNext ids last (Some next) = IsNextThread ids last next

-- none of these is above the last
abbrev pub AreBelow : Option ℕ → List ℕ → Type 0
AreBelow last [] = Unit {0}
AreBelow last (id ∷ ids) = (is_above last id ≡ false) × AreBelow last ids

-- each of these is above the one before it, and the first above the last
abbrev pub AreRising : Option ℕ → List ℕ → Type 0
AreRising last [] = Unit {0}
AreRising last (id ∷ ids) = (is_above last id ≡ true) × AreRising (Some id) ids

-- From this place on stand all that are above the last, and they rise; nothing is said where there is no place.
abbrev pub IsAhead : List ℕ → Option ℕ → Option ℕ → Type 0
IsAhead ids last None = Unit {0}
IsAhead ids last (Some place) = AreBelow last (take place ids) × AreRising last (drop place ids)

-- whether a call made a step
abbrev pub is_step : Stepped → Bool
is_step Frozen = false
is_step Quiet = true
is_step Reported = true
is_step Ended = true

-- what came of steps, where one more was made before them or none was
abbrev pub with_made : Bool → Result Bool TargetFault → Result Bool TargetFault
with_made made (Ok more) = Ok (made || more)
with_made made (Err fault) = Err fault

-- From the last one on, each thread that lives then is stepped, by rising id: those that a step starts are among them where their ids are
-- higher, those that it ends are not. What each sends reads back. What came of it is whether a step was made; or one wanted memory, and those
-- above it are not stepped.
pub data StepsEach {S : Type 0} (m : Meaning S) : Option ℕ → Target S → Result Bool TargetFault → Target S → Type 0 where
  Over : (last : Option ℕ) (target : Target S) → IsNext (m.live target.moment.machine) last None → StepsEach m last target (Ok false) target
  Wants : (last : Option ℕ) (old new : Target S) (t : ℕ) (fault : TargetFault) → IsNext (m.live old.moment.machine) last (Some t)
      → StepsAt m t old (Err fault) new → StepsEach m last old (Err fault) new
  Steps : (last : Option ℕ) (old mid new : Target S) (t : ℕ) (stepped : Stepped) (came : Result Bool TargetFault) → IsNext (m.live old.moment.machine) last (Some t)
      → StepsAt m t old (Ok stepped) mid → StepReadsBack m t old → StepsEach m (Some t) mid came new → StepsEach m last old (with_made (is_step stepped) came) new

-- the same, where steps may be left to make
abbrev pub StepsUntil : {S : Type 0} → Meaning S → Target S → Bool → Option ℕ → Target S → Type 0
StepsUntil {S = S} m first made last now =
    (came : Result Bool TargetFault) (new : Target S) → StepsEach m last now came new → StepsEach m None first (with_made made came) new
