-- What every machine's answers keep.
use Rattle.std.proofs.Common.{◌≡◌, ℕ, Bool, true, false, [], ◌∷◌, Option, Some, None, refl, if◌then◌else◌}
use borrow.Author.Tests.{ltb-true}
use Rattle.jdwp_wire.specs.declared.data_fault.DataFault.{DataFault}
use Rattle.jdwp_wire.specs.declared.data_fault.DataFault.TheVariants.{BadSize}
use Rattle.jdwp_wire.specs.Reading.{first_of_two}
use Rattle.jdwp_layout.specs.declared.answer.Answer.{Answer}
use Rattle.jdwp_layout.specs.declared.answer.Answer.TheVariants.{Data, Error}
use Rattle.jdwp_layout.specs.Meanings.{One, Many, Elements, Raw}
use Rattle.jdwp_layout.specs.CommandNumbers.{FRAMES}
use Rattle.jdwp_machine.specs.Laws.{IsLawful, MayAnswer}
use Rattle.jdwp_machine.specs.Meanings.{Meaning}
use Rattle.jdwp_debuggee.specs.Origins.{frames_query}
use Rattle.jdwp_debuggee.specs.OriginParts.{HasFewFrames}

not_refused : (b : Bool) (r : Option DataFault) → first_of_two (if b then r else Some BadSize) None ≡ None → b ≡ true
not_refused true r h = refl
not_refused false r h = absurd (cc)

few : {S : Type 0} (m : Meaning S) (s : S) (answer : Answer) → MayAnswer m s FRAMES.set FRAMES.number answer → HasFewFrames answer
few m s (Error e) h = tt
few m s (Data []) h = tt
few m s (Data (One x ∷ items)) h = tt
few m s (Data (Elements x ∷ items)) h = tt
few m s (Data (Raw bytes ∷ items)) h = tt
few m s (Data (Many frames ∷ [])) h = ltb-true _ _ (not_refused _ _ h)
few m s (Data (Many frames ∷ item ∷ items)) h = tt

-- The frames of a thread are no more than an int counts.
pub few_frames : {S : Type 0} (m : Meaning S) → IsLawful m → (s : S) → m.is_state s → (t : ℕ) → HasFewFrames (m.query s (frames_query t))
few_frames m law s fits t = few m s (m.query s (frames_query t)) (law.answers s (frames_query t) fits)
