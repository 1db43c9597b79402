-- Parts of where a thread is.
use Rattle.std.specs.Prelude.{◌<◌, ◌^◌, List, [], ◌∷◌, length, Option, Some, None}
use Rattle.jdwp_value.specs.declared.location.Location.{Location}
use Rattle.jdwp_layout.specs.declared.answer.Answer.{Answer}
use Rattle.jdwp_layout.specs.declared.answer.Answer.TheVariants.{Data}
use Rattle.jdwp_layout.specs.Meanings.{ScalarMeaning, Frame, Located, Many}

-- an answer of frames has no more of them than an int counts
abbrev pub HasFewFrames : Answer → Type 0
HasFewFrames (Data (Many frames ∷ [])) = length frames < 2 ^ 31
HasFewFrames answer = Unit {0}

-- where the newest frame is
abbrev pub newest_place : List (List ScalarMeaning) → Option Location
newest_place ((Frame f ∷ Located place ∷ []) ∷ frames) = Some place
newest_place frames = None
