-- What is answered to those who ask for slots, in steps: the entry, the list, the rest of the data.
use Rattle.std.proofs.Common.{◌≡◌, ℕ, Bool, false, not, List, [], ◌∷◌, refl}
use Rattle.std.specs.Prelude.{Option, Some, None, if◌then◌else◌}
use Rattle.std.specs.List.{list_all}
use Rattle.std.specs.Borrow.{Bor}
use Rattle.std.specs.Global.{Vec}
use Rattle.jdwp_wire.specs.ErrorCodes.{ILLEGAL_ARGUMENT, TYPE_MISMATCH, INVALID_SLOT}
use Rattle.jdwp_value.specs.declared.value.Value.{Value}
use Rattle.jdwp_value.specs.Tags.{tag_of_byte}
use Rattle.jdwp_layout.specs.declared.datum.Scalar.{Scalar}
use Rattle.jdwp_layout.specs.declared.answer.Answer.{Answer}
use Rattle.jdwp_layout.specs.declared.answer.Answer.TheVariants.{Data, Error}
use Rattle.jdwp_layout.specs.Meanings.{ScalarMeaning, Byte, Int, DatumMeaning, Many, entry_meanings}
use Rattle.jdwp_script_machine.specs.States.{SlotNow, FrameNow}
use Rattle.jdwp_script_machine.specs.SlotWrites.{slot_value}
use Rattle.jdwp_script_machine.specs.Requests.{of_entries}
use Rattle.jdwp_script_machine.specs.ThreadAnswers.{byte_suits, entry_has_slot, entry_suits, slot_entries, slots_asked, slots_answer}

-- what is answered to the entries that were found in the data
abbrev pub by_entries : (List (List ScalarMeaning) → Answer) → Option (Bor (List (Vec Scalar))) → Answer
by_entries answer None = Error ILLEGAL_ARGUMENT
by_entries answer (Some entries) = answer (entry_meanings entries.now)

-- whether what a slot holds suits the tag of a byte
unfoldable pub suits_byte : Option Value → ℕ → Bool
suits_byte held asked = byte_suits held (tag_of_byte asked)

abbrev pub entry_asks : List SlotNow → List ScalarMeaning → Bool
entry_asks slots (Int n ∷ Byte asked ∷ []) = suits_byte (slot_value n slots) asked
entry_asks slots entry = false

unfoldable pub slots_told : List SlotNow → List (List ScalarMeaning) → Answer
slots_told slots entries =
    if not (list_all (entry_has_slot slots) entries) then Error INVALID_SLOT else (
    if not (list_all (entry_asks slots) entries) then Error TYPE_MISMATCH else
    Data (Many (slot_entries slots entries) ∷ []))

entry_asks_is : (slots : List SlotNow) (entry : List ScalarMeaning) → entry_asks slots entry ≡ entry_suits slots entry
unfolding suits_byte
entry_asks_is slots (Int n ∷ Byte asked ∷ []) = refl
entry_asks_is slots entry = refl

all_ask : (slots : List SlotNow) (entries : List (List ScalarMeaning)) → list_all (entry_asks slots) entries ≡ list_all (entry_suits slots) entries
all_ask slots [] = refl
all_ask slots (entry ∷ entries) = rw (entry_asks_is slots entry, all_ask slots entries) refl

slots_told_is : (slots : List SlotNow) (entries : List (List ScalarMeaning)) → slots_told slots entries ≡ slots_asked slots entries
unfolding slots_told
slots_told_is slots entries = rw (all_ask slots entries) refl

pub slots_answer_is : (f : FrameNow) (content : List DatumMeaning) → of_entries (slots_told f.slots) content ≡ slots_answer f content
slots_answer_is f (Many entries ∷ []) = rw (slots_told_is f.slots entries) refl
slots_answer_is f content = refl
