-- Making a string (JDWP specification, "VirtualMachine": CreateString).
use Rattle.std.specs.Prelude.{ℕ, ◌+◌, ◌&&◌, Bool, List, [], ◌∷◌, ◌++◌, length, nat_lt, codes, if◌then◌else◌, Option, Some, None, Result, Ok, Err}
use Rattle.jdwp_wire.specs.declared.error_code.ErrorCode.{ErrorCode}
use Rattle.jdwp_wire.specs.ErrorCodes.{NOT_IMPLEMENTED, OUT_OF_MEMORY}
use Rattle.jdwp_wire.specs.Numbers.{fits_int}
use Rattle.jdwp_layout.specs.declared.answer.Answer.{Answer}
use Rattle.jdwp_layout.specs.declared.answer.Answer.TheVariants.{Data, Error}
use Rattle.jdwp_layout.specs.Meanings.{Object, One}
use Rattle.jdwp_script.specs.Parts.{ClassPart, ObjectPart, ScriptPart}
use Rattle.jdwp_script_machine.specs.States.{State}
use Rattle.jdwp_script_machine.specs.JdiAnswers.{class_signed, greatest_id, is_id}

-- a machine makes no more strings than these
abbrev pub MADE_LIMIT : ℕ
MADE_LIMIT = 1_024

-- The id of the first string that is made stands behind that of the unnamed module, which is one more than the greatest id of the script;
-- and that of the next one behind all.
abbrev pub first_made : ScriptPart → ℕ
first_made script = greatest_id script + 2

abbrev pub next_made : State → ℕ
next_made s = first_made s.script + length s.made

-- whether one more can be made: there are fewer than the limit, its text fits a packet, and its id the width of objects' ids
abbrev pub has_room : State → List ℕ → Bool
has_room s text = nat_lt (length s.made) MADE_LIMIT && (fits_int (length text) && is_id s.script.sizes.object (next_made s))

-- its id, where there is room
abbrev pub made_id : State → List ℕ → Option ℕ
made_id s text = if has_room s text then Some (next_made s) else None

-- a string of this class and this text: it has no fields, and is no array
abbrev pub string_object : List ℕ → ℕ → ℕ → ObjectPart
string_object text class id = record { id = id; class = class; fields = []; text = Some text; array = None }

-- what is made in a class of strings: first there has to be one, then room
abbrev pub string_in : List ℕ → Option ClassPart → Option ℕ → Result ObjectPart ErrorCode
string_in text None id = Err NOT_IMPLEMENTED
string_in text (Some c) None = Err OUT_OF_MEMORY
string_in text (Some c) (Some id) = Ok (string_object text c.id id)

-- the class of strings: the first one that is named so
abbrev pub string_class : ScriptPart → Option ClassPart
string_class script = class_signed (codes "Ljava/lang/String;") script.classes

-- the string that is made, or why none is
abbrev pub string_made : State → List ℕ → Result ObjectPart ErrorCode
string_made s text = string_in text (string_class s.script) (made_id s text)

-- the answer is its id
abbrev pub id_answer : ℕ → Answer
id_answer id = Data (One (Object id) ∷ [])

abbrev pub answer_of_made : Result ObjectPart ErrorCode → Answer
answer_of_made (Err e) = Error e
answer_of_made (Ok o) = id_answer o.id

abbrev pub made_answer : State → List ℕ → Answer
made_answer s text = answer_of_made (string_made s text)

abbrev pub with_made : State → Result ObjectPart ErrorCode → State
with_made s (Err e) = s
with_made s (Ok o) = record s { made = s.made ++ o ∷ [] }

-- a string that was made stays, and nothing else changes
abbrev pub made : State → List ℕ → State
made s text = with_made s (string_made s text)
