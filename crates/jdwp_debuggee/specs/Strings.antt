-- VirtualMachine.CreateString: the one command that asks the machine and changes it (JDWP specification, "VirtualMachine": CreateString).
use Rattle.std.specs.Prelude.{ℕ, Bool, List, [], ◌∷◌, Option, Some, None}
use Rattle.jdwp_layout.specs.CommandNumbers.{is_command, CREATE_STRING}
use Rattle.jdwp_layout.specs.Meanings.{DatumMeaning, Object, One, Text}
use Rattle.jdwp_machine.specs.declared.query.Query.{Query}

-- whether a question makes a string
abbrev pub makes_string : Query → Bool
makes_string q = is_command CREATE_STRING q.set q.number

-- the text that data are, if they are one
abbrev pub text_in : List DatumMeaning → List ℕ
text_in (One (Text text) ∷ []) = text
text_in content = []

-- the object that data are, if they are one
abbrev pub object_alone : List DatumMeaning → Option ℕ
object_alone (One (Object n) ∷ []) = Some n
object_alone content = None
