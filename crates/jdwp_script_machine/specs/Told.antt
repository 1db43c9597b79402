-- What is told of a string that was made: its text and its class; and its id was nothing's before.
use Rattle.std.specs.Prelude.{◌≡◌, ◌≢◌, ℕ, [], ◌∷◌, None}
use Rattle.jdwp_layout.specs.CommandNumbers.{OBJECT_TYPE, STRING_VALUE}
use Rattle.jdwp_layout.specs.Meanings.{Object, One}
use Rattle.jdwp_machine.specs.declared.query.Query.{Query}
use Rattle.jdwp_script_machine.specs.States.{State}
use Rattle.jdwp_script_machine.specs.Sites.{object_at, group_in, thread_in, module_in}
use Rattle.jdwp_script_machine.specs.JdiAnswers.{unnamed_module}

-- StringReference.Value, and ObjectReference.ReferenceType, of the object of an id
abbrev pub value_asked : ℕ → Query
value_asked id = record { set = STRING_VALUE.set; number = STRING_VALUE.number; content = One (Object id) ∷ [] }

abbrev pub type_asked_of : ℕ → Query
type_asked_of id = record { set = OBJECT_TYPE.set; number = OBJECT_TYPE.number; content = One (Object id) ∷ [] }

-- an id is that of nothing that a machine has
pub record IsFree (s : State) (id : ℕ) : Type 0 where
  pub object : object_at s id ≡ None
  pub thread : thread_in s.script id ≡ None
  pub group : group_in s.script id ≡ None
  pub «module» : module_in s.script id ≡ None
  pub unnamed : unnamed_module s.script ≢ id
