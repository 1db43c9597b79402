-- Parts of reading commands.
use Rattle.std.specs.Prelude.{◌≡◌, ℕ, ℤ, ◌==◌, ◌||◌, Bool, true, false, List, [], ◌∷◌, length, Option, Some, None, Result, Ok, Err, if◌then◌else◌}
use Rattle.byteorder.specs.Endian.{big_number}
use Rattle.jdwp_wire.specs.declared.data_fault.DataFault.{DataFault}
use Rattle.jdwp_wire.specs.declared.error_code.ErrorCode.{ErrorCode}
use Rattle.jdwp_wire.specs.ErrorCodes.{ILLEGAL_ARGUMENT}
use Rattle.jdwp_layout.specs.CommandNumbers.{STACK_FRAME, THREAD_REFERENCE}
use Rattle.jdwp_layout.specs.CommandTable.{row_at}
use Rattle.jdwp_layout.specs.Meanings.{DatumMeaning, ScalarMeaning}
use Rattle.jdwp_layout.specs.Shapes.{ItemShape, OneOf}
use Rattle.jdwp_layout.specs.declared.item.Field.TheVariants as field
use Rattle.jdwp_action.specs.Actions
use Rattle.jdwp_action.specs.Actions.{Action, Command, Raw, is_implemented}
use Rattle.jdwp_action.specs.CommandReads.{with_content}
use Rattle.jdwp_action.specs.RowLayouts.{row_request}
use Rattle.jdwp_machine.specs.declared.profile.Profile.{Profile}
use Rattle.jdwp_debuggee.specs.Answering.{is_read}
use Rattle.jdwp_debuggee.specs.Askings.{Asking, asking_of}

abbrev pub unread : ℕ → ℕ → Command
unread set number = record { set = set; number = number; carried = Raw [] }

-- a command that is implemented, carries nothing, and asks for this
abbrev pub IsBare : Asking → ℕ → ℕ → Type 0
IsBare asking set number =
    (is_implemented (unread set number) ≡ true) × (row_request (row_at set number) ≡ [])
    × ((content : List DatumMeaning) → asking_of (with_content set number content) ≡ asking)

-- an object id of this width, and nothing else
abbrev pub object_alone : ℕ → List ℕ → Option ℕ
object_alone width bytes = if length bytes == width then Some (big_number width bytes) else None

-- what a Clear of this kind and id asks for; data that do not read are refused
abbrev pub clear_asks : Result (ℕ × ℤ) DataFault → Result Asking ErrorCode
clear_asks (Ok (kind, id)) = Ok (record { action = Actions.ClearRequest kind id; question = None })
clear_asks (Err fault) = Err ILLEGAL_ARGUMENT

-- ---- layouts

-- the layout of a command's data, where they are read in the profile
abbrev pub answered_request : Profile → ℕ → ℕ → Option (List ItemShape)
answered_request profile set number = if is_read profile (unread set number) then Some (row_request (row_at set number)) else None

-- ---- what data begin with

-- data of these items begin with an object
abbrev pub begin_with_object : List ItemShape → Bool
begin_with_object (OneOf field.ObjectId ∷ items) = true
begin_with_object items = false

-- the commands of these sets begin with a thread
abbrev pub begins_with_thread : ℕ → Bool
begins_with_thread set = (set == THREAD_REFERENCE) || (set == STACK_FRAME)

-- the kind and the policy that the data of a Set begin with, as it asks for them
abbrev pub AsksFor : Option (ℕ × ℕ) → Action → Type 0
AsksFor None action = ⊥
AsksFor (Some (kind, policy)) action = (entries : List (List ScalarMeaning)) × (action ≡ Actions.SetRequest kind policy entries)
