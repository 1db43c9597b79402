-- Which commands a target answers in its profile, and what their data read as (JDWP specification, "Protocol Details").
use Rattle.std.specs.Prelude.{ℕ, ◌||◌, Bool, true, false, List, Result, Ok, Err, if◌then◌else◌}
use Rattle.jdwp_wire.specs.Widths.{Widths}
use Rattle.jdwp_wire.specs.declared.error_code.ErrorCode.{ErrorCode}
use Rattle.jdwp_wire.specs.ErrorCodes.{NOT_IMPLEMENTED}
use Rattle.jdwp_layout.specs.CommandTable.{row_at}
use Rattle.jdwp_layout.specs.Reads.{data_at}
use Rattle.jdwp_machine.specs.declared.profile.Profile.{Profile}
use Rattle.jdwp_machine.specs.Profiles.{adds, adds_raw}
use Rattle.jdwp_action.specs.Actions.{Command, Raw, is_implemented}
use Rattle.jdwp_action.specs.CommandReads.{content_read}
use Rattle.jdwp_action.specs.RowLayouts.{row_request}

-- those whose data it reads: the ones that it answers in each profile, and the starred ones that this profile adds
abbrev pub is_read : Profile → Command → Bool
is_read profile c = is_implemented c || adds profile c.set c.number

-- and the raw ones that this profile adds
abbrev pub is_answered : Profile → Command → Bool
is_answered profile c = is_read profile c || adds_raw profile c.set c.number

-- a command with its bytes, which nobody reads
abbrev pub with_bytes : ℕ → ℕ → List ℕ → Command
with_bytes set number bytes = record { set = set; number = number; carried = Raw bytes }

-- where data are not read: a raw command that is answered keeps its bytes, and another is refused
abbrev pub unread_as : ℕ → ℕ → List ℕ → Bool → Result Command ErrorCode
unread_as set number bytes true = Ok (with_bytes set number bytes)
unread_as set number bytes false = Err NOT_IMPLEMENTED

-- The command of a set and a number with these bytes as its data, or the error that it is refused with.
abbrev pub read_as : Profile → Widths → ℕ → ℕ → List ℕ → Result Command ErrorCode
read_as profile w set number bytes =
    if is_read profile (with_bytes set number bytes)
    then content_read set number (data_at w (row_request (row_at set number)) bytes)
    else unread_as set number bytes (adds_raw profile set number)
