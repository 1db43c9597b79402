-- The packet of a command: whether it can be sent to a target, what it carries in bytes, and how long it is (JDWP specification, "Packets").
use Rattle.std.specs.Prelude.{ℕ, ◌+◌, nat_lt, Bool, true, false, ◌&&◌, List, length, Option, Some, None, is_none}
use Rattle.jdwp_wire.specs.Widths.{Widths}
use Rattle.jdwp_layout.specs.CommandNumbers.{EVENT}
use Rattle.jdwp_layout.specs.CommandTable.{row_at}
use Rattle.jdwp_layout.specs.Rows.{Row, RowShapes}
use Rattle.jdwp_layout.specs.Writes.{data_canonical, data_refusal}
use Rattle.jdwp_action.specs.Actions.{Carried, Content, Raw, Command}

-- the data have the layout of the request, or are bytes in a raw row
abbrev pub fits_shapes : Widths → Option RowShapes → Carried → Bool
fits_shapes w None (Raw bytes) = true
fits_shapes w (Some shapes) (Content content) = is_none (data_refusal w shapes.request content)
fits_shapes w shapes carried = false

abbrev pub fits_row : Widths → Option Row → Carried → Bool
fits_row w None carried = false
fits_row w (Some row) carried = fits_shapes w row.shapes carried

-- a command of a set that goes to the target, with data that fit its row
abbrev pub is_for_target : Widths → Command → Bool
is_for_target w c = nat_lt c.set EVENT && fits_row w (row_at c.set c.number) c.carried

-- the bytes that are sent for what a command carries
abbrev pub carried_bytes : Widths → Carried → List ℕ
carried_bytes w (Content content) = data_canonical w content
carried_bytes w (Raw bytes) = bytes

-- how many bytes its packet has, of which 11 are the header
abbrev pub packet_length : Widths → Command → ℕ
packet_length w c = 11 + length (carried_bytes w c.carried)
