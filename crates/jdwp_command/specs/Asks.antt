-- What a command that was made here is: its number, its data, and that they are in the layout of its row (JDWP specification,
-- "Protocol Details").
use Rattle.std.specs.Prelude.{◌≡◌, Bool, true, false, ◌&&◌, List, length, is_none}
use Rattle.std.specs.List.{list_all}
use Rattle.jdwp_wire.specs.Numbers.{fits_int}
use Rattle.jdwp_wire.specs.Widths.{Widths}
use Rattle.jdwp_value.specs.Regions.{region_refusal}
use Rattle.jdwp_layout.specs.CommandNumbers.{CommandNumber}
use Rattle.jdwp_layout.specs.Grammar.{kind_of}
use Rattle.jdwp_layout.specs.Meanings.{ScalarMeaning, DatumMeaning, One, Many, Elements, Raw}
use Rattle.jdwp_layout.specs.Writes.{field_refusal}
use Rattle.jdwp_action.specs.Actions.{Command, Content, is_implemented}
use Rattle.jdwp_action.specs.CommandPackets.{is_for_target}

-- the command of this number with these data
abbrev pub command_with : CommandNumber → List DatumMeaning → Command
command_with n content = record { set = n.set; number = n.number; carried = Content content }

-- ---- what can be written, where ids are so wide

-- an id within its width, a text whose length an int tells, and any other value
abbrev pub is_scalar_writable : Widths → ScalarMeaning → Bool
is_scalar_writable w x = is_none (field_refusal w (kind_of x) x)

abbrev pub is_entry_writable : Widths → List ScalarMeaning → Bool
is_entry_writable w entry = list_all (is_scalar_writable w) entry

-- a list has as many entries as an int tells; no item is of data that are not read
abbrev pub is_item_writable : Widths → DatumMeaning → Bool
is_item_writable w (One x) = is_scalar_writable w x
is_item_writable w (Many entries) = fits_int (length entries) && list_all (is_entry_writable w) entries
is_item_writable w (Elements region) = is_none (region_refusal w region)
is_item_writable w (Raw bytes) = false

abbrev pub is_writable : Widths → List DatumMeaning → Bool
is_writable w content = list_all (is_item_writable w) content

-- ---- a command as it was made

-- The command is that of this number with these data. A debugger finds it a bad command only where one of its values can't be written,
-- however wide ids are: so its data are in the layout of its row. A target of this layer carries it out.
pub record Asks (number : CommandNumber) (content : List DatumMeaning) (command : Command) : Type 0 where
  pub is : command ≡ command_with number content
  pub fits : (w : Widths) → is_for_target w command ≡ is_writable w content
  pub implemented : is_implemented command ≡ true
