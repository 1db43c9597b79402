-- Commands that C asks, whose data come as bytes.
use Rattle.std.specs.Prelude.{◌≡◌, ℕ, Bool, true, false, List, Option, Some, None, option_map, Result, Ok, Err}
use Rattle.jdwp_wire.specs.Widths.{Widths}
use Rattle.jdwp_wire.specs.declared.data_fault.DataFault.{DataFault}
use Rattle.jdwp_layout.specs.CommandTable.{row_at}
use Rattle.jdwp_layout.specs.Meanings.{DatumMeaning}
use Rattle.jdwp_layout.specs.Reads.{data_at}
use Rattle.jdwp_layout.specs.Rows.{Row, RowShapes}
use Rattle.jdwp_action.specs.Actions.{Carried, Command, Content, Raw}
use Rattle.jdwp_end.specs.Ends.{is_open}
use Rattle.jdwp_debugger.specs.declared.asking.Refused.{Refused}
use Rattle.jdwp_debugger.specs.declared.asking.Refused.TheVariants as refused
use Rattle.jdwp_debugger.specs.Asking.{HasAsked, IsRefusal, refusal_of_ask}
use Rattle.jdwp_debugger.specs.Debuggers.{Debugger}
use Rattle.milunovesk_c.specs.declared.seat.Seat.{Seat}

-- what bytes carry in a row: data in its layout, or the bytes themselves where they are not read
abbrev pub content_read : Result (List DatumMeaning) DataFault → Option Carried
content_read (Ok content) = Some (Content content)
content_read (Err fault) = None

abbrev pub carried_by : Widths → Option RowShapes → List ℕ → Option Carried
carried_by w None bytes = Some (Raw bytes)
carried_by w (Some shapes) bytes = content_read (data_at w shapes.request bytes)

abbrev pub carried_in : Widths → Option Row → List ℕ → Option Carried
carried_in w None bytes = None
carried_in w (Some row) bytes = carried_by w row.shapes bytes

-- the command whose data these bytes are, where there is such a command and they read as its data
abbrev pub command_in : Widths → ℕ → ℕ → List ℕ → Option Command
command_in w set number bytes = option_map (λ (c : Carried). record { set = set; number = number; carried = c }) (carried_in w (row_at set number) bytes)

-- The command was asked whose data these bytes are.
pub record AsksBytes (set number : ℕ) (bytes : List ℕ) (old : Seat) (new : Seat) : Type 0 where
  pub widths : Widths
  pub known : old.debugger.sizes ≡ Some widths
  pub command : Command
  pub reads : command_in widths set number bytes ≡ Some command
  pub asked : HasAsked command old.debugger new.debugger
  pub beside : new ≡ record old { debugger = new.debugger }

-- Why it is not asked: the session is closed, the widths of ids are not known, the bytes are the data of no such command, or a debugger
-- refuses the command.
abbrev pub unready : Bool → Refused
unready true = refused.NotReady
unready false = refused.Closed

abbrev pub RefusesFound : Option Command → Refused → Debugger → Type 0
RefusesFound found refused.NoMemory d = Unit {0}
RefusesFound None e d = e ≡ refused.BadCommand
RefusesFound (Some c) e d = IsRefusal e (refusal_of_ask d c)

abbrev pub RefusesBytes : Option Widths → ℕ → ℕ → List ℕ → Refused → Debugger → Type 0
RefusesBytes None set number bytes e d = e ≡ unready (is_open d.end)
RefusesBytes (Some w) set number bytes e d = RefusesFound (command_in w set number bytes) e d
