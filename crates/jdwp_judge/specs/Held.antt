-- How much a judge keeps of a session.
use Rattle.std.specs.Prelude.{◌≡◌, ◌<◌, ◌+◌, ℕ, List, length, true, is_some}
use Rattle.jdwp_wire.specs.Limits.{standard_limits}
use Rattle.jdwp_judge.specs.declared.held.Held.{Held}
use Rattle.jdwp_judge.specs.Asking.{count_asked, count_answered}
use Rattle.jdwp_judge.specs.Told.{known, settled}
use Rattle.jdwp_show.specs.declared.capture_line.Sender.{Sender}
use Rattle.jdwp_show.specs.declared.capture_line.Sender.TheVariants.{Debugger, Target}
use Rattle.jdwp_show.specs.declared.table.Table.{Table}
use Rattle.jdwp_show.specs.CaptureLines.{left_over}
use Rattle.jdwp_show.specs.Items.{items_of}
use Rattle.jdwp_show.specs.Lines.{Line, sent_by}

-- So many bytes of an end belong to no whole message: fewer than a packet may have.
pub record IsRest (sender : Sender) (pieces : List Line) (count : ℕ) : Type 0 where
  pub left : count ≡ left_over sender (sent_by sender pieces) (items_of pieces)
  pub small : count < standard_limits.packet

-- What is held of these pieces: what belongs to no whole message; the messages that are not known, and none once the widths of ids are settled; the
-- commands that have no reply yet.
pub record IsHeld (table : Table) (pieces : List Line) (held : Held) : Type 0 where
  pub debugger_bytes : IsRest Debugger pieces held.debugger_bytes
  pub target_bytes : IsRest Target pieces held.target_bytes
  pub messages : held.messages + length (known table (items_of pieces)) ≡ length (items_of pieces)
  pub once_settled : is_some (settled (items_of pieces)) ≡ true → held.messages ≡ 0
  pub commands : held.commands + count_answered (items_of pieces) ≡ count_asked (items_of pieces)
