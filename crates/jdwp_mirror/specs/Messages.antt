-- What the two ends of a session send each other, as both mean it (JDWP specification, "JDWP Handshake" and "JDWP Packets").
use Rattle.std.specs.Prelude.{ℕ, ◌-◌, ◌^◌, Bool, true, false, ◌==◌, [], Option, Some, None}
use Rattle.jdwp_layout.specs.declared.answer.Answer.{Answer}
use Rattle.jdwp_layout.specs.CommandNumbers.{ID_SIZES}
use Rattle.jdwp_event.specs.Composites.{CompositeMeaning}
use Rattle.jdwp_action.specs.Actions.{Command, Content}

-- The name of a command that was asked: tickets rise from 1 and are never given twice. IDSizes, which a debugger asks by itself
-- after the handshake, has none.
abbrev pub Ticket : Type 0
Ticket = Option ℕ

abbrev pub same_ticket : Ticket → Ticket → Bool
same_ticket None None = true
same_ticket None (Some k) = false
same_ticket (Some j) None = false
same_ticket (Some j) (Some k) = j == k

-- the last ticket that there is
abbrev pub LAST_TICKET : ℕ
LAST_TICKET = 2 ^ 64 - 1

-- What a debugger sends: its handshake, or a command.
pub data Call : Type 0 where
  Greets : Call
  Asks : Ticket → Command → Call

-- What a target sends: its handshake, the reply to a command, or a composite event.
pub data Message : Type 0 where
  Handshake : Message
  Reply : Ticket → Command → Answer → Message
  Report : CompositeMeaning → Message

-- the command by which a debugger learns how wide ids are
abbrev pub id_sizes : Command
id_sizes = record { set = ID_SIZES.set; number = ID_SIZES.number; carried = Content [] }
