-- The widths of ids that messages tell: those of the first reply to VirtualMachine.IDSizes, and they hold for all of the messages.
use Rattle.std.specs.Prelude.{ℕ, ◌==◌, List, [], ◌∷◌, Option, Some, None, if◌then◌else◌}
use Rattle.std.specs.Option.{option_or}
use Rattle.jdwp_wire.specs.declared.error_code.ErrorCode.{ErrorCode}
use Rattle.jdwp_wire.specs.declared.packet.PacketKind.{PacketKind}
use Rattle.jdwp_wire.specs.declared.packet.PacketKind.TheVariants as kind
use Rattle.jdwp_wire.specs.Streams.{Message, Handshake, Packet}
use Rattle.jdwp_wire.specs.Widths.{Widths}
use Rattle.jdwp_mirror.specs.Widths.{widths_in}
use Rattle.jdwp_show.specs.declared.command_number.CommandNumber.{CommandNumber}
use Rattle.jdwp_show.specs.Data.{NO_IDS, is_id_sizes}
use Rattle.jdwp_draw.specs.declared.sender.Sender.{Sender}
use Rattle.jdwp_draw.specs.declared.sender.Sender.TheVariants.{Debugger, Target}
use Rattle.jdwp_draw.specs.Hearing.{answer_of, numbered}
use Rattle.jdwp_draw.specs.Messages.{ShownMeaning}

-- ---- commands that wait

-- A command of the debugger waits under its id for the reply of the target.
abbrev pub numbers_by : Sender → ℕ → PacketKind → Option CommandNumber → ℕ → Option CommandNumber
numbers_by Debugger this (kind.Command set number) before id = if this == id then Some (numbered set number) else before
numbers_by Debugger this (kind.Reply error) before id = before
numbers_by Target this (kind.Command set number) before id = before
numbers_by Target this (kind.Reply error) before id = if this == id then None else before

abbrev pub numbers_after : Sender → Message → Option CommandNumber → ℕ → Option CommandNumber
numbers_after sender Handshake before id = before
numbers_after sender (Packet header body) before id = numbers_by sender header.id header.kind before id

-- ---- widths

-- what the reply to this command tells; its data have no ids, so that they read alike with any widths
abbrev pub told_by : Option CommandNumber → ErrorCode → List ℕ → Option Widths
told_by None error body = None
told_by (Some command) error body = if is_id_sizes command then widths_in (answer_of (Some NO_IDS) command.set command.number error body) else None

abbrev pub told_of : Sender → Option CommandNumber → PacketKind → List ℕ → Option Widths
told_of Debugger waits is body = None
told_of Target waits (kind.Command set number) body = None
told_of Target waits (kind.Reply error) body = told_by waits error body

-- what a message tells, where these commands wait under their ids
abbrev pub told_in : (ℕ → Option CommandNumber) → Sender → Message → Option Widths
told_in waits sender Handshake = None
told_in waits sender (Packet header body) = told_of sender (waits header.id) header.kind body

unfoldable pub told_from : (ℕ → Option CommandNumber) → List ShownMeaning → Option Widths
told_from waits [] = None
told_from waits (m ∷ ms) = option_or (told_in waits m.sender m.message) (told_from (λ id. numbers_after m.sender m.message (waits id) id) ms)

-- the widths that the messages tell; None where none of them does
abbrev pub widths_told : List ShownMeaning → Option Widths
widths_told messages = told_from (λ id. None) messages
