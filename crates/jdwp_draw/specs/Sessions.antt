-- What is known behind the messages of a capture: which command waits under which id, and what the mirror has, which a debugger keeps that
-- reads these very messages.
use Rattle.std.specs.Prelude.{ℕ, ◌+◌, ◌==◌, Bool, false, List, [], Option, Some, None, option_map, if◌then◌else◌}
use Rattle.jdwp_wire.specs.declared.packet.PacketKind.{PacketKind}
use Rattle.jdwp_wire.specs.declared.packet.PacketKind.TheVariants as kind
use Rattle.jdwp_wire.specs.Streams as streams
use Rattle.jdwp_wire.specs.Widths.{Widths}
use Rattle.jdwp_action.specs.Actions.{Command}
use Rattle.jdwp_mirror.specs.Messages.{Message}
use Rattle.jdwp_mirror.specs.Mirror.{Kept, learned, held_after, requests_after}
use Rattle.jdwp_draw.specs.declared.sender.Sender.{Sender}
use Rattle.jdwp_draw.specs.declared.sender.Sender.TheVariants.{Debugger, Target}
use Rattle.jdwp_draw.specs.Messages.{ShownMeaning}
use Rattle.jdwp_draw.specs.Hearing.{command_of, heard}

-- a command that waits for its reply: which of the messages it is, from 0, and what it asks
pub record Asked : Type 0 where
  pub place : ℕ
  pub command : Command

-- How many messages there were, the commands that wait, by their ids, and by the mirror the count of each thread, which of them are held,
-- and the event requests.
pub record Session : Type 0 where
  pub messages : ℕ
  pub waits : ℕ → Option Asked
  pub counts : ℕ → Option ℕ
  pub held : ℕ → Bool
  pub requests : List Kept

-- before the first message
abbrev pub start : Session
start = record { messages = 0; waits = λ id. None; counts = λ t. None; held = λ t. false; requests = [] }

-- ---- commands that wait

abbrev pub waits_by : Option Widths → ℕ → Sender → ℕ → PacketKind → List ℕ → Option Asked → ℕ → Option Asked
waits_by widths place Debugger this (kind.Command set number) body before id = if this == id then Some (record { place = place; command = command_of widths set number body }) else before
waits_by widths place Debugger this (kind.Reply error) body before id = before
waits_by widths place Target this (kind.Command set number) body before id = before
waits_by widths place Target this (kind.Reply error) body before id = if this == id then None else before

-- What waits under an id behind a message: a command of the debugger waits under its id for the reply of the target.
abbrev pub waits_after : Option Widths → ℕ → Sender → streams.Message → Option Asked → ℕ → Option Asked
waits_after widths place sender streams.Handshake before id = before
waits_after widths place sender (streams.Packet header body) before id = waits_by widths place sender header.id header.kind body before id

abbrev pub command_in : Option Asked → Option Command
command_in asked = option_map (λ (a : Asked). a.command) asked

-- ---- the mirror

abbrev pub count_behind : Option Message → ℕ → Option ℕ → Option ℕ
count_behind None t count = count
count_behind (Some message) t count = learned message t count

abbrev pub held_behind : Option Message → ℕ → Bool → Option ℕ → Bool
held_behind None t before count = before
held_behind (Some message) t before count = held_after message t before count

abbrev pub requests_behind : Option Message → List Kept → List Kept
requests_behind None requests = requests
requests_behind (Some message) requests = requests_after message requests

-- ---- one message more

abbrev pub heard_in : Option Widths → Session → ShownMeaning → Option Message
heard_in widths s m = heard widths (λ id. command_in (s.waits id)) m.sender m.message

abbrev pub after : Option Widths → Session → ShownMeaning → Session
after widths s m = record {
  messages = s.messages + 1;
  waits = λ id. waits_after widths s.messages m.sender m.message (s.waits id) id;
  counts = λ t. count_behind (heard_in widths s m) t (s.counts t);
  held = λ t. held_behind (heard_in widths s m) t (s.held t) (count_behind (heard_in widths s m) t (s.counts t));
  requests = requests_behind (heard_in widths s m) s.requests;
}

-- ---- the command that a message answers

abbrev pub answered_by : (ℕ → Option Asked) → Sender → ℕ → PacketKind → Option ℕ
answered_by waits Debugger id is = None
answered_by waits Target id (kind.Command set number) = None
answered_by waits Target id (kind.Reply error) = option_map (λ (a : Asked). a.place) (waits id)

abbrev pub answered_in : (ℕ → Option Asked) → Sender → streams.Message → Option ℕ
answered_in waits sender streams.Handshake = None
answered_in waits sender (streams.Packet header body) = answered_by waits sender header.id header.kind

-- which of the messages, from 0, is the command that a reply of the target answers; None for any other message
abbrev pub answered : Session → ShownMeaning → Option ℕ
answered s m = answered_in s.waits m.sender m.message
