-- What is sent for an answer (JDWP specification, "Packets": a reply's error code and data).
use Rattle.byteorder.specs.Endian.{big_bytes}
use Rattle.std.specs.Prelude.{◌≡◌, ℕ, ◌+◌, ◌≤◌, suc, nat_le, if◌then◌else◌, ◌∷◌, Bool, true, false, List, [], length, None, Result, Ok, Err}
use Rattle.jdwp_wire.specs.ErrorCodes.{NONE}
use Rattle.jdwp_wire.specs.Widths.{Widths}
use Rattle.jdwp_wire.specs.declared.error_code.ErrorCode.{ErrorCode}
use Rattle.jdwp_wire.specs.Limits.{least_packet_limit}
use Rattle.jdwp_event.specs.CompositeBytes.{composite_canonical, composite_refusal}
use Rattle.jdwp_event.specs.Composites.{CompositeMeaning, composite_data}
use Rattle.jdwp_layout.specs.Shapes.{Events, OneOf, ListOf}
use Rattle.jdwp_layout.specs.Writes.{data_canonical, data_refusal}
use Rattle.jdwp_layout.specs.declared.answer.Answer.{Answer}
use Rattle.jdwp_layout.specs.declared.item.Field.TheVariants as field
use Rattle.jdwp_machine.specs.Meanings.{Meaning}
use Rattle.jdwp_action.specs.Actions
use Rattle.jdwp_action.specs.Actions.{Action, Command, action_of}
use Rattle.jdwp_action.specs.AnswerPackets.{error_of, answer_bytes}
use Rattle.jdwp_debuggee.specs.Askings.{Asking}
use Rattle.jdwp_debuggee.specs.Debuggees.{Debuggee, at_moment, visiting}
use Rattle.jdwp_debuggee.specs.Effects.{carried}
use Rattle.jdwp_debuggee.specs.Replies.{reply_meaning}
use Rattle.jdwp_debuggee.specs.Visits.{visits_carried}
use Rattle.jdwp_debuggee.specs.declared.reply.Reply.{Reply}
use Rattle.jdwp_debuggee.specs.declared.reply.Reply.TheVariants as reply
use Rattle.jdwp_debuggee.specs.declared.reply.Sent.{Sent}
use Rattle.jdwp_debuggee.specs.declared.reply.Sent.TheVariants as sent

-- ---- in code

abbrev pub sent_error : Sent → ErrorCode
sent_error (sent.Short reply) = error_of (reply_meaning reply)
sent_error (sent.Written bytes) = NONE
sent_error (sent.Object id) = NONE

abbrev pub sent_bytes : Widths → Sent → List ℕ
sent_bytes w (sent.Short reply) = answer_bytes w (reply_meaning reply)
sent_bytes w (sent.Written bytes) = bytes.items
sent_bytes w (sent.Object id) = big_bytes w.object id.0

-- a refusal as it is sent
abbrev pub short_refused : ErrorCode → Sent
short_refused e = sent.Short (reply.Refused e)

-- a reply that takes no memory is sent, where there is one
abbrev pub sent_short : {E : Type 0} → Result Reply E → Result Sent E
sent_short (Ok reply) = Ok (sent.Short reply)
sent_short (Err e) = Err e

-- this is sent for an answer
pub record IsSent (w : Widths) (answer : Answer) (sent : Sent) : Type 0 where
  pub error : sent_error sent ≡ error_of answer
  pub bytes : sent_bytes w sent ≡ answer_bytes w answer

-- A command was carried out: what became of the debuggee, and what is sent, which fits a packet.
pub record Did {S : Type 0} (m : Meaning S) (c : Command) (old new : Debuggee S) (sent : Sent) : Type 0 where
  pub after : new ≡ visiting (visits_carried old.moment (action_of c) (carried m old.settings old.moment c (action_of c)) old.visits)
      (at_moment (carried m old.settings old.moment c (action_of c)).after old)
  pub sends : IsSent (m.sizes old.moment.machine) (carried m old.settings old.moment c (action_of c)).answer sent
  pub fits : least_packet_limit ≤ old.settings.limits.packet → 11 + length (sent_bytes (m.sizes old.moment.machine) sent) ≤ old.settings.limits.packet

-- the actions that want no memory
abbrev pub is_short_action : Action → Bool
is_short_action Actions.Exit = false
is_short_action (Actions.SetRequest kind policy entries) = false
is_short_action (Actions.SetSlots t f values) = false
is_short_action (Actions.AskFrames t) = false
is_short_action (Actions.AskThread t) = false
is_short_action Actions.AllThreads = false
is_short_action Actions.Ask = false
is_short_action action = true

-- the actions that ask the machine, or for the list of its threads
abbrev pub is_question : Action → Bool
is_question (Actions.AskFrames t) = true
is_question (Actions.AskThread t) = true
is_question Actions.AllThreads = true
is_question Actions.Ask = true
is_question action = false

-- what is asked for wants no memory; a refusal wants none
abbrev pub is_short_asked : Result Asking ErrorCode → Bool
is_short_asked (Ok asking) = is_short_action asking.action
is_short_asked (Err error) = true

-- how many stand before the first whose id is not less
abbrev pub place_in : ℕ → List ℕ → ℕ
place_in n [] = 0
place_in n (x ∷ xs) = if nat_le n x then 0 else suc (place_in n xs)

-- ---- composites that can be sent

-- A composite can be written at these widths, as it is and as data in the layout of its row, which have the same bytes; and with the
-- header of a packet they are within the limit.
pub record FitsPacket (w : Widths) (limit : ℕ) (c : CompositeMeaning) : Type 0 where
  pub unrefused : composite_refusal w c ≡ None
  pub in_layout : data_refusal w (OneOf field.Byte ∷ ListOf Events ∷ []) (composite_data c) ≡ None
  pub same_bytes : composite_canonical w c ≡ data_canonical w (composite_data c)
  pub within : 11 + length (data_canonical w (composite_data c)) ≤ limit
