-- What a link rests on: which message each end finds in front of bytes, that each reads what the other sent, and what holds of every session.
use Rattle.std.specs.Prelude.{◌≡◌, ℕ, ◌+◌, ◌^◌, ◌<◌, List, [], ◌∷◌, length, take, false, Some}
use Rattle.jdwp_wire.specs.declared.packet.Header.{Header}
use Rattle.jdwp_wire.specs.Frames.{IsPacket, packet_bytes}
use Rattle.jdwp_wire.specs.Streams as streams
use Rattle.jdwp_wire.specs.Streams.{stream, front_of_cut}
use Rattle.jdwp_wire.specs.Widths.{Widths, AreWidths}
use Rattle.jdwp_end.specs.declared.phase.Phase.TheVariants as phase
use Rattle.jdwp_end.specs.Ends.{End, front_of, is_paused}
use Rattle.jdwp_event.specs.CompositeBytes.{EncodesComposite, composite_canonical}
use Rattle.jdwp_event.specs.Composites.{CompositeMeaning, composite_data, vm_death}
use Rattle.jdwp_layout.specs.declared.answer.Answer.{Answer}
use Rattle.jdwp_layout.specs.Writes.{data_canonical}
use Rattle.jdwp_machine.specs.Meanings.{Meaning}
use Rattle.jdwp_action.specs.Actions.{Command, action_of, IdSizes}
use Rattle.jdwp_action.specs.AnswerPackets.{sizes_answer, EncodesAnswer, answer_bytes, error_of}
use Rattle.jdwp_debuggee.specs.Effects.{effect}
use Rattle.jdwp_debuggee.specs.Facts.{Facts}
use Rattle.jdwp_debuggee.specs.Settings.{Settings}
use Rattle.jdwp_debuggee.specs.State.{Moment}
use Rattle.jdwp_action.specs.CommandPackets.{carried_bytes}
use Rattle.jdwp_mirror.specs.Messages.{id_sizes}
use Rattle.jdwp_mirror.specs.Widths.{widths_in}
use Rattle.jdwp_target.specs.Sends.{IsEncoded}
use Rattle.jdwp_debugger.specs.Asking.{EncodesCommand, ReadsAsAsked, command_header}
use Rattle.jdwp_debugger.specs.DebuggerTurns.{sizes_header}
use Rattle.jdwp_debugger.specs.News.{answer_in, composite_in}
use Rattle.jdwp_model.specs.Deferred.{DefersFew}
use Rattle.jdwp_model.specs.Faultless.{NoPacketIsRefused, NoCallIsRefused, AnswersOneWaiting}
use Rattle.jdwp_model.specs.Headline.{Always, CountIsAtMost, HasTheCounts, HasTheRequests, HeldIsCovered, HeldIsSuspended, KnowsAndHolds}
use Rattle.jdwp_model.specs.Lasting.{AlwaysStaysTrue}
use Rattle.jdwp_model.specs.Places.{EachAtOnePlace}
use Rattle.jdwp_model.specs.Soundness.{AlwaysStandsSoundly}

-- what stands in front of an end, and how many bytes a packet has
pub record FindsMessages : Type 0 where
  pub handshake : (end : End) (n : ℕ) (messages : List streams.Message) → end.phase ≡ phase.AwaitingHandshake
      → is_paused end ≡ false → end.limits.packet < 2 ^ 32 → end.incoming ≡ take n (stream (streams.Handshake ∷ messages))
      → front_of end ≡ front_of_cut n streams.Handshake
  pub packet : (end : End) (n : ℕ) (header : Header) (body : List ℕ) (messages : List streams.Message)
      → end.phase ≡ phase.Established → is_paused end ≡ false → end.limits.packet < 2 ^ 32
      → IsPacket end.limits.packet header body → end.incoming ≡ take n (stream (streams.Packet header body ∷ messages))
      → front_of end ≡ front_of_cut n (streams.Packet header body)
  pub nothing : (end : End) → end.incoming ≡ [] → front_of end ≡ streams.More
  pub size : (header : Header) (body : List ℕ) → length (packet_bytes header body) ≡ 11 + length body

-- what each end reads is what the other sent
pub record ReadsMessages : Type 0 where
  pub asked : (w : Widths) (c : Command) → EncodesCommand w c → ReadsAsAsked w c
  pub answered : (w : Widths) (c : Command) (answer : Answer) → EncodesAnswer w c.set c.number answer
      → answer_in w c (error_of answer) (answer_bytes w answer) ≡ Some answer
  pub reported : (w : Widths) (c : CompositeMeaning) (code : List ℕ) → EncodesComposite w c code → composite_in w code ≡ Some c
  pub sizes : (v w : Widths) (answer : Answer) → EncodesAnswer w id_sizes.set id_sizes.number answer
      → answer_in v id_sizes (error_of answer) (answer_bytes w answer) ≡ Some answer
  pub widths : (w : Widths) → AreWidths w.field w.method w.object w.reference w.frame → widths_in (sizes_answer w) ≡ Some w

-- what is sent for some messages
pub record PutsMessages {S : Type 0} (m : Meaning S) : Type 0 where
  pub sizes_header_is : (w : Widths) (id : ℕ) → command_header w id id_sizes ≡ sizes_header id
  pub sizes_data_are : (w : Widths) → carried_bytes w id_sizes.carried ≡ []
  pub sizes_encoded : (w : Widths) → EncodesCommand w id_sizes
  pub composites : (w : Widths) (c : CompositeMeaning) → composite_canonical w c ≡ data_canonical w (composite_data c)
  pub death : (w : Widths) → IsEncoded w (Some vm_death)
  pub sizes_told : (settings : Settings) (now : Moment S) (c : Command) → action_of c ≡ IdSizes
      → (effect m settings now c).answer ≡ sizes_answer (m.sizes now.machine)

-- how the debuggee moves, and what holds of the model of a session after every list of events
pub record HoldsOfWorlds {S : Type 0} (m : Meaning S) : Type 0 where
  pub facts : (settings : Settings) → Facts m settings
  pub widths : (s : S) → m.is_state s → AreWidths (m.sizes s).field (m.sizes s).method (m.sizes s).object (m.sizes s).reference (m.sizes s).frame
  pub soundly : AlwaysStandsSoundly m
  pub packets : Always m NoPacketIsRefused
  pub calls : Always m NoCallIsRefused
  pub one : Always m AnswersOneWaiting
  pub places : Always m EachAtOnePlace
  pub few : Always m DefersFew
  pub known_and_held : Always m KnowsAndHolds
  pub counts : Always m HasTheCounts
  pub requests : Always m HasTheRequests
  pub suspended : Always m HeldIsSuspended
  pub covered : Always m HeldIsCovered
  pub at_most : Always m CountIsAtMost
  pub stays : AlwaysStaysTrue m

pub record Laws {S : Type 0} (m : Meaning S) : Type 0 where
  pub finds : FindsMessages
  pub reads : ReadsMessages
  pub puts : PutsMessages m
  pub worlds : HoldsOfWorlds m
