-- how many bytes messages have
use Rattle.std.proofs.Common.{◌≡◌, ℕ, ◌+◌, length, List, [], ◌∷◌, ◌++◌, refl, sym, ◌∙◌, ap, arith}
use Rattle.std.proofs.lemmas.List.{append_assoc, length-append}
use Rattle.jdwp_wire.specs.Limits.{Limits}
use Rattle.jdwp_wire.specs.Streams.{message_bytes, stream}
use Rattle.jdwp_wire.specs.Widths.{Widths}
use Rattle.jdwp_wire.specs.declared.packet.PacketKind.TheVariants as kind
use Rattle.jdwp_layout.specs.CommandNumbers.{EVENT, COMPOSITE}
use Rattle.jdwp_layout.specs.Writes.{data_canonical}
use Rattle.jdwp_event.specs.Composites.{composite_data}
use Rattle.jdwp_debugger.specs.Asking.{command_header}
use Rattle.jdwp_action.specs.CommandPackets.{carried_bytes}
use Rattle.jdwp_action.specs.AnswerPackets.{answer_bytes, error_of}
use Rattle.jdwp_mirror.specs.Messages.{Call, Greets, Asks, Message, Handshake, Reply, Report}
use Rattle.jdwp_model.specs.World.{calls_size, packets_size}
use Rattle.jdwp_model.specs.Measures.{call_size, message_size, measured}
use Rattle.jdwp_link.specs.Laws.{FindsMessages}
use Rattle.jdwp_link.specs.Wires.{CallWire, PacketWire, without_ids, call_sent, message_sent, calls_sent, packets_sent}

pub call-length : FindsMessages → (w : Widths) (id : ℕ) (c : Call) → length (message_bytes (call_sent w id c)) ≡ call_size w c
call-length finds w id Greets = refl
call-length finds w id (Asks k c) = finds.size (command_header w id c) (carried_bytes w c.carried)

pub message-length : FindsMessages → (w : Widths) (id : ℕ) (x : Message) → length (message_bytes (message_sent w id x)) ≡ message_size w x
message-length finds w id Handshake = refl
message-length finds w id (Reply k c answer) = finds.size (record { length = 11 + length (answer_bytes w answer); id = id; kind = kind.Reply (error_of answer) }) (answer_bytes w answer)
message-length finds w id (Report c) = finds.size (record { length = 11 + length (data_canonical w (composite_data c)); id = id; kind = kind.Command EVENT COMPOSITE.number }) (data_canonical w (composite_data c))

pub calls-length : FindsMessages → (w : Widths) (limits : Limits) (wires : List CallWire) → length (stream (calls_sent w wires)) ≡ calls_size (measured w limits) (without_ids wires)
calls-length finds w limits [] = refl
calls-length finds w limits (p ∷ ps) =
    let a = length-append (message_bytes (call_sent w p.0 p.1)) (stream (calls_sent w ps)) in
    let b = call-length finds w p.0 p.1 in
    let c = calls-length finds w limits ps in
    omega arith

pub packets-length : {S : Type 0} → FindsMessages → (w : Widths) (limits : Limits) (wires : List (PacketWire S)) → length (stream (packets_sent w wires)) ≡ packets_size (measured w limits) (without_ids wires)
packets-length finds w limits [] = refl
packets-length finds w limits (p ∷ ps) =
    let a = length-append (message_bytes (message_sent w p.0 p.1.0)) (stream (packets_sent w ps)) in
    let b = message-length finds w p.0 p.1.0 in
    let c = packets-length finds w limits ps in
    omega arith

-- ---- more of them

pub without-append : {A : Type 0} (xs ys : List (ℕ × A)) → without_ids (xs ++ ys) ≡ without_ids xs ++ without_ids ys
without-append [] ys = refl
without-append (x ∷ xs) ys = ap (λ l. x.1 ∷ l) (without-append xs ys)

pub stream-calls : (w : Widths) (xs ys : List CallWire) → stream (calls_sent w (xs ++ ys)) ≡ stream (calls_sent w xs) ++ stream (calls_sent w ys)
stream-calls w [] ys = refl
stream-calls w (x ∷ xs) ys = ap (λ l. message_bytes (call_sent w x.0 x.1) ++ l) (stream-calls w xs ys) ∙ sym (append_assoc (message_bytes (call_sent w x.0 x.1)) (stream (calls_sent w xs)) (stream (calls_sent w ys)))

pub stream-packets : {S : Type 0} (w : Widths) (xs ys : List (PacketWire S)) → stream (packets_sent w (xs ++ ys)) ≡ stream (packets_sent w xs) ++ stream (packets_sent w ys)
stream-packets w [] ys = refl
stream-packets w (x ∷ xs) ys = ap (λ l. message_bytes (message_sent w x.0 x.1.0) ++ l) (stream-packets w xs ys) ∙ sym (append_assoc (message_bytes (message_sent w x.0 x.1.0)) (stream (packets_sent w xs)) (stream (packets_sent w ys)))
