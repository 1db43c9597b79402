-- What the code has read of a capture.
use Rattle.std.specs.Prelude.{◌≡◌, ℕ, Bool, true, false, List, [], ◌∷◌, ◌++◌, Option, Some, None, Result, Ok, Err, drop}
use Rattle.hex.specs.declared.error.FromHexError.{FromHexError}
use Rattle.jdwp_wire.specs.Streams.{Message, Handshake, Packet}
use Rattle.jdwp_show.specs.Found.{Found, Sent, found_after}
use Rattle.jdwp_show.specs.Lines.{Line}
use Rattle.jdwp_show.specs.Lines as lines
use Rattle.jdwp_show.specs.declared.capture_line.Sender.TheVariants as end
use Rattle.jdwp_draw.specs.declared.message_list.Message as declared
use Rattle.jdwp_draw.specs.declared.message_list.Message.TheVariants as one
use Rattle.jdwp_draw.specs.declared.sender.Sender.{Sender}
use Rattle.jdwp_draw.specs.declared.sent.Sent as kept
use Rattle.jdwp_draw.specs.declared.streams.Stream.{Stream}
use Rattle.jdwp_draw.specs.declared.streams.Streams.{Streams}
use Rattle.jdwp_draw.specs.Messages.{ShownMeaning, paired, with_next}

-- ---- lines

-- bytes that digits say, at least one, were appended
abbrev pub IsDecoded : List ℕ → Result (List ℕ) FromHexError → Bool → List ℕ → Type 0
IsDecoded old (Err e) reads new = (reads ≡ false) × (new ≡ old)
IsDecoded old (Ok []) reads new = (reads ≡ false) × (new ≡ old)
IsDecoded old (Ok (byte ∷ bytes)) reads new = (reads ≡ true) × (new ≡ old ++ byte ∷ bytes)

-- what a line says was appended to what its end sent
abbrev pub HasRead : kept.Sent → Option Line → Bool → kept.Sent → Type 0
HasRead old None reads new = (reads ≡ false) × (new.debugger.items ≡ old.debugger.items) × (new.target.items ≡ old.target.items)
HasRead old (Some line) reads new =
    (reads ≡ true) × (new.debugger.items ≡ old.debugger.items ++ lines.sent_by end.Debugger (line ∷ [])) × (new.target.items ≡ old.target.items ++ lines.sent_by end.Target (line ∷ []))

-- ---- messages

abbrev pub message_in : declared.Message → Message
message_in one.Handshake = Handshake
message_in (one.Packet packet) = Packet packet.header packet.body.items

-- what is found in what is left of what an end sent
abbrev pub left : Stream → List Found
left stream = found_after stream.handshaken (drop stream.taken stream.bytes.items)

-- the next message was taken, or there is none
abbrev pub IsNext : Stream → Option declared.Message → Stream → Type 0
IsNext old (Some message) new = left old ≡ Sent (message_in message) ∷ left new
IsNext old None new = (sender : Sender) (line : List ℕ) (follows : List Found → List ShownMeaning) → with_next sender line (left old) follows ≡ []

-- the next message was taken with its line, or the end of that line has none
abbrev pub IsShown : Streams → List ℕ → Option ShownMeaning → Streams → Type 0
IsShown old line (Some message) new = (lines : List (List ℕ)) → paired (line ∷ lines) (left old.debugger) (left old.target) ≡ message ∷ paired lines (left new.debugger) (left new.target)
IsShown old line None new = (lines : List (List ℕ)) → paired (line ∷ lines) (left old.debugger) (left old.target) ≡ []
