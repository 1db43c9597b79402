-- What stands in the bytes of one end: its messages, and a frame fault where what follows them shows one.
use Rattle.std.specs.Prelude.{◌≡◌, ℕ, zero, suc, ◌+◌, List, [], ◌∷◌, ◌++◌, length, drop, map, Bool, true, false}
use Rattle.jdwp_wire.specs.declared.frame.FrameFault.{FrameFault}
use Rattle.jdwp_wire.specs.Limits.{standard_limits}
use Rattle.jdwp_wire.specs.Streams.{Message, Handshake, Packet, stream, IsConversation, NextMessage, Whole, More, Fault, next_message}

-- a message of the end, or a frame fault
pub data Found : Type 0 where
  Sent : Message → Found
  Faulty : FrameFault → Found

-- how many bytes it has
abbrev pub found_length : Found → ℕ
found_length (Sent Handshake) = 14
found_length (Sent (Packet header body)) = 11 + length body
found_length (Faulty fault) = 0

-- what stands in front, and then what `rest` finds in the bytes behind it; nothing follows a fault
abbrev pub found_at : NextMessage → List ℕ → (List ℕ → List Found) → List Found
found_at (Whole message used) bytes rest = Sent message ∷ rest (drop used bytes)
found_at More bytes rest = []
found_at (Fault fault) bytes rest = Faulty fault ∷ []

-- the first so many; before the handshake was found it is looked for, and packets after it
unfoldable pub found_within : ℕ → Bool → List ℕ → List Found
found_within zero handshaken bytes = []
found_within (suc n) handshaken bytes = found_at (next_message standard_limits.packet handshaken bytes) bytes (found_within n true)

-- all of them: no message is empty, so there are no more than bytes
unfoldable pub found_after : Bool → List ℕ → List Found
found_after handshaken bytes = found_within (length bytes) handshaken bytes

-- what stands in all that an end sent
abbrev pub found : List ℕ → List Found
found bytes = found_after false bytes

-- ---- the same as a relation

-- after any message, since the first is the handshake
abbrev pub is_handshaken : List Message → Bool
is_handshaken [] = false
is_handshaken (message ∷ messages) = true

-- what bytes show in which no whole message stands in front: nothing, or a frame fault
abbrev pub IsShown : NextMessage → List Found → Type 0
IsShown (Whole message used) last = ⊥
IsShown More last = last ≡ []
IsShown (Fault fault) last = last ≡ Faulty fault ∷ []

-- These are the messages that the bytes begin with, as many as are whole, and the frame fault that what follows them shows, if it does.
pub record AreIn (bytes : List ℕ) (things : List Found) : Type 0 where
  pub messages : List Message
  pub rest : List ℕ
  pub last : List Found
  pub bytes_are : bytes ≡ stream messages ++ rest
  pub in_order : IsConversation standard_limits.packet messages
  pub last_shown : IsShown (next_message standard_limits.packet (is_handshaken messages) rest) last
  pub things_are : things ≡ map Sent messages ++ last
