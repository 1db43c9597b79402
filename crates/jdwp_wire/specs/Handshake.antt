-- The handshake at the front of a byte stream (JDWP specification, "JDWP overview": 14 bytes before any packet).
use Rattle.std.specs.Prelude.{◌≡◌, ◌≢◌, ℕ, suc, ◌<◌, List, [], ◌∷◌, ◌++◌, length, take, slice_index, ◌==◌, if◌then◌else◌, codes}
use Rattle.jdwp_wire.specs.declared.frame.FrameFault.TheVariants.{BadHandshake}
use Rattle.jdwp_wire.specs.declared.frame.NextHello.{NextHello}
use Rattle.jdwp_wire.specs.declared.frame.NextHello.TheVariants.{Whole, More, Fault}

-- the 14 bytes that each end sends first
abbrev pub handshake_bytes : List ℕ
handshake_bytes = codes "JDWP-Handshake"

-- What stands at the front of these bytes: the handshake, whatever follows; a beginning of it that is not all of it;
-- or a fault, at the first place where a byte is not the handshake's.
abbrev pub HandshakeFrontOf : List ℕ → NextHello → Type 0
HandshakeFrontOf bytes Whole = (rest : List ℕ) × (bytes ≡ handshake_bytes ++ rest)
HandshakeFrontOf bytes More = (rest : List ℕ) × (0 < length rest) × (handshake_bytes ≡ bytes ++ rest)
HandshakeFrontOf bytes (Fault (BadHandshake place)) =
    (place < length bytes) × (place < length handshake_bytes) × (take place bytes ≡ take place handshake_bytes) × (slice_index bytes place ≢ slice_index handshake_bytes place)
HandshakeFrontOf bytes (Fault f) = ⊥

-- the same as a function: the bytes compared with those expected, from a place on
abbrev pub handshake_from : ℕ → List ℕ → List ℕ → NextHello
handshake_from place [] bytes = Whole
handshake_from place (x ∷ xs) [] = More
handshake_from place (x ∷ xs) (b ∷ bytes) = if b == x then handshake_from (suc place) xs bytes else Fault (BadHandshake place)

abbrev pub handshake_front : List ℕ → NextHello
handshake_front bytes = handshake_from 0 handshake_bytes bytes
