-- Packets and what stands at the front of a byte stream (JDWP specification, "Packets").
-- Command packet: length (4), id (4), flags (1), command set (1), command (1), data. Reply packet: length, id, flags, error code (2), data.
use Rattle.std.specs.Prelude.{◌≡◌, ◌≢◌, ℕ, ◌+◌, ◌-◌, ◌^◌, ◌≤◌, ◌<◌, ◌⊎◌, List, [], ◌∷◌, ◌++◌, length, take, drop, slice_index, nat_lt, ◌==◌, ◌||◌, if◌then◌else◌}
use Rattle.byteorder.specs.Endian.{big_number, big_bytes}
use Rattle.jdwp_wire.specs.declared.frame.FrameFault.{FrameFault}
use Rattle.jdwp_wire.specs.declared.frame.FrameFault.TheVariants.{ShortLength, TooLong, BadFlags, BadHandshake}
use Rattle.jdwp_wire.specs.declared.frame.Next.{Next}
use Rattle.jdwp_wire.specs.declared.frame.Next.TheVariants as next
use Rattle.jdwp_wire.specs.declared.packet.Header.{Header}
use Rattle.jdwp_wire.specs.declared.packet.PacketKind.{PacketKind}
use Rattle.jdwp_wire.specs.declared.packet.PacketKind.TheVariants.{Command, Reply}

-- ---- packets as bytes

-- the flags, and the two bytes behind them
abbrev pub kind_bytes : PacketKind → List ℕ
kind_bytes (Command set number) = 0x00 ∷ set ∷ number ∷ []
kind_bytes (Reply error) = 0x80 ∷ big_bytes 2 error.0

-- the 11 bytes before the data
abbrev pub header_bytes : Header → List ℕ
header_bytes header = big_bytes 4 header.length ++ (big_bytes 4 header.id ++ kind_bytes header.kind)

-- a packet of this header and data
abbrev pub packet_bytes : Header → List ℕ → List ℕ
packet_bytes header body = header_bytes header ++ body

-- the numbers of a kind fit their bytes
abbrev pub KindFits : PacketKind → Type 0
KindFits (Command set number) = (set < 256) × (number < 256)
KindFits (Reply error) = error.0 < 2 ^ 16

-- a header that stands before this data, in a packet of at most `limit` bytes
pub record IsPacket (limit : ℕ) (header : Header) (body : List ℕ) : Type 0 where
  pub length_counts_all : header.length ≡ 11 + length body
  pub within_limit : header.length ≤ limit
  pub id_fits : header.id < 2 ^ 32
  pub kind_fits : KindFits header.kind

-- ---- the front of a stream

-- what is found at the front: a packet and how many bytes it takes, a beginning of one, or a fault
pub data Front : Type 0 where
  Whole : Header → List ℕ → ℕ → Front
  More : Front
  Fault : FrameFault → Front

-- an answer of the code, without the place in memory
abbrev pub front_meaning : Next → Front
front_meaning (next.Whole packet used) = Whole packet.header packet.body.now used
front_meaning next.More = More
front_meaning (next.Fault fault) = Fault fault

-- the length field, which is there once 4 bytes are
abbrev pub length_field : List ℕ → ℕ
length_field bytes = big_number 4 bytes

-- the flags, which are there once 9 bytes are
abbrev pub flags_field : List ℕ → ℕ
flags_field bytes = slice_index bytes 8

abbrev pub IsLength : ℕ → ℕ → Type 0
IsLength limit n = (11 ≤ n) × (n ≤ limit)

abbrev pub IsFlags : ℕ → Type 0
IsFlags flags = (flags ≡ 0x00) ⊎ (flags ≡ 0x80)

-- What stands at the front of these bytes. A packet stands there whatever follows it. A fault stands there once its bytes do.
-- More are called for where what is there shows no fault and is less than the length says.
abbrev pub FrontOf : ℕ → List ℕ → Front → Type 0
FrontOf limit bytes (Whole header body used) =
    IsPacket limit header body × (used ≡ header.length) × ((rest : List ℕ) × (bytes ≡ packet_bytes header body ++ rest))
FrontOf limit bytes (Fault ShortLength) = (4 ≤ length bytes) × (length_field bytes < 11)
FrontOf limit bytes (Fault TooLong) = (4 ≤ length bytes) × (11 ≤ length_field bytes) × (limit < length_field bytes)
FrontOf limit bytes (Fault BadFlags) = (9 ≤ length bytes) × IsLength limit (length_field bytes) × (flags_field bytes ≢ 0x00) × (flags_field bytes ≢ 0x80)
FrontOf limit bytes (Fault (BadHandshake place)) = ⊥
FrontOf limit bytes More =
    (4 ≤ length bytes → IsLength limit (length_field bytes) × (length bytes < length_field bytes)) × (9 ≤ length bytes → IsFlags (flags_field bytes))

-- ---- the same as a function

abbrev pub kind_of : List ℕ → PacketKind
kind_of bytes = if flags_field bytes == 0x00
    then Command (slice_index bytes 9) (slice_index bytes 10)
    else Reply (record { 0 = big_number 2 (drop 9 bytes) })

abbrev pub header_of : ℕ → List ℕ → Header
header_of n bytes = record { length = n; id = big_number 4 (drop 4 bytes); kind = kind_of bytes }

abbrev pub whole_or_more : ℕ → List ℕ → Front
whole_or_more n bytes = if nat_lt (length bytes) n then More else Whole (header_of n bytes) (take (n - 11) (drop 11 bytes)) n

abbrev pub flagged : ℕ → List ℕ → Front
flagged n bytes = if nat_lt (length bytes) 9 then More else
    (if (flags_field bytes == 0x00) || (flags_field bytes == 0x80) then whole_or_more n bytes else Fault BadFlags)

abbrev pub measured : ℕ → ℕ → List ℕ → Front
measured limit n bytes = if nat_lt n 11 then Fault ShortLength else (if nat_lt limit n then Fault TooLong else flagged n bytes)

abbrev pub front : ℕ → List ℕ → Front
front limit bytes = if nat_lt (length bytes) 4 then More else measured limit (length_field bytes) bytes
