-- The packets that stand one behind the other in bytes, by the places where they begin.
use Rattle.std.specs.Prelude.{◌≡◌, ℕ, ◌+◌, ◌==◌, List, [], ◌∷◌, drop, Option, Some, None, if◌then◌else◌}
use Rattle.jdwp_wire.specs.FaultNumbers.{fault_number}
use Rattle.jdwp_wire.specs.Frames.{Front, Whole, More, Fault, front}
use Rattle.jdwp_wire.specs.Limits.{standard_limits}
use Rattle.milunovesk_c.specs.Numbers.{NOTHING_LEFT, BEGINNING_LEFT, PACKET_LEFT, FAULT_LEFT}

-- ---- packets

-- what stands at this place of the bytes, as `mv_next_packet` has it
abbrev pub front_at : List ℕ → ℕ → Front
front_at bytes place = front standard_limits.packet (drop place bytes)

-- how many bytes the packet in front takes, if one stands there
abbrev pub length_of : Front → Option ℕ
length_of (Whole header body used) = Some used
length_of More = None
length_of (Fault fault) = None

-- At each of these places a packet stands, the first at `place`, each other where the one before it ends; and the last ends at `behind`.
abbrev pub StandFrom : List ℕ → ℕ → List ℕ → ℕ → Type 0
StandFrom bytes place [] behind = behind ≡ place
StandFrom bytes place (at ∷ places) behind =
    (at ≡ place) × ((n : ℕ) × (length_of (front_at bytes place) ≡ Some n) × StandFrom bytes (place + n) places behind)

-- ---- what is left behind them

-- by what stands in front of so many bytes
abbrev pub left_of : ℕ → Front → ℕ
left_of behind (Whole header body used) = PACKET_LEFT
left_of behind More = if behind == 0 then NOTHING_LEFT else BEGINNING_LEFT
left_of behind (Fault fault) = FAULT_LEFT

-- why it is the beginning of no packet, else 0
abbrev pub fault_of : Front → ℕ
fault_of (Fault fault) = fault_number fault
fault_of front = 0
