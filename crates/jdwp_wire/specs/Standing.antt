-- What stands at the front of a byte stream, told without the packet's data.
use Rattle.std.specs.Prelude.{◌≡◌, ℕ, List}
use Rattle.jdwp_wire.specs.declared.ring.Standing.{Standing}
use Rattle.jdwp_wire.specs.declared.ring.Standing.TheVariants as standing
use Rattle.jdwp_wire.specs.Frames.{Front, Whole, More, Fault}

-- a packet with this header that takes so many bytes, a beginning of one, or a fault
abbrev pub TellsStanding : Standing → Front → Type 0
TellsStanding (standing.Whole header used) front = (body : List ℕ) × (front ≡ Whole header body used)
TellsStanding standing.More front = front ≡ More
TellsStanding (standing.Fault fault) front = front ≡ Fault fault
