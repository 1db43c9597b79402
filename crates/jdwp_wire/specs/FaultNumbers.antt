-- The numbers by which programs name faults.
use Rattle.std.specs.Prelude.{ℕ}
use Rattle.jdwp_wire.specs.declared.frame.FrameFault.{FrameFault}
use Rattle.jdwp_wire.specs.declared.frame.FrameFault.TheVariants.{ShortLength, TooLong, BadFlags, BadHandshake}

abbrev pub fault_number : FrameFault → ℕ
fault_number ShortLength = 1
fault_number TooLong = 2
fault_number BadFlags = 3
fault_number (BadHandshake place) = 4
