-- The numbers of the faults of a debugger's turns.
use Rattle.std.specs.Prelude.{ℕ}
use Rattle.jdwp_debugger.specs.declared.faults.DebuggerFault.{DebuggerFault}
use Rattle.jdwp_debugger.specs.declared.faults.DebuggerFault.TheVariants.{Frame, UnknownReply, BadReply, TooManyParked, BadEvent, NoMemory}
use Rattle.jdwp_mirror.specs.Faults

abbrev pub fault_number : DebuggerFault → ℕ
fault_number (Frame fault) = 41
fault_number UnknownReply = 42
fault_number BadReply = 43
fault_number TooManyParked = 44
fault_number BadEvent = 45
fault_number NoMemory = 46

-- the fault of a packet's bytes: a handshake in place of a packet, or a packet in its place, is no beginning of a message
abbrev pub packet_fault_number : Faults.Fault → ℕ
packet_fault_number Faults.BadHandshake = 41
packet_fault_number Faults.UnknownReply = 42
packet_fault_number Faults.BadReply = 43
packet_fault_number Faults.TooManyParked = 44
packet_fault_number Faults.BadEvent = 45
