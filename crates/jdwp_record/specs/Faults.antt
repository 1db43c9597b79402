-- Why nothing more is recorded.
use Rattle.jdwp_port.specs.declared.faults.PortFault.{PortFault}
use Rattle.jdwp_port.specs.declared.faults.PortFault.TheVariants as port
use Rattle.std.specs.Prelude.{◌≡◌, String}
use Rattle.std.specs.Global.{Global}
use Rattle.jdwp_relay.specs.declared.relay.RelayFault.{RelayFault}
use Rattle.jdwp_relay.specs.declared.relay.RelayFault.TheVariants.{Capture, Waiting}
use Rattle.jdwp_record.specs.declared.faults.RecordFault.{RecordFault}
use Rattle.jdwp_record.specs.declared.faults.RecordFault.TheVariants as fault

-- the same of a port that can't be used
abbrev pub fault_of_port : PortFault → RecordFault
fault_of_port (port.Port number cause) = fault.Port number cause
fault_of_port port.NoMemory = fault.NoMemory

-- the same of a session that is recorded in the file of this name and was broken off
abbrev pub broken_off : String Global → RelayFault → RecordFault
broken_off file (Capture error) = fault.Unwritten file error
broken_off file (Waiting error) = fault.Waiting error

-- of a session whose file has some name
abbrev pub IsBrokenOff : RelayFault → RecordFault → Type 0
IsBrokenOff why result = (file : String Global) × (result ≡ broken_off file why)
