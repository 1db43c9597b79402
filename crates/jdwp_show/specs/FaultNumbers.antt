-- The numbers by which programs name the faults of captures.
use Rattle.std.specs.Prelude.{ℕ}
use Rattle.jdwp_wire.specs.FaultNumbers.{fault_number}
use Rattle.jdwp_wire.specs.DataFaultNumbers.{data_fault_number}
use Rattle.jdwp_show.specs.declared.capture_fault.CaptureFault.{CaptureFault}
use Rattle.jdwp_show.specs.declared.capture_fault.CaptureFault.TheVariants.{BadLine, Frame, IdInUse, UnknownReply, BadData, ErrorWithData, WrongWay}

abbrev pub capture_fault_number : CaptureFault → ℕ
capture_fault_number BadLine = 51
capture_fault_number (Frame fault) = 52
capture_fault_number IdInUse = 53
capture_fault_number UnknownReply = 54
capture_fault_number (BadData fault) = 55
capture_fault_number ErrorWithData = 55
capture_fault_number WrongWay = 56

-- a fault that wraps another one is printed by the number of that one
abbrev pub number_to_print : CaptureFault → ℕ
number_to_print (Frame fault) = fault_number fault
number_to_print (BadData fault) = data_fault_number fault
number_to_print BadLine = 51
number_to_print IdInUse = 53
number_to_print UnknownReply = 54
number_to_print ErrorWithData = 55
number_to_print WrongWay = 56
