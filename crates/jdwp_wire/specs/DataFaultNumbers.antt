-- The numbers of data faults, as programs print them.
use Rattle.std.specs.Prelude.{ℕ}
use Rattle.jdwp_wire.specs.declared.data_fault.DataFault.{DataFault}
use Rattle.jdwp_wire.specs.declared.data_fault.DataFault.TheVariants.{Short, Extra, BadTag, NegativeCount, NotUtf8, BadSize, IdTooWide, NoMemory}

abbrev pub data_fault_number : DataFault → ℕ
data_fault_number (Short place) = 11
data_fault_number (Extra place) = 12
data_fault_number BadTag = 13
data_fault_number NegativeCount = 14
data_fault_number NotUtf8 = 15
data_fault_number BadSize = 16
data_fault_number IdTooWide = 17
data_fault_number NoMemory = 18
