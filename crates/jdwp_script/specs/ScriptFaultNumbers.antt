-- The numbers by which programs name a script's faults.
use Rattle.std.specs.Prelude.{ℕ}
use Rattle.jdwp_script.specs.declared.fault.ScriptFault.{ScriptFault}
use Rattle.jdwp_script.specs.declared.fault.ScriptFault.TheVariants.{NotJson, Missing, IdTwice, IdTooWide, BadReference, OverLimit, NoMemory}

abbrev pub script_fault_number : ScriptFault → ℕ
script_fault_number NotJson = 21
script_fault_number (Missing m) = 22
script_fault_number IdTwice = 23
script_fault_number IdTooWide = 24
script_fault_number BadReference = 25
script_fault_number OverLimit = 26
script_fault_number NoMemory = 27
