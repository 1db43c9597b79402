-- Judging data with nothing kept of them.
use Rattle.std.specs.Prelude.{◌≡◌, Result, Ok, Err}
use Rattle.jdwp_wire.specs.declared.data_fault.DataFault.{DataFault}

-- the verdict is whether there is something to read, and else the fault
abbrev pub Judges : {U X : Type 0} → Result U DataFault → Result X DataFault → Type 0
Judges {X = X} (Ok u) decoded = (x : X) × (decoded ≡ Ok x)
Judges (Err e) decoded = decoded ≡ Err e
