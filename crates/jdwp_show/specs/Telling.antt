-- Text that grows until an allocation is refused, and data told in it as they are read.
use Rattle.std.specs.Prelude.{◌≡◌, ℕ, List, ◌++◌, false, Result, Ok}
use Rattle.std.specs.String.{string_bytes}
use Rattle.jdwp_wire.specs.declared.data_fault.DataFault.{DataFault}
use Rattle.jdwp_show.specs.declared.text.Text.{Text}

-- this was appended, unless an allocation was refused
pub record Grows (old : Text) (more : List ℕ) (new : Text) : Type 0 where
  pub whole : new.refused ≡ false → old.refused ≡ false
  pub bytes : new.refused ≡ false → string_bytes new.string ≡ string_bytes old.string ++ more

-- a thing was read, this follows it in the data, and what it says was appended
pub record IsTold {X : Type 0} (say : X → List ℕ) (old new : Text) (read : Result (X × List ℕ) DataFault) (after : List ℕ) : Type 0 where
  pub thing : X
  pub is : read ≡ Ok (thing, after)
  pub grows : Grows old (say thing) new
