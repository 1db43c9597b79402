-- What writers answer, and what they leave of the vector that they append to.
use Rattle.std.specs.Prelude.{◌≡◌, ℕ, ◌+◌, ◌≤◌, List, length, take, Option, Result, OnOk, IfErr, vec_len, vec_capacity}
use Rattle.std.specs.Global.{Vec}
use Rattle.jdwp_wire.specs.declared.data_fault.DataFault.{DataFault}
use Rattle.jdwp_wire.specs.Reading.{Encoding, Written, Refused}

-- the value was appended as it is written, and that encodes it
abbrev pub Appends : {X Y : Type 0} → Encoding X → (X → List ℕ) → X → Result Y DataFault → Vec ℕ → Vec ℕ → Type 0
Appends encodes canonical x result old new = OnOk result (Written (encodes x) (canonical x) old.items new.items)

-- refused for this reason or for want of memory, the bytes are as they were
abbrev pub Leaves : {Y : Type 0} → Option DataFault → Result Y DataFault → Vec ℕ → Vec ℕ → Type 0
Leaves refusal result old new = IfErr result (λ e. (new.items ≡ old.items) × Refused e refusal)

-- refused on the way, the bytes begin with those that were
abbrev pub LeavesInFront : {Y : Type 0} → Option DataFault → Result Y DataFault → Vec ℕ → Vec ℕ → Type 0
LeavesInFront refusal result old new = IfErr result (λ e. (take (length old.items) new.items ≡ old.items) × Refused e refusal)

-- the spare room holds these bytes
abbrev pub HasRoom : List ℕ → Vec ℕ → Type 0
HasRoom code output = vec_len output + length code ≤ vec_capacity output
