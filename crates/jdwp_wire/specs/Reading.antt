-- Reading from left to right: what a reader gives, and what bytes encode.
use Rattle.std.specs.Prelude.{◌≡◌, ℕ, ◌-◌, ◌^◌, List, ◌++◌, length, nat_lt, if◌then◌else◌, Option, Some, None, Result, Ok, Err}
use Rattle.jdwp_wire.specs.declared.data_fault.DataFault.{DataFault}
use Rattle.jdwp_wire.specs.declared.data_fault.DataFault.TheVariants.{NoMemory}

-- ---- the words

-- what reads a value at the front: the value and the rest, or the first fault
abbrev pub Reader : Type 0 → Type 0
Reader X = List ℕ → Result (X × List ℕ) DataFault

-- which bytes encode which values
abbrev pub Encoding : Type 0 → Type 1
Encoding X = X → List ℕ → Type 0

-- which bytes begin with which fault
abbrev pub Faults : Type 1
Faults = List ℕ → DataFault → Type 0

infixl 10 ◌>>=◌
abbrev pub ◌>>=◌ : {A B : Type 0} → Result A DataFault → (A → Result B DataFault) → Result B DataFault
(Ok x) >>= f = f x
(Err e) >>= f = Err e

-- ---- what calls answer

-- What a call of the code says of the fault that a reader gives: want of memory says nothing.
abbrev pub Fails : {Y : Type 0} → DataFault → Result Y DataFault → Type 0
Fails NoMemory decoded = Unit {0}
Fails e decoded = decoded ≡ Err e

-- What a call answered is what the reader gives, unless memory ran out.
abbrev pub Gives : {X Y : Type 0} → (X → Y) → Result X DataFault → Result Y DataFault → Type 0
Gives meaning (Ok x) decoded = decoded ≡ Ok (meaning x)
Gives meaning (Err e) decoded = Fails e decoded

-- A call that is to take this value of so many bytes takes it, unless memory ran out.
abbrev pub Takes : {X Y : Type 0} → (X → Y) → Result (X × ℕ) DataFault → Y → ℕ → Type 0
Takes meaning (Ok x) y n = (meaning x.0 ≡ y) × (x.1 ≡ n)
Takes meaning (Err NoMemory) y n = Unit {0}
Takes meaning (Err e) y n = ⊥

-- The fault that a call answered stands first in the bytes, unless memory ran out.
abbrev pub Blames : Faults → List ℕ → DataFault → Type 0
Blames faults bytes NoMemory = Unit {0}
Blames faults bytes e = faults bytes e

-- how many of n bytes were read, in place of what is left
abbrev pub used : {X : Type 0} → ℕ → Result (X × List ℕ) DataFault → Result (X × ℕ) DataFault
used n decoded = decoded >>= λ x. Ok (x.0, n - length x.1)

-- what follows the value that was read
abbrev pub passed : {X : Type 0} → Result (X × List ℕ) DataFault → Result (List ℕ) DataFault
passed decoded = decoded >>= λ x. Ok x.1

-- a value is encoded in front of these bytes
abbrev pub BeginsWith : {X : Type 0} → Encoding X → List ℕ → Type 0
BeginsWith {X = X} encodes bytes = (x : X) × (front : List ℕ) × (rest : List ℕ) × encodes x front × (bytes ≡ front ++ rest)

-- a number of bytes, where a usize holds it
abbrev pub in_usize : ℕ → Option ℕ
in_usize n = if nat_lt n (2 ^ 64) then Some n else None

-- these bytes were appended, and they encode what they should
abbrev pub Written : (List ℕ → Type 0) → List ℕ → List ℕ → List ℕ → Type 0
Written encodes code old new = encodes code × (new ≡ old ++ code)

-- the call was refused for this reason, or for want of memory
abbrev pub Refused : DataFault → Option DataFault → Type 0
Refused NoMemory refusal = Unit {0}
Refused e refusal = refusal ≡ Some e

-- the first of two refusals
abbrev pub first_of_two : Option DataFault → Option DataFault → Option DataFault
first_of_two None second = second
first_of_two (Some e) second = Some e
