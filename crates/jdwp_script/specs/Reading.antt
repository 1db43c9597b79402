-- Reading JSON: what stands in a value, or the member that is missing or of another type.
use Rattle.std.specs.Prelude.{◌≡◌, ℕ, ◌^◌, ◌==◌, ℤ, pos, List, [], ◌∷◌, length, slice_get, nat_lt, if◌then◌else◌, Option, Some, None, option_and_then, is_some, Result, Ok, Err}
use Rattle.serde_json.specs.Data.{Data, Items, no_items, item}
use Rattle.serde_json.specs.Find.{get, as_null, as_array, as_number, as_str, as_u64}
use Rattle.jdwp_script.specs.declared.fault.ScriptFault.{ScriptFault}
use Rattle.jdwp_script.specs.declared.fault.ScriptFault.TheVariants.{Missing, NoMemory}
use Rattle.jdwp_script.specs.declared.member.Member.{Member}
use Rattle.jdwp_script.specs.Members.{member_name}

-- what reads the value that a member has, or that stands in what the member has
abbrev pub Reader : Type 0 → Type 0
Reader X = Member → Data → Result X ScriptFault

infixl 10 ◌>>=◌
abbrev pub ◌>>=◌ : {A B : Type 0} → Result A ScriptFault → (A → Result B ScriptFault) → Result B ScriptFault
(Ok x) >>= f = f x
(Err e) >>= f = Err e

-- ---- what calls answer

-- What a call says of the fault that is to be found: want of memory says nothing.
abbrev pub Fails : {Y : Type 0} → ScriptFault → Result Y ScriptFault → Type 0
Fails NoMemory read = Unit {0}
Fails e read = read ≡ Err e

-- What a call answered is what is to be read, unless memory ran out.
abbrev pub Gives : {X Y : Type 0} → (X → Y) → Result X ScriptFault → Result Y ScriptFault → Type 0
Gives meaning (Ok x) read = read ≡ Ok (meaning x)
Gives meaning (Err e) read = Fails e read

-- ---- one value

-- what was found, or the member is missing
abbrev pub found : {X : Type 0} → Member → Option X → Result X ScriptFault
found m None = Err (Missing m)
found m (Some x) = Ok x

-- a whole number from 0, below 2^64
abbrev pub whole : Reader ℕ
whole m d = found m (option_and_then as_u64 (as_number d))

-- such a number below 2^31
abbrev pub small : Reader ℕ
small m d = whole m d >>= λ n. if nat_lt n (2 ^ 31) then Ok n else Err (Missing m)

-- the same as a number that has a sign
abbrev pub int : Reader ℤ
int m d = small m d >>= λ n. Ok (pos n)

abbrev pub text : Reader (List ℕ)
text m d = found m (as_str d)

-- `null`, or what the reader reads
abbrev pub or_null : {X : Type 0} → Reader X → Reader (Option X)
or_null read m d = if is_some (as_null d) then Ok None else read m d >>= λ x. Ok (Some x)

-- ---- lists

abbrev pub listed : Items → List Data
listed no_items = []
listed (item d ds) = d ∷ listed ds

-- the entries of a list
abbrev pub entries : Reader (List Data)
entries m d = found m (as_array d) >>= λ ds. Ok (listed ds)

-- each of these, from the first on
abbrev pub each_of : {X : Type 0} → (Data → Result X ScriptFault) → List Data → Result (List X) ScriptFault
each_of read [] = Ok []
each_of read (d ∷ ds) = read d >>= λ x. each_of read ds >>= λ xs. Ok (x ∷ xs)

-- a list, each of whose entries is read
abbrev pub list_of : {X : Type 0} → Reader X → Reader (List X)
list_of read m d = entries m d >>= each_of (read m)

-- a list of this length
abbrev pub tuple : ℕ → Reader (List Data)
tuple n m d = entries m d >>= λ ds. if length ds == n then Ok ds else Err (Missing m)

-- what stands at this place of a list, from 0
abbrev pub entry : {X : Type 0} → Reader X → Member → List Data → ℕ → Result X ScriptFault
entry read m ds place = found m (slice_get ds place) >>= read m

-- the second entry of a list of two
abbrev pub second : {X : Type 0} → Reader X → Reader X
second read m d = tuple 2 m d >>= λ ds. entry read m ds 1

-- ---- members

-- what the member of an object is; nothing but an object has members
abbrev pub member_of : {X : Type 0} → Member → Reader X → Data → Result X ScriptFault
member_of m read d = found m (get (member_name m) d) >>= read m

-- what is read of a value that is there, or else this
abbrev pub there_or : {X : Type 0} → X → (Data → Result X ScriptFault) → Option Data → Result X ScriptFault
there_or otherwise read None = Ok otherwise
there_or otherwise read (Some d) = read d

-- what the member of an object is, or this where there is no such member; a member that is there with another type is missing
abbrev pub member_or : {X : Type 0} → X → Member → Reader X → Data → Result X ScriptFault
member_or otherwise m read d = there_or otherwise (read m) (get (member_name m) d)
