-- Where a line begins, and in which line a code index is (JDWP specification, "Method": LineTable).
use Rattle.std.specs.Prelude.{◌≡◌, ℕ, ◌≤◌, ℤ, pos, ◌≤ℤ◌, ◌<ℤ◌, List, [], ◌∷◌, ◌++◌, Option, Some, None, ◌⊎◌}
use Rattle.std.specs.List.{AllByRecursion}
use Rattle.jdwp_answer.specs.declared.method.LineEntry.{LineEntry}
use Rattle.jdwp_answer.specs.declared.method.LineTable.{LineTable}

-- ---- where a line begins

-- an entry says that the line begins at this code index
abbrev pub HasLineAt : ℤ → List LineEntry → ℕ → Type 0
HasLineAt line [] index = ⊥
HasLineAt line (e ∷ es) index = ((e.line ≡ line) × (e.code_index ≡ pos index)) ⊎ HasLineAt line es index

-- the least of these numbers; none where there are none
abbrev pub IsLeast : (ℕ → Type 0) → Option ℕ → Type 0
IsLeast P None = (n : ℕ) → P n → ⊥
IsLeast P (Some least) = P least × ((n : ℕ) → P n → least ≤ n)

-- The least code index at which an entry says that the line begins.
abbrev pub BeginsAt : ℤ → List LineEntry → Option ℕ → Type 0
BeginsAt line entries index = IsLeast (HasLineAt line entries) index

-- ---- in which line a code index is

-- a code index of the method
abbrev pub IsCodeIndex : LineTable → ℕ → Type 0
IsCodeIndex t index = (t.start ≤ℤ pos index) × (pos index ≤ℤ t.end)

-- of the entries that begin at or below the code index, none begins above this one
abbrev pub NoneAbove : ℕ → LineEntry → List LineEntry → Type 0
NoneAbove index e entries = AllByRecursion (λ (o : LineEntry). o.code_index ≤ℤ pos index → o.code_index ≤ℤ e.code_index) entries

-- and each begins below it
abbrev pub EachBelow : ℕ → LineEntry → List LineEntry → Type 0
EachBelow index e entries = AllByRecursion (λ (o : LineEntry). o.code_index ≤ℤ pos index → o.code_index <ℤ e.code_index) entries

-- Of the entries that begin at or below the code index, the last of those that begin highest; none where each begins above it. In a table that
-- is ordered, as the specification has it, this is the last that begins at or below it.
abbrev pub IsEntryAt : ℕ → List LineEntry → Option LineEntry → Type 0
IsEntryAt index entries None = AllByRecursion (λ (e : LineEntry). e.code_index ≤ℤ pos index → ⊥) entries
IsEntryAt index entries (Some e) =
    (front : List LineEntry) × (back : List LineEntry)
    × (entries ≡ front ++ e ∷ back) × (e.code_index ≤ℤ pos index) × NoneAbove index e front × EachBelow index e back

-- The line of the entry at a code index of the method; none where it is no code index of the method, or each entry begins above it.
abbrev pub IsLineAt : LineTable → ℕ → Option ℤ → Type 0
IsLineAt t index None = IsCodeIndex t index → IsEntryAt index t.lines.items None
IsLineAt t index (Some line) = IsCodeIndex t index × ((e : LineEntry) × (e.line ≡ line) × IsEntryAt index t.lines.items (Some e))

-- ---- on the way

-- this code index is the least so far, or an entry that is left says that the line begins there
abbrev pub IsLeft : ℤ → Option ℕ → List LineEntry → ℕ → Type 0
IsLeft line least entries index = (least ≡ Some index) ⊎ HasLineAt line entries index

-- what comes of the entry so far and of those that are left
abbrev pub Nearest : ℕ → Option LineEntry → List LineEntry → Option LineEntry → Type 0
Nearest index None entries r = IsEntryAt index entries r
Nearest index (Some b) entries None = ⊥
Nearest index (Some b) entries (Some e) = ((e ≡ b) × EachBelow index b entries) ⊎ (IsEntryAt index entries (Some e) × (b.code_index ≤ℤ e.code_index))
