-- The names of commands: `SET.COMMAND`, in the words of the table.
use Rattle.std.specs.Prelude.{◌≡◌, ℕ, ◌&&◌, ◌<◌, Bool, false, List, Option, Some, None}
use Rattle.std.specs.Str.{bytes_eq}
use Rattle.jdwp_layout.specs.CommandTable.{row_at}
use Rattle.jdwp_layout.specs.Rows.{Row}
use Rattle.jdwp_plan.specs.Cuts.{behind, front}

-- it is the row of the command of this name in the set of that name
abbrev pub is_command : List ℕ → List ℕ → Option Row → Bool
is_command set_name name None = false
is_command set_name name (Some row) = bytes_eq row.set_name set_name && bytes_eq row.name name

-- none of a set whose number is below this one is
abbrev pub HasNoneBelow : ℕ → List ℕ → List ℕ → ℕ → Type 0
HasNoneBelow set set_name name limit = (number : ℕ) → number < limit → is_command set_name name (row_at set number) ≡ false

-- none is, where the name is cut so
abbrev pub IsOfNone : List ℕ → Option (List ℕ) → Type 0
IsOfNone set_name None = Unit {0}
IsOfNone set_name (Some name) = (set number : ℕ) → is_command set_name name (row_at set number) ≡ false

-- No command has this name: it has no dot, or no set and command go by what stands before and behind its first.
abbrev pub HasNo : List ℕ → Type 0
HasNo name = IsOfNone (front 46 name) (behind 46 name)
