-- The names of the files that sessions are recorded in.
use Rattle.std.specs.Prelude.{ℕ, ◌==◌, List, ◌++◌, if◌then◌else◌, codes, decimal}

-- the name itself for the first session, and its number behind a dot behind it for each other
abbrev pub name_of : List ℕ → ℕ → List ℕ
name_of to number = if number == 1 then to else to ++ codes "." ++ decimal number
