-- The program's version.
use Rattle.std.specs.Prelude.{ℕ, List, codes}

-- what is printed of it
abbrev pub version_line : List ℕ
version_line = codes "jdwp 0.1.0\n"
