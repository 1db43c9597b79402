-- Where the bytes of a text stand: strings begin and end with double quotes, and a backslash in one takes the next byte with it.
use Rattle.std.specs.Prelude.{ℕ, ◌==◌, Bool, false, if◌then◌else◌}
use Rattle.jdwp_plan.specs.declared.quoting.Place.{Place}
use Rattle.jdwp_plan.specs.declared.quoting.Place.TheVariants.{Outside, Inside, Escaped}

-- where the byte behind this one stands
abbrev pub place_behind : Place → ℕ → Place
place_behind Outside b = if b == 34 then Inside else Outside
place_behind Inside b = if b == 34 then Outside else (if b == 92 then Escaped else Inside)
place_behind Escaped b = Inside

-- it is this byte, in no string
abbrev pub stands : Place → ℕ → ℕ → Bool
stands Outside looked_for b = b == looked_for
stands Inside looked_for b = false
stands Escaped looked_for b = false
