-- What a way between two ends carried.
use Rattle.std.specs.Prelude.{ℕ, List, [], ◌++◌}
use Rattle.jdwp_link.specs.declared.way.Side.{Side}
use Rattle.jdwp_link.specs.declared.way.Side.TheVariants as side

-- the bytes that left each end and came to the other, in order
pub record Carried : Type 0 where
  pub from_target : List ℕ
  pub from_debugger : List ℕ

abbrev pub nothing_carried : Carried
nothing_carried = record { from_target = []; from_debugger = [] }

-- these bytes more, from this end
abbrev pub with_carried : Side → List ℕ → Carried → Carried
with_carried side.Target bytes c = record c { from_target = c.from_target ++ bytes }
with_carried side.Debugger bytes c = record c { from_debugger = c.from_debugger ++ bytes }
