-- What a debuggee is made with, and never changes.
use Rattle.jdwp_wire.specs.Numbers.{greatest_int}
use Rattle.std.specs.Prelude.{ℕ, ◌≤◌, Bool}
use Rattle.jdwp_wire.specs.Limits.{Limits}
use Rattle.jdwp_machine.specs.declared.profile.Profile.{Profile}

-- Whether all threads begin suspended, the greatest suspend count that a Suspend gives, how much a session may hold, and the profile.
pub record Settings : Type 0 where
  pub start_all : Bool
  pub count_limit : ℕ
  pub limits : Limits
  pub profile : Profile

-- a suspend count is a signed int on the wire
abbrev pub IsCountLimit : ℕ → Type 0
IsCountLimit n = (1 ≤ n) × (n ≤ greatest_int)
