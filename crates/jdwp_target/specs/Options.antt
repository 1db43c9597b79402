-- What a target is made with, and of which machine.
use Rattle.std.specs.Prelude.{ℕ, ◌≤◌, Bool, length}
use Rattle.jdwp_wire.specs.Limits.{Limits}
use Rattle.jdwp_machine.specs.declared.profile.Profile.{Profile}
use Rattle.jdwp_machine.specs.Meanings.{Meaning}
use Rattle.jdwp_debuggee.specs.Settings.{Settings}

-- Whether all threads begin suspended, the greatest suspend count that a Suspend gives, and the profile.
pub record TargetOptions : Type 0 where
  pub start_all : Bool
  pub count_limit : ℕ
  pub profile : Profile

-- the settings that they stand for, within these limits
abbrev pub settings_at : Limits → TargetOptions → Settings
settings_at limits options = record { start_all = options.start_all; count_limit = options.count_limit; limits = limits; profile = options.profile }

-- a thread of the machine lives
abbrev pub Lives : {S : Type 0} → Meaning S → S → Type 0
Lives m machine = 1 ≤ length (m.live machine)

-- a thread of the machine lives, and no more than there may be
abbrev pub LivesWithin : {S : Type 0} → Meaning S → Limits → S → Type 0
LivesWithin m limits machine = (1 ≤ length (m.live machine)) × (length (m.live machine) ≤ limits.live)
