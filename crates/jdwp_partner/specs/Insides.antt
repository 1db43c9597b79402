-- What a partner keeps inside.
use Rattle.std.specs.Prelude.{ℕ, List}
use Rattle.jdwp_end.specs.Story.{Story}
use Rattle.jdwp_partner.specs.declared.standing.Standing.{Standing}
use Rattle.jdwp_partner.specs.Partners.{Partner}
use Rattle.jdwp_target.specs.Targets.{Target}

abbrev pub partner_of : {S : Type 0} → Target S → List (Target S) → ℕ → Standing → Story → Partner S
partner_of target opened rounds standing story =
    record { target = target; opened = opened; rounds = rounds; standing = standing; story = story }
