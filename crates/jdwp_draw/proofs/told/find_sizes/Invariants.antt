use Rattle.std.proofs.Common.{◌≡◌, ℕ, drop}
use Rattle.std.specs.BTreeMap.{get}
use Rattle.std.specs.Ordering.{nat_cmp}
use Rattle.jdwp_draw.specs.Told.{told_from, widths_told}
use Rattle.jdwp_draw.proofs.told.find_sizes.Given as goal

-- what the messages that are left tell, where these commands wait
abbrev pub invariant-loop-message : goal.invariant-loop-message
invariant-loop-message l = told_from (λ (id : ℕ). get nat_cmp l.asked id) (drop l.message-index l.messages) ≡ widths_told l.messages
