-- Moves of all suspend counts: what they make of a count, one by one and in a row.
use Rattle.std.specs.Prelude.{◌≡◌, ℕ, zero, suc, ◌+◌, ◌-◌, ◌≤◌, ◌<◌, nat_le, nat_lt, min, ◌&&◌, List, map, length, get_or, Option, Some, None, if◌then◌else◌}
use Rattle.jdwp_mirror.specs.declared.drift.Standing.{Standing}
use Rattle.jdwp_mirror.specs.declared.drift.Drift.{Drift}
use Rattle.jdwp_mirror.specs.declared.drift.Rise.{Rise}
use Rattle.jdwp_mirror.specs.declared.moves.Step.{Step}
use Rattle.jdwp_mirror.specs.Mirror.{COUNT_MOST}

abbrev pub raised : Drift
raised = record { lost = 0; rise = Some (record { least = 1; most = COUNT_MOST }) }

abbrev pub lowered : Drift
lowered = record { lost = 1; rise = None }

abbrev pub risen : Option Rise → ℕ → ℕ
risen None n = n
risen (Some r) n = min (n + r.least) r.most

abbrev pub drifted : Drift → Standing → Standing
drifted d s = record { count = risen d.rise (s.count - d.lost); held = nat_lt d.lost s.count && s.held }

abbrev pub rise_after : ℕ → Rise → Option Rise → Rise
rise_after lost r None = record { least = r.least - lost; most = r.most - lost }
rise_after lost r (Some next) = record { least = (r.least - lost) + next.least; most = min ((r.most - lost) + next.least) next.most }

abbrev pub joined_rise : Rise → Drift → Rise
joined_rise r next = rise_after next.lost r next.rise

-- what stood after so many of the moves, of what stood before all but those from one on
abbrev pub after : List Drift → ℕ → ℕ → Standing → Standing
after ds from zero s = s
after ds from (suc n) s = if nat_le from n then drifted (get_or ds n lowered) (after ds from n s) else s

-- ---- moves as they are kept

abbrev pub ones_of : List Step → List Drift
ones_of steps = map (λ (step : Step). step.one) steps

abbrev pub no_step : Step
no_step = record { one = lowered; back = 0; all = lowered }

-- what a step has of moves: all that were made from an earlier time on, the one after so many among them
pub record IsJoined (ds : List Drift) (at : ℕ) (step : Step) : Type 0 where
  pub earlier : step.back ≤ at
  pub joins : (s : Standing) → drifted step.all s ≡ after ds step.back (suc at) s

abbrev pub AreJoined : List Step → Type 0
AreJoined steps = (at : ℕ) → at < length steps → IsJoined (ones_of steps) at (get_or steps at no_step)
