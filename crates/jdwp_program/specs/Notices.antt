-- Lines that are told while sessions go on.
use Rattle.std.specs.Prelude.{◌≡◌, ◌⊎◌, ◌+◌, ◌-◌, ◌^◌, ℕ, min}
use Rattle.jdwp_program.specs.declared.notices.Lines.{Lines}

-- how many were dropped since the last one that was taken
abbrev pub dropped_by : {E : Type 0} → Lines E → ℕ
dropped_by lines = lines.dropped

-- a line was taken, or it is one more that was dropped
abbrev pub Counts : ℕ → ℕ → Type 0
Counts old new = (new ≡ 0) ⊎ (new ≡ min (old + 1) (2 ^ 32 - 1))

-- that so many were dropped was told, or was not
abbrev pub Ends : ℕ → ℕ → Type 0
Ends old new = (new ≡ 0) ⊎ (new ≡ old)
