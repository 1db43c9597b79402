-- Bytes that wait in a piece of a buffer.
use Rattle.std.specs.Prelude.{◌≡◌, ◌<◌, ◌≤◌, ◌+◌, ◌-◌, ℕ, List, ◌++◌, length, take, drop}
use Rattle.jdwp_relay.specs.declared.sides.Came.{Came}
use Rattle.jdwp_relay.specs.declared.sides.Came.TheVariants as came
use Rattle.jdwp_relay.specs.Flows.{Inflow, asked, with_bytes, with_ending}

-- the bytes from one place up to another
abbrev pub span : ℕ → ℕ → List ℕ → List ℕ
span from to bytes = take (to - from) (drop from bytes)

-- What one read gave that was made behind the bytes from one place up to another: those stay, and what came stands behind them.
abbrev pub ReadsBehind : ℕ → ℕ → List ℕ → Inflow → Came → List ℕ → Inflow → Type 0
ReadsBehind from to old before (came.Bytes n) new after =
    (fresh : List ℕ) × (length fresh ≡ n) × (0 < n) × (to + n ≤ length new) × (span from (to + n) new ≡ span from to old ++ fresh) × (after ≡ with_bytes fresh before)
ReadsBehind from to old before came.Nothing new after = (span from to new ≡ span from to old) × (after ≡ asked before)
ReadsBehind from to old before (came.Ended ending) new after = (span from to new ≡ span from to old) × (after ≡ with_ending ending before)
