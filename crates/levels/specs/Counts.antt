-- Suspend counts by their places, and what moves of one or of all of them leave.
use Rattle.std.specs.Prelude.{ℕ, ◌+◌, ◌-◌, ◌^◌, ◌==◌, List, [], ◌∷◌, ◌++◌, set, map, if◌then◌else◌}
use Rattle.std.specs.List.{sum_by}

-- the greatest count
abbrev pub count_most : ℕ
count_most = 2 ^ 31

-- Counts, how many threads the last move of all counts visited, and for how many counts there is room. And how often the own entry of a
-- thread was read or written since the counts were made, and how often a rank of the order in which threads stand.
pub record Counts : Type 0 where
  pub counts : List ℕ
  pub visits : ℕ
  pub capacity : ℕ
  pub looks : ℕ
  pub rank_looks : ℕ

-- the same counts, after so many looks at entries and at ranks
abbrev pub after_looks : ℕ → ℕ → Counts → Counts
after_looks looks rank_looks counts = record counts { looks = looks; rank_looks = rank_looks }

-- all but the looks
abbrev pub but_looks : Counts → Counts
but_looks counts = after_looks 0 0 counts

-- ---- one count

abbrev pub raised : ℕ → ℕ
raised n = n + 1

-- a count of 0 stays
abbrev pub lowered : ℕ → ℕ
lowered n = n - 1

abbrev pub none : ℕ → ℕ
none n = 0

-- ---- all of them

abbrev pub with_zero : Counts → Counts
with_zero counts = record counts { counts = counts.counts ++ 0 ∷ [] }

abbrev pub with_count : ℕ → ℕ → Counts → Counts
with_count place count counts = record counts { counts = set counts.counts place count }

abbrev pub cleared : Counts → Counts
cleared counts = record counts { counts = map none counts.counts }

-- how many counts are this one
abbrev pub standing : ℕ → List ℕ → ℕ
standing k counts = sum_by (λ (n : ℕ). if n == k then 1 else 0) counts
