-- Which commands a target may answer later than it takes them, and how many of them there are at most (JDWP specification, "Command
-- Sets": the sets ReferenceType and Method).
use Rattle.std.specs.Prelude.{ℕ, zero, suc, ◌==◌, nat_lt, Bool, ◌||◌, ◌&&◌, List, [], ◌∷◌, Option, Some, None}
use Rattle.jdwp_layout.specs.CommandNumbers.{REFERENCE_TYPE, METHOD}

-- commands of this set may be answered later
abbrev pub is_deferrable : ℕ → Bool
is_deferrable set = (set == REFERENCE_TYPE) || (set == METHOD)

-- how many commands may be deferred at a time
abbrev pub MOST_DEFERRED : ℕ
MOST_DEFERRED = 16

-- Whether a command of this set is deferred, where so many are already.
abbrev pub is_deferred : Bool → ℕ → ℕ → Bool
is_deferred deferring set count = deferring && (is_deferrable set && nat_lt count MOST_DEFERRED)

-- the one at this place, 0 for the one deferred longest, and the others in their order
abbrev pub beside : {A : Type 0} → A → Option (A × List A) → Option (A × List A)
beside first None = None
beside first (Some (x, others)) = Some (x, first ∷ others)

abbrev pub released_at : {A : Type 0} → ℕ → List A → Option (A × List A)
released_at place [] = None
released_at zero (x ∷ xs) = Some (x, xs)
released_at (suc place) (x ∷ xs) = beside x (released_at place xs)
