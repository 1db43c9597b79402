-- Sets of ids, as the code keeps them.
use Rattle.std.specs.Prelude.{◌≡◌, ℕ, Bool, Option}
use Rattle.std.specs.declared.cmp.Ordering.{Ordering}
use Rattle.std.specs.Ordering.{nat_cmp, ordering_then}
use Rattle.std.specs.BTreeMap.{BTreeMap, get}
use Rattle.std.specs.BTreeSet.{BTreeSet, contains}
use Rattle.jdwp_script.specs.declared.known.KnownIds.{KnownIds}
use Rattle.jdwp_script.specs.References.{Known}

-- whether a set has a number
abbrev pub has : BTreeSet ℕ → ℕ → Bool
has set = contains nat_cmp set

-- a set has the numbers that pass this test
abbrev pub Holds : BTreeSet ℕ → (ℕ → Bool) → Type 0
Holds set test = (n : ℕ) → has set n ≡ test n

-- ids as a map keeps them: of a class and of its method
abbrev pub pair_cmp : ℕ × ℕ → ℕ × ℕ → Ordering
pair_cmp x y = ordering_then (nat_cmp x.0 y.0) (nat_cmp x.1 y.1)

-- what a map has under the ids of a class and of its method
abbrev pub last_by : BTreeMap (ℕ × ℕ) ℕ → ℕ → ℕ → Option ℕ
last_by m class method = get pair_cmp m (class, method)

-- the ids that sets have
abbrev pub known_ids : KnownIds → Known
known_ids k = record { group = has k.groups; class = has k.classes; field = has k.fields; object = has k.objects; thread = has k.threads; «module» = has k.modules; value = has k.values; last = last_by k.lasts }
