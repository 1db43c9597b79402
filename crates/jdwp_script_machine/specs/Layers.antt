-- Sets of ids as the code keeps them, and what stands directly above a class.
use Rattle.std.specs.Prelude.{◌≡◌, ℕ, ◌==◌, ◌&&◌, ◌||◌, not, Bool, true, List, map, length, Option, Some, None}
use Rattle.std.specs.List.{list_any}
use Rattle.std.specs.Ordering.{nat_cmp}
use Rattle.std.specs.BTreeSet.{BTreeSet, contains}
use Rattle.jdwp_script.specs.Parts.{ClassPart, ScriptPart}
use Rattle.jdwp_script_machine.specs.LookUps.{is_some}
use Rattle.jdwp_script_machine.specs.Sites.{class_in, class_above}

abbrev pub has : BTreeSet ℕ → ℕ → Bool
has set = contains nat_cmp set

-- a set has the numbers that pass this test
abbrev pub Holds : BTreeSet ℕ → (ℕ → Bool) → Type 0
Holds set test = (n : ℕ) → has set n ≡ test n

-- a set has gained the numbers that pass this test
abbrev pub Gains : BTreeSet ℕ → BTreeSet ℕ → (ℕ → Bool) → Type 0
Gains old new test = (n : ℕ) → has new n ≡ (has old n || test n)

abbrev pub is_in : List ℕ → ℕ → Bool
is_in ns n = list_any (λ m. m == n) ns

-- whether an id is the superclass of a class or one of its interfaces
abbrev pub is_above : Option ClassPart → ℕ → Bool
is_above class to = class_above (λ n. n == to) class

-- whether it is that of one of these
abbrev pub some_above : ScriptPart → List ℕ → ℕ → Bool
some_above script layer to = list_any (λ from. is_above (class_in script from) to) layer

-- ---- a class that nothing stands above

-- whether a class has no interfaces, and its superclass is none of the script
abbrev pub stands_alone : ScriptPart → Option ClassPart → Bool
stands_alone script None = true
stands_alone script (Some c) = (length c.interfaces == 0) && not (is_some (class_in script c.superclass))

abbrev pub class_ids : List ClassPart → List ℕ
class_ids classes = map (λ (c : ClassPart). c.id) classes
