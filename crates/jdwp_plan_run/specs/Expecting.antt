-- What lines expect of what was told last, and of threads.
use Rattle.std.specs.Prelude.{◌≡◌, ◌⊎◌, ℕ, ◌^◌, ◌==◌, Bool, true, false, not, List, [], ◌∷◌, Option, Some, None, Ok, if◌then◌else◌, codes}
use Rattle.std.specs.List.{list_any, slice_split}
use Rattle.jdwp_debugger.specs.Debuggers.{Debugger}
use Rattle.jdwp_debugger.specs.Holding.{is_held}
use Rattle.jdwp_layout.specs.Meanings.{DatumMeaning, ScalarMeaning}
use Rattle.jdwp_plan.specs.declared.plan_line.Path.{Path}
use Rattle.jdwp_plan.specs.Cuts.{number_of}
use Rattle.jdwp_plan.specs.Expecting.{is_expected}
use Rattle.jdwp_plan.specs.Filling.{filled}
use Rattle.jdwp_plan.specs.Items.{item_at}
use Rattle.jdwp_plan_run.specs.declared.stop.LineRefusal.TheVariants as refusal
use Rattle.jdwp_plan_run.specs.declared.stop.Stop.{Stop}
use Rattle.jdwp_plan_run.specs.declared.stop.Stop.TheVariants as stop
use Rattle.jdwp_plan_run.specs.Asking.{FillStops}
use Rattle.jdwp_plan_run.specs.Tellings.{Telling}

-- ---- the item at a path

abbrev pub item_in : Path → Option (List DatumMeaning) → Option ScalarMeaning
item_in path None = None
item_in path (Some items) = item_at path items

-- of what was told last
abbrev pub item_told : Path → Option Telling → Option ScalarMeaning
item_told path None = None
item_told path (Some told) = item_in path told.items

-- none stands there, or memory was wanting
abbrev pub NoItem : Option ScalarMeaning → Stop → Type 0
NoItem item (stop.Refused refusal.NoItem) = item ≡ None
NoItem item stop.NoMemory = Unit {0}
NoItem item s = ⊥

abbrev pub AtStops : Path → List DatumMeaning → Stop → Type 0
AtStops path items s = NoItem (item_at path items) s

abbrev pub InStops : Path → Option (List DatumMeaning) → Stop → Type 0
InStops path items s = NoItem (item_in path items) s

abbrev pub ItemStops : Path → Option Telling → Stop → Type 0
ItemStops path told s = NoItem (item_told path told) s

-- ---- texts

-- one of the lines of a text is the expected one
abbrev pub is_expected_in : List ℕ → List ℕ → Bool
is_expected_in expected text = list_any (is_expected expected) (slice_split (λ b. b == 10) text)

-- the text, with the values in it, is this one that was told
abbrev pub IsSame : List (List ℕ × List ℕ) → List ℕ → List ℕ → Type 0
IsSame values found text = (expected : List ℕ) × (filled values text ≡ Ok expected) × (is_expected_in expected found ≡ true)

-- both texts
abbrev pub BothTexts : List ℕ → List ℕ → Stop → Type 0
BothTexts expected found (stop.Differs e f) = (e.items ≡ expected) × (f.items ≡ found)
BothTexts expected found stop.NoMemory = Unit {0}
BothTexts expected found s = ⊥

abbrev pub CompareStops : List ℕ → List ℕ → Stop → Type 0
CompareStops expected found s = (is_expected_in expected found ≡ false) × BothTexts expected found s

-- it is not: both texts; or a `$` in it has no value
abbrev pub SameStops : List (List ℕ × List ℕ) → List ℕ → List ℕ → Stop → Type 0
SameStops values found text s = FillStops values text s ⊎ ((expected : List ℕ) × (filled values text ≡ Ok expected) × CompareStops expected found s)

-- of what was told last
abbrev pub IsTold : List (List ℕ × List ℕ) → Option Telling → List ℕ → Type 0
IsTold values None text = ⊥
IsTold values (Some told) text = IsSame values told.text text

abbrev pub ExpectStops : List (List ℕ × List ℕ) → Option Telling → List ℕ → Stop → Type 0
ExpectStops values None text s = s ≡ stop.Refused refusal.NothingTold
ExpectStops values (Some told) text s = SameStops values told.text text s

-- ---- threads

-- the thread of an id, `#1`
abbrev pub thread_of : List ℕ → Option ℕ
thread_of [] = None
thread_of (b ∷ digits) = if b == 35 then number_of (2 ^ 64) digits else None

-- the thread of this id is held, or is not
abbrev pub IsNamedSo : Debugger → List ℕ → Bool → Type 0
IsNamedSo d full so = (thread : ℕ) × (thread_of full ≡ Some thread) × (is_held d thread ≡ so)

-- the one that a text names, with the values in it
abbrev pub IsHeldSo : List (List ℕ × List ℕ) → Debugger → List ℕ → Bool → Type 0
IsHeldSo values d text so = (full : List ℕ) × (filled values text ≡ Ok full) × IsNamedSo d full so

abbrev pub held_word : Bool → List ℕ
held_word true = codes "held"
held_word false = codes "free"

-- both words
abbrev pub WordsDiffer : Bool → Stop → Type 0
WordsDiffer held (stop.Differs expected found) = (expected.items ≡ held_word held) × (found.items ≡ held_word (not held))
WordsDiffer held stop.NoMemory = Unit {0}
WordsDiffer held s = ⊥

-- the id is none; or the other is so of its thread
abbrev pub NamedStops : Debugger → List ℕ → Bool → Stop → Type 0
NamedStops d full held s = ((thread_of full ≡ None) × (s ≡ stop.Refused refusal.NoId)) ⊎ (IsNamedSo d full (not held) × WordsDiffer held s)

abbrev pub HeldStops : List (List ℕ × List ℕ) → Debugger → List ℕ → Bool → Stop → Type 0
HeldStops values d text held s = FillStops values text s ⊎ ((full : List ℕ) × (filled values text ≡ Ok full) × NamedStops d full held s)
