-- The names of the commands of the table.
use Rattle.std.proofs.Common.{◌≡◌, ℕ, ◌+◌, ◌<◌, ◌≤◌, ◌==◌, ◌&&◌, Bool, true, false, nat_lt, cond, List, [], ◌∷◌, ◌++◌, length, get_or, take, drop, Option, Some, None, refl, sym, ap, subst, ◌∙◌, append_assoc, arith, if◌then◌else◌}
use Rattle.std.specs.List.{list_all, position_or_len}
use Rattle.std.specs.Str.{bytes_eq}
use Rattle.std.proofs.lemmas.Bool.{ltb-true}
use Rattle.std.proofs.lemmas.Bool.Decides.{nat_tests}
use Rattle.std.proofs.lemmas.List.{drop_more, take-append-drop}
use Rattle.std.proofs.lemmas.List.Sums.{passes_at_first}
use Rattle.std.proofs.lemmas.Slice.Eq.{bytes_eq-Decides}
use Rattle.jdwp_layout.specs.CommandTable.{command_sets, row_at}
use Rattle.jdwp_layout.specs.Rows.{Row, look_up, row_in}
use Rattle.jdwp_show.specs.declared.command_number.CommandNumber.{CommandNumber}
use Rattle.jdwp_show.specs.MessageLines.{name_in}
use Rattle.jdwp_plan.specs.Commands.{HasNo, HasNoneBelow, IsOfNone, is_command}
use Rattle.jdwp_plan.specs.Cuts.{behind, front, has}

and_parts : (a b : Bool) → a && b ≡ true → (a ≡ true) × (b ≡ true)
and_parts true b h = (refl, h)
and_parts false b h = absurd (cc)

-- nothing stands under a number that no entry has
beyond : (A : Type 0) (n limit : ℕ) (entries : List (ℕ × A)) → limit ≤ n → list_all (λ (e : ℕ × A). nat_lt e.0 limit) entries ≡ true → look_up n entries ≡ None
beyond A n limit [] past all = refl
beyond A n limit (e ∷ es) past all =
    let parts = and_parts (nat_lt e.0 limit) (list_all (λ (e : ℕ × A). nat_lt e.0 limit) es) all in
    let below : e.0 < limit = ltb-true e.0 limit parts.0 in
    let differs : (n == e.0) ≡ false = grind (arith, nat_tests) in
    rw differs (beyond A n limit es past parts.1)

rows_below : ℕ → List (ℕ × List (ℕ × Row)) → Bool
rows_below limit sets = list_all (λ (s : ℕ × List (ℕ × Row)). list_all (λ (r : ℕ × Row). nat_lt r.0 limit) s.1) sets

chosen : (b : Bool) (rows : List (ℕ × Row)) (other : Option (List (ℕ × Row))) (n : ℕ) → look_up n rows ≡ None → row_in n other ≡ None → row_in n (cond b (Some rows) other) ≡ None
chosen true rows other n one two = one
chosen false rows other n one two = two

row_beyond : (set n limit : ℕ) (sets : List (ℕ × List (ℕ × Row))) → limit ≤ n → rows_below limit sets ≡ true → row_in n (look_up set sets) ≡ None
unfolding rows_below
row_beyond set n limit [] past all = refl
row_beyond set n limit (s ∷ sets) past all =
    let parts = and_parts (list_all (λ (r : ℕ × Row). nat_lt r.0 limit) s.1) (rows_below limit sets) all in
    chosen (set == s.0) s.1 (look_up set sets) n (beyond Row n limit s.1 past parts.0) (row_beyond set n limit sets past parts.1)

sets_below : list_all (λ (s : ℕ × List (ℕ × Row)). nat_lt s.0 65) command_sets ≡ true
sets_below = refl

commands_below : rows_below 101 command_sets ≡ true
unfolding rows_below
commands_below = refl

none_at : (set_name name : List ℕ) (set number : ℕ) (a b : Bool) → nat_lt set 65 ≡ a → nat_lt number 101 ≡ b
    → (set < 65 → number < 101 → is_command set_name name (row_at set number) ≡ false) → is_command set_name name (row_at set number) ≡ false
none_at set_name name set number true true few some here = here (ltb-true set 65 few) (ltb-true number 101 some)
none_at set_name name set number true false few many here =
    let past : 101 ≤ number = grind (arith, nat_tests) in
    ap (λ (r : Option Row). is_command set_name name r) (row_beyond set number 101 command_sets past commands_below)
none_at set_name name set number false b many some here =
    let past : 65 ≤ set = grind (arith, nat_tests) in
    ap (λ (rows : Option (List (ℕ × Row))). is_command set_name name (row_in number rows)) (beyond (List (ℕ × Row)) set 65 command_sets past sets_below)

-- none is of this name, where none below the greatest numbers is
pub none_beyond : (set_name name : List ℕ) (set number : ℕ) → (set < 65 → number < 101 → is_command set_name name (row_at set number) ≡ false)
    → is_command set_name name (row_at set number) ≡ false
none_beyond set_name name set number here = none_at set_name name set number (nat_lt set 65) (nat_lt number 101) refl refl here

equal : (xs ys : List ℕ) → bytes_eq xs ys ≡ true → xs ≡ ys
equal xs ys same = (bytes_eq-Decides xs ys).0 same

named_in : (set_name name : List ℕ) (r : Option Row) (command : CommandNumber) → is_command set_name name r ≡ true → name_in r command ≡ set_name ++ (46 ∷ name)
named_in set_name name None command is = absurd (cc)
named_in set_name name (Some row) command is =
    let parts = and_parts (bytes_eq row.set_name set_name) (bytes_eq row.name name) is in
    append_assoc row.set_name (46 ∷ []) row.name
    ∙ ap (λ (s : List ℕ). s ++ (46 ∷ row.name)) (equal row.set_name set_name parts.0)
    ∙ ap (λ (n : List ℕ). set_name ++ (46 ∷ n)) (equal row.name name parts.1)

cut_by : (c : ℕ) (text rest : List ℕ) (b : Bool) → has c text ≡ b → cond b (Some (drop (position_or_len (λ x. x == c) text + 1) text)) None ≡ Some rest
    → text ≡ cond b (take (position_or_len (λ x. x == c) text) text) text ++ (c ∷ rest)
cut_by c text rest true is at =
    let p : ℕ = position_or_len (λ x. x == c) text in
    let inside : p < length text = ltb-true p (length text) is in
    let byte : get_or text p 0 ≡ c = (let there = passes_at_first (λ x. x == c) text 0 inside in grind (arith, nat_tests)) in
    let behind : drop (p + 1) text ≡ rest = cc in
    sym (take-append-drop p text)
    ∙ ap (λ (x : List ℕ). take p text ++ x) (drop_more text p 0 inside ∙ ap (λ (x : ℕ). x ∷ drop (p + 1) text) byte ∙ ap (λ (x : List ℕ). c ∷ x) behind)
cut_by c text rest false is at = absurd (cc)

-- a text is its parts round the first separator
pub cut_parts : (c : ℕ) (text rest : List ℕ) → Some rest ≡ behind c text → text ≡ front c text ++ (c ∷ rest)
cut_parts c text rest at = cut_by c text rest (has c text) refl (sym at)

-- the command of this name has it
pub named : (set_name name text : List ℕ) (set number : ℕ) → is_command set_name name (row_at set number) ≡ true → text ≡ set_name ++ (46 ∷ name)
    → name_in (row_at set number) (record { set = set; number = number }) ≡ text
named set_name name text set number is parts = named_in set_name name (row_at set number) (record { set = set; number = number }) is ∙ sym parts

pub has_no : (name rest : List ℕ) → Some rest ≡ behind 46 name → ((set : ℕ) → set < 65 → HasNoneBelow set (front 46 name) rest 101) → HasNo name
has_no name rest at none =
    let P : Option (List ℕ) → Type 0 = λ o. IsOfNone (front 46 name) o in
    subst P at (λ set number. none_beyond (front 46 name) rest set number (λ few some. none set few number some))

pub has_no_dot : (name : List ℕ) → None ≡ behind 46 name → HasNo name
has_no_dot name at = let P : Option (List ℕ) → Type 0 = λ o. IsOfNone (front 46 name) o in subst P at tt
