-- What bytes encode under a layout is in the layout, and data of one value an item are a record's.
use Rattle.std.proofs.Common.{◌≡◌, ℕ, List, [], ◌∷◌, ◌++◌, map, Option, Some, refl, sym, ◌∙◌, ap, subst}
use Rattle.std.specs.List.{AllByRecursion}
use Rattle.jdwp_wire.specs.Widths.{Widths}
use Rattle.jdwp_layout.specs.declared.item.Field.{Field}
use Rattle.jdwp_layout.specs.declared.item.Field.TheVariants as field
use Rattle.jdwp_layout.specs.Grammar.{kind_of, EncodesFields, EncodesKind, EncodesEntry, EncodesItem, EncodesData}
use Rattle.jdwp_layout.specs.Meanings.{ScalarMeaning, Byte, DatumMeaning, One, Many, Elements, Raw}
use Rattle.jdwp_layout.specs.ModifiersAndEvents.{modifier_fields, event_fields}
use Rattle.jdwp_layout.specs.Shapes.{EntryShape, Fields, Modifiers, Events, ItemShape, OneOf, ListOf, RegionOf}
use Rattle.jdwp_wire.specs.Each.{EncodesAll}
use Rattle.jdwp_answer.specs.Shaped.{HasFields, HasKind, HasEntry, HasItem, HasItems, one_each, ones, AreOnes, IsList, AreNone, Are, Begins, IsOneList, IsRangeAndList, IsCountAndList, AreTwoLists, IsRegion}

-- ---- lists

same_cons : (a b : Field) (xs ys : List Field) → a ≡ b → xs ≡ ys → a ∷ xs ≡ b ∷ ys
same_cons a b xs ys p q = cc

nothing_is : (x : DatumMeaning) (xs : List DatumMeaning) → [] ≡ x ∷ xs → ⊥
nothing_is x xs e = cc

is_nothing : (x : DatumMeaning) (xs : List DatumMeaning) → x ∷ xs ≡ [] → ⊥
is_nothing x xs e = cc

same_first : (x y : ScalarMeaning) (xs ys : List DatumMeaning) → One x ∷ xs ≡ One y ∷ ys → x ≡ y
same_first x y xs ys e = cc

same_rest : (x y : ScalarMeaning) (xs ys : List DatumMeaning) → One x ∷ xs ≡ One y ∷ ys → xs ≡ ys
same_rest x y xs ys e = cc

same_values : (x y : ScalarMeaning) (xs ys : List ScalarMeaning) → x ≡ y → xs ≡ ys → x ∷ xs ≡ y ∷ ys
same_values x y xs ys p q = cc

-- ---- what is encoded is in the layout

fields_fit : (w : Widths) (fields : List Field) (xs : List ScalarMeaning) (code : List ℕ) → EncodesFields w fields xs code → HasFields fields xs
fields_fit w [] [] code s = refl
fields_fit w [] (x ∷ xs) code s = absurd s
fields_fit w (f ∷ fs) [] code s = absurd s
fields_fit w (f ∷ fs) (x ∷ xs) code (front, back, one, others, e) =
    same_cons (kind_of x) f (map kind_of xs) fs one.0 (fields_fit w fs xs back others)

kind_fits : (w : Widths) (fields_of : ℕ → Option (List Field)) (xs : List ScalarMeaning) (code : List ℕ) → EncodesKind w fields_of xs code → HasKind fields_of xs
kind_fits w fields_of xs code (kind, small, (fields, ys, rest, found, s, made, e)) =
    let all : map kind_of ys ≡ fields = fields_fit w fields ys rest s in
    let has : HasKind fields_of (Byte kind ∷ ys) = found ∙ ap (λ (l : List Field). Some l) (sym all) in
    subst (λ (l : List ScalarMeaning). HasKind fields_of l) (sym made) has

entry_fits : (w : Widths) (entry : EntryShape) (xs : List ScalarMeaning) (code : List ℕ) → EncodesEntry w entry xs code → HasEntry entry xs
entry_fits w (Fields fields) xs code s = fields_fit w fields xs code s
entry_fits w Modifiers xs code s = kind_fits w modifier_fields xs code s
entry_fits w Events xs code s = kind_fits w event_fields xs code s

entries_fit : (w : Widths) (entry : EntryShape) (xs : List (List ScalarMeaning)) (code : List ℕ) → EncodesAll (EncodesEntry w entry) xs code → AllByRecursion (HasEntry entry) xs
entries_fit w entry [] code s = tt
entries_fit w entry (x ∷ xs) code (front, back, one, others, e) = (entry_fits w entry x front one, entries_fit w entry xs back others)

item_fits : (w : Widths) (item : ItemShape) (x : DatumMeaning) (code : List ℕ) → EncodesItem w item x code → HasItem item x
item_fits w (OneOf f) (One x) code s = s.0
item_fits w (ListOf entry) (Many xs) code (small, items, all, e) = entries_fit w entry xs items all
item_fits w RegionOf (Elements region) code s = tt
item_fits w item x code s = absurd s

pub encoded_fits : (w : Widths) (items : List ItemShape) (xs : List DatumMeaning) (code : List ℕ) → EncodesData w items xs code → HasItems items xs
encoded_fits w [] [] code s = tt
encoded_fits w [] (x ∷ xs) code s = absurd s
encoded_fits w (item ∷ items) [] code s = absurd s
encoded_fits w (item ∷ items) (x ∷ xs) code (front, back, one, others, e) = (item_fits w item x front one, encoded_fits w items xs back others)

-- ---- data of one value an item

ones_have : (fields : List Field) (xs : List DatumMeaning) → HasItems (one_each fields) xs → (ys : List ScalarMeaning) × (xs ≡ ones ys) × HasFields fields ys
ones_have [] [] h = ([], refl, refl)
ones_have [] (x ∷ xs) h = absurd h
ones_have (f ∷ fs) [] h = absurd h
ones_have (f ∷ fs) (One x ∷ xs) h =
    let t = ones_have fs xs h.1 in
    (x ∷ t.0, ap (λ (l : List DatumMeaning). One x ∷ l) t.1, same_cons (kind_of x) f (map kind_of t.0) fs h.0 t.2)
ones_have (f ∷ fs) (Many entries ∷ xs) h = absurd h.0
ones_have (f ∷ fs) (Elements region ∷ xs) h = absurd h.0
ones_have (f ∷ fs) (Raw bytes ∷ xs) h = absurd h.0

ones_same : (xs ys : List ScalarMeaning) → ones xs ≡ ones ys → xs ≡ ys
ones_same [] [] e = refl
ones_same [] (y ∷ ys) e = absurd (nothing_is (One y) (ones ys) e)
ones_same (x ∷ xs) [] e = absurd (is_nothing (One x) (ones xs) e)
ones_same (x ∷ xs) (y ∷ ys) e =
    same_values x y xs ys (same_first x y (ones xs) (ones ys) e) (ones_same xs ys (same_rest x y (ones xs) (ones ys) e))

are_ones : (fields : List Field) (xs : List DatumMeaning) → HasItems (one_each fields) xs → AreOnes xs
are_ones [] [] h = tt
are_ones [] (x ∷ xs) h = absurd h
are_ones (f ∷ fs) [] h = absurd h
are_ones (f ∷ fs) (One x ∷ xs) h = (tt, are_ones fs xs h.1)
are_ones (f ∷ fs) (Many entries ∷ xs) h = absurd h.0
are_ones (f ∷ fs) (Elements region ∷ xs) h = absurd h.0
are_ones (f ∷ fs) (Raw bytes ∷ xs) h = absurd h.0

-- data that are not of one value an item are in no layout that is
pub none_are_ones : (fields : List Field) (xs : List DatumMeaning) → (AreOnes xs → ⊥) → HasItems (one_each fields) xs → ⊥
none_are_ones fields xs none h = none (are_ones fields xs h)

-- values that are not a record's are in no layout of it
pub none_have : (fields : List Field) (xs : List DatumMeaning) (ys : List ScalarMeaning) → ones ys ≡ xs → (HasFields fields ys → ⊥) → HasItems (one_each fields) xs → ⊥
none_have fields xs ys are none h =
    let t = ones_have fields xs h in
    let same : t.0 ≡ ys = sym (ones_same ys t.0 (are ∙ t.1)) in
    none (subst (λ (l : List ScalarMeaning). HasFields fields l) same t.2)

-- ---- item by item

no_items : (xs : List DatumMeaning) → HasItems [] xs → AreNone xs
no_items [] h = tt
no_items (x ∷ xs) h = absurd h

item_and : (First : DatumMeaning → Type 0) (Others : List DatumMeaning → Type 0) (item : ItemShape) (items : List ItemShape)
    → ((x : DatumMeaning) → HasItem item x → First x) → ((xs : List DatumMeaning) → HasItems items xs → Others xs)
    → (xs : List DatumMeaning) → HasItems (item ∷ items) xs → Are First Others xs
item_and First Others item items first others [] h = absurd h
item_and First Others item items first others (x ∷ xs) h = (first x h.0, others xs h.1)

begins : (First : DatumMeaning → Type 0) (Others : List DatumMeaning → Type 0) (xs : List DatumMeaning) → Are First Others xs → Begins First xs
begins First Others [] h = absurd h
begins First Others (x ∷ xs) h = h.0

-- items of which the first is not so
pub none_begin : (First : DatumMeaning → Type 0) (Others : List DatumMeaning → Type 0) (xs : List DatumMeaning) → (Begins First xs → ⊥) → Are First Others xs → ⊥
none_begin First Others xs none h = none (begins First Others xs h)

is_list : (entry : EntryShape) (x : DatumMeaning) → HasItem (ListOf entry) x → IsList x
is_list entry (Many entries) h = tt
is_list entry (One x) h = absurd h
is_list entry (Elements region) h = absurd h
is_list entry (Raw bytes) h = absurd h

one_list_is : (entry : EntryShape) (xs : List DatumMeaning) → HasItems (ListOf entry ∷ []) xs → IsOneList xs
one_list_is entry = item_and IsList AreNone (ListOf entry) [] (is_list entry) no_items

-- data that are not one list are in no layout of one
pub none_is_list : (fields : List Field) (xs : List DatumMeaning) → (IsOneList xs → ⊥) → HasItems (ListOf (Fields fields) ∷ []) xs → ⊥
none_is_list fields xs none h = none (one_list_is (Fields fields) xs h)

-- a list with an entry that is not of these fields is in no layout of one
pub none_in_list : (fields : List Field) (xs : List DatumMeaning) (entries : List (List ScalarMeaning)) → Many entries ∷ [] ≡ xs
    → (AllByRecursion (HasFields fields) entries → ⊥) → HasItems (ListOf (Fields fields) ∷ []) xs → ⊥
none_in_list fields xs entries is none h =
    let has : HasItems (ListOf (Fields fields) ∷ []) (Many entries ∷ []) = subst (λ (l : List DatumMeaning). HasItems (ListOf (Fields fields) ∷ []) l) (sym is) h in
    none has.0

-- ---- data that end with a list

count_and_list : (kind : Field) (entry : EntryShape) (xs : List DatumMeaning) → HasItems (OneOf kind ∷ ListOf entry ∷ []) xs
    → Are (HasItem (OneOf kind)) (Are IsList AreNone) xs
count_and_list kind entry = item_and (HasItem (OneOf kind)) (Are IsList AreNone) (OneOf kind) (ListOf entry ∷ []) (λ x h. h) (one_list_is entry)

pub none_is_range : (entry : EntryShape) (xs : List DatumMeaning) → (IsRangeAndList xs → ⊥) → HasItems (OneOf field.Long ∷ OneOf field.Long ∷ ListOf entry ∷ []) xs → ⊥
none_is_range entry xs none h =
    none (item_and (HasItem (OneOf field.Long)) (Are (HasItem (OneOf field.Long)) (Are IsList AreNone)) (OneOf field.Long) (OneOf field.Long ∷ ListOf entry ∷ [])
    (λ x h. h) (count_and_list field.Long entry) xs h)

pub none_is_count : (entry : EntryShape) (xs : List DatumMeaning) → (IsCountAndList xs → ⊥) → HasItems (OneOf field.Int ∷ ListOf entry ∷ []) xs → ⊥
none_is_count entry xs none h = none (count_and_list field.Int entry xs h)

pub none_are_lists : (first second : EntryShape) (xs : List DatumMeaning) → (AreTwoLists xs → ⊥) → HasItems (ListOf first ∷ ListOf second ∷ []) xs → ⊥
none_are_lists first second xs none h =
    none (item_and IsList (Are IsList AreNone) (ListOf first) (ListOf second ∷ []) (is_list first) (one_list_is second) xs h)

pub none_is_region : (xs : List DatumMeaning) → (IsRegion xs → ⊥) → HasItems (RegionOf ∷ []) xs → ⊥
none_is_region xs none h = none (item_and (HasItem RegionOf) AreNone RegionOf [] (λ x h. h) no_items xs h)

-- data of these items are in no layout that they are not in
pub none_such : (shape : List ItemShape) (ys xs : List DatumMeaning) → ys ≡ xs → (HasItems shape ys → ⊥) → HasItems shape xs → ⊥
none_such shape ys xs is none h = none (subst (λ (l : List DatumMeaning). HasItems shape l) (sym is) h)

-- ---- among others

has_at : {X : Type 0} (P : X → Type 0) (before : List X) (x : X) (after : List X) → AllByRecursion P (before ++ x ∷ after) → P x
has_at P [] x after h = h.0
has_at P (y ∷ before) x after h = has_at P before x after h.1

-- where one of several is not so, they are not all
pub none_at : {X : Type 0} (P : X → Type 0) (all before : List X) (x : X) (after : List X) → before ++ x ∷ after ≡ all → (P x → ⊥) → AllByRecursion P all → ⊥
none_at {X = X} P all before x after is none h = none (has_at P before x after (subst (λ (l : List X). AllByRecursion P l) (sym is) h))

map_joined : {X Y : Type 0} (f : X → Y) (xs : List X) (x : X) (ys : List Y) → map f (xs ++ x ∷ []) ++ ys ≡ map f xs ++ f x ∷ ys
map_joined f [] x ys = refl
map_joined f (z ∷ zs) x ys = ap (λ l. f z ∷ l) (map_joined f zs x ys)

-- one more of several, each of which was made of one
pub one_more : {X Y : Type 0} (f : X → Y) (xs now : List X) (x : X) (y : Y) (ys : List Y) → now ≡ xs ++ x ∷ [] → f x ≡ y → map f now ++ ys ≡ map f xs ++ y ∷ ys
one_more {Y = Y} f xs now x y ys e h = ap (λ l. map f l ++ ys) e ∙ map_joined f xs x ys ∙ ap (λ (v : Y). map f xs ++ v ∷ ys) h
