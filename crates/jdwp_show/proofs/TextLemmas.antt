-- Text that grows by one thing at a time.
use Rattle.std.proofs.Common.{◌≡◌, Bool, ◌&&◌, String, Global, ℕ, suc, ◌+◌, ◌<◌, ◌≤◌, false, eqb, List, [], ◌∷◌, ◌++◌, length, take, get_or, map, true, true≢false, refl, sym, ap, ◌∙◌, append_assoc, append-nil, codes, arith, not, nat_lt, ◌==◌, ◌||◌, if◌then◌else◌}
use Rattle.std.specs.List.{flat_map, list_all}
use Rattle.std.specs.Char.{encode_utf8}
use Rattle.std.specs.String.{string_bytes}
use Rattle.std.proofs.lemmas.Bool.{ne_eqb, cases_order}
use Rattle.std.proofs.lemmas.List.{take_more, length-take, take_all, map-append}
use Rattle.std.proofs.lemmas.List.Concat.{flat_map-append}
use Rattle.std.proofs.lemmas.List.Folds.{flat_map-map}
use Rattle.hex.specs.Hex.{encode_lower}
use Rattle.std.specs.Str.{IsUtf8, chars}
use Rattle.std.proofs.lemmas.Str.{encode_ascii, encodes-chars}
use Rattle.std.proofs.lemmas.List.Folds.{list_all-append}
use lib.Utf8.{encodes}
use mathlib.Core.Logic.{⊎_elim}
use Rattle.jdwp_layout.specs.declared.datum.Datum.{Datum}
use Rattle.jdwp_layout.specs.Meanings.{DatumMeaning, datum_meaning, meanings}
use Rattle.jdwp_show.specs.declared.text.Text.{Text}
use Rattle.jdwp_show.specs.DataText.{listed, separator, is_plain, quoted, datum_text, data_text, raw_text}
use Rattle.jdwp_show.specs.Telling.{Grows}

abbrev later : {A : Type 0} → (A → List ℕ) → A → List ℕ
later text y = codes ", " ++ text y

pub listed-push : {A : Type 0} (text : A → List ℕ) (xs : List A) (x : A) → listed text (xs ++ x ∷ []) ≡ listed text xs ++ (separator (length xs) ++ text x)
listed-push text [] x = append-nil (text x)
listed-push text (y ∷ ys) x =
    let some : eqb (suc (length ys)) 0 ≡ false = ne_eqb _ _ (λ e. omega arith) in
    rw (some, flat_map-append (later text) ys (x ∷ []), append-nil (later text x)) (sym (append_assoc (text y) (flat_map (later text) ys) (later text x)))

-- one more thing of a list
pub listed_more : {A : Type 0} (text : A → List ℕ) (xs : List A) (i : ℕ) (d : A) → i < length xs → listed text (take (i + 1) xs) ≡ listed text (take i xs) ++ (separator i ++ text (get_or xs i d))
listed_more text xs i d lt =
    let le : i ≤ length xs = omega arith in
    let count : length (take i xs) ≡ i = omega (arith, length-take i xs) in
    ap (λ l. listed text l) (take_more xs i d lt) ∙ listed-push text (take i xs) (get_or xs i d) ∙ ap (λ n. listed text (take i xs) ++ (separator n ++ text (get_or xs i d))) count

-- the same, where the thing is known by its place
pub listed_item : {A : Type 0} (text : A → List ℕ) (xs : List A) (i : ℕ) (x : A) → i < length xs → x ≡ get_or xs i x → listed text (take (i + 1) xs) ≡ listed text (take i xs) ++ (separator i ++ text x)
listed_item text xs i x lt is = listed_more text xs i x lt ∙ ap (λ y. listed text (take i xs) ++ (separator i ++ text y)) (sym is)

pub listed-map : {A B : Type 0} (text : B → List ℕ) (view : A → B) (xs : List A) → listed text (map view xs) ≡ listed (λ x. text (view x)) xs
listed-map text view [] = refl
listed-map text view (x ∷ xs) = ap (λ l. text (view x) ++ l) (flat_map-map (later text) view xs)

-- ---- text that grows

pub grows_none : (text : Text) → Grows text [] text
grows_none text = record { whole = λ h. h; bytes = λ h. sym (append-nil (string_bytes text.string)) }

pub joined : {old now new : Text} {front back : List ℕ} → Grows old front now → Grows now back new → Grows old (front ++ back) new
joined {old = old} {front = front} {back = back} first second = record {
  whole = λ h. first.whole (second.whole h);
  bytes = λ h. second.bytes h ∙ ap (λ (l : List ℕ). l ++ back) (first.bytes (second.whole h)) ∙ append_assoc (string_bytes old.string) front back;
}

pub grows_as : {old new : Text} {more other : List ℕ} → more ≡ other → Grows old more new → Grows old other new
grows_as same h = rw (← same) h

-- after a refusal nothing is said
pub grows_refused : {old new : Text} (more : List ℕ) → new.refused ≡ true → Grows old more new
grows_refused more refused = record { whole = λ h. absurd (true≢false (sym refused ∙ h)); bytes = λ h. absurd (true≢false (sym refused ∙ h)) }

-- a piece, and then two at once
pub joined_two : {old now new : Text} {front : List ℕ} (middle back : List ℕ) → Grows old front now → Grows now (middle ++ back) new → Grows old (front ++ middle ++ back) new
joined_two {front = front} middle back first second = grows_as (sym (append_assoc front middle back)) (joined first second)

-- appended to nothing, it is all of the text
pub all_grown : {old new : Text} {more : List ℕ} (whole : String Global) → string_bytes old.string ≡ [] → Grows old more new → new.refused ≡ false → whole ≡ new.string → string_bytes whole ≡ more
all_grown {more = more} whole empty h none is = ap (λ (s : String Global). string_bytes s) is ∙ h.bytes none ∙ ap (λ (l : List ℕ). l ++ more) empty

-- two pieces more
pub grown : {start now parted whole : Text} {before after separator piece : List ℕ} → after ≡ before ++ (separator ++ piece) → Grows start before now → Grows now separator parted → Grows parted piece whole → Grows start after whole
grown law first part one = grows_as (sym law) (joined first (joined part one))

-- all things of a list
pub listed_end : {A B : Type 0} (text : B → List ℕ) (view : A → B) (xs : List A) (i : ℕ) {start whole : Text} → length xs ≤ i → Grows start (listed (λ x. text (view x)) (take i xs)) whole → Grows start (listed text (map view xs)) whole
listed_end text view xs i past h = grows_as (ap (λ l. listed (λ x. text (view x)) l) (take_all i xs past) ∙ sym (listed-map text view xs)) h

-- ---- strings

-- a character more
pub more_quoted : (cs : List ℕ) (c : ℕ) {start written whole : Text} → Grows start (flat_map quoted cs) written → Grows written (quoted c) whole → Grows start (flat_map quoted (cs ++ c ∷ [])) whole
more_quoted cs c p q = grows_as (sym (flat_map-append quoted cs (c ∷ []) ∙ ap (λ (l : List ℕ). flat_map quoted cs ++ l) (append-nil (quoted c)))) (joined p q)

pub all_quoted : (text cs : List ℕ) {start whole : Text} → cs ≡ chars text → Grows start (flat_map quoted cs) whole → Grows start (flat_map quoted (chars text)) whole
all_quoted text cs same p = grows_as (ap (flat_map quoted) same) p

both_of : (s t : Bool) → (s && t) ≡ true → (s ≡ true) × (t ≡ true)
both_of true t h = (refl, h)
both_of false t h = absurd (true≢false (sym h))

-- the last of four, where none of the others is chosen
last : (a b d : Bool) (x y z w : List ℕ) → not (a || (b || d)) ≡ true → (if a then x else (if b then y else (if d then z else w))) ≡ w
last true b d x y z w h = absurd (true≢false (sym h))
last false true d x y z w h = absurd (true≢false (sym h))
last false false true x y z w h = absurd (true≢false (sym h))
last false false false x y z w h = refl

-- a character that stands for itself
plain_quoted : (c : ℕ) → is_plain c ≡ true → quoted c ≡ encode_utf8 c
plain_quoted c h = last (c == 34) (c == 92) (nat_lt c 32 || (c == 127)) _ _ _ _ h

-- a character above 127 stands for itself
above_ascii : (c : ℕ) → 127 < c → is_plain c ≡ true
above_ascii c h = grind arith

-- a character whose bytes stand for themselves
plain_character : (c : ℕ) → list_all is_plain (encode_utf8 c) ≡ true → quoted c ≡ encode_utf8 c
plain_character c h =
    let alone : c < 128 → is_plain c ≡ true = λ lt. (both_of (is_plain c) true (ap (list_all is_plain) (sym (encode_ascii c lt)) ∙ h)).0 in
    plain_quoted c (⊎_elim (λ e. alone (omega (arith, e))) (⊎_elim (λ lt. alone (omega (arith, lt))) (λ gt. above_ascii c gt)) (cases_order c 127))

-- characters whose bytes stand for themselves
plain_characters : (cs : List ℕ) → list_all is_plain (encodes cs) ≡ true → flat_map quoted cs ≡ encodes cs
plain_characters [] h = refl
plain_characters (c ∷ cs) h =
    let both = both_of (list_all is_plain (encode_utf8 c)) (list_all is_plain (encodes cs)) (sym (list_all-append is_plain (encode_utf8 c) (encodes cs)) ∙ h) in
    ap (λ (l : List ℕ). l ++ flat_map quoted cs) (plain_character c both.0) ∙ ap (λ (l : List ℕ). encode_utf8 c ++ l) (plain_characters cs both.1)

-- a text whose bytes stand for themselves
pub plain_text : (text : List ℕ) → IsUtf8 text → list_all is_plain text ≡ true → text ≡ flat_map quoted (chars text)
plain_text text utf8 h =
    let spelled = encodes-chars text utf8 in
    sym (plain_characters (chars text) (ap (list_all is_plain) spelled ∙ h) ∙ spelled)

-- ---- data as they are

pub all_raw : (bytes : List ℕ) {start written whole : Text} → eqb (length bytes) 0 ≡ false → Grows start (codes " raw ") written → Grows written (encode_lower bytes) whole → Grows start (raw_text bytes) whole
all_raw [] some p q = cc
all_raw (byte ∷ bytes) some p q = joined p q

-- ---- data

-- a datum more
pub data_more : (items : List Datum) (i : ℕ) (x : Datum) {start written parted whole : Text} → i < length items → x ≡ get_or items i x → Grows start (data_text (meanings (take i items))) written → Grows written (codes " ") parted
    → Grows parted (datum_text (datum_meaning x)) whole → Grows start (data_text (meanings (take (i + 1) items))) whole
data_more items i x lt here p q r =
    let spaced : DatumMeaning → List ℕ = λ m. codes " " ++ datum_text m in
    let split : meanings (take (i + 1) items) ≡ meanings (take i items) ++ datum_meaning x ∷ [] =
    ap (λ (l : List Datum). meanings l) (take_more items i x lt ∙ ap (λ (y : Datum). take i items ++ y ∷ []) (sym here)) ∙ map-append datum_meaning (take i items) (x ∷ []) in
    let after : data_text (meanings (take (i + 1) items)) ≡ data_text (meanings (take i items)) ++ (codes " " ++ datum_text (datum_meaning x)) =
    ap (λ (l : List DatumMeaning). data_text l) split ∙ flat_map-append spaced (meanings (take i items)) (datum_meaning x ∷ [])
    ∙ ap (λ (l : List ℕ). data_text (meanings (take i items)) ++ l) (append-nil (spaced (datum_meaning x))) in
    grown after p q r

pub data_end : (items : List Datum) (i : ℕ) {start whole : Text} → length items ≤ i → Grows start (data_text (meanings (take i items))) whole → Grows start (data_text (meanings items)) whole
data_end items i past h = grows_as (ap (λ (l : List Datum). data_text (meanings l)) (take_all i items past)) h
