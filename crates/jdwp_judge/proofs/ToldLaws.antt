-- What is told when one item more comes.
use Rattle.std.proofs.Common.{◌≡◌, ℕ, true, cond, List, [], ◌∷◌, ◌++◌, Option, Some, None, is_some, refl, sym, ap, ◌∙◌, append_assoc, append-nil}
use Rattle.std.specs.Option.{option_or, option_flatten}
use Rattle.jdwp_wire.specs.Widths.{Widths}
use Rattle.jdwp_show.specs.declared.capture_fault.CaptureFault.{CaptureFault}
use Rattle.jdwp_show.specs.declared.table.Table.{Table}
use Rattle.jdwp_show.specs.declared.terms.Terms.{Terms}
use Rattle.jdwp_show.specs.CaptureLines.{lines_after}
use Rattle.jdwp_show.specs.Items.{Item}
use Rattle.jdwp_show.specs.MessageLines.{found_line}
use Rattle.jdwp_show.specs.Rules.{waiting_for, fault_of}
use Rattle.jdwp_show.specs.Sessions.{first_after, unanswered, widths_answer, widths_of, fault_answer}
use Rattle.jdwp_show.specs.Tables.{terms_by}
use Rattle.jdwp_judge.specs.Told.{widths_wanted, settled, known_by, known, lines_under, fault_under, lines_told, fault_told}
use Rattle.jdwp_judge.specs.Standing.{IsBeforeWanting, Parted, Standing, lines_behind, fault_behind}
use Rattle.jdwp_judge.proofs.SameLaws.{SameItem, same_item}

-- ---- questions of items in a row

or_assoc : {A : Type 0} (x y z : Option A) → option_or (option_or x y) z ≡ option_or x (option_or y z)
or_assoc (Some a) y z = refl
or_assoc None y z = refl

or_none : {A : Type 0} (x y : Option A) → option_or x y ≡ None → (x ≡ None) × (y ≡ None)
or_none None y e = (refl, e)
or_none (Some a) y e = cc

pub first-append : {A : Type 0} (ask : List Item → Item → Option A) (before xs ys : List Item) → first_after ask before (xs ++ ys) ≡ option_or (first_after ask before xs) (first_after ask (before ++ xs) ys)
unfolding first_after
first-append ask before [] ys = ap (λ (b : List Item). first_after ask b ys) (sym (append-nil before))
first-append ask before (x ∷ xs) ys =
    ap (λ o. option_or (ask before x) o) (first-append ask (before ++ x ∷ []) xs ys ∙ ap (λ (b : List Item). option_or (first_after ask (before ++ x ∷ []) xs) (first_after ask b ys)) (append_assoc before (x ∷ []) xs))
    ∙ sym (or_assoc (ask before x) (first_after ask (before ++ x ∷ []) xs) (first_after ask (before ++ (x ∷ xs)) ys))

pub first_more : {A : Type 0} (ask : List Item → Item → Option A) (before xs ys : List Item) → first_after ask before xs ≡ None → first_after ask before (xs ++ ys) ≡ first_after ask (before ++ xs) ys
first_more ask before xs ys none = first-append ask before xs ys ∙ ap (λ o. option_or o (first_after ask (before ++ xs) ys)) none

pub first_stops : {A : Type 0} (ask : List Item → Item → Option A) (before xs ys : List Item) (a : A) → first_after ask before xs ≡ Some a → first_after ask before (xs ++ ys) ≡ Some a
first_stops ask before xs ys a some = first-append ask before xs ys ∙ ap (λ o. option_or o (first_after ask (before ++ xs) ys)) some

or_nothing : {A : Type 0} (o : Option A) → option_or o None ≡ o
or_nothing (Some a) = refl
or_nothing None = refl

pub first_one : {A : Type 0} (ask : List Item → Item → Option A) (before : List Item) (x : Item) → first_after ask before (x ∷ []) ≡ ask before x
unfolding first_after
first_one ask before x = or_nothing (ask before x)

pub unanswered_more : {A : Type 0} (ask : List Item → Item → Option A) (before xs ys : List Item) → first_after ask before xs ≡ None → unanswered ask before (xs ++ ys) ≡ xs ++ unanswered ask (before ++ xs) ys
unfolding first_after unanswered
unanswered_more ask before [] ys none = ap (λ (b : List Item). unanswered ask b ys) (sym (append-nil before))
unanswered_more ask before (x ∷ xs) ys none =
    let a = or_none (ask before x) (first_after ask (before ++ x ∷ []) xs) none in
    let rest = unanswered_more ask (before ++ x ∷ []) xs ys a.1 ∙ ap (λ (b : List Item). xs ++ unanswered ask b ys) (append_assoc before (x ∷ []) xs) in
    ap (λ (o : Option _). cond (is_some o) [] (x ∷ unanswered ask (before ++ x ∷ []) (xs ++ ys))) a.0 ∙ ap (λ (l : List Item). x ∷ l) rest

stops_at : {A : Type 0} (ask : List Item → Item → Option A) (before : List Item) (x : Item) (xs ys : List Item) (a : A) (o : Option A) → ask before x ≡ o → option_or o (first_after ask (before ++ x ∷ []) xs) ≡ Some a
    → (first_after ask (before ++ x ∷ []) xs ≡ Some a → unanswered ask (before ++ x ∷ []) (xs ++ ys) ≡ unanswered ask (before ++ x ∷ []) xs) → unanswered ask before ((x ∷ xs) ++ ys) ≡ unanswered ask before (x ∷ xs)
unfolding first_after unanswered
stops_at ask before x xs ys a (Some b) is some later = rw is refl
stops_at ask before x xs ys a None is some later = rw is (ap (λ (l : List Item). x ∷ l) (later some))

pub unanswered_stops : {A : Type 0} (ask : List Item → Item → Option A) (before xs ys : List Item) (a : A) → first_after ask before xs ≡ Some a → unanswered ask before (xs ++ ys) ≡ unanswered ask before xs
unfolding first_after
unanswered_stops ask before [] ys a some = cc
unanswered_stops ask before (x ∷ xs) ys a some = stops_at ask before x xs ys a (ask before x) refl some (λ h. unanswered_stops ask (before ++ x ∷ []) xs ys a h)

unanswered_none : {A : Type 0} (ask : List Item → Item → Option A) (before : List Item) → unanswered ask before [] ≡ []
unfolding unanswered
unanswered_none ask before = refl

pub unanswered_all : {A : Type 0} (ask : List Item → Item → Option A) (before xs : List Item) → first_after ask before xs ≡ None → unanswered ask before xs ≡ xs
unanswered_all ask before xs none =
    ap (λ (l : List Item). unanswered ask before l) (sym (append-nil xs)) ∙ unanswered_more ask before xs [] none ∙ ap (λ (l : List Item). xs ++ l) (unanswered_none ask (before ++ xs)) ∙ append-nil xs

pub unanswered_here : {A : Type 0} (ask : List Item → Item → Option A) (before : List Item) (x : Item) (xs : List Item) (a : A) → ask before x ≡ Some a → unanswered ask before (x ∷ xs) ≡ []
unfolding unanswered
unanswered_here ask before x xs a some = rw some refl

-- ---- lines

pub lines-append : (w : Terms) (before xs ys : List Item) → lines_after w before (xs ++ ys) ≡ lines_after w before xs ++ lines_after w (before ++ xs) ys
unfolding lines_after
lines-append w before [] ys = ap (λ (b : List Item). lines_after w b ys) (sym (append-nil before))
lines-append w before (x ∷ xs) ys =
    let line = found_line w (waiting_for before x.found) x.sender x.found in
    ap (λ (l : List ℕ). line ++ l) (lines-append w (before ++ x ∷ []) xs ys ∙ ap (λ (b : List Item). lines_after w (before ++ x ∷ []) xs ++ lines_after w b ys) (append_assoc before (x ∷ []) xs))
    ∙ sym (append_assoc line (lines_after w (before ++ x ∷ []) xs) (lines_after w (before ++ (x ∷ xs)) ys))

-- behind items of which none breaks a rule
pub told_more : (w : Terms) (before xs ys : List Item) → fault_behind w before xs ≡ None → lines_behind w before (xs ++ ys) ≡ lines_after w before xs ++ lines_behind w (before ++ xs) ys
told_more w before xs ys none = ap (λ (l : List Item). lines_after w before l) (unanswered_more (fault_answer w) before xs ys none) ∙ lines-append w before xs (unanswered (fault_answer w) (before ++ xs) ys)

pub told_all : (w : Terms) (before xs : List Item) → fault_behind w before xs ≡ None → lines_behind w before xs ≡ lines_after w before xs
told_all w before xs none = ap (λ (l : List Item). lines_after w before l) (unanswered_all (fault_answer w) before xs none)

pub told_stops : (w : Terms) (before xs ys : List Item) (p : ℕ × CaptureFault) → fault_behind w before xs ≡ Some p → lines_behind w before (xs ++ ys) ≡ lines_behind w before xs
told_stops w before xs ys p some = ap (λ (l : List Item). lines_after w before l) (unanswered_stops (fault_answer w) before xs ys p some)

-- ---- items that do not want the widths, under any widths

pub record SameItems (table : Table) (w : Option Widths) (before items : List Item) : Type 0 where
  pub fault : fault_behind (terms_by table w) before items ≡ fault_behind (terms_by table None) before items
  pub lines : lines_behind (terms_by table w) before items ≡ lines_behind (terms_by table None) before items

same_none : (table : Table) (w : Option Widths) (before : List Item) → SameItems table w before []
unfolding first_after unanswered lines_after
same_none table w before = record { fault = refl; lines = refl }

same_broken : (table : Table) (w : Option Widths) (before : List Item) (x : Item) (xs : List Item) (f : CaptureFault) → fault_of (terms_by table w) before x ≡ Some f → fault_of (terms_by table None) before x ≡ Some f → SameItems table w before (x ∷ xs)
unfolding first_after unanswered lines_after
same_broken table w before x xs f here there = record { fault = rw (here, there) refl; lines = rw (here, there) refl }

same_holding : (table : Table) (w : Option Widths) (before : List Item) (x : Item) (xs : List Item) → fault_of (terms_by table w) before x ≡ None → fault_of (terms_by table None) before x ≡ None
    → found_line (terms_by table w) (waiting_for before x.found) x.sender x.found ≡ found_line (terms_by table None) (waiting_for before x.found) x.sender x.found → SameItems table w (before ++ x ∷ []) xs → SameItems table w before (x ∷ xs)
unfolding first_after unanswered lines_after
same_holding table w before x xs here there line later = record {
  fault = rw (here, there) later.fault;
  lines = rw (here, there, line) (ap (λ (l : List ℕ). found_line (terms_by table None) (waiting_for before x.found) x.sender x.found ++ l) later.lines);
}

same_by : (table : Table) (w : Option Widths) (before : List Item) (x : Item) (xs : List Item) (o : Option CaptureFault) → fault_of (terms_by table None) before x ≡ o → SameItem table w before x → SameItems table w (before ++ x ∷ []) xs → SameItems table w before (x ∷ xs)
same_by table w before x xs (Some f) is same later = same_broken table w before x xs f (same.fault ∙ is) is
same_by table w before x xs None is same later = same_holding table w before x xs (same.fault ∙ is) is (same.line is) later

pub same_items : (table : Table) (w : Option Widths) (before items : List Item) → first_after (widths_wanted table) before items ≡ None → first_after widths_answer before items ≡ None → SameItems table w before items
unfolding first_after
same_items table w before [] wants settles = same_none table w before
same_items table w before (x ∷ xs) wants settles =
    let a = or_none (widths_wanted table before x) (first_after (widths_wanted table) (before ++ x ∷ []) xs) wants in
    let b = or_none (widths_answer before x) (first_after widths_answer (before ++ x ∷ []) xs) settles in
    same_by table w before x xs (fault_of (terms_by table None) before x) refl (same_item table w before x a.0 b.0) (same_items table w (before ++ x ∷ []) xs a.1 b.1)

-- ---- what is known and what waits

wanting_known : (table : Table) (front behind : List Item) → IsBeforeWanting table front behind → unanswered (widths_wanted table) [] (front ++ behind) ≡ front
wanting_known table front behind h = unanswered_more (widths_wanted table) [] front behind h.none_wants ∙ ap (λ (l : List Item). front ++ l) h.none_known ∙ append-nil front

known_parted : (table : Table) (s : Option (Option Widths)) (front behind : List Item) → Parted table s front behind → known_by table s (front ++ behind) ≡ front
known_parted table (Some w) front behind p = ap (λ (l : List Item). front ++ l) (p.all_known refl) ∙ append-nil front
known_parted table None front behind p = wanting_known table front behind (p.known refl)

-- every list of items is parted so
record PartedBehind (table : Table) (before items : List Item) : Type 0 where
  front : List Item
  behind : List Item
  in_order : items ≡ front ++ behind
  none_wants : first_after (widths_wanted table) before front ≡ None
  none_known : unanswered (widths_wanted table) (before ++ front) behind ≡ []

parted_none : (table : Table) (before : List Item) → PartedBehind table before []
unfolding first_after unanswered
parted_none table before = record { front = []; behind = []; in_order = refl; none_wants = refl; none_known = refl }

parted_by : (table : Table) (before : List Item) (x : Item) (xs : List Item) (o : Option Item) → widths_wanted table before x ≡ o → PartedBehind table (before ++ x ∷ []) xs → PartedBehind table before (x ∷ xs)
unfolding first_after
parted_by table before x xs (Some y) is later = record {
  front = [];
  behind = x ∷ xs;
  in_order = refl;
  none_wants = refl;
  none_known = ap (λ (b : List Item). unanswered (widths_wanted table) b (x ∷ xs)) (append-nil before) ∙ unanswered_here (widths_wanted table) before x xs y is;
}
parted_by table before x xs None is later = record {
  front = x ∷ later.front;
  behind = later.behind;
  in_order = ap (λ (l : List Item). x ∷ l) later.in_order;
  none_wants = ap (λ (o : Option Item). option_or o (first_after (widths_wanted table) (before ++ x ∷ []) later.front)) is ∙ later.none_wants;
  none_known = ap (λ (b : List Item). unanswered (widths_wanted table) b later.behind) (sym (append_assoc before (x ∷ []) later.front)) ∙ later.none_known;
}

parted : (table : Table) (before items : List Item) → PartedBehind table before items
parted table before [] = parted_none table before
parted table before (x ∷ xs) = parted_by table before x xs (widths_wanted table before x) refl (parted table (before ++ x ∷ []) xs)

-- ---- more items

settled_more : (items more : List Item) (s : Option (Option Widths)) → settled items ≡ s → settled (items ++ more) ≡ option_or s (first_after widths_answer items more)
settled_more items more s is = first-append widths_answer [] items more ∙ ap (λ (o : Option (Option Widths)). option_or o (first_after widths_answer items more)) is

-- the beginning of what does not settle the widths does not
unsettled_front : (front behind : List Item) → settled (front ++ behind) ≡ None → first_after widths_answer [] front ≡ None
unsettled_front front behind e = (or_none (first_after widths_answer [] front) (first_after widths_answer front behind) (sym (first-append widths_answer [] front behind) ∙ e)).0

-- Items are told alike under the widths that were sure and those that are.
pub record SameUnder (table : Table) (v w : Option Widths) (items : List Item) : Type 0 where
  pub fault : fault_behind (terms_by table v) [] items ≡ fault_behind (terms_by table w) [] items
  pub lines : lines_behind (terms_by table v) [] items ≡ lines_behind (terms_by table w) [] items

same_widths : (table : Table) (v w : Option Widths) (items : List Item) → v ≡ w → SameUnder table v w items
same_widths table v w items e = record { fault = ap (λ (x : Option Widths). fault_behind (terms_by table x) [] items) e; lines = ap (λ (x : Option Widths). lines_behind (terms_by table x) [] items) e }

same_front : (table : Table) (s later : Option (Option Widths)) (front behind : List Item) → settled (front ++ behind) ≡ s → (s ≡ None → first_after (widths_wanted table) [] front ≡ None) → SameUnder table (option_flatten (option_or s later)) (option_flatten s) front
same_front table (Some v) later front behind is known = same_widths table v v front refl
same_front table None later front behind is known =
    let h = same_items table (option_flatten later) [] front (known refl) (unsettled_front front behind is) in
    record { fault = h.fault; lines = h.lines }

no_fault : {o : Option (ℕ × CaptureFault)} {p : ℕ × CaptureFault} → o ≡ None → o ≡ Some p → ⊥
no_fault e f = cc

-- of lines under widths, a beginning and what follows
record Begins (table : Table) (v w : Option Widths) (front more : List Item) : Type 0 where
  rest : List ℕ
  goes_on : lines_behind (terms_by table v) [] (front ++ more) ≡ lines_behind (terms_by table w) [] front ++ rest
  stops : (p : ℕ × CaptureFault) → fault_behind (terms_by table w) [] front ≡ Some p → (fault_behind (terms_by table v) [] (front ++ more) ≡ Some p) × (rest ≡ [])

begins_by : (table : Table) (v w : Option Widths) (front more : List Item) (o : Option (ℕ × CaptureFault)) → fault_behind (terms_by table w) [] front ≡ o → SameUnder table v w front → Begins table v w front more
begins_by table v w front more (Some p) is same = record {
  rest = [];
  goes_on = told_stops (terms_by table v) [] front more p (same.fault ∙ is) ∙ same.lines ∙ sym (append-nil (lines_behind (terms_by table w) [] front));
  stops = λ q e. (first_stops (fault_answer (terms_by table v)) [] front more q (same.fault ∙ e), refl);
}
begins_by table v w front more None is same = record {
  rest = lines_behind (terms_by table v) front more;
  goes_on = told_more (terms_by table v) [] front more (same.fault ∙ is) ∙ ap (λ (l : List ℕ). l ++ lines_behind (terms_by table v) front more) (sym (told_all (terms_by table v) [] front (same.fault ∙ is)) ∙ same.lines);
  stops = λ q e. absurd (no_fault is e);
}

-- what is known of more items
record KnownMore (table : Table) (s later : Option (Option Widths)) (items more : List Item) : Type 0 where
  front : List Item
  behind : List Item
  in_order : items ≡ front ++ behind
  front_is : known_by table s items ≡ front
  added : List Item
  known_is : known_by table (option_or s later) (items ++ more) ≡ front ++ added
  none_wants : s ≡ None → first_after (widths_wanted table) [] front ≡ None

known_later : (table : Table) (later : Option (Option Widths)) (items more : List Item) → PartedBehind table [] items → KnownMore table None later items more
known_later table (Some w) items more p = record {
  front = p.front;
  behind = p.behind;
  in_order = p.in_order;
  front_is = ap (λ (l : List Item). unanswered (widths_wanted table) [] l) p.in_order ∙ wanting_known table p.front p.behind (record { none_wants = p.none_wants; none_known = p.none_known });
  added = p.behind ++ more;
  known_is = ap (λ (l : List Item). l ++ more) p.in_order ∙ append_assoc p.front p.behind more;
  none_wants = λ _. p.none_wants;
}
known_later table None items more p = record {
  front = p.front;
  behind = p.behind;
  in_order = p.in_order;
  front_is = ap (λ (l : List Item). unanswered (widths_wanted table) [] l) p.in_order ∙ wanting_known table p.front p.behind (record { none_wants = p.none_wants; none_known = p.none_known });
  added = unanswered (widths_wanted table) p.front (p.behind ++ more);
  known_is = ap (λ (l : List Item). unanswered (widths_wanted table) [] l) (ap (λ (l : List Item). l ++ more) p.in_order ∙ append_assoc p.front p.behind more) ∙ unanswered_more (widths_wanted table) [] p.front (p.behind ++ more) p.none_wants;
  none_wants = λ _. p.none_wants;
}

known_more : (table : Table) (s later : Option (Option Widths)) (items more : List Item) → KnownMore table s later items more
known_more table (Some w) later items more = record {
  front = items;
  behind = [];
  in_order = sym (append-nil items);
  front_is = refl;
  added = more;
  known_is = refl;
  none_wants = λ e. absurd cc;
}
known_more table None later items more = known_later table later items more (parted table [] items)

-- ---- what was told stays so

-- More items only add lines, and none behind a fault.
pub record GoesOn (table : Table) (items more : List Item) : Type 0 where
  pub rest : List ℕ
  pub lines : lines_told table (items ++ more) ≡ lines_told table items ++ rest
  pub fault : (p : ℕ × CaptureFault) → fault_told table items ≡ Some p → (fault_told table (items ++ more) ≡ Some p) × (rest ≡ [])

pub goes_on : (table : Table) (items more : List Item) → GoesOn table items more
goes_on table items more =
    let s = settled items in
    let later = first_after widths_answer items more in
    let k = known_more table s later items more in
    let v = option_flatten (option_or s later) in
    let w = option_flatten s in
    let now : settled (items ++ more) ≡ option_or s later = settled_more items more s refl in
    let b = begins_by table v w k.front k.added (fault_behind (terms_by table w) [] k.front) refl (same_front table s later k.front k.behind (ap (λ (l : List Item). settled l) (sym k.in_order)) k.none_wants) in
    let lines_then : lines_told table (items ++ more) ≡ lines_behind (terms_by table v) [] (k.front ++ k.added) =
    ap (λ (x : Option (Option Widths)). lines_under (terms_by table (option_flatten x)) (known_by table x (items ++ more))) now ∙ ap (λ (l : List Item). lines_under (terms_by table v) l) k.known_is in
    let fault_then : fault_told table (items ++ more) ≡ fault_behind (terms_by table v) [] (k.front ++ k.added) =
    ap (λ (x : Option (Option Widths)). fault_under (terms_by table (option_flatten x)) (known_by table x (items ++ more))) now ∙ ap (λ (l : List Item). fault_under (terms_by table v) l) k.known_is in
    let lines_now : lines_told table items ≡ lines_behind (terms_by table w) [] k.front = ap (λ (l : List Item). lines_under (terms_by table w) l) k.front_is in
    let fault_now : fault_told table items ≡ fault_behind (terms_by table w) [] k.front = ap (λ (l : List Item). fault_under (terms_by table w) l) k.front_is in
    record {
      rest = b.rest;
      lines = lines_then ∙ b.goes_on ∙ ap (λ (l : List ℕ). l ++ b.rest) (sym lines_now);
      fault = λ p e. let q = b.stops p (sym fault_now ∙ e) in (fault_then ∙ q.0, q.1);
    }

-- What is told is a beginning of what is said of all items once no more come.
pub record IsBeginning (table : Table) (items : List Item) : Type 0 where
  pub rest : List ℕ
  pub lines : lines_under (terms_by table (widths_of items)) items ≡ lines_told table items ++ rest
  pub fault : (p : ℕ × CaptureFault) → fault_told table items ≡ Some p → (fault_under (terms_by table (widths_of items)) items ≡ Some p) × (rest ≡ [])

pub is_beginning : (table : Table) (items : List Item) → IsBeginning table items
is_beginning table items =
    let s = settled items in
    let k = known_more table s None items [] in
    let w = option_flatten s in
    let b = begins_by table w w k.front k.behind (fault_behind (terms_by table w) [] k.front) refl (same_widths table w w k.front refl) in
    let lines_now : lines_told table items ≡ lines_behind (terms_by table w) [] k.front = ap (λ (l : List Item). lines_under (terms_by table w) l) k.front_is in
    let fault_now : fault_told table items ≡ fault_behind (terms_by table w) [] k.front = ap (λ (l : List Item). fault_under (terms_by table w) l) k.front_is in
    record {
      rest = b.rest;
      lines = ap (λ (l : List Item). lines_under (terms_by table w) l) k.in_order ∙ b.goes_on ∙ ap (λ (l : List ℕ). l ++ b.rest) (sym lines_now);
      fault = λ p e. let q = b.stops p (sym fault_now ∙ e) in (ap (λ (l : List Item). fault_under (terms_by table w) l) k.in_order ∙ q.0, q.1);
    }

-- ---- while no fault is told

pub standing_known : (table : Table) (items : List Item) (s : Option (Option Widths)) (front behind : List Item) → Standing table items s front behind → known_by table s items ≡ front
standing_known table items s front behind h = ap (λ (l : List Item). known_by table s l) h.in_order ∙ known_parted table s front behind h.parted

pub standing_lines : (table : Table) (items : List Item) (s : Option (Option Widths)) (front behind : List Item) → Standing table items s front behind → lines_told table items ≡ lines_after (terms_by table (option_flatten s)) [] front
standing_lines table items s front behind h =
    ap (λ (x : Option (Option Widths)). lines_under (terms_by table (option_flatten x)) (known_by table x items)) h.settled_is
    ∙ ap (λ (l : List Item). lines_under (terms_by table (option_flatten s)) l) (standing_known table items s front behind h) ∙ told_all (terms_by table (option_flatten s)) [] front h.none_breaks

pub standing_fault : (table : Table) (items : List Item) (s : Option (Option Widths)) (front behind : List Item) → Standing table items s front behind → fault_told table items ≡ None
standing_fault table items s front behind h =
    ap (λ (x : Option (Option Widths)). fault_under (terms_by table (option_flatten x)) (known_by table x items)) h.settled_is
    ∙ ap (λ (l : List Item). fault_under (terms_by table (option_flatten s)) l) (standing_known table items s front behind h) ∙ h.none_breaks

-- an item that is told now, with those that waited
pub record Released (table : Table) (items : List Item) (item : Item) (s : Option (Option Widths)) (front now : List Item) : Type 0 where
  pub lines : lines_told table (items ++ item ∷ []) ≡ lines_told table items ++ lines_behind (terms_by table (option_flatten s)) front now
  pub fault : fault_told table (items ++ item ∷ []) ≡ fault_behind (terms_by table (option_flatten s)) front now
  pub standing : fault_behind (terms_by table (option_flatten s)) front now ≡ None → Standing table (items ++ item ∷ []) s (items ++ item ∷ []) []

all_known_by : (table : Table) (s : Option (Option Widths)) (items front now : List Item) → items ≡ front ++ now → (s ≡ None → first_after (widths_wanted table) [] front ≡ None) → (s ≡ None → first_after (widths_wanted table) front now ≡ None)
    → (known_by table s items ≡ items) × Parted table s items []
all_known_by table (Some w) items front now is none ready = (refl, record { all_known = λ _. refl; known = λ e. absurd cc })
all_known_by table None items front now is none ready =
    let e : first_after (widths_wanted table) [] items ≡ None = ap (λ (l : List Item). first_after (widths_wanted table) [] l) is ∙ first_more (widths_wanted table) [] front now (none refl) ∙ ready refl in
    (unanswered_all (widths_wanted table) [] items e, record { all_known = λ e. absurd cc; known = λ _. record { none_wants = e; none_known = unanswered_none (widths_wanted table) items } })

none_before : (s later : Option (Option Widths)) → option_or s later ≡ None → s ≡ None
none_before None later e = refl
none_before (Some w) later e = absurd cc

pub released : (table : Table) (items : List Item) (item : Item) (s : Option (Option Widths)) (front behind : List Item) → Standing table items s front behind
    → (option_or s (widths_answer items item) ≡ None → first_after (widths_wanted table) front (behind ++ item ∷ []) ≡ None) → Released table items item (option_or s (widths_answer items item)) front (behind ++ item ∷ [])
released table items item s front behind h ready =
    let all = items ++ item ∷ [] in
    let now = behind ++ item ∷ [] in
    let later = widths_answer items item in
    let t = option_or s later in
    let v = option_flatten t in
    let order : all ≡ front ++ now = ap (λ (l : List Item). l ++ item ∷ []) h.in_order ∙ append_assoc front behind (item ∷ []) in
    let settles : settled all ≡ t = settled_more items (item ∷ []) s h.settled_is ∙ ap (λ (o : Option (Option Widths)). option_or s o) (first_one widths_answer items item) in
    let known = all_known_by table t all front now order (λ e. (h.parted.known (none_before s later e)).none_wants) ready in
    let same = same_front table s later front behind (ap (λ (l : List Item). settled l) (sym h.in_order) ∙ h.settled_is) (λ e. (h.parted.known e).none_wants) in
    let holds : fault_behind (terms_by table v) [] front ≡ None = same.fault ∙ h.none_breaks in
    let lines_front : lines_after (terms_by table v) [] front ≡ lines_told table items =
    sym (told_all (terms_by table v) [] front holds) ∙ same.lines ∙ told_all (terms_by table (option_flatten s)) [] front h.none_breaks ∙ sym (standing_lines table items s front behind h) in
    let fault_all : fault_behind (terms_by table v) [] all ≡ fault_behind (terms_by table v) front now = ap (λ (l : List Item). fault_behind (terms_by table v) [] l) order ∙ first_more (fault_answer (terms_by table v)) [] front now holds in
    record {
      lines = ap (λ (x : Option (Option Widths)). lines_under (terms_by table (option_flatten x)) (known_by table x all)) settles ∙ ap (λ (l : List Item). lines_under (terms_by table v) l) known.0
          ∙ ap (λ (l : List Item). lines_behind (terms_by table v) [] l) order ∙ told_more (terms_by table v) [] front now holds ∙ ap (λ (l : List ℕ). l ++ lines_behind (terms_by table v) front now) lines_front;
      fault = ap (λ (x : Option (Option Widths)). fault_under (terms_by table (option_flatten x)) (known_by table x all)) settles ∙ ap (λ (l : List Item). fault_under (terms_by table v) l) known.0 ∙ fault_all;
      standing = λ none. record { in_order = sym (append-nil all); settled_is = settles; parted = known.1; none_breaks = fault_all ∙ none };
    }

some_none : {o : Option (Option Widths)} → o ≡ None → is_some o ≡ true → ⊥
some_none e f = cc

-- an item that waits, too
pub waiting_on : (table : Table) (items : List Item) (item : Item) (s : Option (Option Widths)) (front behind : List Item) → Standing table items s front behind → option_or s (widths_answer items item) ≡ None → unanswered (widths_wanted table) front (behind ++ item ∷ []) ≡ []
    → Standing table (items ++ item ∷ []) (option_or s (widths_answer items item)) front (behind ++ item ∷ []) × (lines_told table (items ++ item ∷ []) ≡ lines_told table items)
waiting_on table items item s front behind h none wants =
    let all = items ++ item ∷ [] in
    let now = behind ++ item ∷ [] in
    let later = widths_answer items item in
    let before : s ≡ None = none_before s later none in
    let order : all ≡ front ++ now = ap (λ (l : List Item). l ++ item ∷ []) h.in_order ∙ append_assoc front behind (item ∷ []) in
    let settles : settled all ≡ option_or s later = settled_more items (item ∷ []) s h.settled_is ∙ ap (λ (o : Option (Option Widths)). option_or s o) (first_one widths_answer items item) in
    let same : option_or s later ≡ s = none ∙ sym before in
    let stands : Standing table all (option_or s later) front now = record {
      in_order = order;
      settled_is = settles;
      parted = record { all_known = λ e. absurd (some_none none e); known = λ _. record { none_wants = (h.parted.known before).none_wants; none_known = wants } };
      none_breaks = rw same h.none_breaks;
    } in
    (stands, standing_lines table all _ front now stands ∙ ap (λ (x : Option (Option Widths)). lines_after (terms_by table (option_flatten x)) [] front) same ∙ sym (standing_lines table items s front behind h))

-- which of both it is
pub ready_alone : (table : Table) (items : List Item) (item : Item) (s : Option (Option Widths)) (front behind : List Item) → Standing table items s front behind → behind ≡ [] → widths_wanted table items item ≡ None → first_after (widths_wanted table) front (behind ++ item ∷ []) ≡ None
ready_alone table items item s front behind h none unwanted =
    let e : front ≡ items = sym (append-nil front) ∙ ap (λ (l : List Item). front ++ l) (sym none) ∙ sym h.in_order in
    ap (λ (l : List Item). first_after (widths_wanted table) front (l ++ item ∷ [])) none ∙ first_one (widths_wanted table) front item ∙ ap (λ (l : List Item). widths_wanted table l item) e ∙ unwanted

pub waits_alone : (table : Table) (items : List Item) (item : Item) (s : Option (Option Widths)) (front behind : List Item) (wanted : Item) → Standing table items s front behind → behind ≡ [] → widths_wanted table items item ≡ Some wanted → unanswered (widths_wanted table) front (behind ++ item ∷ []) ≡ []
waits_alone table items item s front behind wanted h none wants =
    let e : front ≡ items = sym (append-nil front) ∙ ap (λ (l : List Item). front ++ l) (sym none) ∙ sym h.in_order in
    ap (λ (l : List Item). unanswered (widths_wanted table) front (l ++ item ∷ [])) none ∙ unanswered_here (widths_wanted table) front item [] wanted (ap (λ (l : List Item). widths_wanted table l item) e ∙ wants)

waits_at : (table : Table) (front : List Item) (x : Item) (xs more : List Item) (o : Option Item) → widths_wanted table front x ≡ o → unanswered (widths_wanted table) front (x ∷ xs) ≡ [] → unanswered (widths_wanted table) front ((x ∷ xs) ++ more) ≡ []
unfolding unanswered
waits_at table front x xs more (Some y) is none = rw is refl
waits_at table front x xs more None is none = (let e : x ∷ unanswered (widths_wanted table) (front ++ x ∷ []) xs ≡ [] = rw is at none in absurd cc)

pub waits_behind : (table : Table) (front behind more : List Item) → (behind ≡ [] → ⊥) → unanswered (widths_wanted table) front behind ≡ [] → unanswered (widths_wanted table) front (behind ++ more) ≡ []
waits_behind table front [] more some none = absurd (some refl)
waits_behind table front (x ∷ xs) more some none = waits_at table front x xs more (widths_wanted table front x) refl none
