-- Each item stands in its line.
use Rattle.std.proofs.Common.{◌≡◌, ℕ, ◌+◌, ◌⊎◌, inl, inr, true, List, [], ◌∷◌, ◌++◌, length, map, refl, sym, ap, subst, ◌∙◌, append_assoc, arith}
use Rattle.std.proofs.lemmas.List.{length-append}
use Rattle.jdwp_show.specs.declared.capture_line.Sender.{Sender}
use Rattle.jdwp_show.specs.Found.{Found, found, found_after, found_within}
use Rattle.jdwp_show.specs.Items.{Item, item_at, completed, items_after, items_of, found_of, StandsIn}
use Rattle.jdwp_show.specs.Lines.{Line, is_same, sent_by}
use Rattle.jdwp_show.proofs.ItemLaws.{same_as_itself, of_this_end, line_adds, found_of-append}

-- ---- an item of two lists, one behind the other

record InFirst (xs earlier : List Item) (item : Item) : Type 0 where
  others : List Item
  is : xs ≡ earlier ++ item ∷ others

record InSecond (xs ys earlier : List Item) (item : Item) (later : List Item) : Type 0 where
  others : List Item
  behind : earlier ≡ xs ++ others
  is : ys ≡ others ++ item ∷ later

first_or_second : (xs ys earlier : List Item) (item : Item) (later : List Item) → xs ++ ys ≡ earlier ++ item ∷ later → InFirst xs earlier item ⊎ InSecond xs ys earlier item later
first_or_second [] ys earlier item later e = inr (record { others = earlier; behind = refl; is = e })
first_or_second (x ∷ xs) ys [] item later e = let same : x ≡ item = cc in inl (record { others = xs; is = ap (λ (i : Item). i ∷ xs) same })
first_or_second (x ∷ xs) ys (y ∷ earlier) item later e =
    let same : x ≡ y = cc in
    let rest : xs ++ ys ≡ earlier ++ item ∷ later = cc in
    elim (first_or_second xs ys earlier item later rest) [
      | inl h ↦ inl (record { others = h.others; is = rw (same, h.is) refl })
      | inr h ↦ inr (record { others = h.others; behind = rw (same, h.behind) refl; is = h.is })
    ]

-- ---- an item of a line

record OfLine (line : ℕ) (sender : Sender) (things : List Found) (earlier : List Item) (item : Item) : Type 0 where
  before : List Found
  thing : Found
  after : List Found
  things_are : things ≡ before ++ thing ∷ after
  earlier_is : earlier ≡ map (item_at line sender) before
  item_is : item ≡ item_at line sender thing

of_line : (line : ℕ) (sender : Sender) (things : List Found) (earlier : List Item) (item : Item) (later : List Item) → map (item_at line sender) things ≡ earlier ++ item ∷ later → OfLine line sender things earlier item
of_line line sender [] [] item later e = absurd cc
of_line line sender [] (y ∷ earlier) item later e = absurd cc
of_line line sender (x ∷ things) [] item later e =
    let same : item ≡ item_at line sender x = cc in
    record { before = []; thing = x; after = things; things_are = refl; earlier_is = refl; item_is = same }
of_line line sender (x ∷ things) (y ∷ earlier) item later e =
    let same : y ≡ item_at line sender x = cc in
    let rest : map (item_at line sender) things ≡ earlier ++ item ∷ later = cc in
    let h = of_line line sender things earlier item later rest in
    record {
      before = x ∷ h.before;
      thing = h.thing;
      after = h.after;
      things_are = ap (λ (l : List Found). x ∷ l) h.things_are;
      earlier_is = ap (λ (i : Item). i ∷ earlier) same ∙ ap (λ (l : List Item). item_at line sender x ∷ l) h.earlier_is;
      item_is = h.item_is;
    }

here_stands : (before : List Line) (line : Line) (lines : List Line) (first : List Found) (thing : Found) (rest : List Found) → completed before line ≡ first ++ thing ∷ rest
    → StandsIn (before ++ line ∷ lines) (item_at (length before + 1) line.sender thing) (length (found (sent_by line.sender before)) + length (found_of line.sender (map (item_at (length before + 1) line.sender) first)))
here_stands before line lines first thing rest is =
    let old = found (sent_by line.sender before) in
    let here = same_as_itself line.sender in
    let added : old ++ completed before line ≡ found (sent_by line.sender (before ++ line ∷ [])) =
    ap (λ (l : List Found). old ++ l) (sym (of_this_end line.sender line.sender (length before + 1) (completed before line) here)) ∙ line_adds before line line.sender true here in
    let count : length (found_of line.sender (map (item_at (length before + 1) line.sender) first)) ≡ length first = ap (λ (l : List Found). length l) (of_this_end line.sender line.sender (length before + 1) first here) in
    record {
      before = before;
      line = line;
      after = lines;
      lines_are = refl;
      number_is = refl;
      first = old ++ first;
      rest = rest;
      there = sym added ∙ ap (λ (l : List Found). old ++ l) is ∙ sym (append_assoc old first (thing ∷ rest));
      place = length-append old first ∙ ap (λ (n : ℕ). length old + n) (sym count);
      not_yet = omega arith;
    }

-- ---- line by line

abbrev place_of : List Line → List Item → Item → ℕ
place_of before earlier item = length (found (sent_by item.sender before)) + length (found_of item.sender earlier)

in_this_line : (before : List Line) (line : Line) (lines : List Line) (earlier : List Item) (item : Item) → OfLine (length before + 1) line.sender (completed before line) earlier item → StandsIn (before ++ line ∷ lines) item (place_of before earlier item)
in_this_line before line lines earlier item h = rw (h.item_is, h.earlier_is) (here_stands before line lines h.before h.thing h.after h.things_are)

count_line : (before : List Line) (line : Line) (others : List Item) (item : Item)
    → place_of before (map (item_at (length before + 1) line.sender) (completed before line) ++ others) item ≡ place_of (before ++ line ∷ []) others item
count_line before line others item =
    let here = map (item_at (length before + 1) line.sender) (completed before line) in
    let both : length (found_of item.sender (here ++ others)) ≡ length (found_of item.sender here) + length (found_of item.sender others) =
    ap (λ (l : List Found). length l) (found_of-append item.sender here others) ∙ length-append (found_of item.sender here) (found_of item.sender others) in
    let more : length (found (sent_by item.sender before)) + length (found_of item.sender here) ≡ length (found (sent_by item.sender (before ++ line ∷ []))) =
    sym (length-append (found (sent_by item.sender before)) (found_of item.sender here)) ∙ ap (λ (l : List Found). length l) (line_adds before line item.sender (is_same item.sender line.sender) refl) in
    omega arith

stands_after : (before lines : List Line) (earlier : List Item) (item : Item) (later : List Item) → items_after before lines ≡ earlier ++ item ∷ later → StandsIn (before ++ lines) item (place_of before earlier item)
unfolding items_after
stands_after before [] [] item later e = absurd cc
stands_after before [] (y ∷ earlier) item later e = absurd cc
stands_after before (line ∷ lines) earlier item later e =
    let here = map (item_at (length before + 1) line.sender) (completed before line) in
    elim (first_or_second here (items_after (before ++ line ∷ []) lines) earlier item later e) [
      | inl h ↦ in_this_line before line lines earlier item (of_line (length before + 1) line.sender (completed before line) earlier item h.others h.is)
      | inr h ↦
          let next : StandsIn ((before ++ line ∷ []) ++ lines) item (place_of (before ++ line ∷ []) h.others item) = stands_after (before ++ line ∷ []) lines h.others item later h.is in
          let counted : place_of before earlier item ≡ place_of (before ++ line ∷ []) h.others item = ap (λ (l : List Item). place_of before l item) h.behind ∙ count_line before line h.others item in
          subst (λ (n : ℕ). StandsIn (before ++ line ∷ lines) item n) (sym counted) (subst (λ (l : List Line). StandsIn l item (place_of (before ++ line ∷ []) h.others item)) (append_assoc before (line ∷ []) lines) next)
    ]

pub each_stands : (capture : List Line) (earlier later : List Item) (item : Item) → items_of capture ≡ earlier ++ item ∷ later → StandsIn capture item (length (found_of item.sender earlier))
unfolding found_after found_within
each_stands capture earlier later item e =
    let none : place_of [] earlier item ≡ length (found_of item.sender earlier) = omega arith in
    subst (λ (n : ℕ). StandsIn capture item n) none (stands_after [] capture earlier item later e)
