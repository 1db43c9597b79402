-- The function and the definition agree on which captures begin a session, and on the first fault.
use Rattle.std.proofs.Common.{◌≡◌, ℕ, zero, suc, ◌+◌, true, false, eqb, ◌⊎◌, inl, inr, List, [], ◌∷◌, ◌++◌, length, Option, Some, None, is_some, option_map, refl, sym, ap, ◌∙◌, subst, arith, append_assoc}
use Rattle.std.specs.List.{take_while, AllPass}
use Rattle.std.specs.Option.{option_or}
use Rattle.std.specs.Str.Lines.{lines}
use Rattle.std.proofs.lemmas.Bool.{cases_Bool, eq-eqb}
use Rattle.std.proofs.lemmas.Bool.Decides.{nat_tests}
use Rattle.std.proofs.lemmas.List.{append-nil, length-append}
use Rattle.std.proofs.lemmas.Option.{same_Some}
use Rattle.std.proofs.lemmas.List.Sums.{take_while-cons}
use Rattle.jdwp_show.specs.declared.capture_fault.CaptureFault.{CaptureFault}
use Rattle.jdwp_show.specs.declared.capture_fault.CaptureFault.TheVariants.{BadLine}
use Rattle.jdwp_show.specs.declared.verdict.Verdict.TheVariants.{Yes, No}
use Rattle.jdwp_show.specs.declared.table.Table.{Table}
use Rattle.jdwp_show.specs.declared.terms.Terms.{Terms}
use Rattle.jdwp_show.specs.Items.{Item}
use Rattle.jdwp_show.specs.Lines.{Line, line_of, reads, lines_that_read, bad_line}
use Rattle.jdwp_show.specs.Rules.{fault_of}
use Rattle.jdwp_show.specs.Sessions.{first_after, first_answer, terms_of, items_in, NoneBreaks, BeginsSessionUnder, IsBadLine, IsBroken, IsFirstFaultUnder, fault_answer, broken_in, first_fault_under, verdict_by, verdict_under}

-- ---- the first answer

or_assoc : {A : Type 0} (x y z : Option A) → option_or (option_or x y) z ≡ option_or x (option_or y z)
or_assoc (Some a) y z = refl
or_assoc None y z = refl

or_none : {A : Type 0} (x y : Option A) → option_or x y ≡ None → (x ≡ None) × (y ≡ None)
or_none None y e = (refl, e)
or_none (Some a) y e = cc

first-append : {A : Type 0} (ask : List Item → Item → Option A) (before xs ys : List Item) → first_after ask before (xs ++ ys) ≡ option_or (first_after ask before xs) (first_after ask (before ++ xs) ys)
unfolding first_after
first-append ask before [] ys = ap (λ (b : List Item). first_after ask b ys) (sym (append-nil before))
first-append ask before (x ∷ xs) ys =
    ap (λ o. option_or (ask before x) o) (first-append ask (before ++ x ∷ []) xs ys ∙ ap (λ (b : List Item). option_or (first_after ask (before ++ x ∷ []) xs) (first_after ask b ys)) (append_assoc before (x ∷ []) xs))
    ∙ sym (or_assoc (ask before x) (first_after ask (before ++ x ∷ []) xs) (first_after ask (before ++ (x ∷ xs)) ys))

-- at an item of the list
pub first_at : {A : Type 0} (ask : List Item → Item → Option A) (items before : List Item) (item : Item) (after : List Item) → items ≡ before ++ item ∷ after
    → first_answer ask items ≡ option_or (first_answer ask before) (option_or (ask before item) (first_after ask (before ++ item ∷ []) after))
unfolding first_after
first_at ask items before item after e = ap (λ (x : List Item). first_after ask [] x) e ∙ first-append ask [] before (item ∷ after)

pub none_at : {A : Type 0} (ask : List Item → Item → Option A) (items before : List Item) (item : Item) (after : List Item) → first_answer ask items ≡ None → items ≡ before ++ item ∷ after → ask before item ≡ None
none_at ask items before item after none e =
    let a = or_none (first_answer ask before) (option_or (ask before item) (first_after ask (before ++ item ∷ []) after)) (sym (first_at ask items before item after e) ∙ none) in
    (or_none (ask before item) (first_after ask (before ++ item ∷ []) after) a.1).0

pub none_after : {A : Type 0} (ask : List Item → Item → Option A) (base items : List Item) → ((before : List Item) (item : Item) (after : List Item) → items ≡ before ++ item ∷ after → ask (base ++ before) item ≡ None) → first_after ask base items ≡ None
unfolding first_after
none_after ask base [] h = refl
none_after ask base (x ∷ xs) h =
    let here : ask base x ≡ None = ap (λ (b : List Item). ask b x) (sym (append-nil base)) ∙ h [] x xs refl in
    let rest : first_after ask (base ++ x ∷ []) xs ≡ None = none_after ask (base ++ x ∷ []) xs (λ before item after e.
    ap (λ (b : List Item). ask b item) (append_assoc base (x ∷ []) before) ∙ h (x ∷ before) item after (ap (λ (y : List Item). x ∷ y) e)) in
    rw (here, rest) refl

-- where the first answer comes from
pub record Answered {A : Type 0} (ask : List Item → Item → Option A) (base items : List Item) (answer : A) : Type 0 where
  pub before : List Item
  pub item : Item
  pub after : List Item
  pub in_items : items ≡ before ++ item ∷ after
  pub none_earlier : first_after ask base before ≡ None
  pub answers : ask (base ++ before) item ≡ Some answer

answered_later : {A : Type 0} (ask : List Item → Item → Option A) (base : List Item) (x : Item) (xs : List Item) (answer : A) → ask base x ≡ None → Answered ask (base ++ x ∷ []) xs answer → Answered ask base (x ∷ xs) answer
unfolding first_after
answered_later ask base x xs answer none a = record {
  before = x ∷ a.before;
  item = a.item;
  after = a.after;
  in_items = ap (λ (y : List Item). x ∷ y) a.in_items;
  none_earlier = rw (none, a.none_earlier) refl;
  answers = ap (λ (b : List Item). ask b a.item) (sym (append_assoc base (x ∷ []) a.before)) ∙ a.answers;
}

answered_case : {A : Type 0} (ask : List Item → Item → Option A) (base : List Item) (x : Item) (xs : List Item) (answer : A) (o : Option A) → ask base x ≡ o → option_or o (first_after ask (base ++ x ∷ []) xs) ≡ Some answer
    → (first_after ask (base ++ x ∷ []) xs ≡ Some answer → Answered ask (base ++ x ∷ []) xs answer) → Answered ask base (x ∷ xs) answer
unfolding first_after
answered_case ask base x xs answer (Some a) is e later = record {
  before = [];
  item = x;
  after = xs;
  in_items = refl;
  none_earlier = refl;
  answers = ap (λ (b : List Item). ask b x) (append-nil base) ∙ is ∙ e;
}
answered_case ask base x xs answer None is e later = answered_later ask base x xs answer is (later e)

pub answered_from : {A : Type 0} (ask : List Item → Item → Option A) (base items : List Item) (answer : A) → first_after ask base items ≡ Some answer → Answered ask base items answer
unfolding first_after
answered_from ask base [] answer e = cc
answered_from ask base (x ∷ xs) answer e = answered_case ask base x xs answer (ask base x) refl e (λ h. answered_from ask (base ++ x ∷ []) xs answer h)

-- ---- the question of faults

mapped_none : (o : Option CaptureFault) (line : ℕ) → option_map {U = ℕ × CaptureFault} (λ f. (line, f)) o ≡ None → o ≡ None
mapped_none None line e = refl
mapped_none (Some f) line e = cc

mapped_some : (o : Option CaptureFault) (here line : ℕ) (fault : CaptureFault) → option_map {U = ℕ × CaptureFault} (λ f. (here, f)) o ≡ Some (line, fault) → (o ≡ Some fault) × (line ≡ here)
mapped_some None here line fault e = cc
mapped_some (Some f) here line fault e =
    let same = same_Some {A = ℕ × CaptureFault} (here, f) (line, fault) e in
    (ap (λ (p : ℕ × CaptureFault). Some p.1) same, sym (ap (λ (p : ℕ × CaptureFault). p.0) same))

none_from : (o : Option Line) → is_some o ≡ false → o ≡ None
none_from None e = refl
none_from (Some l) e = cc

answer_none : (w : Terms) (before : List Item) (item : Item) → fault_answer w before item ≡ None → fault_of w before item ≡ None
answer_none w before item e = mapped_none (fault_of w before item) item.line e

answer_some : (w : Terms) (before : List Item) (item : Item) (line : ℕ) (fault : CaptureFault) → fault_answer w before item ≡ Some (line, fault) → (fault_of w before item ≡ Some fault) × (line ≡ item.line)
answer_some w before item line fault e = mapped_some (fault_of w before item) item.line line fault e

none_answer : (w : Terms) (before : List Item) (item : Item) → fault_of w before item ≡ None → fault_answer w before item ≡ None
none_answer w before item e = ap (λ (x : Option CaptureFault). option_map {U = ℕ × CaptureFault} (λ f. (item.line, f)) x) e

none_breaks : (table : Table) (text : List ℕ) (items : List Item) → first_answer (fault_answer (terms_of table (items_in text))) items ≡ None → NoneBreaks table text items
none_breaks table text items e = λ before item after split. answer_none (terms_of table (items_in text)) before item (none_at (fault_answer (terms_of table (items_in text))) items before item after e split)

no_answer : (table : Table) (text : List ℕ) (items : List Item) → NoneBreaks table text items → first_answer (fault_answer (terms_of table (items_in text))) items ≡ None
no_answer table text items h = none_after (fault_answer (terms_of table (items_in text))) [] items (λ before item after split. none_answer (terms_of table (items_in text)) before item (h before item after split))

broken_is : (table : Table) (text : List ℕ) (line : ℕ) (fault : CaptureFault) → AllPass reads (lines text) → broken_in table (items_in text) ≡ Some (line, fault) → IsBroken table text line fault
broken_is table text line fault read e =
    let w = terms_of table (items_in text) in
    let a = answered_from (fault_answer w) [] (items_in text) (line, fault) e in
    let b = answer_some w a.before a.item line fault a.answers in
    record {
      lines_read = read;
      before = a.before;
      item = a.item;
      after = a.after;
      in_items = a.in_items;
      earlier_hold = none_breaks table text a.before a.none_earlier;
      breaks = b.0;
      number_is = b.1;
    }

is_broken : (table : Table) (text : List ℕ) (line : ℕ) (fault : CaptureFault) → IsBroken table text line fault → broken_in table (items_in text) ≡ Some (line, fault)
is_broken table text line fault h =
    let w = terms_of table (items_in text) in
    let none = no_answer table text h.before h.earlier_hold in
    let here : fault_answer w h.before h.item ≡ Some (line, fault) =
    ap (λ (x : Option CaptureFault). option_map {U = ℕ × CaptureFault} (λ f. (h.item.line, f)) x) h.breaks ∙ ap (λ (n : ℕ). Some (n, fault)) (sym h.number_is) in
    first_at (fault_answer w) (items_in text) h.before h.item h.after h.in_items ∙ rw (none, here) refl

-- ---- lines that do not read

none_read : (text : List ℕ) → reads text ≡ false → line_of text ≡ None
none_read text e = none_from (line_of text) e

AllPass-cons : (x : List ℕ) (xs : List (List ℕ)) → reads x ≡ true → AllPass reads xs → AllPass reads (x ∷ xs)
AllPass-cons x xs e h zero d inside = e
AllPass-cons x xs e h (suc k) d inside = h k d (omega arith)

-- all of the texts read, or one is the first that does not
data Read (texts : List (List ℕ)) : Type 0 where
  all_read : AllPass reads texts → take_while reads texts ≡ texts → Read texts
  one_bad : (line : List ℕ) (after : List (List ℕ)) → texts ≡ take_while reads texts ++ line ∷ after → AllPass reads (take_while reads texts) → reads line ≡ false → Read texts

read_cons : (x : List ℕ) (xs : List (List ℕ)) → (reads x ≡ true) ⊎ (reads x ≡ false) → Read xs → Read (x ∷ xs)
read_cons x xs (inr bad) r =
    let tw : take_while reads (x ∷ xs) ≡ [] = take_while-cons reads x xs ∙ rw bad refl in
    one_bad x xs (ap (λ (y : List (List ℕ)). y ++ x ∷ xs) (sym tw)) (rw tw (λ k d inside. absurd (omega arith))) bad
read_cons x xs (inl good) (all_read pass all) = all_read (AllPass-cons x xs good pass) (take_while-cons reads x xs ∙ rw (good, all) refl)
read_cons x xs (inl good) (one_bad line after split pass bad) =
    let tw : take_while reads (x ∷ xs) ≡ x ∷ take_while reads xs = take_while-cons reads x xs ∙ rw good refl in
    one_bad line after (ap (λ (y : List (List ℕ)). x ∷ y) split ∙ ap (λ (y : List (List ℕ)). y ++ line ∷ after) (sym tw)) (rw tw (AllPass-cons x (take_while reads xs) good pass)) bad

read_of : (texts : List (List ℕ)) → Read texts
read_of [] = all_read (λ k d inside. absurd (omega arith)) refl
read_of (x ∷ xs) = read_cons x xs (cases_Bool (reads x)) (read_of xs)

take_while-all : (texts : List (List ℕ)) → AllPass reads texts → take_while reads texts ≡ texts
take_while-all [] h = refl
take_while-all (x ∷ xs) h =
    let good : reads x ≡ true = h 0 x (omega arith) in
    take_while-cons reads x xs ∙ rw good (ap (λ (y : List (List ℕ)). x ∷ y) (take_while-all xs (λ k d inside. h (suc k) d (omega arith))))

take_while-bad : (before : List (List ℕ)) (line : List ℕ) (after : List (List ℕ)) → AllPass reads before → reads line ≡ false → take_while reads (before ++ line ∷ after) ≡ before
take_while-bad [] line after h bad = take_while-cons reads line after ∙ rw bad refl
take_while-bad (x ∷ xs) line after h bad =
    let good : reads x ≡ true = h 0 x (omega arith) in
    take_while-cons reads x (xs ++ line ∷ after) ∙ rw good (ap (λ (y : List (List ℕ)). x ∷ y) (take_while-bad xs line after (λ k d inside. h (suc k) d (omega arith)) bad))

no_bad : (text : List ℕ) → AllPass reads (lines text) → bad_line text ≡ None
no_bad text h =
    let same : eqb (length (lines_that_read text)) (length (lines text)) ≡ true = eq-eqb _ _ (ap (λ (x : List (List ℕ)). length x) (take_while-all (lines text) h)) in
    rw same refl

bad_is : (text : List ℕ) (before : List (List ℕ)) (line : List ℕ) (after : List (List ℕ)) → lines text ≡ before ++ line ∷ after → lines_that_read text ≡ before → bad_line text ≡ Some (length before + 1)
bad_is text before line after split reading =
    let count : length (lines text) ≡ length before + suc (length after) = ap (λ (x : List (List ℕ)). length x) split ∙ length-append before (line ∷ after) in
    let apart : eqb (length before) (length (lines text)) ≡ false = grind (arith, nat_tests) in
    rw (reading, apart) refl

bad_line_is : (text : List ℕ) (number : ℕ) → IsBadLine text number → bad_line text ≡ Some number
bad_line_is text number h =
    let bad : reads h.line ≡ false = ap (λ (x : Option Line). is_some x) h.does_not_read in
    let reading : lines_that_read text ≡ h.before = ap (λ (x : List (List ℕ)). take_while reads x) h.in_lines ∙ take_while-bad h.before h.line h.after h.earlier_read bad in
    bad_is text h.before h.line h.after h.in_lines reading ∙ ap (λ (n : ℕ). Some n) (sym h.number_is)

-- ---- the verdict

-- a capture in which each line reads, or one in which this line is the first that does not
data Lined (text : List ℕ) : Type 0 where
  each_reads : AllPass reads (lines text) → bad_line text ≡ None → Lined text
  one_does_not : (number : ℕ) → IsBadLine text number → bad_line text ≡ Some number → Lined text

lined_by : (text : List ℕ) → Read (lines text) → Lined text
lined_by text (all_read pass all) = each_reads pass (no_bad text pass)
lined_by text (one_bad line after split pass bad) =
    one_does_not (length (lines_that_read text) + 1) (record { before = lines_that_read text; line = line; after = after; in_lines = split; earlier_read = pass; does_not_read = none_read line bad; number_is = refl }) (bad_is text (lines_that_read text) line after split refl)

lined : (text : List ℕ) → Lined text
lined text = lined_by text (read_of (lines text))

pub yes_none : (o : Option (ℕ × CaptureFault)) → verdict_by o ≡ Yes → o ≡ None
yes_none None e = refl
yes_none (Some p) e = cc

pub no_some : (o : Option (ℕ × CaptureFault)) (line : ℕ) (fault : CaptureFault) → verdict_by o ≡ No line fault → o ≡ Some (line, fault)
no_some None line fault e = cc
no_some (Some (n, f)) line fault e = let a : n ≡ line = cc in let b : f ≡ fault = cc in rw (a, b) refl

begins_by : (table : Table) (text : List ℕ) → Lined text → verdict_under table text ≡ Yes → BeginsSessionUnder table text
begins_by table text (each_reads pass none) e =
    let all = yes_none (first_fault_under table text) e in
    record { lines_read = pass; none_breaks = none_breaks table text (items_in text) (rw none at all) }
begins_by table text (one_does_not number bad some) e = let all = yes_none (first_fault_under table text) e in absurd (let none = rw some at all in cc)

pub begins_from_yes : (table : Table) (text : List ℕ) → verdict_under table text ≡ Yes → BeginsSessionUnder table text
begins_from_yes table text e = begins_by table text (lined text) e

pub yes_from_begins : (table : Table) (text : List ℕ) → BeginsSessionUnder table text → verdict_under table text ≡ Yes
yes_from_begins table text h = let lines_read = no_bad text h.lines_read in let none = no_answer table text (items_in text) h.none_breaks in rw (lines_read, none) refl

fault_by : (table : Table) (text : List ℕ) (line : ℕ) (fault : CaptureFault) → Lined text → first_fault_under table text ≡ Some (line, fault) → IsFirstFaultUnder table text line fault
fault_by table text line fault (each_reads pass none) e = inr (broken_is table text line fault pass (rw none at e))
fault_by table text line fault (one_does_not number bad some) e =
    let same = same_Some {A = ℕ × CaptureFault} (number, BadLine) (line, fault) (rw some at e) in
    let at : number ≡ line = ap (λ (p : ℕ × CaptureFault). p.0) same in
    let is : fault ≡ BadLine = sym (ap (λ (p : ℕ × CaptureFault). p.1) same) in
    inl (is, subst (λ (n : ℕ). IsBadLine text n) at bad)

pub fault_from_no : (table : Table) (text : List ℕ) (line : ℕ) (fault : CaptureFault) → verdict_under table text ≡ No line fault → IsFirstFaultUnder table text line fault
fault_from_no table text line fault e = fault_by table text line fault (lined text) (no_some (first_fault_under table text) line fault e)

pub no_from_fault : (table : Table) (text : List ℕ) (line : ℕ) (fault : CaptureFault) → IsFirstFaultUnder table text line fault → verdict_under table text ≡ No line fault
no_from_fault table text line fault (inl (is, bad)) = let some = bad_line_is text line bad in rw (some, is) refl
no_from_fault table text line fault (inr broken) = let none = no_bad text broken.lines_read in let some = is_broken table text line fault broken in rw (none, some) refl
