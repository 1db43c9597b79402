-- Lines of a capture that are read one after the other.
use Rattle.std.proofs.Common.{◌≡◌, ◌∙◌, ◌⊎◌, ℕ, ◌+◌, ◌<◌, Bool, true, false, cond, eqb, List, [], ◌∷◌, ◌++◌, length, Option, Some, None, is_some, inl, inr, refl, sym, ap, subst, arith}
use Rattle.std.specs.List.{filter_map, take_while}
use Rattle.std.proofs.lemmas.List.{append-nil, length-append}
use Rattle.std.proofs.lemmas.List.Elements.{filter_map-append}
use Rattle.std.proofs.lemmas.List.Sums.{take_while-cons}
use Rattle.std.proofs.lemmas.Bool.Decides.{nat_tests}
use Rattle.jdwp_show.specs.declared.capture_fault.CaptureFault.{CaptureFault}
use Rattle.jdwp_show.specs.declared.table.Table.{Table}
use Rattle.jdwp_show.specs.declared.transcript.Transcript.{Transcript}
use Rattle.jdwp_show.specs.Lines.{Line, line_of, reads}
use Rattle.jdwp_show.specs.Transcripts.{said, IsWhole}
use Rattle.jdwp_show.proofs.TextLemmas.{grows_none}
use Rattle.jdwp_judge.specs.declared.judge.Judge.{Judge}
use Rattle.jdwp_judge.specs.declared.line_judge.LineJudge.{LineJudge}
use Rattle.jdwp_judge.specs.Judges.{HasHeardUnder, HasHeardPieceUnder}
use Rattle.jdwp_judge.specs.LineJudges.{pieces_in, bad_among, told_of, HasHeardLines, HasHeardLine}
use Rattle.jdwp_judge.specs.Told.{told_under, told_fault_under}
use Rattle.jdwp_judge.proofs.SessionLaws.{beginning_of, fault_stays, told_stays}

abbrev read : List (List ℕ) → List (List ℕ)
read lines = take_while reads lines

-- all of these lines read, and with one more those are it and it, if it reads; or one of them does not, and with one more that is the same
abbrev More : List (List ℕ) → List ℕ → Type 0
More lines line =
    ((read lines ≡ lines) × (read (lines ++ line ∷ []) ≡ lines ++ read (line ∷ []))) ⊎ ((length (read lines) < length lines) × (read (lines ++ line ∷ []) ≡ read lines))

first_reads : (line : List ℕ) (lines : List (List ℕ)) → reads line ≡ true → read (line ∷ lines) ≡ line ∷ read lines
first_reads line lines e = take_while-cons reads line lines ∙ ap (λ (b : Bool). cond b (line ∷ read lines) []) e

first_bad : (line : List ℕ) (lines : List (List ℕ)) → reads line ≡ false → read (line ∷ lines) ≡ []
first_bad line lines e = take_while-cons reads line lines ∙ ap (λ (b : Bool). cond b (line ∷ read lines) []) e

more_by : (first : List ℕ) (lines : List (List ℕ)) (line : List ℕ) (b : Bool) → reads first ≡ b → More lines line → More (first ∷ lines) line
more_by first lines line true e (inl h) = inl (
  first_reads first lines e ∙ ap (λ (l : List (List ℕ)). first ∷ l) h.0,
  first_reads first (lines ++ line ∷ []) e ∙ ap (λ (l : List (List ℕ)). first ∷ l) h.1,
)
more_by first lines line true e (inr h) = inr (
  (let n = ap (λ (l : List (List ℕ)). length l) (first_reads first lines e) in let m = h.0 in omega (arith, n, m)),
  first_reads first (lines ++ line ∷ []) e ∙ ap (λ (l : List (List ℕ)). first ∷ l) h.1 ∙ sym (first_reads first lines e),
)
more_by first lines line false e h = inr (
  (let n = ap (λ (l : List (List ℕ)). length l) (first_bad first lines e) in omega (arith, n)),
  first_bad first (lines ++ line ∷ []) e ∙ sym (first_bad first lines e),
)

more : (lines : List (List ℕ)) (line : List ℕ) → More lines line
more [] line = inl (refl, refl)
more (first ∷ lines) line = more_by first lines line (reads first) refl (more lines line)

-- the number of a line that does not read
bad_if_short : (lines : List (List ℕ)) → length (read lines) < length lines → bad_among lines ≡ Some (length (read lines) + 1)
bad_if_short lines short =
    let apart : eqb (length (read lines)) (length lines) ≡ false = grind (arith, nat_tests) in
    ap (λ (b : Bool). cond b None (Some (length (read lines) + 1))) apart

none_if_all : (lines : List (List ℕ)) → read lines ≡ lines → bad_among lines ≡ None
none_if_all lines all =
    let n = ap (λ (l : List (List ℕ)). length l) all in
    let same : eqb (length (read lines)) (length lines) ≡ true = grind (arith, nat_tests) in
    ap (λ (b : Bool). cond b None (Some (length (read lines) + 1))) same

some_none : {A : Type 0} (o : Option A) (a : A) → o ≡ None → o ≡ Some a → ⊥
some_none None a none some = cc
some_none (Some b) a none some = cc

none_some : {A : Type 0} (o : Option A) → is_some o ≡ true → o ≡ None → ⊥
none_some (Some a) some none = cc
none_some None some none = cc

-- where a line was bad before, nothing is heard
stays_by : (table : Table) (judge : LineJudge) (lines : List (List ℕ)) (line : List ℕ) (text : Transcript) → HasHeardLines table judge lines → is_some judge.bad_line ≡ true → More lines line → HasHeardLine table judge lines line text text
stays_by table judge lines line text h some (inl all) = absurd (none_some judge.bad_line some (h.bad_is ∙ none_if_all lines all.0))
stays_by table judge lines line text h some (inr m) =
    let same : pieces_in (lines ++ line ∷ []) ≡ pieces_in lines = ap (λ (l : List (List ℕ)). filter_map line_of l) m.1 in
    let n = ap (λ (l : List (List ℕ)). length l) m.1 in
    let short : length (read (lines ++ line ∷ [])) < length (lines ++ line ∷ []) = (let l = m.0 in omega (arith, n, l, length-append lines (line ∷ []))) in
    record {
      heard = record {
        heard = subst (λ (l : List Line). HasHeardUnder table judge.judge l) (sym same) h.heard;
        bad_is = h.bad_is ∙ bad_if_short lines m.0 ∙ ap (λ (k : ℕ). Some (k + 1)) (sym n) ∙ sym (bad_if_short (lines ++ line ∷ []) short);
        counted = λ none. absurd (none_some judge.bad_line some none);
      };
      added = [];
      appended = grows_none text.lines;
      told_is = ap (λ (l : List Line). told_under table l) same ∙ sym (append-nil (told_of table lines));
    }

pub line_stays : (table : Table) (judge : LineJudge) (lines : List (List ℕ)) (line : List ℕ) (text : Transcript) → HasHeardLines table judge lines → is_some judge.bad_line ≡ true → HasHeardLine table judge lines line text text
line_stays table judge lines line text h some = stays_by table judge lines line text h some (more lines line)

-- all lines before it read
all_read_by : (table : Table) (judge : LineJudge) (lines : List (List ℕ)) (line : List ℕ) → HasHeardLines table judge lines → judge.bad_line ≡ None → More lines line → (read lines ≡ lines) × (read (lines ++ line ∷ []) ≡ lines ++ read (line ∷ []))
all_read_by table judge lines line h none (inl all) = all
all_read_by table judge lines line h none (inr m) = absurd (some_none judge.bad_line _ none (h.bad_is ∙ bad_if_short lines m.0))

all_read : (table : Table) (judge : LineJudge) (lines : List (List ℕ)) (line : List ℕ) → HasHeardLines table judge lines → judge.bad_line ≡ None → (read lines ≡ lines) × (read (lines ++ line ∷ []) ≡ lines ++ read (line ∷ []))
all_read table judge lines line h none = all_read_by table judge lines line h none (more lines line)

-- the first line that does not read
pub line_bad : (table : Table) (old new : LineJudge) (lines : List (List ℕ)) (line : List ℕ) (text : Transcript) → HasHeardLines table old lines → old.bad_line ≡ None → line_of line ≡ None → new.judge ≡ old.judge → new.bad_line ≡ Some (old.count + 1) → HasHeardLine table new lines line text text
line_bad table old new lines line text h none bad same is =
    let all = all_read table old lines line h none in
    let alone : read (line ∷ []) ≡ [] = first_bad line [] (ap (λ (o : Option Line). is_some o) bad) in
    let front : read (lines ++ line ∷ []) ≡ lines = all.1 ∙ ap (λ (l : List (List ℕ)). lines ++ l) alone ∙ append-nil lines in
    let pieces : pieces_in (lines ++ line ∷ []) ≡ pieces_in lines = ap (λ (l : List (List ℕ)). filter_map line_of l) (front ∙ sym all.0) in
    let n = ap (λ (l : List (List ℕ)). length l) front in
    let short : length (read (lines ++ line ∷ [])) < length (lines ++ line ∷ []) = omega (arith, n, length-append lines (line ∷ [])) in
    record {
      heard = record {
        heard = subst (λ (j : Judge). HasHeardUnder table j (pieces_in (lines ++ line ∷ []))) (sym same) (subst (λ (l : List Line). HasHeardUnder table old.judge l) (sym pieces) h.heard);
        bad_is = is ∙ ap (λ (k : ℕ). Some (k + 1)) (h.counted none ∙ sym n) ∙ sym (bad_if_short (lines ++ line ∷ []) short);
        counted = λ nothing. absurd (some_none new.bad_line _ nothing is);
      };
      added = [];
      appended = grows_none text.lines;
      told_is = ap (λ (l : List Line). told_under table l) pieces ∙ sym (append-nil (told_of table lines));
    }

-- a line that reads
pub line_good : (table : Table) (old new : LineJudge) (lines : List (List ℕ)) (line : List ℕ) (said : Line) (before after : Transcript) → HasHeardLines table old lines → old.bad_line ≡ None → line_of line ≡ Some said → HasHeardPieceUnder table new.judge (pieces_in lines) said before after → new.bad_line ≡ old.bad_line → new.count ≡ old.count + 1
    → HasHeardLine table new lines line before after
line_good table old new lines line said before after h none good piece same count =
    let all = all_read table old lines line h none in
    let alone : read (line ∷ []) ≡ line ∷ [] = first_reads line [] (ap (λ (o : Option Line). is_some o) good) in
    let front : read (lines ++ line ∷ []) ≡ lines ++ line ∷ [] = all.1 ∙ ap (λ (l : List (List ℕ)). lines ++ l) alone in
    let pieces : pieces_in (lines ++ line ∷ []) ≡ pieces_in lines ++ said ∷ [] =
    ap (λ (l : List (List ℕ)). filter_map line_of l) front ∙ filter_map-append line_of lines (line ∷ []) ∙ ap (λ (l : List (List ℕ)). filter_map line_of l ++ filter_map line_of (line ∷ [])) (sym all.0)
    ∙ ap (λ (l : List Line). pieces_in lines ++ l) (rw good refl) in
    record {
      heard = record {
        heard = subst (λ (l : List Line). HasHeardUnder table new.judge l) (sym pieces) piece.heard;
        bad_is = same ∙ none ∙ sym (none_if_all (lines ++ line ∷ []) front);
        counted = λ _. count ∙ ap (λ (k : ℕ). k + 1) (h.counted none) ∙ sym (length-append lines (line ∷ []));
      };
      added = piece.added;
      appended = piece.appended;
      told_is = ap (λ (l : List Line). told_under table l) pieces ∙ piece.told_is;
    }

-- the lines of `show` that a line brings
pub line_lines : (table : Table) (judge : LineJudge) (lines : List (List ℕ)) (line : List ℕ) (old new : Transcript) (more : List ℕ) → HasHeardLine table judge lines line old new → said old ≡ [] → IsWhole new more → told_of table lines ++ more ≡ told_of table (lines ++ line ∷ [])
line_lines table judge lines line old new more h empty w = ap (λ (l : List ℕ). told_of table lines ++ l) (w.1 ∙ h.appended.bytes w.0 ∙ ap (λ (l : List ℕ). l ++ h.added) empty) ∙ sym h.told_is

-- ---- lines behind others

grown_by : (first : List ℕ) (lines more : List (List ℕ)) (b : Bool) → reads first ≡ b → ((rest : List (List ℕ)) × (read (lines ++ more) ≡ read lines ++ rest)) → (rest : List (List ℕ)) × (read (first ∷ lines ++ more) ≡ read (first ∷ lines) ++ rest)
grown_by first lines more true e h = (h.0, first_reads first (lines ++ more) e ∙ ap (λ (l : List (List ℕ)). first ∷ l) h.1 ∙ ap (λ (l : List (List ℕ)). l ++ h.0) (sym (first_reads first lines e)))
grown_by first lines more false e h = ([], first_bad first (lines ++ more) e ∙ ap (λ (l : List (List ℕ)). l ++ []) (sym (first_bad first lines e)))

grown : (lines more : List (List ℕ)) → (rest : List (List ℕ)) × (read (lines ++ more) ≡ read lines ++ rest)
grown [] more = (read more, refl)
grown (first ∷ lines) more = grown_by first lines more (reads first) refl (grown lines more)

-- what the first of some lines say is a beginning of what they say
pub pieces_more : (lines more : List (List ℕ)) → (rest : List Line) × (pieces_in (lines ++ more) ≡ pieces_in lines ++ rest)
pieces_more lines more =
    let g = grown lines more in
    (filter_map line_of g.0, ap (λ (l : List (List ℕ)). filter_map line_of l) g.1 ∙ filter_map-append line_of (read lines) g.0)

-- and so is what is told of them
pub told_of_more : (table : Table) (lines more : List (List ℕ)) → (rest : List ℕ) × (told_of table (lines ++ more) ≡ told_of table lines ++ rest)
told_of_more table lines more =
    let p = pieces_more lines more in
    let b = beginning_of table (pieces_in lines) p.0 in
    (b.0, ap (λ (l : List Line). told_under table l) p.1 ∙ b.1)

-- where each of them reads, so does each of the first
all_by : (lines : List (List ℕ)) → bad_among lines ≡ None → More lines [] → read lines ≡ lines
all_by lines none (inl all) = all.0
all_by lines none (inr m) = absurd (some_none (bad_among lines) _ none (bad_if_short lines m.0))

all_if_none : (lines : List (List ℕ)) → bad_among lines ≡ None → read lines ≡ lines
all_if_none lines none = all_by lines none (more lines [])

front_by : (first : List ℕ) (lines more : List (List ℕ)) (b : Bool) → reads first ≡ b → read (first ∷ lines ++ more) ≡ first ∷ lines ++ more → (read (lines ++ more) ≡ lines ++ more → read lines ≡ lines) → read (first ∷ lines) ≡ first ∷ lines
front_by first lines more true e all later =
    let same : first ∷ read (lines ++ more) ≡ first ∷ (lines ++ more) = sym (first_reads first (lines ++ more) e) ∙ all in
    first_reads first lines e ∙ ap (λ (l : List (List ℕ)). first ∷ l) (later cc)
front_by first lines more false e all later = (let none : [] ≡ first ∷ (lines ++ more) = sym (first_bad first (lines ++ more) e) ∙ all in absurd cc)

front_reads : (lines more : List (List ℕ)) → read (lines ++ more) ≡ lines ++ more → read lines ≡ lines
front_reads [] more all = refl
front_reads (first ∷ lines) more all = front_by first lines more (reads first) refl all (front_reads lines more)

pub none_in_front : (lines more : List (List ℕ)) → bad_among (lines ++ more) ≡ None → bad_among lines ≡ None
none_in_front lines more none = none_if_all lines (front_reads lines more (all_if_none (lines ++ more) none))

-- a fault that is known stays, and nothing more is told behind it
pub record StaysTold (table : Table) (lines : List (List ℕ)) (place : ℕ × CaptureFault) (more : List (List ℕ)) : Type 0 where
  pub fault : told_fault_under table (pieces_in (lines ++ more)) ≡ Some place
  pub told : told_of table (lines ++ more) ≡ told_of table lines

pub stays_told : (table : Table) (lines : List (List ℕ)) (place : ℕ × CaptureFault) (more : List (List ℕ)) → told_fault_under table (pieces_in lines) ≡ Some place → StaysTold table lines place more
stays_told table lines place more known =
    let p = pieces_more lines more in
    record {
      fault = ap (λ (l : List Line). told_fault_under table l) p.1 ∙ fault_stays table (pieces_in lines) p.0 place known;
      told = ap (λ (l : List Line). told_under table l) p.1 ∙ told_stays table (pieces_in lines) p.0 place known;
    }
