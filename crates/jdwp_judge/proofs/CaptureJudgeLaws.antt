-- The text of a capture, cut anywhere.
use Rattle.std.proofs.Common.{◌≡◌, ◌∙◌, ℕ, ◌+◌, ◌-◌, ◌<◌, Bool, true, false, cond, eqb, List, [], ◌∷◌, ◌++◌, length, take, drop, get_or, Option, Some, None, refl, sym, ap, subst, arith, append_assoc, eqb-true, take-append-drop, length-drop, length-take}
use Rattle.std.specs.List.{slice_split}
use Rattle.std.specs.Str.Lines.{lines, lines_of_parts, strip_carriage_return}
use Rattle.std.proofs.lemmas.Bool.{ne_eqb}
use Rattle.std.proofs.lemmas.List.{append-nil, drop_more, take_all}
use Rattle.std.proofs.lemmas.Grind.{common_steps}
use Rattle.std.proofs.lemmas.List.Elements.{All-nil, All-cons, All-head, All-tail}
use Rattle.std.proofs.lemmas.List.Splits.{slice_split_none, slice_split_at, length-slice_split}
use Rattle.jdwp_show.specs.declared.capture_fault.CaptureFault.{CaptureFault}
use Rattle.jdwp_show.specs.declared.table.Table.{Table}
use Rattle.jdwp_show.specs.declared.transcript.Transcript.{Transcript}
use Rattle.jdwp_show.specs.declared.capture_line.Sender.TheVariants.{Debugger, Target}
use Rattle.jdwp_show.specs.CaptureLines.{capture_lines_under, last_lines}
use Rattle.jdwp_show.specs.Items.{items_of}
use Rattle.jdwp_show.specs.Lines.{Line, capture_of, bad_line, sent_by}
use Rattle.jdwp_show.specs.Sessions.{first_fault_under, bad_or_broken}
use Rattle.jdwp_show.specs.Transcripts.{Tells, said, IsWhole}
use Rattle.memchr.specs.Find.{Nowhere, NoneBefore, Passes, is_byte}
use Rattle.jdwp_show.proofs.TextLemmas.{grows_none, joined}
use Rattle.jdwp_judge.specs.declared.capture_judge.CaptureJudge.{CaptureJudge}
use Rattle.jdwp_judge.specs.declared.line_judge.LineJudge.{LineJudge}
use Rattle.jdwp_judge.specs.CaptureJudges.{HasNoNewline, finished_after, unfinished_after, finished, unfinished, told_text, fault_so_far, HasHeardText, HasHeardMore, HasJudged}
use Rattle.jdwp_judge.specs.Judges.{HasFinishedUnder}
use Rattle.jdwp_judge.specs.LineJudges.{pieces_in, bad_among, told_of, HasHeardLines, HasHeardLine}
use Rattle.jdwp_judge.specs.Told.{lines_told, told_under, told_fault_under, whole_by, whole_fault_under}
use Rattle.jdwp_judge.proofs.CaptureLaws.{fault_judged, told_nothing}
use Rattle.jdwp_judge.proofs.LineJudgeLaws.{told_of_more, none_in_front, stays_told}
use Rattle.jdwp_judge.proofs.SessionLaws.{fault_of_whole, whole_at_fault}
use Rattle.jdwp_judge.proofs.ToldLaws.{is_beginning}

-- ---- text that goes on

finished_by : (line : List ℕ) (b : ℕ) (first bytes : List ℕ) (c : Bool) → eqb b 10 ≡ c → finished_after [] (first ++ bytes) ≡ finished_after [] first ++ finished_after (unfinished_after [] first) bytes
    → finished_after (line ++ b ∷ []) (first ++ bytes) ≡ finished_after (line ++ b ∷ []) first ++ finished_after (unfinished_after (line ++ b ∷ []) first) bytes → finished_after line (b ∷ first ++ bytes) ≡ finished_after line (b ∷ first) ++ finished_after (unfinished_after line (b ∷ first)) bytes
unfolding finished_after unfinished_after
finished_by line b first bytes true e anew on = rw e (ap (λ (l : List (List ℕ)). strip_carriage_return line ∷ l) anew)
finished_by line b first bytes false e anew on = rw e on

finished_more : (line first bytes : List ℕ) → finished_after line (first ++ bytes) ≡ finished_after line first ++ finished_after (unfinished_after line first) bytes
unfolding finished_after unfinished_after
finished_more line [] bytes = refl
finished_more line (b ∷ first) bytes = finished_by line b first bytes (eqb b 10) refl (finished_more [] first bytes) (finished_more (line ++ b ∷ []) first bytes)

unfinished_by : (line : List ℕ) (b : ℕ) (first bytes : List ℕ) (c : Bool) → eqb b 10 ≡ c → unfinished_after [] (first ++ bytes) ≡ unfinished_after (unfinished_after [] first) bytes
    → unfinished_after (line ++ b ∷ []) (first ++ bytes) ≡ unfinished_after (unfinished_after (line ++ b ∷ []) first) bytes → unfinished_after line (b ∷ first ++ bytes) ≡ unfinished_after (unfinished_after line (b ∷ first)) bytes
unfolding unfinished_after
unfinished_by line b first bytes true e anew on = rw e anew
unfinished_by line b first bytes false e anew on = rw e on

unfinished_more : (line first bytes : List ℕ) → unfinished_after line (first ++ bytes) ≡ unfinished_after (unfinished_after line first) bytes
unfolding unfinished_after
unfinished_more line [] bytes = refl
unfinished_more line (b ∷ first) bytes = unfinished_by line b first bytes (eqb b 10) refl (unfinished_more [] first bytes) (unfinished_more (line ++ b ∷ []) first bytes)

-- a line that goes on
begun : (line bytes : List ℕ) → HasNoNewline bytes → (finished_after line bytes ≡ []) × (unfinished_after line bytes ≡ line ++ bytes)
unfolding finished_after unfinished_after
begun line [] none = (refl, sym (append-nil line))
begun line (b ∷ bytes) none =
    let e : eqb b 10 ≡ false = All-head (λ (x : ℕ). eqb x 10 ≡ false) b bytes none in
    let on = begun (line ++ b ∷ []) bytes (All-tail (λ (x : ℕ). eqb x 10 ≡ false) b bytes none) in
    rw e (on.0, on.1 ∙ append_assoc line (b ∷ []) bytes)

at_newline : (line : List ℕ) → (finished_after line (10 ∷ []) ≡ strip_carriage_return line ∷ []) × (unfinished_after line (10 ∷ []) ≡ [])
unfolding finished_after unfinished_after
at_newline line = (refl, refl)

-- a line that ends
ended : (line bytes : List ℕ) → HasNoNewline bytes → (finished_after line (bytes ++ 10 ∷ []) ≡ strip_carriage_return (line ++ bytes) ∷ []) × (unfinished_after line (bytes ++ 10 ∷ []) ≡ [])
ended line bytes none =
    let front = begun line bytes none in
    let end = at_newline (unfinished_after line bytes) in (
      finished_more line bytes (10 ∷ []) ∙ ap (λ (l : List (List ℕ)). l ++ finished_after (unfinished_after line bytes) (10 ∷ [])) front.0 ∙ end.0 ∙ ap (λ (l : List ℕ). strip_carriage_return l ∷ []) front.1,
      unfinished_more line bytes (10 ∷ []) ∙ end.1,
    )

-- ---- the lines of a text

abbrev last_line : List ℕ → List (List ℕ)
last_line [] = []
last_line (b ∷ line) = (b ∷ line) ∷ []

one_part : (line : List ℕ) → lines_of_parts (line ∷ []) ≡ last_line line
one_part [] = refl
one_part (b ∷ line) = ap (λ (t : Bool). cond t [] ((b ∷ line) ∷ [])) (ne_eqb (length (b ∷ line)) 0 (λ e. omega arith))

first_part : (line : List ℕ) (parts : List (List ℕ)) → 0 < length parts → lines_of_parts (line ∷ parts) ≡ strip_carriage_return line ∷ lines_of_parts parts
first_part line [] some = absurd (omega arith)
first_part line (part ∷ parts) some = refl

abbrev is_newline : ℕ → Bool
is_newline b = eqb b 10

first_line : (line : List ℕ) (b : ℕ) (bytes : List ℕ) → HasNoNewline line → eqb b 10 ≡ true → lines (line ++ b ∷ bytes) ≡ strip_carriage_return line ∷ lines bytes
first_line line b bytes none e =
    ap lines_of_parts (slice_split_at is_newline line b bytes none e) ∙ first_part line (slice_split is_newline bytes) (omega (arith, length-slice_split is_newline bytes))

no_newline_more : (line : List ℕ) (b : ℕ) → HasNoNewline line → eqb b 10 ≡ false → HasNoNewline (line ++ b ∷ [])
no_newline_more [] b none e = All-cons (λ (x : ℕ). eqb x 10 ≡ false) b [] e none
no_newline_more (x ∷ line) b none e =
    All-cons (λ (y : ℕ). eqb y 10 ≡ false) x (line ++ b ∷ []) (All-head (λ (y : ℕ). eqb y 10 ≡ false) x line none) (no_newline_more line b (All-tail (λ (y : ℕ). eqb y 10 ≡ false) x line none) e)

AreCut : List ℕ → List ℕ → Type 0
AreCut line bytes = lines (line ++ bytes) ≡ finished_after line bytes ++ last_line (unfinished_after line bytes)

cut_by : (line : List ℕ) (b : ℕ) (bytes : List ℕ) (c : Bool) → eqb b 10 ≡ c → HasNoNewline line → AreCut [] bytes → (HasNoNewline (line ++ b ∷ []) → AreCut (line ++ b ∷ []) bytes) → AreCut line (b ∷ bytes)
unfolding finished_after unfinished_after AreCut
cut_by line b bytes true e none anew on = first_line line b bytes none e ∙ rw e (ap (λ (l : List (List ℕ)). strip_carriage_return line ∷ l) anew)
cut_by line b bytes false e none anew on = ap lines (sym (append_assoc line (b ∷ []) bytes)) ∙ rw e (on (no_newline_more line b none e))

are_cut : (line bytes : List ℕ) → HasNoNewline line → AreCut line bytes
unfolding finished_after unfinished_after AreCut
are_cut line [] none = ap lines (append-nil line) ∙ ap lines_of_parts (slice_split_none is_newline line none) ∙ one_part line
are_cut line (b ∷ bytes) none = cut_by line b bytes (eqb b 10) refl none (are_cut [] bytes (All-nil (λ (x : ℕ). eqb x 10 ≡ false))) (are_cut (line ++ b ∷ []) bytes)

-- those that are finished, and the one that is not
pub lines_of_text : (text : List ℕ) → lines text ≡ finished text ++ last_line (unfinished text)
unfolding AreCut
lines_of_text text = are_cut [] text (All-nil (λ (x : ℕ). eqb x 10 ≡ false))

-- ---- the judge

pub text_begins : (table : Table) (judge : CaptureJudge) → HasHeardLines table judge.lines [] → judge.unfinished.items ≡ [] → HasHeardText table judge []
unfolding finished_after unfinished_after
text_begins table judge heard empty = record { lines = heard; unfinished_is = empty }

-- a line more
pub line_ended : (table : Table) (old new : CaptureJudge) (text bytes line : List ℕ) (before after : Transcript) → HasHeardText table old text → HasNoNewline bytes → line ≡ strip_carriage_return (old.unfinished.items ++ bytes) → HasHeardLine table new.lines (finished text) line before after
    → new.unfinished.items ≡ [] → HasHeardMore table new text (bytes ++ 10 ∷ []) before after
line_ended table old new text bytes line before after h none is one empty =
    let end = ended (unfinished text) bytes none in
    let same : line ≡ strip_carriage_return (unfinished text ++ bytes) = is ∙ ap (λ (l : List ℕ). strip_carriage_return (l ++ bytes)) h.unfinished_is in
    let all : finished (text ++ (bytes ++ 10 ∷ [])) ≡ finished text ++ line ∷ [] =
    finished_more [] text (bytes ++ 10 ∷ []) ∙ ap (λ (l : List (List ℕ)). finished text ++ l) end.0 ∙ ap (λ (l : List ℕ). finished text ++ l ∷ []) (sym same) in
    record {
      heard = record {
        lines = subst (λ (l : List (List ℕ)). HasHeardLines table new.lines l) (sym all) one.heard;
        unfinished_is = empty ∙ sym (unfinished_more [] text (bytes ++ 10 ∷ []) ∙ end.1);
      };
      added = one.added;
      appended = one.appended;
      told_is = ap (λ (l : List (List ℕ)). told_of table l) all ∙ one.told_is;
    }

pub nothing_more : (table : Table) (judge : CaptureJudge) (text : List ℕ) (told : Transcript) → HasHeardText table judge text → HasHeardMore table judge text [] told told
nothing_more table judge text told h = record {
  heard = subst (λ (l : List ℕ). HasHeardText table judge l) (sym (append-nil text)) h;
  added = [];
  appended = grows_none told.lines;
  told_is = ap (λ (l : List ℕ). told_text table l) (append-nil text) ∙ sym (append-nil (told_text table text));
}

-- bytes, and bytes behind them
pub joined_more : (table : Table) (first second : CaptureJudge) (text front part : List ℕ) (before mid after : Transcript) → HasHeardMore table first text front before mid → HasHeardMore table second (text ++ front) part mid after → HasHeardMore table second text (front ++ part) before after
joined_more table first second text front part before mid after h k =
    let same : (text ++ front) ++ part ≡ text ++ (front ++ part) = append_assoc text front part in
    record {
      heard = subst (λ (l : List ℕ). HasHeardText table second l) same k.heard;
      added = h.added ++ k.added;
      appended = joined h.appended k.appended;
      told_is = ap (λ (l : List ℕ). told_text table l) (sym same) ∙ k.told_is ∙ ap (λ (l : List ℕ). l ++ k.added) h.told_is ∙ append_assoc (told_text table text) h.added k.added;
    }

-- the line that is begun goes on
pub line_begun : (table : Table) (old new : CaptureJudge) (text bytes : List ℕ) (told : Transcript) → HasHeardText table old text → HasNoNewline bytes → new.lines ≡ old.lines → new.unfinished.items ≡ old.unfinished.items ++ bytes → HasHeardMore table new text bytes told told
line_begun table old new text bytes told h none same is =
    let on = begun (unfinished text) bytes none in
    let all : finished (text ++ bytes) ≡ finished text = finished_more [] text bytes ∙ ap (λ (l : List (List ℕ)). finished text ++ l) on.0 ∙ append-nil (finished text) in
    record {
      heard = record {
        lines = subst (λ (j : LineJudge). HasHeardLines table j (finished (text ++ bytes))) (sym same) (subst (λ (l : List (List ℕ)). HasHeardLines table old.lines l) (sym all) h.lines);
        unfinished_is = is ∙ ap (λ (l : List ℕ). l ++ bytes) h.unfinished_is ∙ sym (unfinished_more [] text bytes ∙ on.1);
      };
      added = [];
      appended = grows_none told.lines;
      told_is = ap (λ (l : List (List ℕ)). told_of table l) all ∙ sym (append-nil (told_text table text));
    }

-- ---- the end

judged_as : (table : Table) (text : List ℕ) (all : List (List ℕ)) (fault : Option (ℕ × CaptureFault)) (added : List ℕ) (before mid after : Transcript) → all ≡ lines text → told_of table all ≡ told_text table text ++ added → Tells before added mid → HasFinishedUnder table (pieces_in all) (bad_among all) fault mid after → HasJudged table text fault before after
judged_as table text all fault added before mid after same told_is first end =
    let h : HasFinishedUnder table (capture_of text) (bad_line text) fault mid after = subst (λ (l : List (List ℕ)). HasFinishedUnder table (pieces_in l) (bad_among l) fault mid after) same end in
    let fault_is = fault_judged table text (bad_line text) fault mid after refl h in
    record {
      fault_is = fault_is;
      added = added ++ h.added;
      appended = joined first h.appended;
      whole_is = ap (λ (o : Option (ℕ × CaptureFault)). whole_by table o (capture_of text)) (sym fault_is) ∙ h.whole_is ∙ ap (λ (l : List ℕ). l ++ h.added) (ap (λ (l : List (List ℕ)). told_of table l) (sym same) ∙ told_is)
          ∙ append_assoc (told_text table text) added h.added;
    }

no_last : (line : List ℕ) → eqb (length line) 0 ≡ true → last_line line ≡ []
no_last [] empty = refl
no_last (b ∷ line) empty = absurd (omega (arith, eqb-true (length (b ∷ line)) 0 empty))

a_last : (line : List ℕ) → eqb (length line) 0 ≡ false → last_line line ≡ line ∷ []
a_last [] some = cc
a_last (b ∷ line) some = refl

-- where the last line has a newline at its end, or there is none
pub ends_finished : (table : Table) (text line : List ℕ) (fault : Option (ℕ × CaptureFault)) (before after : Transcript) → line ≡ unfinished text → eqb (length line) 0 ≡ true → HasFinishedUnder table (pieces_in (finished text)) (bad_among (finished text)) fault before after → HasJudged table text fault before after
ends_finished table text line fault before after is empty end =
    let all : finished text ≡ lines text = sym (lines_of_text text ∙ ap (λ (l : List (List ℕ)). finished text ++ l) (ap last_line (sym is) ∙ no_last line empty) ∙ append-nil (finished text)) in
    judged_as table text (finished text) fault [] before before after all (sym (append-nil (told_text table text))) (grows_none before.lines) end

-- where it has none
pub ends_unfinished : (table : Table) (judge : LineJudge) (text line : List ℕ) (fault : Option (ℕ × CaptureFault)) (before mid after : Transcript) → line ≡ unfinished text → eqb (length line) 0 ≡ false → HasHeardLine table judge (finished text) line before mid
    → ((heard : List (List ℕ)) → HasHeardLines table judge heard → HasFinishedUnder table (pieces_in heard) (bad_among heard) fault mid after) → HasJudged table text fault before after
ends_unfinished table judge text line fault before mid after is some one end =
    let last : last_line (unfinished text) ≡ line ∷ [] = ap last_line (sym is) ∙ a_last line some in
    let all : finished text ++ line ∷ [] ≡ lines text = sym (lines_of_text text ∙ ap (λ (l : List (List ℕ)). finished text ++ l) last) in
    judged_as table text (finished text ++ line ∷ []) fault one.added before mid after all one.told_is one.appended (end (finished text ++ line ∷ []) one.heard)

-- ---- what a call answers

-- the lines of some bytes
pub more_lines : (table : Table) (judge : CaptureJudge) (text bytes : List ℕ) (old new : Transcript) (lines : List ℕ) → HasHeardMore table judge text bytes old new → said old ≡ [] → IsWhole new lines → told_text table text ++ lines ≡ told_text table (text ++ bytes)
more_lines table judge text bytes old new lines h empty w = ap (λ (l : List ℕ). told_text table text ++ l) (w.1 ∙ h.appended.bytes w.0 ∙ ap (λ (l : List ℕ). l ++ h.added) empty) ∙ sym h.told_is

-- the lines of the end
pub last_lines_told : (table : Table) (text : List ℕ) (fault : Option (ℕ × CaptureFault)) (old new : Transcript) (lines : List ℕ) → HasJudged table text fault old new → said old ≡ [] → IsWhole new lines → told_text table text ++ lines ≡ capture_lines_under table text
last_lines_told table text fault old new lines h empty w = ap (λ (l : List ℕ). told_text table text ++ l) (w.1 ∙ h.appended.bytes w.0 ∙ ap (λ (l : List ℕ). l ++ h.added) empty) ∙ sym h.whole_is

-- ---- the first newline

not_true : (b : Bool) → (b ≡ true → ⊥) → b ≡ false
not_true true never = absurd (never refl)
not_true false never = refl

pub no_newline : (bytes : List ℕ) → Nowhere (Passes (is_byte 10) bytes) 0 (length bytes) → HasNoNewline bytes
no_newline bytes none = λ k d inside. not_true (eqb (get_or bytes k d) 10) (λ yes. none k (omega arith) inside (grind (arith, common_steps)))

pub before_newline : (bytes : List ℕ) (k : ℕ) → NoneBefore (Passes (is_byte 10) bytes) 0 (length bytes) k → HasNoNewline (take k bytes)
before_newline bytes k first = λ i d inside.
    let high = first.high in
    let within : i < k = omega (arith, inside, length-take k bytes) in
    let same : get_or (take k bytes) i d ≡ get_or bytes i d = grind (arith, common_steps) in
    not_true (eqb (get_or (take k bytes) i d) 10) (λ yes. first.before i (omega arith) within (grind (arith, common_steps)))

pub at_first_newline : (bytes : List ℕ) (k : ℕ) → k < length bytes → Passes (is_byte 10) bytes k → bytes ≡ take k bytes ++ 10 ∷ take (length bytes - (k + 1)) (drop (k + 1) bytes)
at_first_newline bytes k inside is =
    let rest : take (length bytes - (k + 1)) (drop (k + 1) bytes) ≡ drop (k + 1) bytes = take_all (length bytes - (k + 1)) (drop (k + 1) bytes) (omega (arith, length-drop (k + 1) bytes)) in
    let here : get_or bytes k 0 ≡ 10 = eqb-true (get_or bytes k 0) 10 is in
    sym (take-append-drop k bytes) ∙ ap (λ (l : List ℕ). take k bytes ++ l) (drop_more bytes k 0 inside ∙ ap (λ (b : ℕ). b ∷ drop (k + 1) bytes) here ∙ ap (λ (l : List ℕ). 10 ∷ l) (sym rest))

-- ---- what is told of a beginning

-- what is told of a text is a beginning of what is told of it with more behind
pub told_goes_on : (table : Table) (text more : List ℕ) → (rest : List ℕ) × (told_text table (text ++ more) ≡ told_text table text ++ rest)
told_goes_on table text more =
    let t = told_of_more table (finished text) (finished_after (unfinished text) more) in
    (t.0, ap (λ (l : List (List ℕ)). told_of table l) (finished_more [] text more) ∙ t.1)

-- and of what `show` says of it, if it ends here
pub told_ends : (table : Table) (text : List ℕ) → (rest : List ℕ) × (capture_lines_under table text ≡ told_text table text ++ rest)
told_ends table text =
    let t = told_of_more table (finished text) (last_line (unfinished text)) in
    let pieces : List Line = capture_of text in
    let items = items_of pieces in
    let b = is_beginning table items in
    let last : List ℕ = last_lines (first_fault_under table text) (sent_by Debugger pieces) (sent_by Target pieces) items in
    let all : told_of table (lines text) ≡ told_text table text ++ t.0 = ap (λ (l : List (List ℕ)). told_of table l) (lines_of_text text) ∙ t.1 in
    (t.0 ++ (b.rest ++ last), ap (λ (l : List ℕ). l ++ last) b.lines ∙ append_assoc (lines_told table items) b.rest last ∙ ap (λ (l : List ℕ). l ++ (b.rest ++ last)) all ∙ append_assoc (told_text table text) t.0 (b.rest ++ last))

pub told_of_nothing : (table : Table) → told_text table [] ≡ []
unfolding finished_after
told_of_nothing table = told_nothing table

-- ---- behind a fault

-- with more behind a text its lines that are finished stay
finished_stay : (text more : List ℕ) → (rest : List (List ℕ)) × (lines (text ++ more) ≡ finished text ++ rest)
finished_stay text more =
    let on = finished_after (unfinished text) more in
    let last = last_line (unfinished (text ++ more)) in
    (on ++ last, lines_of_text (text ++ more) ∙ ap (λ (l : List (List ℕ)). l ++ last) (finished_more [] text more) ∙ append_assoc (finished text) on last)

-- each line of it is whole
all_finished : (text : List ℕ) → unfinished text ≡ [] → lines text ≡ finished text
all_finished text none = lines_of_text text ∙ ap (λ (l : List ℕ). finished text ++ last_line l) none ∙ append-nil (finished text)

-- what `show` says of a text each line of which reads, where its fault is known
record IsShown (table : Table) (text : List ℕ) (place : ℕ × CaptureFault) : Type 0 where
  fault : first_fault_under table text ≡ Some place
  shows : capture_lines_under table text ≡ told_under table (capture_of text)

shown_at : (table : Table) (text : List ℕ) (place : ℕ × CaptureFault) → bad_line text ≡ None → told_fault_under table (capture_of text) ≡ Some place → IsShown table text place
shown_at table text place good known =
    let pieces : List Line = capture_of text in
    let fault : first_fault_under table text ≡ Some place = ap (λ (b : Option ℕ). bad_or_broken b (whole_fault_under table pieces)) good ∙ fault_of_whole table pieces place known in
    record { fault = fault; shows = ap (λ (o : Option (ℕ × CaptureFault)). whole_by table o pieces) fault ∙ whole_at_fault table pieces place known }

-- what it says of a text whose fault is known and each line of which is whole, and of it with more behind
pub record SaysTheSame (table : Table) (text more : List ℕ) (place : ℕ × CaptureFault) : Type 0 where
  pub on : first_fault_under table (text ++ more) ≡ Some place
  pub here : first_fault_under table text ≡ Some place
  pub shows : capture_lines_under table (text ++ more) ≡ capture_lines_under table text

pub says_the_same : (table : Table) (text more : List ℕ) (place : ℕ × CaptureFault) → fault_so_far table text ≡ Some place → unfinished text ≡ [] → bad_line (text ++ more) ≡ None → SaysTheSame table text more place
says_the_same table text more place known whole good =
    let all = all_finished text whole in
    let on = finished_stay text more in
    let none : bad_among (finished text) ≡ None = none_in_front (finished text) on.0 (ap (λ (l : List (List ℕ)). bad_among l) (sym on.1) ∙ good) in
    let told : told_fault_under table (pieces_in (finished text)) ≡ Some place = ap (λ (b : Option ℕ). bad_or_broken b (told_fault_under table (pieces_in (finished text)))) (sym none) ∙ known in
    let stays = stays_told table (finished text) place on.0 told in
    let here = shown_at table text place (ap (λ (l : List (List ℕ)). bad_among l) all ∙ none) (ap (λ (l : List (List ℕ)). told_fault_under table (pieces_in l)) all ∙ told) in
    let there = shown_at table (text ++ more) place good (ap (λ (l : List (List ℕ)). told_fault_under table (pieces_in l)) on.1 ∙ stays.fault) in
    record {
      on = there.fault;
      here = here.fault;
      shows = there.shows ∙ ap (λ (l : List (List ℕ)). told_of table l) on.1 ∙ stays.told ∙ ap (λ (l : List (List ℕ)). told_of table l) (sym all) ∙ sym here.shows;
    }
