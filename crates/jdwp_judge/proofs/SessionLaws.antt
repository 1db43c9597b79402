-- A session piece by piece.
use Rattle.std.proofs.Common.{◌≡◌, ℕ, ◌+◌, Bool, true, false, cond, List, [], ◌∷◌, ◌++◌, length, map, drop, Option, Some, None, is_some, Result, refl, sym, ap, subst, ◌∙◌, arith, append_assoc, append-nil, zero-add}
use Rattle.std.specs.Result.{OnOk}
use Rattle.std.proofs.lemmas.Result.{on_ok_weaker}
use Rattle.std.proofs.lemmas.List.{length-append}
use Rattle.std.proofs.lemmas.List.Sums.{sum_by-append, sum_by-cons}
use Rattle.jdwp_show.specs.declared.capture_fault.CaptureFault.{CaptureFault}
use Rattle.jdwp_show.specs.declared.capture_fault.CaptureFault.TheVariants.{BadLine}
use Rattle.jdwp_show.specs.declared.capture_line.Sender.{Sender}
use Rattle.jdwp_show.specs.declared.capture_line.Sender.TheVariants.{Debugger, Target}
use Rattle.jdwp_show.specs.CaptureLines.{length_for, lengths_of, left_over, more_line, last_lines}
use Rattle.jdwp_show.specs.Found.{Found, found, found_after, found_within, found_length}
use Rattle.jdwp_show.specs.Items.{Item, item_at, completed, items_after, items_of}
use Rattle.jdwp_show.specs.Lines.{Line, is_same, sent_by}
use Rattle.jdwp_show.specs.Sessions.{terms_of, bad_or_broken}
use Rattle.jdwp_show.specs.Transcripts.{said, Tells, IsWhole}
use Rattle.jdwp_show.specs.declared.table.Table.{Table}
use Rattle.jdwp_show.specs.declared.transcript.Transcript.{Transcript}
use Rattle.jdwp_show.proofs.ItemLaws.{same_as_itself}
use Rattle.jdwp_show.proofs.LineLemmas.{sent_by-push}
use Rattle.jdwp_show.proofs.TextLemmas.{grows_none, grows_as, joined}
use Rattle.jdwp_judge.specs.declared.coming.Coming.{Coming}
use Rattle.jdwp_judge.specs.declared.judge.Judge.{Judge}
use Rattle.jdwp_judge.specs.declared.rulings.Rulings.{Rulings}
use Rattle.jdwp_judge.specs.Coming.{IsComing}
use Rattle.jdwp_judge.specs.Hearing.{completed_by, items_with, HasHeardAll}
use Rattle.jdwp_judge.specs.Judges.{coming_of, HasHeardUnder, HasHeardPieceUnder, HasFinishedUnder}
use Rattle.jdwp_judge.specs.Standing.{Follows, HasEnded}
use Rattle.jdwp_judge.specs.Told.{lines_told, fault_told, lines_under, told_under, told_fault_under, whole_under, whole_by, whole_fault_under}
use Rattle.jdwp_judge.proofs.ToldLaws.{goes_on, is_beginning}

-- ---- the items of more pieces

items_push : (before pieces : List Line) (piece : Line) → items_after before (pieces ++ piece ∷ []) ≡ items_after before pieces ++ map (item_at (length (before ++ pieces) + 1) piece.sender) (completed (before ++ pieces) piece)
unfolding items_after
items_push before [] piece =
    append-nil (map (item_at (length before + 1) piece.sender) (completed before piece))
    ∙ ap (λ (b : List Line). map (item_at (length b + 1) piece.sender) (completed b piece)) (sym (append-nil before))
items_push before (x ∷ xs) piece =
    let here = map (item_at (length before + 1) x.sender) (completed before x) in
    ap (λ (l : List Item). here ++ l) (items_push (before ++ x ∷ []) xs piece)
    ∙ ap (λ (b : List Line). here ++ (items_after (before ++ x ∷ []) xs ++ map (item_at (length b + 1) piece.sender) (completed b piece))) (append_assoc before (x ∷ []) xs)
    ∙ sym (append_assoc here (items_after (before ++ x ∷ []) xs) (map (item_at (length (before ++ x ∷ xs) + 1) piece.sender) (completed (before ++ x ∷ xs) piece)))

items_more : (before pieces more : List Line) → items_after before (pieces ++ more) ≡ items_after before pieces ++ items_after (before ++ pieces) more
unfolding items_after
items_more before [] more = ap (λ (b : List Line). items_after b more) (sym (append-nil before))
items_more before (x ∷ xs) more =
    let here = map (item_at (length before + 1) x.sender) (completed before x) in
    ap (λ (l : List Item). here ++ l) (items_more (before ++ x ∷ []) xs more ∙ ap (λ (b : List Line). items_after (before ++ x ∷ []) xs ++ items_after b more) (append_assoc before (x ∷ []) xs))
    ∙ sym (append_assoc here (items_after (before ++ x ∷ []) xs) (items_after (before ++ x ∷ xs) more))

own_more : (pieces : List Line) (piece : Line) → sent_by piece.sender (pieces ++ piece ∷ []) ≡ sent_by piece.sender pieces ++ piece.bytes
own_more pieces piece = sent_by-push piece.sender pieces piece ∙ ap (λ (b : Bool). sent_by piece.sender pieces ++ cond b piece.bytes []) (same_as_itself piece.sender)

other_same : (other : Sender) (pieces : List Line) (piece : Line) → is_same other piece.sender ≡ false → sent_by other (pieces ++ piece ∷ []) ≡ sent_by other pieces
other_same other pieces piece apart = sent_by-push other pieces piece ∙ ap (λ (b : Bool). sent_by other pieces ++ cond b piece.bytes []) apart ∙ append-nil (sent_by other pieces)

completed_so : (pieces : List Line) (piece : Line) → completed pieces piece ≡ completed_by (sent_by piece.sender pieces) piece.bytes
completed_so pieces piece = ap (λ (l : List ℕ). drop (length (found (sent_by piece.sender pieces))) (found l)) (own_more pieces piece)

pub items_with_piece : (pieces : List Line) (piece : Line) (number : ℕ) → number ≡ length pieces + 1
    → items_of (pieces ++ piece ∷ []) ≡ items_with number piece.sender (items_of pieces) (completed_by (sent_by piece.sender pieces) piece.bytes)
items_with_piece pieces piece number is =
    items_push [] pieces piece
    ∙ ap (λ (things : List Found). items_of pieces ++ map (item_at (length pieces + 1) piece.sender) things) (completed_so pieces piece)
    ∙ ap (λ (n : ℕ). items_of pieces ++ map (item_at n piece.sender) (completed_by (sent_by piece.sender pieces) piece.bytes)) (sym is)

-- ---- what the other end sent

not_counted : (other by : Sender) (number : ℕ) (things : List Found) → is_same other by ≡ false → lengths_of other (map (item_at number by) things) ≡ 0
not_counted other by number [] apart = refl
not_counted other by number (x ∷ xs) apart =
    let own : length_for other (item_at number by x) ≡ 0 = ap (λ (b : Bool). cond b (found_length x) 0) apart in
    sum_by-cons (length_for other) (item_at number by x) (map (item_at number by) xs) ∙ ap (λ (n : ℕ). n + lengths_of other (map (item_at number by) xs)) own ∙ zero-add (lengths_of other (map (item_at number by) xs)) ∙ not_counted other by number xs apart

other_counted : (other by : Sender) (number : ℕ) (items : List Item) (things : List Found) → is_same other by ≡ false → lengths_of other (items_with number by items things) ≡ lengths_of other items
other_counted other by number items things apart =
    let sum : lengths_of other (items_with number by items things) ≡ lengths_of other items + lengths_of other (map (item_at number by) things) = sum_by-append (length_for other) items (map (item_at number by) things) in
    let none = not_counted other by number things apart in
    omega (arith, sum, none)

other_coming : (other : Sender) (pieces : List Line) (piece : Line) (items : List Item) (coming : Coming) → is_same other piece.sender ≡ false → lengths_of other items ≡ lengths_of other (items_of pieces) → IsComing (sent_by other pieces) (items_of pieces) other coming
    → IsComing (sent_by other (pieces ++ piece ∷ [])) items other coming
other_coming other pieces piece items coming apart count h =
    let same = other_same other pieces piece apart in
    record {
      goes_on = λ more. ap (λ (l : List ℕ). found (l ++ more)) same ∙ h.goes_on more ∙ ap (λ (l : List ℕ). found l ++ found_after coming.handshaken (coming.bytes.items ++ more)) (sym same);
      none_whole = h.none_whole;
      counted = omega (arith, ap (λ (l : List ℕ). length l) same, h.counted, count);
    }

-- ---- a judge

abbrev pub Both : (Sender → Type 0) → Type 0
Both P = (sender : Sender) → P sender

pub both : (P : Sender → Type 0) → P Debugger → P Target → (sender : Sender) → P sender
both P d t Debugger = d
both P d t Target = t

none_coming : (coming : Coming) (sender : Sender) → coming.bytes.items ≡ [] → coming.handshaken ≡ false → IsComing [] [] sender coming
unfolding found_after found_within
none_coming coming sender empty fresh = record {
  goes_on = λ more. rw (empty, fresh) refl;
  none_whole = rw empty refl;
  counted = rw empty refl;
}

pub heard_none : (table : Table) (judge : Judge) → judge.pieces ≡ 0 → Follows table judge.rulings [] → judge.debugger.bytes.items ≡ [] → judge.debugger.handshaken ≡ false → judge.target.bytes.items ≡ [] → judge.target.handshaken ≡ false → HasHeardUnder table judge []
unfolding items_after
heard_none table judge count follows d e t u = record {
  counted = count;
  follows = follows;
  coming = λ _. both (λ sender. IsComing [] [] sender (coming_of judge sender)) (none_coming judge.debugger Debugger d e) (none_coming judge.target Target t u);
}

no_fault : {A : Type 0} (o : Option A) → is_some o ≡ true → o ≡ None → ⊥
no_fault (Some a) some none = cc
no_fault None some none = cc

quiet_by : (table : Table) (old new : Judge) (pieces : List Line) (piece : Line) (lines : Transcript) (o : Option (ℕ × CaptureFault)) → HasHeardUnder table old pieces → old.rulings.fault ≡ o → is_some o ≡ true → new.rulings ≡ old.rulings → new.pieces ≡ old.pieces + 1 → HasHeardPieceUnder table new pieces piece lines lines
quiet_by table old new pieces piece lines None h is some same count = cc
quiet_by table old new pieces piece lines (Some p) h is some same count =
    let more = map (item_at (length pieces + 1) piece.sender) (completed pieces piece) in
    let e : items_of (pieces ++ piece ∷ []) ≡ items_of pieces ++ more = items_push [] pieces piece in
    let g = goes_on table (items_of pieces) more in
    let f = g.fault p (sym h.follows.fault ∙ is) in
    let fault : new.rulings.fault ≡ Some p = ap (λ (r : Rulings). r.fault) same ∙ is in
    record {
      heard = record {
        counted = count ∙ ap (λ (n : ℕ). n + 1) h.counted ∙ sym (length-append pieces (piece ∷ []));
        follows = record { by_table = ap (λ (r : Rulings). r.table) same ∙ h.follows.by_table; fault = fault ∙ sym (ap (λ (l : List Item). fault_told table l) e ∙ f.0); under_way = λ quiet. absurd (no_fault (Some p) some (sym fault ∙ quiet)) };
        coming = λ quiet. absurd (no_fault (Some p) some (sym fault ∙ quiet));
      };
      added = [];
      appended = grows_none lines.lines;
      told_is = ap (λ (l : List Item). lines_told table l) e ∙ g.lines ∙ ap (λ (l : List ℕ). lines_told table (items_of pieces) ++ l) f.1;
    }

pub heard_quiet : (table : Table) (old new : Judge) (pieces : List Line) (piece : Line) (lines : Transcript) → HasHeardUnder table old pieces → is_some old.rulings.fault ≡ true → new.rulings ≡ old.rulings → new.pieces ≡ old.pieces + 1 → HasHeardPieceUnder table new pieces piece lines lines
heard_quiet table old new pieces piece lines h some same count = quiet_by table old new pieces piece lines old.rulings.fault h refl some same count

heard_by : (table : Table) (old new : Judge) (pieces : List Line) (piece : Line) (before after : Transcript) → HasHeardUnder table old pieces → new.pieces ≡ old.pieces + 1
    → HasHeardAll table new.pieces piece.sender (items_of pieces) (sent_by piece.sender pieces) piece.bytes new.rulings (coming_of new piece.sender) before after
    → ((other : Sender) → is_same other piece.sender ≡ false → (new.rulings.fault ≡ None → IsComing (sent_by other pieces) (items_of pieces) other (coming_of new other)))
    → ((P : Sender → Type 0) → P piece.sender → ((other : Sender) → is_same other piece.sender ≡ false → P other) → (sender : Sender) → P sender) → HasHeardPieceUnder table new pieces piece before after
heard_by table old new pieces piece before after h count all others each =
    let number : new.pieces ≡ length pieces + 1 = count ∙ ap (λ (n : ℕ). n + 1) h.counted in
    let things = completed_by (sent_by piece.sender pieces) piece.bytes in
    let items = items_with new.pieces piece.sender (items_of pieces) things in
    let e : items_of (pieces ++ piece ∷ []) ≡ items = items_with_piece pieces piece new.pieces number in
    record {
      heard = record {
        counted = number ∙ sym (length-append pieces (piece ∷ []));
        follows = subst (λ (l : List Item). Follows table new.rulings l) (sym e) all.follows;
        coming = λ quiet. each (λ sender. IsComing (sent_by sender (pieces ++ piece ∷ [])) (items_of (pieces ++ piece ∷ [])) sender (coming_of new sender))
            (subst (λ (l : List ℕ). IsComing l (items_of (pieces ++ piece ∷ [])) piece.sender (coming_of new piece.sender)) (sym (own_more pieces piece))
            (subst (λ (l : List Item). IsComing (sent_by piece.sender pieces ++ piece.bytes) l piece.sender (coming_of new piece.sender)) (sym e) (all.coming_on quiet)))
            (λ other apart. other_coming other pieces piece (items_of (pieces ++ piece ∷ [])) (coming_of new other) apart
            (ap (λ (l : List Item). lengths_of other l) e ∙ other_counted other piece.sender new.pieces (items_of pieces) things apart) (others other apart quiet));
      };
      added = all.added;
      appended = all.appended;
      told_is = ap (λ (l : List Item). lines_told table l) e ∙ all.told;
    }

from_debugger : (P : Sender → Type 0) → P Debugger → ((other : Sender) → is_same other Debugger ≡ false → P other) → (sender : Sender) → P sender
from_debugger P here there Debugger = here
from_debugger P here there Target = there Target refl

from_target : (P : Sender → Type 0) → P Target → ((other : Sender) → is_same other Target ≡ false → P other) → (sender : Sender) → P sender
from_target P here there Debugger = there Debugger refl
from_target P here there Target = here

only_target : (P : Sender → Type 0) → P Target → (other : Sender) → is_same other Debugger ≡ false → P other
only_target P there Debugger apart = absurd cc
only_target P there Target apart = there

only_debugger : (P : Sender → Type 0) → P Debugger → (other : Sender) → is_same other Target ≡ false → P other
only_debugger P there Debugger apart = there
only_debugger P there Target apart = absurd cc

heard_debugger : (table : Table) (old new : Judge) (pieces : List Line) (bytes : List ℕ) (before after : Transcript) → HasHeardUnder table old pieces → old.rulings.fault ≡ None → new.pieces ≡ old.pieces + 1
    → HasHeardAll table new.pieces Debugger (items_of pieces) (sent_by Debugger pieces) bytes new.rulings new.debugger before after → new.target ≡ old.target → HasHeardPieceUnder table new pieces (record { sender = Debugger; bytes = bytes }) before after
heard_debugger table old new pieces bytes before after h none count all same =
    heard_by table old new pieces (record { sender = Debugger; bytes = bytes }) before after h count all
    (only_target (λ other. new.rulings.fault ≡ None → IsComing (sent_by other pieces) (items_of pieces) other (coming_of new other)) (λ _. rw same (h.coming none Target))) from_debugger

heard_target : (table : Table) (old new : Judge) (pieces : List Line) (bytes : List ℕ) (before after : Transcript) → HasHeardUnder table old pieces → old.rulings.fault ≡ None → new.pieces ≡ old.pieces + 1
    → HasHeardAll table new.pieces Target (items_of pieces) (sent_by Target pieces) bytes new.rulings new.target before after → new.debugger ≡ old.debugger → HasHeardPieceUnder table new pieces (record { sender = Target; bytes = bytes }) before after
heard_target table old new pieces bytes before after h none count all same =
    heard_by table old new pieces (record { sender = Target; bytes = bytes }) before after h count all
    (only_debugger (λ other. new.rulings.fault ≡ None → IsComing (sent_by other pieces) (items_of pieces) other (coming_of new other)) (λ _. rw same (h.coming none Debugger))) from_target

pub heard_debugger_as : (table : Table) {T E : Type 0} (result : Result T E) (old new : Judge) (pieces : List Line) (sender : Sender) (bytes : List ℕ) (before after : Transcript) → sender ≡ Debugger → HasHeardUnder table old pieces → old.rulings.fault ≡ None → new.pieces ≡ old.pieces + 1
    → ((items : List Item) (sent : List ℕ) → Follows table old.rulings items → IsComing sent items sender old.debugger → OnOk result (HasHeardAll table new.pieces sender items sent bytes new.rulings new.debugger before after)) → new.target ≡ old.target
    → OnOk result (HasHeardPieceUnder table new pieces (record { sender = sender; bytes = bytes }) before after)
heard_debugger_as table result old new pieces Debugger bytes before after is h none count hears same =
    on_ok_weaker result (λ all. heard_debugger table old new pieces bytes before after h none count all same) (hears (items_of pieces) (sent_by Debugger pieces) h.follows (h.coming none Debugger))
heard_debugger_as table result old new pieces Target bytes before after is h none count hears same = absurd cc

pub heard_target_as : (table : Table) {T E : Type 0} (result : Result T E) (old new : Judge) (pieces : List Line) (sender : Sender) (bytes : List ℕ) (before after : Transcript) → sender ≡ Target → HasHeardUnder table old pieces → old.rulings.fault ≡ None → new.pieces ≡ old.pieces + 1
    → ((items : List Item) (sent : List ℕ) → Follows table old.rulings items → IsComing sent items sender old.target → OnOk result (HasHeardAll table new.pieces sender items sent bytes new.rulings new.target before after)) → new.debugger ≡ old.debugger
    → OnOk result (HasHeardPieceUnder table new pieces (record { sender = sender; bytes = bytes }) before after)
heard_target_as table result old new pieces Target bytes before after is h none count hears same =
    on_ok_weaker result (λ all. heard_target table old new pieces bytes before after h none count all same) (hears (items_of pieces) (sent_by Target pieces) h.follows (h.coming none Target))
heard_target_as table result old new pieces Debugger bytes before after is h none count hears same = absurd cc

-- the lines of a piece
pub piece_lines : (table : Table) (judge : Judge) (pieces : List Line) (piece : Line) (old new : Transcript) (lines : List ℕ) → HasHeardPieceUnder table judge pieces piece old new → said old ≡ [] → IsWhole new lines → told_under table pieces ++ lines ≡ told_under table (pieces ++ piece ∷ [])
piece_lines table judge pieces piece old new lines h empty w = ap (λ (l : List ℕ). told_under table pieces ++ l) (w.1 ∙ h.appended.bytes w.0 ∙ ap (λ (l : List ℕ). l ++ h.added) empty) ∙ sym h.told_is

-- ---- the end

left_is : (pieces : List Line) (sender : Sender) (coming : Coming) → IsComing (sent_by sender pieces) (items_of pieces) sender coming → length coming.bytes.items ≡ left_over sender (sent_by sender pieces) (items_of pieces)
left_is pieces sender coming h = (let e = h.counted in omega (arith, e))

-- with a fault nothing is left over
ends_at : (table : Table) (pieces : List Line) (rulings : Rulings) (bad : Option ℕ) (p : ℕ × CaptureFault) (old new : Transcript) → HasEnded table (items_of pieces) rulings old new → Some p ≡ bad_or_broken bad rulings.fault → HasFinishedUnder table pieces bad (Some p) old new
ends_at table pieces rulings bad p old new e is = record {
  fault_is = is ∙ ap (λ (o : Option (ℕ × CaptureFault)). bad_or_broken bad o) e.fault;
  added = e.added;
  appended = e.appended;
  whole_is = append-nil (lines_under (terms_of table (items_of pieces)) (items_of pieces)) ∙ e.told;
}

pub ends_badly : (table : Table) (pieces : List Line) (rulings : Rulings) (bad : Option ℕ) (line : ℕ) (old new : Transcript) → HasEnded table (items_of pieces) rulings old new → bad ≡ Some line → HasFinishedUnder table pieces bad (Some (line, BadLine)) old new
ends_badly table pieces rulings bad line old new e is = ends_at table pieces rulings bad (line, BadLine) old new e (ap (λ (o : Option ℕ). bad_or_broken o rulings.fault) (sym is))

pub ends_broken : (table : Table) (pieces : List Line) (rulings : Rulings) (bad : Option ℕ) (fault : Option (ℕ × CaptureFault)) (old new : Transcript) → HasEnded table (items_of pieces) rulings old new → bad ≡ None → fault ≡ rulings.fault → is_some fault ≡ true → HasFinishedUnder table pieces bad fault old new
ends_broken table pieces rulings bad None old new e good is some = absurd cc
ends_broken table pieces rulings bad (Some p) old new e good is some = ends_at table pieces rulings bad p old new e (is ∙ ap (λ (o : Option ℕ). bad_or_broken o rulings.fault) (sym good))

none_some : (p : ℕ × CaptureFault) → None ≡ Some p → ⊥
none_some p e = cc

unbroken_by : (table : Table) (judge : Judge) (rulings : Rulings) (pieces : List Line) (old new : Transcript) (o : Option (ℕ × CaptureFault)) → HasHeardUnder table judge pieces → HasEnded table (items_of pieces) rulings old new → rulings.fault ≡ None → judge.rulings.fault ≡ o → judge.rulings.fault ≡ None
unbroken_by table judge rulings pieces old new None h e none is = is
unbroken_by table judge rulings pieces old new (Some p) h e none is =
    let f = (is_beginning table (items_of pieces)).fault p (sym h.follows.fault ∙ is) in
    absurd (none_some p (sym none ∙ e.fault ∙ f.0))

-- no fault was told before, where there is none at the end
unbroken : (table : Table) (judge : Judge) (rulings : Rulings) (pieces : List Line) (old new : Transcript) → HasHeardUnder table judge pieces → HasEnded table (items_of pieces) rulings old new → rulings.fault ≡ None → judge.rulings.fault ≡ None
unbroken table judge rulings pieces old new h e none = unbroken_by table judge rulings pieces old new judge.rulings.fault h e none refl

pub ends_whole : (table : Table) (judge : Judge) (rulings : Rulings) (pieces : List Line) (bad : Option ℕ) (old mid first new : Transcript) → HasHeardUnder table judge pieces → HasEnded table (items_of pieces) rulings old mid → bad ≡ None → rulings.fault ≡ None
    → Tells mid (more_line Debugger (length judge.debugger.bytes.items)) first → Tells first (more_line Target (length judge.target.bytes.items)) new → HasFinishedUnder table pieces bad None old new
ends_whole table judge rulings pieces bad old mid first new h e good none one other =
    let quiet = unbroken table judge rulings pieces old mid h e none in
    let d = ap (λ (n : ℕ). more_line Debugger n) (left_is pieces Debugger judge.debugger (h.coming quiet Debugger)) in
    let t = ap (λ (n : ℕ). more_line Target n) (left_is pieces Target judge.target (h.coming quiet Target)) in
    let left = last_lines None (sent_by Debugger pieces) (sent_by Target pieces) (items_of pieces) in
    record {
      fault_is = sym (ap (λ (b : Option ℕ). bad_or_broken b (whole_fault_under table pieces)) good ∙ sym e.fault ∙ none);
      added = e.added ++ left;
      appended = joined e.appended (joined (grows_as d one) (grows_as t other));
      whole_is = ap (λ (l : List ℕ). l ++ left) e.told ∙ append_assoc (told_under table pieces) e.added left;
    }

-- the lines of the end
pub ended_lines : (table : Table) (pieces : List Line) (fault : Option (ℕ × CaptureFault)) (old new : Transcript) (lines : List ℕ) → HasFinishedUnder table pieces None fault old new → said old ≡ [] → IsWhole new lines → told_under table pieces ++ lines ≡ whole_under table pieces
ended_lines table pieces fault old new lines h empty w =
    ap (λ (l : List ℕ). told_under table pieces ++ l) (w.1 ∙ h.appended.bytes w.0 ∙ ap (λ (l : List ℕ). l ++ h.added) empty) ∙ sym h.whole_is ∙ ap (λ (o : Option (ℕ × CaptureFault)). whole_by table o pieces) h.fault_is

-- ---- what was told stays so

pub beginning_of : (table : Table) (pieces more : List Line) → (rest : List ℕ) × (told_under table (pieces ++ more) ≡ told_under table pieces ++ rest)
beginning_of table pieces more =
    let g = goes_on table (items_of pieces) (items_after pieces more) in
    (g.rest, ap (λ (l : List Item). lines_told table l) (items_more [] pieces more) ∙ g.lines)

pub fault_stays : (table : Table) (pieces more : List Line) (p : ℕ × CaptureFault) → told_fault_under table pieces ≡ Some p → told_fault_under table (pieces ++ more) ≡ Some p
fault_stays table pieces more p e =
    let g = goes_on table (items_of pieces) (items_after pieces more) in
    ap (λ (l : List Item). fault_told table l) (items_more [] pieces more) ∙ (g.fault p e).0

pub beginning_of_whole : (table : Table) (pieces : List Line) → (rest : List ℕ) × (whole_under table pieces ≡ told_under table pieces ++ rest)
beginning_of_whole table pieces =
    let b = is_beginning table (items_of pieces) in
    let last = last_lines (whole_fault_under table pieces) (sent_by Debugger pieces) (sent_by Target pieces) (items_of pieces) in
    (b.rest ++ last, ap (λ (l : List ℕ). l ++ last) b.lines ∙ append_assoc (told_under table pieces) b.rest last)

pub fault_of_whole : (table : Table) (pieces : List Line) (p : ℕ × CaptureFault) → told_fault_under table pieces ≡ Some p → whole_fault_under table pieces ≡ Some p
fault_of_whole table pieces p e = ((is_beginning table (items_of pieces)).fault p e).0

-- behind a fault nothing more is told
pub told_stays : (table : Table) (pieces more : List Line) (p : ℕ × CaptureFault) → told_fault_under table pieces ≡ Some p → told_under table (pieces ++ more) ≡ told_under table pieces
told_stays table pieces more p e =
    let g = goes_on table (items_of pieces) (items_after pieces more) in
    ap (λ (l : List Item). lines_told table l) (items_more [] pieces more) ∙ g.lines ∙ ap (λ (l : List ℕ). told_under table pieces ++ l) (g.fault p e).1 ∙ append-nil (told_under table pieces)

-- nor at the end
pub whole_at_fault : (table : Table) (pieces : List Line) (p : ℕ × CaptureFault) → told_fault_under table pieces ≡ Some p → whole_by table (Some p) pieces ≡ told_under table pieces
whole_at_fault table pieces p e =
    let b = is_beginning table (items_of pieces) in
    append-nil (lines_under (terms_of table (items_of pieces)) (items_of pieces)) ∙ b.lines ∙ ap (λ (l : List ℕ). told_under table pieces ++ l) (b.fault p e).1 ∙ append-nil (told_under table pieces)
