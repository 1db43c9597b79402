-- What each end sent, line by line.
use Rattle.std.proofs.Common.{◌≡◌, ℕ, ◌+◌, ◌<◌, ◌≤◌, Bool, true, false, cond, eqb, not, List, [], ◌∷◌, ◌++◌, length, drop, get_or, Option, Some, None, is_some, Result, Ok, Err, refl, sym, ap, ◌∙◌, arith, append_assoc, append-nil}
use Rattle.std.specs.List.{filter_map, cons_option, take_while}
use Rattle.std.proofs.lemmas.List.{drop_more, drop_all}
use Rattle.std.proofs.lemmas.List.Concat.{flat_map-append}
use Rattle.std.proofs.lemmas.List.Sums.{take_while-cons}
use borrow.Author.Tests.{ne_eqb}
use Rattle.hex.specs.declared.error.FromHexError.{FromHexError}
use Rattle.hex.specs.Hex.{decode_of}
use Rattle.jdwp_show.specs.declared.capture_line.Sender.{Sender}
use Rattle.jdwp_show.specs.declared.capture_line.Sender.TheVariants.{Debugger, Target}
use Rattle.jdwp_show.specs.Lines.{Line, line_of, line_by, reads, is_same, sent_by}
use Rattle.jdwp_draw.specs.declared.sent.Sent.{Sent}
use Rattle.jdwp_draw.specs.Reading.{IsDecoded, HasRead}

-- what an end sent in these lines, and then in more
sent_by-append : (sender : Sender) (lines more : List Line) → sent_by sender (lines ++ more) ≡ sent_by sender lines ++ sent_by sender more
sent_by-append sender lines more = flat_map-append (λ (l : Line). cond (is_same sender l.sender) l.bytes []) lines more

-- what the end sent in these lines
abbrev pub sent_from : Sender → List (List ℕ) → List ℕ
sent_from sender texts = sent_by sender (filter_map line_of (take_while reads texts))

sent_more : (sender : Sender) (text : List ℕ) (line : Line) (texts : List (List ℕ)) → line_of text ≡ Some line → sent_from sender (text ∷ texts) ≡ sent_by sender (line ∷ []) ++ sent_from sender texts
sent_more sender text line texts e =
    ap (λ (x : List (List ℕ)). sent_by sender (filter_map line_of x)) (take_while-cons reads text texts ∙ ap (λ (o : Option Line). cond (is_some o) (text ∷ take_while reads texts) []) e)
    ∙ ap (λ (o : Option Line). sent_by sender (cons_option o (filter_map line_of (take_while reads texts)))) e
    ∙ sent_by-append sender (line ∷ []) (filter_map line_of (take_while reads texts))

sent_none : (sender : Sender) (text : List ℕ) (texts : List (List ℕ)) → line_of text ≡ None → sent_from sender (text ∷ texts) ≡ []
sent_none sender text texts e =
    ap (λ (x : List (List ℕ)). sent_by sender (filter_map line_of x)) (take_while-cons reads text texts ∙ ap (λ (o : Option Line). cond (is_some o) (text ∷ take_while reads texts) []) e)

-- ---- a line of a capture

next_is : (texts : List (List ℕ)) (k : ℕ) (text : List ℕ) → k < length texts → text ≡ get_or texts k text → drop k texts ≡ text ∷ drop (k + 1) texts
next_is texts k text inside here = drop_more texts k text inside ∙ ap (λ (x : List ℕ). x ∷ drop (k + 1) texts) (sym here)

more_of : (sender : Sender) (texts : List (List ℕ)) (k : ℕ) (text : List ℕ) (line : Line) (old new all : List ℕ) → drop k texts ≡ text ∷ drop (k + 1) texts → line_of text ≡ Some line
    → new ≡ old ++ sent_by sender (line ∷ []) → old ++ sent_from sender (drop k texts) ≡ all → new ++ sent_from sender (drop (k + 1) texts) ≡ all
more_of sender texts k text line old new all at e is so_far =
    ap (λ (x : List ℕ). x ++ sent_from sender (drop (k + 1) texts)) is ∙ append_assoc old (sent_by sender (line ∷ [])) (sent_from sender (drop (k + 1) texts))
    ∙ ap (λ (x : List ℕ). old ++ x) (sym (sent_more sender text line (drop (k + 1) texts) e) ∙ ap (λ (x : List (List ℕ)). sent_from sender x) (sym at)) ∙ so_far

none_of : (sender : Sender) (texts : List (List ℕ)) (k : ℕ) (text : List ℕ) (old new all : List ℕ) → drop k texts ≡ text ∷ drop (k + 1) texts → line_of text ≡ None → new ≡ old
    → old ++ sent_from sender (drop k texts) ≡ all → new ≡ all
none_of sender texts k text old new all at e is so_far =
    is ∙ sym (append-nil old) ∙ ap (λ (x : List ℕ). old ++ x) (sym (sent_none sender text (drop (k + 1) texts) e) ∙ ap (λ (x : List (List ℕ)). sent_from sender x) (sym at)) ∙ so_far

-- both ends so far, and what is left
pub record AreSent (texts : List (List ℕ)) (k : ℕ) (sent : Sent) : Type 0 where
  pub debugger : sent.debugger.items ++ sent_from Debugger (drop k texts) ≡ sent_from Debugger texts
  pub target : sent.target.items ++ sent_from Target (drop k texts) ≡ sent_from Target texts

goes_on_by : (texts : List (List ℕ)) (k : ℕ) (text : List ℕ) (o : Option Line) (old new : Sent) → drop k texts ≡ text ∷ drop (k + 1) texts → line_of text ≡ o → HasRead old o true new → AreSent texts k old → AreSent texts (k + 1) new
goes_on_by texts k text None old new at e read so_far = absurd cc
goes_on_by texts k text (Some line) old new at e read so_far = record {
  debugger = more_of Debugger texts k text line old.debugger.items new.debugger.items (sent_from Debugger texts) at e read.1 so_far.debugger;
  target = more_of Target texts k text line old.target.items new.target.items (sent_from Target texts) at e read.2 so_far.target;
}

pub goes_on : (texts : List (List ℕ)) (k : ℕ) (text : List ℕ) (old new : Sent) → k < length texts → text ≡ get_or texts k text → HasRead old (line_of text) true new → AreSent texts k old → AreSent texts (k + 1) new
goes_on texts k text old new inside here read so_far = goes_on_by texts k text (line_of text) old new (next_is texts k text inside here) refl read so_far

-- all that they sent
pub record AreAll (texts : List (List ℕ)) (sent : Sent) : Type 0 where
  pub debugger : sent.debugger.items ≡ sent_from Debugger texts
  pub target : sent.target.items ≡ sent_from Target texts

stops_by : (texts : List (List ℕ)) (k : ℕ) (text : List ℕ) (o : Option Line) (old new : Sent) → drop k texts ≡ text ∷ drop (k + 1) texts → line_of text ≡ o → HasRead old o false new → AreSent texts k old → AreAll texts new
stops_by texts k text None old new at e read so_far = record {
  debugger = none_of Debugger texts k text old.debugger.items new.debugger.items (sent_from Debugger texts) at e read.1 so_far.debugger;
  target = none_of Target texts k text old.target.items new.target.items (sent_from Target texts) at e read.2 so_far.target;
}
stops_by texts k text (Some line) old new at e read so_far = absurd cc

pub stops : (texts : List (List ℕ)) (k : ℕ) (text : List ℕ) (old new : Sent) → k < length texts → text ≡ get_or texts k text → HasRead old (line_of text) false new → AreSent texts k old → AreAll texts new
stops texts k text old new inside here read so_far = stops_by texts k text (line_of text) old new (next_is texts k text inside here) refl read so_far

pub ends : (texts : List (List ℕ)) (k : ℕ) (sent : Sent) → length texts ≤ k → AreSent texts k sent → AreAll texts sent
ends texts k sent past so_far =
    let none : drop k texts ≡ [] = drop_all k texts past in
    record {
      debugger = sym (append-nil sent.debugger.items) ∙ ap (λ (x : List (List ℕ)). sent.debugger.items ++ sent_from Debugger x) (sym none) ∙ so_far.debugger;
      target = sym (append-nil sent.target.items) ∙ ap (λ (x : List (List ℕ)). sent.target.items ++ sent_from Target x) (sym none) ∙ so_far.target;
    }

-- ---- the digits of a line

decoded_by : (old found new : List ℕ) (empty : Bool) → empty ≡ eqb (length found) 0 → new ≡ old ++ found → IsDecoded old (Ok found) (not empty) new
decoded_by old [] new empty is more = (ap (λ (b : Bool). not b) is, more ∙ append-nil old)
decoded_by old (byte ∷ bytes) new empty is more = (ap (λ (b : Bool). not b) (is ∙ ne_eqb (length (byte ∷ bytes)) 0 (λ z. omega arith)), more)

pub decoded : (old found new : List ℕ) (empty : Bool) (d : Result (List ℕ) FromHexError) → d ≡ Ok found → empty ≡ eqb (length found) 0 → new ≡ old ++ found → IsDecoded old d (not empty) new
decoded old found new empty d e is more = rw e (decoded_by old found new empty is more)

pub undecoded : (old new : List ℕ) (fault : FromHexError) (d : Result (List ℕ) FromHexError) → d ≡ Err fault → new ≡ old → IsDecoded old d false new
undecoded old new fault d e same = rw e (refl, same)

debugger_by : (d : Result (List ℕ) FromHexError) (old new : Sent) (reads : Bool) → IsDecoded old.debugger.items d reads new.debugger.items → new.target.items ≡ old.target.items → HasRead old (line_by Debugger d) reads new
debugger_by (Err e) old new reads read same = (read.0, read.1, same)
debugger_by (Ok []) old new reads read same = (read.0, read.1, same)
debugger_by (Ok (byte ∷ bytes)) old new reads read same =
    (read.0, read.1 ∙ ap (λ (x : List ℕ). old.debugger.items ++ x) (sym (append-nil (byte ∷ bytes))), same ∙ sym (append-nil old.target.items))

target_by : (d : Result (List ℕ) FromHexError) (old new : Sent) (reads : Bool) → IsDecoded old.target.items d reads new.target.items → new.debugger.items ≡ old.debugger.items → HasRead old (line_by Target d) reads new
target_by (Err e) old new reads read same = (read.0, same, read.1)
target_by (Ok []) old new reads read same = (read.0, same, read.1)
target_by (Ok (byte ∷ bytes)) old new reads read same =
    (read.0, same ∙ sym (append-nil old.debugger.items), read.1 ∙ ap (λ (x : List ℕ). old.target.items ++ x) (sym (append-nil (byte ∷ bytes))))

pub debugger_read : (text : List ℕ) (old new : Sent) (reads : Bool) → 2 ≤ length text → get_or text 0 0 ≡ 62 → get_or text 1 0 ≡ 32 → IsDecoded old.debugger.items (decode_of (drop 2 text)) reads new.debugger.items
    → new.target.items ≡ old.target.items → HasRead old (line_of text) reads new
debugger_read [] old new reads two mark space read same = absurd (omega arith)
debugger_read (x ∷ []) old new reads two mark space read same = absurd (omega arith)
debugger_read (x ∷ y ∷ digits) old new reads two mark space read same = rw (space, mark) (debugger_by (decode_of digits) old new reads read same)

pub target_read : (text : List ℕ) (old new : Sent) (reads : Bool) → 2 ≤ length text → get_or text 0 0 ≡ 60 → get_or text 1 0 ≡ 32 → IsDecoded old.target.items (decode_of (drop 2 text)) reads new.target.items
    → new.debugger.items ≡ old.debugger.items → HasRead old (line_of text) reads new
target_read [] old new reads two mark space read same = absurd (omega arith)
target_read (x ∷ []) old new reads two mark space read same = absurd (omega arith)
target_read (x ∷ y ∷ digits) old new reads two mark space read same = rw (space, mark) (target_by (decode_of digits) old new reads read same)
