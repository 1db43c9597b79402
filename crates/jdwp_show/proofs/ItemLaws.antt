-- The items of an end are what is found in all that it sent.
use Rattle.std.proofs.Common.{◌≡◌, ℕ, ◌+◌, Bool, true, false, cond, List, [], ◌∷◌, ◌++◌, length, drop, map, refl, sym, ap, ◌∙◌, append_assoc}
use Rattle.std.proofs.lemmas.List.{append-nil, drop_at}
use Rattle.std.proofs.lemmas.List.Concat.{flat_map-append}
use Rattle.jdwp_show.specs.declared.capture_line.Sender.{Sender}
use Rattle.jdwp_show.specs.declared.capture_line.Sender.TheVariants.{Debugger, Target}
use Rattle.jdwp_show.specs.Found.{Found, found, found_after, found_within}
use Rattle.jdwp_show.specs.Items.{Item, item_at, completed, items_after, items_of, found_of}
use Rattle.jdwp_show.specs.Lines.{Line, is_same, sent_by}
use Rattle.jdwp_show.proofs.FoundLemmas.{found_grows}
use Rattle.jdwp_show.proofs.LineLemmas.{sent_by-push}

pub same_as_itself : (sender : Sender) → is_same sender sender ≡ true
same_as_itself Debugger = refl
same_as_itself Target = refl

pub same_sender : (a b : Sender) → is_same a b ≡ true → a ≡ b
same_sender Debugger Debugger e = refl
same_sender Debugger Target e = absurd cc
same_sender Target Debugger e = absurd cc
same_sender Target Target e = refl

-- ---- what the items of a line are

pub found_of-append : (sender : Sender) (xs ys : List Item) → found_of sender (xs ++ ys) ≡ found_of sender xs ++ found_of sender ys
found_of-append sender xs ys = flat_map-append (λ (item : Item). cond (is_same sender item.sender) (item.found ∷ []) []) xs ys

pub of_this_end : (sender by : Sender) (line : ℕ) (things : List Found) → is_same sender by ≡ true → found_of sender (map (item_at line by) things) ≡ things
of_this_end sender by line [] e = refl
of_this_end sender by line (x ∷ things) e = rw e (ap (λ (xs : List Found). x ∷ xs) (of_this_end sender by line things e))

of_the_other_end : (sender by : Sender) (line : ℕ) (things : List Found) → is_same sender by ≡ false → found_of sender (map (item_at line by) things) ≡ []
of_the_other_end sender by line [] e = refl
of_the_other_end sender by line (x ∷ things) e = rw e (of_the_other_end sender by line things e)

-- ---- line by line

-- what the end sent in the lines before, and what its items in this line add
pub line_adds : (before : List Line) (line : Line) (sender : Sender) (is_here : Bool) → is_same sender line.sender ≡ is_here
    → found (sent_by sender before) ++ found_of sender (map (item_at (length before + 1) line.sender) (completed before line)) ≡ found (sent_by sender (before ++ line ∷ []))
line_adds before line sender true e =
    let sent = sent_by sender before in
    let grown = found_grows false sent line.bytes in
    let now_sent : sent_by sender (before ++ line ∷ []) ≡ sent ++ line.bytes = sent_by-push sender before line ∙ ap (λ (b : Bool). sent ++ cond b line.bytes []) e in
    let now_found : found (sent_by sender (before ++ line ∷ [])) ≡ found sent ++ grown.0 = ap (λ (x : List ℕ). found x) now_sent ∙ grown.1 in
    let added : completed before line ≡ grown.0 =
    ap (λ (x : Sender). drop (length (found (sent_by x before))) (found (sent_by x (before ++ line ∷ [])))) (sym (same_sender sender line.sender e))
    ∙ ap (λ (x : List Found). drop (length (found sent)) x) now_found ∙ drop_at (found sent) grown.0 (length (found sent)) refl in
    ap (λ (x : List Found). found sent ++ x) (of_this_end sender line.sender (length before + 1) (completed before line) e ∙ added) ∙ sym now_found
line_adds before line sender false e =
    let sent = sent_by sender before in
    let now_sent : sent_by sender (before ++ line ∷ []) ≡ sent = sent_by-push sender before line ∙ ap (λ (b : Bool). sent ++ cond b line.bytes []) e ∙ append-nil sent in
    ap (λ (x : List Found). found sent ++ x) (of_the_other_end sender line.sender (length before + 1) (completed before line) e) ∙ append-nil (found sent) ∙ ap (λ (x : List ℕ). found x) (sym now_sent)

all_kept : (before lines : List Line) (sender : Sender) → found (sent_by sender before) ++ found_of sender (items_after before lines) ≡ found (sent_by sender (before ++ lines))
unfolding items_after
all_kept before [] sender = append-nil (found (sent_by sender before)) ∙ ap (λ (x : List Line). found (sent_by sender x)) (sym (append-nil before))
all_kept before (line ∷ lines) sender =
    let here = map (item_at (length before + 1) line.sender) (completed before line) in
    let later = items_after (before ++ line ∷ []) lines in
    ap (λ (x : List Found). found (sent_by sender before) ++ x) (found_of-append sender here later)
    ∙ sym (append_assoc (found (sent_by sender before)) (found_of sender here) (found_of sender later))
    ∙ ap (λ (x : List Found). x ++ found_of sender later) (line_adds before line sender (is_same sender line.sender) refl)
    ∙ all_kept (before ++ line ∷ []) lines sender ∙ ap (λ (x : List Line). found (sent_by sender x)) (append_assoc before (line ∷ []) lines)

pub each_kept : (capture : List Line) (sender : Sender) → found_of sender (items_of capture) ≡ found (sent_by sender capture)
unfolding found_after found_within
each_kept capture sender = all_kept [] capture sender
