-- Messages told one by one.
use Rattle.std.proofs.Common.{◌≡◌, ℕ, Bool, List, [], ◌∷◌, ◌++◌, true, Option, Some, None, is_some, option_map, refl, sym, ap, subst, ◌∙◌, append_assoc, append-nil}
use Rattle.std.specs.Option.{option_or}
use Rattle.std.proofs.lemmas.List.{map-append}
use Rattle.jdwp_show.specs.declared.capture_fault.CaptureFault.{CaptureFault}
use Rattle.jdwp_show.specs.declared.command_number.CommandNumber.{CommandNumber}
use Rattle.jdwp_show.specs.declared.terms.Terms.{Terms}
use Rattle.jdwp_show.specs.declared.transcript.Transcript.{Transcript}
use Rattle.jdwp_show.specs.CaptureLines.{lines_after}
use Rattle.jdwp_show.specs.Items.{Item}
use Rattle.jdwp_show.specs.MessageLines.{found_line}
use Rattle.jdwp_show.specs.Rules.{order_fault, data_fault, waiting_for}
use Rattle.jdwp_show.specs.Sessions.{first_after, unanswered, fault_answer}
use Rattle.jdwp_show.specs.Transcripts.{Tells}
use Rattle.jdwp_show.proofs.TextLemmas.{grows_none, grows_as, joined}
use Rattle.jdwp_judge.specs.Heard.{Kept, items_kept, IsLooked, IsKept, AreKept, fault_by, line_unless, line_by}
use Rattle.jdwp_judge.specs.Standing.{IsTold, lines_behind, fault_behind}
use Rattle.jdwp_judge.proofs.ToldLaws.{first_more, first_one, first_stops, unanswered_here, told_more, told_all, told_stops}

-- ---- what is kept

abbrev item_kept : Kept → Item
item_kept kept = kept.item

pub items_kept-append : (xs ys : List Kept) → items_kept (xs ++ ys) ≡ items_kept xs ++ items_kept ys
items_kept-append xs ys = map-append item_kept xs ys

AreKept-at : (before : List Item) (xs : List Kept) (one : Kept) (ys : List Kept) → AreKept before (xs ++ one ∷ ys) → IsKept (before ++ items_kept xs) one
AreKept-at before [] one ys h = subst (λ (b : List Item). IsKept b one) (sym (append-nil before)) h.0
AreKept-at before (x ∷ xs) one ys h = subst (λ (b : List Item). IsKept b one) (append_assoc before (x.item ∷ []) (items_kept xs)) (AreKept-at (before ++ x.item ∷ []) xs one ys h.1)

pub AreKept-push : (before : List Item) (xs : List Kept) (one : Kept) → AreKept before xs → IsKept (before ++ items_kept xs) one → AreKept before (xs ++ one ∷ [])
AreKept-push before [] one h k = (subst (λ (b : List Item). IsKept b one) (append-nil before) k, tt)
AreKept-push before (x ∷ xs) one h k = (h.0, AreKept-push (before ++ x.item ∷ []) xs one h.1 (subst (λ (b : List Item). IsKept b one) (sym (append_assoc before (x.item ∷ []) (items_kept xs))) k))

-- the fault and the line of a message by what those before it say
pub looked_fault : (w : Terms) (before : List Item) (x : Item) (begun : Bool) (waits : Option CommandNumber) → IsLooked before x.found begun waits → fault_answer w before x ≡ fault_by w begun waits x
looked_fault w before x begun waits h =
    ap (λ (b : Bool). option_map {U = ℕ × CaptureFault} (λ f. (x.line, f)) (option_or (order_fault b (waiting_for before x.found) x.sender x.found) (data_fault w (waiting_for before x.found) x.sender x.found))) (sym h.begun_is)
    ∙ ap (λ (c : Option CommandNumber). option_map {U = ℕ × CaptureFault} (λ f. (x.line, f)) (option_or (order_fault begun c x.sender x.found) (data_fault w c x.sender x.found))) (sym h.waits_is)

looked_line : (w : Terms) (before : List Item) (x : Item) (begun : Bool) (waits : Option CommandNumber) → IsLooked before x.found begun waits → found_line w waits x.sender x.found ≡ found_line w (waiting_for before x.found) x.sender x.found
looked_line w before x begun waits h = ap (λ (c : Option CommandNumber). found_line w c x.sender x.found) h.waits_is

-- ---- one message more

pub told_none : (w : Terms) (before : List Item) (lines : Transcript) → IsTold w before [] None lines lines
unfolding first_after unanswered lines_after
told_none w before lines = record { lines = grows_none lines.lines; fault_is = refl }

pub told_empty : (w : Terms) (before : List Item) (kept : List Kept) (fault : Option (ℕ × CaptureFault)) (lines : Transcript) → kept ≡ [] → fault ≡ None → IsTold w before (items_kept kept) fault lines lines
told_empty w before kept fault lines empty none = rw (empty, none) (told_none w before lines)

-- nothing is told behind a fault
pub told_stopped : (w : Terms) (before xs ys : List Item) (p : ℕ × CaptureFault) (old new : Transcript) → IsTold w before xs (Some p) old new → IsTold w before (xs ++ ys) (Some p) old new
told_stopped w before xs ys p old new h = record {
  lines = grows_as (sym (told_stops w before xs ys p (sym h.fault_is))) h.lines;
  fault_is = sym (first_stops (fault_answer w) before xs ys p (sym h.fault_is));
}

line_one : (w : Terms) (before : List Item) (x : Item) → fault_answer w before x ≡ None → lines_behind w before (x ∷ []) ≡ found_line w (waiting_for before x.found) x.sender x.found
unfolding unanswered lines_after
line_one w before x none = rw none (append-nil (found_line w (waiting_for before x.found) x.sender x.found))

none_one : (w : Terms) (before : List Item) (x : Item) (p : ℕ × CaptureFault) → fault_answer w before x ≡ Some p → lines_behind w before (x ∷ []) ≡ []
unfolding lines_after
none_one w before x p some = ap (λ (l : List Item). lines_after w before l) (unanswered_here (fault_answer w) before x [] p some)

one_line : (w : Terms) (before : List Item) (x : Item) (begun : Bool) (waits : Option CommandNumber) (fault : Option (ℕ × CaptureFault)) → IsLooked before x.found begun waits → fault_answer w before x ≡ fault
    → lines_behind w before (x ∷ []) ≡ line_unless fault (found_line w waits x.sender x.found)
one_line w before x begun waits None h is = line_one w before x is ∙ sym (looked_line w before x begun waits h)
one_line w before x begun waits (Some p) h is = none_one w before x p is

pub told_one : (w : Terms) (before xs : List Item) (x : Item) (begun : Bool) (waits : Option CommandNumber) (fault : Option (ℕ × CaptureFault)) (old mid new : Transcript) → IsTold w before xs None old mid → IsLooked (before ++ xs) x.found begun waits
    → fault ≡ fault_by w begun waits x → Tells mid (line_by w begun waits x) new → IsTold w before (xs ++ x ∷ []) fault old new
told_one w before xs x begun waits fault old mid new t h is line =
    let none : fault_behind w before xs ≡ None = sym t.fault_is in
    let answer = looked_fault w (before ++ xs) x begun waits h in
    let behind : lines_behind w (before ++ xs) (x ∷ []) ≡ line_by w begun waits x = one_line w (before ++ xs) x begun waits (fault_by w begun waits x) h answer in
    let all : lines_behind w before (xs ++ x ∷ []) ≡ lines_behind w before xs ++ line_by w begun waits x =
    told_more w before xs (x ∷ []) none ∙ ap (λ (l : List ℕ). l ++ lines_behind w (before ++ xs) (x ∷ [])) (sym (told_all w before xs none)) ∙ ap (λ (l : List ℕ). lines_behind w before xs ++ l) behind in
    record {
      lines = grows_as (sym all) (joined t.lines line);
      fault_is = is ∙ sym (first_more (fault_answer w) before xs (x ∷ []) none ∙ first_one (fault_answer w) (before ++ xs) x ∙ answer);
    }

-- ---- the loop

-- those before these of all are told, and none of them breaks a rule
pub record Telling (w : Terms) (all left : List Kept) (old new : Transcript) : Type 0 where
  pub done : List Kept
  pub all_are : all ≡ done ++ left
  pub told : (before : List Item) → AreKept before all → IsTold w before (items_kept done) None old new

pub telling_none : (w : Terms) (all : List Kept) (old : Transcript) → Telling w all all old old
telling_none w all old = record { done = []; all_are = refl; told = λ before are. told_none w before old }

-- one more is told, with its fault
told_next : (w : Terms) (all : List Kept) (one : Kept) (left : List Kept) (fault : Option (ℕ × CaptureFault)) (old mid new : Transcript) (h : Telling w all (one ∷ left) old mid) → fault ≡ fault_by w one.begun one.waits one.item
    → Tells mid (line_by w one.begun one.waits one.item) new → (before : List Item) → AreKept before all → IsTold w before (items_kept (h.done ++ one ∷ [])) fault old new
told_next w all one left fault old mid new h is line before are =
    let k = AreKept-at before h.done one left (subst (λ (l : List Kept). AreKept before l) h.all_are are) in
    subst (λ (l : List Item). IsTold w before l fault old new) (sym (items_kept-append h.done (one ∷ []))) (told_one w before (items_kept h.done) one.item one.begun one.waits fault old mid new (h.told before are) k is line)

pub telling_more : (w : Terms) (all : List Kept) (one : Kept) (left : List Kept) (x : Item) (fault : Option (ℕ × CaptureFault)) (old mid new : Transcript) → Telling w all (one ∷ left) old mid → x ≡ one.item → fault ≡ fault_by w one.begun one.waits x
    → Tells mid (line_by w one.begun one.waits x) new → fault ≡ None → Telling w all left old new
telling_more w all one left x fault old mid new h item is line none =
    let is_one = is ∙ ap (λ (y : Item). fault_by w one.begun one.waits y) item in
    let line_one = subst (λ (y : Item). Tells mid (line_by w one.begun one.waits y) new) item line in
    record {
      done = h.done ++ one ∷ [];
      all_are = h.all_are ∙ sym (append_assoc h.done (one ∷ []) left);
      told = λ before are. subst (λ (o : Option (ℕ × CaptureFault)). IsTold w before (items_kept (h.done ++ one ∷ [])) o old new) none (told_next w all one left fault old mid new h is_one line_one before are);
    }

stops_at : (w : Terms) (all : List Kept) (one : Kept) (left : List Kept) (fault : Option (ℕ × CaptureFault)) (old mid new : Transcript) → Telling w all (one ∷ left) old mid → fault ≡ fault_by w one.begun one.waits one.item → Tells mid (line_by w one.begun one.waits one.item) new
    → is_some fault ≡ true → (before : List Item) → AreKept before all → IsTold w before (items_kept all) fault old new
stops_at w all one left None old mid new h is line some before are = absurd cc
stops_at w all one left (Some p) old mid new h is line some before are =
    let parts : items_kept (h.done ++ one ∷ []) ++ items_kept left ≡ items_kept all =
    sym (items_kept-append (h.done ++ one ∷ []) left) ∙ ap (λ (l : List Kept). items_kept l) (append_assoc h.done (one ∷ []) left ∙ sym h.all_are) in
    subst (λ (l : List Item). IsTold w before l (Some p) old new) parts (told_stopped w before (items_kept (h.done ++ one ∷ [])) (items_kept left) p old new (told_next w all one left (Some p) old mid new h is line before are))

pub telling_stops : (w : Terms) (all : List Kept) (one : Kept) (left : List Kept) (x : Item) (fault : Option (ℕ × CaptureFault)) (old mid new : Transcript) → Telling w all (one ∷ left) old mid → x ≡ one.item → fault ≡ fault_by w one.begun one.waits x
    → Tells mid (line_by w one.begun one.waits x) new → is_some fault ≡ true → (before : List Item) → AreKept before all → IsTold w before (items_kept all) fault old new
telling_stops w all one left x fault old mid new h item is line some =
    stops_at w all one left fault old mid new h (is ∙ ap (λ (y : Item). fault_by w one.begun one.waits y) item) (subst (λ (y : Item). Tells mid (line_by w one.begun one.waits y) new) item line) some
