-- One message more.
use Rattle.std.proofs.Common.{◌≡◌, ℕ, ◌+◌, Bool, true, false, ◌||◌, ◌&&◌, ◌⊎◌, inl, inr, List, [], ◌∷◌, ◌++◌, Option, Some, None, is_some, refl, sym, ap, subst, ◌∙◌, append-nil}
use Rattle.std.specs.Option.{option_or, option_flatten}
use Rattle.std.proofs.lemmas.List.Folds.{list_any-append}
use Rattle.std.proofs.lemmas.List.Sums.{fold-append}
use Rattle.jdwp_wire.specs.Streams.{Handshake, Packet}
use Rattle.jdwp_wire.specs.Widths.{Widths}
use Rattle.jdwp_show.specs.declared.capture_fault.CaptureFault.{CaptureFault}
use Rattle.jdwp_show.specs.declared.command_number.CommandNumber.{CommandNumber}
use Rattle.jdwp_show.specs.declared.table.Table.{Table}
use Rattle.jdwp_show.specs.declared.terms.Terms.{Terms}
use Rattle.jdwp_show.specs.declared.transcript.Transcript.{Transcript}
use Rattle.jdwp_show.specs.Found.{Found, Sent, Faulty}
use Rattle.jdwp_show.specs.Items.{Item}
use Rattle.jdwp_show.specs.Rules.{has_begun, waiting, under, waiting_for, is_debugger, is_handshake, waits_after_found, order_fault, order_fault_of}
use Rattle.jdwp_show.specs.Tables.{terms_by}
use Rattle.jdwp_show.specs.Transcripts.{Tells}
use Rattle.jdwp_show.proofs.TextLemmas.{grows_none}
use Rattle.jdwp_show.specs.Sessions.{first_after, unanswered, told_widths, told_or_ended, widths_answer, widths_of}
use Rattle.jdwp_judge.specs.declared.asked.Asked.{Asked}
use Rattle.jdwp_judge.specs.declared.rulings.Rulings.{Rulings}
use Rattle.jdwp_judge.specs.Heard.{Kept, items_kept, IsLooked, IsKept, AreKept, fault_by, line_by}
use Rattle.jdwp_judge.specs.Standing.{waits_in, count_in, more_by, fewer_by, IsAsked, IsAfter, IsTold, Standing, IsUnderWay, Follows, IsRecorded, HasHeardOne, HasEnded, lines_behind, fault_behind, kept_in}
use Rattle.jdwp_judge.specs.Told.{wants_widths, widths_wanted, lines_told, fault_told, lines_under, fault_under}
use Rattle.jdwp_judge.specs.Asking.{count_asked, count_answered}
use Rattle.jdwp_judge.proofs.AskingLaws.{counted_more, order_holds, ended_none}
use Rattle.jdwp_judge.proofs.TellingLaws.{items_kept-append, AreKept-push, told_empty, told_one, told_stopped}
use Rattle.jdwp_judge.proofs.ToldLaws.{released, waiting_on, ready_alone, waits_alone, waits_behind, goes_on, is_beginning, standing_lines, standing_fault, told_more, first_more}

or_false : (b : Bool) → (b || false) ≡ b
or_false true = refl
or_false false = refl

-- ---- what is asked

pub asked_none : (a : Asked) → a.begun ≡ false → ((id : ℕ) → waits_in a id ≡ None) → IsAsked a []
asked_none a begun waits = record { begun = begun; waits = waits }

pub asked_more : (a b : Asked) (before : List Item) (x : Item) → IsAsked a before → IsAfter a x b → IsAsked b (before ++ x ∷ [])
asked_more a b before x h one = record {
  begun = one.begun ∙ ap (λ (y : Bool). y || (is_debugger x.sender && is_handshake x.found)) h.begun
      ∙ sym (list_any-append (λ (i : Item). is_debugger i.sender && is_handshake i.found) before (x ∷ []) ∙ ap (λ (y : Bool). has_begun before || y) (or_false (is_debugger x.sender && is_handshake x.found)));
  waits = λ id. one.waits id ∙ ap (λ (w : Option CommandNumber). waits_after_found id x.sender x.found w) (h.waits id)
      ∙ sym (fold-append (λ (w : Option CommandNumber) (i : Item). waits_after_found id i.sender i.found w) None before (x ∷ []));
}

under_same : (f g : ℕ → Option CommandNumber) (found : Found) → ((id : ℕ) → f id ≡ g id) → under f found ≡ under g found
under_same f g (Faulty fault) same = refl
under_same f g (Sent Handshake) same = refl
under_same f g (Sent (Packet header body)) same = same header.id

-- ---- behind a fault

no_fault : {A : Type 0} (o : Option A) → is_some o ≡ true → o ≡ None → ⊥
no_fault None some none = cc
no_fault (Some p) some none = cc

heard_by : (table : Table) (r : Rulings) (items : List Item) (item : Item) (old : Transcript) (o : Option (ℕ × CaptureFault)) → r.table ≡ table → r.fault ≡ o → is_some o ≡ true → fault_told table items ≡ o → HasHeardOne table items item r old old
heard_by table r items item old None by_table is some told = cc
heard_by table r items item old (Some p) by_table is some told =
    let g = goes_on table items (item ∷ []) in
    let f = g.fault p told in
    record {
      follows = record { by_table = by_table; fault = is ∙ sym f.0; under_way = λ none. absurd (no_fault (Some p) some (sym is ∙ none)) };
      added = [];
      appended = grows_none old.lines;
      told = g.lines ∙ ap (λ (l : List ℕ). lines_told table items ++ l) f.1;
    }

pub heard_after_fault : (table : Table) (r : Rulings) (items : List Item) (item : Item) (old : Transcript) → Follows table r items → is_some r.fault ≡ true → HasHeardOne table items item r old old
heard_after_fault table r items item old h some = heard_by table r items item old r.fault h.by_table refl some (sym h.fault)

-- ---- a message with what those before it say

-- what was looked up of a message
pub record Looked (r : Rulings) (asked : Asked) (x : Item) (begun : Bool) (waits : Option CommandNumber) (s : Option (Option Widths)) : Type 0 where
  pub after : IsAfter r.asked x asked
  pub begun_is : begun ≡ r.asked.begun
  pub waits_is : waits ≡ under (waits_in r.asked) x.found
  pub sizes : s ≡ option_or r.sizes (told_or_ended (order_fault begun waits x.sender x.found) (told_widths waits x.sender x.found))
  pub counted : count_in asked + fewer_by waits x.sender x.found ≡ count_in r.asked + more_by waits x.sender x.found

-- before the widths are sure
pub looked_unsure : (old now : Rulings) (x : Item) (begun : Bool) (waits : Option CommandNumber) (s : Option (Option Widths)) → IsRecorded old begun waits x now → now.sizes ≡ None → s ≡ told_or_ended (order_fault begun waits x.sender x.found) (told_widths waits x.sender x.found)
    → Looked old now.asked x begun waits s
looked_unsure old now x begun waits s h unsure is = record {
  after = h.after;
  begun_is = h.begun_is;
  waits_is = h.waits_is;
  sizes = is ∙ ap (λ (o : Option (Option Widths)). option_or o (told_or_ended (order_fault begun waits x.sender x.found) (told_widths waits x.sender x.found))) (sym unsure ∙ h.sizes);
  counted = h.counted;
}

is_looked : (r : Rulings) (asked : Asked) (x : Item) (begun : Bool) (waits : Option CommandNumber) (s : Option (Option Widths)) (items : List Item) → IsAsked r.asked items → Looked r asked x begun waits s → IsLooked items x.found begun waits
is_looked r asked x begun waits s items h l = record {
  begun_is = l.begun_is ∙ h.begun;
  waits_is = l.waits_is ∙ under_same (waits_in r.asked) (waiting items) x.found h.waits;
}

-- the rule of frames, ends or ids that it breaks
looked_order : (items : List Item) (x : Item) (begun : Bool) (waits : Option CommandNumber) → IsLooked items x.found begun waits → order_fault begun waits x.sender x.found ≡ order_fault_of items x
looked_order items x begun waits h =
    ap (λ (b : Bool). order_fault b waits x.sender x.found) h.begun_is ∙ ap (λ (w : Option CommandNumber). order_fault (has_begun items) w x.sender x.found) h.waits_is

looked_sizes : (r : Rulings) (asked : Asked) (x : Item) (begun : Bool) (waits : Option CommandNumber) (s : Option (Option Widths)) (items : List Item) → IsAsked r.asked items → Looked r asked x begun waits s → s ≡ option_or r.sizes (widths_answer items x)
looked_sizes r asked x begun waits s items h l =
    let is = is_looked r asked x begun waits s items h l in
    l.sizes ∙ ap (λ (o : Option CaptureFault). option_or r.sizes (told_or_ended o (told_widths waits x.sender x.found))) (looked_order items x begun waits is)
    ∙ ap (λ (w : Option CommandNumber). option_or r.sizes (told_or_ended (order_fault_of items x) (told_widths w x.sender x.found))) is.waits_is

looked_counted : (r : Rulings) (asked : Asked) (x : Item) (begun : Bool) (waits : Option CommandNumber) (s : Option (Option Widths)) (items : List Item) → Looked r asked x begun waits s → count_in r.asked + count_answered items ≡ count_asked items
    → order_fault begun waits x.sender x.found ≡ None → count_in asked + count_answered (items ++ x ∷ []) ≡ count_asked (items ++ x ∷ [])
looked_counted r asked x begun waits s items l counted holds = counted_more r.asked asked items x waits begun counted l.counted holds

wanted_is : (table : Table) (items : List Item) (x : Item) (begun : Bool) (waits : Option CommandNumber) (b : Bool) → IsLooked items x.found begun waits → wants_widths table waits x.found ≡ b → wants_widths table (waiting_for items x.found) x.found ≡ b
wanted_is table items x begun waits b h is = ap (λ (w : Option CommandNumber). wants_widths table w x.found) (sym h.waits_is) ∙ is

none_wanted : (table : Table) (items : List Item) (x : Item) (begun : Bool) (waits : Option CommandNumber) → IsLooked items x.found begun waits → wants_widths table waits x.found ≡ false → widths_wanted table items x ≡ None
none_wanted table items x begun waits h is = rw (wanted_is table items x begun waits false h is) refl

some_wanted : (table : Table) (items : List Item) (x : Item) (begun : Bool) (waits : Option CommandNumber) → IsLooked items x.found begun waits → wants_widths table waits x.found ≡ true → widths_wanted table items x ≡ Some x
some_wanted table items x begun waits h is = rw (wanted_is table items x begun waits true h is) refl

-- ---- a message that waits

waits_by : (table : Table) (items : List Item) (x : Item) (begun : Bool) (waits : Option CommandNumber) (s : Option (Option Widths)) (front : List Item) (kept : List Kept) → Standing table items s front (items_kept kept) → IsLooked items x.found begun waits → s ≡ None
    → ((kept ≡ [] → ⊥) ⊎ (wants_widths table waits x.found ≡ true)) → (kept ≡ [] → ⊥) ⊎ (kept ≡ []) → unanswered (widths_wanted table) front (items_kept kept ++ x ∷ []) ≡ []
waits_by table items x begun waits s front [] h is none (inl some) decided = absurd (some refl)
waits_by table items x begun waits s front [] h is none (inr wants) decided = waits_alone table items x s front [] x h refl (some_wanted table items x begun waits is wants)
waits_by table items x begun waits s front (y ∷ ys) h is none why decided = waits_behind table front (items_kept (y ∷ ys)) (x ∷ []) (λ e. cc) (h.parted.known none).none_known

before_by : {A : Type 0} (s later : Option A) → option_or s later ≡ None → s ≡ None
before_by None later e = refl
before_by (Some w) later e = absurd cc

empty_or : (kept : List Kept) → (kept ≡ [] → ⊥) ⊎ (kept ≡ [])
empty_or [] = inr refl
empty_or (x ∷ xs) = inl (λ e. cc)

-- it was kept
pub heard_waiting : (table : Table) (r n : Rulings) (x : Item) (begun : Bool) (waits : Option CommandNumber) (items : List Item) (old : Transcript) → Follows table r items → n.table ≡ table → r.fault ≡ None → Looked r n.asked x begun waits n.sizes
    → kept_in n.kept ≡ kept_in r.kept ++ record { item = x; begun = begun; waits = waits } ∷ [] → n.fault ≡ None → n.sizes ≡ None → ((kept_in r.kept ≡ [] → ⊥) ⊎ (wants_widths table waits x.found ≡ true)) → HasHeardOne table items x n old old
heard_waiting table r n x begun waits items old h by_table none l pushed still unsure why =
    let k : Kept = record { item = x; begun = begun; waits = waits } in
    let u = h.under_way none in
    let is = is_looked r n.asked x begun waits n.sizes items u.asked l in
    let sizes = looked_sizes r n.asked x begun waits n.sizes items u.asked l in
    let before : r.sizes ≡ None = before_by r.sizes _ (sym sizes ∙ unsure) in
    let wants = waits_by table items x begun waits r.sizes u.front (kept_in r.kept) u.standing is before why (empty_or (kept_in r.kept)) in
    let w = waiting_on table items x r.sizes u.front (items_kept (kept_in r.kept)) u.standing (sym sizes ∙ unsure) wants in
    let behind : items_kept (kept_in n.kept) ≡ items_kept (kept_in r.kept) ++ x ∷ [] = ap (λ (y : List Kept). items_kept y) pushed ∙ items_kept-append (kept_in r.kept) (k ∷ []) in
    let stands : Standing table (items ++ x ∷ []) n.sizes u.front (items_kept (kept_in n.kept)) = rw (sizes, behind) w.0 in
    let kept : AreKept u.front (kept_in r.kept ++ k ∷ []) = AreKept-push u.front (kept_in r.kept) k u.kept (subst (λ (l : List Item). IsKept l k) u.standing.in_order is) in
    record {
      follows = record {
        by_table = by_table;
        fault = still ∙ sym (standing_fault table (items ++ x ∷ []) n.sizes u.front (items_kept (kept_in n.kept)) stands);
        under_way = λ _. record {
          asked = asked_more r.asked n.asked items x u.asked l.after;
          counted = looked_counted r n.asked x begun waits n.sizes items l u.counted (ended_none r.sizes _ _ (sym l.sizes ∙ unsure));
          front = u.front;
          standing = stands;
          kept = subst (λ (l : List Kept). AreKept u.front l) (sym pushed) kept;
        };
      };
      added = [];
      appended = grows_none old.lines;
      told = w.1 ∙ sym (append-nil (lines_told table items));
    }

-- ---- a message that is told, with those that waited

ready_by : (table : Table) (items : List Item) (x : Item) (begun : Bool) (waits : Option CommandNumber) (s t : Option (Option Widths)) (front : List Item) (kept : List Kept) → Standing table items s front (items_kept kept) → IsLooked items x.found begun waits
    → (t ≡ None → (kept ≡ []) × (wants_widths table waits x.found ≡ false)) → t ≡ None → first_after (widths_wanted table) front (items_kept kept ++ x ∷ []) ≡ None
ready_by table items x begun waits s t front kept h is why none =
    let y = why none in
    ready_alone table items x s front (items_kept kept) h (ap (λ (l : List Kept). items_kept l) y.0) (none_wanted table items x begun waits is y.1)

stopped_by : (w : Terms) (front kept : List Item) (x : Item) (fault : Option (ℕ × CaptureFault)) (old new : Transcript) → IsTold w front kept fault old new → is_some fault ≡ true → IsTold w front (kept ++ x ∷ []) fault old new
stopped_by w front kept x None old new h some = absurd cc
stopped_by w front kept x (Some p) old new h some = told_stopped w front kept (x ∷ []) p old new h

heard_told : (table : Table) (r n : Rulings) (x : Item) (begun : Bool) (waits : Option CommandNumber) (s : Option (Option Widths)) (items : List Item) (old new : Transcript) (u : IsUnderWay table r items) → n.table ≡ table → Looked r n.asked x begun waits s
    → (s ≡ None → (kept_in r.kept ≡ []) × (wants_widths table waits x.found ≡ false)) → IsTold (terms_by table (option_flatten s)) u.front (items_kept (kept_in r.kept) ++ x ∷ []) n.fault old new → kept_in n.kept ≡ [] → n.sizes ≡ s → HasHeardOne table items x n old new
heard_told table r n x begun waits s items old new u by_table l why told empty same =
    let is = is_looked r n.asked x begun waits s items u.asked l in
    let sizes = looked_sizes r n.asked x begun waits s items u.asked l in
    let t = option_or r.sizes (widths_answer items x) in
    let ready = ready_by table items x begun waits r.sizes s u.front (kept_in r.kept) u.standing is why in
    let d = released table items x r.sizes u.front (items_kept (kept_in r.kept)) u.standing (λ e. ready (sizes ∙ e)) in
    let v : option_flatten s ≡ option_flatten t = ap (λ (y : Option (Option Widths)). option_flatten y) sizes in
    let now = items_kept (kept_in r.kept) ++ x ∷ [] in
    let told_now : IsTold (terms_by table (option_flatten t)) u.front now n.fault old new = subst (λ (w : Option Widths). IsTold (terms_by table w) u.front now n.fault old new) v told in
    let sizes_now : n.sizes ≡ t = same ∙ sizes in
    let none_kept : items_kept (kept_in n.kept) ≡ [] = ap (λ (y : List Kept). items_kept y) empty in
    record {
      follows = record {
        by_table = by_table;
        fault = told_now.fault_is ∙ sym d.fault;
        under_way = λ quiet. record {
          asked = asked_more r.asked n.asked items x u.asked l.after;
          counted = looked_counted r n.asked x begun waits s items l u.counted (looked_order items x begun waits is ∙ order_holds (terms_by table (option_flatten t)) items x (d.standing (sym told_now.fault_is ∙ quiet)).none_breaks);
          front = items ++ x ∷ [];
          standing = rw (sizes_now, none_kept) (d.standing (sym told_now.fault_is ∙ quiet));
          kept = subst (λ (l : List Kept). AreKept (items ++ x ∷ []) l) (sym empty) tt;
        };
      };
      added = lines_behind (terms_by table (option_flatten t)) u.front now;
      appended = told_now.lines;
      told = d.lines;
    }

told_by_table : (table own : Table) (w : Option Widths) (before items : List Item) (fault : Option (ℕ × CaptureFault)) (old new : Transcript) → own ≡ table → IsTold (terms_by own w) before items fault old new → IsTold (terms_by table w) before items fault old new
told_by_table table own w before items fault old new by_table h = subst (λ (t : Table). IsTold (terms_by t w) before items fault old new) by_table h

-- one of those that waited breaks a rule
pub heard_stopped : (table own : Table) (r n : Rulings) (x : Item) (begun : Bool) (waits : Option CommandNumber) (s : Option (Option Widths)) (items : List Item) (old new : Transcript) → Follows table r items → own ≡ table → n.table ≡ own → r.fault ≡ None → Looked r n.asked x begun waits s
    → (s ≡ None → (kept_in r.kept ≡ []) × (wants_widths table waits x.found ≡ false)) → ((front : List Item) → AreKept front (kept_in r.kept) → IsTold (terms_by own (option_flatten s)) front (items_kept (kept_in r.kept)) n.fault old new)
    → is_some n.fault ≡ true → kept_in n.kept ≡ [] → n.sizes ≡ s → HasHeardOne table items x n old new
heard_stopped table own r n x begun waits s items old new h by_table still none l why tells some empty same =
    let u = h.under_way none in
    let told = told_by_table table own (option_flatten s) u.front (items_kept (kept_in r.kept)) n.fault old new by_table (tells u.front u.kept) in
    heard_told table r n x begun waits s items old new u (still ∙ by_table) l why (stopped_by (terms_by table (option_flatten s)) u.front (items_kept (kept_in r.kept)) x n.fault old new told some) empty same

-- none of them does
pub heard_released : (table own : Table) (r n : Rulings) (x : Item) (begun : Bool) (waits : Option CommandNumber) (s : Option (Option Widths)) (items : List Item) (fault : Option (ℕ × CaptureFault)) (old mid new : Transcript) → Follows table r items → own ≡ table → n.table ≡ own → r.fault ≡ None → Looked r n.asked x begun waits s
    → (s ≡ None → (kept_in r.kept ≡ []) × (wants_widths table waits x.found ≡ false)) → ((front : List Item) → AreKept front (kept_in r.kept) → IsTold (terms_by own (option_flatten s)) front (items_kept (kept_in r.kept)) fault old mid)
    → fault ≡ None → n.fault ≡ fault_by (terms_by own (option_flatten s)) begun waits x → Tells mid (line_by (terms_by own (option_flatten s)) begun waits x) new → kept_in n.kept ≡ [] → n.sizes ≡ s → HasHeardOne table items x n old new
heard_released table own r n x begun waits s items fault old mid new h by_table still none l why tells quiet is line empty same =
    let u = h.under_way none in
    let w = option_flatten s in
    let first : IsTold (terms_by table w) u.front (items_kept (kept_in r.kept)) None old mid = subst (λ (o : Option (ℕ × CaptureFault)). IsTold (terms_by table w) u.front (items_kept (kept_in r.kept)) o old mid) quiet (told_by_table table own w u.front (items_kept (kept_in r.kept)) fault old mid by_table (tells u.front u.kept)) in
    let fault_here : n.fault ≡ fault_by (terms_by table w) begun waits x = is ∙ ap (λ (t : Table). fault_by (terms_by t w) begun waits x) by_table in
    let line_here : Tells mid (line_by (terms_by table w) begun waits x) new = subst (λ (t : Table). Tells mid (line_by (terms_by t w) begun waits x) new) by_table line in
    let looked : IsLooked (u.front ++ items_kept (kept_in r.kept)) x.found begun waits = subst (λ (b : List Item). IsLooked b x.found begun waits) u.standing.in_order (is_looked r n.asked x begun waits s items u.asked l) in
    heard_told table r n x begun waits s items old new u (still ∙ by_table) l why (told_one (terms_by table w) u.front (items_kept (kept_in r.kept)) x begun waits n.fault old mid new first looked fault_here line_here) empty same

-- nothing waits, and this does not have to
pub heard_at_once : (table own : Table) (r n : Rulings) (x : Item) (begun : Bool) (waits : Option CommandNumber) (items : List Item) (old new : Transcript) → Follows table r items → own ≡ table → n.table ≡ own → r.fault ≡ None → Looked r n.asked x begun waits None → kept_in r.kept ≡ [] → wants_widths table waits x.found ≡ false
    → n.fault ≡ fault_by (terms_by own None) begun waits x → Tells old (line_by (terms_by own None) begun waits x) new → kept_in n.kept ≡ [] → n.sizes ≡ None → HasHeardOne table items x n old new
heard_at_once table own r n x begun waits items old new h by_table still none l empty unwanted is line left sizes =
    heard_released table own r n x begun waits None items None old old new h by_table still none l (λ e. (empty, unwanted)) (λ front are. told_empty (terms_by own None) front (kept_in r.kept) None old empty refl) refl is line left sizes

-- ---- a message that is told once the widths are sure

none_items : (kept : List Kept) → items_kept kept ≡ [] → kept ≡ []
none_items [] e = refl
none_items (x ∷ xs) e = absurd cc

pub heard_sure : (table : Table) (r n : Rulings) (x : Item) (begun : Bool) (waits : Option CommandNumber) (w : Option Widths) (items : List Item) (old new : Transcript) → Follows table r items → n.table ≡ r.table → r.fault ≡ None → r.sizes ≡ Some w → IsAfter r.asked x n.asked → begun ≡ r.asked.begun
    → waits ≡ under (waits_in r.asked) x.found → count_in n.asked + fewer_by waits x.sender x.found ≡ count_in r.asked + more_by waits x.sender x.found → n.sizes ≡ r.sizes → kept_in n.kept ≡ kept_in r.kept → n.fault ≡ fault_by (terms_by r.table w) begun waits x
    → Tells old (line_by (terms_by r.table w) begun waits x) new → HasHeardOne table items x n old new
heard_sure table r n x begun waits w items old new h still none sure after b c count sizes kept is line =
    let u = h.under_way none in
    let some : is_some r.sizes ≡ true = ap (λ (s : Option (Option Widths)). is_some s) sure in
    let empty : kept_in r.kept ≡ [] = none_items (kept_in r.kept) (u.standing.parted.all_known some) in
    let same : Some w ≡ option_or r.sizes (told_or_ended (order_fault begun waits x.sender x.found) (told_widths waits x.sender x.found)) =
    ap (λ (s : Option (Option Widths)). option_or s (told_or_ended (order_fault begun waits x.sender x.found) (told_widths waits x.sender x.found))) (sym sure) in
    heard_released table r.table r n x begun waits (Some w) items None old old new h h.by_table still none (record { after = after; begun_is = b; waits_is = c; sizes = same; counted = count }) (λ e. absurd cc) (λ front are. told_empty (terms_by r.table w) front (kept_in r.kept) None old empty refl) refl is line (kept ∙ empty)
    (sizes ∙ sure)

-- ---- the end

ended_by : (table : Table) (r : Rulings) (items : List Item) (old : Transcript) (o : Option (ℕ × CaptureFault)) → r.fault ≡ o → is_some o ≡ true → fault_told table items ≡ o → HasEnded table items r old old
ended_by table r items old None is some told = cc
ended_by table r items old (Some p) is some told =
    let b = is_beginning table items in
    let f = b.fault p told in
    record {
      fault = is ∙ sym f.0;
      added = [];
      appended = grows_none old.lines;
      told = b.lines ∙ ap (λ (l : List ℕ). lines_told table items ++ l) f.1;
    }

pub ended_after_fault : (table : Table) (r : Rulings) (items : List Item) (old : Transcript) → Follows table r items → is_some r.fault ≡ true → HasEnded table items r old old
ended_after_fault table r items old h some = ended_by table r items old r.fault refl some (sym h.fault)

pub ended_released : (table : Table) (r n : Rulings) (items : List Item) (old new : Transcript) → Follows table r items → r.fault ≡ None → ((front : List Item) → AreKept front (kept_in r.kept) → IsTold (terms_by r.table (option_flatten r.sizes)) front (items_kept (kept_in r.kept)) n.fault old new) → HasEnded table items n old new
ended_released table r n items old new h none tells =
    let u = h.under_way none in
    let s = u.standing in
    let w = option_flatten r.sizes in
    let told = told_by_table table r.table w u.front (items_kept (kept_in r.kept)) n.fault old new h.by_table (tells u.front u.kept) in
    let widths : widths_of items ≡ w = ap (λ (x : Option (Option Widths)). option_flatten x) s.settled_is in
    record {
      fault = told.fault_is ∙ sym (ap (λ (x : Option Widths). fault_under (terms_by table x) items) widths ∙ ap (λ (x : List Item). fault_behind (terms_by table w) [] x) s.in_order ∙ first_more _ [] u.front (items_kept (kept_in r.kept)) s.none_breaks);
      added = lines_behind (terms_by table w) u.front (items_kept (kept_in r.kept));
      appended = told.lines;
      told = ap (λ (x : Option Widths). lines_under (terms_by table x) items) widths ∙ ap (λ (x : List Item). lines_behind (terms_by table w) [] x) s.in_order ∙ told_more (terms_by table w) [] u.front (items_kept (kept_in r.kept)) s.none_breaks
          ∙ ap (λ (x : List ℕ). x ++ lines_behind (terms_by table w) u.front (items_kept (kept_in r.kept))) (sym (standing_lines table items r.sizes u.front (items_kept (kept_in r.kept)) s));
    }

-- ---- the beginning

pub follows_none : (table : Table) (r : Rulings) → r.table ≡ table → r.asked.begun ≡ false → ((id : ℕ) → waits_in r.asked id ≡ None) → count_in r.asked ≡ 0 → r.sizes ≡ None → kept_in r.kept ≡ [] → r.fault ≡ None → Follows table r []
unfolding first_after unanswered
follows_none table r by_table begun waits count sizes empty none = record {
  by_table = by_table;
  fault = none;
  under_way = λ _. record {
    asked = asked_none r.asked begun waits;
    counted = rw count refl;
    front = [];
    standing = record {
      in_order = sym (ap (λ (x : List Kept). items_kept x) empty);
      settled_is = sym sizes;
      parted = record {
        all_known = λ _. ap (λ (x : List Kept). items_kept x) empty;
        known = λ _. record { none_wants = refl; none_known = rw empty refl };
      };
      none_breaks = refl;
    };
    kept = subst (λ (l : List Kept). AreKept [] l) (sym empty) tt;
  };
}
