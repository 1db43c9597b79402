-- The messages in what an end sent, one by one.
use Rattle.std.proofs.Common.{◌≡◌, ℕ, ◌+◌, ◌-◌, ◌≤◌, Bool, true, false, cond, ◌⊎◌, inl, inr, List, [], ◌∷◌, ◌++◌, length, map, take, drop, Option, Some, None, is_some, refl, sym, ap, subst, ◌∙◌, arith, append_assoc, append-nil, zero-add}
use Rattle.std.specs.Option.{option_or, option_flatten}
use Rattle.std.proofs.lemmas.List.{map-append, take_all, drop_at, drop-drop, length-append, length-drop}
use Rattle.std.proofs.lemmas.List.Sums.{sum_by-append, sum_by-cons}
use Rattle.jdwp_wire.specs.declared.packet.Header.{Header}
use Rattle.jdwp_wire.specs.declared.frame.FrameFault.{FrameFault}
use Rattle.jdwp_wire.specs.declared.frame.NextHello.TheVariants as hello
use Rattle.jdwp_wire.specs.Frames.{FrontOf}
use Rattle.jdwp_wire.specs.Frames as frames
use Rattle.jdwp_wire.specs.Handshake.{HandshakeFrontOf}
use Rattle.jdwp_wire.specs.Limits.{standard_limits}
use Rattle.jdwp_wire.specs.Streams.{Handshake, Packet}
use Rattle.jdwp_wire.specs.Widths.{Widths}
use Rattle.jdwp_show.specs.declared.capture_fault.CaptureFault.{CaptureFault}
use Rattle.jdwp_show.specs.declared.capture_line.Sender.{Sender}
use Rattle.jdwp_show.specs.CaptureLines.{length_for, lengths_of}
use Rattle.jdwp_show.specs.Found.{Found, Sent, Faulty, found, found_after, found_length}
use Rattle.jdwp_show.specs.Items.{Item, item_at}
use Rattle.jdwp_show.specs.Sessions.{first_after, widths_answer, fault_answer}
use Rattle.jdwp_show.specs.Tables.{terms_by}
use Rattle.jdwp_show.specs.Transcripts.{Tells}
use Rattle.jdwp_show.specs.declared.table.Table.{Table}
use Rattle.jdwp_show.specs.declared.transcript.Transcript.{Transcript}
use Rattle.jdwp_show.proofs.TextLemmas.{grows_none, joined}
use Rattle.jdwp_show.proofs.FoundLemmas.{more_packets, more_handshake, whole_packet, whole_handshake, hello_length, packet_length}
use Rattle.jdwp_show.proofs.ItemLaws.{same_as_itself}
use Rattle.jdwp_judge.specs.declared.coming.Coming.{Coming}
use Rattle.jdwp_judge.specs.declared.heard.Found as declared
use Rattle.jdwp_judge.specs.declared.heard.Found.TheVariants as here
use Rattle.jdwp_judge.specs.declared.rulings.Rulings.{Rulings}
use Rattle.jdwp_judge.specs.Heard.{thing}
use Rattle.jdwp_judge.specs.Coming.{found_behind, IsNext, IsComing}
use Rattle.jdwp_judge.specs.Hearing.{completed_by, items_with, HasHeardAll}
use Rattle.jdwp_judge.specs.Standing.{Follows, HasHeardOne}
use Rattle.jdwp_judge.specs.Told.{lines_told, fault_told, settled}
use Rattle.jdwp_judge.proofs.ToldLaws.{first-append, first_one, goes_on}

-- ---- what stands in front

pub no_hello : (bytes : List ℕ) → HandshakeFrontOf bytes hello.More → found_after false bytes ≡ []
no_hello bytes front = ap (λ (x : List ℕ). found_after false x) (sym (append-nil bytes)) ∙ more_handshake bytes front

pub no_packet : (bytes : List ℕ) → FrontOf standard_limits.packet bytes frames.More → found_after true bytes ≡ []
no_packet bytes front = ap (λ (x : List ℕ). found_after true x) (sym (append-nil bytes)) ∙ more_packets bytes front

all_of : (bytes : List ℕ) → take (length bytes - 0) (drop 0 bytes) ≡ bytes
all_of bytes = take_all (length bytes - 0) bytes (omega arith)

rest_of : (bytes : List ℕ) (used : ℕ) → take (length bytes - (0 + used)) (drop (0 + used) bytes) ≡ drop used bytes
rest_of bytes used =
    let e : 0 + used ≡ used = zero-add used in
    rw e (take_all (length bytes - used) (drop used bytes) (omega (arith, length-drop used bytes)))

pub hello_front : (bytes more : List ℕ) → HandshakeFrontOf bytes hello.Whole → found_after false (bytes ++ more) ≡ Sent Handshake ∷ found_after true (drop 14 bytes ++ more)
hello_front bytes more front =
    let long = hello_length bytes front in
    ap (λ (x : List ℕ). found_after false (x ++ more)) (sym (all_of bytes))
    ∙ whole_handshake bytes more 0 (length bytes) (omega arith) (omega arith) (subst (λ (x : List ℕ). HandshakeFrontOf x hello.Whole) (sym (all_of bytes)) front)
    ∙ ap (λ (x : List ℕ). Sent Handshake ∷ found_after true (x ++ more)) (rest_of bytes 14)

pub packet_front : (bytes more : List ℕ) (h : Header) (body : List ℕ) (used : ℕ) → FrontOf standard_limits.packet bytes (frames.Whole h body used) → found_after true (bytes ++ more) ≡ Sent (Packet h body) ∷ found_after true (drop used bytes ++ more)
packet_front bytes more h body used front =
    let long = packet_length bytes h body used front in
    ap (λ (x : List ℕ). found_after true (x ++ more)) (sym (all_of bytes))
    ∙ whole_packet bytes more 0 (length bytes) used h body (omega (arith, long.1)) (omega arith) (subst (λ (x : List ℕ). FrontOf standard_limits.packet x (frames.Whole h body used)) (sym (all_of bytes)) front)
    ∙ ap (λ (x : List ℕ). Sent (Packet h body) ∷ found_after true (x ++ more)) (rest_of bytes used)

-- ---- items in a piece

pub with_none : (piece : ℕ) (sender : Sender) (items : List Item) → items_with piece sender items [] ≡ items
with_none piece sender items = append-nil items

pub with_more : (piece : ℕ) (sender : Sender) (items : List Item) (things more : List Found) → items_with piece sender items (things ++ more) ≡ items_with piece sender items things ++ map (item_at piece sender) more
with_more piece sender items things more =
    ap (λ (l : List Item). items ++ l) (map-append (item_at piece sender) things more) ∙ sym (append_assoc items (map (item_at piece sender) things) (map (item_at piece sender) more))

lengths_with : (piece : ℕ) (sender : Sender) (items : List Item) (things : List Found) (x : Found) → lengths_of sender (items_with piece sender items (things ++ x ∷ [])) ≡ lengths_of sender (items_with piece sender items things) + found_length x
lengths_with piece sender items things x =
    let own : length_for sender (item_at piece sender x) ≡ found_length x = ap (λ (b : Bool). cond b (found_length x) 0) (same_as_itself sender) in
    let alone = sum_by-cons (length_for sender) (item_at piece sender x) [] in
    let sum : lengths_of sender (items_with piece sender items things ++ item_at piece sender x ∷ []) ≡ lengths_of sender (items_with piece sender items things) + lengths_of sender (item_at piece sender x ∷ []) =
    sum_by-append (length_for sender) (items_with piece sender items things) (item_at piece sender x ∷ []) in
    ap (λ (l : List Item). lengths_of sender l) (with_more piece sender items things (x ∷ [])) ∙ omega (arith, sum, alone, own)

-- ---- the loop

-- these were found so far, and heard
pub record Taking (table : Table) (piece : ℕ) (sender : Sender) (items : List Item) (sent bytes : List ℕ) (rulings : Rulings) (coming : Coming) (taken : ℕ) (before after : Transcript) : Type 0 where
  pub done : List Found
  pub follows : Follows table rulings (items_with piece sender items done)
  pub added : List ℕ
  pub appended : Tells before added after
  pub told : lines_told table (items_with piece sender items done) ≡ lines_told table items ++ added
  pub going : (more : List ℕ) → found ((sent ++ bytes) ++ more) ≡ (found sent ++ done) ++ found_after coming.handshaken (drop taken coming.bytes.items ++ more)
  pub counted : length (sent ++ bytes) + taken ≡ lengths_of sender (items_with piece sender items done) + length coming.bytes.items

pub taking_none : (table : Table) (piece : ℕ) (sender : Sender) (items : List Item) (sent bytes : List ℕ) (r : Rulings) (old new : Coming) (lines : Transcript) → Follows table r items → IsComing sent items sender old → new.bytes.items ≡ old.bytes.items ++ bytes → new.handshaken ≡ old.handshaken
    → Taking table piece sender items sent bytes r new 0 lines lines
taking_none table piece sender items sent bytes r old new lines follows coming came same =
    let none = with_none piece sender items in
    let count : lengths_of sender (items_with piece sender items []) ≡ lengths_of sender items = ap (λ (l : List Item). lengths_of sender l) none in
    record {
      done = [];
      follows = subst (λ (l : List Item). Follows table r l) (sym none) follows;
      added = [];
      appended = grows_none lines.lines;
      told = ap (λ (l : List Item). lines_told table l) none ∙ sym (append-nil (lines_told table items));
      going = λ more.
          ap (λ (l : List ℕ). found l) (append_assoc sent bytes more) ∙ coming.goes_on (bytes ++ more)
          ∙ ap (λ (l : List ℕ). found sent ++ found_after old.handshaken l) (sym (append_assoc old.bytes.items bytes more) ∙ ap (λ (l : List ℕ). l ++ more) (sym came))
          ∙ ap (λ (b : Bool). found sent ++ found_after b (new.bytes.items ++ more)) (sym same)
          ∙ ap (λ (l : List Found). l ++ found_after new.handshaken (new.bytes.items ++ more)) (sym (append-nil (found sent)));
      counted = omega (arith, count, coming.counted, length-append sent bytes, ap (λ (l : List ℕ). length l) came, length-append old.bytes.items bytes);
    }

-- one thing more was heard, with what stands behind it
record OneMore (table : Table) (piece : ℕ) (sender : Sender) (items : List Item) (sent bytes : List ℕ) (rulings : Rulings) (one : declared.Found) (rest : List ℕ) (used all : ℕ) (before after : Transcript) : Type 0 where
  done : List Found
  follows : Follows table rulings (items_with piece sender items (done ++ thing one ∷ []))
  added : List ℕ
  appended : Tells before added after
  told : lines_told table (items_with piece sender items (done ++ thing one ∷ [])) ≡ lines_told table items ++ added
  going : (more : List ℕ) → found ((sent ++ bytes) ++ more) ≡ (found sent ++ (done ++ thing one ∷ [])) ++ found_behind one (rest ++ more)
  counted : length (sent ++ bytes) + used ≡ lengths_of sender (items_with piece sender items (done ++ thing one ∷ [])) + all

one_more : (table : Table) (piece : ℕ) (sender : Sender) (items : List Item) (sent bytes : List ℕ) (r n : Rulings) (coming : Coming) (taken used : ℕ) (one : declared.Found) (before mid after : Transcript) → Taking table piece sender items sent bytes r coming taken before mid
    → IsNext coming.handshaken (drop taken coming.bytes.items) (Some (one, used)) → ((all : List Item) → Follows table r all → HasHeardOne table all (item_at piece sender (thing one)) n mid after)
    → OneMore table piece sender items sent bytes n one (drop used (drop taken coming.bytes.items)) (taken + used) (length coming.bytes.items) before after
one_more table piece sender items sent bytes r n coming taken used one before mid after t next hears =
    let all = items_with piece sender items t.done in
    let h = hears all t.follows in
    let e = with_more piece sender items t.done (thing one ∷ []) in
    let left = drop taken coming.bytes.items in
    record {
      done = t.done;
      follows = subst (λ (l : List Item). Follows table n l) (sym e) h.follows;
      added = t.added ++ h.added;
      appended = joined t.appended h.appended;
      told = ap (λ (l : List Item). lines_told table l) e ∙ h.told ∙ ap (λ (l : List ℕ). l ++ h.added) t.told ∙ append_assoc (lines_told table items) t.added h.added;
      going = λ more.
          t.going more ∙ ap (λ (l : List Found). (found sent ++ t.done) ++ l) (next.0 more)
          ∙ sym (append_assoc (found sent ++ t.done) (thing one ∷ []) (found_behind one (drop used left ++ more)))
          ∙ ap (λ (l : List Found). l ++ found_behind one (drop used left ++ more)) (append_assoc (found sent) t.done (thing one ∷ []));
      counted = omega (arith, t.counted, lengths_with piece sender items t.done (thing one), next.1);
    }

-- no message is empty
behind_some : (one : declared.Found) (bytes : List ℕ) → (found_length (thing one) ≡ 0 → ⊥) → found_behind one bytes ≡ found_after true bytes
behind_some here.Handshake bytes some = refl
behind_some (here.Packet packet) bytes some = refl
behind_some (here.Fault fault) bytes some = absurd (some refl)

pub taking_more : (table : Table) (piece : ℕ) (sender : Sender) (items : List Item) (sent bytes : List ℕ) (r n : Rulings) (old new : Coming) (taken used : ℕ) (one : declared.Found) (before mid after : Transcript) → Taking table piece sender items sent bytes r old taken before mid
    → IsNext old.handshaken (drop taken old.bytes.items) (Some (one, used)) → ((all : List Item) → Follows table r all → HasHeardOne table all (item_at piece sender (thing one)) n mid after)
    → (used ≡ 0 → ⊥) → new.bytes ≡ old.bytes → new.handshaken ≡ true → Taking table piece sender items sent bytes n new (taken + used) before after
taking_more table piece sender items sent bytes r n old new taken used one before mid after t next hears some same begun =
    let o = one_more table piece sender items sent bytes r n old taken used one before mid after t next hears in
    let kept : new.bytes.items ≡ old.bytes.items = ap (λ (v : _). v.items) same in
    record {
      done = o.done ++ thing one ∷ [];
      follows = o.follows;
      added = o.added;
      appended = o.appended;
      told = o.told;
      going = λ more.
          o.going more ∙ ap (λ (l : List Found). (found sent ++ (o.done ++ thing one ∷ [])) ++ l)
          (behind_some one (drop used (drop taken old.bytes.items) ++ more) (λ e. some (next.1 ∙ e))
          ∙ ap (λ (l : List ℕ). found_after true (l ++ more)) (drop-drop used taken old.bytes.items ∙ ap (λ (l : List ℕ). drop (taken + used) l) (sym kept))
          ∙ ap (λ (b : Bool). found_after b (drop (taken + used) new.bytes.items ++ more)) (sym begun));
      counted = omega (arith, o.counted, ap (λ (l : List ℕ). length l) kept);
    }

completed_is : (sent bytes : List ℕ) (things : List Found) → found (sent ++ bytes) ≡ found sent ++ things → completed_by sent bytes ≡ things
completed_is sent bytes things e = ap (λ (l : List Found). drop (length (found sent)) l) e ∙ drop_at (found sent) things (length (found sent)) refl

-- all was heard that is whole
pub taking_end : (table : Table) (piece : ℕ) (sender : Sender) (items : List Item) (sent bytes : List ℕ) (r : Rulings) (old new : Coming) (taken : ℕ) (before after : Transcript) → Taking table piece sender items sent bytes r old taken before after → IsNext old.handshaken (drop taken old.bytes.items) None
    → taken ≤ length old.bytes.items → new.bytes.items ≡ drop taken old.bytes.items → new.handshaken ≡ old.handshaken → HasHeardAll table piece sender items sent bytes r new before after
taking_end table piece sender items sent bytes r old new taken before after t none within left same =
    let left_is = drop taken old.bytes.items in
    let here : found (sent ++ bytes) ≡ found sent ++ t.done =
    ap (λ (l : List ℕ). found l) (sym (append-nil (sent ++ bytes))) ∙ t.going [] ∙ ap (λ (l : List ℕ). (found sent ++ t.done) ++ found_after old.handshaken l) (append-nil left_is)
    ∙ ap (λ (l : List Found). (found sent ++ t.done) ++ l) none ∙ append-nil (found sent ++ t.done) in
    let done : completed_by sent bytes ≡ t.done = completed_is sent bytes t.done here in
    let now : items_with piece sender items (completed_by sent bytes) ≡ items_with piece sender items t.done = ap (λ (l : List Found). items_with piece sender items l) done in
    record {
      follows = subst (λ (l : List Item). Follows table r l) (sym now) t.follows;
      added = t.added;
      appended = t.appended;
      told = ap (λ (l : List Item). lines_told table l) now ∙ t.told;
      coming_on = λ _. record {
        goes_on = λ more.
            t.going more ∙ ap (λ (l : List Found). l ++ found_after old.handshaken (left_is ++ more)) (sym here)
            ∙ ap (λ (l : List ℕ). found (sent ++ bytes) ++ found_after old.handshaken (l ++ more)) (sym left)
            ∙ ap (λ (b : Bool). found (sent ++ bytes) ++ found_after b (new.bytes.items ++ more)) (sym same);
        none_whole = ap (λ (l : List ℕ). found_after new.handshaken l) left ∙ ap (λ (b : Bool). found_after b left_is) same ∙ none;
        counted = omega (arith, t.counted, ap (λ (l : List Item). lengths_of sender l) now, ap (λ (l : List ℕ). length l) left, length-drop taken old.bytes.items, within);
      };
    }

-- ---- a frame fault is told

or_right : {A : Type 0} (x y : Option A) → option_or x y ≡ None → y ≡ None
or_right None y e = e
or_right (Some a) y e = cc

settles : (o : Option (Option Widths)) → is_some (option_or o (Some None)) ≡ true
settles (Some w) = refl
settles None = refl

faulty_by : (table : Table) (r : Rulings) (items : List Item) (line : ℕ) (sender : Sender) (fault : FrameFault) → Follows table r (items ++ item_at line sender (Faulty fault) ∷ []) → r.fault ≡ None → ⊥
faulty_by table r items line sender fault h none =
    let item = item_at line sender (Faulty fault) in
    let u = h.under_way none in
    let s = u.standing in
    let sure : r.sizes ≡ option_or (settled items) (Some None) = sym s.settled_is ∙ first-append widths_answer [] items (item ∷ []) ∙ ap (λ (o : Option (Option Widths)). option_or (settled items) o) (first_one widths_answer items item) in
    let some : is_some r.sizes ≡ true = ap (λ (o : Option (Option Widths)). is_some o) sure ∙ settles (settled items) in
    let all : u.front ≡ items ++ item ∷ [] = sym (append-nil u.front) ∙ ap (λ (l : List Item). u.front ++ l) (sym (s.parted.all_known some)) ∙ sym s.in_order in
    let w = option_flatten r.sizes in
    let holds : first_after (fault_answer (terms_by table w)) [] (items ++ item ∷ []) ≡ None = ap (λ (l : List Item). first_after (fault_answer (terms_by table w)) [] l) (sym all) ∙ s.none_breaks in
    let here : fault_answer (terms_by table w) items item ≡ None = sym (first_one (fault_answer (terms_by table w)) items item) ∙ or_right (first_after (fault_answer (terms_by table w)) [] items) (first_after (fault_answer (terms_by table w)) items (item ∷ [])) (sym (first-append (fault_answer (terms_by table w)) [] items (item ∷ [])) ∙ holds) in
    cc

-- ---- a fault ends it

fault_some : {A : Type 0} (o : Option A) → (o ≡ None → ⊥) → is_some o ≡ true
fault_some (Some a) some = refl
fault_some None some = absurd (some refl)

some_not : {A : Type 0} (o : Option A) → is_some o ≡ true → o ≡ None → ⊥
some_not (Some a) some none = cc
some_not None some none = cc

stops_by : (table : Table) (piece : ℕ) (sender : Sender) (items : List Item) (things more : List Found) (r : Rulings) (lines : List ℕ) (o : Option (ℕ × CaptureFault)) → r.fault ≡ o → is_some o ≡ true → Follows table r (items_with piece sender items things) → lines_told table (items_with piece sender items things) ≡ lines
    → Follows table r (items_with piece sender items (things ++ more)) × (lines_told table (items_with piece sender items (things ++ more)) ≡ lines)
stops_by table piece sender items things more r lines None is some h told = absurd cc
stops_by table piece sender items things more r lines (Some p) is some h told =
    let all = items_with piece sender items things in
    let later = map (item_at piece sender) more in
    let g = goes_on table all later in
    let f = g.fault p (sym h.fault ∙ is) in
    let e = with_more piece sender items things more in (
      record {
        by_table = h.by_table;
        fault = is ∙ sym f.0 ∙ ap (λ (l : List Item). fault_told table l) (sym e);
        under_way = λ none. absurd (some_not (Some p) some (sym is ∙ none));
      },
      ap (λ (l : List Item). lines_told table l) e ∙ g.lines ∙ ap (λ (l : List ℕ). lines_told table all ++ l) f.1 ∙ append-nil (lines_told table all) ∙ told,
    )

one_stops : (table : Table) (piece : ℕ) (sender : Sender) (items : List Item) (sent bytes : List ℕ) (n : Rulings) (coming : Coming) (one : declared.Found) (rest : List ℕ) (used all : ℕ) (before after : Transcript) → OneMore table piece sender items sent bytes n one rest used all before after → is_some n.fault ≡ true
    → HasHeardAll table piece sender items sent bytes n coming before after
one_stops table piece sender items sent bytes n coming one rest used all before after o some =
    let things = o.done ++ thing one ∷ [] in
    let later = found_behind one (rest ++ []) in
    let here : found (sent ++ bytes) ≡ found sent ++ (things ++ later) = ap (λ (l : List ℕ). found l) (sym (append-nil (sent ++ bytes))) ∙ o.going [] ∙ append_assoc (found sent) things later in
    let done : completed_by sent bytes ≡ things ++ later = completed_is sent bytes (things ++ later) here in
    let s = stops_by table piece sender items things later n _ n.fault refl some o.follows o.told in
    let now : items_with piece sender items (completed_by sent bytes) ≡ items_with piece sender items (things ++ later) = ap (λ (l : List Found). items_with piece sender items l) done in
    record {
      follows = subst (λ (l : List Item). Follows table n l) (sym now) s.0;
      added = o.added;
      appended = o.appended;
      told = ap (λ (l : List Item). lines_told table l) now ∙ s.1;
      coming_on = λ none. absurd (some_not n.fault some none);
    }

empty_faults : (table : Table) (piece : ℕ) (sender : Sender) (items : List Item) (n : Rulings) (done : List Found) (one : declared.Found) → found_length (thing one) ≡ 0 → Follows table n (items_with piece sender items (done ++ thing one ∷ [])) → n.fault ≡ None → ⊥
empty_faults table piece sender items n done here.Handshake empty h none = absurd cc
empty_faults table piece sender items n done (here.Packet packet) empty h none = absurd (omega arith)
empty_faults table piece sender items n done (here.Fault fault) empty h none =
    faulty_by table n (items_with piece sender items done) piece sender fault (subst (λ (l : List Item). Follows table n l) (with_more piece sender items done (Faulty fault ∷ [])) h) none

pub taking_stops : (table : Table) (piece : ℕ) (sender : Sender) (items : List Item) (sent bytes : List ℕ) (r n : Rulings) (old new : Coming) (taken used : ℕ) (one : declared.Found) (before mid after : Transcript) → Taking table piece sender items sent bytes r old taken before mid
    → IsNext old.handshaken (drop taken old.bytes.items) (Some (one, used)) → ((all : List Item) → Follows table r all → HasHeardOne table all (item_at piece sender (thing one)) n mid after)
    → (used ≡ 0) ⊎ (is_some n.fault ≡ true) → HasHeardAll table piece sender items sent bytes n new before after
taking_stops table piece sender items sent bytes r n old new taken used one before mid after t next hears (inl none) =
    let o = one_more table piece sender items sent bytes r n old taken used one before mid after t next hears in
    one_stops table piece sender items sent bytes n new one _ _ _ before after o (fault_some n.fault (empty_faults table piece sender items n o.done one (sym next.1 ∙ none) o.follows))
taking_stops table piece sender items sent bytes r n old new taken used one before mid after t next hears (inr some) =
    let o = one_more table piece sender items sent bytes r n old taken used one before mid after t next hears in
    one_stops table piece sender items sent bytes n new one _ _ _ before after o some
