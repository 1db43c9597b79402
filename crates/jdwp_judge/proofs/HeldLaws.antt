-- How much is kept.
use Rattle.std.proofs.Common.{◌≡◌, ℕ, ◌+◌, ◌<◌, ◌≤◌, Bool, true, false, cond, eqb, ltb, ◌||◌, inl, inr, List, [], length, Option, None, is_some, refl, sym, ap, ◌∙◌, arith}
use Rattle.std.proofs.lemmas.Bool.{cases_lt, ltb-false, le-ltb}
use Rattle.std.proofs.lemmas.List.{length-append, length-map}
use Rattle.jdwp_wire.specs.declared.frame.FrameFault.TheVariants.{ShortLength, TooLong, BadFlags}
use Rattle.jdwp_wire.specs.declared.frame.NextHello.{NextHello}
use Rattle.jdwp_wire.specs.declared.frame.NextHello.TheVariants as hello
use Rattle.jdwp_wire.specs.Frames.{Front, front, flags_field, length_field, whole_or_more, flagged, measured}
use Rattle.jdwp_wire.specs.Frames as frames
use Rattle.jdwp_wire.specs.Handshake.{handshake_front, HandshakeFrontOf}
use Rattle.jdwp_wire.specs.HandshakeLaws.{handshake_front_is}
use Rattle.jdwp_wire.specs.Limits.{standard_limits}
use Rattle.jdwp_wire.specs.Streams.{NextMessage, Whole, More, Fault, next_message, after_handshake, at_handshake}
use Rattle.jdwp_wire.specs.Widths.{Widths}
use Rattle.jdwp_show.specs.declared.capture_line.Sender.{Sender}
use Rattle.jdwp_show.specs.declared.capture_line.Sender.TheVariants.{Debugger, Target}
use Rattle.jdwp_show.specs.declared.table.Table.{Table}
use Rattle.jdwp_show.specs.Found.{Found, found_at, found_after}
use Rattle.jdwp_show.specs.Items.{Item, items_of}
use Rattle.jdwp_show.specs.Lines.{Line, sent_by}
use Rattle.jdwp_show.proofs.FoundLemmas.{found_step}
use Rattle.jdwp_judge.specs.declared.coming.Coming.{Coming}
use Rattle.jdwp_judge.specs.declared.held.Held.{Held}
use Rattle.jdwp_judge.specs.declared.judge.Judge.{Judge}
use Rattle.jdwp_judge.specs.Coming.{IsComing}
use Rattle.jdwp_judge.specs.Heard.{Kept, items_kept}
use Rattle.jdwp_judge.specs.Held.{IsRest, IsHeld}
use Rattle.jdwp_judge.specs.Judges.{HasHeardUnder}
use Rattle.jdwp_judge.specs.Standing.{Standing, count_in, kept_in}
use Rattle.jdwp_judge.specs.Told.{settled, known, known_by, told_fault_under}
use Rattle.jdwp_judge.proofs.ToldLaws.{standing_known}

-- ---- what is not whole is shorter than a packet may be

passed : (b : Bool) (x y : Front) → (x ≡ frames.More → ⊥) → cond b x y ≡ frames.More → (b ≡ false) × (y ≡ frames.More)
passed true x y bad e = absurd (bad e)
passed false x y bad e = (refl, e)

chosen : (b : Bool) (x y : Front) → (y ≡ frames.More → ⊥) → cond b x y ≡ frames.More → x ≡ frames.More
chosen true x y bad e = e
chosen false x y bad e = absurd (bad e)

not_long : (bytes : List ℕ) → 65536 ≤ length bytes → front 65536 bytes ≡ frames.More → ⊥
not_long bytes long e =
    let m = length_field bytes in
    let a : measured 65536 m bytes ≡ frames.More = rw (le-ltb (length bytes) 4 (omega arith)) at e in
    let b = passed (ltb m 11) (frames.Fault ShortLength) (cond (ltb 65536 m) (frames.Fault TooLong) (flagged m bytes)) (λ f. cc) a in
    let d = passed (ltb 65536 m) (frames.Fault TooLong) (flagged m bytes) (λ f. cc) b.1 in
    let within : m ≤ 65536 = ltb-false 65536 m d.0 in
    let g : cond (eqb (flags_field bytes) 0 || eqb (flags_field bytes) 128) (whole_or_more m bytes) (frames.Fault BadFlags) ≡ frames.More = rw (le-ltb (length bytes) 9 (omega arith)) at d.1 in
    let h = chosen (eqb (flags_field bytes) 0 || eqb (flags_field bytes) 128) (whole_or_more m bytes) (frames.Fault BadFlags) (λ f. cc) g in
    let i = rw (le-ltb (length bytes) m (omega (arith, within, long))) at h in
    cc

small_front : (bytes : List ℕ) → front 65536 bytes ≡ frames.More → length bytes < 65536
small_front bytes e = elim (cases_lt (length bytes) 65536) [
  | inl less ↦ less
  | inr more ↦ absurd (not_long bytes more e)
]

small_hello : (bytes : List ℕ) (next : NextHello) → handshake_front bytes ≡ next → HandshakeFrontOf bytes next → next ≡ hello.More → length bytes < 65536
small_hello bytes hello.More is (rest, some, e) more =
    let all : 14 ≡ length bytes + length rest = ap (λ (l : List ℕ). length l) e ∙ length-append bytes rest in
    omega (arith, all, some)
small_hello bytes hello.Whole is h more = absurd cc
small_hello bytes (hello.Fault f) is h more = absurd cc

front_more : (f : Front) → after_handshake f ≡ More → f ≡ frames.More
front_more frames.More e = refl
front_more (frames.Whole h body used) e = absurd cc
front_more (frames.Fault f) e = absurd cc

hello_more : (f : NextHello) → at_handshake f ≡ More → f ≡ hello.More
hello_more hello.More e = refl
hello_more hello.Whole e = absurd cc
hello_more (hello.Fault f) e = absurd cc

small_next : (handshaken : Bool) (bytes : List ℕ) → next_message 65536 handshaken bytes ≡ More → length bytes < 65536
small_next true bytes e = small_front bytes (front_more (front 65536 bytes) e)
small_next false bytes e = small_hello bytes (handshake_front bytes) refl (handshake_front_is bytes) (hello_more (handshake_front bytes) e)

none_more : (m : NextMessage) (bytes : List ℕ) (rest : List ℕ → List Found) → found_at m bytes rest ≡ [] → m ≡ More
none_more More bytes rest e = refl
none_more (Whole message used) bytes rest e = absurd cc
none_more (Fault fault) bytes rest e = absurd cc

small_rest : (handshaken : Bool) (bytes : List ℕ) → found_after handshaken bytes ≡ [] → length bytes < 65536
small_rest handshaken bytes none = small_next handshaken bytes (none_more (next_message standard_limits.packet handshaken bytes) bytes (found_after true) (sym (found_step handshaken bytes) ∙ none))

pub is_rest : (sender : Sender) (pieces : List Line) (coming : Coming) (count : ℕ) → IsComing (sent_by sender pieces) (items_of pieces) sender coming → count ≡ length coming.bytes.items → IsRest sender pieces count
is_rest sender pieces coming count h is = record {
  left = (let e = h.counted in omega (arith, e, is));
  small = (let e = small_rest coming.handshaken coming.bytes.items h.none_whole in omega (arith, e, is));
}

-- ---- the messages that wait

-- so many wait of these items
record AreWaiting (table : Table) (items : List Item) (count : ℕ) : Type 0 where
  behind : count + length (known table items) ≡ length items
  once_settled : is_some (settled items) ≡ true → count ≡ 0

are_waiting : (table : Table) (items : List Item) (s : Option (Option Widths)) (told : List Item) (kept : List Kept) (count : ℕ) → Standing table items s told (items_kept kept) → count ≡ length kept → AreWaiting table items count
are_waiting table items s told kept count h is =
    let long : length (items_kept kept) ≡ length kept = length-map kept (λ (one : Kept). one.item) in
    let known_are : known table items ≡ told = ap (λ (x : Option (Option Widths)). known_by table x items) h.settled_is ∙ standing_known table items s told (items_kept kept) h in
    let all : length items ≡ length told + length (items_kept kept) = ap (λ (l : List Item). length l) h.in_order ∙ length-append told (items_kept kept) in
    record {
      behind = omega (arith, is, long, all, ap (λ (l : List Item). length l) known_are);
      once_settled = λ sure. (let none = ap (λ (l : List Item). length l) (h.parted.all_known (ap (λ (x : Option (Option Widths)). is_some x) (sym h.settled_is) ∙ sure)) in omega (arith, is, long, none));
    }

-- ---- a judge

pub is_held : (table : Table) (judge : Judge) (pieces : List Line) (held : Held) → HasHeardUnder table judge pieces → told_fault_under table pieces ≡ None → held.debugger_bytes ≡ length judge.debugger.bytes.items → held.target_bytes ≡ length judge.target.bytes.items
    → held.messages ≡ length (kept_in judge.rulings.kept) → held.commands ≡ count_in judge.rulings.asked → IsHeld table pieces held
is_held table judge pieces held h none d t m w =
    let quiet : judge.rulings.fault ≡ None = h.follows.fault ∙ none in
    let u = h.follows.under_way quiet in
    let waiting = are_waiting table (items_of pieces) judge.rulings.sizes u.front (kept_in judge.rulings.kept) held.messages u.standing m in
    let counted = u.counted in
    record {
      debugger_bytes = is_rest Debugger pieces judge.debugger held.debugger_bytes (h.coming quiet Debugger) d;
      target_bytes = is_rest Target pieces judge.target held.target_bytes (h.coming quiet Target) t;
      messages = waiting.behind;
      once_settled = waiting.once_settled;
      commands = omega (arith, counted, w);
    }
