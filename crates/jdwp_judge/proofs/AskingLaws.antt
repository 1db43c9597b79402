-- How many commands wait, where no item breaks a rule of frames, ends or ids.
use Rattle.std.proofs.Common.{◌≡◌, ℕ, ◌+◌, Bool, true, false, cond, List, [], ◌∷◌, ◌++◌, Option, Some, None, is_some, option_map, refl, sym, ◌∙◌, arith}
use Rattle.std.specs.List.{count_by}
use Rattle.std.specs.Option.{option_or}
use Rattle.std.proofs.lemmas.List.Sums.{sum_by-append, sum_by-cons}
use Rattle.jdwp_wire.specs.declared.packet.PacketKind.{PacketKind}
use Rattle.jdwp_wire.specs.declared.packet.PacketKind.TheVariants as kind
use Rattle.jdwp_wire.specs.Streams.{Handshake, Packet}
use Rattle.jdwp_wire.specs.Widths.{Widths}
use Rattle.jdwp_show.specs.declared.capture_fault.CaptureFault.{CaptureFault}
use Rattle.jdwp_show.specs.declared.capture_fault.CaptureFault.TheVariants.{WrongWay, IdInUse}
use Rattle.jdwp_show.specs.declared.capture_line.Sender.{Sender}
use Rattle.jdwp_show.specs.declared.capture_line.Sender.TheVariants.{Debugger, Target}
use Rattle.jdwp_show.specs.declared.command_number.CommandNumber.{CommandNumber}
use Rattle.jdwp_show.specs.declared.terms.Terms.{Terms}
use Rattle.jdwp_show.specs.Found.{Found, Sent, Faulty}
use Rattle.jdwp_show.specs.Items.{Item}
use Rattle.jdwp_show.specs.Rules.{command_fault, target_fault, order_fault, order_fault_of, data_fault, waiting_for}
use Rattle.jdwp_show.specs.Sessions.{first_after, told_or_ended, fault_answer}
use Rattle.jdwp_judge.specs.declared.asked.Asked.{Asked}
use Rattle.jdwp_judge.specs.Asking.{packet_asks, packet_answers, asks, answers, count_asked, count_answered}
use Rattle.jdwp_judge.specs.Standing.{count_in, more_by, fewer_by}
use Rattle.jdwp_judge.proofs.ToldLaws.{first-append, first_one}

-- ---- what breaks no rule of ids counts once

abbrev one_if : Bool → ℕ
one_if b = cond b 1 0

abbrev none_if : Bool → ℕ
none_if b = cond b 0 1

abbrev only_if : Bool → ℕ → ℕ
only_if b n = cond b n 0

-- a command under a free id, and a reply to one that waits
record CountsOnce (waits : Option CommandNumber) (asking answering : Bool) : Type 0 where
  more : only_if asking (none_if (is_some waits)) ≡ one_if asking
  fewer : only_if answering (one_if (is_some waits)) ≡ one_if answering

in_use : (b : Bool) → cond b (Some WrongWay) (Some IdInUse) ≡ None → ⊥
in_use true e = cc
in_use false e = cc

command_once : (waits : Option CommandNumber) (k : PacketKind) → command_fault waits k ≡ None → CountsOnce waits (packet_asks Debugger k) (packet_answers Debugger k)
command_once None (kind.Command set number) e = record { more = refl; fewer = refl }
command_once (Some w) (kind.Command set number) e = absurd (in_use _ e)
command_once waits (kind.Reply error) e = record { more = refl; fewer = refl }

target_once : (waits : Option CommandNumber) (k : PacketKind) → target_fault waits k ≡ None → CountsOnce waits (packet_asks Target k) (packet_answers Target k)
target_once waits (kind.Command set number) e = record { more = refl; fewer = refl }
target_once None (kind.Reply error) e = absurd cc
target_once (Some w) (kind.Reply error) e = record { more = refl; fewer = refl }

counts_once : (begun : Bool) (waits : Option CommandNumber) (sender : Sender) (found : Found) → order_fault begun waits sender found ≡ None → CountsOnce waits (asks sender found) (answers sender found)
counts_once begun waits sender (Faulty fault) e = absurd cc
counts_once begun waits sender (Sent Handshake) e = record { more = refl; fewer = refl }
counts_once begun waits Debugger (Sent (Packet header body)) e = command_once waits header.kind e
counts_once begun waits Target (Sent (Packet header body)) e = target_once waits header.kind e

-- ---- one item more

one_more : (test : Item → Bool) (items : List Item) (item : Item) → count_by test (items ++ item ∷ []) ≡ count_by test items + one_if (test item)
one_more test items item =
    let alone = sum_by-cons (λ (x : Item). cond (test x) 1 0) item [] in
    let all = sum_by-append (λ (x : Item). cond (test x) 1 0) items (item ∷ []) in
    omega (arith, all, alone)

sums : (old new asked answered later_asked later_answered more fewer one other : ℕ) → old + answered ≡ asked → new + fewer ≡ old + more → more ≡ one → fewer ≡ other → later_asked ≡ asked + one → later_answered ≡ answered + other → new + later_answered ≡ later_asked
sums old new asked answered later_asked later_answered more fewer one other a b c d e f = omega arith

pub counted_more : (old new : Asked) (items : List Item) (x : Item) (waits : Option CommandNumber) (begun : Bool) → count_in old + count_answered items ≡ count_asked items
    → count_in new + fewer_by waits x.sender x.found ≡ count_in old + more_by waits x.sender x.found → order_fault begun waits x.sender x.found ≡ None
    → count_in new + count_answered (items ++ x ∷ []) ≡ count_asked (items ++ x ∷ [])
counted_more old new items x waits begun counted step holds =
    let once = counts_once begun waits x.sender x.found holds in
    let more : more_by waits x.sender x.found ≡ one_if (asks x.sender x.found) = once.more in
    let fewer : fewer_by waits x.sender x.found ≡ one_if (answers x.sender x.found) = once.fewer in
    let asked : count_asked (items ++ x ∷ []) ≡ count_asked items + one_if (asks x.sender x.found) = one_more (λ (y : Item). asks y.sender y.found) items x in
    let answered : count_answered (items ++ x ∷ []) ≡ count_answered items + one_if (answers x.sender x.found) = one_more (λ (y : Item). answers y.sender y.found) items x in
    sums (count_in old) (count_in new) _ _ _ _ _ _ _ _ counted step more fewer asked answered

-- ---- that it breaks none

pub ended_none : (s : Option (Option Widths)) (order : Option CaptureFault) (w : Option Widths) → option_or s (told_or_ended order w) ≡ None → order ≡ None
ended_none (Some v) order w e = absurd cc
ended_none None None w e = refl
ended_none None (Some fault) w e = absurd cc

left_none : {A : Type 0} (x y : Option A) → option_or x y ≡ None → x ≡ None
left_none None y e = refl
left_none (Some a) y e = absurd cc

right_none : {A : Type 0} (x y : Option A) → option_or x y ≡ None → y ≡ None
right_none None y e = e
right_none (Some a) y e = absurd cc

unmapped : {A B : Type 0} (f : A → B) (o : Option A) → option_map f o ≡ None → o ≡ None
unmapped f None e = refl
unmapped f (Some a) e = absurd cc

pub order_holds : (w : Terms) (items : List Item) (item : Item) → first_after (fault_answer w) [] (items ++ item ∷ []) ≡ None → order_fault_of items item ≡ None
order_holds w items item e =
    let last : fault_answer w items item ≡ None = sym (first_one (fault_answer w) items item) ∙ right_none _ _ (sym (first-append (fault_answer w) [] items (item ∷ [])) ∙ e) in
    left_none (order_fault_of items item) (data_fault w (waiting_for items item.found) item.sender item.found) (unmapped _ _ last)
