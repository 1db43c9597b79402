-- Commands that wait under ids of their own, and the tickets of those that have one.
use Rattle.std.proofs.Common.{◌≡◌, ◌≢◌, ◌∙◌, ℕ, ◌<◌, ◌≤◌, ◌==◌, false, List, [], ◌∷◌, ◌++◌, length, get_or, take, Bool, true, if◌then◌else◌, ◌-◌, Option, Some, None, refl, sym, ap, slice_get, arith, suc, zero, true≢false}
use Rattle.std.specs.Prelude.{min, remove}
use Rattle.jdwp_end.specs.Ends.{End, is_open, room_of}
use Rattle.std.proofs.lemmas.Bool.{eq-eqb, or_parts}
use Rattle.std.proofs.lemmas.List.Edits.{length-remove}
use Rattle.std.proofs.lemmas.List.Quantifiers.{all_pairs_push, all_pairs_remove}
use Rattle.jdwp_debugger.specs.declared.pending.Ticket.{Ticket}
use Rattle.jdwp_debugger.specs.Asking.{is_outstanding}
use Rattle.jdwp_debugger.specs.Debuggers.{AreDistinct, AreOwn, Asked, tickets_of}
use Rattle.jdwp_mirror.specs.Messages.{id_sizes}

-- ---- ids

pub distinct-none : AreDistinct []
distinct-none = λ i j d before within. absurd (omega (arith, before, within))

other : (ps : List Asked) (id : ℕ) → is_outstanding ps id ≡ false → (k : ℕ) (d : Asked) → k < length ps → (get_or ps k d).id ≢ id
other [] id free k d within = absurd (omega (arith, within))
other (p ∷ ps) id free zero d within = λ same. let parts = or_parts (p.id == id) (is_outstanding ps id) free in absurd (true≢false (sym (eq-eqb p.id id same) ∙ parts.0))
other (p ∷ ps) id free (suc k) d within = let parts = or_parts (p.id == id) (is_outstanding ps id) free in other ps id parts.1 k d (omega (arith, within))

-- one more waits, under an id that is free
pub distinct-more : (ps : List Asked) (p : Asked) → AreDistinct ps → is_outstanding ps p.id ≡ false → AreDistinct (ps ++ p ∷ [])
distinct-more ps p all free = all_pairs_push (λ (x y : Asked). x.id ≢ y.id) ps p all (other ps p.id free)

-- one is settled
pub distinct-left : (ps : List Asked) (place : ℕ) → place < length ps → AreDistinct ps → AreDistinct (remove ps place)
distinct-left ps place within all = all_pairs_remove (λ (x y : Asked). x.id ≢ y.id) ps place within all

pub few-left : (ps : List Asked) (place most : ℕ) → place < length ps → length ps ≤ most → length (remove ps place) ≤ most
few-left ps place most within few = omega (arith, length-remove ps place within)

-- ---- what waits without a ticket

pub own-more : (ps : List Asked) (p : Asked) → (p.ticket ≡ None → p.command ≡ id_sizes) → AreOwn ps → AreOwn (ps ++ p ∷ [])
own-more [] p own all = (own, tt)
own-more (q ∷ ps) p own all = (all.0, own-more ps p own all.1)

pub own-left : (ps : List Asked) (place : ℕ) → AreOwn ps → AreOwn (remove ps place)
own-left [] zero all = tt
own-left [] (suc place) all = tt
own-left (p ∷ ps) zero all = all.1
own-left (p ∷ ps) (suc place) all = (all.0, own-left ps place all.1)

pub own-at : (ps : List Asked) (place : ℕ) (asked : Asked) → AreOwn ps → slice_get ps place ≡ Some asked → asked.ticket ≡ None → asked.command ≡ id_sizes
own-at [] place asked all at none = absurd cc
own-at (p ∷ ps) zero asked all at none =
    let same : p ≡ asked = cc in
    ap (λ (a : Asked). a.command) (sym same) ∙ all.0 (ap (λ (a : Asked). a.ticket) same ∙ none)
own-at (p ∷ ps) (suc place) asked all at none = own-at ps place asked all.1 at none

-- ---- tickets

given : (p : Asked) (ps : List Asked) (t : Option Ticket) → p.ticket ≡ t → length (tickets_of ps) ≤ length ps → length (tickets_of (p ∷ ps)) ≤ length (p ∷ ps)
given p ps None is few = rw is (omega arith)
given p ps (Some k) is few = rw is (omega arith)

pub few-tickets : (ps : List Asked) → length (tickets_of ps) ≤ length ps
few-tickets [] = omega arith
few-tickets (p ∷ ps) = given p ps p.ticket refl (few-tickets ps)

-- ---- bytes

none-when : (b : Bool) (room : ℕ) (bytes : List ℕ) (n : ℕ) → n ≡ min (length bytes) (if b then room else 0) → b ≡ false → take n bytes ≡ []
none-when true room bytes n count closed = absurd cc
none-when false room bytes n count closed =
    let zero : n ≡ 0 = omega (arith, count) in
    ap (λ (k : ℕ). take k bytes) zero

-- a closed end takes none
pub none-fed : (end : End) (bytes : List ℕ) (n : ℕ) → n ≡ min (length bytes) (room_of end) → is_open end ≡ false → take n bytes ≡ []
none-fed end bytes n count closed = none-when (is_open end) (end.limits.packet - length end.incoming) bytes n count closed
