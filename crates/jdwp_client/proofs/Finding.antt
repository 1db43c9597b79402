-- Commands that wait for answers, one after the other.
use Rattle.std.proofs.Common.{◌≡◌, ◌∙◌, ℕ, zero, suc, ◌+◌, ◌≤◌, Bool, true, false, List, [], ◌∷◌, Option, Some, None, ap, refl, sym, drop, length, arith}
use Rattle.std.specs.List.{list_any}
use Rattle.std.proofs.Math.ListN.{drop_of_length-le}
use Rattle.std.proofs.lemmas.Grind.{common_steps}
use Rattle.jdwp_action.specs.Actions.{Command}
use Rattle.jdwp_debugger.specs.declared.pending.Ticket.{Ticket}
use Rattle.jdwp_debugger.specs.Debuggers.{Asked, Unanswered, and_then, at_place, unanswered}

-- the one at a place is the first of those behind it
pub found-none : (us : List Unanswered) (n : ℕ) → at_place us n ≡ None → drop n us ≡ []
found-none [] zero h = refl
found-none [] (suc n) h = refl
found-none (u ∷ us) zero h = absurd (let e = h in cc)
found-none (u ∷ us) (suc n) h = found-none us n h

pub found-some : (us : List Unanswered) (n : ℕ) (u : Unanswered) → at_place us n ≡ Some u → drop n us ≡ u ∷ drop (suc n) us
found-some [] n u h = absurd (let e = h in cc)
found-some (v ∷ us) zero u h = grind (arith, common_steps, h)
found-some (v ∷ us) (suc n) u h = found-some us n u h

-- of those behind a place one passes, where the one there does or one behind it
pub any-here : (p : Unanswered → Bool) (us : List Unanswered) (n : ℕ) (u : Unanswered) → at_place us n ≡ Some u → p u ≡ true → list_any p (drop n us) ≡ true
any-here p us n u h e = let there = found-some us n u h in rw (there, e) refl

pub any-later : (p : Unanswered → Bool) (us : List Unanswered) (n : ℕ) (u : Unanswered) → at_place us n ≡ Some u → p u ≡ false → list_any p (drop (n + 1) us) ≡ list_any p (drop n us)
any-later p us n u h e =
    let there = found-some us n u h in
    let on : n + 1 ≡ suc n = omega arith in
    rw (there, e) (ap (λ (m : ℕ). list_any p (drop m us)) on)

pub any-none : (p : Unanswered → Bool) (us : List Unanswered) (n : ℕ) → at_place us n ≡ None → list_any p (drop n us) ≡ false
any-none p us n h = let there = found-none us n h in rw there refl

-- no more are unanswered than wait
short-by : (o : Option Ticket) (c : Command) (us : List Unanswered) (n : ℕ) → length us ≤ n → length (and_then o c us) ≤ suc n
short-by None c us n h = omega (arith, h)
short-by (Some k) c us n h = omega (arith, h)

pub few-unanswered : (ps : List Asked) → length (unanswered ps) ≤ length ps
few-unanswered [] = omega arith
few-unanswered (p ∷ ps) = short-by p.ticket p.command (unanswered ps) (length ps) (few-unanswered ps)

-- ---- a walk over them

pub walk-here : (p : Unanswered → Bool) (us : List Unanswered) (n : ℕ) (u : Unanswered) → Some u ≡ at_place us n → p u ≡ true → list_any p (drop n us) ≡ list_any p us → true ≡ list_any p us
walk-here p us n u there passes rest = sym (any-here p us n u (sym there) passes) ∙ rest

pub walk-on : (p : Unanswered → Bool) (us : List Unanswered) (n : ℕ) (u : Unanswered) → Some u ≡ at_place us n → p u ≡ false → list_any p (drop n us) ≡ list_any p us → list_any p (drop (n + 1) us) ≡ list_any p us
walk-on p us n u there fails rest = any-later p us n u (sym there) fails ∙ rest

pub walk-past : (p : Unanswered → Bool) (us : List Unanswered) (n : ℕ) → None ≡ at_place us n → list_any p (drop n us) ≡ list_any p us → false ≡ list_any p us
walk-past p us n none rest = sym (any-none p us n (sym none)) ∙ rest

pub walk-end : (p : Unanswered → Bool) (us : List Unanswered) (n : ℕ) → length us ≤ n → list_any p (drop n us) ≡ list_any p us → false ≡ list_any p us
walk-end p us n few rest = ap (list_any p) (sym (drop_of_length-le us few)) ∙ rest
