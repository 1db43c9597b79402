-- no two commands that wait have the same ticket
use Rattle.std.proofs.Common.{◌≡◌, ℕ, ◌==◌, ◌+◌, ◌<◌, ◌≤◌, true, false, cond, Some, None, List, [], ◌∷◌, ◌++◌, refl, sym, ap, subst, arith}
use Rattle.std.proofs.lemmas.Bool.{eqb-true}
use Rattle.jdwp_end.specs.declared.phase.Phase.{Phase}
use Rattle.jdwp_end.specs.declared.phase.Phase.TheVariants.{Established}
use Rattle.jdwp_end.specs.Ends.{is_established_phase}
use Rattle.jdwp_action.specs.Actions.{Command}
use Rattle.jdwp_mirror.specs.Messages.{Ticket, same_ticket, id_sizes}
use Rattle.jdwp_model.specs.Next.{without_ticket}
use Rattle.jdwp_model.specs.Places.{tally, one_of}
use Rattle.jdwp_model.proofs.Waiting.{bit, tally-append, without-tally}

-- No two commands that wait have the same ticket, and none has one that was not given; none waits before the target's handshake is read.
pub record Apart (phase : Phase) (asked : ℕ) (pending : List (Ticket × Command)) : Type 0 where
  pub once : (k : Ticket) → tally (one_of k) pending ≤ 1
  pub fresh : (k : ℕ) → asked < k → tally (one_of (Some k)) pending ≡ 0
  pub none : is_established_phase phase ≡ false → pending ≡ []

pub apart_none : (phase : Phase) (asked : ℕ) → Apart phase asked []
apart_none phase asked = record { once = λ k. omega arith; fresh = λ k h. refl; none = λ _. refl }

asked-once : (n : ℕ) (p : List (Ticket × Command)) (k : Ticket) → ((k : Ticket) → tally (one_of k) p ≤ 1) → tally (one_of (Some n)) p ≡ 0 → tally (one_of k) p + (cond (same_ticket (Some n) k) 1 0 + 0) ≤ 1
asked-once n p None h z = let a : tally (one_of None) p ≤ 1 = h None in omega arith
asked-once n p (Some j) h z =
    let a : tally (one_of (Some j)) p ≤ 1 = h (Some j) in
    elim (n == j) as (λ b. (n == j) ≡ b → tally (one_of (Some j)) p + (cond b 1 0 + 0) ≤ 1) [
      | true ↦ λ e. let y : tally (one_of (Some j)) p ≡ 0 = subst (λ i. tally (one_of (Some i)) p ≡ 0) (eqb-true n j e) z in omega arith
      | false ↦ λ _. omega arith
    ] refl

pub asked-fresh : (n k : ℕ) → n < k → bit (n == k) ≡ 0
asked-fresh n k l = elim (n == k) as (λ b. (n == k) ≡ b → bit b ≡ 0) [ true ↦ λ e. let y : n ≡ k = eqb-true n k e in absurd (omega arith) | false ↦ λ _. refl ] refl

pub apart-asked : (phase : Phase) (asked : ℕ) (p : List (Ticket × Command)) (c : Command) → is_established_phase phase ≡ true → Apart phase asked p → Apart phase (asked + 1) (p ++ (Some (asked + 1), c) ∷ [])
apart-asked phase asked p c o a =
    record {
      once = λ k.
          let i : tally (one_of k) (p ++ (Some (asked + 1), c) ∷ []) ≡ tally (one_of k) p + (cond (same_ticket (Some (asked + 1)) k) 1 0 + 0) = tally-append (one_of k) p ((Some (asked + 1), c) ∷ []) in
          let more : asked < asked + 1 = omega arith in
          subst (λ n. n ≤ 1) (sym i) (asked-once (asked + 1) p k a.once (a.fresh (asked + 1) more));
      fresh = λ k l.
          let i : tally (one_of (Some k)) (p ++ (Some (asked + 1), c) ∷ []) ≡ tally (one_of (Some k)) p + (cond ((asked + 1) == k) 1 0 + 0) = tally-append (one_of (Some k)) p ((Some (asked + 1), c) ∷ []) in
          let more : asked < k = omega arith in
          let z : tally (one_of (Some k)) p ≡ 0 = a.fresh k more in
          let y : bit ((asked + 1) == k) ≡ 0 = asked-fresh (asked + 1) k l in
          omega arith;
      none = λ x. absurd (cc);
    }

pub apart-greeted : (phase : Phase) (asked : ℕ) (p : List (Ticket × Command)) → is_established_phase phase ≡ false → Apart phase asked p → Apart Established asked (p ++ (None, id_sizes) ∷ [])
apart-greeted phase asked p o a =
    subst (λ l. Apart Established asked (l ++ (None, id_sizes) ∷ [])) (sym (a.none o))
    (record { once = λ k. elim k as (λ (k : Ticket). tally (one_of k) ((None, id_sizes) ∷ []) ≤ 1) [ None ↦ omega arith | Some j ↦ omega arith ]; fresh = λ k l. refl; none = λ x. absurd (cc) })

pub apart-read : (phase : Phase) (asked : ℕ) (k : Ticket) (p : List (Ticket × Command)) → Apart phase asked p → Apart phase asked (without_ticket k p)
apart-read phase asked k p a =
    record {
      once = λ j. let h = a.once j in let e = without-tally (one_of j) k p in omega arith;
      fresh = λ j l. let h = a.fresh j l in let e = without-tally (one_of (Some j)) k p in omega arith;
      none = λ x. ap (without_ticket k) (a.none x);
    }
