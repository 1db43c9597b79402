-- threads begin and end until they are those of a later moment
use Rattle.std.proofs.Common.{◌≡◌, ℕ, ◌==◌, ◌⊎◌, inl, inr, Bool, true, false, ◌||◌, cond, Option, Some, None, List, [], ◌∷◌, ◌++◌, refl, sym, ◌∙◌, ap, subst, is_some}
use Rattle.std.proofs.lemmas.Bool.{cond_both, eqb-true}
use Rattle.jdwp_machine.specs.Meanings.{Meaning, has}
use Rattle.jdwp_debuggee.specs.State.{Moment, count_of, or_zero, ids}
use Rattle.jdwp_debuggee.specs.Facts.{Quiet}
use Rattle.jdwp_debuggee.specs.ThreadLaws.{has-count}
use Rattle.jdwp_apart.specs.World as apart
use Rattle.jdwp_apart.specs.World.{Life, Unborn, Alive, Ended, is_unborn, is_alive}
use Rattle.jdwp_orders.specs.Acts
use Rattle.jdwp_orders.specs.Acts.{Act, events_of, in_one_order}
use Rattle.jdwp_orders.proofs.Acting.{acted}

-- a thread's life and count are those that its count in a moment says, and who has begun has lived by then
pub record Person (life : Life) (n : ℕ) (count : Option ℕ) (ever : Bool) : Type 0 where
  pub lives : is_alive life ≡ is_some count
  pub counts : n ≡ or_zero count
  pub begun : is_unborn life ≡ false → ever ≡ true

abbrev pub Matches : (ℕ → Option ℕ) → (ℕ → Bool) → apart.World → Type 0
Matches counts ever v = (u : ℕ) → Person (v.lives u) (v.counts u) (counts u) (ever u)

pub same_person : (life : Life) (n : ℕ) (c d : Option ℕ) (e f : Bool) → c ≡ d → (e ≡ true → f ≡ true) → Person life n c e → Person life n d f
same_person life n c d e f h k p = record { lives = p.lives ∙ ap is_some h; counts = p.counts ∙ ap or_zero h; begun = λ b. k (p.begun b) }

-- ---- what is asked of two moments

pub record Turns (from to : ℕ → Option ℕ) (before by : ℕ → Bool) : Type 0 where
  pub ever : (t : ℕ) → before t ≡ true → by t ≡ true
  pub no_birth : (t n : ℕ) → before t ≡ true → to t ≡ Some n → from t ≡ Some n
  pub lived : (t n : ℕ) → to t ≡ Some n → by t ≡ true
  pub unsuspended : (t n : ℕ) → from t ≡ None → to t ≡ Some n → n ≡ 0

-- a thread is as it is then, or it still is as it was before
abbrev Either : (ℕ → Option ℕ) → (ℕ → Option ℕ) → (ℕ → Bool) → (ℕ → Bool) → List ℕ → apart.World → ℕ → Type 0
Either from to past ever ts v u =
    Person (v.lives u) (v.counts u) (to u) (ever u) ⊎ ((has ts u ≡ true) × Person (v.lives u) (v.counts u) (from u) (past u))

-- ---- one thread

no-true : false ≡ true → ⊥
no-true h = cc

other : (from to : ℕ → Option ℕ) (past ever : ℕ → Bool) (t : ℕ) (ts : List ℕ) (v : apart.World) (u : ℕ) → (t == u) ≡ false → Either from to past ever (t ∷ ts) v u → Either from to past ever ts v u
other from to past ever t ts v u n (inl p) = inl p
other from to past ever t ts v u n (inr p) = inr (ap (λ b. b || has ts u) (sym n) ∙ p.0, p.1)

not-alive : (life : Life) → is_unborn life ≡ true → is_alive life ≡ false
not-alive Unborn h = refl
not-alive Alive h = absurd (cc)
not-alive Ended h = absurd (cc)

not-unborn : (life : Life) → is_alive life ≡ true → is_unborn life ≡ false
not-unborn Unborn h = absurd (cc)
not-unborn Alive h = refl
not-unborn Ended h = absurd (cc)

none-of : (c : Option ℕ) → false ≡ is_some c → c ≡ None
none-of None h = refl
none-of (Some n) h = absurd (cc)

has-begun : (from to : ℕ → Option ℕ) (past ever : ℕ → Bool) (ts : List ℕ) (v : apart.World) (t : ℕ) → Turns from to past ever → Either from to past ever ts v t → is_unborn (v.lives t) ≡ false → ever t ≡ true
has-begun from to past ever ts v t w (inl p) b = p.begun b
has-begun from to past ever ts v t w (inr p) b = w.ever t (p.1.begun b)

begins-here : (from to : ℕ → Option ℕ) (past ever : ℕ → Bool) (t n : ℕ) (ts : List ℕ) (v : apart.World) → Turns from to past ever → to t ≡ Some n → is_unborn (v.lives t) ≡ false → Either from to past ever (t ∷ ts) v t → Either from to past ever ts v t
begins-here from to past ever t n ts v w e b (inl p) = inl p
begins-here from to past ever t n ts v w e b (inr p) =
    inl (same_person (v.lives t) (v.counts t) (from t) (to t) (past t) (ever t) (w.no_birth t n (p.1.begun b) e ∙ sym e) (w.ever t) p.1)

ends-here : (from to : ℕ → Option ℕ) (past ever : ℕ → Bool) (t : ℕ) (ts : List ℕ) (v : apart.World) → Turns from to past ever → to t ≡ None → is_alive (v.lives t) ≡ false → Either from to past ever (t ∷ ts) v t → Either from to past ever ts v t
ends-here from to past ever t ts v w e b (inl p) = inl p
ends-here from to past ever t ts v w e b (inr p) =
    inl (same_person (v.lives t) (v.counts t) (from t) (to t) (past t) (ever t) (none-of (from t) (sym b ∙ p.1.lives) ∙ sym e) (w.ever t) p.1)

zero-born : (from to : ℕ → Option ℕ) (past ever : ℕ → Bool) (t n : ℕ) (ts : List ℕ) (v : apart.World) → Turns from to past ever → to t ≡ Some n → is_unborn (v.lives t) ≡ true → Either from to past ever ts v t → n ≡ 0
zero-born from to past ever t n ts v w e b (inl p) = absurd (no-true (sym (not-alive (v.lives t) b) ∙ (p.lives ∙ ap is_some e)))
zero-born from to past ever t n ts v w e b (inr p) = w.unsuspended t n (none-of (from t) (sym (not-alive (v.lives t) b) ∙ p.1.lives)) e

begins-one : (from to : ℕ → Option ℕ) (past ever : ℕ → Bool) (t n : ℕ) (ts : List ℕ) (v : apart.World) → Turns from to past ever → to t ≡ Some n → ((u : ℕ) → Either from to past ever (t ∷ ts) v u) → (u : ℕ) → Either from to past ever ts (apart.next v (apart.Begins t 0)) u
begins-one from to past ever t n ts v w e p u =
    cond_both (is_unborn (v.lives t)) (apart.becomes v t Alive 0) v (λ x. Either from to past ever ts x u)
    (λ b. elim (t == u) as (λ k. (t == u) ≡ k → Person (cond k Alive (v.lives u)) (cond k 0 (v.counts u)) (to u) (ever u) ⊎ ((has ts u ≡ true) × Person (cond k Alive (v.lives u)) (cond k 0 (v.counts u)) (from u) (past u))) [
      | true ↦ λ k.
          let f : to u ≡ Some n = sym (ap to (eqb-true t u k)) ∙ e in
          let z : n ≡ 0 = zero-born from to past ever t n (t ∷ ts) v w e b (p t) in
          inl (record { lives = sym (ap is_some f); counts = sym (ap or_zero f ∙ z); begun = λ _. w.lived u n f })
      | false ↦ λ k. other from to past ever t ts v u k (p u)
    ] refl)
    (λ b. elim (t == u) as (λ k. (t == u) ≡ k → Either from to past ever ts v u) [
      | true ↦ λ k. subst (Either from to past ever ts v) (eqb-true t u k) (begins-here from to past ever t n ts v w e b (p t))
      | false ↦ λ k. other from to past ever t ts v u k (p u)
    ] refl)

ends-one : (from to : ℕ → Option ℕ) (past ever : ℕ → Bool) (t : ℕ) (ts : List ℕ) (v : apart.World) → Turns from to past ever → to t ≡ None → ((u : ℕ) → Either from to past ever (t ∷ ts) v u) → (u : ℕ) → Either from to past ever ts (apart.next v (apart.Ends t)) u
ends-one from to past ever t ts v w e p u =
    cond_both (is_alive (v.lives t)) (apart.becomes v t Ended 0) v (λ x. Either from to past ever ts x u)
    (λ b. elim (t == u) as (λ k. (t == u) ≡ k → Person (cond k Ended (v.lives u)) (cond k 0 (v.counts u)) (to u) (ever u) ⊎ ((has ts u ≡ true) × Person (cond k Ended (v.lives u)) (cond k 0 (v.counts u)) (from u) (past u))) [
      | true ↦ λ k.
          let q : t ≡ u = eqb-true t u k in
          let f : to u ≡ None = sym (ap to q) ∙ e in
          let l : ever t ≡ true = has-begun from to past ever (t ∷ ts) v t w (p t) (not-unborn (v.lives t) b) in
          inl (record { lives = sym (ap is_some f); counts = sym (ap or_zero f); begun = λ _. sym (ap ever q) ∙ l })
      | false ↦ λ k. other from to past ever t ts v u k (p u)
    ] refl)
    (λ b. elim (t == u) as (λ k. (t == u) ≡ k → Either from to past ever ts v u) [
      | true ↦ λ k. subst (Either from to past ever ts v) (eqb-true t u k) (ends-here from to past ever t ts v w e b (p t))
      | false ↦ λ k. other from to past ever t ts v u k (p u)
    ] refl)

-- ---- all threads of a list

-- a thread is made what it is then
abbrev pub settle : Option ℕ → ℕ → Act
settle (Some n) t = Acts.Begins t
settle None t = Acts.Ends t

abbrev pub all_settle : (ℕ → Option ℕ) → List ℕ → List Act
all_settle to [] = []
all_settle to (t ∷ ts) = settle (to t) t ∷ all_settle to ts

-- what births and deaths leave as it is
abbrev pub IsKeptByLives : (apart.World → Type 0) → Type 0
IsKeptByLives P = (v : apart.World) (t : ℕ) (l : Life) (n : ℕ) → P v → P (apart.becomes v t l n)

settle-all : (P : apart.World → Type 0) → IsKeptByLives P → (from to : ℕ → Option ℕ) (past ever : ℕ → Bool) (ts : List ℕ) (v : apart.World) → Turns from to past ever → P v → ((u : ℕ) → Either from to past ever ts v u) → P (acted v (all_settle to ts)) × ((u : ℕ) → Either from to past ever [] (acted v (all_settle to ts)) u)
settle-all P kept from to past ever [] v w p e = (p, e)
settle-all P kept from to past ever (t ∷ ts) v w p e =
    elim (to t) as (λ o. to t ≡ o → P (apart.run v (events_of (settle o t) ++ in_one_order (all_settle to ts))) × ((u : ℕ) → Either from to past ever [] (apart.run v (events_of (settle o t) ++ in_one_order (all_settle to ts))) u)) [
      | Some n ↦ λ q. settle-all P kept from to past ever ts (apart.next v (apart.Begins t 0)) w
          (cond_both (is_unborn (v.lives t)) (apart.becomes v t Alive 0) v P (λ _. kept v t Alive 0 p) (λ _. p))
          (begins-one from to past ever t n ts v w q e)
      | None ↦ λ q. settle-all P kept from to past ever ts (apart.next v (apart.Ends t)) w
          (cond_both (is_alive (v.lives t)) (apart.becomes v t Ended 0) v P (λ _. kept v t Ended 0 p) (λ _. p))
          (ends-one from to past ever t ts v w q e)
    ] refl

settled : (from to : ℕ → Option ℕ) (past ever : ℕ → Bool) (v : apart.World) (u : ℕ) → Either from to past ever [] v u → Person (v.lives u) (v.counts u) (to u) (ever u)
settled from to past ever v u (inl p) = p
settled from to past ever v u (inr p) = absurd (no-true p.0)

-- Whoever lives in one of two moments is in the list.
pub turns : (P : apart.World → Type 0) → IsKeptByLives P → (from to : ℕ → Option ℕ) (past ever : ℕ → Bool) (ts : List ℕ) (v : apart.World) → Turns from to past ever → ((u : ℕ) → has ts u ≡ false → (from u ≡ None) × (to u ≡ None)) → P v → Matches from past v → P (acted v (all_settle to ts)) × Matches to ever (acted v (all_settle to ts))
turns P kept from to past ever ts v w all p m =
    let r = settle-all P kept from to past ever ts v w p (λ u. elim (has ts u) as (λ b. has ts u ≡ b → Either from to past ever ts v u) [
      | true ↦ λ h. inr (h, m u)
      | false ↦ λ h. let n = all u h in inl (same_person (v.lives u) (v.counts u) (from u) (to u) (past u) (ever u) (n.0 ∙ sym n.1) (w.ever u) (m u))
    ] refl) in
    (r.0, λ u. settled from to past ever (acted v (all_settle to ts)) u (r.1 u))

-- ---- between two moments

has-append : (xs ys : List ℕ) (u : ℕ) → has (xs ++ ys) u ≡ (has xs u || has ys u)
has-append [] ys u = refl
has-append (x ∷ xs) ys u = elim (x == u) as (λ b. (b || has (xs ++ ys) u) ≡ ((b || has xs u) || has ys u)) [ true ↦ refl | false ↦ has-append xs ys u ]

neither : (a b : Bool) → (a || b) ≡ false → (a ≡ false) × (b ≡ false)
neither true b h = absurd (cc)
neither false b h = (refl, h)

pub all_between : {S : Type 0} (a b : Moment S) (u : ℕ) → has (ids a.state.threads ++ ids b.state.threads) u ≡ false → (count_of a.state u ≡ None) × (count_of b.state u ≡ None)
all_between a b u h =
    let n = neither (has (ids a.state.threads) u) (has (ids b.state.threads) u) (sym (has-append (ids a.state.threads) (ids b.state.threads) u) ∙ h) in
    (none-of (count_of a.state u) (sym n.0 ∙ has-count a.state.threads u), none-of (count_of b.state u) (sym n.1 ∙ has-count b.state.threads u))

-- nothing was told between them, and whoever lives in the second has lived by a third
pub turns_quiet : {S : Type 0} (m : Meaning S) (a b : Moment S) (ever : ℕ → Bool) → Quiet m a b → ((t : ℕ) → m.ever b.machine t ≡ true → ever t ≡ true) → ((t n : ℕ) → count_of b.state t ≡ Some n → ever t ≡ true) → Turns (λ t. count_of a.state t) (λ t. count_of b.state t) (m.ever a.machine) ever
turns_quiet m a b ever q e l =
    record {
      ever = λ t h. e t (q.ever t h);
      no_birth = λ t n h k. q.no_birth t n h k;
      lived = l;
      unsuspended = λ t n h k. sym (ap or_zero k) ∙ (q.same_count t ∙ ap or_zero h);
    }
