-- every live thread ends
use Rattle.std.proofs.Common.{◌≡◌, ℕ, ◌==◌, Bool, true, false, ◌||◌, ◌&&◌, not, List, [], ◌∷◌, refl, sym, ◌∙◌, ap}
use Rattle.std.specs.List.{IsDistinct, AllByRecursion}
use Rattle.std.proofs.lemmas.Bool.{eqb-true, eq-eqb, false_from_ne_true}
use Rattle.jdwp_machine.specs.Meanings.{Meaning, has}
use Rattle.jdwp_machine.specs.Laws.{IsLawful, AreDistinct}
use Rattle.jdwp_debuggee.specs.Effects.{all_ended}

-- a thread that stands in the rest is another one
pub another : (t u : ℕ) (ts : List ℕ) → AllByRecursion (λ (y : ℕ). (t == y) ≡ false) ts → has ts u ≡ true → (u == t) ≡ false
another t u [] d h = absurd (cc)
another t u (x ∷ xs) d h =
    elim (x == u) as (λ b. (x == u) ≡ b → (b || has xs u) ≡ true → (u == t) ≡ false) [
      | true ↦ λ e _. false_from_ne_true (u == t) (λ k. let y : (t == x) ≡ true = eq-eqb t x (sym (eqb-true x u e ∙ eqb-true u t k)) in let z : (t == x) ≡ false = d.0 in absurd (cc))
      | false ↦ λ _ r. another t u xs d.1 r
    ] refl h

pub distinct-head : (t : ℕ) (ts : List ℕ) → AreDistinct (t ∷ ts) → AllByRecursion (λ (y : ℕ). (t == y) ≡ false) ts
unfolding IsDistinct
distinct-head t ts d = d.0

pub distinct-tail : (t : ℕ) (ts : List ℕ) → AreDistinct (t ∷ ts) → AreDistinct ts
unfolding IsDistinct
distinct-tail t ts d = d.1

-- all of them live
abbrev pub AllLive : {S : Type 0} → Meaning S → S → List ℕ → Type 0
AllLive m s ts = (u : ℕ) → has ts u ≡ true → has (m.live s) u ≡ true

head-live : {S : Type 0} (m : Meaning S) (s : S) (t : ℕ) (ts : List ℕ) → AllLive m s (t ∷ ts) → has (m.live s) t ≡ true
head-live m s t ts l = l t (ap (λ b. b || has ts t) (eq-eqb t t refl))

pub tail-live : {S : Type 0} (m : Meaning S) → IsLawful m → (s : S) (t : ℕ) (ts : List ℕ) → m.is_state s → AreDistinct (t ∷ ts) → AllLive m s (t ∷ ts) → AllLive m (m.ended s t) ts
tail-live m law s t ts st d l u h =
    let a : has (t ∷ ts) u ≡ true = elim (t == u) as (λ b. (b || has ts u) ≡ true) [ true ↦ refl | false ↦ h ] in
    law.live_ended s t u (st, head-live m s t ts l) ∙ (ap (λ b. b && not (u == t)) (l u a) ∙ ap not (another t u ts (distinct-head t ts d) h))

all-state : {S : Type 0} (m : Meaning S) → IsLawful m → (s : S) (ts : List ℕ) → m.is_state s → AreDistinct ts → AllLive m s ts → m.is_state (all_ended m s ts)
all-state m law s [] st d l = st
all-state m law s (t ∷ ts) st d l =
    all-state m law (m.ended s t) ts (law.state_ended s t (st, head-live m s t ts l)) (distinct-tail t ts d) (tail-live m law s t ts st d l)

all-ever : {S : Type 0} (m : Meaning S) → IsLawful m → (s : S) (ts : List ℕ) → m.is_state s → AreDistinct ts → AllLive m s ts → (u : ℕ) → m.ever (all_ended m s ts) u ≡ m.ever s u
all-ever m law s [] st d l u = refl
all-ever m law s (t ∷ ts) st d l u =
    all-ever m law (m.ended s t) ts (law.state_ended s t (st, head-live m s t ts l)) (distinct-tail t ts d) (tail-live m law s t ts st d l) u
    ∙ law.ever_ended s t u (st, head-live m s t ts l)

all-sizes : {S : Type 0} (m : Meaning S) → IsLawful m → (s : S) (ts : List ℕ) → m.is_state s → AreDistinct ts → AllLive m s ts → m.sizes (all_ended m s ts) ≡ m.sizes s
all-sizes m law s [] st d l = refl
all-sizes m law s (t ∷ ts) st d l =
    all-sizes m law (m.ended s t) ts (law.state_ended s t (st, head-live m s t ts l)) (distinct-tail t ts d) (tail-live m law s t ts st d l)
    ∙ law.sizes_ended s t (st, head-live m s t ts l)

turned : (a b c x : Bool) → b ≡ c → ((a && not b) && not x) ≡ (a && not (c || x))
turned true true c x e = ap (λ y. not (y || x)) e
turned true false c x e = ap (λ y. not (y || x)) e
turned false b c x e = refl

same : (t u : ℕ) → (u == t) ≡ (t == u)
same t u =
    elim (t == u) as (λ b. (t == u) ≡ b → (u == t) ≡ b) [
      | true ↦ λ e. eq-eqb u t (sym (eqb-true t u e))
      | false ↦ λ e. false_from_ne_true (u == t) (λ k. let y : (t == u) ≡ true = eq-eqb t u (sym (eqb-true u t k)) in absurd (cc))
    ] refl

all-live : {S : Type 0} (m : Meaning S) → IsLawful m → (s : S) (ts : List ℕ) → m.is_state s → AreDistinct ts → AllLive m s ts → (u : ℕ) → has (m.live (all_ended m s ts)) u ≡ (has (m.live s) u && not (has ts u))
all-live m law s [] st d l u = elim (has (m.live s) u) as (λ b. b ≡ (b && true)) [ true ↦ refl | false ↦ refl ]
all-live m law s (t ∷ ts) st d l u =
    all-live m law (m.ended s t) ts (law.state_ended s t (st, head-live m s t ts l)) (distinct-tail t ts d) (tail-live m law s t ts st d l) u
    ∙ (ap (λ b. b && not (has ts u)) (law.live_ended s t u (st, head-live m s t ts l)) ∙ turned (has (m.live s) u) (u == t) (t == u) (has ts u) (same t u))

pub ended-state : {S : Type 0} (m : Meaning S) → IsLawful m → (s : S) → m.is_state s → m.is_state (all_ended m s (m.live s))
ended-state m law s st = all-state m law s (m.live s) st (law.live_distinct s st) (λ u h. h)

pub ended-ever : {S : Type 0} (m : Meaning S) → IsLawful m → (s : S) → m.is_state s → (u : ℕ) → m.ever (all_ended m s (m.live s)) u ≡ m.ever s u
ended-ever m law s st u = all-ever m law s (m.live s) st (law.live_distinct s st) (λ v h. h) u

pub ended-sizes : {S : Type 0} (m : Meaning S) → IsLawful m → (s : S) → m.is_state s → m.sizes (all_ended m s (m.live s)) ≡ m.sizes s
ended-sizes m law s st = all-sizes m law s (m.live s) st (law.live_distinct s st) (λ v h. h)

pub ended-live : {S : Type 0} (m : Meaning S) → IsLawful m → (s : S) → m.is_state s → (u : ℕ) → has (m.live (all_ended m s (m.live s))) u ≡ false
ended-live m law s st u =
    all-live m law s (m.live s) st (law.live_distinct s st) (λ v h. h) u ∙ elim (has (m.live s) u) as (λ b. (b && not b) ≡ false) [ true ↦ refl | false ↦ refl ]
