-- What is kept of a thread changes as the definitions say, where its numbers are below the greatest.
use Rattle.std.proofs.Common.{◌≡◌, ℕ, ◌+◌, ◌-◌, ◌<◌, ◌^◌, Bool, true, false, ◌&&◌, refl, sym, ap, ◌∙◌, add-zero, if◌then◌else◌, arith}
use Rattle.std.specs.Prelude.{nat_le, nat_lt}
use Rattle.std.proofs.lemmas.Bool.Decides.{nat_tests}
use Rattle.jdwp_apart.specs.Watch as definition
use Rattle.jdwp_watch.specs.declared.bound.Bound.{Bound}
use Rattle.jdwp_watch.specs.declared.standing.Knows.{Knows}
use Rattle.jdwp_watch.specs.declared.standing.Knows.TheVariants.{Unseen, Counted, Named}
use Rattle.jdwp_watch.specs.Standings.{bound_of, counted_at, knows_of, lowered, named_at, one_more, raised, raised_after, recounted}

abbrev pub TOP : ℕ
TOP = 2 ^ 64 - 1

abbrev pub one_if : Bool → ℕ
one_if b = if b then 1 else 0

-- ---- one bound

pub more-exact : (n : ℕ) → n < 2 ^ 64 - 1 → one_more n ≡ n + 1
more-exact n lt = grind (arith, nat_tests)

-- surely raised, where x says so
abbrev pub surely : Bool → Bool → ℕ
surely x y = if x then one_if y else 0

abbrev Raised : Bound → ℕ → definition.Bound
Raised b n = record { value = b.value + n; base = b.base }

pub raised-exact : (y x : Bool) (b : Bound) → b.value < 2 ^ 64 - 1 → bound_of (raised (y && x) b) ≡ Raised b (surely x y)
raised-exact true true b lt = ap (λ (n : ℕ). let r : definition.Bound = record { value = n; base = b.base } in r) (more-exact b.value lt)
raised-exact true false b lt = ap (λ (n : ℕ). let r : definition.Bound = record { value = n; base = b.base } in r) (sym (add-zero b.value))
raised-exact false true b lt = ap (λ (n : ℕ). let r : definition.Bound = record { value = n; base = b.base } in r) (sym (add-zero b.value))
raised-exact false false b lt = ap (λ (n : ℕ). let r : definition.Bound = record { value = n; base = b.base } in r) (sym (add-zero b.value))

none-below : (n : ℕ) → nat_le 0 n ≡ true
none-below n = grind (arith, nat_tests)

less-none : (n : ℕ) → n ≡ n - 0
less-none n = omega arith

pub lowered-exact : (ticket : ℕ) (z : Bool) (b : Bound) → bound_of (lowered ticket z b) ≡ definition.lowered ticket (one_if z) (bound_of b)
lowered-exact ticket true b =
    let less : Bound = record { value = b.value - 1; base = b.base } in
    let none : Bound = record { value = 0; base = ticket } in
    elim (nat_le 1 b.value) as (λ (w : Bool). bound_of (if w then less else none) ≡ (if w then bound_of less else bound_of none)) [
      | true ↦ refl
      | false ↦ refl
    ]
lowered-exact ticket false b =
    let kept : definition.Bound = record { value = b.value - 0; base = b.base } in
    let gone : definition.Bound = record { value = 0; base = ticket } in
    ap (λ (n : ℕ). let r : definition.Bound = record { value = n; base = b.base } in r) (less-none b.value) ∙ sym (ap (λ (w : Bool). if w then kept else gone) (none-below b.value))

pub recounted-exact : (ticket n : ℕ) (b : Bound) → bound_of (recounted ticket n b) ≡ definition.recount ticket n (bound_of b)
recounted-exact ticket n b =
    let more : Bound = record { value = n; base = ticket } in
    elim (nat_lt b.value n) as (λ (w : Bool). bound_of (if w then more else b) ≡ (if w then bound_of more else bound_of b)) [
      | true ↦ refl
      | false ↦ refl
    ]

pub after-exact : (ticket : ℕ) (y x : Bool) (b : Bound) → b.value < 2 ^ 64 - 1 → bound_of (raised_after ticket (y && x) b) ≡ definition.raised_after ticket (surely x y) (bound_of b)
after-exact ticket y x b lt =
    elim (nat_le b.base ticket) as (λ (w : Bool). bound_of (if w then raised (y && x) b else b) ≡ (if w then Raised b (surely x y) else bound_of b)) [
      | true ↦ raised-exact y x b lt
      | false ↦ refl
    ]

-- ---- what is known to live

counted-exact : (ticket : ℕ) (k : Knows) → knows_of (counted_at ticket k) ≡ definition.counted_at ticket (knows_of k)
counted-exact ticket Unseen = refl
counted-exact ticket (Counted n) = refl
counted-exact ticket (Named n) = refl

pub shown-exact : (b : Bool) (ticket : ℕ) (k : Knows) → knows_of (if b then counted_at ticket k else k) ≡ (if b then definition.counted_at ticket (knows_of k) else knows_of k)
shown-exact true ticket k = counted-exact ticket k
shown-exact false ticket k = refl

pub named-exact : (asked : ℕ) (k : Knows) → knows_of (named_at asked k) ≡ definition.named_at asked (knows_of k)
named-exact asked Unseen = refl
named-exact asked (Counted n) = refl
named-exact asked (Named n) = refl
