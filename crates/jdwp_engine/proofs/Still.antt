-- A round in which no thread may step.
use Rattle.std.proofs.Common.{◌≡◌, ◌∙◌, ℕ, ◌<◌, ◌≤◌, ◌+◌, ◌++◌, Bool, true, false, List, [], ◌∷◌, Option, Some, None, Ok, inl, inr, sym, refl, subst, arith, zero, suc}
use Rattle.std.proofs.lemmas.Bool.{cases_Bool, cases_lt}
use Rattle.std.proofs.lemmas.Grind.{common_steps}
use Rattle.std.proofs.lemmas.List.{append-nil, append_assoc}
use Rattle.jdwp_machine.specs.Meanings.{Meaning, has}
use Rattle.jdwp_target.specs.declared.target.Stepped.TheVariants.{Frozen}
use Rattle.jdwp_target.specs.Targets.{Target}
use Rattle.jdwp_target.specs.ReadsBack.{StepReadsBack}
use Rattle.jdwp_target.specs.Turns.{EncodesWhere, SendsWhere, StepsAt, StepsWhere, is_frozen}
use Rattle.jdwp_engine.specs.Rounds.{IsNext, StepsEach, Over, Steps, is_above}
use Rattle.jdwp_engine.proofs.Ahead.{has-first}
use Rattle.jdwp_engine.proofs.Onward.{next-below, next-first, next-kept, next-nearer}

-- ---- the next thread is there, or there is none

next-one : (ids : List ℕ) (t : ℕ) (last found : Option ℕ) → IsNext ids last found → (next : Option ℕ) × IsNext (ids ++ t ∷ []) last next
next-one ids t last None n = elim (cases_Bool (is_above last t)) [
  | inl above ↦ (Some t, next-first ids t last above n)
  | inr below ↦ (None, next-below ids t last None below n)
]
next-one ids t last (Some next) n = elim (cases_Bool (is_above last t)) [
  | inl above ↦ elim (cases_lt next t) [
    | inl less ↦ (Some next, next-kept ids t next last (omega (arith, less)) n)
    | inr more ↦ (Some t, next-nearer ids t next last above more n)
  ]
  | inr below ↦ (Some next, next-below ids t last (Some next) below n)
]

next-more : (front back : List ℕ) (last found : Option ℕ) → IsNext front last found → (next : Option ℕ) × IsNext (front ++ back) last next
next-more front [] last found n = (found, subst (λ (ids : List ℕ). IsNext ids last found) (sym (append-nil front)) n)
next-more front (x ∷ xs) last found n =
    let one = next-one front x last found n in
    let rest = next-more (front ++ x ∷ []) xs last one.0 one.1 in
    (rest.0, subst (λ (ids : List ℕ). IsNext ids last rest.0) (append_assoc front (x ∷ []) xs) rest.1)

next-of : (ids : List ℕ) (last : Option ℕ) → (next : Option ℕ) × IsNext ids last next
next-of ids last = next-more [] ids last None (λ id h. absurd (grind (arith, common_steps, h)))

-- ---- all are below some number

abbrev AllBelow : List ℕ → ℕ → Type 0
AllBelow ids n = (id : ℕ) → has ids id ≡ true → id < n

bound-of : (ids : List ℕ) → (n : ℕ) × AllBelow ids n
bound-of [] = (0, λ id h. absurd (grind (arith, common_steps, h)))
bound-of (x ∷ xs) =
    let rest = bound-of xs in
    (rest.0 + x + 1, λ id h. elim (has-first x xs id h) [ inl is ↦ omega (arith, is) | inr there ↦ omega (arith, rest.1 id there) ])

-- the least number above the last
abbrev behind : Option ℕ → ℕ
behind None = 0
behind (Some last) = last + 1

above-behind : (last : Option ℕ) (t : ℕ) → is_above last t ≡ true → behind last ≤ t
above-behind None t h = omega arith
above-behind (Some last) t h = grind (arith, common_steps, h)

-- ---- a step of each does nothing

step-frozen : {S : Type 0} (m : Meaning S) (target : Target S) (t : ℕ) → is_frozen m t target ≡ true → StepsAt m t target (Ok Frozen) target
step-frozen m target t h = subst (λ (b : Bool). StepsWhere m t target Frozen target b) (sym h) (refl, refl)

reads-frozen : {S : Type 0} (m : Meaning S) (target : Target S) (t : ℕ) → is_frozen m t target ≡ true → StepReadsBack m t target
reads-frozen m target t h = (subst (λ (b : Bool). EncodesWhere m t target b) (sym h) tt, subst (λ (b : Bool). SendsWhere m t target b) (sym h) tt)

-- from the last one on, where all that live are below this far
steps-from : {S : Type 0} (m : Meaning S) (target : Target S) (n : ℕ) (last next : Option ℕ) → ((t : ℕ) → is_frozen m t target ≡ true)
    → AllBelow (m.live target.moment.machine) (n + behind last) → IsNext (m.live target.moment.machine) last next → StepsEach m last target (Ok false) target
steps-from m target n last None still below is = Over last target is
steps-from m target zero last (Some t) still below is =
    let far = below t is.lives in
    let near = above-behind last t is.above in
    absurd (omega (arith, far, near))
steps-from m target (suc n) last (Some t) still below is =
    let near = above-behind last t is.above in
    let more = next-of (m.live target.moment.machine) (Some t) in
    Steps last target target target t Frozen (Ok false) is (step-frozen m target t (still t)) (reads-frozen m target t (still t))
    (steps-from m target n (Some t) more.0 still (λ id h. let far = below id h in omega (arith, far, near)) more.1)

pub steps-none : {S : Type 0} (m : Meaning S) (target : Target S) → ((t : ℕ) → is_frozen m t target ≡ true) → StepsEach m None target (Ok false) target
steps-none m target still =
    let bound = bound-of (m.live target.moment.machine) in
    let first = next-of (m.live target.moment.machine) None in
    steps-from m target bound.0 None first.0 still (λ id h. let far = bound.1 id h in omega (arith, far)) first.1
