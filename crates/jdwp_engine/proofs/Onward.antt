-- How the steps of a round go on.
use Rattle.std.proofs.Common.{◌≡◌, ◌∙◌, ℕ, ◌<◌, ◌≤◌, ◌||◌, ◌+◌, suc, Bool, true, false, List, [], ◌∷◌, ◌++◌, Option, Some, None, Result, Ok, Err, ◌⊎◌, inl, inr, ap, sym, refl, subst, arith, length, take, get_or}
use Rattle.std.proofs.lemmas.Grind.{common_steps}
use Rattle.std.proofs.Math.Seq.{take-suc}
use Rattle.jdwp_value.specs.declared.id.ObjectId.{ObjectId}
use Rattle.jdwp_machine.specs.Meanings.{Meaning, has, numbers}
use Rattle.jdwp_target.specs.declared.target.Stepped.{Stepped}
use Rattle.jdwp_target.specs.declared.target.Stepped.TheVariants.{Frozen, Quiet, Reported, Ended}
use Rattle.jdwp_target.specs.declared.target.TargetFault.{TargetFault}
use Rattle.jdwp_target.specs.Targets.{Target}
use Rattle.jdwp_target.specs.ReadsBack.{StepReadsBack}
use Rattle.jdwp_target.specs.Turns.{StepsAt}
use Rattle.jdwp_engine.specs.Rounds.{IsNext, StepsEach, StepsUntil, Over, Steps, Wants, is_step, is_above, with_made}

or-assoc : (a b c : Bool) → (a || (b || c)) ≡ ((a || b) || c)
or-assoc true b c = refl
or-assoc false b c = refl

or-false : (a : Bool) → (a || false) ≡ a
or-false true = refl
or-false false = refl

made-again : (made one : Bool) (came : Result Bool TargetFault) → with_made made (with_made one came) ≡ with_made (made || one) came
made-again made one (Ok more) = ap Ok (or-assoc made one more)
made-again made one (Err fault) = refl

pub steps-on : {S : Type 0} (m : Meaning S) (first now mid : Target S) (made after : Bool) (last : Option ℕ) (t : ℕ) (stepped : Stepped) → StepsUntil m first made last now
    → IsNext (m.live now.moment.machine) last (Some t) → StepsAt m t now (Ok stepped) mid → StepReadsBack m t now → after ≡ (made || is_step stepped) → StepsUntil m first after (Some t) mid
steps-on m first now mid made after last t stepped u next s reads e = λ came new rest.
    subst (λ (r : Result Bool TargetFault). StepsEach m None first r new) (made-again made (is_step stepped) came ∙ ap (λ (b : Bool). with_made b came) (sym e))
    (u (with_made (is_step stepped) came) new (Steps last now mid new t stepped came next s reads rest))

pub steps-over : {S : Type 0} (m : Meaning S) (first now : Target S) (made : Bool) (last : Option ℕ) → StepsUntil m first made last now
    → IsNext (m.live now.moment.machine) last None → StepsEach m None first (Ok made) now
steps-over m first now made last u over = subst (λ (b : Bool). StepsEach m None first (Ok b) now) (or-false made) (u (Ok false) now (Over last now over))

-- a step wanted memory
pub steps-stop : {S : Type 0} (m : Meaning S) (first now new : Target S) (made : Bool) (last : Option ℕ) (t : ℕ) (fault : TargetFault) → StepsUntil m first made last now
    → IsNext (m.live now.moment.machine) last (Some t) → StepsAt m t now (Err fault) new → StepsEach m None first (Err fault) new
steps-stop m first now new made last t fault u next s = u (Err fault) new (Wants last now new t fault next s)

-- nothing was stepped yet
pub steps-begin : {S : Type 0} (m : Meaning S) (first : Target S) → StepsUntil m first false None first
steps-begin m first (Ok more) new rest = rest
steps-begin m first (Err fault) new rest = rest

-- what a call that made a step, or made none, leaves of whether one was made
pub made-none : (b : Bool) (stepped : Stepped) → stepped ≡ Frozen → b ≡ (b || is_step stepped)
made-none b stepped e = rw e (sym (or-false b))

pub made-some : (b : Bool) (stepped : Stepped) → (stepped ≡ Frozen → ⊥) → true ≡ (b || is_step stepped)
made-some true stepped some = refl
made-some false Frozen some = absurd (some refl)
made-some false Quiet some = refl
made-some false Reported some = refl
made-some false Ended some = refl

-- ---- the next thread

has-end : (ids : List ℕ) (t x : ℕ) → has (ids ++ t ∷ []) x ≡ true → (has ids x ≡ true) ⊎ (x ≡ t)
has-end [] t x h = inr (grind (arith, common_steps, h))
has-end (y ∷ ys) t x h = grind (arith, common_steps, h, has-end ys t x)

has-front : (ids : List ℕ) (t x : ℕ) → has ids x ≡ true → has (ids ++ t ∷ []) x ≡ true
has-front [] t x h = grind (arith, common_steps, h)
has-front (y ∷ ys) t x h = grind (arith, common_steps, h, has-front ys t x)

has-last : (ids : List ℕ) (t : ℕ) → has (ids ++ t ∷ []) t ≡ true
has-last [] t = grind (arith, common_steps)
has-last (y ∷ ys) t = grind (arith, common_steps, has-last ys t)

-- one that is not above the last
pub next-below : (ids : List ℕ) (t : ℕ) (last found : Option ℕ) → is_above last t ≡ false → IsNext ids last found → IsNext (ids ++ t ∷ []) last found
next-below ids t last None below none = λ id h. elim (has-end ids t id h) [ inl there ↦ none id there | inr is ↦ rw is below ]
next-below ids t last (Some next) below n = record {
  lives = has-front ids t next n.lives;
  above = n.above;
  least = λ id h above. elim (has-end ids t id h) [ inl there ↦ n.least id there above | inr is ↦ grind (arith, common_steps, is, below, above) ];
}

-- the first that is above it
pub next-first : (ids : List ℕ) (t : ℕ) (last : Option ℕ) → is_above last t ≡ true → IsNext ids last None → IsNext (ids ++ t ∷ []) last (Some t)
next-first ids t last above none = record {
  lives = has-last ids t;
  above = above;
  least = λ id h a. elim (has-end ids t id h) [ inl there ↦ grind (arith, common_steps, none id there, a) | inr is ↦ grind (arith, common_steps, is) ];
}

-- one that is nearer, and one that is not
pub next-nearer : (ids : List ℕ) (t next : ℕ) (last : Option ℕ) → is_above last t ≡ true → t ≤ next → IsNext ids last (Some next) → IsNext (ids ++ t ∷ []) last (Some t)
next-nearer ids t next last above le n = record {
  lives = has-last ids t;
  above = above;
  least = λ id h a. elim (has-end ids t id h) [ inl there ↦ grind (arith, common_steps, n.least id there a, le) | inr is ↦ grind (arith, common_steps, is) ];
}

pub next-kept : (ids : List ℕ) (t next : ℕ) (last : Option ℕ) → next ≤ t → IsNext ids last (Some next) → IsNext (ids ++ t ∷ []) last (Some next)
next-kept ids t next last le n = record {
  lives = has-front ids t next n.lives;
  above = n.above;
  least = λ id h a. elim (has-end ids t id h) [ inl there ↦ n.least id there a | inr is ↦ grind (arith, common_steps, is, le) ];
}

-- one id more of a slice
numbers-end : (xs : List ObjectId) (x : ObjectId) → numbers (xs ++ x ∷ []) ≡ numbers xs ++ x.0 ∷ []
numbers-end [] x = refl
numbers-end (y ∷ ys) x = ap (λ (l : List ℕ). y.0 ∷ l) (numbers-end ys x)

pub numbers-next : (ids : List ObjectId) (i : ℕ) (d : ObjectId) → i < length ids → numbers (take (i + 1) ids) ≡ numbers (take i ids) ++ (get_or ids i d).0 ∷ []
numbers-next ids i d lt =
    let e : (i + 1) ≡ suc i = grind (arith, common_steps) in
    ap (λ (n : ℕ). numbers (take n ids)) e ∙ ap numbers (take-suc ids i d lt) ∙ numbers-end (take i ids) (get_or ids i d)
