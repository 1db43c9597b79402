-- Where no thread may step.
use Rattle.std.proofs.Common.{◌≡◌, ◌∙◌, ℕ, ◌==◌, ◌&&◌, ◌||◌, not, Bool, true, false, List, [], ◌∷◌, inl, inr, refl, arith}
use Rattle.std.proofs.lemmas.Bool.{cases_Bool}
use Rattle.std.proofs.lemmas.Grind.{common_steps}
use Rattle.std.specs.List.{list_any}
use Rattle.jdwp_debuggee.specs.Settings.{Settings}
use Rattle.jdwp_debuggee.specs.State.{Moment, Thread, count_in, count_of, at_limit}
use Rattle.jdwp_debuggee.specs.StepParts.{is_still}
use Rattle.jdwp_debuggee.specs.Steps.{is_zero, is_full, may_step}
use Rattle.jdwp_machine.specs.Meanings.{Meaning}

-- where each thread is suspended, this one is not free
none-free : (ts : List Thread) (t : ℕ) → list_any (λ (entry : Thread). entry.suspend_count == 0) ts ≡ false → is_zero (count_in ts t) ≡ false
none-free [] t h = refl
none-free (x ∷ xs) t h = elim (cases_Bool (x.id == t)) [
  | inl is ↦ grind (arith, common_steps, is, h)
  | inr other ↦ grind (arith, common_steps, other, h, none-free xs t (grind (arith, common_steps, h)))
]

none-steps-by : (handshaken alive held zero free at full : Bool) → (free ≡ false → zero ≡ false) → (not handshaken || (not alive || (held || (not free || at)))) ≡ true
    → (handshaken && (alive && (not held && (zero && (not at && not full))))) ≡ false
none-steps-by false alive held zero free at full f h = refl
none-steps-by true false held zero free at full f h = refl
none-steps-by true true true zero free at full f h = refl
none-steps-by true true false zero false at full f h = rw (f refl) refl
none-steps-by true true false false true at full f h = refl
none-steps-by true true false true true true full f h = refl
none-steps-by true true false true true false full f h = absurd (grind (arith, common_steps, h))

-- whichever thread it is, and whatever the machine is
pub none-steps : {S : Type 0} (m : Meaning S) (settings : Settings) (now : Moment S) (t : ℕ) → is_still settings now.state ≡ true → may_step m settings now t ≡ false
none-steps m settings now t h =
    none-steps-by now.state.handshaken now.state.alive now.state.held (is_zero (count_of now.state t)) (at_limit 0 now.state) (at_limit settings.count_limit now.state) (is_full m settings now t)
    (none-free now.state.threads t) h
