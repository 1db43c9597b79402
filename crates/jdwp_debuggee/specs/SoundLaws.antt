-- A sound moment stays sound where suspend counts change within the limit.
use Rattle.std.specs.Prelude.{◌≡◌, ℕ, ◌==◌, ◌+◌, ◌≤◌, true, false, cond, Option, Some, None, refl, is_some}
use Rattle.std.proofs.Common.{sym, ◌∙◌, ap, subst, arith}
use Rattle.std.specs.Option.{option_map}
use Rattle.jdwp_event.specs.Composites.{POLICY_EVENT_THREAD, POLICY_ALL}
use Rattle.jdwp_machine.specs.Meanings.{Meaning}
use Rattle.jdwp_debuggee.specs.Settings.{Settings}
use Rattle.jdwp_debuggee.specs.State.{Moment, count_of, with_counts}
use Rattle.jdwp_debuggee.specs.Steps.{raised_by}
use Rattle.jdwp_debuggee.specs.Facts.{IsSound}
use Rattle.jdwp_debuggee.specs.ThreadLaws.{count-changed}

pub some-map : (f : ℕ → ℕ) (c : Option ℕ) → is_some (option_map f c) ≡ is_some c
some-map f None = refl
some-map f (Some n) = refl

pub mapped : (f : ℕ → ℕ) (c : Option ℕ) (k : ℕ) → option_map f c ≡ Some k → (j : ℕ) × (c ≡ Some j) × (k ≡ f j)
mapped f None k h = absurd (cc)
mapped f (Some j) k h = (j, refl, cc)

pub sound_counts : {S : Type 0} (m : Meaning S) (settings : Settings) (now : Moment S) (f : ℕ → ℕ → ℕ) → IsSound m settings now → ((t n : ℕ) → count_of now.state t ≡ Some n → f t n ≤ settings.count_limit) → IsSound m settings (record { state = with_counts f now.state; machine = now.machine })
sound_counts m settings now f s most =
    record {
      state = s.state;
      lives = λ t. s.lives t ∙ sym (ap is_some (count-changed f now.state.threads t) ∙ some-map (f t) (count_of now.state t));
      at_most = λ t n h.
          let j = mapped (f t) (count_of now.state t) n (sym (count-changed f now.state.threads t) ∙ h) in
          subst (λ x. x ≤ settings.count_limit) (sym j.2) (most t j.0 j.1);
      below = s.below;
    }

-- a policy raises a count by one at most
pub raised-by-most : (policy t u n : ℕ) → raised_by policy t u n ≤ n + 1
raised-by-most policy t u n =
    elim (policy == POLICY_ALL) as (λ b. cond b (n + 1) (cond (policy == POLICY_EVENT_THREAD) (cond (t == u) (n + 1) n) n) ≤ n + 1) [
      | true ↦ omega arith
      | false ↦ elim (policy == POLICY_EVENT_THREAD) as (λ b. cond b (cond (t == u) (n + 1) n) n ≤ n + 1) [
        | true ↦ elim (t == u) as (λ b. cond b (n + 1) n ≤ n + 1) [ true ↦ omega arith | false ↦ omega arith ]
        | false ↦ omega arith
      ]
    ]
