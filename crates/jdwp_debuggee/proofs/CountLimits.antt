-- the count limit, and what a policy suspends
use Rattle.std.proofs.Common.{◌≡◌, ℕ, ◌+◌, ◌==◌, false, cond, List, [], ◌∷◌, refl, ◌∙◌, sym, ap, subst}
use Rattle.std.proofs.lemmas.Bool.{eqb-true, false_from_ne_true}
use Rattle.jdwp_event.specs.Composites.{POLICY_ALL, POLICY_EVENT_THREAD}
use Rattle.jdwp_machine.specs.Meanings.{Meaning}
use Rattle.jdwp_debuggee.specs.Debuggees.{Debuggee, IsKept}
use Rattle.jdwp_debuggee.specs.Entries.{AllAtMost}
use Rattle.jdwp_debuggee.specs.State.{Thread, changed, only, raised, with_count}
use Rattle.jdwp_debuggee.specs.Steps.{raised_by}
use Rattle.jdwp_debuggee.proofs.Distinct.{all-at-most}

-- no count is above the count limit
pub limit-of : {S : Type 0} (m : Meaning S) (d : Debuggee S) → IsKept m d → AllAtMost d.settings.count_limit d.moment.state.threads
limit-of m d k = all-at-most d.settings.count_limit d.moment.state.threads k.distinct k.sound.at_most

-- ---- what a policy suspends

pub all-raised : (policy t : ℕ) (ts : List Thread) → policy ≡ POLICY_ALL → changed raised ts ≡ changed (raised_by policy t) ts
all-raised policy t ts e = subst (λ (p : ℕ). changed raised ts ≡ changed (raised_by p t) ts) (sym e) refl

pub one-raised : (policy t : ℕ) (ts : List Thread) → policy ≡ POLICY_EVENT_THREAD → changed (only t raised) ts ≡ changed (raised_by policy t) ts
one-raised policy t ts e = subst (λ (p : ℕ). changed (only t raised) ts ≡ changed (raised_by p t) ts) (sym e) refl

by-none : (policy t u n : ℕ) → (policy == POLICY_ALL) ≡ false → (policy == POLICY_EVENT_THREAD) ≡ false → n ≡ raised_by policy t u n
by-none policy t u n e f =
    sym (ap (λ b. cond b (n + 1) (cond (policy == POLICY_EVENT_THREAD) (cond (t == u) (n + 1) n) n)) e ∙ ap (λ b. cond b (cond (t == u) (n + 1) n) n) f)

none-by : (policy t : ℕ) (ts : List Thread) → (policy == POLICY_ALL) ≡ false → (policy == POLICY_EVENT_THREAD) ≡ false → ts ≡ changed (raised_by policy t) ts
none-by policy t [] e f = refl
none-by policy t (x ∷ xs) e f =
    ap (λ (n : ℕ). let y : Thread = record { id = x.id; suspend_count = n; death_reported = x.death_reported } in y ∷ xs) (by-none policy t x.id x.suspend_count e f)
    ∙ ap (λ (l : List Thread). with_count (raised_by policy t) x ∷ l) (none-by policy t xs e f)

pub none-raised : (policy t : ℕ) (ts : List Thread) → (policy ≡ POLICY_ALL → ⊥) → (policy ≡ POLICY_EVENT_THREAD → ⊥) → ts ≡ changed (raised_by policy t) ts
none-raised policy t ts h k =
    none-by policy t ts (false_from_ne_true (policy == POLICY_ALL) (λ e. h (eqb-true policy POLICY_ALL e))) (false_from_ne_true (policy == POLICY_EVENT_THREAD) (λ e. k (eqb-true policy POLICY_EVENT_THREAD e)))
