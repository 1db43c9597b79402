-- A beginning of a session's rounds is one, too.
use Rattle.std.proofs.Common.{◌≡◌, ℕ, ◌+◌, ◌≤◌, inl, inr, subst, arith}
use Rattle.std.proofs.lemmas.Bool.{cases_lt}
use Rattle.jdwp_machine.specs.Meanings.{Meaning}
use Rattle.jdwp_target.specs.Targets.{Target}
use Rattle.jdwp_end.specs.Story.{Story}
use Rattle.jdwp_engine.specs.Sessions.{NoRound, OneMore, Rounds}

-- so many rounds lead somewhere
abbrev pub HasRounds : {S : Type 0} → Meaning S → Target S → Story → ℕ → Type 0
HasRounds {S = S} m base start n = (now : Target S) × (story : Story) × Rounds m base start n now story

pub rounds-begin : {S : Type 0} (m : Meaning S) (base : Target S) (start : Story) (k n : ℕ) (new : Target S) (now : Story) → k ≤ n → Rounds m base start n new now → HasRounds m base start k
rounds-begin m base start k n new now within NoRound =
    let none : 0 ≡ k = omega arith in
    subst (λ (i : ℕ). HasRounds m base start i) none (base, start, NoRound)
rounds-begin m base start k n new now within (OneMore n' old new' before after more round) = elim (cases_lt n' k) [
  | inl last ↦
      let all : n' + 1 ≡ k = omega arith in
      subst (λ (i : ℕ). HasRounds m base start i) all (new', after, OneMore n' old new' before after more round)
  | inr less ↦ rounds-begin m base start k n' old before less more
]
