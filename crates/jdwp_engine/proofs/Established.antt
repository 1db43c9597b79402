-- Whether a session is established, by the messages that were handled in it.
use Rattle.std.proofs.Common.{◌≡◌, ◌≢◌, ◌∙◌, ℕ, ◌<◌, List, [], ◌∷◌, length, Bool, true, false, Option, Result, ap, sym, refl, subst, arith, nat_lt}
use Rattle.std.proofs.lemmas.Bool.{lt-ltb}
use Rattle.jdwp_wire.specs.Streams.{Message}
use Rattle.jdwp_end.specs.declared.phase.Phase.{Phase}
use Rattle.jdwp_end.specs.declared.phase.Phase.TheVariants.{Closed, AwaitingHandshake, Established}
use Rattle.jdwp_end.specs.Ends.{End, is_established, is_established_phase, is_open, is_open_phase}
use Rattle.jdwp_end.specs.Runs.{Carries}
use Rattle.jdwp_machine.specs.Meanings.{Meaning}
use Rattle.jdwp_target.specs.declared.target.Stepped.{Stepped}
use Rattle.jdwp_target.specs.declared.target.TargetFault.{TargetFault}
use Rattle.jdwp_target.specs.Targets.{Target, opened_target}
use Rattle.jdwp_target.specs.Turns.{StepsWhere, is_frozen}
use Rattle.jdwp_engine.specs.Rounds.{StepsEach, Over, Wants}
use Rattle.jdwp_engine.specs.Rounds as rounds
use Rattle.jdwp_engine.specs.declared.pipes.pipe.Patience.TheVariants.{Step}
use Rattle.jdwp_engine.specs.LiveRounds.{patience_at}

-- ---- an open session is established exactly where a message was handled

by-phase : (phase : Phase) (turns : ℕ) (messages : List Message) → is_open_phase phase ≡ true → turns ≡ length messages
    → (phase ≡ AwaitingHandshake → messages ≡ []) → (phase ≡ Established → messages ≢ []) → is_established_phase phase ≡ nat_lt 0 turns
by-phase Closed turns messages opened counts none some = absurd (let e = opened in cc)
by-phase AwaitingHandshake turns messages opened counts none some =
    let e : turns ≡ 0 = counts ∙ ap (λ (ms : List Message). length ms) (none refl) in
    rw e refl
by-phase Established turns [] opened counts none some = absurd (some refl refl)
by-phase Established turns (message ∷ messages) opened counts none some =
    let h : 0 < turns = omega (arith, counts) in
    sym (lt-ltb 0 turns h)

pub established-where : (end : End) (messages : List Message) (greeted : Bool) → Carries end messages → is_open end ≡ true → greeted ≡ nat_lt 0 end.session.turns → is_established end ≡ greeted
established-where end messages greeted c opened e =
    by-phase end.phase end.session.turns messages opened c.turns c.awaiting c.established ∙ sym e

-- ---- steps handle nothing

abbrev turns : {S : Type 0} → Target S → ℕ
turns target = target.end.session.turns

where-turns : {S : Type 0} (m : Meaning S) (t : ℕ) (old new : Target S) (stepped : Stepped) (frozen : Bool) → StepsWhere m t old stepped new frozen → turns new ≡ turns old
where-turns {S = S} m t old new stepped true h = ap (λ (x : Target S). turns x) h.1
where-turns {S = S} m t old new stepped false h = ap (λ (x : Target S). turns x) h.1

pub steps-turns : {S : Type 0} (m : Meaning S) (last : Option ℕ) (old new : Target S) (came : Result Bool TargetFault) → StepsEach m last old came new → new.end.session.turns ≡ old.end.session.turns
steps-turns m last old new came (Over last' target over) = refl
steps-turns {S = S} m last old new came (Wants last' old' new' t fault next s) = ap (λ (x : Target S). turns x) s.3
steps-turns m last old new came (rounds.Steps last' old' mid new' t stepped more next s reads rest) =
    steps-turns m _ mid new' more rest ∙ where-turns m t old' mid stepped (is_frozen m t old') s

-- ---- the first read of a round

pub greeted-at : (greeted : Bool) → patience_at greeted ≡ Step → greeted ≡ true
greeted-at true e = refl
greeted-at false e = absurd cc

-- no message was handled where a session begins
pub none-opened : {S : Type 0} (v : Target S) → v ≡ opened_target v → false ≡ nat_lt 0 v.end.session.turns
none-opened {S = S} v e = subst (λ (x : Target S). false ≡ nat_lt 0 x.end.session.turns) (sym e) refl
