-- What a target over a machine keeps inside, over each call.
use Rattle.std.proofs.Common.{◌≡◌, ◌≤◌, ℕ, Bool, false, List, [], ◌∷◌, length, take, refl, sym, subst}
use Rattle.jdwp_end.specs.declared.phase.Phase.{Phase}
use Rattle.jdwp_end.specs.declared.phase.Phase.TheVariants.{Closed, AwaitingHandshake}
use Rattle.jdwp_end.specs.Ends.{End}
use Rattle.jdwp_end.specs.Ends as ends
use Rattle.jdwp_machine.specs.Meanings.{Meaning}
use Rattle.jdwp_debuggee.specs.Debuggees.{Debuggee, with_state}
use Rattle.jdwp_debuggee.specs.State.{reset}
use Rattle.jdwp_target.specs.Insides.{Deferral, IsRightTarget, target_of}
use Rattle.jdwp_target.specs.Targets.{Ran, new_target, visiting}
use Rattle.jdwp_target.proofs.TargetRuns.{ran-new, ran-opened, ran-lost, ran-taken, ran-deferring}

pub right-new : {S : Type 0} (m : Meaning S) (d : Debuggee S) → d.visits ≡ 0
    → IsRightTarget m d (record { on = false; commands = []; began = false; released = 0 }) (d ∷ []) (Closed ∷ []) 0 (ends.new_end d.settings.limits)
right-new m d none = record {
  some = (d, [], refl);
  handshaken = λ e. absurd cc;
  limits = refl;
  ran = subst (λ (n : ℕ). Ran m (visiting n (new_target d.settings d.moment))) (sym none) (ran-new m d.settings d.moment);
}

pub right-opened : {S : Type 0} (m : Meaning S) (d : Debuggee S) (x : Deferral) (began : List (Debuggee S)) (phases : List Phase) (steps : ℕ) (end : End) → IsRightTarget m d x began phases steps end
    → IsRightTarget m d (record { on = x.on; commands = []; began = x.on; released = 0 }) (d ∷ []) (AwaitingHandshake ∷ []) 0 (ends.opened_end end)
right-opened m d x began phases steps end k = record { some = (d, [], refl); handshaken = λ e. absurd cc; limits = k.limits; ran = ran-opened m (target_of d x began phases steps end) }

pub right-lost : {S : Type 0} (m : Meaning S) (d : Debuggee S) (x : Deferral) (began : List (Debuggee S)) (phases : List Phase) (steps : ℕ) (end : End) → IsRightTarget m d x began phases steps end
    → IsRightTarget m (with_state (reset d.moment.state) d) (record x { commands = [] }) began phases steps (ends.lost_end end)
right-lost {S = S} m d x began phases steps end k =
    let first = k.some.0 in
    let rest = k.some.1 in
    let split : began ≡ first ∷ rest = k.some.2 in
    let ran : Ran m (target_of d x (first ∷ rest) phases steps end) = subst (λ (b : List (Debuggee S)). Ran m (target_of d x b phases steps end)) split k.ran in
    record {
      some = k.some;
      handshaken = λ e. absurd cc;
      limits = k.limits;
      ran = subst (λ (b : List (Debuggee S)). Ran m (target_of (with_state (reset d.moment.state) d) (record x { commands = [] }) b phases steps (ends.lost_end end))) (sym split)
          (ran-lost m (target_of d x (first ∷ rest) phases steps end) ran);
    }

pub right-taken : {S : Type 0} (m : Meaning S) (d : Debuggee S) (x : Deferral) (began : List (Debuggee S)) (phases : List Phase) (steps : ℕ) (end : End) (n : ℕ) → n ≤ length end.outgoing → IsRightTarget m d x began phases steps end
    → IsRightTarget m d x began phases steps (ends.with_taken (take n end.outgoing) end)
right-taken m d x began phases steps end n le k = record { some = k.some; handshaken = k.handshaken; limits = k.limits; ran = ran-taken m (target_of d x began phases steps end) n le k.ran }

pub right-deferring : {S : Type 0} (m : Meaning S) (d : Debuggee S) (x : Deferral) (began : List (Debuggee S)) (phases : List Phase) (steps : ℕ) (end : End) (on : Bool) → IsRightTarget m d x began phases steps end
    → IsRightTarget m d (record x { on = on }) began phases steps end
right-deferring m d x began phases steps end on k = record { some = k.some; handshaken = k.handshaken; limits = k.limits; ran = ran-deferring m (target_of d x began phases steps end) on k.ran }
