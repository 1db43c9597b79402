use Rattle.std.proofs.Common.{◌≤◌, ℕ, List, length, min, ap, subst, arith}
use Rattle.std.proofs.lemmas.List.{take_min}
use Rattle.jdwp_end.specs.Ends.{End, with_taken}
use Rattle.jdwp_target.specs.Insides.{IsRightTarget}
use Rattle.jdwp_target.proofs.RightTargets.{right-taken}
use Rattle.jdwp_target.proofs.target.Target.leave.Goals as goal

pub invariant_of-self : goal.invariant_of-self
invariant_of-self g c =
    let m = g.M.Machine.meaning in
    let t = c.self.inside in
    let out : List ℕ = t.end.outgoing in
    let count = min c.args.count (length out) in
    let within : count ≤ length out = omega arith in
    rw c.leave.ensures
    (subst (λ (e : End). IsRightTarget m t.debuggee t.deferral t.began.items t.phases.items (length t.steps.items) e) (ap (λ (bytes : List ℕ). with_taken bytes t.end) (take_min c.args.count out))
    (right-taken m t.debuggee t.deferral t.began.items t.phases.items (length t.steps.items) t.end count within c.self.invariant))
