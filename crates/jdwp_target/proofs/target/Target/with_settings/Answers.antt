use Rattle.std.proofs.Common.{◌≡◌, rules}
use Rattle.jdwp_end.specs.Ends.{new_end}
use Rattle.jdwp_target.proofs.RightTargets.{right-new}
use Rattle.jdwp_target.proofs.target.Target.with_settings.Goals as goal

pub invariant_of-result : goal.invariant_of-result
invariant_of-result g c =
    let none : c.in_ok-debuggee.debuggee.visits ≡ 0 = search rules in
    let made : c.in_ok-end.end ≡ new_end c.in_ok-debuggee.debuggee.settings.limits = search rules in
    rw (made, c.in_ok-deferral.ensures, c.push.ensures, c.push-2.ensures, c.new-began.ensures, c.new-phases.ensures, c.new-steps.ensures) (right-new g.M.Machine.meaning c.in_ok-debuggee.debuggee none)
