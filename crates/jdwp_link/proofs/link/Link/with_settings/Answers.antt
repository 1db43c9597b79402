use Rattle.std.proofs.Common.{◌≡◌, [], refl, rules}
use Rattle.jdwp_end.specs.Ends.{most_outgoing}
use Rattle.jdwp_debugger.specs.Debuggers.{new_debugger}
use Rattle.jdwp_target.specs.Targets.{new_target}
use Rattle.jdwp_link.proofs.Opening.{first-moment, opening-right, opening-stands}
use Rattle.jdwp_link.proofs.link.Link.with_settings.Goals as goal

pub invariant_of-result : goal.invariant_of-result
invariant_of-result g c =
    let m = g.M.Machine.meaning in
    let target : c.in_ok-ends.ends.0 ≡ new_target c.args.settings (first-moment m c.args.machine) = search rules in
    let debugger : c.in_ok-ends.ends.1 ≡ new_debugger c.args.settings.limits 1 = search rules in
    let to_target : c.in_ok-kept.kept.0.bytes ≡ [] = search rules in
    let to_debugger : c.in_ok-kept.kept.1.bytes ≡ [] = search rules in
    let first : c.in_ok-kept.kept.0.capacity ≡ most_outgoing c.args.settings.limits = search rules in
    let second : c.in_ok-kept.kept.1.capacity ≡ most_outgoing c.args.settings.limits = search rules in
    rw (target, debugger, to_target, to_debugger) (opening-right m c.args.settings c.args.machine _ _ c.may_begin.ensures first second)

pub returns-clause-link : goal.returns-clause-link
returns-clause-link g c =
    let m = g.M.Machine.meaning in
    let target : c.in_ok-ends.ends.0 ≡ new_target c.args.settings (first-moment m c.args.machine) = search rules in
    let debugger : c.in_ok-ends.ends.1 ≡ new_debugger c.args.settings.limits 1 = search rules in
    let to_target : c.in_ok-kept.kept.0.bytes ≡ [] = search rules in
    let to_debugger : c.in_ok-kept.kept.1.bytes ≡ [] = search rules in
    rw (target, debugger, to_target, to_debugger) refl

pub returns-clause-stands : goal.returns-clause-stands
returns-clause-stands g c =
    let m = g.M.Machine.meaning in
    let target : c.in_ok-ends.ends.0 ≡ new_target c.args.settings (first-moment m c.args.machine) = search rules in
    let debugger : c.in_ok-ends.ends.1 ≡ new_debugger c.args.settings.limits 1 = search rules in
    let to_target : c.in_ok-kept.kept.0.bytes ≡ [] = search rules in
    let to_debugger : c.in_ok-kept.kept.1.bytes ≡ [] = search rules in
    rw (target, debugger, to_target, to_debugger) (opening-stands m c.args.settings c.args.machine c.may_begin.ensures)
