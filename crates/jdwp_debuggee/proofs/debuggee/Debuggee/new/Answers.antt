use Rattle.std.proofs.Common.{◌≡◌, rules}
use Rattle.jdwp_debuggee.specs.Debuggees.{AreRoomy}
use Rattle.jdwp_debuggee.specs.State.{running}
use Rattle.jdwp_debuggee.proofs.Kept.{kept-new}
use Rattle.jdwp_debuggee.proofs.debuggee.Debuggee.new.Goals as goal

pub invariant_of-result : goal.invariant_of-result
invariant_of-result g c =
    let live : c.in_ok-threads.threads.list ≡ running (g.M.Machine.meaning.live c.args.machine) = search rules in
    let roomy : AreRoomy c.args.settings.limits = record {
      packet = rw (c.packet.ensures.value, c.limits.ensures) at c.packet.ensures.within.0;
      requests = rw (c.requests.ensures.value, c.limits-2.ensures) at c.requests.ensures.within;
      composite = rw (c.packet.ensures.value, c.limits.ensures) at c.packet.ensures.composite;
    } in
    rw (live, c.new-2.ensures, c.new-3.ensures.items) (kept-new g.M.Machine.meaning g.met.M.Machine.lawful c.args.settings c.args.machine c.live.ensures.state (rw c.count_limit.ensures.value at c.count_limit.ensures.within) roomy)
