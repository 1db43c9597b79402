use Rattle.std.proofs.Common.{◌≡◌, ◌∙◌, sym, rules, true, Some}
use Rattle.jdwp_debuggee.specs.State.{count_in}
use Rattle.jdwp_debuggee.proofs.Kept.{kept-raised-one, most-of}
use Rattle.jdwp_debuggee.proofs.debuggee.Debuggee.suspend_thread.Goals as goal

pub raise-requires : goal.raise-requires
raise-requires g c = most-of g.M.Machine.meaning _ c.self.invariant

pub invariant_of-self : goal.invariant_of-self
invariant_of-self g c =
    let shaken : c.self.inside.handshaken ≡ true = search rules in
    let found : count_in c.self.inside.threads.list c.args.thread.0 ≡ Some c.in-Some.count = search rules in
    rw c.raise.ensures.list (kept-raised-one g.M.Machine.meaning _ c.args.thread.0 c.in-Some.count c.self.invariant shaken found (λ e. c.if-count-count_limit.false (e ∙ sym c.count_limit.ensures.value)))
