use Rattle.std.proofs.Common.{rules, ◌≡◌, ◌∙◌, ap}
use Rattle.jdwp_machine.specs.Meanings.{numbers}
use Rattle.jdwp_debuggee.specs.Effects.{all_ended}
use Rattle.jdwp_debuggee.proofs.KeptRequests.{kept-dead}
use Rattle.jdwp_debuggee.proofs.debuggee.Debuggee.exit.Goals as goal

pub invariant_of-self : goal.invariant_of-self
invariant_of-self g c =
    let m = g.M.Machine.meaning in
    let live : numbers c.in_ok-live.live.items ≡ m.live c.self.inside.machine = search rules in
    let machine : c.end_all.new.machine ≡ all_ended m c.self.inside.machine (m.live c.self.inside.machine) = c.end_all.ensures ∙ ap (λ l. all_ended m c.self.inside.machine l) (ap numbers c.as_slice.ensures.value ∙ live) in
    rw (c.clear.ensures.list, c.clear-2.ensures, machine) (kept-dead m g.met.M.Machine.lawful _ c.self.invariant)
