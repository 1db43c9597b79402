use Rattle.std.proofs.lemmas.Grind.{common_steps}
use Rattle.std.proofs.Common.{arith, ◌≡◌, ◌∙◌, ◌+◌, ◌∷◌, [], length, false, Some, sym, rules}
use Rattle.std.proofs.lemmas.List.{length-append}
use Rattle.jdwp_end.specs.Ends.{is_paused}
use Rattle.jdwp_debuggee.specs.StepParts as debuggee
use Rattle.jdwp_target.specs.Insides.{target_of}
use Rattle.jdwp_target.proofs.StepLemmas.{death-leaves, dies-alone, reports-leave, right-stepped, sends-where, stepped-debuggee, stepped-deferral, stepped-end, stepped-sends}
use Rattle.jdwp_target.proofs.target.Target.make_step.Goals as goal

pub fits_step-requires : goal.fits_step-requires
fits_step-requires g c =
    let m = g.M.Machine.meaning in
    let s = c.self.inside in
    let done = c.in-Ok-Some.done in
    let t = c.args.thread.0 in
    let step : debuggee.Steps m t s.debuggee c.step.new.self done = rw c.in-Ok-Some.field-0-is at c.in-Ok-Some.ensures.exact in
    let flows : is_paused s.end ≡ false = sym c.is_paused.ensures.paused ∙ c.if-is_paused.false in
    let within : debuggee.SendFits (m.sizes s.debuggee.moment.machine) s.debuggee.settings.limits.packet (Some done) = rw c.in-Ok-Some.field-0-is at c.in-Ok-Some.ensures.fits in
    let fits : debuggee.SendFits c.sizes-sizes.result s.end.limits.packet (Some done) = rw (c.sizes-sizes.ensures, c.self.invariant.limits) within in
    record {
      reports = reports-leave c.sizes-sizes.result s.end done.sends flows c.is_paused.ensures.most fits;
      death = death-leaves s.end flows c.is_paused.ensures.least;
      least = c.is_paused.ensures.least;
      apart = dies-alone m t s.debuggee c.step.new.self done step;
    }

pub tell-requires : goal.tell-requires
tell-requires g c =
    let m = g.M.Machine.meaning in
    let s = c.self.inside in
    let done = c.in-Ok-Some.done in
    let t = c.args.thread.0 in
    let step : debuggee.Steps m t s.debuggee c.step.new.self done = rw c.in-Ok-Some.field-0-is at c.in-Ok-Some.ensures.exact in
    let flows : is_paused s.end ≡ false = sym c.is_paused.ensures.paused ∙ c.if-is_paused.false in
    let within : debuggee.SendFits (m.sizes s.debuggee.moment.machine) s.debuggee.settings.limits.packet (Some done) = rw c.in-Ok-Some.field-0-is at c.in-Ok-Some.ensures.fits in
    let fits : debuggee.SendFits c.sizes-sizes.result s.end.limits.packet (Some done) = rw (c.sizes-sizes.ensures, c.self.invariant.limits) within in
    record {
      reports = reports-leave c.sizes-sizes.result s.end done.sends flows c.is_paused.ensures.most fits;
      death = death-leaves s.end flows c.is_paused.ensures.least;
      least = c.is_paused.ensures.least;
      apart = dies-alone m t s.debuggee c.step.new.self done step;
    }

pub invariant_of-self-2 : goal.invariant_of-self-2
invariant_of-self-2 g c =
    let m = g.M.Machine.meaning in
    let s = c.self.inside in
    let done = c.in-Ok-Some.done in
    let t = c.args.thread.0 in
    let step : debuggee.Steps m t s.debuggee c.step.new.self done = rw c.in-Ok-Some.field-0-is at c.in-Ok-Some.ensures.exact in
    let one = stepped-debuggee m t s.debuggee c.step.new.self c.tell.new.debuggee s.end c.sizes-sizes.result c.next_packet-packet.result done step c.sizes-sizes.ensures c.next_packet-packet.ensures c.tell.ensures.debuggee in
    let two = stepped-end m t s.debuggee c.step.new.self s.end c.tell.new.end c.sizes-sizes.result c.next_packet-packet.result done step c.sizes-sizes.ensures c.next_packet-packet.ensures c.tell.ensures.end in
    let left = stepped-deferral m t s.debuggee s.deferral c.keep_where.new.self s.end c.tell.new.end c.is_established.result two c.is_established.ensures c.keep_where.ensures in
    let counted : length c.push.new.self.items ≡ length s.steps.items + 1 = rw c.push.ensures (length-append s.steps.items (tt ∷ [])) in
    let sends = stepped-sends m t s.debuggee c.step.new.self s.end c.sizes-sizes.result c.next_packet-packet.result s.end.limits.packet done step c.sizes-sizes.ensures c.next_packet-packet.ensures c.fits_step.ensures in
    rw (one, two, left, counted) (right-stepped m t s.debuggee s.deferral s.began.items s.phases.items (length s.steps.items) s.end step.may sends c.self.invariant)

pub returns-in-Ok-None-clause-steps : goal.returns-in-Ok-None-clause-steps
returns-in-Ok-None-clause-steps g c = search rules

pub returns-then-is_paused-clause-steps : goal.returns-then-is_paused-clause-steps
returns-then-is_paused-clause-steps g c = search rules

pub returns-clause-packets : goal.returns-clause-packets
returns-clause-packets g c =
    let m = g.M.Machine.meaning in
    let s = c.self.inside in
    let done = c.in-Ok-Some.done in
    let t = c.args.thread.0 in
    let step : debuggee.Steps m t s.debuggee c.step.new.self done = rw c.in-Ok-Some.field-0-is at c.in-Ok-Some.ensures.exact in
    let flows : is_paused s.end ≡ false = sym c.is_paused.ensures.paused ∙ c.if-is_paused.false in
    let sends = stepped-sends m t s.debuggee c.step.new.self s.end c.sizes-sizes.result c.next_packet-packet.result s.end.limits.packet done step c.sizes-sizes.ensures c.next_packet-packet.ensures c.fits_step.ensures in
    rw (← c.self.view_is) (sends-where m t (target_of s.debuggee s.deferral s.began.items s.phases.items (length s.steps.items) s.end) flows step.may sends)

pub returns-clause-steps : goal.returns-clause-steps
returns-clause-steps g c = grind (arith, common_steps)
