use Rattle.jdwp_pair.proofs.Leading.{come-to-target-moves, quietly-ends}
use Rattle.jdwp_pair.proofs.parts.turn_target.Goals as goal

pub returns-in-Ok-act-clause-turns : goal.returns-in-Ok-act-clause-turns
returns-in-Ok-act-clause-turns g c = (c.deliver_to_target.new.link, c.in-Ok.ensures.comes, c.in-Ok-act.ensures.acts, c.did.ensures)

pub returns-in-Err-act-clause-ends : goal.returns-in-Err-act-clause-ends
returns-in-Err-act-clause-ends g c =
    let m = g.M.Machine.meaning in
    quietly-ends m c.in-Err-act.ended c.args.link.now c.deliver_to_target.new.link c.act.new.link (come-to-target-moves m c.args.link.now c.deliver_to_target.new.link c.in-Ok.ensures.comes) c.in-Err-act.ensures.ends
