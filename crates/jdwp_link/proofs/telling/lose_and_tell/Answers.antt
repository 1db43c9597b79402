use Rattle.std.proofs.Common.{◌∙◌, ap, arith, length}
use Rattle.jdwp_debugger.specs.Debuggers.{Debugger, tickets_of}
use Rattle.jdwp_link.proofs.Tells.{lost-room}
use Rattle.jdwp_link.proofs.telling.lose_and_tell.Goals as goal

pub tell_lost-requires : goal.tell_lost-requires
tell_lost-requires c =
    lost-room c.args.debugger.now.pending c.as_slice.result.now _ _
    (c.as_slice.ensures.value ∙ (c.lose-lost.ensures.tickets ∙ ap (λ (d : Debugger). tickets_of d.pending) c.keep_debugger.ensures.taken)) (let few = c.as_slice.ensures.bound in let is = ap length c.as_slice.ensures.value in omega arith) c.requires.told
