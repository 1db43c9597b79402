use Rattle.std.proofs.lemmas.Grind.{common_steps}
use Rattle.std.proofs.Common.{add-one, arith}
use Rattle.jdwp_value.specs.declared.id.ObjectId.{ObjectId}
use Rattle.jdwp_debuggee.proofs.KeptRequests.{ending-step, numbers-drop}
use Rattle.jdwp_debuggee.proofs.requesting.end_all.Goals as goal

abbrev none : ObjectId
none = record { 0 = 0 }

pub loop-thread-preserved : goal.loop-thread-preserved
loop-thread-preserved g c =
    rw (c.end.ensures, add-one)
    (ending-step g.M.Machine.meaning g.met.M.Machine.lawful _ _ _ _ _ _ c.loop-thread.invariant (numbers-drop c.args.threads.now c.loop-thread.thread-index none c.loop-thread-test.true))

pub end-requires : goal.end-requires
end-requires c = grind (arith, common_steps)

pub returns : goal.returns
returns c = grind (arith, common_steps)
