use Rattle.jdwp_end.proofs.Known.{keeps-same, keeps-again, write-again}
use Rattle.jdwp_end.proofs.pipes.streams.write_uninterrupted.Goals as goal

pub loop-init : goal.loop-init
loop-init g c = keeps-same _

pub returns-in_default-clause-bytes : goal.returns-in_default-clause-bytes
returns-in_default-clause-bytes g c = keeps-again _ _ _ c.loop.invariant c.in-Err.ensures.bytes

pub returns-in_default-2-clause-bytes : goal.returns-in_default-2-clause-bytes
returns-in_default-2-clause-bytes g c =
    write-again _ _ _ _ _ c.loop.invariant c.write.ensures.bytes

pub loop-preserved : goal.loop-preserved
loop-preserved g c = keeps-again _ _ _ c.loop.invariant c.in-Err.ensures.bytes

pub returns-clause-bytes : goal.returns-clause-bytes
returns-clause-bytes g c = c.loop.invariant
