use Rattle.std.proofs.Common.{◌∙◌}
use Rattle.jdwp_files.proofs.written.run_new.Goals as goal

pub returns-clause-ran : goal.returns-clause-ran
returns-clause-ran g c = record {
  last = c.run_plan-ended.new.client;
  ends = rw (c.deref_mut.ensures.value ∙ c.in_ok-client.ensures) at c.run_plan-ended.ensures;
  pipe_is = rw c.into_inner.ensures at c.into_pipe-pipe.ensures;
}
