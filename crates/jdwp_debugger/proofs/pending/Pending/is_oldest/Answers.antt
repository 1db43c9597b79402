use Rattle.jdwp_debugger.specs.PendingKept.{asked_of}
use Rattle.jdwp_debugger.proofs.Settled.{oldest_first}
use Rattle.jdwp_debugger.proofs.pending.Pending.is_oldest.Goals as goal

pub returns-clause-first : goal.returns-clause-first
returns-clause-first c = oldest_first c.args.id c.args.self.now (asked_of (c.at-oldest.result.0, c.at-oldest.result.1.now)) c.at-oldest.ensures
