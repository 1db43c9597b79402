use Rattle.jdwp_debugger.specs.Runs.{heard_by}
use Rattle.jdwp_debugger.proofs.Knowing.{mirror-in}
use Rattle.jdwp_debugger.proofs.debugger.Debugger.session.Goals as goal

pub returns-clause-mirror : goal.returns-clause-mirror
returns-clause-mirror c = λ run. mirror-in c.args.self.now.order (heard_by run) c.args.self.now.mirror run.learned
