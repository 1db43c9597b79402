use Rattle.std.proofs.Common.{rules}
use Rattle.jdwp_engine.proofs.sessions.serve_script.Goals as goal

pub returns-in_err-machine-clause-fault : goal.returns-in_err-machine-clause-fault
returns-in_err-machine-clause-fault g c =
    search rules

pub returns-clause-served : goal.returns-clause-served
returns-clause-served g c =
    search rules
