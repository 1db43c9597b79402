use Rattle.std.proofs.Common.{rules}
use Rattle.jdwp_script_machine.proofs.happening.may_begin.Goals as goal

pub returns-then-has_thread : goal.returns-then-has_thread
returns-then-has_thread c =
    search rules
