use Rattle.std.proofs.Common.{rules}
use Rattle.jdwp_script_machine.proofs.thread_answers.entry_of.Goals as goal

pub returns : goal.returns
returns c = search rules
