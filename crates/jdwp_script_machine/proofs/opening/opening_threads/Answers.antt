use Rattle.std.proofs.Common.{rules}
use Rattle.jdwp_script_machine.proofs.opening.opening_threads.Goals as goal

pub threads_of-requires : goal.threads_of-requires
threads_of-requires c = search rules
