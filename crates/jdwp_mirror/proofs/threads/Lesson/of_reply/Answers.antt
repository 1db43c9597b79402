use Rattle.std.proofs.Common.{rules}
use Rattle.jdwp_mirror.proofs.threads.Lesson.of_reply.Goals as goal

pub returns-in-AllThreads : goal.returns-in-AllThreads
returns-in-AllThreads c = search rules
