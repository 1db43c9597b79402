use Rattle.std.proofs.Common.{rules}
use Rattle.jdwp_mirror.proofs.threads.Lesson.of_event.Goals as goal

pub returns-else-suspends_all-2 : goal.returns-else-suspends_all-2
returns-else-suspends_all-2 c = search rules
