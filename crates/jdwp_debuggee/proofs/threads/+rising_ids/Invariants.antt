use Rattle.std.proofs.Common.{length}
use Rattle.jdwp_debuggee.proofs.threads.+rising_ids.Given as goal

abbrev pub decreases-rising_ids : goal.decreases-rising_ids
decreases-rising_ids l = length l.entries.now
