use Rattle.std.proofs.Common.{◌≡◌, length, vec_len}
use Rattle.std.specs.List.{filter}
use Rattle.jdwp_debuggee.specs.Entries.{threads_of}
use Rattle.jdwp_debuggee.specs.State.{is_other}
use Rattle.jdwp_debuggee.proofs.threads.remove_one.Given as goal

abbrev pub invariant-loop-place : goal.invariant-loop-place
invariant-loop-place l = record {
  same : length l.counts.counts ≡ length l.entries.items;
  others : filter (is_other l.thread.0) (threads_of l.entries.items l.counts.counts) ≡ filter (is_other l.thread.0) (threads_of l.initial.entries.items l.initial.counts.counts);
  visits : l.counts.visits ≡ l.initial.counts.visits;
}

abbrev pub decreases-loop-place : goal.decreases-loop-place
decreases-loop-place l = vec_len l.entries
