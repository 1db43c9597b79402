use Rattle.std.proofs.Common.{◌≡◌, ◌≤◌, ◌+◌, drop, map, not}
use Rattle.std.specs.List.{count_by}
use Rattle.jdwp_script.specs.Meanings.{thread_part}
use Rattle.jdwp_script.specs.IdSets.{has}
use Rattle.jdwp_script.proofs.limits.living.Given as goal

abbrev pub invariant-loop-thread : goal.invariant-loop-thread
invariant-loop-thread l = record {
  few : l.count ≤ l.thread-index;
  same : l.count + count_by (λ t. not (has l.started t.id)) (map thread_part (drop l.thread-index l.threads)) ≡ count_by (λ t. not (has l.started t.id)) (map thread_part l.threads);
}
