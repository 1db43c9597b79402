use Rattle.std.proofs.Common.{ℕ, List, ◌≤◌, ◌-◌, length}
use Rattle.jdwp_show.specs.Items.{Item}
use Rattle.jdwp_show.specs.declared.table.Table.{Table}
use Rattle.jdwp_judge.specs.Coming.{IsComing}
use Rattle.jdwp_judge.specs.Standing.{Follows}
use Rattle.jdwp_judge.proofs.ComingLaws.{Taking}
use Rattle.jdwp_judge.proofs.hearing.hear_all.Given as goal

abbrev pub invariant-loop-found : goal.invariant-loop-found
invariant-loop-found l = record {
  within : l.taken ≤ length l.coming.bytes.items;
  taking : (table : Table) (items : List Item) (sent : List ℕ) → Follows table l.fn.rulings items → IsComing sent items l.sender l.fn.coming → Taking table l.piece l.sender items sent l.bytes l.rulings l.coming l.taken l.fn.lines l.lines;
}

abbrev pub decreases-loop-found : goal.decreases-loop-found
decreases-loop-found l = length l.coming.bytes.items - l.taken
