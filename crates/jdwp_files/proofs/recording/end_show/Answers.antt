use Rattle.std.proofs.Common.{Err, arith}
use Rattle.jdwp_show.specs.declared.table.Table.TheVariants.{Standard}
use Rattle.jdwp_program.specs.declared.streaming.StreamFault.TheVariants.{Input, NoMemory}
use Rattle.jdwp_files.proofs.Recordings.{live_ends, live_fails}
use Rattle.jdwp_files.proofs.recording.end_show.Goals as goal

pub returns-in-Ok : goal.returns-in-Ok
returns-in-Ok g c = λ text start shows. live_ends c.in-Ok.told text start _ (rw c.in-Ok.is at c.end.ensures Standard text start shows)

pub returns-in-Err-Input : goal.returns-in-Err-Input
returns-in-Err-Input g c = λ text start shows. live_fails c.in-Err-Input.field-0 2 text start _ (omega arith) (rw c.in-Err-Input.is at c.end.ensures Standard text start shows)

pub returns-in-Err-NoMemory : goal.returns-in-Err-NoMemory
returns-in-Err-NoMemory g c = λ text start shows. live_fails c.in-Err-NoMemory.field-0 3 text start _ (omega arith) (rw c.in-Err-NoMemory.is at c.end.ensures Standard text start shows)
