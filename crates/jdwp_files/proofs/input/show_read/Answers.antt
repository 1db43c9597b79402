use Rattle.jdwp_program.specs.Statuses.{status_of_fault}
use Rattle.jdwp_program.proofs.StreamLaws.{fault_counts, leaves_input, leaves_memory, leaves_output, leaves_told}
use Rattle.jdwp_files.proofs.input.show_read.Goals as goal

pub returns-in-Ok : goal.returns-in-Ok
returns-in-Ok g c = leaves_told c.args.words.now.table c.args.begun.now _ _ _ _ c.in-Ok.told c.in-Ok.ensures

pub returns-in-Err-Input : goal.returns-in-Err-Input
returns-in-Err-Input g c = leaves_input c.args.words.now.table c.args.begun.now _ _ _ _ c.in-Err-Input.error (status_of_fault c.of_file.result) (fault_counts c.of_file.result) (rw c.in-Err-Input.field-0-is at c.in-Err-Input.ensures)

pub returns-in-Err-Output : goal.returns-in-Err-Output
returns-in-Err-Output g c = leaves_output c.args.words.now.table c.args.begun.now _ _ _ _ c.in-Err-Output.error (rw c.in-Err-Output.field-0-is at c.in-Err-Output.ensures)

pub returns-in-Err-NoMemory : goal.returns-in-Err-NoMemory
returns-in-Err-NoMemory g c = leaves_memory c.args.words.now.table c.args.begun.now _ _ _ _ (rw c.in-Err-NoMemory.field-0-is at c.in-Err-NoMemory.ensures)
