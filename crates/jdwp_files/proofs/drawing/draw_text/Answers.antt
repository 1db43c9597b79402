use Rattle.jdwp_files.proofs.drawing.draw_text.Goals as goal

pub returns-in-Err-Output : goal.returns-in-Err-Output
returns-in-Err-Output g c = rw c.in-Err-Output.field-0-is at c.in-Err-Output.ensures.leaves
