use Rattle.jdwp_files.proofs.Recordings.{untold_capture}
use Rattle.jdwp_files.proofs.drawing.draw_file.Goals as goal

pub returns-in_err-found : goal.returns-in_err-found
returns-in_err-found g c = untold_capture c.from_residual-in_err-found.result _
