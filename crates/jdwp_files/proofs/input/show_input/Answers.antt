use Rattle.jdwp_files.proofs.Recordings.{untold_capture}
use Rattle.jdwp_files.proofs.input.show_input.Goals as goal

pub returns-in_err-found : goal.returns-in_err-found
returns-in_err-found g c = untold_capture c.from_residual-in_err-found.result _

pub returns-in_err-bytes : goal.returns-in_err-bytes
returns-in_err-bytes g c = untold_capture c.from_residual-in_err-bytes.result _
