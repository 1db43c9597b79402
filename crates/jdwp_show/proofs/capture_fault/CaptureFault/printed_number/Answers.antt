use Rattle.std.proofs.Common.{rules}
use Rattle.jdwp_show.proofs.capture_fault.CaptureFault.printed_number.Goals as goal

pub returns-in-BadData : goal.returns-in-BadData
returns-in-BadData c = search rules
