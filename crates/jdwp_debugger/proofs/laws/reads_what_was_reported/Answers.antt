use Rattle.jdwp_debugger.proofs.ReportedReads.{reads-as-reported}
use Rattle.jdwp_debugger.proofs.laws.reads_what_was_reported.Goals as goal

pub returns : goal.returns
returns c = reads-as-reported
