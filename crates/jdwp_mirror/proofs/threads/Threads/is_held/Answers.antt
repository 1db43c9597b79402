use Rattle.std.proofs.Common.{sym}
use Rattle.jdwp_mirror.proofs.NumberingLemmas.{known-held, unknown-held}
use Rattle.jdwp_mirror.proofs.threads.Threads.is_held.Goals as goal

pub returns-in-Some : goal.returns-in-Some
returns-in-Some c = sym (known-held c.args.self.now c.args.id.0 c.in-Some.known (sym c.in-Some.ensures))

pub returns-in-None : goal.returns-in-None
returns-in-None c = sym (unknown-held c.args.self.now c.args.id.0 (sym c.in-None.ensures))
