use Rattle.jdwp_recording.proofs.AssemblyLaws.{none_kept, all_known}
use Rattle.jdwp_recording.proofs.assembly.Assembly.hole.Goals as goal

pub returns-in-None : goal.returns-in-None
returns-in-None c = λ parts bytes st. all_known parts bytes c.args.self.now (none_kept c.args.self.now (λ more. let e = c.in-None.ensures.variant.1 more in cc)) st
