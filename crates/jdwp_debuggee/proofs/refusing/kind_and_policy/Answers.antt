use Rattle.jdwp_debuggee.proofs.OwnRefusals.{set-begins}
use Rattle.jdwp_debuggee.proofs.refusing.kind_and_policy.Goals as goal

pub returns-in-len2-up : goal.returns-in-len2-up
returns-in-len2-up c = λ w command. set-begins w c.args.bytes.now command
