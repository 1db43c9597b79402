use Rattle.std.proofs.Common.{Option, subst}
use Rattle.std.specs.String.{string_bytes}
use Rattle.jdwp_mirror.specs.Mirrors.{Mirror}
use Rattle.jdwp_attach.specs.Telling.{TellsMirror}
use Rattle.jdwp_debugger.specs.Debuggers.{Debugger}
use Rattle.jdwp_pair.specs.Followers.{Followed}
use Rattle.jdwp_pair.proofs.Keeping.{tells-apart, tells-one}
use Rattle.jdwp_pair.proofs.Leading.{if-ok}
use Rattle.jdwp_pair.proofs.telling.what_is_known.Goals as goal

pub returns-in-None : goal.returns-in-None
returns-in-None g c =
    if-ok c.mirror_text.result
    (λ text t. λ order k. tells-one g.M.Machine.meaning order c.args.link.now (string_bytes text) (subst (λ (o : Option Debugger). Followed g.M.Machine.meaning order c.args.link.now o) c.in-None.is k) (subst (λ (m : Mirror). TellsMirror m (string_bytes text)) c.mirror_of.ensures t))
    c.mirror_text.ensures

pub returns-in-Some : goal.returns-in-Some
returns-in-Some g c =
    if-ok c.known_text.result (λ text t. λ order k. tells-apart g.M.Machine.meaning order c.args.link.now c.in-Some.debugger (string_bytes text) (subst (λ (o : Option Debugger). Followed g.M.Machine.meaning order c.args.link.now o) c.in-Some.is k) t) c.known_text.ensures
