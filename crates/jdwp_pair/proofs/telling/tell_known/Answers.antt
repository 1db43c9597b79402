use Rattle.std.proofs.Common.{◌≡◌, List, ℕ, subst}
use Rattle.std.specs.String.{string_bytes}
use Rattle.jdwp_end.specs.Story.{with_written}
use Rattle.jdwp_pair.specs.Telling.{FailsToTell}
use Rattle.jdwp_pair.proofs.Keeping.{known-fails}
use Rattle.jdwp_pair.proofs.Leading.{if-err, on-ok}
use Rattle.jdwp_pair.proofs.telling.tell_known.Goals as goal

pub returns-in-Ok-clause-tells : goal.returns-in-Ok-clause-tells
returns-in-Ok-clause-tells g c =
    let before = g.W.Pipe.story c.args.out.now in
    let after = g.W.Pipe.story c.print.new.out in
    on-ok c.print.result (λ e. λ order k. (string_bytes c.in-Ok.text, c.in-Ok.ensures order k, subst (λ (text : List ℕ). after ≡ with_written text before) c.as_str.ensures.value e)) c.print.ensures.tells

pub returns-in-Ok-clause-ends : goal.returns-in-Ok-clause-ends
returns-in-Ok-clause-ends g c =
    let before = g.W.Pipe.story c.args.out.now in
    let after = g.W.Pipe.story c.print.new.out in
    if-err c.print.result
    (λ how e. λ order k. known-fails g.M.Machine.meaning order c.args.link.now how (string_bytes c.in-Ok.text) before after (c.in-Ok.ensures order k) (subst (λ (text : List ℕ). FailsToTell text how before after) c.as_str.ensures.value e))
    c.print.ensures.ends
