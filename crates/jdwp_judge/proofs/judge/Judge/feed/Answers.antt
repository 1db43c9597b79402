use Rattle.std.proofs.lemmas.Result.{IfOk-weaker}
use Rattle.jdwp_judge.proofs.SessionLaws.{piece_lines}
use Rattle.jdwp_judge.proofs.judge.Judge.feed.Goals as goal

pub returns-clause-heard : goal.returns-clause-heard
returns-clause-heard c = λ table pieces heard. IfOk-weaker c.into_string.result _ _ (λ lines whole. (c.in_ok-hear.ensures table pieces heard).heard) c.into_string.ensures

pub returns-clause-told : goal.returns-clause-told
returns-clause-told c = λ table pieces heard. IfOk-weaker c.into_string.result _ _ (λ lines whole. piece_lines table _ pieces _ _ _ _ (c.in_ok-hear.ensures table pieces heard) c.new-lines.ensures whole) c.into_string.ensures
