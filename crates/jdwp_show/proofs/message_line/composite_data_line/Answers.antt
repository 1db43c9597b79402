use Rattle.std.proofs.lemmas.Result.{IfOk-weaker}
use Rattle.jdwp_show.proofs.TextLemmas.{joined, all_grown}
use Rattle.jdwp_show.proofs.message_line.composite_data_line.Goals as goal

pub returns : goal.returns
returns c = IfOk-weaker c.into_string.result _ _ (λ line kept. all_grown line c.new-line.ensures.bytes (joined c.push_composite_start.ensures c.push_data.ensures) kept.0 kept.1) c.into_string.ensures.ok
