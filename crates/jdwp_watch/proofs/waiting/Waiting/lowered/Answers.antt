use Rattle.std.proofs.Common.{List, length, drop, ap, ◌∙◌}
use Rattle.std.specs.Prelude.{count_by}
use Rattle.jdwp_action.specs.Actions.{Command}
use Rattle.jdwp_apart.specs.Watch.{all_lower}
use Rattle.jdwp_watch.specs.declared.waiting.Lowering.{Lowering}
use Rattle.jdwp_watch.specs.Lowerings.{lowered_by}
use Rattle.jdwp_watch.proofs.Lowered.{all-lowered}
use Rattle.jdwp_watch.proofs.waiting.Waiting.lowered.Goals as goal

pub returns : goal.returns
returns c =
    let t = c.args.thread.0 in
    c.resumes_among.ensures ∙ (ap (λ (ls : List Lowering). count_by (lowered_by t) ls) c.self.invariant.kept ∙ (all-lowered (drop (length c.self.inside.answered.items) c.self.inside.asked.items) t ∙ ap (λ (cs : List Command). all_lower cs t) c.self.view_is))
