use Rattle.std.proofs.Common.{rules}
use Rattle.std.proofs.lemmas.Fn.{filter_same}
use Rattle.jdwp_frames.specs.Frames.{lasts_at}
use Rattle.jdwp_frames.proofs.kept.forget_freed.Goals as goal

pub returns-clause-items : goal.returns-clause-items
returns-clause-items c = filter_same _ (lasts_at c.args.debugger.now) _ (λ x b f' k. search rules) _ _ c.retain.ensures.filtered
