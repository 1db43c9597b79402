use Rattle.std.proofs.Common.{rules}
use Rattle.std.proofs.lemmas.Fn.{filter_same}
use Rattle.jdwp_frames.specs.Frames.{others}
use Rattle.jdwp_frames.proofs.kept.forget.Goals as goal

pub returns : goal.returns
returns c = filter_same _ (others c.args.thread.0) _ (λ x b f' k. search rules) _ _ c.retain.ensures.filtered
