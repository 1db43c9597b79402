use Rattle.std.proofs.Common.{rules}
use Rattle.std.proofs.lemmas.Fn.{filter_same}
use Rattle.jdwp_frames.specs.Frames.{is_left}
use Rattle.jdwp_frames.proofs.kept.forget_changed.Goals as goal

pub returns : goal.returns
returns c = filter_same _ (is_left c.args.command.now) _ (λ x b f' k. search rules) _ _ c.retain.ensures.filtered
