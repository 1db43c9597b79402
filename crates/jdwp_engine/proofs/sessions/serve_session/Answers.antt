use Rattle.std.proofs.Common.{refl, ap, ◌∙◌}
use Rattle.jdwp_target.specs.Targets.{with_deferring}
use Rattle.jdwp_engine.proofs.sessions.serve_session.Goals as goal

pub returns-clause-served : goal.returns-clause-served
returns-clause-served g c =
    let begun = c.set_deferring.ensures ∙ ap (with_deferring c.args.defer) c.in_ok-target.ensures in
    let in-order = (rw begun at c.serve.ensures.in_order) refl refl in
    let ended = (rw begun at c.serve.ensures.ended) refl refl in
    let by-rounds = (rw (begun, c.from.ensures) at c.serve.ensures.rounds) refl refl in
    let at-most = (rw (begun, c.from.ensures) at c.serve.ensures.at_most) refl refl in
    let limit = rw c.from.ensures at c.serve.ensures.limit in
    record {
      target = c.serve.new.target;
      ran = c.serve.ensures.ran;
      in_order = in-order;
      may_end = ended;
      by_rounds = by-rounds;
      at_most = at-most;
      all_used = limit;
    }
