use Rattle.std.proofs.Common.{◌<◌, ◌∙◌, sym, length, arith}
use Rattle.jdwp_event.specs.RequestParts.{origin_meaning}
use Rattle.jdwp_event.proofs.Limits.{limits_stop}
use Rattle.jdwp_event.proofs.request.count_limits.Goals as goal

pub returns-then-not-passes-clause-reached : goal.returns-then-not-passes-clause-reached
returns-then-not-passes-clause-reached c =
    let lt : c.loop-limit.limit-index < length c.loop-limit.limits = omega arith in
    rw c.reach.ensures (sym (limits_stop (origin_meaning c.args.origin) c.args.happening.now c.loop-limit.limits c.loop-limit.limit-index c.limit-item.result lt (sym c.passes-passes.ensures ∙ c.if-not-passes.true)) ∙ c.loop-limit.invariant.reached)
