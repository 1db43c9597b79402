use Rattle.std.proofs.Common.{◌<◌, ◌≤◌, ◌∙◌, ap, Some, length, arith}
use Rattle.std.proofs.lemmas.Bool.Decides.{nat_tests}
use Rattle.jdwp_event.specs.RequestParts.{LimitMeaning}
use Rattle.jdwp_event.proofs.Limits.{modifier_there, modifier_past}
use Rattle.jdwp_event.proofs.request.Request.modifier.Goals as goal

pub returns-in-Some : goal.returns-in-Some
returns-in-Some c =
    let e = c.in-Some.ensures.lookup in
    let lt : c.args.place < length c.deref.result.now = grind (arith, nat_tests) in
    rw (← c.self.view_is, ← c.deref.ensures.value) (ap (λ (l : LimitMeaning). Some l.modifier) (c.limit.view_is ∙ e.1) ∙ modifier_there c.deref.result.now c.args.place c.in-Some.limit.now lt)

pub returns-in-None : goal.returns-in-None
returns-in-None c =
    let e = c.in-None.ensures.lookup in
    let le : length c.deref.result.now ≤ c.args.place = grind (arith, nat_tests) in
    rw (← c.self.view_is, ← c.deref.ensures.value) (modifier_past c.deref.result.now c.args.place le)
