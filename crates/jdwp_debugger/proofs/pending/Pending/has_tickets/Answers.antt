use Rattle.std.proofs.Common.{◌≡◌, ◌∙◌, true, false, is_some, sym, rules}
use Rattle.jdwp_debugger.specs.PendingKept.{asked_of}
use Rattle.jdwp_debugger.proofs.Losing.{has_no_more, has_one}
use Rattle.jdwp_debugger.proofs.pending.Pending.has_tickets.Goals as goal

pub returns-then-is_some : goal.returns-then-is_some
returns-then-is_some c =
    let p = asked_of (c.at.result.0, c.at.result.1.now) in
    let is : is_some p.ticket ≡ true = search rules in
    sym (has_one c.args.self.now c.loop-place.place p c.at.ensures is) ∙ c.loop-place.invariant

pub loop-place-preserved : goal.loop-place-preserved
loop-place-preserved c =
    let p = asked_of (c.at.result.0, c.at.result.1.now) in
    let is : is_some p.ticket ≡ false = search rules in
    has_no_more c.args.self.now c.loop-place.place p c.at.ensures is ∙ c.loop-place.invariant
