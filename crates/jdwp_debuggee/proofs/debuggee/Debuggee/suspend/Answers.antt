use Rattle.std.proofs.Common.{◌≡◌, ◌∙◌, sym, rules, true}
use Rattle.jdwp_debuggee.proofs.CountLimits.{limit-of}
use Rattle.jdwp_debuggee.proofs.Kept.{kept-raised, most-of}
use Rattle.jdwp_debuggee.proofs.debuggee.Debuggee.suspend.Goals as goal

pub raise_all-requires : goal.raise_all-requires
raise_all-requires g c = most-of g.M.Machine.meaning _ c.self.invariant

pub stands_at-requires : goal.stands_at-requires
stands_at-requires g c = rw c.count_limit.ensures.value (record { within = limit-of g.M.Machine.meaning _ c.self.invariant; positive = c.self.invariant.limit.0 })

pub invariant_of-self : goal.invariant_of-self
invariant_of-self g c =
    let shaken : c.self.inside.handshaken ≡ true = search rules in
    let below = rw c.count_limit.ensures.value at (sym c.stands_at.ensures ∙ c.if-stands_at.false) in
    rw c.raise_all.ensures.list (kept-raised g.M.Machine.meaning _ c.self.invariant shaken below)
