use Rattle.std.proofs.Common.{◌≡◌, ◌∙◌, ℕ, suc, ◌+◌, drop, ap, sym, arith}
use Rattle.jdwp_debugger.specs.Debuggers.{at_place, unanswered}
use Rattle.jdwp_debugger.specs.PendingKept.{asked_of}
use Rattle.jdwp_debugger.proofs.Losing.{found_behind, found_first, found_later}
use Rattle.jdwp_debugger.proofs.pending.Pending.unanswered_at.Goals as goal
use Rattle.jdwp_debugger.proofs.pending.Pending.unanswered_at.Goals.{in-Some+else-left-eq0, in_default}

pub returns-then-left-eq0 : goal.returns-then-left-eq0
returns-then-left-eq0 c =
    let ps = c.args.self.now in
    let i = c.loop-next.next in
    let p = asked_of (c.at.result.0, c.at.result.1.now) in
    sym (found_first ps i p c.at.ensures c.in-Some.ticket c.in-Some.is)
    ∙ ap (λ (n : ℕ). at_place (unanswered (drop i ps)) n) (sym c.if-left-eq0.true)
    ∙ c.loop-next.invariant

pub loop-next-preserved : goal.loop-next-preserved
loop-next-preserved c =
    let ps = c.args.self.now in
    let i = c.loop-next.next in
    let p = asked_of (c.at.result.0, c.at.result.1.now) in
    let step : at_place (unanswered (drop (i + 1) ps)) c.match-asked.left ≡ at_place (unanswered (drop i ps)) c.loop-next.left = elim c.match-asked.branch [
      | in-Some+else-left-eq0 w ↦
          let n = c.match-asked.left in
          let some = w.if-left-eq0.false in
          let more : suc n ≡ c.loop-next.left = omega (arith, some, w.left-is) in
          found_later ps i p c.at.ensures w.in-Some.ticket n w.in-Some.is ∙ ap (λ (m : ℕ). at_place (unanswered (drop i ps)) m) more
      | in_default w ↦
          ap (λ (m : ℕ). at_place (unanswered (drop (i + 1) ps)) m) w.left-is
          ∙ found_behind ps i p c.at.ensures c.loop-next.left w.in_default.is
    ] in
    step ∙ c.loop-next.invariant
