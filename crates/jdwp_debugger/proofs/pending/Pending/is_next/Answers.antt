use Rattle.std.proofs.Common.{◌≡◌, ◌∙◌, ◌+◌, ◌-◌, ℕ, suc, true, false, drop, ap, sym, arith}
use Rattle.jdwp_apart.specs.Messages.{is_invocation}
use Rattle.jdwp_debugger.specs.DebuggerTurns.{is_next}
use Rattle.jdwp_debugger.specs.PendingKept.{asked_of}
use Rattle.jdwp_debugger.proofs.Followed.{next_no, next_yes}
use Rattle.jdwp_debugger.proofs.pending.Pending.is_next.Goals as goal

pub returns-then-not-is_invocation : goal.returns-then-not-is_invocation
returns-then-not-is_invocation c =
    let ps = c.args.self.now in
    let i = c.loop-earlier.earlier in
    let p = asked_of (c.at.result.0, c.at.result.1.now) in
    let less = c.loop-earlier-test.true in
    let n : ℕ = c.args.place - (i + 1) in
    let more : suc n ≡ c.args.place - i = omega (arith, less) in
    let no : is_invocation p.command ≡ false = sym c.is_invocation.ensures ∙ c.if-not-is_invocation.true in
    sym (next_no ps i p c.at.ensures n no) ∙ ap (λ (m : ℕ). is_next m (drop i ps)) more ∙ c.loop-earlier.invariant

pub loop-earlier-preserved : goal.loop-earlier-preserved
loop-earlier-preserved c =
    let ps = c.args.self.now in
    let i = c.loop-earlier.earlier in
    let p = asked_of (c.at.result.0, c.at.result.1.now) in
    let less = c.loop-earlier-test.true in
    let n : ℕ = c.args.place - (i + 1) in
    let more : suc n ≡ c.args.place - i = omega (arith, less) in
    let yes : is_invocation p.command ≡ true = sym c.is_invocation.ensures ∙ c.if-not-is_invocation.false in
    next_yes ps i p c.at.ensures n yes ∙ ap (λ (m : ℕ). is_next m (drop i ps)) more ∙ c.loop-earlier.invariant
