use Rattle.std.proofs.Common.{◌≡◌, ◌<◌, ◌≤◌, ℕ, below_more, arith, Some}
use Rattle.jdwp_plan.specs.Cuts.{behind, front}
use Rattle.jdwp_plan.proofs.CommandLaws.{cut_parts, has_no, named}
use Rattle.jdwp_plan.proofs.commands.command_named.Goals as goal

pub loop-set-preserved : goal.loop-set-preserved
loop-set-preserved c = below_more _ _ c.loop-set.invariant c.in_default.ensures

pub returns : goal.returns
returns c =
    let at : Some c.in_ok-command.command.now ≡ behind 46 c.args.name.now = rw c.in_ok-command.was at c.cut_at_dot-cut.ensures.behind in
    let here : (set : ℕ) → set < 65 → _ = λ set few. c.loop-set.invariant set (omega arith) in
    has_no c.args.name.now c.in_ok-command.command.now at (rw c.cut_at_dot-cut.ensures.front at here)

pub returns-in-Some : goal.returns-in-Some
returns-in-Some c =
    let at : Some c.in_ok-command.command.now ≡ behind 46 c.args.name.now = rw c.in_ok-command.was at c.cut_at_dot-cut.ensures.behind in
    named c.cut_at_dot-cut.result.front.now c.in_ok-command.command.now c.args.name.now c.loop-set.set c.in-Some.number c.in-Some.ensures
    (rw c.cut_at_dot-cut.ensures.front (cut_parts 46 c.args.name.now c.in_ok-command.command.now at))
