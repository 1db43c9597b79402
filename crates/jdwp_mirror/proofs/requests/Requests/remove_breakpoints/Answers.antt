use Rattle.std.proofs.Common.{◌≡◌, List, ap, arith, refl, sym, ◌+◌, ◌∙◌}
use Rattle.std.specs.List.{filter}
use Rattle.jdwp_mirror.specs.Mirror.{Kept, is_no_kept_breakpoint}
use Rattle.jdwp_mirror.proofs.RowLemmas.{first-count, first-stay, leave_in, marks-count, none-leaves}
use Rattle.jdwp_mirror.proofs.requests.Requests.remove_breakpoints.Goals as goal

pub loop-init : goal.loop-init
loop-init c =
    let count : c.breakpoints-end.result ≡ leave_in is_no_kept_breakpoint c.args.self.now = c.breakpoints-end.ensures ∙ marks-count c.self.inside.row ∙ ap (leave_in is_no_kept_breakpoint) c.self.view_is in
    (refl, omega arith)

pub loop-preserved : goal.loop-preserved
loop-preserved c =
    let stays = is_no_kept_breakpoint in
    let now = c.loop.self in
    let k = c.loop.counter in (
      ap (filter stays) c.remove_breakpoint.ensures ∙ first-stay stays now ∙ c.loop.invariant.0,
      ap (λ (rs : List Kept). leave_in stays rs + (k + 1)) c.remove_breakpoint.ensures ∙ first-count stays now k (leave_in stays now) c.breakpoints-end.result refl c.loop.invariant.1 c.loop-test.true,
    )

pub returns : goal.returns
returns c =
    let stays = is_no_kept_breakpoint in
    let now = c.loop.self in
    let count = c.loop.invariant.1 in
    let past = c.loop-test.false in
    let none : leave_in stays now ≡ 0 = omega arith in
    sym (none-leaves stays now none) ∙ c.loop.invariant.0
