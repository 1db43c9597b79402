use Rattle.std.proofs.Common.{◌≡◌, ◌≤◌, ◌-◌, ◌∙◌, ◌++◌, ap, arith, length, refl, take}
use Rattle.std.proofs.lemmas.List.{length-take-le}
use Rattle.jdwp_debugger.specs.Debuggers as debuggers
use Rattle.jdwp_link.specs.Moving.{moved}
use Rattle.jdwp_link.specs.declared.way.Side.TheVariants as side
use Rattle.jdwp_target.specs.Targets as targets
use Rattle.jdwp_link.proofs.Carrying.{carry-all, carry-more, carry-start, stays-on}
use Rattle.jdwp_link.proofs.Pieces.{all-left, moved-more, to-target-more, to-target-start}
use Rattle.jdwp_link.proofs.moving.pieces_to_target.Goals as goal

pub loop-left-init : goal.loop-left-init
loop-left-init g c =
    let start = to-target-start c.args.count c.args.debugger.now c.args.target.now in
    (start.0, start.1, start.2, (λ free. carry-start side.Debugger c.args.count c.args.debugger.now.end.outgoing (g.W.Way.story c.args.way.now)), (λ h. refl))

pub loop-left-preserved : goal.loop-left-preserved
loop-left-preserved g c =
    let l = c.loop-left in
    let piece : c.min-piece.result ≤ l.left = omega (arith, c.min-piece.ensures) in
    let size : length (take c.min-piece.result l.buffer) ≡ c.min-piece.result = length-take-le c.min-piece.result l.buffer (omega (arith, c.min-piece.ensures)) in
    let more = to-target-more c.args.count l.left c.min-piece.result c.args.debugger.now l.debugger c.deliver.new.from c.args.target.now l.target c.deliver.new.to piece l.invariant.0 c.requires.waiting c.requires.room l.invariant.1 l.invariant.2
    (c.deliver.ensures.taken ∙ ap (λ n. debuggers.with_taken (moved n l.debugger.end l.target.end) l.debugger) size) (c.deliver.ensures.fed ∙ ap (λ n. targets.with_fed (moved n l.debugger.end l.target.end) l.target) size) in
    let moved_is : take (c.args.count - l.left) c.args.debugger.now.end.outgoing ++ moved (length (take c.min-piece.result l.buffer)) l.debugger.end l.target.end ≡ take (c.args.count - (l.left - c.min-piece.result)) c.args.debugger.now.end.outgoing =
    ap (λ n. take (c.args.count - l.left) c.args.debugger.now.end.outgoing ++ moved n l.debugger.end l.target.end) size
    ∙ moved-more c.args.count l.left c.min-piece.result c.args.debugger.now.end l.debugger.end c.args.target.now.end l.target.end piece l.invariant.0 c.requires.waiting c.requires.room (ap (λ x. x.end) l.invariant.1) (ap (λ x. x.end) l.invariant.2) in (
      omega (arith, l.invariant.0),
      more.0,
      more.1,
      carry-more g.W.Way.has_failed g.W.Way.story side.Debugger _ _ _ c.args.way.now l.way c.deliver.new.way l.invariant.3 c.deliver.ensures.carried c.deliver.ensures.failed moved_is,
      stays-on g.W.Way.has_failed c.args.way.now l.way c.deliver.new.way l.invariant.4 c.deliver.ensures.failed,
    )

pub returns-clause-taken : goal.returns-clause-taken
returns-clause-taken g c = c.loop-left.invariant.1 ∙ ap (λ b. debuggers.with_taken b c.args.debugger.now) (all-left c.args.count c.loop-left.left c.args.debugger.now.end.outgoing c.loop-left-test.false)

pub returns-clause-fed : goal.returns-clause-fed
returns-clause-fed g c = c.loop-left.invariant.2 ∙ ap (λ b. targets.with_fed b c.args.target.now) (all-left c.args.count c.loop-left.left c.args.debugger.now.end.outgoing c.loop-left-test.false)

pub returns-clause-carried : goal.returns-clause-carried
returns-clause-carried g c =
    carry-all g.W.Way.has_failed g.W.Way.story side.Debugger c.args.count c.loop-left.left c.args.debugger.now.end.outgoing c.args.way.now c.loop-left.way (all-left c.args.count c.loop-left.left c.args.debugger.now.end.outgoing c.loop-left-test.false) c.loop-left.invariant.3
