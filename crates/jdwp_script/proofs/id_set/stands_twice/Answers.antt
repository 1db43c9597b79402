use Rattle.std.proofs.Common.{◌-◌, sym, ◌∙◌, arith}
use Rattle.jdwp_script.proofs.Sets.{twice_here, once_here, holds_here}
use Rattle.jdwp_script.proofs.id_set.stands_twice.Goals as goal

pub returns-then-not-branch : goal.returns-then-not-branch
returns-then-not-branch c =
    let i = c.loop-place.invariant in
    sym (twice_here c.loop-place.seen c.insert.new.self c.args.ids.now c.loop-place.place c.loop-place-test.true i.within i.holds (sym c.if-not-branch.true ∙ c.in_ok-insert.ensures.added))

pub loop-place-preserved : goal.loop-place-preserved
loop-place-preserved c =
    let i = c.loop-place.invariant in
    let le = i.within in
    record {
      within = omega arith;
      holds = holds_here c.loop-place.seen c.insert.new.self c.args.ids.now c.loop-place.place c.loop-place-test.true i.within i.holds c.in_ok-insert.ensures.updates;
      none = once_here c.loop-place.seen c.insert.new.self c.args.ids.now c.loop-place.place c.loop-place-test.true i.within i.holds (sym c.if-not-branch.false ∙ c.in_ok-insert.ensures.added) i.none;
    }
