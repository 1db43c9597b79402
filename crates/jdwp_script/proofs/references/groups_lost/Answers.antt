use Rattle.std.proofs.Common.{◌≡◌, ◌==◌, false, map, rules, sym, ◌∙◌}
use Rattle.jdwp_script.specs.Meanings.{group_part}
use Rattle.jdwp_script.specs.References.{nothing, groups_lost}
use Rattle.jdwp_script.proofs.Before.{groups_more}
use Rattle.jdwp_script.proofs.references.groups_lost.Goals as goal

pub loop-group-preserved : goal.loop-group-preserved
loop-group-preserved c =
    let g = c.group-item.result in
    let gs = c.args.groups.now in
    let some : (g.id.0 == 0) ≡ false = search rules in
    groups_more c.loop-group.before c.insert.new.self gs c.loop-group.group-index g (groups_lost nothing (map group_part gs)) c.loop-group-test.true c.group-item.is some (sym c.is_lost.ensures ∙ c.if-is_lost.false) c.in_ok-insert.ensures.updates c.loop-group.invariant
