use Rattle.std.proofs.Common.{◌≡◌, ◌==◌, false, map, rules, sym, ap, ◌∙◌}
use Rattle.jdwp_script.specs.Meanings.{class_part}
use Rattle.jdwp_script.specs.References.{nothing, types_lost}
use Rattle.jdwp_script.proofs.Before.{lacks, types_more}
use Rattle.jdwp_script.proofs.references.types_lost.Goals as goal

pub loop-class-preserved : goal.loop-class-preserved
loop-class-preserved c =
    let t = c.class-item.result in
    let cs = c.args.classes.now in
    let some : (t.id.0 == 0) ≡ false = search rules in
    let all : lacks c.loop-class.before t.interfaces.items ≡ false = ap (lacks c.loop-class.before) (sym c.deref.ensures.value) ∙ sym c.has_bad.ensures ∙ c.if-has_bad.false in
    types_more c.loop-class.before c.insert.new.self cs c.loop-class.class-index t (types_lost nothing (map class_part cs)) c.loop-class-test.true c.class-item.is some (sym c.is_lost.ensures ∙ c.if-is_lost.false) all c.in_ok-insert.ensures.updates c.loop-class.invariant
