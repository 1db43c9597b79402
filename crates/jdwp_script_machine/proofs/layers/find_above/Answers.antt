use Rattle.jdwp_script.specs.Meanings.{class_part, script_part}
use Rattle.jdwp_script_machine.specs.Layers.{Gains, is_in}
use Rattle.jdwp_script_machine.proofs.Reaches.{above_found}
use Rattle.jdwp_script_machine.proofs.layers.find_above.Goals as goal

pub returns-in_ok-find_each-in-Some-clause-found : goal.returns-in_ok-find_each-in-Some-clause-found
returns-in_ok-find_each-in-Some-clause-found c =
    let class = class_part c.in-Some.class.now in
    let there = rw c.deref.ensures.value at c.in-Some.ensures in
    let each : Gains c.find.new.found c.find_each.new.found (is_in class.interfaces) = rw c.deref-in-Some.ensures.value at c.in_ok-find_each-in-Some.ensures.found in
    above_found (script_part c.args.script.now) c.args.id class c.args.found.now c.find.new.found c.find_each.new.found there c.in_ok-find-in-Some.ensures.found each

pub returns-in_ok-find_each-in-Some-clause-listed : goal.returns-in_ok-find_each-in-Some-clause-listed
returns-in_ok-find_each-in-Some-clause-listed c before first = c.in_ok-find_each-in-Some.ensures.listed before (c.in_ok-find-in-Some.ensures.listed before first)
