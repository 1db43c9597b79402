use Rattle.std.proofs.lemmas.Grind.{common_steps}
use Rattle.std.proofs.Common.{◌<◌, length, sym, ◌∙◌, arith}
use Rattle.jdwp_debuggee.specs.RefusalParts.{moment_of}
use Rattle.jdwp_debuggee.proofs.Refused.{passed_one, asked_later, not_some, refused_first}
use Rattle.jdwp_debuggee.proofs.refusals.modifiers_refusal.Goals as goal

pub loop-modifier-preserved : goal.loop-modifier-preserved
loop-modifier-preserved g c =
    let within : c.loop-modifier.modifier-index < length c.args.modifiers.now = c.loop-modifier-test.true in
    let none = sym c.in_ok-refusal.ensures.value ∙ not_some _ (sym c.is_some.ensures ∙ c.if-is_some.false) in
    record {
      same =
          sym (passed_one g.M.Machine.meaning (moment_of c.args.threads.now.list c.args.machine.now) c.args.byte c.args.modifiers.now c.loop-modifier.modifier-index c.modifier-item.result within c.modifier-item.is none)
          ∙ c.loop-modifier.invariant.same;
      left = λ later. c.loop-modifier.invariant.left (asked_later c.args.modifiers.now c.loop-modifier.modifier-index c.modifier-item.result within c.modifier-item.is later);
    }

pub returns-in_err-refusal : goal.returns-in_err-refusal
returns-in_err-refusal c = grind (arith, common_steps)

pub returns-then-is_some-clause-value : goal.returns-then-is_some-clause-value
returns-then-is_some-clause-value g c =
    refused_first g.M.Machine.meaning (moment_of c.args.threads.now.list c.args.machine.now) c.args.byte c.args.modifiers.now c.loop-modifier.modifier-index c.modifier-item.result _ c.args.next c.loop-modifier-test.true c.modifier-item.is
    c.in_ok-refusal.ensures.value (sym c.is_some.ensures ∙ c.if-is_some.true) c.loop-modifier.invariant.same

pub returns : goal.returns
returns c = grind (arith, common_steps)
