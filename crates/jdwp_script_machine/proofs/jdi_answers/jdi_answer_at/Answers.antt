use Rattle.std.proofs.lemmas.Grind.{common_steps}
use Rattle.std.proofs.Common.{◌≡◌, ℕ, List, false, refl, rules, arith}
use Rattle.jdwp_layout.specs.CommandNumbers.{is_command, OBJECT_TYPE, ALL_MODULES, CLASS_MODULE, MODULE_NAME, MODULE_CLASS_LOADER, CLASS_PATHS, CONTENDED_MONITOR, OWNED_MONITORS, SOURCE_DEBUG_EXTENSION}
use Rattle.jdwp_layout.specs.Meanings.{DatumMeaning, meanings}
use Rattle.jdwp_script_machine.specs.Answers.{answer_at}
use Rattle.jdwp_script_machine.specs.JdiAnswers.{jdi_answer_at}
use Rattle.jdwp_script_machine.specs.StateMeanings.{state_now}
use Rattle.jdwp_script_machine.specs.States.{State}
use Rattle.jdwp_script_machine.proofs.Alone.{answers_asked, wants_asked}
use Rattle.jdwp_script_machine.proofs.jdi_answers.jdi_answer_at.Goals as goal

others_as_ever : (s : State) (set number : ℕ) (content : List DatumMeaning)
    → is_command OBJECT_TYPE set number ≡ false → is_command CLASS_PATHS set number ≡ false → is_command ALL_MODULES set number ≡ false → is_command CLASS_MODULE set number ≡ false
    → is_command MODULE_NAME set number ≡ false → is_command MODULE_CLASS_LOADER set number ≡ false → is_command SOURCE_DEBUG_EXTENSION set number ≡ false
    → is_command OWNED_MONITORS set number ≡ false → is_command CONTENDED_MONITOR set number ≡ false
    → jdi_answer_at s set number content ≡ answer_at s set number content
others_as_ever s set number content a b c d e f g h i = rw (a, b, c, d, e, f, g, h, i) refl

pub returns-in-9-eq1 : goal.returns-in-9-eq1
returns-in-9-eq1 c = grind (arith, common_steps)

pub returns-in-1-eq13 : goal.returns-in-1-eq13
returns-in-1-eq13 c = grind (arith, common_steps)

pub returns-in-1-eq22 : goal.returns-in-1-eq22
returns-in-1-eq22 c = grind (arith, common_steps)

pub returns-in-2-eq19 : goal.returns-in-2-eq19
returns-in-2-eq19 c = grind (arith, common_steps)

pub returns-in-2-eq12 : goal.returns-in-2-eq12
returns-in-2-eq12 c = grind (arith, common_steps)

pub returns-in-18-eq1 : goal.returns-in-18-eq1
returns-in-18-eq1 c = grind (arith, common_steps)

pub returns-in-18-eq2 : goal.returns-in-18-eq2
returns-in-18-eq2 c = grind (arith, common_steps)

pub returns-in-11-eq8 : goal.returns-in-11-eq8
returns-in-11-eq8 c = grind (arith, common_steps)

pub returns-in-11-eq9 : goal.returns-in-11-eq9
returns-in-11-eq9 c = grind (arith, common_steps)

pub returns-in_default : goal.returns-in_default
returns-in_default c =
    let type : is_command OBJECT_TYPE c.args.set c.args.number ≡ false = search rules in
    let paths : is_command CLASS_PATHS c.args.set c.args.number ≡ false = search rules in
    let modules : is_command ALL_MODULES c.args.set c.args.number ≡ false = search rules in
    let class_module : is_command CLASS_MODULE c.args.set c.args.number ≡ false = search rules in
    let name : is_command MODULE_NAME c.args.set c.args.number ≡ false = search rules in
    let loader : is_command MODULE_CLASS_LOADER c.args.set c.args.number ≡ false = search rules in
    let extension : is_command SOURCE_DEBUG_EXTENSION c.args.set c.args.number ≡ false = search rules in
    let owned : is_command OWNED_MONITORS c.args.set c.args.number ≡ false = search rules in
    let contended : is_command CONTENDED_MONITOR c.args.set c.args.number ≡ false = search rules in
    let same = others_as_ever (state_now c.args.state.now) c.args.set c.args.number (meanings c.args.content.now) type paths modules class_module name loader extension owned contended in
    record {
      value = answers_asked c.answer_at.result _ _ same c.answer_at.ensures.value;
      memory = wants_asked c.answer_at.result _ _ same c.answer_at.ensures.memory;
    }
