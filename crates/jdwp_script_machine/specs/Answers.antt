-- What a machine answers to a command that changes nothing.
use Rattle.std.specs.Prelude.{ℕ, ◌==◌, if◌then◌else◌}
use Rattle.jdwp_wire.specs.ErrorCodes.{NOT_IMPLEMENTED}
use Rattle.jdwp_layout.specs.declared.answer.Answer.TheVariants.{Error}
use Rattle.jdwp_layout.specs.CommandNumbers.{VIRTUAL_MACHINE, REFERENCE_TYPE, CLASS_TYPE, METHOD, OBJECT_REFERENCE, STRING_REFERENCE, THREAD_REFERENCE, THREAD_GROUP_REFERENCE, ARRAY_REFERENCE, EVENT_REQUEST, STACK_FRAME, MODULE_REFERENCE, SET_REQUEST}
use Rattle.jdwp_script_machine.specs.States.{State}
use Rattle.jdwp_script_machine.specs.Requests.{Asks}
use Rattle.jdwp_script_machine.specs.ClassAnswers.{virtual_machine_answer, reference_type_answer, class_type_answer, method_answer}
use Rattle.jdwp_script_machine.specs.ObjectAnswers.{object_answer, string_answer, array_answer, group_answer}
use Rattle.jdwp_script_machine.specs.ModuleAnswers.{module_reference_answer}
use Rattle.jdwp_script_machine.specs.ThreadAnswers.{frames_at, thread_answer_by, stack_frame_answer_by, set_answer}

abbrev pub answer_at : State → ℕ → ℕ → Asks
answer_at s set number content =
    if set == VIRTUAL_MACHINE then virtual_machine_answer s number content else (
    if set == REFERENCE_TYPE then reference_type_answer s number content else (
    if set == CLASS_TYPE then class_type_answer s number content else (
    if set == METHOD then method_answer s number content else (
    if set == OBJECT_REFERENCE then object_answer s number content else (
    if set == STRING_REFERENCE then string_answer s number content else (
    if set == THREAD_REFERENCE then thread_answer_by s.script (frames_at s) number content else (
    if set == THREAD_GROUP_REFERENCE then group_answer s number content else (
    if set == ARRAY_REFERENCE then array_answer s number content else (
    if set == EVENT_REQUEST then (if number == SET_REQUEST.number then set_answer s.script content else Error NOT_IMPLEMENTED) else (
    if set == STACK_FRAME then stack_frame_answer_by s.script (frames_at s) number content else (
    if set == MODULE_REFERENCE then module_reference_answer s number content else
    Error NOT_IMPLEMENTED)))))))))))
