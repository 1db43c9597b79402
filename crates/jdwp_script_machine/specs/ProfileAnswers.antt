-- What a machine answers to a command that changes nothing, in its profile.
use Rattle.std.specs.Prelude.{ℕ}
use Rattle.jdwp_layout.specs.declared.answer.Answer.{Answer}
use Rattle.jdwp_machine.specs.declared.profile.Profile.{Profile}
use Rattle.jdwp_machine.specs.declared.profile.Profile.TheVariants.{Standard, Jdi}
use Rattle.jdwp_machine.specs.declared.query.Query.{Query}
use Rattle.jdwp_script_machine.specs.States.{State}
use Rattle.jdwp_script_machine.specs.Requests.{Asks}
use Rattle.jdwp_script_machine.specs.Answers.{answer_at}
use Rattle.jdwp_script_machine.specs.InvocationAnswers.{invoking_answer_at}

abbrev pub answer_in : Profile → State → ℕ → ℕ → Asks
answer_in Standard s set number content = answer_at s set number content
answer_in Jdi s set number content = invoking_answer_at s set number content

abbrev pub answer : State → Query → Answer
answer s q = answer_in s.profile s q.set q.number q.content
