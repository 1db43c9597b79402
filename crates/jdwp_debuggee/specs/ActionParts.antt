-- Parts of what a command asks for, by its question.
use Rattle.std.specs.Prelude.{ℕ}
use Rattle.jdwp_machine.specs.declared.query.Query.{Query}
use Rattle.jdwp_action.specs.Actions.{Command, Action, thread_action, other_action, slots_of, set_action, clear_action}
use Rattle.jdwp_action.specs.CommandReads.{with_content}
use Rattle.jdwp_debuggee.specs.Askings.{Asking, question_by}

-- the command of a question
abbrev pub command_of : Query → Command
command_of q = with_content q.set q.number q.content

abbrev pub asking_by : Action → Query → Asking
asking_by action q = record { action = action; question = question_by action q }

abbrev pub thread_asking : ℕ → Query → Asking
thread_asking t q = asking_by (thread_action t (command_of q)) q

abbrev pub other_asking : Query → Asking
other_asking q = asking_by (other_action (command_of q)) q

abbrev pub slots_asking : ℕ → Query → Asking
slots_asking t q = asking_by (slots_of t (command_of q).carried) q

abbrev pub set_asking : Query → Asking
set_asking q = asking_by (set_action (command_of q).carried) q

abbrev pub clear_asking : Query → Asking
clear_asking q = asking_by (clear_action (command_of q).carried) q
