use Rattle.std.proofs.Common.{◌≡◌, ◌++◌, map, drop}
use Rattle.std.specs.Prelude.{filter}
use Rattle.jdwp_layout.specs.Meanings.{entry_meanings}
use Rattle.jdwp_script.specs.Meanings.{script_part}
use Rattle.jdwp_script_machine.specs.StateMeanings.{thread_now}
use Rattle.jdwp_script_machine.specs.ObjectAnswers.{thread_entry}
use Rattle.jdwp_script_machine.specs.Lives.{lives_in}
use Rattle.jdwp_script_machine.proofs.group_answers.threads_below.Given as goal

abbrev pub invariant-loop-thread : goal.invariant-loop-thread
invariant-loop-thread l =
    entry_meanings l.found.items ++ map thread_entry (filter (lives_in (script_part l.state.script) l.group.0) (map thread_now (drop l.thread-index l.state.threads.items)))
    ≡ map thread_entry (filter (lives_in (script_part l.state.script) l.group.0) (map thread_now l.state.threads.items))
