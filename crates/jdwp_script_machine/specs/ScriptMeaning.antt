-- A script as a machine.
use Rattle.jdwp_machine.specs.Meanings.{Meaning}
use Rattle.jdwp_script_machine.specs.States.{State, living, begun}
use Rattle.jdwp_script_machine.specs.Steps.{next, stepped, ended}
use Rattle.jdwp_script_machine.specs.SlotWrites.{write_answer, written}
use Rattle.jdwp_script_machine.specs.Made.{made_answer, made}
use Rattle.jdwp_script_machine.specs.ProfileAnswers.{answer}
use Rattle.jdwp_script_machine.specs.Sound.{IsSound}

abbrev pub script_meaning : Meaning State
script_meaning =
    record {
      is_state = IsSound;
      sizes = λ s. s.script.sizes;
      live = λ s. living s.threads;
      ever = λ s. begun s.threads;
      next = next;
      stepped = stepped;
      ended = ended;
      query = answer;
      write_answer = write_answer;
      written = written;
      made_answer = made_answer;
      made = made;
    }
