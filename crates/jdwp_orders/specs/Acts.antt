-- What a target does that sends each packet as it acts, as events of one whose replies and composites are sent by threads of their own.
use Rattle.std.specs.Prelude.{ℕ, List, [], ◌∷◌, ◌++◌}
use Rattle.jdwp_layout.specs.declared.answer.Answer.{Answer}
use Rattle.jdwp_action.specs.Actions.{Command}
use Rattle.jdwp_apart.specs.Messages.{Composite}
use Rattle.jdwp_apart.specs.World as apart

pub data Act : Type 0 where
  -- the debugger asks a command, or reads what was sent first
  Asks : Command → Act
  Reads : Act
  -- the target carries out the next command, and sends its reply
  Replies : Answer → Act
  -- what a composite tells takes effect, and the composite is sent
  Reports : Composite → Act
  -- a thread begins, which is not suspended, or ends
  Begins : ℕ → Act
  Ends : ℕ → Act

abbrev pub events_of : Act → List apart.Event
events_of (Asks c) = apart.Asks c ∷ []
events_of Reads = apart.Reads ∷ []
events_of (Replies answer) = apart.CarriesOut answer ∷ apart.SendsReply ∷ []
events_of (Reports s) = apart.Stops s ∷ apart.SendsComposite ∷ []
events_of (Begins t) = apart.Begins t 0 ∷ []
events_of (Ends t) = apart.Ends t ∷ []

abbrev pub in_one_order : List Act → List apart.Event
in_one_order [] = []
in_one_order (a ∷ acts) = events_of a ++ in_one_order acts
