-- What is printed of the events of a run.
use Rattle.std.specs.Prelude.{◌≡◌, ℕ, List, [], ◌∷◌, ◌++◌, flat_map, Option, codes, decimal}
use Rattle.jdwp_wire.specs.Widths.{Widths}
use Rattle.jdwp_debugger.specs.declared.heads.Head.{Head}
use Rattle.jdwp_debugger.specs.declared.heads.Head.TheVariants as head
use Rattle.jdwp_debugger.specs.Debuggers.{Debugger}
use Rattle.jdwp_link.specs.declared.events.Outcome.{Outcome}
use Rattle.jdwp_link.specs.declared.events.Outcome.TheVariants as outcome
use Rattle.jdwp_end.specs.Story.{FailsWrite, Story}
use Rattle.jdwp_show.specs.declared.capture_line.Sender.TheVariants.{Target}
use Rattle.jdwp_show.specs.MessageLines.{hello_line}
use Rattle.jdwp_attach.specs.Telling.{answered_line, named, seen_line, widths_line}
use Rattle.jdwp_pair.specs.declared.ended.PairEnded.{PairEnded}
use Rattle.jdwp_pair.specs.declared.ended.PairEnded.TheVariants as ended

-- ---- messages that were read

-- A message of which nothing is told: `< hello`; a composite that waits for the widths of ids has no line; and the reply to IDSizes has them.
abbrev pub untold_line : Option Widths → Head → List ℕ
untold_line w head.Hello = hello_line Target ++ codes "\n"
untold_line w (head.Composite header) = []
untold_line w (head.Reply header set number) = widths_line w header.id

-- a message with what is told of it
abbrev pub told_line : Option Widths → Head → Outcome → List ℕ
told_line w (head.Composite header) (outcome.Seen composite) = seen_line header.id composite
told_line w (head.Reply header set number) (outcome.Answered ticket answer) = answered_line header.id (named set number) answer
told_line w other told = untold_line w other

-- the messages that a turn read, each with what is told of it, in order
abbrev pub heads_text : Option Widths → List Head → List Outcome → List ℕ
heads_text w [] told = []
heads_text w (front ∷ later) [] = untold_line w front ++ heads_text w later []
heads_text w (front ∷ later) (told ∷ others) = told_line w front told ++ heads_text w later others

-- ---- tickets that are lost

-- `lost 3`
abbrev pub lost_line : Outcome → List ℕ
lost_line (outcome.Lost ticket) = codes "lost " ++ decimal ticket.0 ++ codes "\n"
lost_line (outcome.Asked ticket) = []
lost_line (outcome.Refused refused) = []
lost_line (outcome.Answered ticket answer) = []
lost_line (outcome.Seen composite) = []

abbrev pub lost_text : List Outcome → List ℕ
lost_text told = flat_map lost_line told

-- ---- a turn

-- what is told of a turn of the debugger that read these messages: they, and the tickets that are lost with them
abbrev pub turn_text : Debugger → List Outcome → List ℕ
turn_text d told = heads_text d.sizes d.last told ++ lost_text told

-- How telling a text may end a run: where memory is wanting nothing of it was written, and where a write failed a part of it.
abbrev pub FailsToTell : List ℕ → PairEnded → Story → Story → Type 0
FailsToTell text ended.NoMemory before after = after ≡ before
FailsToTell text ended.LostByWrite before after = FailsWrite before after text
FailsToTell text ended.LostConnection before after = ⊥
FailsToTell text ended.Done before after = ⊥
FailsToTell text (ended.RefusedLine place number) before after = ⊥
FailsToTell text ended.TurnLimit before after = ⊥
FailsToTell text (ended.Standstill waits) before after = ⊥
