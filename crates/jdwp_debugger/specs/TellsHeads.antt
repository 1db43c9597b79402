-- What a turn tells, and the heads of the messages that it read.
use Rattle.std.specs.Prelude.{◌≡◌, ℕ, true, List, [], ◌∷◌, slice_get, Option, Some, is_some}
use Rattle.jdwp_wire.specs.Widths.{Widths}
use Rattle.jdwp_wire.specs.declared.packet.Header.{Header}
use Rattle.jdwp_event.specs.Composites.{CompositeMeaning}
use Rattle.jdwp_debugger.specs.declared.heads.Head.{Head}
use Rattle.jdwp_debugger.specs.declared.heads.Head.TheVariants as head
use Rattle.jdwp_debugger.specs.Debuggers.{Asked}
use Rattle.jdwp_debugger.specs.DebuggerTurns.{Told, Nothing, Hello, Parked, Sizes, Answered, Seen, reply_head}
use Rattle.jdwp_debugger.specs.News.{place_of}
use Rattle.jdwp_mirror.specs.Messages.{id_sizes}

-- The head of the reply to the command that waited under its id, which was asked with this ticket.
pub record HasReply (waited : List Asked) (ticket : ℕ) (heads : List Head) : Type 0 where
  pub header : Header
  pub place : ℕ
  pub asked : Asked
  pub under : place_of header.id waited ≡ Some place
  pub waits : slice_get waited place ≡ Some asked
  pub given : asked.ticket ≡ Some (record { 0 = ticket })
  pub is : heads ≡ reply_head header asked.command ∷ []

-- a head of a composite for each composite, and behind them that of the reply to IDSizes
abbrev pub HasSizes : List CompositeMeaning → List Head → Type 0
HasSizes [] heads = (header : Header) × (heads ≡ reply_head header id_sizes ∷ [])
HasSizes (c ∷ cs) heads = (header : Header) × (rest : List Head) × (heads ≡ head.Composite header ∷ rest) × HasSizes cs rest

-- What is told by the commands that waited is what was read with these heads, each in its place, and the widths of ids are known where
-- their reply is told.
abbrev pub TellsHeads : List Asked → Told → List Head → Option Widths → Type 0
TellsHeads waited Nothing heads w = heads ≡ []
TellsHeads waited Hello heads w = heads ≡ head.Hello ∷ []
TellsHeads waited Parked heads w = heads ≡ []
TellsHeads waited (Sizes cs) heads w = HasSizes cs heads × (is_some w ≡ true)
TellsHeads waited (Answered ticket answer) heads w = HasReply waited ticket heads
TellsHeads waited (Seen c) heads w = (header : Header) × (heads ≡ head.Composite header ∷ [])
