-- What lines of a plan wait for: the answers to commands, and composites.
use Rattle.std.specs.Prelude.{◌≡◌, ◌≢◌, ◌⊎◌, ℕ, ◌<◌, ◌≤◌, ◌+◌, ◌^◌, Bool, true, false, List, [], ◌∷◌, ◌++◌, length, count_by, None, is_some}
use Rattle.jdwp_wire.specs.Streams.{Message, Handshake, Packet, IsConversation, stream}
use Rattle.jdwp_wire.specs.declared.packet.PacketKind.{PacketKind}
use Rattle.jdwp_wire.specs.declared.packet.PacketKind.TheVariants as kind
use Rattle.jdwp_layout.specs.CommandNumbers.{COMPOSITE, is_command}
use Rattle.jdwp_end.specs.declared.phase.Phase.TheVariants.{AwaitingHandshake, Established}
use Rattle.jdwp_debugger.specs.Debuggers.{Debugger, has_tickets}
use Rattle.jdwp_debugger.specs.DebuggerTurns.{Told, Sizes, Seen}
use Rattle.jdwp_attach.specs.declared.plans.plan_line.PlanLine.{PlanLine}
use Rattle.jdwp_attach.specs.declared.plans.plan_line.PlanLine.TheVariants as line

-- ---- composites among messages

abbrev pub is_composite_kind : PacketKind → Bool
is_composite_kind (kind.Command set number) = is_command COMPOSITE set number
is_composite_kind (kind.Reply error) = false

-- a packet that carries a composite
abbrev pub is_composite : Message → Bool
is_composite Handshake = false
is_composite (Packet header body) = is_composite_kind header.kind

-- these messages were handled in the session
abbrev pub HasHandled : List Message → Debugger → Type 0
HasHandled messages d = IsConversation d.end.limits.packet messages × (d.end.session.handled ≡ stream messages)

-- so many of the messages handled in the session carry a composite, or more
abbrev pub HandlesComposites : ℕ → Debugger → Type 0
HandlesComposites count d = (messages : List Message) × HasHandled messages d × (count ≤ count_by is_composite messages)

-- fewer of them do
abbrev pub HandlesFewer : ℕ → Debugger → Type 0
HandlesFewer count d = (messages : List Message) × HasHandled messages d × (count_by is_composite messages < count)

-- ---- what a line waits for

-- no command waits for its reply; so many composites were handled, those that wait for the widths of ids among them; other lines wait for
-- nothing, but those of `pair` alone, which are never passed
abbrev pub IsThere : PlanLine → Debugger → Type 0
IsThere line.Answers d = has_tickets d.pending ≡ false
IsThere (line.Events count) d = HandlesComposites count d
IsThere line.LoseTarget d = ⊥
IsThere line.LoseDebugger d = ⊥
IsThere line.Attach d = ⊥
IsThere other d = Unit {0}

-- what a line waits for is not there: other lines wait for nothing
abbrev pub IsMissing : PlanLine → Debugger → Type 0
IsMissing line.Answers d = has_tickets d.pending ≡ true
IsMissing (line.Events count) d = HandlesFewer count d
IsMissing other d = ⊥

-- the line behind those that were carried out
abbrev pub IsNextLine : PlanLine → List PlanLine → List PlanLine → Type 0
IsNextLine line plan done = (rest : List PlanLine) × (plan ≡ done ++ line ∷ rest)

-- A run of a plan turns, behind these lines of it, for the widths of ids, where they are not known; for what the next line waits for, where
-- that is not there; and behind the last line for the answers to what was asked.
abbrev pub Awaits : List PlanLine → List PlanLine → Debugger → Type 0
Awaits plan done d =
    (d.sizes ≡ None)
    ⊎ (((line : PlanLine) × IsNextLine line plan done × IsMissing line d) ⊎ ((plan ≡ done) × (has_tickets d.pending ≡ true)))

-- ---- what a run counts

-- how many composites a turn told of
abbrev pub composites_of : Told → ℕ
composites_of (Sizes composites) = length composites
composites_of (Seen composite) = 1
composites_of other = 0

-- So many composites were told of, and with those that wait for the widths of ids they are as many as were handled. None waits where the
-- widths are known, and one more for each turn that is left can be counted.
pub record Counts (count left : ℕ) (d : Debugger) : Type 0 where
  pub messages : List Message
  pub handled : HasHandled messages d
  pub awaiting : d.end.phase ≡ AwaitingHandshake → messages ≡ []
  pub established : d.end.phase ≡ Established → messages ≢ []
  pub counted : count + length d.parked ≡ count_by is_composite messages
  pub none_wait : is_some d.sizes ≡ true → d.parked ≡ []
  pub most : count + length d.parked + left < 2 ^ 64
