-- The debugger's end of a session, as contracts see it, and what each call does to it.
use Rattle.std.specs.Prelude.{◌≡◌, ◌≢◌, ℕ, zero, suc, Bool, true, false, ◌||◌, List, [], ◌∷◌, Option, Some, None, is_some}
use Rattle.std.specs.List.{AllByRecursion, AllPairs, filter_map}
use Rattle.std.specs.Borrow.{Bor}
use Rattle.jdwp_wire.specs.Handshake.{handshake_bytes}
use Rattle.jdwp_wire.specs.Streams.{NextMessage, Whole, More, Fault}
use Rattle.jdwp_wire.specs.Limits.{Limits}
use Rattle.jdwp_wire.specs.Widths.{Widths}
use Rattle.jdwp_wire.specs.declared.packet.Header.{Header}
use Rattle.jdwp_end.specs.Ends.{End}
use Rattle.jdwp_end.specs.Ends as ends
use Rattle.jdwp_action.specs.Actions.{Command}
use Rattle.jdwp_apart.specs.Following.{Following, begun}
use Rattle.jdwp_watch.specs.Ledgers.{Account, first_account}
use Rattle.jdwp_debugger.specs.declared.heads.Head.{Head}
use Rattle.jdwp_debugger.specs.declared.order.Order.{Order}
use Rattle.jdwp_debugger.specs.declared.order.Order.TheVariants.{One, Apart}
use Rattle.jdwp_debugger.specs.declared.pending.Ticket.{Ticket}
use Rattle.jdwp_mirror.specs.Messages.{id_sizes}
use Rattle.jdwp_mirror.specs.Mirrors.{Mirror, empty_mirror}

-- A composite that was read before the widths of ids were known: its header, and its data as they came.
pub record Parked : Type 0 where
  pub header : Header
  pub body : List ℕ

-- A command that waits for its reply: the id of its packet, the ticket under which it was asked, and the command. IDSizes, which a
-- debugger asks by itself, has no ticket.
pub record Asked : Type 0 where
  pub id : ℕ
  pub ticket : Option Ticket
  pub command : Command

-- In which order the target sends what it says; what both ends have; what was learned; the widths of ids, once they are known; the composites that wait for them, in the order read;
-- the commands that wait for replies, in the order asked; the id of the next packet; how many tickets were given; what the last turn
-- read, in the order in which it was learned; and what was told of the threads, where a target sends replies and composites by threads of its own,
-- as long as anybody can be told.
pub record Debugger : Type 0 where
  pub order : Order
  pub end : End
  pub mirror : Mirror
  pub sizes : Option Widths
  pub parked : List Parked
  pub pending : List Asked
  pub next_id : ℕ
  pub tickets : ℕ
  pub last : List Head
  pub ledger : Option Account

-- ---- commands that wait for replies

-- A command with the ticket under which it was asked.
pub record Unanswered : Type 0 where
  pub ticket : ℕ
  pub command : Command

-- this one, where it has a ticket, and then those after it
abbrev pub and_then : Option Ticket → Command → List Unanswered → List Unanswered
and_then None c rest = rest
and_then (Some k) c rest = record { ticket = k.0; command = c } ∷ rest

-- those that have tickets, in the order asked
abbrev pub unanswered : List Asked → List Unanswered
unanswered [] = []
unanswered (p ∷ ps) = and_then p.ticket p.command (unanswered ps)

-- the one at a place, counted from 0
abbrev pub at_place : List Unanswered → ℕ → Option Unanswered
at_place [] place = None
at_place (u ∷ us) zero = Some u
at_place (u ∷ us) (suc place) = at_place us place

abbrev pub seen_unanswered : Option (Ticket × Bor Command) → Option Unanswered
seen_unanswered None = None
seen_unanswered (Some p) = Some (record { ticket = p.0.0; command = p.1.now })

abbrev pub has_tickets : List Asked → Bool
has_tickets [] = false
has_tickets (p ∷ ps) = is_some p.ticket || has_tickets ps

-- the tickets of those that have one, in the order asked
abbrev pub tickets_of : List Asked → List Ticket
tickets_of pending = filter_map (λ (p : Asked). p.ticket) pending

-- ---- what there is to handle

-- a whole message or a fault
abbrev pub is_front : NextMessage → Bool
is_front (Whole message used) = true
is_front (Fault fault) = true
is_front More = false

-- ---- what each call does

-- what is followed as a session begins, and what is kept of it
abbrev pub begun_in : Order → Option Following
begun_in One = None
begun_in Apart = Some begun

abbrev pub first_in : Order → Option Account
first_in One = None
first_in Apart = Some first_account

-- a debugger before its first session, of a target of this order
abbrev pub new_debugger_in : Order → Limits → ℕ → Debugger
new_debugger_in order limits first =
    record { order = order; end = ends.new_end limits; mirror = empty_mirror; sizes = None; parked = []; pending = []; next_id = first; tickets = 0; last = []; ledger = None }

-- the same of a target that sends each packet as it acts
abbrev pub new_debugger : Limits → ℕ → Debugger
new_debugger limits first = new_debugger_in One limits first

-- a session begins: the handshake is to leave
abbrev pub attached : Debugger → Debugger
attached d =
    record d { end = ends.with_enqueued handshake_bytes (ends.opened_end d.end); mirror = empty_mirror; sizes = None; parked = []; pending = []; ledger = first_in d.order }

-- bytes came
abbrev pub with_fed : List ℕ → Debugger → Debugger
with_fed bytes d = record d { end = ends.with_fed bytes d.end }

-- bytes left
abbrev pub with_taken : List ℕ → Debugger → Debugger
with_taken bytes d = record d { end = ends.with_taken bytes d.end }

-- the connection is lost: the end is closed, nothing waits to leave, nothing is known, and no command waits for a reply
abbrev pub lost_debugger : Debugger → Debugger
lost_debugger d = record d { end = ends.lost_end d.end; mirror = empty_mirror; sizes = None; parked = []; pending = []; ledger = None }

-- ---- what every debugger keeps

-- the most commands that may wait for replies, whatever the limits
abbrev pub PENDING_MOST : ℕ
PENDING_MOST = 1024

-- no two commands wait under one id
abbrev pub AreDistinct : List Asked → Type 0
AreDistinct pending = AllPairs (λ (p q : Asked). p.id ≢ q.id) pending

-- what waits without a ticket is IDSizes
abbrev pub AreOwn : List Asked → Type 0
AreOwn pending = AllByRecursion (λ (p : Asked). p.ticket ≡ None → p.command ≡ id_sizes) pending

-- Before the target's handshake no command waits for a reply, no composite for the widths of ids, and the widths are not known.
abbrev pub Begins : Debugger → Type 0
Begins d = (d.pending ≡ []) × (d.parked ≡ []) × (d.sizes ≡ None)

-- IDSizes alone waits, without a ticket, or nothing
abbrev pub IsSizesAlone : List Asked → Type 0
IsSizesAlone [] = Unit {0}
IsSizesAlone (p ∷ []) = (p.ticket ≡ None) × (p.command ≡ id_sizes)
IsSizesAlone (p ∷ q ∷ ps) = ⊥
