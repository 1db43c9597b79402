-- A debugger beside what its last turn told: what calls on it say, and what they leave.
use Rattle.std.specs.Prelude.{◌≡◌, ℕ, ◌+◌, ◌++◌, Bool, true, false, List, drop, length, map, min, nat_lt, is_some, Option, Some, None, Result, Ok, Err}
use Rattle.jdwp_wire.specs.Limits.{standard_limits}
use Rattle.jdwp_wire.specs.Widths.{Widths}
use Rattle.jdwp_debugger.specs.declared.asking.Refused.{Refused}
use Rattle.jdwp_debugger.specs.declared.asking.Refused.TheVariants as refused
use Rattle.jdwp_debugger.specs.declared.pending.Ticket.{Ticket}
use Rattle.jdwp_debugger.specs.declared.turning.Read.TheVariants as read
use Rattle.jdwp_debugger.specs.Debuggers.{Debugger, PENDING_MOST, Unanswered, attached, lost_debugger, new_debugger_in, tickets_of}
use Rattle.jdwp_debugger.specs.Holding.{at_least, is_named}
use Rattle.jdwp_debugger.specs.declared.order.Order.{Order}
use Rattle.jdwp_debugger.specs.declared.order.Order.TheVariants.{One, Apart}
use Rattle.jdwp_mirror.specs.KnownThreads.{count_in}
use Rattle.jdwp_mirror.specs.Mirror.{Kept}
use Rattle.jdwp_debugger.specs.RefusedNumbers.{refused_number}
use Rattle.milunovesk_c.specs.declared.seat.Seat.{Seat}
use Rattle.milunovesk_c.specs.declared.widths.Asked.{Asked}
use Rattle.milunovesk_c.specs.declared.widths.IdWidths.{IdWidths}
use Rattle.milunovesk_c.specs.declared.widths.Request.{Request}
use Rattle.milunovesk_c.specs.Askings.{AsksBytes, RefusesBytes}
use Rattle.milunovesk_c.specs.Numbers.{DONE, NO_ITEM, NO_MEMORY, REFUSED, SHORT_BUFFER}

-- before its first session, of a target of this order, with this id of its first packet
abbrev pub new_seat_in : Order → ℕ → Seat
new_seat_in order first = record { debugger = new_debugger_in order standard_limits first; widths = None; read = read.Nothing }

-- the same of a target that sends each packet as it acts
abbrev pub new_seat : ℕ → Seat
new_seat first = new_seat_in One first

-- ---- threads

-- whether a thread is known: by the order in which the target sends, the mirror has its count, or it was named
abbrev pub known_in : Order → Debugger → ℕ → Bool
known_in One d t = is_some (count_in d.mirror.threads t)
known_in Apart d t = is_named d t

abbrev pub is_known : Debugger → ℕ → Bool
is_known d t = known_in d.order d t

-- the greatest count that is told
abbrev pub COUNT_MOST : ℕ
COUNT_MOST = 4294967295

-- what its suspend count is no less than, as far as that is told
abbrev pub count_told : Debugger → ℕ → ℕ
count_told d t = min (at_least d t) COUNT_MOST

-- ---- sessions

abbrev pub attached_where : Bool → Debugger → Debugger
attached_where true d = attached d
attached_where false d = d

-- ---- what is told in numbers

-- all 0 where they are not known
abbrev pub widths_told : Option Widths → IdWidths
widths_told None = record { field = 0; method = 0; object = 0; reference = 0; frame = 0 }
widths_told (Some w) = record { field = w.field; method = w.method; object = w.object; reference = w.reference; frame = w.frame }

abbrev pub unanswered_told : Option Unanswered → Asked
unanswered_told None = record { ticket = 0; set = 0; number = 0 }
unanswered_told (Some u) = record { ticket = u.ticket; set = u.command.set; number = u.command.number }

abbrev pub request_told : Kept → Request
request_told k = record { id = k.id; kind = k.kind; policy = k.policy }

-- what stands at a place is told, if something does
abbrev pub TellsRequest : Option Kept → ℕ → Request → Request → Type 0
TellsRequest None result old new = (result ≡ NO_ITEM) × (new ≡ old)
TellsRequest (Some k) result old new = (result ≡ DONE) × (new ≡ request_told k)

abbrev pub numbers_of : List Ticket → List ℕ
numbers_of tickets = map (λ (t : Ticket). t.0) tickets

-- ---- a command that was asked or not

-- how it is told
abbrev pub IsToldAs : Result Ticket Refused → ℕ → ℕ → ℕ → Type 0
IsToldAs (Ok given) result ticket reason = (result ≡ DONE) × (ticket ≡ given.0) × (reason ≡ 0)
IsToldAs (Err refused.NoMemory) result ticket reason = (result ≡ NO_MEMORY) × (ticket ≡ 0) × (reason ≡ 0)
IsToldAs (Err e) result ticket reason = (result ≡ REFUSED) × (ticket ≡ 0) × (reason ≡ refused_number e)

-- The command whose data these bytes are was asked under the next ticket, or it was not, with a reason, and nothing changed.
abbrev pub AsksOrNot : ℕ → ℕ → List ℕ → Seat → Result Ticket Refused → Seat → Type 0
AsksOrNot set number bytes old (Ok given) new = (given.0 ≡ old.debugger.tickets + 1) × AsksBytes set number bytes old new
AsksOrNot set number bytes old (Err e) new = (new ≡ old) × RefusesBytes old.debugger.sizes set number bytes e old.debugger

pub record HasAskedBytes (set number : ℕ) (bytes : List ℕ) (old : Seat) (result ticket reason : ℕ) (new : Seat) : Type 0 where
  pub answer : Result Ticket Refused
  pub asked : AsksOrNot set number bytes old answer new
  pub told : IsToldAs answer result ticket reason

-- ---- a loss

-- The tickets that will never be answered are handed out, where there is room for as many as there may be; else nothing changes.
abbrev pub LosesWhere : Bool → Seat → ℕ → List ℕ → List ℕ → ℕ → Seat → Type 0
LosesWhere true s result old new count after = (result ≡ SHORT_BUFFER) × (count ≡ PENDING_MOST) × (new ≡ old) × (after ≡ s)
LosesWhere false s result old new count after =
    (result ≡ DONE) × (count ≡ length (tickets_of s.debugger.pending)) × (new ≡ numbers_of (tickets_of s.debugger.pending) ++ drop count old)
    × (after ≡ record s { debugger = lost_debugger s.debugger })

abbrev pub HasLost : Seat → ℕ → List ℕ → List ℕ → ℕ → Seat → Type 0
HasLost s result old new count after = LosesWhere (nat_lt (length old) PENDING_MOST) s result old new count after
