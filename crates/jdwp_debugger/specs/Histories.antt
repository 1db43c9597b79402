-- What a debugger knows in a session by the commands that it put and the packets that it read, one by one and in order.
use Rattle.std.specs.Prelude.{◌≡◌, ℕ, ◌+◌, Bool, false, List, [], ◌∷◌, ◌++◌, fold, map, remove, Option, Some, None, Result, Ok, Err}
use Rattle.std.specs.List.{flat_map}
use Rattle.jdwp_wire.specs.declared.packet.Header.{Header}
use Rattle.jdwp_action.specs.Actions.{Command}
use Rattle.jdwp_apart.specs.Following.{Following, put_to}
use Rattle.jdwp_debugger.specs.declared.faults.DebuggerFault.{DebuggerFault}
use Rattle.jdwp_debugger.specs.declared.order.Order.{Order}
use Rattle.jdwp_debugger.specs.declared.order.Order.TheVariants.{One, Apart}
use Rattle.jdwp_debugger.specs.declared.pending.Ticket as code
use Rattle.jdwp_debugger.specs.Debuggers.{Asked, begun_in}
use Rattle.jdwp_debugger.specs.DebuggerTurns.{command_at, followed, reports}
use Rattle.jdwp_debugger.specs.Judging.{ticket_meaning}
use Rattle.jdwp_debugger.specs.News.{News, Waits, Happens, Answers, Measures, Reading, widths_by}
use Rattle.jdwp_mirror.specs.KnownThreads.{count_in, is_held_in}
use Rattle.jdwp_mirror.specs.Messages.{Message, Reply, Report, Ticket}
use Rattle.jdwp_mirror.specs.Mirror.{Kept, learned, held_after, requests_after}
use Rattle.jdwp_mirror.specs.Mirrors.{Mirror}

-- ---- what was put and heard

-- A command is put, under its ticket, or IDSizes without one; a message is heard: the answer to a command that waits, with its ticket, or a
-- composite.
pub data Exchange : Type 0 where
  Puts : Ticket → Command → Exchange
  Hears : Message → Exchange

abbrev pub heard_in : Exchange → List Message
heard_in (Puts ticket c) = []
heard_in (Hears message) = message ∷ []

abbrev pub heard : List Exchange → List Message
heard history = flat_map heard_in history

-- ---- what is known

-- By what packets are read; how many tickets were given; what was put and heard, in order; and what is followed by that.
pub record Knowledge : Type 0 where
  pub reading : Reading
  pub tickets : ℕ
  pub history : List Exchange
  pub following : Option Following

-- before a session, and behind its end, with a target of this order, where so many tickets were given
abbrev pub nothing : Order → ℕ → Knowledge
nothing order tickets = record { reading = record { order = order; sizes = None; parked = []; pending = [] }; tickets = tickets; history = []; following = None }

-- as one begins
abbrev pub begins : Order → ℕ → Knowledge
begins order tickets = record (nothing order tickets) { following = begun_in order }

-- a command is put under an id, and waits for its reply
abbrev pub with_put : ℕ → Option code.Ticket → Command → Knowledge → Knowledge
with_put id ticket c k =
    record {
      reading = record k.reading { pending = k.reading.pending ++ record { id = id; ticket = ticket; command = c } ∷ [] };
      tickets = k.tickets;
      history = k.history ++ Puts (ticket_meaning ticket) c ∷ [];
      following = put_to (widths_by k.reading.sizes) c k.following;
    }

-- the same under the next ticket
abbrev pub with_asked : ℕ → Command → Knowledge → Knowledge
with_asked id c k = record (with_put id (Some (record { 0 = k.tickets + 1 })) c k) { tickets = k.tickets + 1 }

-- What is heard as a packet says this, where these commands wait. A composite that waits for the widths of ids is heard as they become known,
-- before the answer that tells them.
abbrev pub messages_of : News → List Asked → List Message
messages_of (Waits bytes) pending = []
messages_of (Happens c) pending = Report c ∷ []
messages_of (Answers place ticket answer) pending = Reply (Some ticket) (command_at place pending) answer ∷ []
messages_of (Measures place answer w cs) pending = reports cs ++ Reply None (command_at place pending) answer ∷ []

-- by what the packets behind one with this header are read, which says this
abbrev pub reading_after : Header → News → Reading → Reading
reading_after header (Waits bytes) r = record r { parked = r.parked ++ record { header = header; body = bytes } ∷ [] }
reading_after header (Happens c) r = r
reading_after header (Answers place ticket answer) r = record r { pending = remove r.pending place }
reading_after header (Measures place answer w cs) r = record { order = r.order; sizes = Some w; parked = []; pending = remove r.pending place }

abbrev pub with_news : Header → News → Knowledge → Knowledge
with_news header news k =
    record {
      reading = reading_after header news k.reading;
      tickets = k.tickets;
      history = k.history ++ map Hears (messages_of news k.reading.pending);
      following = followed k.reading news k.following;
    }

-- a packet with this header is read that says this; of one that is refused nothing is heard
abbrev pub with_said : Header → Result News DebuggerFault → Knowledge → Knowledge
with_said header (Ok news) k = with_news header news k
with_said header (Err fault) k = k

-- ---- the mirror, look-up by look-up

-- the count of a thread, none where it is not known, and whether it is held, behind a message more
abbrev pub standing_by : ℕ → Option ℕ × Bool → Message → Option ℕ × Bool
standing_by t before message = (learned message t before.0, held_after message t before.1 (learned message t before.0))

-- behind all of these, in order
abbrev pub standing : List Message → ℕ → Option ℕ × Bool
standing messages t = fold (standing_by t) (None, false) messages

abbrev pub requests_by : List Kept → Message → List Kept
requests_by requests message = requests_after message requests

-- a mirror has of each thread and of the requests what these messages say, one by one
pub record IsMirrorOf (messages : List Message) (m : Mirror) : Type 0 where
  pub counts : (t : ℕ) → count_in m.threads t ≡ (standing messages t).0
  pub held : (t : ℕ) → is_held_in m.threads t ≡ (standing messages t).1
  pub requests : m.requests ≡ fold requests_by [] messages

-- where counts are not known, it has of the requests what they say, and knows no thread
pub record IsMirrorApart (messages : List Message) (m : Mirror) : Type 0 where
  pub threads : m.threads ≡ []
  pub requests : m.requests ≡ fold requests_by [] messages

abbrev pub IsMirrorIn : Order → List Message → Mirror → Type 0
IsMirrorIn One messages m = IsMirrorOf messages m
IsMirrorIn Apart messages m = IsMirrorApart messages m
