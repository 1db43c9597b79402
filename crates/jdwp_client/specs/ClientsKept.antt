-- What contracts see of a client's fields.
use Rattle.std.specs.Prelude.{ℕ, List, Option}
use Rattle.jdwp_event.specs.Composites.{CompositeMeaning}
use Rattle.jdwp_layout.specs.declared.answer.Answer.{Answer}
use Rattle.jdwp_debugger.specs.declared.pending.Ticket.{Ticket}
use Rattle.jdwp_debugger.specs.Debuggers.{Debugger}
use Rattle.jdwp_client.specs.Clients.{Client}

abbrev pub client_of : {P : Type 0} → Debugger → P → List CompositeMeaning → List (Ticket × Answer) → Option Ticket → Option (List Ticket) → ℕ → Client P
client_of debugger pipe events answers sent lost most =
    record { debugger = debugger; pipe = pipe; events = events; answers = answers; sent = sent; lost = lost; most_events = most }
