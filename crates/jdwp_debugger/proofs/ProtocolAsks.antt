-- Questions in the protocol's words.
use Rattle.std.proofs.Common.{◌≡◌, ◌∙◌, ℕ, ◌+◌, [], ◌∷◌, ◌++◌, Some, None, Result, Ok, Err, IfErr, IfOk, sym, ap, refl}
use Rattle.std.specs.Prelude.{OnErr, OnOk}
use Rattle.jdwp_action.specs.Actions.{Command}
use Rattle.jdwp_debugger.specs.declared.asking.Refused.{Refused}
use Rattle.jdwp_debugger.specs.declared.pending.Ticket.{Ticket}
use Rattle.jdwp_debugger.specs.Asking.{HasAsked, IsRefusal, command_header, refusal_of_ask}
use Rattle.jdwp_debugger.specs.Debuggers.{Debugger}
use Rattle.jdwp_debugger.specs.Protocol.{PutsPacket, WaitsUnder}

-- what asking ensures, whatever it answers
abbrev pub Asks : Command → Debugger → Debugger → Result Ticket Refused → Type 0
Asks command old new result =
    IfOk result (λ ticket. (refusal_of_ask old command ≡ None) × (ticket.0 ≡ old.tickets + 1) × HasAsked command old new)
    × IfErr result (λ e. (new ≡ old) × IsRefusal e (refusal_of_ask old command))

puts-packet : (command : Command) (old new : Debugger) → HasAsked command old new → PutsPacket command old new
puts-packet command old new h = record {
  widths = h.widths;
  known = h.known;
  header = command_header h.widths h.id command;
  put = ap (λ (d : Debugger). d.end.outgoing) h.is;
  kind = refl;
  length = refl;
  next = h.next;
}

pub asked-packet : (command : Command) (old new : Debugger) (result : Result Ticket Refused) → Asks command old new result → OnOk result (PutsPacket command old new)
asked-packet command old new (Ok ticket) asks = puts-packet command old new asks.0.2
asked-packet command old new (Err e) asks = tt

pub asked-waits : (command : Command) (old new : Debugger) (result : Result Ticket Refused) → Asks command old new result → IfOk result (λ ticket. WaitsUnder ticket.0 command old new)
asked-waits command old new (Ok ticket) asks =
    let h = asks.0.2 in
    record {
      id = h.id;
      waits = ap (λ (d : Debugger). d.pending) h.is ∙ ap (λ (n : ℕ). old.pending ++ record { id = h.id; ticket = Some (record { 0 = n }); command = command } ∷ []) (sym asks.0.1);
    }
asked-waits command old new (Err e) asks = tt

pub asked-mirror : (command : Command) (old new : Debugger) (result : Result Ticket Refused) → Asks command old new result → new.mirror ≡ old.mirror
asked-mirror command old new (Ok ticket) asks = ap (λ (d : Debugger). d.mirror) asks.0.2.is
asked-mirror command old new (Err e) asks = ap (λ (d : Debugger). d.mirror) asks.1.0

pub asked-refused : (command : Command) (old new : Debugger) (result : Result Ticket Refused) → Asks command old new result → OnErr result (new ≡ old)
asked-refused command old new (Ok ticket) asks = tt
asked-refused command old new (Err e) asks = asks.1.0
