use Rattle.std.proofs.Common.{ℕ, List, Option}
use Rattle.jdwp_relay.specs.Captures.{writer_of}
use Rattle.jdwp_relay.specs.Relays.{IsRecorded, IsRelaying, crossing}
use Rattle.jdwp_relay.proofs.relay.Relay.run.Given as goal

abbrev pub invariant-loop : goal.invariant-loop
invariant-loop g l = record {
  relaying : IsRelaying l.fn.self (crossing g.S.Source.came g.K.Sink.went l.fn.debugger l.fn.target (g.W.Write.contents (writer_of l.fn.capture)))
      → IsRelaying l.self (crossing g.S.Source.came g.K.Sink.went l.debugger l.target (g.W.Write.contents (writer_of l.capture)));
  recorded : (start : Option (List ℕ)) → IsRelaying l.fn.self (crossing g.S.Source.came g.K.Sink.went l.fn.debugger l.fn.target (g.W.Write.contents (writer_of l.fn.capture)))
      → IsRecorded start (crossing g.S.Source.came g.K.Sink.went l.fn.debugger l.fn.target (g.W.Write.contents (writer_of l.fn.capture)))
      → IsRecorded start (crossing g.S.Source.came g.K.Sink.went l.debugger l.target (g.W.Write.contents (writer_of l.capture)));
}
