use Rattle.std.proofs.Common.{◌≡◌, ◌∙◌, ◌≤◌, ◌+◌, ◌++◌, List, [], ◌∷◌, length, drop, ap, arith}
use Rattle.std.proofs.lemmas.List.{length-append}
use Rattle.jdwp_debugger.specs.declared.pending.Ticket.{Ticket}
use Rattle.jdwp_debugger.specs.Debuggers.{tickets_of}
use Rattle.jdwp_debugger.specs.PendingKept.{asked_of}
use Rattle.jdwp_debugger.proofs.Losing.{given, without}
use Rattle.jdwp_debugger.proofs.lost.Lost.of.Goals as goal
use Rattle.jdwp_debugger.proofs.lost.Lost.of.Goals.{in-Some, in_default}

pub loop-place-preserved : goal.loop-place-preserved
loop-place-preserved c =
    let ps = c.args.pending.now in
    let i = c.loop-place.place in
    let p = asked_of (c.at.result.0, c.at.result.1.now) in
    let so_far : c.match-asked.lost ++ tickets_of (drop (i + 1) ps) ≡ tickets_of ps = elim c.match-asked.branch [
      | in-Some w ↦
          ap (λ (ks : List Ticket). ks ++ tickets_of (drop (i + 1) ps)) (w.lost-is ∙ w.push.ensures)
          ∙ given ps i p c.at.ensures w.in-Some.ticket c.loop-place.lost w.in-Some.is c.loop-place.invariant.so_far
      | in_default w ↦
          ap (λ (ks : List Ticket). ks ++ tickets_of (drop (i + 1) ps)) w.lost-is
          ∙ without ps i p c.at.ensures c.loop-place.lost w.in_default.is c.loop-place.invariant.so_far
    ] in
    let few : length c.match-asked.lost ≤ i + 1 = elim c.match-asked.branch [
      | in-Some w ↦
          omega (arith, ap (λ (ks : List Ticket). length ks) (w.lost-is ∙ w.push.ensures), length-append c.loop-place.lost (w.in-Some.ticket ∷ []), c.loop-place.invariant.few)
      | in_default w ↦ omega (arith, ap (λ (ks : List Ticket). length ks) w.lost-is, c.loop-place.invariant.few)
    ] in
    record { so_far = so_far; few = few }
