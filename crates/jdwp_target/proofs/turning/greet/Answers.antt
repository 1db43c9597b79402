use Rattle.std.proofs.lemmas.Grind.{common_steps}
use Rattle.std.proofs.Common.{◌≡◌, ◌∙◌, ℕ, Some, refl, ap, subst, sym, rules, true, false, arith}
use Rattle.std.proofs.lemmas.List.{append-nil}
use Rattle.jdwp_wire.specs.Handshake.{handshake_bytes}
use Rattle.jdwp_wire.specs.Streams.{message_bytes}
use Rattle.jdwp_wire.specs.Widths.{Widths}
use Rattle.jdwp_event.specs.Composites.{CompositeMeaning, vm_start}
use Rattle.jdwp_event.specs.Constants.{policy_byte}
use Rattle.jdwp_debuggee.specs.Steps.{start_event}
use Rattle.jdwp_target.specs.Sends.{IsEncoded, report_of}
use Rattle.jdwp_target.proofs.Encoded.{policy-small, start-encoded}
use Rattle.jdwp_target.proofs.EnqueueLemmas.{two_enqueued}
use Rattle.jdwp_target.proofs.Sendable.{report-fits}
use Rattle.jdwp_target.proofs.turning.greet.Goals as goal

pub returns-in-Some-clause-end : goal.returns-in-Some-clause-end
returns-in-Some-clause-end g c =
    let old = c.args.debuggee.now in
    let off : old.moment.state.handshaken ≡ false = search rules in
    let w = g.M.Machine.meaning.sizes old.moment.machine in
    let event : CompositeMeaning = vm_start (policy_byte c.in-Some.start.policy) c.in-Some.start.thread.0 in
    let start =
    ap (λ (x : Widths). message_bytes (report_of x c.in-Some.start.packet event)) c.sizes-sizes.ensures
    ∙ (ap (λ (n : ℕ). message_bytes (report_of w n event)) c.in-Some.ensures.packet
    ∙ (ap (λ (x : CompositeMeaning). message_bytes (report_of w old.moment.state.next_packet x)) c.in-Some.ensures.says
    ∙ sym (append-nil (message_bytes (report_of w old.moment.state.next_packet (start_event old.settings old.moment.state)))))) in
    rw off (two_enqueued _ _ _ _ _ handshake_bytes _ refl start c.enqueue.ensures c.enqueue_start.ensures)

pub returns-in_default-clause-end : goal.returns-in_default-clause-end
returns-in_default-clause-end g c =
    let on : c.args.debuggee.now.moment.state.handshaken ≡ true = search rules in
    rw on c.enqueue.ensures

pub enqueue_start-requires : goal.enqueue_start-requires
enqueue_start-requires c = grind (arith, common_steps)

pub returns-in-Some-clause-encoded : goal.returns-in-Some-clause-encoded
returns-in-Some-clause-encoded g c =
    let old = c.args.debuggee.now in
    let w = g.M.Machine.meaning.sizes old.moment.machine in
    let start = c.in-Some.start in
    let sent : IsEncoded w (Some (vm_start (policy_byte start.policy) start.thread.0)) = start-encoded w (policy_byte start.policy) start.thread.0 (policy-small start.policy) c.in-Some.ensures.fits in
    λ off. subst (λ (e : CompositeMeaning). IsEncoded w (Some e)) c.in-Some.ensures.says sent

pub returns-in-Some-clause-packets : goal.returns-in-Some-clause-packets
returns-in-Some-clause-packets g c =
    let old = c.args.debuggee.now in
    let off : old.moment.state.handshaken ≡ false = search rules in
    let w = g.M.Machine.meaning.sizes old.moment.machine in
    let small = rw c.in-Some.ensures.packet at c.fits_id.ensures in
    rw off (tt, (report-fits old.settings.limits.packet w old.moment.state.next_packet (start_event old.settings old.moment.state) c.in-Some.ensures.report.within small, tt))

pub returns-in_default-clause-packets : goal.returns-in_default-clause-packets
returns-in_default-clause-packets g c =
    let on : c.args.debuggee.now.moment.state.handshaken ≡ true = search rules in
    rw on (tt, tt)

pub returns-in_default-clause-encoded : goal.returns-in_default-clause-encoded
returns-in_default-clause-encoded g c =
    let on : c.args.debuggee.now.moment.state.handshaken ≡ true = search rules in
    λ off. absurd (cc)
