use Rattle.std.proofs.Common.{◌≡◌, ℕ, ◌^◌, ◌<◌, ◌∷◌, [], ◌≤◌, List, IfOk, length, map, rules, arith, subst}
use Rattle.std.proofs.lemmas.List.{length-map}
use Rattle.jdwp_layout.specs.declared.answer.Answer.TheVariants.{Data}
use Rattle.jdwp_layout.specs.CommandNumbers.{ALL_THREADS}
use Rattle.jdwp_layout.specs.Meanings.{DatumMeaning, Object, Many}
use Rattle.jdwp_debuggee.specs.Answers.{all_threads, bounded, rising}
use Rattle.jdwp_wire.specs.ErrorCodes.{INTERNAL}
use Rattle.jdwp_debuggee.specs.Debuggees.{Debuggee}
use Rattle.jdwp_action.specs.AnswerPackets.{EncodesAnswer}
use Rattle.jdwp_debuggee.specs.Sending.{IsSent}
use Rattle.jdwp_debuggee.specs.State.{Thread, ids}
use Rattle.jdwp_debuggee.specs.declared.reply.Reply.TheVariants as reply
use Rattle.jdwp_debuggee.specs.declared.reply.Sent.TheVariants as sent
use Rattle.jdwp_debuggee.proofs.ThreadsListed.{length-rising, live-fit, threads-too-long, threads-writable, too-long-sent}
use Rattle.jdwp_debuggee.proofs.debuggee.Debuggee.ask_all_threads.Goals as goal

abbrev listed : List ℕ → List DatumMeaning
listed ns = Many (map (λ (t : ℕ). Object t ∷ []) ns) ∷ []

pub returns-then-len-packet-clause-value : goal.returns-then-len-packet-clause-value
returns-then-len-packet-clause-value g c =
    let m = g.M.Machine.meaning in
    let d = c.self.inside in
    let one = (g.met.M.Machine.lawful.sizes_are_widths d.machine c.self.invariant.sound.state).object_is in
    let count = length-rising (ids d.threads.list) in
    let same = length-map d.threads.list (λ (entry : Thread). entry.id) in
    let packet = rw c.limits.ensures at c.packet.ensures.value in
    let long : d.settings.limits.packet < length (rising (ids d.threads.list)) = omega (arith, count, same, packet, c.len.ensures, c.if-len-packet.true) in
    let short : 1 ≤ (m.sizes d.machine).object = omega (arith, one) in
    let told = too-long-sent d.settings (m.sizes d.machine) (listed (rising (ids d.threads.list))) (threads-too-long d.settings (m.sizes d.machine) (rising (ids d.threads.list)) short long) in
    subst (λ (x : Debuggee g.row.M.Denot). IsSent (m.sizes x.moment.machine) (bounded x.settings (m.sizes x.moment.machine) (all_threads x.moment.state)) (sent.Short (reply.Refused INTERNAL))) c.self.view_is told

pub sent-requires : goal.sent-requires
sent-requires g c =
    let m = g.M.Machine.meaning in
    let d = c.self.inside in
    let content : c.in_ok-listed.field-0 ≡ listed (rising (ids d.threads.list)) = search rules in
    let count = length-rising (ids d.threads.list) in
    let same = length-map d.threads.list (λ (entry : Thread). entry.id) in
    let few : length (rising (ids d.threads.list)) < 2 ^ 31 = omega (arith, count, same, c.packet.ensures.within, c.len.ensures, c.if-len-packet.false) in
    rw (c.sizes-sizes.ensures, content) (threads-writable (m.sizes d.machine) (rising (ids d.threads.list)) few (live-fit m g.met.M.Machine.lawful d.settings _ c.self.invariant.sound))

pub returns-clause-value : goal.returns-clause-value
returns-clause-value g c =
    let m = g.M.Machine.meaning in
    let d = c.self.inside in
    let content : c.in_ok-listed.field-0 ≡ listed (rising (ids d.threads.list)) = search rules in
    subst (λ (x : Debuggee g.row.M.Denot). IfOk c.sent.result (λ y. IsSent (m.sizes x.moment.machine) (bounded x.settings (m.sizes x.moment.machine) (all_threads x.moment.state)) y)) c.self.view_is (rw (c.sizes-sizes.ensures, content) at c.sent.ensures.value)

pub returns-then-len-packet-clause-encoded : goal.returns-then-len-packet-clause-encoded
returns-then-len-packet-clause-encoded g c =
    let m = g.M.Machine.meaning in
    let d = c.self.inside in
    let one = (g.met.M.Machine.lawful.sizes_are_widths d.machine c.self.invariant.sound.state).object_is in
    let count = length-rising (ids d.threads.list) in
    let same = length-map d.threads.list (λ (entry : Thread). entry.id) in
    let packet = rw c.limits.ensures at c.packet.ensures.value in
    let long : d.settings.limits.packet < length (rising (ids d.threads.list)) = omega (arith, count, same, packet, c.len.ensures, c.if-len-packet.true) in
    let short : 1 ≤ (m.sizes d.machine).object = omega (arith, one) in
    let told : EncodesAnswer (m.sizes d.machine) ALL_THREADS.set ALL_THREADS.number (bounded d.settings (m.sizes d.machine) (Data (listed (rising (ids d.threads.list))))) =
    rw (threads-too-long d.settings (m.sizes d.machine) (rising (ids d.threads.list)) short long) (omega arith) in
    subst (λ (x : Debuggee g.row.M.Denot). EncodesAnswer (m.sizes x.moment.machine) ALL_THREADS.set ALL_THREADS.number (bounded x.settings (m.sizes x.moment.machine) (all_threads x.moment.state))) c.self.view_is told

pub returns-clause-encoded : goal.returns-clause-encoded
returns-clause-encoded g c =
    let m = g.M.Machine.meaning in
    let d = c.self.inside in
    let content : c.in_ok-listed.field-0 ≡ listed (rising (ids d.threads.list)) = search rules in
    subst (λ (x : Debuggee g.row.M.Denot). IfOk c.sent.result (λ y. EncodesAnswer (m.sizes x.moment.machine) ALL_THREADS.set ALL_THREADS.number (bounded x.settings (m.sizes x.moment.machine) (all_threads x.moment.state)))) c.self.view_is
    (rw (c.sizes-sizes.ensures, content) at c.sent.ensures.encoded)
