-- no message is refused: what the debugger's faults would be
use Rattle.std.proofs.Common.{◌≡◌, ℕ, Bool, true, false, not, Option, Some, None, List, ◌∷◌, refl, sym, ◌∙◌, ap, subst, arith}
use Rattle.jdwp_wire.specs.Streams as streams
use Rattle.jdwp_wire.specs.Widths.{AreWidths, Widths}
use Rattle.jdwp_end.specs.declared.phase.Phase.{Phase}
use Rattle.jdwp_end.specs.declared.phase.Phase.TheVariants.{AwaitingHandshake, Established}
use Rattle.jdwp_end.specs.Ends.{is_established_phase, is_open, is_open_phase}
use Rattle.jdwp_event.specs.Composites.{CompositeMeaning}
use Rattle.jdwp_layout.specs.declared.answer.Answer.{Answer}
use Rattle.jdwp_machine.specs.Meanings.{Meaning}
use Rattle.jdwp_action.specs.Actions.{Command}
use Rattle.jdwp_action.specs.AnswerPackets.{EncodesAnswer, answer_bytes, error_of}
use Rattle.jdwp_debuggee.specs.Settings.{Settings}
use Rattle.jdwp_debuggee.specs.State.{Moment}
use Rattle.jdwp_mirror.specs.Faults.{fault_of, has_bad_event, is_bad_reply, is_waited_for, or_else, when}
use Rattle.jdwp_mirror.specs.Faults as faults
use Rattle.jdwp_mirror.specs.KnownThreads.{count_in}
use Rattle.jdwp_mirror.specs.Messages.{Ticket, Message, Handshake, Reply, Report, id_sizes}
use Rattle.jdwp_mirror.specs.Widths.{widths_in}
use Rattle.jdwp_debugger.specs.Debuggers.{AreOwn, Debugger, IsSizesAlone}
use Rattle.jdwp_debugger.specs.Orders.{has_bad_in, is_bad_in, none_known}
use Rattle.jdwp_debugger.specs.DebuggerTurns.{bad_where, reading_of, refusal, refusal_by, reports}
use Rattle.jdwp_debugger.specs.News.{answer_in, widths_by}
use Rattle.jdwp_model.specs.Next.{messages_of, reader}
use Rattle.jdwp_model.specs.Seen.{mirror_count}
use Rattle.jdwp_model.specs.World.{is_closed, Packet, World}
use Rattle.jdwp_link.specs.Insides.{DebuggerKeeps}
use Rattle.jdwp_link.specs.Laws.{Laws}
use Rattle.jdwp_link.specs.Links.{Link}
use Rattle.jdwp_link.specs.Stands.{Parts}
use Rattle.jdwp_link.specs.Wires.{PacketWire, ArePackets, HaveTickets, message_sent}
use Rattle.jdwp_link.proofs.Finding.{HasMessage, is_read_in, fair-place}
use Rattle.jdwp_link.proofs.Learning.{same-judged}
use Rattle.jdwp_link.proofs.Reached.{Known}
use Rattle.jdwp_link.proofs.Reading.{alone-none, fair-parked, fair-ready, fair-reply, has-at, is-replied, known-sizes, no-way, own-at, ready-some, ticket-none, ticket-some, unknown-sizes, widths-known}
use Rattle.jdwp_link.proofs.Saying.{parked-are, parked-length, says-answer, says-event, says-parked, says-sizes}

-- a packet that is not refused
abbrev pub IsUnrefused : Debugger → streams.Message → Type 0
IsUnrefused d streams.Handshake = Unit {0}
IsUnrefused d (streams.Packet header body) = refusal d header body ≡ None

report-unrefused : {S : Type 0} (m : Meaning S) (settings : Settings) (w : Widths) (l : Link S) (x : World S) (id : ℕ) (c : CompositeMeaning) (a : Moment S) (rest : List (PacketWire S)) (ready : Bool) → Laws m → (s : Parts m settings w l x)
    → s.from.wires ≡ (id, (Report c, a)) ∷ rest → is_closed x.debugger ≡ false → x.debugger ≡ Established → x.ready ≡ ready → fault_of (reader x) (Report c) ≡ None
    → IsUnrefused l.debugger (message_sent w id (Report c))
report-unrefused m settings w l x id c a rest false laws s first o phase ready fair =
    let d = l.debugger in
    let unshut = s.debugger.opened o in
    let size = parked-length w d.parked x.parked unshut.parked in
    let few = fair-parked _ x.ready (messages_of x.parked) x.pending (mirror_count x.read) c (ap is_established_phase phase) ready fair in
    ap (refusal_by d.order d.mirror) (says-parked (reading_of d) id _ (unknown-sizes w x.ready d.sizes unshut.sizes ready) (omega (size, few, arith)))
report-unrefused m settings w l x id c a rest true laws s first o phase ready fair =
    let d = l.debugger in
    let unshut = s.debugger.opened o in
    let can = (subst (ArePackets w settings.limits.packet) first s.from.sent).0.1 in
    let good = fair-ready _ x.ready (messages_of x.parked) x.pending (mirror_count x.read) c (ap is_established_phase phase) ready fair in
    ap (refusal_by d.order d.mirror) (says-event (reading_of d) w id c _ (known-sizes w x.ready d.sizes unshut.sizes ready) (laws.reads.reported w c _ can))
    ∙ ap bad_where (ap (λ q. is_bad_in q (count_in d.mirror.threads) c) s.debugger.order ∙ (same-judged d.mirror x.read c s.debugger.mirror ∙ good))

answer-unrefused : {S : Type 0} (m : Meaning S) (settings : Settings) (w : Widths) (l : Link S) (x : World S) (id k : ℕ) (c : Command) (answer : Answer) (a : Moment S) (rest : List (PacketWire S)) → Laws m → Known m settings x → DebuggerKeeps l.debugger → (s : Parts m settings w l x)
    → s.from.wires ≡ (id, (Reply (Some k) c answer, a)) ∷ rest → is_closed x.debugger ≡ false → x.debugger ≡ Established → fault_of (reader x) (Reply (Some k) c answer) ≡ None
    → IsUnrefused l.debugger (message_sent w id (Reply (Some k) c answer))
answer-unrefused m settings w l x id k c answer a rest laws known keeps s first o phase fair =
    let d = l.debugger in
    let unshut = s.debugger.opened o in
    let can = (subst (ArePackets w settings.limits.packet) first s.from.sent).0.1 in
    let f = (is-replied m settings w l x id (Some k) c answer a rest known s first o).at in
    let is-open : is_open d.end ≡ true = ap is_open_phase (s.debugger.phase ∙ phase) in
    let ready : x.ready ≡ true = ready-some w d.sizes x.ready unshut.sizes (λ none. alone-none f.before f.behind f.asked k f.has_ticket (subst IsSizesAlone f.split (keeps.alone is-open none))) in
    let sizes = known-sizes w x.ready d.sizes unshut.sizes ready in
    let good = fair-reply _ x.ready (messages_of x.parked) x.pending (mirror_count x.read) (Some k) c answer (ap is_established_phase phase) fair in
    let reads-it : answer_in (widths_by d.sizes) c (error_of answer) (answer_bytes w answer) ≡ Some answer = ap (λ v. answer_in v c (error_of answer) (answer_bytes w answer)) (widths-known w d.sizes sizes) ∙ laws.reads.answered w c answer can.0 in
    ap (refusal_by d.order d.mirror) (says-answer (reading_of d) w id k c answer keeps.distinct f reads-it good)

-- what waited is not refused
fair-waited : (greeted ready : Bool) (parked : List Message) (pending : List (Ticket × Command)) (counts : ℕ → Option ℕ) (k : Ticket) (c : Command) (answer : Answer) → greeted ≡ true
    → fault_of (record { greeted = greeted; ready = ready; parked = parked; pending = pending; counts = counts }) (Reply k c answer) ≡ None → has_bad_event counts parked ≡ false
fair-waited true ready parked pending counts k c answer g h =
    elim (is_waited_for k pending) as (λ b. or_else (when (not b) faults.UnknownReply) (or_else (when (is_bad_reply c answer) faults.BadReply) (when (has_bad_event counts parked) faults.BadEvent)) ≡ None → has_bad_event counts parked ≡ false) [
      | true ↦ λ e. elim (is_bad_reply c answer) as (λ b. or_else (when b faults.BadReply) (when (has_bad_event counts parked) faults.BadEvent) ≡ None → has_bad_event counts parked ≡ false) [
        | true ↦ λ f. absurd (cc)
        | false ↦ λ f. elim (has_bad_event counts parked) as (λ b. when b faults.BadEvent ≡ None → b ≡ false) [ true ↦ λ g. absurd (cc) | false ↦ λ g. refl ] f
      ] e
      | false ↦ λ e. absurd (cc)
    ] h
fair-waited false ready parked pending counts k c answer g h = absurd (cc)

sizes-unrefused : {S : Type 0} (m : Meaning S) (settings : Settings) (w : Widths) (l : Link S) (x : World S) (id : ℕ) (c : Command) (answer : Answer) (a : Moment S) (rest : List (PacketWire S)) → Laws m → Known m settings x → DebuggerKeeps l.debugger → (s : Parts m settings w l x)
    → s.from.wires ≡ (id, (Reply None c answer, a)) ∷ rest → is_closed x.debugger ≡ false → x.debugger ≡ Established → fault_of (reader x) (Reply None c answer) ≡ None
    → IsUnrefused l.debugger (message_sent w id (Reply None c answer))
sizes-unrefused m settings w l x id c answer a rest laws known keeps s first o phase fair =
    let d = l.debugger in
    let unshut = s.debugger.opened o in
    let can = (subst (ArePackets w settings.limits.packet) first s.from.sent).0.1 in
    let f = (is-replied m settings w l x id None c answer a rest known s first o).at in
    let unready-still : x.ready ≡ false = no-way x.ready (λ h. ticket-some f.asked.ticket f.has_ticket (has-at f.before f.behind f.asked (subst HaveTickets f.split (unshut.ticketed h)))) in
    let none = unknown-sizes w x.ready d.sizes unshut.sizes unready-still in
    let own : c ≡ id_sizes = sym f.is_command ∙ own-at f.before f.behind f.asked (subst AreOwn f.split keeps.own) (ticket-none f.asked.ticket f.has_ticket) in
    let good = fair-reply _ x.ready (messages_of x.parked) x.pending (mirror_count x.read) None c answer (ap is_established_phase phase) fair in
    let encodes : EncodesAnswer w id_sizes.set id_sizes.number answer = subst (λ (q : Command). EncodesAnswer w q.set q.number answer) own can.0 in
    let reads-it : answer_in (widths_by d.sizes) c (error_of answer) (answer_bytes w answer) ≡ Some answer = ap (λ q. answer_in (widths_by d.sizes) q (error_of answer) (answer_bytes w answer)) own ∙ laws.reads.sizes (widths_by d.sizes) w answer encodes in
    let widths : AreWidths w.field w.method w.object w.reference w.frame = subst (λ (v : Widths). AreWidths v.field v.method v.object v.reference v.frame) s.target.sizes known.widths in
    let told-widths = ap widths_in can.1 ∙ laws.reads.widths w widths in
    let waited = parked-are w d.parked x.parked unshut.parked in
    let nothing : mirror_count x.read ≡ none_known = (λ i t. (sym (s.debugger.mirror.counts t) ∙ ap (λ q. count_in q.threads t) (keeps.unlearned none)) i) in
    let bad : has_bad_event none_known (reports waited.composites) ≡ false =
    ap (has_bad_event none_known) waited.messages ∙ (ap (λ f. has_bad_event f (messages_of x.parked)) (sym nothing) ∙ fair-waited _ x.ready (messages_of x.parked) x.pending (mirror_count x.read) None c answer (ap is_established_phase phase) fair) in
    ap (refusal_by d.order d.mirror) (says-sizes (reading_of d) w id c answer waited.composites keeps.distinct f reads-it good told-widths waited.read)
    ∙ ap bad_where (ap (λ q. has_bad_in q none_known (reports waited.composites)) s.debugger.order ∙ bad)

unrefused-by : {S : Type 0} (m : Meaning S) (settings : Settings) (w : Widths) (l : Link S) (x : World S) (id : ℕ) (phase : Phase) (p : Packet S) (rest : List (PacketWire S)) → Laws m → Known m settings x → DebuggerKeeps l.debugger → (s : Parts m settings w l x)
    → s.from.wires ≡ (id, p) ∷ rest → is_closed x.debugger ≡ false → x.debugger ≡ phase → is_read_in phase p.0 ≡ true → fault_of (reader x) p.0 ≡ None → IsUnrefused l.debugger (message_sent w id p.0)
unrefused-by m settings w l x id AwaitingHandshake (Handshake, a) rest laws known keeps s first o phase place fair = tt
unrefused-by m settings w l x id Established (Reply (Some k) c answer, a) rest laws known keeps s first o phase place fair = answer-unrefused m settings w l x id k c answer a rest laws known keeps s first o phase fair
unrefused-by m settings w l x id Established (Reply None c answer, a) rest laws known keeps s first o phase place fair = sizes-unrefused m settings w l x id c answer a rest laws known keeps s first o phase fair
unrefused-by m settings w l x id Established (Report c, a) rest laws known keeps s first o phase place fair = report-unrefused m settings w l x id c a rest x.ready laws s first o phase refl fair
unrefused-by m settings w l x id phase p rest laws known keeps s first o e place fair = absurd (cc)

pub unrefused : {S : Type 0} (m : Meaning S) (settings : Settings) (w : Widths) (l : Link S) (x : World S) → Laws m → Known m settings x → DebuggerKeeps l.debugger → (s : Parts m settings w l x)
    → (h : HasMessage settings w l.debugger.end x s.from.wires) → IsUnrefused l.debugger (message_sent w h.id h.packet.0)
unrefused m settings w l x laws known keeps s h =
    unrefused-by m settings w l x h.id x.debugger h.packet h.rest laws known keeps s h.first h.opened refl (fair-place (reader x) x.debugger h.packet.0 refl h.opened h.fair) h.fair
