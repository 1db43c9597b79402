-- which packet a debugger's turn reads, and what it says, in either order
use Rattle.std.proofs.Common.{◌≡◌, ◌⊎◌, ℕ, inl, inr, ◌<◌, Bool, true, false, ◌&&◌, not, cond, Some, None, List, [], ◌∷◌, ◌++◌, length, Ok, refl, sym, ◌∙◌, ap, subst, arith}
use Rattle.std.specs.Prelude.{nat_lt}
use Rattle.jdwp_wire.specs.Streams as streams
use Rattle.jdwp_wire.specs.Streams.{More, Whole}
use Rattle.jdwp_wire.specs.Widths.{AreWidths, Widths}
use Rattle.jdwp_end.specs.declared.phase.Phase.{Phase}
use Rattle.jdwp_end.specs.declared.phase.Phase.TheVariants.{AwaitingHandshake, Established}
use Rattle.jdwp_end.specs.Ends.{front_of, is_established_phase, is_open, is_open_phase, is_paused, next_of}
use Rattle.jdwp_event.specs.Composites.{CompositeMeaning}
use Rattle.jdwp_layout.specs.declared.answer.Answer.{Answer}
use Rattle.jdwp_machine.specs.Meanings.{Meaning}
use Rattle.jdwp_action.specs.Actions.{Command}
use Rattle.jdwp_action.specs.AnswerPackets.{EncodesAnswer, answer_bytes, error_of}
use Rattle.jdwp_debuggee.specs.Settings.{Settings}
use Rattle.jdwp_debuggee.specs.State.{Moment}
use Rattle.jdwp_mirror.specs.Faults.{fault_of}
use Rattle.jdwp_mirror.specs.Messages.{Message, Handshake, Reply, Report, id_sizes}
use Rattle.jdwp_mirror.specs.Widths.{widths_in}
use Rattle.jdwp_debugger.specs.Debuggers.{AreOwn, Debugger, IsSizesAlone}
use Rattle.jdwp_debugger.specs.DebuggerTurns.{command_at, command_of, reading_of, reports}
use Rattle.jdwp_debugger.specs.News.{Answers, Happens, Measures, News, Reading, Waits, answer_in, says, widths_by}
use Rattle.jdwp_debugger.specs.declared.order.Order.{Order}
use Rattle.jdwp_model.specs.Measures.{message_size}
use Rattle.jdwp_model.specs.Next.{debugger_front, messages_of, reader, whole_packet}
use Rattle.jdwp_model.specs.Seen.{mirror_count}
use Rattle.jdwp_model.specs.World.{Packet, World, is_closed, way_to_target}
use Rattle.jdwp_link.specs.Insides.{DebuggerKeeps}
use Rattle.jdwp_link.specs.Laws.{Laws}
use Rattle.jdwp_link.specs.Links.{Link}
use Rattle.jdwp_link.specs.Stands.{Parts}
use Rattle.jdwp_link.specs.Wires.{ArePackets, PacketWire, message_sent, without_ids}
use Rattle.jdwp_link.proofs.Awaiting.{got}
use Rattle.jdwp_link.proofs.Finding.{debugger-has, fair-place, is_read_in}
use Rattle.jdwp_link.proofs.Reached.{Known}
use Rattle.jdwp_link.proofs.Reading.{alone-none, fair-parked, fair-reply, is-replied, known-sizes, own-at, ready-some, ticket-none, unknown-sizes, widths-known}
use Rattle.jdwp_link.proofs.Saying.{parked-are, parked-length, parked-none, says-answer, says-event, says-parked, says-sizes}
use Rattle.jdwp_link.proofs.Turning.{front-closed, front-paused}
use Rattle.jdwp_link.proofs.Unrefused.{IsUnrefused, unrefused}
use Rattle.jdwp_across.specs.Programs.{Act, Programs}
use Rattle.jdwp_across.specs.Standing.{far_from_debugger, far_from_target, link_at, uncounted, unmeasured}
use Rattle.jdwp_across.proofs.DebuggerActs.{fed-parts}
use Rattle.jdwp_across.proofs.Reached.{known-across, reached-same}
use Rattle.jdwp_across.proofs.Standing.{Standing, debugger-keeps, debugger-sized, either, sized, unpaused}
use Rattle.jdwp_across.proofs.Unmeasured.{flows-to-target}

-- what a packet says in which this message is
abbrev pub IsNews : {S : Type 0} → World S → Debugger → Message → News → Type 0
IsNews x d (Report c) (Waits bytes) = x.ready ≡ false
IsNews x d (Report c) (Happens e) = (x.ready ≡ true) × (e ≡ c)
IsNews x d (Reply (Some k) c answer) (Answers place ticket a) = (a ≡ answer) × (command_at place d.pending ≡ c) × (x.parked ≡ [])
IsNews x d (Reply None c answer) (Measures place a w cs) = (a ≡ answer) × (command_at place d.pending ≡ c) × (reports cs ≡ messages_of x.parked)
IsNews x d message news = ⊥

-- the same read by either order
abbrev pub in_order : Order → Debugger → Reading
in_order o d = record (reading_of d) { order = o }

abbrev pub SaysSo : {S : Type 0} → World S → Debugger → Message → streams.Message → Type 0
SaysSo x d message streams.Handshake = message ≡ Handshake
SaysSo x d message (streams.Packet header body) = (news : News) × ((o : Order) → says (in_order o d) header.id header.kind body ≡ Ok news) × IsNews x d message news

report-says : {S : Type 0} (m : Meaning S) (settings : Settings) (w : Widths) (l : Link S) (x : World S) (id : ℕ) (c : CompositeMeaning) (a : Moment S) (rest : List (PacketWire S)) (ready : Bool) → Laws m → (s : Parts m settings w l x)
    → s.from.wires ≡ (id, (Report c, a)) ∷ rest → is_closed x.debugger ≡ false → x.debugger ≡ Established → x.ready ≡ ready → fault_of (reader x) (Report c) ≡ None
    → SaysSo x l.debugger (Report c) (message_sent w id (Report c))
report-says m settings w l x id c a rest false laws s first o phase ready fair =
    let d = l.debugger in
    let unshut = s.debugger.opened o in
    let size = parked-length w d.parked x.parked unshut.parked in
    let few = fair-parked _ x.ready (messages_of x.parked) x.pending (mirror_count x.read) c (ap is_established_phase phase) ready fair in
    (Waits _, λ q. says-parked (in_order q d) id _ (unknown-sizes w x.ready d.sizes unshut.sizes ready) (omega (size, few, arith)), ready)
report-says m settings w l x id c a rest true laws s first o phase ready fair =
    let d = l.debugger in
    let unshut = s.debugger.opened o in
    let can = (subst (ArePackets w settings.limits.packet) first s.from.sent).0.1 in
    (Happens c, λ q. says-event (in_order q d) w id c _ (known-sizes w x.ready d.sizes unshut.sizes ready) (laws.reads.reported w c _ can), (ready, refl))

answer-says : {S : Type 0} (m : Meaning S) (settings : Settings) (w : Widths) (l : Link S) (x : World S) (id k : ℕ) (c : Command) (answer : Answer) (a : Moment S) (rest : List (PacketWire S)) → Laws m → Known m settings x → DebuggerKeeps l.debugger → (s : Parts m settings w l x)
    → s.from.wires ≡ (id, (Reply (Some k) c answer, a)) ∷ rest → is_closed x.debugger ≡ false → x.debugger ≡ Established → fault_of (reader x) (Reply (Some k) c answer) ≡ None
    → SaysSo x l.debugger (Reply (Some k) c answer) (message_sent w id (Reply (Some k) c answer))
answer-says m settings w l x id k c answer a rest laws known keeps s first o phase fair =
    let d = l.debugger in
    let unshut = s.debugger.opened o in
    let can = (subst (ArePackets w settings.limits.packet) first s.from.sent).0.1 in
    let f = (is-replied m settings w l x id (Some k) c answer a rest known s first o).at in
    let is-open : is_open d.end ≡ true = ap is_open_phase (s.debugger.phase ∙ phase) in
    let ready : x.ready ≡ true = ready-some w d.sizes x.ready unshut.sizes (λ none. alone-none f.before f.behind f.asked k f.has_ticket (subst IsSizesAlone f.split (keeps.alone is-open none))) in
    let sizes = known-sizes w x.ready d.sizes unshut.sizes ready in
    let good = fair-reply _ x.ready (messages_of x.parked) x.pending (mirror_count x.read) (Some k) c answer (ap is_established_phase phase) fair in
    let reads-it : answer_in (widths_by d.sizes) c (error_of answer) (answer_bytes w answer) ≡ Some answer = ap (λ v. answer_in v c (error_of answer) (answer_bytes w answer)) (widths-known w d.sizes sizes) ∙ laws.reads.answered w c answer can.0 in
    let command : command_at (length f.before) d.pending ≡ c = ap command_of (got d.pending id (Some k) c f) ∙ f.is_command in
    (Answers (length f.before) k answer, λ q. says-answer (in_order q d) w id k c answer keeps.distinct f reads-it good, (refl, command, parked-none w d.parked x.parked (keeps.unparked w sizes) unshut.parked))

sizes-says : {S : Type 0} (m : Meaning S) (settings : Settings) (w : Widths) (l : Link S) (x : World S) (id : ℕ) (c : Command) (answer : Answer) (a : Moment S) (rest : List (PacketWire S)) → Laws m → Known m settings x → DebuggerKeeps l.debugger → (s : Parts m settings w l x)
    → s.from.wires ≡ (id, (Reply None c answer, a)) ∷ rest → is_closed x.debugger ≡ false → x.debugger ≡ Established → fault_of (reader x) (Reply None c answer) ≡ None
    → SaysSo x l.debugger (Reply None c answer) (message_sent w id (Reply None c answer))
sizes-says m settings w l x id c answer a rest laws known keeps s first o phase fair =
    let d = l.debugger in
    let unshut = s.debugger.opened o in
    let can = (subst (ArePackets w settings.limits.packet) first s.from.sent).0.1 in
    let f = (is-replied m settings w l x id None c answer a rest known s first o).at in
    let own : c ≡ id_sizes = sym f.is_command ∙ own-at f.before f.behind f.asked (subst AreOwn f.split keeps.own) (ticket-none f.asked.ticket f.has_ticket) in
    let good = fair-reply _ x.ready (messages_of x.parked) x.pending (mirror_count x.read) None c answer (ap is_established_phase phase) fair in
    let encodes : EncodesAnswer w id_sizes.set id_sizes.number answer = subst (λ (q : Command). EncodesAnswer w q.set q.number answer) own can.0 in
    let reads-it : answer_in (widths_by d.sizes) c (error_of answer) (answer_bytes w answer) ≡ Some answer = ap (λ q. answer_in (widths_by d.sizes) q (error_of answer) (answer_bytes w answer)) own ∙ laws.reads.sizes (widths_by d.sizes) w answer encodes in
    let widths : AreWidths w.field w.method w.object w.reference w.frame = subst (λ (v : Widths). AreWidths v.field v.method v.object v.reference v.frame) s.target.sizes known.widths in
    let told-widths = ap widths_in can.1 ∙ laws.reads.widths w widths in
    let waited = parked-are w d.parked x.parked unshut.parked in
    let command : command_at (length f.before) d.pending ≡ c = ap command_of (got d.pending id None c f) ∙ f.is_command in
    (Measures (length f.before) answer w waited.composites, λ q. says-sizes (in_order q d) w id c answer waited.composites keeps.distinct f reads-it good told-widths waited.read, (refl, command, waited.messages))

says-by : {S : Type 0} (m : Meaning S) (settings : Settings) (w : Widths) (l : Link S) (x : World S) (id : ℕ) (phase : Phase) (p : Packet S) (rest : List (PacketWire S)) → Laws m → Known m settings x → DebuggerKeeps l.debugger → (s : Parts m settings w l x)
    → s.from.wires ≡ (id, p) ∷ rest → is_closed x.debugger ≡ false → x.debugger ≡ phase → is_read_in phase p.0 ≡ true → fault_of (reader x) p.0 ≡ None → SaysSo x l.debugger p.0 (message_sent w id p.0)
says-by m settings w l x id AwaitingHandshake (Handshake, a) rest laws known keeps s first o phase place fair = refl
says-by m settings w l x id Established (Reply (Some k) c answer, a) rest laws known keeps s first o phase place fair = answer-says m settings w l x id k c answer a rest laws known keeps s first o phase fair
says-by m settings w l x id Established (Reply None c answer, a) rest laws known keeps s first o phase place fair = sizes-says m settings w l x id c answer a rest laws known keeps s first o phase fair
says-by m settings w l x id Established (Report c, a) rest laws known keeps s first o phase place fair = report-says m settings w l x id c a rest x.ready laws s first o phase refl fair
says-by m settings w l x id phase p rest laws known keeps s first o e place fair = absurd (cc)

-- ---- what stands in front

-- This packet does, which is not refused, and these stand behind it.
pub record HasFront {S : Type 0} (m : Meaning S) (settings : Settings) (w : Widths) (v : Programs S) (x : World S) : Type 0 where
  pub id : ℕ
  pub packet : Packet S
  pub rest : List (Packet S)
  pub front : front_of v.debugger.end ≡ Whole (message_sent w id packet.0) (message_size w packet.0)
  pub model_front : debugger_front settings (unmeasured w settings.limits) (uncounted x) ≡ Some (packet, rest)
  pub opened : is_closed x.debugger ≡ false
  pub fair : fault_of (reader x) packet.0 ≡ None
  pub says : SaysSo x v.debugger packet.0 (message_sent w id packet.0)
  pub unrefused : IsUnrefused v.debugger (message_sent w id packet.0)

first-of : {S : Type 0} (settings : Settings) (w : Widths) (x : World S) (p : Packet S) (rest : List (Packet S)) → 0 < settings.limits.packet → is_closed x.debugger ≡ false → x.to_debugger ≡ p ∷ rest
    → debugger_front settings (unmeasured w settings.limits) (uncounted x) ≡ Some (p, rest)
first-of settings w x p rest flows o first =
    ap (λ b. cond (not b && nat_lt (way_to_target (unmeasured w settings.limits) (uncounted x)) settings.limits.packet) (whole_packet (unmeasured w settings.limits) 0 x.to_debugger) None) o
    ∙ (ap (λ b. cond b (whole_packet (unmeasured w settings.limits) 0 x.to_debugger) None) (flows-to-target w settings.limits x settings.limits.packet flows)
    ∙ ap (λ ps. whole_packet (unmeasured w settings.limits) 0 ps) first)

front-open : {S : Type 0} (m : Meaning S) (settings : Settings) (w : Widths) (first : World S) (acts : List Act) (v : Programs S) → Laws m → (b : Standing m settings w first acts v)
    → is_closed b.world.debugger ≡ false → is_paused v.debugger.end ≡ false → (front_of v.debugger.end ≡ More) ⊎ HasFront m settings w v b.world
front-open m settings w first acts v laws b o p =
    let t = v.target in
    let d = v.debugger in
    let x = b.world in
    let size = sized m settings w first acts v b in
    let l = link_at t d (t.end.incoming ++ far_from_target t d) (far_from_debugger t d) d.end.incoming [] in
    let y = record x { at_debugger = length d.end.incoming } in
    let parts = fed-parts m settings w t d x o b.stands.parts in
    let known = known-across m laws.worlds settings w first acts y b.onward (reached-same m settings w first acts x y refl b.stands.reached) in
    let some = debugger-sized m settings w t d x size b.stands.parts in
    let keeps = debugger-keeps d.end.incoming d b.keeps in
    let front : front_of l.debugger.end ≡ front_of d.end = ap (λ q. cond q More (next_of d.end)) (unpaused d.end.limits.packet some ∙ sym p) in
    elim (debugger-has m settings w l y laws.finds size.small known parts) [
      | inl h ↦ inl (sym front ∙ h.front)
      | inr h ↦ inr (record {
        id = h.id;
        packet = h.packet;
        rest = without_ids h.rest;
        front = sym front ∙ h.front;
        model_front = first-of settings w x h.packet (without_ids h.rest) size.some o (sym parts.from.packets ∙ ap without_ids h.first);
        opened = h.opened;
        fair = h.fair;
        says = says-by m settings w l y h.id y.debugger h.packet h.rest laws known keeps parts h.first h.opened refl (fair-place (reader y) y.debugger h.packet.0 refl h.opened h.fair) h.fair;
        unrefused = unrefused m settings w l y laws known keeps parts h;
      })
    ]

pub has-front : {S : Type 0} (m : Meaning S) (settings : Settings) (w : Widths) (first : World S) (acts : List Act) (v : Programs S) → Laws m → (b : Standing m settings w first acts v)
    → (front_of v.debugger.end ≡ More) ⊎ HasFront m settings w v b.world
has-front m settings w first acts v laws b =
    either (is_closed b.world.debugger) ((front_of v.debugger.end ≡ More) ⊎ HasFront m settings w v b.world)
    (λ c. inl (front-closed v.debugger.end b.world.debugger b.stands.parts.debugger.phase c))
    (λ o. either (is_paused v.debugger.end) ((front_of v.debugger.end ≡ More) ⊎ HasFront m settings w v b.world)
    (λ q. inl (front-paused v.debugger.end q))
    (λ p. front-open m settings w first acts v laws b o p))
