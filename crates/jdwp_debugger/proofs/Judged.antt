-- What is refused by its bytes is refused for what the message is.
use Rattle.std.proofs.Common.{◌≡◌, ◌∙◌, ℕ, ◌≤◌, ◌==◌, Bool, true, false, not, List, [], ◌∷◌, length, Option, Some, None, slice_get, zero, suc, refl, sym, ap, subst, arith, inl, inr, if◌then◌else◌}
use Rattle.std.specs.Prelude.{is_some, nat_lt}
use Rattle.std.specs.Option.{option_map}
use Rattle.std.proofs.lemmas.Bool.{eqb-true, eqb-false, eq-eqb, le-ltb, lt-ltb, or_right}
use Rattle.jdwp_wire.specs.Widths.{Widths}
use Rattle.jdwp_wire.specs.declared.packet.Header.{Header}
use Rattle.jdwp_wire.specs.declared.packet.PacketKind.{PacketKind}
use Rattle.jdwp_wire.specs.declared.packet.PacketKind.TheVariants as kind
use Rattle.jdwp_layout.specs.Meanings.{DatumMeaning}
use Rattle.jdwp_layout.specs.declared.answer.Answer.{Answer}
use Rattle.jdwp_layout.specs.declared.answer.Answer.TheVariants.{Data, Error}
use Rattle.jdwp_event.specs.Composites.{CompositeMeaning}
use Rattle.jdwp_action.specs.Actions.{Command}
use Rattle.jdwp_action.specs.AnswerPackets.{EncodesAnswer, answer_bytes, error_of}
use Rattle.jdwp_debugger.specs.declared.faults.DebuggerFault.{DebuggerFault}
use Rattle.jdwp_debugger.specs.declared.order.Order.{Order}
use Rattle.jdwp_debugger.specs.declared.order.Order.TheVariants.{One, Apart}
use Rattle.jdwp_debugger.specs.declared.pending.Ticket as code
use Rattle.jdwp_debugger.specs.Debuggers.{AreOwn, Asked, Debugger, Parked}
use Rattle.jdwp_debugger.specs.DebuggerTurns.{bad_where, reading_of, refusal_by, reports}
use Rattle.jdwp_debugger.specs.FaultNumbers.{fault_number, packet_fault_number}
use Rattle.jdwp_debugger.specs.Judging.{AreMaybe, Answers, EncodesMessage, EncodesReport, IsJudgedAs, Stands, reader_of, ticket_meaning, waiting_meaning}
use Rattle.jdwp_debugger.specs.News.{answer_by, answer_in, answer_says, composites_in, event_says, reply_at, reply_to, says, sizes_say, unless_bad, widths_by}
use Rattle.jdwp_debugger.specs.Orders.{fault_in, has_bad_in, is_bad_in, none_known}
use Rattle.jdwp_mirror.specs.Faults.{BadEvent, BadReply, TooManyParked, UnknownReply, PARKED_MOST, are_widths, is_bad_reply, is_waited_for, or_else, when}
use Rattle.jdwp_mirror.specs.Faults as faults
use Rattle.jdwp_mirror.specs.KnownThreads.{count_in}
use Rattle.jdwp_mirror.specs.Messages.{Message, Handshake, Reply, Report, Ticket, id_sizes, same_ticket}
use Rattle.jdwp_mirror.specs.Mirrors.{Mirror}
use Rattle.jdwp_mirror.specs.Widths.{widths_in, widths_said}
use Rattle.jdwp_debugger.proofs.AnsweredReads.{reads-as-answered}
use Rattle.jdwp_debugger.proofs.EncodedReads.{ReadsEncoded}
use Rattle.jdwp_debugger.proofs.NewsLemmas.{read-either}
use Rattle.jdwp_debugger.proofs.ReportedReads.{reads-as-reported}
use Rattle.jdwp_debugger.proofs.Saying.{alone-at}
use Rattle.jdwp_debugger.proofs.SizesReads.{reads-sizes}
use Rattle.jdwp_debugger.proofs.TurningLemmas.{same-bad-in}

abbrev number : Option DebuggerFault → Option ℕ
number refused = option_map fault_number refused

abbrev named : Option faults.Fault → Option ℕ
named found = option_map packet_fault_number found

-- ---- composites

reports-length : (cs : List CompositeMeaning) → length (reports cs) ≡ length cs
reports-length [] = refl
reports-length (c ∷ cs) = ap suc (reports-length cs)

bad-event : (b : Bool) → number (bad_where b) ≡ named (when b BadEvent)
bad-event true = refl
bad-event false = refl

parks : (o : Order) (m : Mirror) (parked : List Parked) (waiting : List CompositeMeaning) (body : List ℕ) (b : Bool) → (length parked == PARKED_MOST) ≡ b → length waiting ≡ length parked → length parked ≤ PARKED_MOST
    → number (refusal_by o m (event_says None parked body)) ≡ named (when (not (nat_lt (length (reports waiting)) PARKED_MOST)) TooManyParked)
parks o m parked waiting body true is many few =
    let full : length parked ≡ PARKED_MOST = eqb-true (length parked) PARKED_MOST is in
    let none : nat_lt (length (reports waiting)) PARKED_MOST ≡ false = le-ltb (length (reports waiting)) PARKED_MOST (omega (arith, full, many, reports-length waiting)) in
    rw (is, none) refl
parks o m parked waiting body false is many few =
    let less = eqb-false (length parked) PARKED_MOST is in
    let room : nat_lt (length (reports waiting)) PARKED_MOST ≡ true = lt-ltb (length (reports waiting)) PARKED_MOST (omega (arith, less, few, many, reports-length waiting)) in
    rw (is, room) refl

report-judged : (o : Order) (m : Mirror) (sizes : Option Widths) (parked : List Parked) (waiting : List CompositeMeaning) (body : List ℕ) (c : CompositeMeaning) → length waiting ≡ length parked → length parked ≤ PARKED_MOST
    → EncodesReport sizes c body
    → number (refusal_by o m (event_says sizes parked body))
    ≡ named (if is_some sizes then when (is_bad_in o (count_in m.threads) c) BadEvent else when (not (nat_lt (length (reports waiting)) PARKED_MOST)) TooManyParked)
report-judged o m None parked waiting body c many few h = parks o m parked waiting body (length parked == PARKED_MOST) refl many few
report-judged o m (Some w) parked waiting body c many few h = rw (reads-as-reported w c body h) (bad-event (is_bad_in o (count_in m.threads) c))

-- ---- replies

-- a command that waits is waited for
same-self : (k : Ticket) → same_ticket k k ≡ true
same-self None = refl
same-self (Some n) = eq-eqb n n refl

waits-for : (ps : List Asked) (place : ℕ) (asked : Asked) → slice_get ps place ≡ Some asked → is_waited_for (ticket_meaning asked.ticket) (waiting_meaning ps) ≡ true
waits-for [] place asked h = absurd (cc)
waits-for (p ∷ ps) zero asked h =
    let same : p ≡ asked = cc in
    let first : same_ticket (ticket_meaning p.ticket) (ticket_meaning asked.ticket) ≡ true = ap (λ (a : Asked). same_ticket (ticket_meaning a.ticket) (ticket_meaning asked.ticket)) same ∙ same-self (ticket_meaning asked.ticket) in
    rw first refl
waits-for (p ∷ ps) (suc place) asked h = or_right (same_ticket (ticket_meaning p.ticket) (ticket_meaning asked.ticket)) (is_waited_for (ticket_meaning asked.ticket) (waiting_meaning ps)) (waits-for ps place asked h)

-- the data are read as the answer
read-answer : ReadsEncoded → (sizes : Option Widths) (c : Command) (w : Widths) (answer : Answer) → AreMaybe sizes w → (sizes ≡ None → c ≡ id_sizes) → EncodesAnswer w c.set c.number answer
    → answer_in (widths_by sizes) c (error_of answer) (answer_bytes w answer) ≡ Some answer
read-answer again (Some v) c w answer known own h = rw known (reads-as-answered again w c answer h)
read-answer again None c w answer known own h =
    let is = own refl in
    subst (λ (d : Command). EncodesAnswer w d.set d.number answer → answer_in (widths_by None) d (error_of answer) (answer_bytes w answer) ≡ Some answer) (sym is) (reads-sizes again (widths_by None) w answer) h

-- the widths that good data tell
five-said : (content : List DatumMeaning) → are_widths content ≡ true → (w : Widths) × (widths_said content ≡ Some w)
five-said [] h = absurd cc
five-said (a ∷ []) h = absurd cc
five-said (a ∷ b ∷ []) h = absurd cc
five-said (a ∷ b ∷ c ∷ []) h = absurd cc
five-said (a ∷ b ∷ c ∷ d ∷ []) h = absurd cc
five-said (a ∷ b ∷ c ∷ d ∷ e ∷ []) h = (_, refl)
five-said (a ∷ b ∷ c ∷ d ∷ e ∷ f ∷ rest) h = absurd cc

not-false : (b : Bool) → not b ≡ false → b ≡ true
not-false true h = refl
not-false false h = absurd cc

said : (answer : Answer) → is_bad_reply id_sizes answer ≡ false → (w : Widths) × (widths_in answer ≡ Some w)
said (Data content) h =
    let good = not-false (are_widths content) h in
    let five = five-said content good in
    (five.0, ap (λ (b : Bool). if b then widths_said content else None) good ∙ five.1)
said (Error e) h = absurd cc

none-bad : (o : Order) (counts : ℕ → Option ℕ) → has_bad_in o counts [] ≡ false
none-bad One counts = refl
none-bad Apart counts = refl

-- no composite waits, or nothing is learned
abbrev AreFresh : Order → Mirror → List CompositeMeaning → Type 0
AreFresh o m waiting = has_bad_in o none_known (reports waiting) ≡ has_bad_in o (count_in m.threads) (reports waiting)

measured : (o : Order) (m : Mirror) (place : ℕ) (answer : Answer) (parked : List Parked) (waiting : List CompositeMeaning) → is_bad_reply id_sizes answer ≡ false → AreFresh o m waiting
    → ((w : Widths) → widths_in answer ≡ Some w → composites_in w parked ≡ Some waiting)
    → number (refusal_by o m (sizes_say parked place answer (widths_in answer))) ≡ named (when (has_bad_in o (count_in m.threads) (reports waiting)) BadEvent)
measured o m place answer parked waiting good fresh told =
    let w = said answer good in
    rw (w.1, told w.0 w.1) (ap (λ (b : Bool). number (bad_where b)) fresh ∙ bad-event (has_bad_in o (count_in m.threads) (reports waiting)))

-- what is said by the answer to a command
answered : (o : Order) (m : Mirror) (place : ℕ) (ticket : Option code.Ticket) (c : Command) (answer : Answer) (parked : List Parked) (waiting : List CompositeMeaning) (bad : Bool) → is_bad_reply c answer ≡ bad
    → (ticket ≡ None → c ≡ id_sizes) → ((k : code.Ticket) → ticket ≡ Some k → waiting ≡ []) → AreFresh o m waiting → ((w : Widths) → widths_in answer ≡ Some w → composites_in w parked ≡ Some waiting)
    → number (refusal_by o m (answer_says parked place ticket (unless_bad c (Some answer))))
    ≡ named (or_else (when (is_bad_reply c answer) BadReply) (when (has_bad_in o (count_in m.threads) (reports waiting)) BadEvent))
answered o m place ticket c answer parked waiting true is own none fresh told = rw is refl
answered o m place (Some k) c answer parked waiting false is own none fresh told = rw (is, none k refl) (ap (λ (b : Bool). named (when b BadEvent)) (sym (none-bad o (count_in m.threads))))
answered o m place None c answer parked waiting false is own none fresh told =
    let good = ap (λ (d : Command). is_bad_reply d answer) (sym (own refl)) ∙ is in
    rw is (measured o m place answer parked waiting good fresh told)

-- ---- how a debugger stands

nothing : (waiting : List CompositeMeaning) (parked : List Parked) → length waiting ≡ length parked → parked ≡ [] → waiting ≡ []
nothing [] parked many none = refl
nothing (c ∷ cs) parked many none = absurd (omega (arith, many, ap length none))

own-at : (ps : List Asked) (place : ℕ) (asked : Asked) → AreOwn ps → slice_get ps place ≡ Some asked → asked.ticket ≡ None → asked.command ≡ id_sizes
own-at [] place asked own h none = absurd cc
own-at (p ∷ ps) zero asked own h none = (let same : p ≡ asked = cc in subst (λ (a : Asked). a.ticket ≡ None → a.command ≡ id_sizes) same own.0 none)
own-at (p ∷ ps) (suc place) asked own h none = own-at ps place asked own.1 h none

fresh-by : (d : Debugger) (waiting : List CompositeMeaning) (sizes : Option Widths) → d.sizes ≡ sizes → Stands d waiting → AreFresh d.order d.mirror waiting
fresh-by d waiting None is s = same-bad-in d.order none_known (count_in d.mirror.threads) (λ t. ap (λ (m : Mirror). count_in m.threads t) (sym (s.unlearned is))) waiting
fresh-by d waiting (Some w) is s = rw (nothing waiting d.parked s.as_many (s.unparked w is)) (none-bad d.order none_known ∙ sym (none-bad d.order (count_in d.mirror.threads)))

none-behind : (d : Debugger) (waiting : List CompositeMeaning) (sizes : Option Widths) (place : ℕ) (asked : Asked) (k : code.Ticket) → d.sizes ≡ sizes → Stands d waiting → slice_get d.pending place ≡ Some asked
    → asked.ticket ≡ Some k → waiting ≡ []
none-behind d waiting None place asked k is s at ticketed = absurd (let e : None ≡ Some k = sym (alone-at d.pending place asked (s.alone is) at) ∙ ticketed in cc)
none-behind d waiting (Some w) place asked k is s at ticketed = nothing waiting d.parked s.as_many (s.unparked w is)

-- ---- all packets

fault-of-report : (o : Order) (d : Debugger) (waiting : List CompositeMeaning) (c : CompositeMeaning)
    → fault_in o (reader_of d waiting) (Report c) ≡ (if is_some d.sizes then when (is_bad_in o (count_in d.mirror.threads) c) BadEvent else when (not (nat_lt (length (reports waiting)) PARKED_MOST)) TooManyParked)
fault-of-report One d waiting c = refl
fault-of-report Apart d waiting c = refl

fault-of-reply : (o : Order) (d : Debugger) (waiting : List CompositeMeaning) (k : Ticket) (c : Command) (answer : Answer)
    → fault_in o (reader_of d waiting) (Reply k c answer)
    ≡ or_else (when (not (is_waited_for k (waiting_meaning d.pending))) UnknownReply) (or_else (when (is_bad_reply c answer) BadReply) (when (has_bad_in o (count_in d.mirror.threads) (reports waiting)) BadEvent))
fault-of-reply One d waiting k c answer = refl
fault-of-reply Apart d waiting k c answer = refl

unknown-judged : (d : Debugger) (waiting : List CompositeMeaning) (k : Ticket) (c : Command) (answer : Answer) → is_waited_for k (waiting_meaning d.pending) ≡ false
    → named (fault_in d.order (reader_of d waiting) (Reply k c answer)) ≡ named (Some UnknownReply)
unknown-judged d waiting k c answer none =
    ap named (fault-of-reply d.order d waiting k c answer)
    ∙ ap (λ (b : Bool). named (or_else (when (not b) UnknownReply) (or_else (when (is_bad_reply c answer) BadReply) (when (has_bad_in d.order (count_in d.mirror.threads) (reports waiting)) BadEvent)))) none

reply-judged : ReadsEncoded → (d : Debugger) (waiting : List CompositeMeaning) (id : ℕ) (ticket : Ticket) (c : Command) (answer : Answer) (body : List ℕ) → Stands d waiting → Answers d waiting id ticket c answer body
    → number (refusal_by d.order d.mirror (says (reading_of d) id (kind.Reply (error_of answer)) body)) ≡ named (fault_in d.order (reader_of d waiting) (Reply ticket c answer))
reply-judged again d waiting id ticket c answer body s a =
    let asked = a.asked in
    let own : asked.ticket ≡ None → asked.command ≡ id_sizes = own-at d.pending a.place asked s.own a.at in
    let unknown : d.sizes ≡ None → asked.command ≡ id_sizes = λ none. own (alone-at d.pending a.place asked (s.alone none) a.at) in
    let encoded : EncodesAnswer a.widths asked.command.set asked.command.number answer = subst (λ (x : Command). EncodesAnswer a.widths x.set x.number answer) (sym a.command_is) a.encoded in
    let read : answer_by d.order (widths_by d.sizes) asked.command (error_of answer) body ≡ Some answer =
    read-either d.order (widths_by d.sizes) asked.command (error_of answer) body answer
    (ap (answer_in (widths_by d.sizes) asked.command (error_of answer)) a.data_are ∙ read-answer again d.sizes asked.command a.widths answer a.known unknown encoded) in
    let waited : is_waited_for (ticket_meaning asked.ticket) (waiting_meaning d.pending) ≡ true = waits-for d.pending a.place asked a.at in
    let judged =
    answered d.order d.mirror a.place asked.ticket asked.command answer d.parked waiting (is_bad_reply asked.command answer) refl own (λ k ticketed. none-behind d waiting d.sizes a.place asked k refl s a.at ticketed) (fresh-by d waiting d.sizes refl s) a.told in
    let r = reader_of d waiting in
    let m = d.mirror in
    let o = d.order in
    let e = error_of answer in
    let right : named (fault_in o r (Reply ticket c answer)) ≡ named (or_else (when (is_bad_reply asked.command answer) BadReply) (when (has_bad_in o (count_in m.threads) (reports waiting)) BadEvent)) =
    ap (λ (k : Ticket). named (fault_in o r (Reply k c answer))) (sym a.ticket_is)
    ∙ ap (λ (x : Command). named (fault_in o r (Reply (ticket_meaning asked.ticket) x answer))) (sym a.command_is)
    ∙ ap named (fault-of-reply o d waiting (ticket_meaning asked.ticket) asked.command answer)
    ∙ ap (λ (b : Bool). named (or_else (when (not b) UnknownReply) (or_else (when (is_bad_reply asked.command answer) BadReply) (when (has_bad_in o (count_in m.threads) (reports waiting)) BadEvent)))) waited in
    ap (λ (p : Option ℕ). number (refusal_by o m (reply_at (reading_of d) e body p))) a.under
    ∙ ap (λ (f : Option Asked). number (refusal_by o m (reply_to (reading_of d) e body a.place f))) a.at
    ∙ ap (λ (x : Option Answer). number (refusal_by o m (answer_says d.parked a.place asked.ticket (unless_bad asked.command x)))) read
    ∙ judged
    ∙ sym right

pub judges : ReadsEncoded → (d : Debugger) (waiting : List CompositeMeaning) (header : Header) (body : List ℕ) (message : Message) → Stands d waiting → EncodesMessage d waiting header body message → IsJudgedAs d waiting header body message
judges again d waiting header body Handshake s e = absurd e
judges again d waiting header body (Report c) s e =
    ap (λ (k : PacketKind). number (refusal_by d.order d.mirror (says (reading_of d) header.id k body))) e.0 ∙ report-judged d.order d.mirror d.sizes d.parked waiting body c s.as_many s.few e.1 ∙ sym (ap named (fault-of-report d.order d waiting c))
judges again d waiting header body (Reply ticket c answer) s e =
    ap (λ (k : PacketKind). number (refusal_by d.order d.mirror (says (reading_of d) header.id k body))) e.0
    ∙ elim e.1 [ inl a ↦ reply-judged again d waiting header.id ticket c answer body s a | inr none ↦ rw none.0 (sym (unknown-judged d waiting ticket c answer none.1)) ]
