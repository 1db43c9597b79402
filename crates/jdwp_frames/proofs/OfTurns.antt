-- What a turn of a link's debugger read that told an answer.
use Rattle.std.proofs.Common.{◌≡◌, ◌∙◌, ℕ, zero, suc, ◌+◌, ◌-◌, ◌≤◌, inl, inr, Bool, true, false, ◌||◌, cond, Option, Some, None, List, [], ◌∷◌, ◌++◌, refl, sym, ap, subst, arith}
use Rattle.jdwp_layout.specs.declared.answer.Answer.{Answer}
use Rattle.jdwp_layout.specs.declared.answer.Answer.TheVariants.{Data}
use Rattle.jdwp_layout.specs.Meanings.{DatumMeaning}
use Rattle.jdwp_event.specs.Composites.{CompositeMeaning}
use Rattle.jdwp_event.specs.Told.{is_vm_death}
use Rattle.jdwp_machine.specs.Meanings.{Meaning}
use Rattle.jdwp_action.specs.Actions.{Command}
use Rattle.jdwp_debuggee.specs.Settings.{Settings}
use Rattle.jdwp_debuggee.specs.State.{Moment}
use Rattle.jdwp_debugger.specs.declared.pending.Ticket as code
use Rattle.jdwp_debugger.specs.Debuggers.{Asked, Unanswered, and_then, at_place, unanswered}
use Rattle.jdwp_mirror.specs.Faults.{Fault, fault_of}
use Rattle.jdwp_mirror.specs.Messages.{Handshake, Reply, Report, Ticket}
use Rattle.jdwp_mirror.specs.Mirror.{ends}
use Rattle.jdwp_model.specs.Events
use Rattle.jdwp_model.specs.Events.{Outcome}
use Rattle.jdwp_model.specs.Next.{answered, closes_by, composites_of, debugger_handles, debugger_takes, debugger_turn, debugger_turn_at, has_end, reader, reads, reads_composite, reads_reply}
use Rattle.jdwp_model.specs.Places.{one_of, replies, tally}
use Rattle.jdwp_model.specs.Seen.{mirror_held}
use Rattle.jdwp_model.specs.World.{Measure, Packet, World, is_closed}
use Rattle.jdwp_model.proofs.Fronts.{by_debugger_front}
use Rattle.jdwp_model.proofs.Keeps.{Inv}
use Rattle.jdwp_model.proofs.Waiting.{In, same-ticket}
use Rattle.jdwp_link.specs.declared.events.Outcome.{Outcome as Told}
use Rattle.jdwp_link.specs.declared.events.Outcome.TheVariants as outcome
use Rattle.jdwp_link.specs.Told.{told_outcomes}
use Rattle.jdwp_link.specs.Wires.{waiting, without_ids}
use Rattle.jdwp_frames.proofs.Packets.{IsReadLast}

-- ---- what waits

-- the ticket and the command of one that waits, if there is one
abbrev number_of : Option Unanswered → ℕ
number_of None = 0
number_of (Some u) = u.ticket

abbrev command_or : Command → Option Unanswered → Command
command_or c None = c
command_or c (Some u) = u.command

in-first : (o : Option code.Ticket) (c : Command) (ps : List Asked) (place k : ℕ) (d : Command) (id : ℕ) → ((n : ℕ) → at_place (unanswered ps) n ≡ Some (record { ticket = k; command = d }) → In (without_ids (waiting ps)) (Some k, d))
    → at_place (and_then o c (unanswered ps)) place ≡ Some (record { ticket = k; command = d }) → In (without_ids (waiting (record { id = id; ticket = o; command = c } ∷ ps))) (Some k, d)
in-first None c ps place k d id more h = inr (more place h)
in-first (Some j) c ps zero k d id more h =
    let first : j.0 ≡ k = ap number_of h in
    let second : c ≡ d = ap (command_or c) h in
    inl (ap (λ (n : ℕ). (Some n, c)) first ∙ ap (λ (e : Command). (Some k, e)) second)
in-first (Some j) c ps (suc place) k d id more h = inr (more place h)

pub in-waiting : (ps : List Asked) (place k : ℕ) (c : Command) → at_place (unanswered ps) place ≡ Some (record { ticket = k; command = c }) → In (without_ids (waiting ps)) (Some k, c)
in-waiting [] place k c h = absurd (cc)
in-waiting (p ∷ ps) place k c h = in-first p.ticket p.command ps place k c p.id (λ n. in-waiting ps n k c) h

one-at : (k : Ticket) (c : Command) (p : Ticket × Command) → p ≡ (k, c) → one_of k p ≡ 1
one-at k c p e = ap (one_of k) e ∙ ap (λ b. cond b 1 0) (same-ticket k)

one-among : (k : Ticket) (c : Command) (ps : List (Ticket × Command)) → In ps (k, c) → 1 ≤ tally (one_of k) ps
one-among k c [] h = absurd h
one-among k c (p ∷ ps) (inl e) = let a : one_of k p ≡ 1 = one-at k c p e in omega arith
one-among k c (p ∷ ps) (inr h) = let a : 1 ≤ tally (one_of k) ps = one-among k c ps h in omega arith

-- a ticket that stands once has one command
same-command : (k : Ticket) (c d : Command) (ps : List (Ticket × Command)) → tally (one_of k) ps ≤ 1 → In ps (k, c) → In ps (k, d) → d ≡ c
same-command k c d [] most h i = absurd h
same-command k c d (p ∷ ps) most (inl e) (inl f) = ap (λ (q : Ticket × Command). q.1) (sym f ∙ e)
same-command k c d (p ∷ ps) most (inl e) (inr i) = let a : one_of k p ≡ 1 = one-at k c p e in let b : 1 ≤ tally (one_of k) ps = one-among k d ps i in absurd (omega arith)
same-command k c d (p ∷ ps) most (inr h) (inl f) = let a : one_of k p ≡ 1 = one-at k d p f in let b : 1 ≤ tally (one_of k) ps = one-among k c ps h in absurd (omega arith)
same-command k c d (p ∷ ps) most (inr h) (inr i) = let a : tally (one_of k) ps ≤ 1 = omega arith in same-command k c d ps a h i

-- ---- what is told

-- just this answer is told
abbrev TellsJust : code.Ticket → List DatumMeaning → List Outcome → Type 0
TellsJust ticket content os = told_outcomes (os ++ []) ≡ outcome.Answered ticket (Data content) ∷ []

-- the ticket and the answer that are told first, if any
abbrev ticket_or : ℕ → List Told → ℕ
ticket_or n (outcome.Answered ticket answer ∷ os) = ticket.0
ticket_or n os = n

abbrev answer_or : Answer → List Told → Answer
answer_or x (outcome.Answered ticket answer ∷ os) = answer
answer_or x os = x

answered-so : (ticket : code.Ticket) (content : List DatumMeaning) (k : Ticket) (x : Answer) → TellsJust ticket content (answered k x) → (k ≡ Some ticket.0) × (x ≡ Data content)
answered-so ticket content None x h = absurd (cc)
answered-so ticket content (Some j) x h =
    let same : j ≡ ticket.0 = ap (ticket_or j) h in
    (ap Some same, ap (answer_or x) h)

told-so : {S : Type 0} (ticket : code.Ticket) (content : List DatumMeaning) (parked : List (Packet S)) (k : Ticket) (x : Answer) → TellsJust ticket content (composites_of parked ++ answered k x) → (k ≡ Some ticket.0) × (x ≡ Data content)
told-so ticket content [] k x h = answered-so ticket content k x h
told-so ticket content ((Report r, a) ∷ ps) k x h = absurd (cc)
told-so ticket content ((Handshake, a) ∷ ps) k x h = told-so ticket content ps k x h
told-so ticket content ((Reply j d y, a) ∷ ps) k x h = told-so ticket content ps k x h

-- ---- what was read

-- where a turn tells just this answer and leaves the thread held, the packet read last is the reply with it
abbrev ReadsSo : {S : Type 0} → ℕ → Command → List DatumMeaning → code.Ticket → World S × List Outcome → Type 0
ReadsSo t c content ticket r = TellsJust ticket content r.1 → mirror_held r.0.read t ≡ true → IsReadLast r.0.read c content

closed-so : {S : Type 0} (t : ℕ) (c : Command) (content : List DatumMeaning) (ticket : code.Ticket) (w : World S) (os : List Outcome) (b : Bool) → (TellsJust ticket content os → IsReadLast w.read c content) → ReadsSo t c content ticket (closes_by w os b)
closed-so t c content ticket w os true f = λ h held. absurd (cc)
closed-so t c content ticket w os false f = λ h held. f h

composite-so : {S : Type 0} (t : ℕ) (c : Command) (content : List DatumMeaning) (ticket : code.Ticket) (w : World S) (r : CompositeMeaning) (a : Moment S) (b : Bool) → ReadsSo t c content ticket (reads_composite w (Report r, a) r b)
composite-so t c content ticket w r a false = λ h held. absurd (cc)
composite-so t c content ticket w r a true =
    closed-so t c content ticket (record w { read = (Report r, a) ∷ w.read }) (Events.Seen r ∷ []) (is_vm_death r) (λ h. absurd (cc))

packet-so : {S : Type 0} (m : Meaning S) (settings : Settings) (t : ℕ) (c : Command) (content : List DatumMeaning) (ticket : code.Ticket) (w : World S) (n : ℕ) (p : Packet S) (rest : List (Packet S)) → Inv m settings w → In w.pending (Some ticket.0, c)
    → is_closed w.debugger ≡ false → w.to_debugger ≡ p ∷ rest → ReadsSo t c content ticket (reads (record w { to_debugger = rest; at_debugger = n }) p)
packet-so m settings t c content ticket w n (Handshake, a) rest i waits o e = λ h held. absurd (cc)
packet-so m settings t c content ticket w n (Report r, a) rest i waits o e = composite-so t c content ticket (record w { to_debugger = rest; at_debugger = n }) r a w.ready
packet-so m settings t c content ticket w n (Reply k d x, a) rest i waits o e =
    closed-so t c content ticket (reads_reply (record w { to_debugger = rest; at_debugger = n }) (Reply k d x, a) k) (composites_of w.parked ++ answered k x) (ends (Reply k d x) || has_end w.parked) (λ h.
    let so = told-so ticket content w.parked k x h in
    let s = i.debugger.session o in
    let in-pending : In w.pending (k, d) = s.waits.in_replied (k, d) (subst (λ ps. In (replies ps) (k, d)) (sym e) (inl refl)) in
    (same-command (Some ticket.0) c d w.pending (i.apart.once (Some ticket.0)) waits (subst (λ j. In w.pending (j, d)) so.0 in-pending), so.1))

handled-so : {S : Type 0} (m : Meaning S) (settings : Settings) (measure : Measure) (t : ℕ) (c : Command) (content : List DatumMeaning) (ticket : code.Ticket) (w : World S) (p : Packet S) (rest : List (Packet S)) (f : Option Fault) → Inv m settings w
    → In w.pending (Some ticket.0, c) → is_closed w.debugger ≡ false → w.to_debugger ≡ p ∷ rest → ReadsSo t c content ticket (debugger_handles (debugger_takes measure w p rest) p f)
handled-so m settings measure t c content ticket w p rest (Some f) i waits o e = λ h held. absurd (cc)
handled-so m settings measure t c content ticket w p rest None i waits o e = packet-so m settings t c content ticket w (w.at_debugger - measure.message p.0) p rest i waits o e

pub read-by-turn : {S : Type 0} (m : Meaning S) (settings : Settings) (measure : Measure) (t : ℕ) (c : Command) (content : List DatumMeaning) (ticket : code.Ticket) (w : World S) → Inv m settings w
    → (is_closed w.debugger ≡ false → In w.pending (Some ticket.0, c)) → ReadsSo t c content ticket (debugger_turn settings measure w)
read-by-turn m settings measure t c content ticket w i waits =
    by_debugger_front settings measure w (λ o. ReadsSo t c content ticket (debugger_turn_at measure w o)) (λ h held. absurd (cc))
    (λ p rest o e. handled-so m settings measure t c content ticket w p rest (fault_of (reader w) p.0) i (waits o) o e)
