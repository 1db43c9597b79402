-- Tickets that were given.
use Rattle.std.proofs.Common.{◌≡◌, ◌∙◌, ℕ, ◌+◌, ◌≤◌, ◌<◌, ◌++◌, List, [], ◌∷◌, Bool, true, false, Ok, Err, Option, Some, None, is_none, ap, refl, subst, sym, remove, arith}
use Rattle.std.specs.List.{AllByRecursion, list_any}
use Rattle.std.proofs.lemmas.Bool.Decides.{nat_tests}
use Rattle.jdwp_wire.specs.declared.packet.Header.{Header}
use Rattle.jdwp_wire.specs.Streams as streams
use Rattle.jdwp_wire.specs.Streams.{NextMessage, Whole, More, Fault}
use Rattle.jdwp_wire.specs.Widths.{Widths}
use Rattle.jdwp_layout.specs.declared.answer.Answer.{Answer}
use Rattle.jdwp_action.specs.Actions.{Command}
use Rattle.jdwp_end.specs.Ends.{front_of, is_open}
use Rattle.jdwp_mirror.specs.Messages.{Reply, Report, id_sizes}
use Rattle.jdwp_mirror.specs.Mirror.{ends}
use Rattle.jdwp_end.specs.Story.{Story}
use Rattle.jdwp_debugger.specs.declared.faults.DebuggerFault.{DebuggerFault}
use Rattle.jdwp_debugger.specs.declared.faults.DebuggerFault.TheVariants as code
use Rattle.jdwp_debugger.specs.declared.pending.Ticket.{Ticket}
use Rattle.jdwp_debugger.specs.declared.turning.Read.{Read}
use Rattle.jdwp_debugger.specs.Asking.{HasAsked}
use Rattle.jdwp_debugger.specs.Debuggers.{Asked, Debugger}
use Rattle.jdwp_debugger.specs.DebuggerTurns.{Enters, HandlesAt, Told, TurnsAt, closed_where, command_at, measured_where, read_meaning, reports}
use Rattle.jdwp_debugger.specs.DebuggerTurns as tell
use Rattle.jdwp_debugger.specs.News.{News, Waits, Happens, Answers, Measures}
use Rattle.jdwp_debugger.specs.Protocol.{AnswersOwn}
use Rattle.jdwp_debugger.proofs.ProtocolTurns.{answers-own}
use Rattle.jdwp_client.specs.declared.errors.ClientError.{ClientError}
use Rattle.jdwp_client.specs.declared.errors.ClientError.TheVariants as error
use Rattle.jdwp_client.specs.declared.errors.Loss.TheVariants.{ByRead, ByWrite}
use Rattle.jdwp_client.specs.Clients as clients
use Rattle.jdwp_client.specs.Clients.{Client, FailsToSend, IsLimited, Puts, Sends, StepFails, Begins, Writes, Turns, Reads, asked_under, ended, ended_where, lacks_answer, moved, with_answers, with_told}
use Rattle.jdwp_client.specs.Keeping.{HandsOut, answers_in, is_under}
use Rattle.jdwp_client.specs.Tickets.{AreGiven, IsGiven, KeepsGiven}
use Rattle.jdwp_client.proofs.Lists.{all-append, all-at, all-mono, all-remove, none-passes}

-- ---- commands that wait

abbrev AreIn : ℕ → List (Ticket × Answer) → Type 0
AreIn n xs = AllByRecursion (λ (kept : Ticket × Answer). kept.0.0 ≤ n) xs

abbrev AreWaiting : ℕ → List Asked → Type 0
AreWaiting n ps = AllByRecursion (λ (p : Asked). IsGiven n p.ticket) ps

-- no more tickets were given, and those that wait then are some of those that waited, or have no ticket
record Leaves (old new : Debugger) : Type 0 where
  tickets : new.tickets ≡ old.tickets
  waiting : (n : ℕ) → AreWaiting n old.pending → AreWaiting n new.pending

abbrev marks : Debugger → ℕ × List Asked
marks d = (d.tickets, d.pending)

leaves-by : (old new : Debugger) (rest : List Asked) → marks new ≡ (old.tickets, rest) → ((n : ℕ) → AreWaiting n old.pending → AreWaiting n rest) → Leaves old new
leaves-by old new rest e f = record {
  tickets = ap (λ (m : ℕ × List Asked). m.0) e;
  waiting = λ n h. subst (λ (ps : List Asked). AreWaiting n ps) (sym (ap (λ (m : ℕ × List Asked). m.1) e)) (f n h);
}

where-marks : (b : Bool) (mid : Debugger) → marks (closed_where b mid) ≡ marks mid
where-marks true mid = refl
where-marks false mid = refl

measured-marks : (b : Bool) (w : Widths) (mid : Debugger) → marks (measured_where b w mid) ≡ marks mid
measured-marks true w mid = refl
measured-marks false w mid = refl

entered-leaves : (message : streams.Message) (used : ℕ) (header : Header) (news : News) (old new : Debugger) (t : Told) → Enters message used header news old t new → Leaves old new
entered-leaves message used header (Waits bytes) old new t h = leaves-by old new old.pending (ap marks h.1) (λ n k. k)
entered-leaves message used header (Happens c) old new t h = leaves-by old new old.pending (ap marks h.1.4 ∙ where-marks (ends (Report c)) _) (λ n k. k)
entered-leaves message used header (Answers place ticket answer) old new t h =
    leaves-by old new (remove old.pending place) (ap marks h.1.4 ∙ where-marks (ends (Reply (Some ticket) (command_at place old.pending) answer)) _)
    (λ n k. all-remove (λ (p : Asked). IsGiven n p.ticket) place old.pending k)
entered-leaves message used header (Measures place answer w cs) old new t h =
    leaves-by old new (remove old.pending place) (ap marks h.1.4 ∙ measured-marks (list_any ends (reports cs)) w _)
    (λ n k. all-remove (λ (p : Asked). IsGiven n p.ticket) place old.pending k)

turn-leaves : (next : NextMessage) (old new : Debugger) (r : Read) → TurnsAt next old (Ok r) new → Leaves old new
turn-leaves (Whole streams.Handshake used) old new r h =
    let own : Asked = record { id = old.next_id; ticket = None; command = id_sizes } in
    leaves-by old new (old.pending ++ own ∷ []) (ap marks h.2) (λ n k. all-append (λ (p : Asked). IsGiven n p.ticket) old.pending (own ∷ []) k (tt, tt))
turn-leaves (Whole (streams.Packet header body) used) old new r h = entered-leaves (streams.Packet header body) used header h.news old new (read_meaning r) h.entered
turn-leaves More old new r h = leaves-by old new old.pending (ap marks h.1) (λ n k. k)
turn-leaves (Fault fault) old new r h = absurd (let e = h.0 in cc)

packet-fails : (header : Header) (body : List ℕ) (used : ℕ) (old new : Debugger) (fault : DebuggerFault) → HandlesAt (streams.Packet header body) used old (Err fault) new → new.tickets ≡ old.tickets
packet-fails header body used old new code.NoMemory h = ap (λ (d : Debugger). d.tickets) h.1
packet-fails header body used old new (code.Frame fault) h = ap (λ (d : Debugger). d.tickets) h.1
packet-fails header body used old new code.UnknownReply h = ap (λ (d : Debugger). d.tickets) h.1
packet-fails header body used old new code.BadReply h = ap (λ (d : Debugger). d.tickets) h.1
packet-fails header body used old new code.TooManyParked h = ap (λ (d : Debugger). d.tickets) h.1
packet-fails header body used old new code.BadEvent h = ap (λ (d : Debugger). d.tickets) h.1

turn-fails-tickets : (next : NextMessage) (old new : Debugger) (fault : DebuggerFault) → TurnsAt next old (Err fault) new → new.tickets ≡ old.tickets
turn-fails-tickets (Whole streams.Handshake used) old new fault h = ap (λ (d : Debugger). d.tickets) h.1
turn-fails-tickets (Whole (streams.Packet header body) used) old new fault h = packet-fails header body used old new fault h
turn-fails-tickets More old new fault h = absurd (let e = h.0 in cc)
turn-fails-tickets (Fault fault') old new fault h = ap (λ (d : Debugger). d.tickets) h.1

-- an answer is told under the ticket of a command that waited
own-ticket : (n ticket : ℕ) (answer : Answer) (old new : Debugger) → AnswersOwn ticket answer old new → AreWaiting n old.pending → ticket ≤ n
own-ticket n ticket answer old new own h =
    subst (λ (o : Option Ticket). IsGiven n o) own.of_ticket (all-at (λ (p : Asked). IsGiven n p.ticket) old.pending own.place own.asked own.waited h)

told-given : (n : ℕ) (t : Told) (old new : Debugger) (r : Read) → read_meaning r ≡ t → TurnsAt (front_of old.end) old (Ok r) new → AreWaiting n old.pending → AreIn n (answers_in t)
told-given n tell.Nothing old new r e turn h = tt
told-given n tell.Hello old new r e turn h = tt
told-given n tell.Parked old new r e turn h = tt
told-given n (tell.Sizes composites) old new r e turn h = tt
told-given n (tell.Answered ticket answer) old new r e turn h = (own-ticket n ticket answer old new (answers-own old new (Ok r) ticket answer turn e) h, tt)
told-given n (tell.Seen composite) old new r e turn h = tt

-- ---- calls

given-put : {P : Type 0} (story : P → Story) (old new : Client P) → Puts story old new → AreGiven old → AreGiven new
given-put {P} story old new put h = subst (λ (x : Client P). AreGiven x) (sym put.is) (record { answers = h.answers; waiting = h.waiting })

given-ended : {P : Type 0} (c : Client P) → AreGiven c → AreGiven (ended c)
given-ended c h = record { answers = h.answers; waiting = tt }

given-where : {P : Type 0} (b : Bool) (c : Client P) → AreGiven c → AreGiven (ended_where b c)
given-where true c h = h
given-where false c h = given-ended c h

given-told : {P : Type 0} (mid : Client P) (r : Read) (d : Debugger) → TurnsAt (front_of mid.debugger.end) mid.debugger (Ok r) d → AreGiven mid → AreGiven (with_told (read_meaning r) d mid)
given-told mid r d turn h =
    let left = turn-leaves (front_of mid.debugger.end) mid.debugger d r turn in
    let n = mid.debugger.tickets in
    record {
      answers =
          subst (λ (m : ℕ). AreIn m (mid.answers ++ answers_in (read_meaning r))) (sym left.tickets)
          (all-append (λ (kept : Ticket × Answer). kept.0.0 ≤ n) mid.answers (answers_in (read_meaning r)) h.answers (told-given n (read_meaning r) mid.debugger d r refl turn h.waiting));
      waiting = subst (λ (m : ℕ). AreWaiting m d.pending) (sym left.tickets) (left.waiting n h.waiting);
    }

given-waits : {P : Type 0} (story : P → Story) (M : Client P → Bool) (base new : Client P) (n : ℕ) (told : List Told) → clients.Waits story M base n told new → AreGiven base → AreGiven new
given-waits story M base new' n' told' Begins h = h
given-waits story M base new' n' told' (Writes n told old new w missing opened put) h = given-put story old new put (given-waits story M base old n told w h)
given-waits story M base new' n' told' (Turns n told old mid r d w missing opened put turn) h =
    given-where (is_open d.end) (with_told (read_meaning r) d mid) (given-told mid r d turn (given-put story old mid put (given-waits story M base old n told w h)))
given-waits story M base new' n' told' (Reads n told old mid bytes pipe w missing opened put more few went) h =
    let k = given-put story old mid put (given-waits story M base old n told w h) in
    record { answers = k.answers; waiting = k.waiting }

one-more : (n : ℕ) (o : Option Ticket) → IsGiven n o → IsGiven (n + 1) o
one-more n None h = tt
one-more n (Some ticket) h = omega (arith, h)

given-asked : {P : Type 0} (command : Command) (ticket : ℕ) (d : Debugger) (old : Client P) → HasAsked command old.debugger d → AreGiven old → AreGiven (asked_under ticket d old)
given-asked command ticket d old has h =
    let n = old.debugger.tickets in
    let own : Asked = record { id = has.id; ticket = Some (record { 0 = n + 1 }); command = command } in
    let least : n + 1 ≤ n + 1 = omega arith in
    record {
      answers =
          subst (λ (x : Debugger). AreIn x.tickets old.answers) (sym has.is)
          (all-mono (λ (kept : Ticket × Answer). kept.0.0 ≤ n) (λ (kept : Ticket × Answer). kept.0.0 ≤ n + 1) old.answers (λ kept k. omega (arith, k)) h.answers);
      waiting =
          subst (λ (x : Debugger). AreWaiting x.tickets x.pending) (sym has.is)
          (all-append (λ (p : Asked). IsGiven (n + 1) p.ticket) old.debugger.pending (own ∷ [])
          (all-mono (λ (p : Asked). IsGiven n p.ticket) (λ (p : Asked). IsGiven (n + 1) p.ticket) old.debugger.pending (λ p k. one-more n p.ticket k) h.waiting) (least, tt));
    }

given-sends : {P : Type 0} (story : P → Story) (command : Command) (ticket : ℕ) (old new : Client P) → Sends story command ticket old new → AreGiven old → AreGiven new
given-sends story command ticket old new s h = given-put story (asked_under ticket s.asked old) new s.put (given-asked command ticket s.asked old s.has h)

given-gives : {P : Type 0} (c : Client P) (ticket : ℕ) (answer : Ticket × Answer) (answers : List (Ticket × Answer)) → HandsOut (is_under ticket) c.answers answer answers → AreGiven c → AreGiven (with_answers answers c)
given-gives c ticket answer answers out h = record {
  answers =
      subst (λ (xs : List (Ticket × Answer)). AreIn c.debugger.tickets xs) (sym out.others)
      (all-remove (λ (kept : Ticket × Answer). kept.0.0 ≤ c.debugger.tickets) out.place c.answers h.answers);
  waiting = h.waiting;
}

-- ---- calls that fail

given-lost : {P : Type 0} (story : P → Story) (old new : Client P) → clients.LosesByWrite story old new → AreGiven old → AreGiven new
given-lost {P} story old new lost h =
    let mid : AreGiven lost.0 = subst (λ (x : Client P). AreGiven x) (sym lost.1.is) (record { answers = h.answers; waiting = h.waiting }) in
    subst (λ (x : Client P). AreGiven x) (sym lost.2) (given-ended lost.0 mid)

given-fails : {P : Type 0} (story : P → Story) (e : ClientError) (old new : Client P) → StepFails story e old new → AreGiven old → AreGiven new
given-fails {P} story (error.Fault fault) old new h k =
    let mid = h.0 in
    let m = given-put story old mid h.1 k in
    let r = h.2.1 in
    let same = turn-fails-tickets (front_of mid.debugger.end) mid.debugger r.0 fault r.1 in
    subst (λ (x : Client P). AreGiven x) (sym r.2) (record { answers = subst (λ (n : ℕ). AreIn n mid.answers) (sym same) m.answers; waiting = tt })
given-fails {P} story (error.Lost ByRead) old new h k =
    let m = given-put story old h.0 h.1 k in
    subst (λ (x : Client P). AreGiven x) (sym h.2.2) (record { answers = m.answers; waiting = tt })
given-fails story (error.Lost ByWrite) old new h k = given-lost story old new h k
given-fails story (error.Refused refused) old new h k = absurd h
given-fails story (error.NotWaiting ticket) old new h k = absurd h
given-fails story error.TooManyEvents old new h k = absurd h
given-fails story error.Closed old new h k = absurd h
given-fails story error.NoMemory old new h k = absurd h
given-fails story (error.TooLate awaited loss) old new h k = absurd h
given-fails story error.TooManySteps old new h k = absurd h

same-given : {P : Type 0} (old new : Client P) → new ≡ old → AreGiven old → AreGiven new
same-given {P} old new e h = subst (λ (x : Client P). AreGiven x) (sym e) h

unsent-given : {P : Type 0} (story : P → Story) (command : Command) (e : ClientError) (old new : Client P) → FailsToSend story command old e new → AreGiven old → AreGiven new
unsent-given story command (error.Refused refused) old new h k = same-given old new h.1 k
unsent-given story command error.Closed old new h k = same-given old new h.1 k
unsent-given story command error.NoMemory old new h k = same-given old new h.1 k
unsent-given story command (error.Lost ByWrite) old new h k = given-lost story (asked_under h.0.tickets h.0 old) new h.2 (given-asked command h.0.tickets h.0 old h.1 k)
unsent-given story command (error.Lost ByRead) old new h k = absurd h
unsent-given story command (error.NotWaiting ticket) old new h k = absurd h
unsent-given story command error.TooManyEvents old new h k = absurd h
unsent-given story command (error.Fault fault) old new h k = absurd h
unsent-given story command (error.TooLate awaited loss) old new h k = absurd h
unsent-given story command error.TooManySteps old new h k = absurd h

-- ---- tickets that were not given yet

not-under : (n ticket : ℕ) → n < ticket → (kept : Ticket × Answer) → kept.0.0 ≤ n → is_under ticket kept ≡ false
not-under n ticket above kept h = grind (arith, nat_tests)

fresh : {P : Type 0} (c : Client P) (ticket : ℕ) → AreGiven c → c.debugger.tickets < ticket → lacks_answer ticket c ≡ true
fresh c ticket h above =
    let n = c.debugger.tickets in
    ap (λ (o : Option ℕ). is_none o) (none-passes (is_under ticket) c.answers
    (all-mono (λ (kept : Ticket × Answer). kept.0.0 ≤ n) (λ (kept : Ticket × Answer). is_under ticket kept ≡ false) c.answers (λ kept k. not-under n ticket above kept k) h.answers))

begins-given : {P : Type 0} (c : Client P) → c.answers ≡ [] → c.debugger.pending ≡ [] → AreGiven c
begins-given c none unasked = record {
  answers = subst (λ (xs : List (Ticket × Answer)). AreIn c.debugger.tickets xs) (sym none) tt;
  waiting = subst (λ (ps : List Asked). AreWaiting c.debugger.tickets ps) (sym unasked) tt;
}

limited-given : {P : Type 0} (story : P → Story) (old new : Client P) → IsLimited story old new → AreGiven old → AreGiven new
limited-given story old new h k = same-given (moved old.debugger new.pipe old) new h.1 (record { answers = k.answers; waiting = k.waiting })

pub keeps-given : {P : Type 0} (story : P → Story) → KeepsGiven story
keeps-given story = record {
  begins = begins-given;
  sends = given-sends story;
  waits = given-waits story;
  gives = given-gives;
  ends = given-ended;
  fails = given-fails story;
  fails_to_send = unsent-given story;
  limits = limited-given story;
  fresh = fresh;
}
