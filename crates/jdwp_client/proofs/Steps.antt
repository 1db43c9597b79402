-- Steps of a wait.
use Rattle.std.proofs.Common.{◌≡◌, ◌∙◌, inr, ℕ, ◌+◌, ◌++◌, List, [], ◌∷◌, Bool, true, false, Ok, Err, Option, Some, None, is_none, length, ap, refl, subst, sym}
use Rattle.std.specs.Prelude.{◌==◌}
use Rattle.std.specs.List.{position}
use Rattle.std.proofs.lemmas.List.{append-nil}
use Rattle.jdwp_wire.specs.declared.packet.Header.{Header}
use Rattle.jdwp_wire.specs.Streams as streams
use Rattle.jdwp_wire.specs.Streams.{NextMessage, Whole, More, Fault}
use Rattle.jdwp_debugger.specs.declared.faults.DebuggerFault.TheVariants as code
use Rattle.jdwp_debugger.specs.declared.turning.Read.TheVariants as read
use Rattle.jdwp_wire.specs.Widths.{Widths}
use Rattle.jdwp_debugger.specs.Asking.{HasAsked, refusal_of_ask}
use Rattle.jdwp_debugger.specs.Debuggers.{Debugger, with_taken}
use Rattle.jdwp_debugger.specs.DebuggerTurns.{Enters, HandlesAt, Told, TurnsAt}
use Rattle.jdwp_debugger.specs.DebuggerTurns as tell
use Rattle.jdwp_debugger.specs.News.{News, Waits, Happens, Answers, Measures}
use Rattle.std.proofs.Math.Seq.{drop-length}
use Rattle.std.proofs.lemmas.List.{flat_map_more}
use Rattle.jdwp_action.specs.Actions.{Command}
use Rattle.jdwp_end.specs.Ends.{is_open}
use Rattle.jdwp_end.specs.Story.{FailsFlush, FailsRead, Story, with_written}
use Rattle.jdwp_debugger.specs.declared.pending.Ticket.{Ticket}
use Rattle.jdwp_event.specs.Composites.{CompositeMeaning}
use Rattle.jdwp_layout.specs.declared.answer.Answer.{Answer}
use Rattle.jdwp_debugger.specs.DebuggerTurns.{read_meaning}
use Rattle.jdwp_client.specs.declared.errors.ClientError.{ClientError}
use Rattle.jdwp_client.specs.declared.errors.ClientError.TheVariants as error
use Rattle.jdwp_client.specs.declared.errors.Loss.TheVariants.{ByRead, ByWrite}
use Rattle.jdwp_client.specs.Clients as clients
use Rattle.jdwp_client.specs.Clients.{AsksFor, Client, EndsWait, Enqueues, FailsToAsk, FailsToSend, FailsToWait, GivesAnswer, GoesOn, IsTurned, KeepsTold, LosesByWrite, Puts, PutsPart, ReadsOnce, Sends, Stops, WaitsIn, WaitsNot, WaitsTo, Begins, Writes, Turns, Reads, asked_under, ended, lacks_answer, lacks_event, lacks_events, lacks_sizes, ended_where, failed_by, moved, settled, with_told}
use Rattle.jdwp_client.specs.Keeping.{answers_in, composites_in, is_full, is_under}
use Rattle.jdwp_client.specs.Turning.{FailsKept, TurnsKept, unread}

-- ---- a turn that handled nothing

entered-nothing : (message : streams.Message) (used : ℕ) (header : Header) (news : News) (old new : Debugger) → Enters message used header news old tell.Nothing new → ⊥
entered-nothing message used header (Waits bytes) old new h = let e = h.0 in cc
entered-nothing message used header (Happens c) old new h = let e = h.0 in cc
entered-nothing message used header (Answers place ticket answer) old new h = let e = h.0 in cc
entered-nothing message used header (Measures place answer w cs) old new h = let e = h.0 in cc

handled-nothing : (message : streams.Message) (used : ℕ) (old new : Debugger) → HandlesAt message used old (Ok read.Nothing) new → ⊥
handled-nothing streams.Handshake used old new h = let e = h.0 in cc
handled-nothing (streams.Packet header body) used old new h = entered-nothing (streams.Packet header body) used header h.news old new h.entered

pub nothing-More : (next : NextMessage) (old new : Debugger) → TurnsAt next old (Ok read.Nothing) new → (next ≡ More) × (new ≡ record old { last = [] })
nothing-More (Whole message used) old new h = absurd (handled-nothing message used old new h)
nothing-More More old new h = (refl, h.1)
nothing-More (Fault fault) old new h = absurd (let e = h.0 in cc)

-- ---- a turn that wanted memory

packet-memory : (header : Header) (body : List ℕ) (used : ℕ) (old new : Debugger) → HandlesAt (streams.Packet header body) used old (Err code.NoMemory) new → new ≡ old
packet-memory header body used old new h = h.1

pub memory-same : (next : NextMessage) (old new : Debugger) → TurnsAt next old (Err code.NoMemory) new → new ≡ old
memory-same (Whole streams.Handshake used) old new h = h.1
memory-same (Whole (streams.Packet header body) used) old new h = packet-memory header body used old new h
memory-same More old new h = absurd (let e = h.0 in cc)
memory-same (Fault fault) old new h = absurd (let e = h.0 in cc)

-- ---- what is written before a turn

pub put-open : {P : Type 0} (story : P → Story) (old mid : Client P) → Puts story old mid → is_open mid.debugger.end ≡ is_open old.debugger.end
put-open {P} story old mid put = ap (λ (c : Client P). is_open c.debugger.end) put.is

pub put-all : {P : Type 0} (story : P → Story) (old mid : Client P) → Puts story old mid → mid.debugger.end.outgoing ≡ []
put-all {P} story old mid put = ap (λ (c : Client P). c.debugger.end.outgoing) put.is ∙ drop-length old.debugger.end.outgoing

pub put-left : {P : Type 0} (story : P → Story) (old mid : Client P) → Puts story old mid → (story mid.pipe).unflushed ≡ []
put-left story old mid put = ap (λ (s : Story). s.unflushed) put.pipe

-- ---- a step

pub turned : {P : Type 0} (story : P → Story) (old mid now new : Client P) → is_open old.debugger.end ≡ true → Puts story old mid
    → TurnsKept true mid.debugger mid.events mid.answers now.debugger now.events now.answers
    → IsTurned mid now → new ≡ settled now → GoesOn story old new
turned {P} story old mid now new opened put t same is M base n missing w =
    let told = read_meaning t.0 in
    let kept : now ≡ with_told told now.debugger mid =
    same ∙ (ap (λ (es : List CompositeMeaning). record mid { debugger = now.debugger; events = es; answers = now.answers }) t.2
    ∙ ap (λ (xs : List (Ticket × Answer)). record mid { debugger = now.debugger; events = mid.events ++ composites_in told; answers = xs }) t.3) in
    subst (λ (x : Client P). WaitsIn story M base (n + 1) x) (sym (is ∙ ap settled kept))
    (w.0 ++ told ∷ [], Turns n w.0 old mid t.0 now.debugger w.1 missing opened put t.1)

-- where nothing was whole, the client after the turn
still : {P : Type 0} (mid now : Client P) → TurnsKept false mid.debugger mid.events mid.answers now.debugger now.events now.answers
    → IsTurned mid now → now ≡ moved (unread mid.debugger) mid.pipe mid
still mid now t same =
    same ∙ (ap (λ (d : Debugger). record mid { debugger = d; events = now.events; answers = now.answers }) t.1
    ∙ (ap (λ (es : List CompositeMeaning). record mid { debugger = unread mid.debugger; events = es; answers = now.answers }) t.3
    ∙ ap (λ (xs : List (Ticket × Answer)). record mid { debugger = unread mid.debugger; events = mid.events; answers = xs }) t.4))

pub read-more : {P : Type 0} (story : P → Story) (old mid now new : Client P) → is_open old.debugger.end ≡ true → Puts story old mid
    → TurnsKept false mid.debugger mid.events mid.answers now.debugger now.events now.answers
    → IsTurned mid now → ReadsOnce story now new → GoesOn story old new
read-more {P} story old mid now new opened put t same h M base n missing w =
    let k : ReadsOnce story (moved (unread mid.debugger) mid.pipe mid) new = subst (λ (x : Client P). ReadsOnce story x new) (still mid now t same) h in
    subst (λ (x : Client P). WaitsIn story M base (n + 1) x) (sym k.is) (w.0, Reads n w.0 old mid k.bytes new.pipe w.1 missing opened put t.0 k.few k.pipe)

pub read-fails : {P : Type 0} (story : P → Story) (old mid now new : Client P) → is_open old.debugger.end ≡ true → Puts story old mid
    → TurnsKept false mid.debugger mid.events mid.answers now.debugger now.events now.answers
    → IsTurned mid now
    → FailsRead (story now.pipe) (story new.pipe) → new ≡ ended (moved now.debugger new.pipe now) → EndsWait story old (error.Lost ByRead) new
read-fails {P} story old mid now new opened put t same fails is M base n missing w =
    let k = still mid now t same in
    (old, (n, w), missing, (mid, put, (t.0, subst (λ (x : Client P). FailsRead (story x.pipe) (story new.pipe)) k fails, subst (λ (x : Client P). new ≡ ended (moved x.debugger new.pipe x)) k is)))

pub put-fails : {P : Type 0} (story : P → Story) (old new : Client P) → LosesByWrite story old new → EndsWait story old (error.Lost ByWrite) new
put-fails story old new h M base n missing w = (old, (n, w), missing, h)

pub is-closed : {P : Type 0} (story : P → Story) (old : Client P) → is_open old.debugger.end ≡ false → EndsWait story old error.Closed old
is-closed story old closed M base n missing w = ((n, w), missing, closed)

-- where no turn was made, nothing has changed behind what was written
unmade : {P : Type 0} (mid now : Client P) → now.debugger ≡ mid.debugger → now.events ≡ mid.events → now.answers ≡ mid.answers
    → IsTurned mid now → now ≡ mid
unmade mid now d es xs same =
    same ∙ (ap (λ (x : Debugger). record mid { debugger = x; events = now.events; answers = now.answers }) d
    ∙ (ap (λ (x : List CompositeMeaning). record mid { events = x; answers = now.answers }) es ∙ ap (λ (x : List (Ticket × Answer)). record mid { answers = x }) xs))

pub turn-fails : {P : Type 0} (story : P → Story) (old mid now : Client P) (e : ClientError) → is_open old.debugger.end ≡ true → Puts story old mid
    → FailsKept mid.most_events e mid.debugger mid.events mid.answers now.debugger now.events now.answers
    → IsTurned mid now → EndsWait story old e (failed_by e now)
turn-fails {P} story old mid now error.NoMemory opened put h same M base n missing w =
    subst (λ (x : Client P). WaitsTo story M base x) (sym (unmade mid now h.1 h.2 h.3 same)) (n + 1, (w.0, Writes n w.0 old mid w.1 missing opened put))
turn-fails {P} story old mid now error.TooManyEvents opened put h same M base n missing w =
    subst (λ (x : Client P). WaitsTo story M base x × (is_full x.most_events x.events ≡ true)) (sym (unmade mid now h.1 h.2 h.3 same)) ((n + 1, (w.0, Writes n w.0 old mid w.1 missing opened put)), h.0)
turn-fails {P} story old mid now (error.Fault fault) opened put h same M base n missing w =
    let k : now ≡ moved now.debugger mid.pipe mid =
    same ∙ (ap (λ (x : List CompositeMeaning). record mid { debugger = now.debugger; events = x; answers = now.answers }) h.2 ∙ ap (λ (x : List (Ticket × Answer)). record mid { debugger = now.debugger; answers = x }) h.3) in
    (old, (n, w), missing, (mid, put, (h.0, (now.debugger, h.1, ap ended k))))
turn-fails story old mid now (error.Refused refused) opened put h same M base n missing w = absurd h.0
turn-fails story old mid now (error.NotWaiting ticket) opened put h same M base n missing w = absurd h.0
turn-fails story old mid now error.Closed opened put h same M base n missing w = absurd h.0
turn-fails story old mid now (error.Lost loss) opened put h same M base n missing w = absurd h.0
turn-fails story old mid now (error.TooLate awaited loss) opened put h same M base n missing w = absurd h.0
turn-fails story old mid now error.TooManySteps opened put h same M base n missing w = absurd h.0

-- ---- what is kept

settled-events : {P : Type 0} (b : Bool) (c : Client P) → (ended_where b c).events ≡ c.events
settled-events true c = refl
settled-events false c = refl

settled-answers : {P : Type 0} (b : Bool) (c : Client P) → (ended_where b c).answers ≡ c.answers
settled-answers true c = refl
settled-answers false c = refl

pub keeps-told : {P : Type 0} (story : P → Story) (M : Client P → Bool) (base new : Client P) (n : ℕ) (told : List Told) → clients.Waits story M base n told new → KeepsTold base told new
keeps-told story M base new' n' told' Begins = record { events = sym (append-nil base.events); answers = sym (append-nil base.answers) }
keeps-told {P} story M base new' n' told' (Writes n told old new w missing opened put) =
    let k = keeps-told story M base old n told w in
    record { events = ap (λ (c : Client P). c.events) put.is ∙ k.events; answers = ap (λ (c : Client P). c.answers) put.is ∙ k.answers }
keeps-told {P} story M base new' n' told' (Turns n told old mid read d w missing opened put turn) =
    let k = keeps-told story M base old n told w in
    let r = read_meaning read in
    let c = with_told r d mid in
    record {
      events = settled-events (is_open d.end) c ∙ (ap (λ (x : Client P). x.events ++ composites_in r) put.is ∙ (ap (λ (xs : List CompositeMeaning). xs ++ composites_in r) k.events ∙ flat_map_more composites_in base.events told r));
      answers = settled-answers (is_open d.end) c ∙ (ap (λ (x : Client P). x.answers ++ answers_in r) put.is ∙ (ap (λ (xs : List (Ticket × Answer)). xs ++ answers_in r) k.answers ∙ flat_map_more answers_in base.answers told r));
    }
keeps-told {P} story M base new' n' told' (Reads n told old mid bytes pipe w missing opened put more few read) =
    let k = keeps-told story M base old n told w in
    record { events = ap (λ (c : Client P). c.events) put.is ∙ k.events; answers = ap (λ (c : Client P). c.answers) put.is ∙ k.answers }

-- ---- calls

pub asks-for : {P : Type 0} (story : P → Story) (command : Command) (ticket : ℕ) (old mid : Client P) (answer : Answer) (new : Client P) → Sends story command ticket old mid
    → GivesAnswer story ticket mid answer new → AsksFor story command old answer new
asks-for {P} story command ticket old mid answer new sent given =
    (mid, subst (λ (n : ℕ). Sends story command n old mid) sent.ticket_is sent, subst (λ (n : ℕ). GivesAnswer story n mid answer new) sent.ticket_is given)

pub fails-to-ask : {P : Type 0} (story : P → Story) (command : Command) (ticket : ℕ) (old mid : Client P) (e : ClientError) (new : Client P) → Sends story command ticket old mid
    → Stops story (lacks_answer ticket) mid e new → FailsToAsk story command old e new
fails-to-ask {P} story command ticket old mid e new sent stops =
    inr (mid, subst (λ (n : ℕ). Sends story command n old mid) sent.ticket_is sent, subst (λ (n : ℕ). Stops story (lacks_answer n) mid e new) sent.ticket_is stops)

pub waits-not : {P : Type 0} (story : P → Story) (ticket : Ticket) (c : Client P) (e : ClientError) → WaitsNot ticket c e → FailsToWait story ticket c e c
waits-not story ticket c (error.NotWaiting other) h = (h, refl)
waits-not story ticket c error.Closed h = ((0, ([], Begins)), h.0, h.2)
waits-not story ticket c (error.Refused refused) h = absurd h
waits-not story ticket c error.TooManyEvents h = absurd h
waits-not story ticket c (error.Fault fault) h = absurd h
waits-not story ticket c (error.Lost loss) h = absurd h
waits-not story ticket c error.NoMemory h = absurd h
waits-not story ticket c (error.TooLate awaited loss) h = absurd h
waits-not story ticket c error.TooManySteps h = absurd h

pub stops-wait : {P : Type 0} (story : P → Story) (ticket : Ticket) (old : Client P) (e : ClientError) (new : Client P) → Stops story (lacks_answer ticket.0) old e new
    → FailsToWait story ticket old e new
stops-wait story ticket old (error.NotWaiting other) new h = absurd h
stops-wait story ticket old error.Closed new h = h
stops-wait story ticket old (error.Refused refused) new h = h
stops-wait story ticket old error.TooManyEvents new h = h
stops-wait story ticket old (error.Fault fault) new h = h
stops-wait story ticket old (error.Lost loss) new h = h
stops-wait story ticket old error.NoMemory new h = h
stops-wait story ticket old (error.TooLate awaited loss) new h = h
stops-wait story ticket old error.TooManySteps new h = h

pub sends-by : {P : Type 0} (story : P → Story) (command : Command) (ticket : ℕ) (old mid new : Client P) → Enqueues command ticket old mid → Puts story mid new → Sends story command ticket old new
sends-by {P} story command ticket old mid new q put = record {
  unrefused = q.unrefused;
  ticket_is = q.ticket_is;
  asked = q.asked;
  has = q.has;
  put = subst (λ (x : Client P). Puts story x new) q.is put;
}

pub loses-sent : {P : Type 0} (story : P → Story) (command : Command) (ticket : ℕ) (old mid new : Client P) → Enqueues command ticket old mid → LosesByWrite story mid new
    → FailsToSend story command old (error.Lost ByWrite) new
loses-sent {P} story command ticket old mid new q lost =
    let given : ticket ≡ q.asked.tickets = q.ticket_is ∙ sym (ap (λ (d : Debugger). d.tickets) q.has.is) in
    (q.asked, q.has, subst (λ (x : Client P). LosesByWrite story x new) (q.is ∙ ap (λ (n : ℕ). asked_under n q.asked old) given) lost)

-- what was written, where the flush behind it failed
pub puts-part : {P : Type 0} (story : P → Story) (old : Client P) (d : Debugger) (mid pipe : P) → d ≡ with_taken old.debugger.end.outgoing old.debugger
    → story mid ≡ with_written old.debugger.end.outgoing (story old.pipe) → FailsFlush (story mid) (story pipe) → PutsPart story old (moved d pipe old)
puts-part {P} story old d mid pipe taken written fails = record {
  taken = old.debugger.end.outgoing;
  fails = inr (refl, subst (λ (s : Story). FailsFlush s (story pipe)) written fails);
  is = ap (λ (x : Debugger). moved x pipe old) taken;
}

pub enqueued : {P : Type 0} (command : Command) (ticket : Ticket) (old : Client P) (d : Debugger) → refusal_of_ask old.debugger command ≡ None → ticket.0 ≡ old.debugger.tickets + 1
    → HasAsked command old.debugger d → Enqueues command ticket.0 old (record old { debugger = d; sent = Some ticket })
enqueued command ticket old d unrefused is has = record { unrefused = unrefused; ticket_is = is; asked = d; has = has; is = refl }

-- ---- waits

-- a step where something is missing
pub goes-at : {P : Type 0} (story : P → Story) (M : Client P → Bool) (base : Client P) (n : ℕ) (old mid new : Client P) → WaitsIn story M base n old → mid ≡ old → M old ≡ true
    → GoesOn story mid new → WaitsIn story M base (n + 1) new
goes-at {P} story M base n old mid new w same missing goes =
    goes M base n (subst (λ (x : Client P). M x ≡ true) (sym same) missing) (subst (λ (x : Client P). WaitsIn story M base n x) (sym same) w)

pub ends-at : {P : Type 0} (story : P → Story) (M : Client P → Bool) (base : Client P) (n : ℕ) (old mid : Client P) (e : ClientError) (new : Client P) → WaitsIn story M base n old
    → mid ≡ old → M old ≡ true → EndsWait story mid e new → Stops story M base e new
ends-at {P} story M base n old mid e new w same missing ends =
    ends M base n (subst (λ (x : Client P). M x ≡ true) (sym same) missing) (subst (λ (x : Client P). WaitsIn story M base n x) (sym same) w)

pub no-events : {P : Type 0} (c : Client P) → c.events ≡ [] → lacks_events c ≡ true
no-events c none = ap (λ (es : List CompositeMeaning). length es == 0) none

pub no-event : {P : Type 0} (p : CompositeMeaning → Bool) (c : Client P) → position p c.events ≡ None → lacks_event p c ≡ true
no-event p c none = ap (λ (o : Option ℕ). is_none o) none

pub no-answer : {P : Type 0} (ticket : ℕ) (c : Client P) → position (is_under ticket) c.answers ≡ None → lacks_answer ticket c ≡ true
no-answer ticket c none = ap (λ (o : Option ℕ). is_none o) none

pub no-sizes : {P : Type 0} (c : Client P) → None ≡ c.debugger.sizes → lacks_sizes c ≡ true
no-sizes c none = ap (λ (o : Option Widths). is_none o) (sym none)
