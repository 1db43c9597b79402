-- What went through a client's pipe.
use Rattle.std.proofs.Common.{◌≡◌, ◌∙◌, ℕ, ◌++◌, List, [], Bool, true, false, Ok, Err, inl, inr, Some, ap, refl, subst, sym, append_assoc}
use Rattle.std.proofs.lemmas.List.{append-nil}
use Rattle.jdwp_wire.specs.declared.packet.Header.{Header}
use Rattle.jdwp_wire.specs.Streams as streams
use Rattle.jdwp_wire.specs.Streams.{NextMessage, Whole, More, Fault, IsFront}
use Rattle.jdwp_wire.specs.Widths.{Widths}
use Rattle.jdwp_wire.specs.Limits.{Limits}
use Rattle.jdwp_end.specs.Ends.{front_of, is_open}
use Rattle.jdwp_end.specs.Sessions.{Session}
use Rattle.std.specs.List.{list_any}
use Rattle.jdwp_mirror.specs.Messages.{Reply, Report}
use Rattle.jdwp_mirror.specs.Mirror.{ends}
use Rattle.jdwp_action.specs.Actions.{Command}
use Rattle.jdwp_end.specs.Story.{Story}
use Rattle.jdwp_debugger.specs.declared.faults.DebuggerFault.{DebuggerFault}
use Rattle.jdwp_debugger.specs.declared.faults.DebuggerFault.TheVariants as code
use Rattle.jdwp_debugger.specs.declared.order.Order.{Order}
use Rattle.jdwp_debugger.specs.declared.turning.Read.{Read}
use Rattle.jdwp_debugger.specs.Asking.{HasAsked}
use Rattle.jdwp_debugger.specs.Debuggers.{Debugger, attached, new_debugger_in, with_taken}
use Rattle.jdwp_debugger.specs.DebuggerTurns.{Enters, HandlesAt, Told, TurnsAt, closed_where, command_at, measured_where, read_meaning, reports}
use Rattle.jdwp_debugger.specs.News.{News, Waits, Happens, Answers, Measures}
use Rattle.jdwp_client.specs.declared.errors.ClientError.{ClientError}
use Rattle.jdwp_client.specs.declared.errors.ClientError.TheVariants as error
use Rattle.jdwp_client.specs.declared.errors.Loss.TheVariants.{ByRead, ByWrite}
use Rattle.jdwp_client.specs.Clients as clients
use Rattle.jdwp_client.specs.Clients.{Client, FailsPut, FailsToSend, IsLimited, Puts, Sends, StepFails, Begins, Writes, Turns, Reads, asked_under, ended, ended_where, moved, settled, with_told}
use Rattle.jdwp_client.specs.Exact.{IsCut, IsExact, KeepsExact}
use Rattle.jdwp_client.specs.Turning.{unread}

-- ---- what a turn leaves of what came and left

-- what was fed, and what was taken
abbrev flow-in : Session → List ℕ × List ℕ
flow-in s = (s.fed, s.taken)

abbrev flow : Debugger → List ℕ × List ℕ
flow d = flow-in d.end.session

where-session : (b : Bool) (mid : Debugger) → (closed_where b mid).end.session ≡ mid.end.session
where-session true mid = refl
where-session false mid = refl

measured-session : (b : Bool) (w : Widths) (mid : Debugger) → (measured_where b w mid).end.session ≡ mid.end.session
measured-session true w mid = refl
measured-session false w mid = refl

entered-flow : (message : streams.Message) (used : ℕ) (header : Header) (news : News) (old new : Debugger) (t : Told) → Enters message used header news old t new → flow new ≡ flow old
entered-flow message used header (Waits bytes) old new t h = ap flow h.1
entered-flow message used header (Happens c) old new t h = ap flow h.1.4 ∙ ap flow-in (where-session (ends (Report c)) _)
entered-flow message used header (Answers place ticket answer) old new t h =
    ap flow h.1.4 ∙ ap flow-in (where-session (ends (Reply (Some ticket) (command_at place old.pending) answer)) _)
entered-flow message used header (Measures place answer w cs) old new t h = ap flow h.1.4 ∙ ap flow-in (measured-session (list_any ends (reports cs)) w _)

turn-flow : (next : NextMessage) (old new : Debugger) (read : Read) → TurnsAt next old (Ok read) new → flow new ≡ flow old
turn-flow (Whole streams.Handshake used) old new read h = ap flow h.2
turn-flow (Whole (streams.Packet header body) used) old new read h = entered-flow (streams.Packet header body) used header h.news old new (read_meaning read) h.entered
turn-flow More old new read h = ap flow h.1
turn-flow (Fault fault) old new read h = absurd (let e = h.0 in cc)

packet-fails : (header : Header) (body : List ℕ) (used : ℕ) (old new : Debugger) (fault : DebuggerFault) → HandlesAt (streams.Packet header body) used old (Err fault) new → flow new ≡ flow old
packet-fails header body used old new code.NoMemory h = ap flow h.1
packet-fails header body used old new (code.Frame fault) h = ap flow h.1
packet-fails header body used old new code.UnknownReply h = ap flow h.1
packet-fails header body used old new code.BadReply h = ap flow h.1
packet-fails header body used old new code.TooManyParked h = ap flow h.1
packet-fails header body used old new code.BadEvent h = ap flow h.1

turn-fails-flow : (next : NextMessage) (old new : Debugger) (fault : DebuggerFault) → TurnsAt next old (Err fault) new → flow new ≡ flow old
turn-fails-flow (Whole streams.Handshake used) old new fault h = ap flow h.1
turn-fails-flow (Whole (streams.Packet header body) used) old new fault h = packet-fails header body used old new fault h
turn-fails-flow More old new fault h = absurd (let e = h.0 in cc)
turn-fails-flow (Fault fault') old new fault h = ap flow h.1

-- ---- exact

exact-by : (start now : Story) (old new : Debugger) → flow new ≡ flow old → IsExact start now old → IsExact start now new
exact-by start now old new s h = record {
  read = h.read ∙ ap (λ (f : List ℕ × List ℕ). start.read ++ f.0) (sym s);
  written = h.written ∙ ap (λ (f : List ℕ × List ℕ). start.written ++ f.1) (sym s);
  prompt = h.prompt;
}

exact-put : {P : Type 0} (story : P → Story) (start : Story) (old new : Client P) → Puts story old new → IsExact start (story old.pipe) old.debugger → IsExact start (story new.pipe) new.debugger
exact-put {P} story start old new put h = record {
  read = ap (λ (s : Story). s.read) put.pipe ∙ (h.read ∙ ap (λ (c : Client P). start.read ++ c.debugger.end.session.fed) (sym put.is));
  written =
      ap (λ (s : Story). s.written) put.pipe
      ∙ (ap (λ (xs : List ℕ). xs ++ old.debugger.end.outgoing) h.written
      ∙ (append_assoc start.written old.debugger.end.session.taken old.debugger.end.outgoing ∙ ap (λ (c : Client P). start.written ++ c.debugger.end.session.taken) (sym put.is)));
  prompt = ap (λ (s : Story). s.early) put.pipe ∙ h.prompt;
}

exact-cut : (start now : Story) (d : Debugger) → IsExact start now d → IsCut start now d
exact-cut start now d h = record { read = h.read; written = (d.end.session.taken, h.written, ([], sym (append-nil d.end.session.taken))); prompt = h.prompt }

-- the end of a session changes neither
ended-flow : {P : Type 0} (c : Client P) → flow (ended c).debugger ≡ flow c.debugger
ended-flow c = refl

settled-flow : {P : Type 0} (b : Bool) (c : Client P) → flow (ended_where b c).debugger ≡ flow c.debugger
settled-flow true c = refl
settled-flow false c = refl

settled-pipe : {P : Type 0} (b : Bool) (c : Client P) → (ended_where b c).pipe ≡ c.pipe
settled-pipe true c = refl
settled-pipe false c = refl

asked-flow : (command : Command) (old new : Debugger) → HasAsked command old new → flow new ≡ flow old
asked-flow command old new h = ap flow h.is

-- ---- steps

exact-waits : {P : Type 0} (story : P → Story) (start : Story) (M : Client P → Bool) (base new : Client P) (n : ℕ) (told : List Told) → clients.Waits story M base n told new
    → IsExact start (story base.pipe) base.debugger → IsExact start (story new.pipe) new.debugger
exact-waits story start M base new' n' told' Begins h = h
exact-waits story start M base new' n' told' (Writes n told old new w missing opened put) h = exact-put story start old new put (exact-waits story start M base old n told w h)
exact-waits {P} story start M base new' n' told' (Turns n told old mid read d w missing opened put turn) h =
    let k = exact-put story start old mid put (exact-waits story start M base old n told w h) in
    let c = with_told (read_meaning read) d mid in
    subst (λ (p : P). IsExact start (story p) (settled c).debugger) (sym (settled-pipe (is_open d.end) c))
    (exact-by start (story mid.pipe) d (settled c).debugger (settled-flow (is_open d.end) c)
    (exact-by start (story mid.pipe) mid.debugger d (turn-flow (front_of mid.debugger.end) mid.debugger d read turn) k))
exact-waits {P} story start M base new' n' told' (Reads n told old mid bytes pipe w missing opened put more few read) h =
    let k = exact-put story start old mid put (exact-waits story start M base old n told w h) in
    record {
      read =
          ap (λ (s : Story). s.read) read
          ∙ (ap (λ (xs : List ℕ). xs ++ bytes) k.read ∙ append_assoc start.read mid.debugger.end.session.fed bytes);
      written = ap (λ (s : Story). s.written) read ∙ k.written;
      prompt = ap (λ (s : Story). s.early) read ∙ k.prompt;
    }

exact-sends : {P : Type 0} (story : P → Story) (start : Story) (command : Command) (ticket : ℕ) (old new : Client P) → Sends story command ticket old new
    → IsExact start (story old.pipe) old.debugger → IsExact start (story new.pipe) new.debugger
exact-sends story start command ticket old new s h =
    exact-put story start (asked_under ticket s.asked old) new s.put (exact-by start (story old.pipe) old.debugger s.asked (asked-flow command old.debugger s.asked s.has) h)

-- ---- calls that fail

-- a beginning, of what was taken before and of these bytes
front-behind : (before some all : List ℕ) → IsFront some all → IsFront (before ++ some) (before ++ all)
front-behind before some all f = (f.0, ap (λ (xs : List ℕ). before ++ xs) f.1 ∙ sym (append_assoc before some f.0))

cut-put : (start old new : Story) (d : Debugger) (taken : List ℕ) → FailsPut old new taken d.end.outgoing → IsExact start old d → IsCut start new (with_taken taken d)
cut-put start old new d taken (inl f) h = record {
  read = f.1.read ∙ h.read;
  written = (
    d.end.session.taken ++ f.1.written.0,
    f.1.written.1 ∙ (ap (λ (xs : List ℕ). xs ++ f.1.written.0) h.written ∙ append_assoc start.written d.end.session.taken f.1.written.0),
    front-behind d.end.session.taken f.1.written.0 taken f.1.written.2,
  );
  prompt = f.1.early ∙ h.prompt;
}
cut-put start old new d taken (inr f) h = record {
  read = ap (λ (s : Story). s.read) f.1 ∙ h.read;
  written = (
    d.end.session.taken ++ taken,
    ap (λ (s : Story). s.written) f.1
        ∙ (ap (λ (xs : List ℕ). old.written ++ xs) (sym f.0)
        ∙ (ap (λ (xs : List ℕ). xs ++ taken) h.written ∙ append_assoc start.written d.end.session.taken taken)),
    ([], sym (append-nil (d.end.session.taken ++ taken))),
  );
  prompt = ap (λ (s : Story). s.early) f.1 ∙ h.prompt;
}

cut-lost : {P : Type 0} (story : P → Story) (start : Story) (old new : Client P) → clients.LosesByWrite story old new
    → IsExact start (story old.pipe) old.debugger → IsCut start (story new.pipe) new.debugger
cut-lost {P} story start old new h k =
    let mid = h.0 in
    let part = h.1 in
    let c = cut-put start (story old.pipe) (story mid.pipe) old.debugger part.taken part.fails k in
    let m : IsCut start (story mid.pipe) mid.debugger = subst (λ (x : Client P). IsCut start (story mid.pipe) x.debugger) (sym part.is) (record { read = c.read; written = c.written; prompt = c.prompt }) in
    subst (λ (x : Client P). IsCut start (story x.pipe) x.debugger) (sym h.2) (record { read = m.read; written = m.written; prompt = m.prompt })

cut-fails : {P : Type 0} (story : P → Story) (start : Story) (e : ClientError) (old new : Client P) → StepFails story e old new
    → IsExact start (story old.pipe) old.debugger → IsCut start (story new.pipe) new.debugger
cut-fails {P} story start (error.Fault fault) old new h k =
    let mid = h.0 in
    let r = h.2 in
    let d = r.1.0 in
    let c = moved d mid.pipe mid in
    let x = exact-put story start old mid h.1 k in
    let y = exact-by start (story mid.pipe) mid.debugger d (turn-fails-flow (front_of mid.debugger.end) mid.debugger d fault r.1.1) x in
    subst (λ (z : Client P). IsCut start (story z.pipe) z.debugger) (sym r.1.2) (exact-cut start (story mid.pipe) (ended c).debugger (exact-by start (story mid.pipe) d (ended c).debugger (ended-flow c) y))
cut-fails {P} story start (error.Lost ByRead) old new h k =
    let mid = h.0 in
    let f = h.2.1 in
    let x = exact-put story start old mid h.1 k in
    let y : IsExact start (story new.pipe) mid.debugger = record { read = f.read ∙ x.read; written = f.written ∙ x.written; prompt = f.early ∙ x.prompt } in
    subst (λ (z : Client P). IsCut start (story new.pipe) z.debugger) (sym h.2.2) (exact-cut start (story new.pipe) (ended (moved (unread mid.debugger) new.pipe mid)).debugger (record { read = y.read; written = y.written; prompt = y.prompt }))
cut-fails story start (error.Lost ByWrite) old new h k = cut-lost story start old new h k
cut-fails story start (error.Refused refused) old new h k = absurd h
cut-fails story start (error.NotWaiting ticket) old new h k = absurd h
cut-fails story start error.TooManyEvents old new h k = absurd h
cut-fails story start error.Closed old new h k = absurd h
cut-fails story start error.NoMemory old new h k = absurd h
cut-fails story start (error.TooLate awaited loss) old new h k = absurd h
cut-fails story start error.TooManySteps old new h k = absurd h

same-client : {P : Type 0} (story : P → Story) (start : Story) (old new : Client P) → new ≡ old → IsExact start (story old.pipe) old.debugger → IsCut start (story new.pipe) new.debugger
same-client {P} story start old new e h = subst (λ (x : Client P). IsCut start (story x.pipe) x.debugger) (sym e) (exact-cut start (story old.pipe) old.debugger h)

cut-sends : {P : Type 0} (story : P → Story) (start : Story) (command : Command) (e : ClientError) (old new : Client P) → FailsToSend story command old e new
    → IsExact start (story old.pipe) old.debugger → IsCut start (story new.pipe) new.debugger
cut-sends story start command (error.Refused refused) old new h k = same-client story start old new h.1 k
cut-sends story start command error.Closed old new h k = same-client story start old new h.1 k
cut-sends story start command error.NoMemory old new h k = same-client story start old new h.1 k
cut-sends story start command (error.Lost ByWrite) old new h k =
    cut-lost story start (asked_under h.0.tickets h.0 old) new h.2 (exact-by start (story old.pipe) old.debugger h.0 (asked-flow command old.debugger h.0 h.1) k)
cut-sends story start command (error.Lost ByRead) old new h k = absurd h
cut-sends story start command (error.NotWaiting ticket) old new h k = absurd h
cut-sends story start command error.TooManyEvents old new h k = absurd h
cut-sends story start command (error.Fault fault) old new h k = absurd h
cut-sends story start command (error.TooLate awaited loss) old new h k = absurd h
cut-sends story start command error.TooManySteps old new h k = absurd h

begins-exact : (order : Order) (limits : Limits) (id : ℕ) (s : Story) → IsExact s s (attached (new_debugger_in order limits id))
begins-exact order limits id s = record { read = sym (append-nil s.read); written = sym (append-nil s.written); prompt = refl }

limited : {P : Type 0} (story : P → Story) (K : Story → Debugger → Type 0) (old new : Client P) → IsLimited story old new → K (story old.pipe) old.debugger → K (story new.pipe) new.debugger
limited {P} story K old new h k =
    subst (λ (c : Client P). K (story new.pipe) c.debugger) (sym h.1) (subst (λ (s : Story). K s old.debugger) (sym h.0) k)

pub keeps-exact : {P : Type 0} (story : P → Story) → KeepsExact story
keeps-exact story = record {
  begins = λ order limits id pipe. begins-exact order limits id (story pipe);
  sends = exact-sends story;
  waits = exact-waits story;
  ends = λ start c h. exact-by start (story c.pipe) c.debugger (ended c).debugger (ended-flow c) h;
  fails = cut-fails story;
  fails_to_send = cut-sends story;
  limits = λ start. limited story (IsExact start);
  limits_behind = λ start. limited story (IsCut start);
}
