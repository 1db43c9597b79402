-- What calls leave of the visits.
use Rattle.std.proofs.Common.{◌≡◌, ◌∙◌, ◌==◌, ℕ, ◌⊎◌, inl, inr, Bool, true, false, cond, ◌||◌, List, Option, Some, None, Result, Ok, Err, refl, sym, ap, subst}
use Rattle.std.specs.List.{AllByRecursion}
use Rattle.std.proofs.lemmas.Bool.{eq-eqb, eqb-true, false_from_ne_true}
use Rattle.jdwp_wire.specs.Streams.{Message, Handshake, Packet}
use Rattle.jdwp_wire.specs.Widths.{Widths}
use Rattle.jdwp_wire.specs.declared.error_code.ErrorCode.{ErrorCode}
use Rattle.jdwp_wire.specs.declared.packet.Header.{Header}
use Rattle.jdwp_wire.specs.declared.packet.PacketKind.{PacketKind}
use Rattle.jdwp_wire.specs.declared.packet.PacketKind.TheVariants as kind
use Rattle.jdwp_end.specs.declared.phase.Phase.{Phase}
use Rattle.jdwp_end.specs.declared.phase.Phase.TheVariants.{Closed, AwaitingHandshake, Established}
use Rattle.jdwp_event.specs.Composites.{CompositeMeaning, POLICY_ALL}
use Rattle.jdwp_layout.specs.declared.answer.Answer.{Answer}
use Rattle.jdwp_layout.specs.declared.answer.Answer.TheVariants.{Data, Error}
use Rattle.jdwp_machine.specs.Meanings.{Meaning}
use Rattle.jdwp_action.specs.Actions
use Rattle.jdwp_action.specs.Actions.{Action, Carried, Command, action_of}
use Rattle.jdwp_debuggee.specs.Answering.{read_as}
use Rattle.jdwp_debuggee.specs.Effects.{Effect, effect}
use Rattle.jdwp_debuggee.specs.Facts.{is_data}
use Rattle.jdwp_debuggee.specs.Settings.{Settings}
use Rattle.jdwp_debuggee.specs.State.{State, Thread}
use Rattle.jdwp_debuggee.specs.Steps.{Step, handshaken, may_step, occurs, starts, with_started}
use Rattle.jdwp_debuggee.specs.Visits.{turned, visits_at, visits_by, visits_for}
use Rattle.jdwp_target.specs.Standings.{Standing, behind, carried_out, established, greets_by, handles, handles_packet, replies, replies_by, steps_apart, steps_at, steps_by, steps_in_session}
use Rattle.jdwp_debuggee.specs.Deferring.{is_deferrable, released_at}
use Rattle.jdwp_target.specs.Deeds.{MayBeDeferred, defers, handles_where}
use Rattle.jdwp_target.specs.Targets.{Target, full_standing, standing, with_handled, with_step}
use Rattle.jdwp_target.specs.VisitLaws.{VisitsWhatTurns, moves_all}
use Rattle.jdwp_target.specs.Visits.{visits_handled, visits_hello, visits_packet, visits_read, visits_released, visits_where}
use Rattle.jdwp_target.proofs.Deferrals.{put-off-kind}
use Rattle.jdwp_target.specs.ReleaseLaws.{deferred-ones}
use Rattle.jdwp_target.proofs.RightTurns.{was-read}

-- ---- commands

moves : (a : Action) (answer : Answer) (before after : List Thread) (visits : ℕ) → moves_all a ≡ true → is_data answer ≡ true → visits_by a answer before after visits ≡ turned before after
moves Actions.Suspend (Data content) before after visits e d = refl
moves Actions.Suspend (Error x) before after visits e d = absurd (cc)
moves Actions.Resume (Data content) before after visits e d = refl
moves Actions.Resume (Error x) before after visits e d = absurd (cc)
moves a answer before after visits e d = absurd (cc)

stays : (a : Action) (answer : Answer) (before after : List Thread) (visits : ℕ) → moves_all a ≡ false → visits_by a answer before after visits ≡ visits
stays Actions.Suspend answer before after visits e = absurd (cc)
stays Actions.Resume answer before after visits e = absurd (cc)
stays a answer before after visits e = refl

refuses : (a : Action) (answer : Answer) (before after : List Thread) (visits : ℕ) → is_data answer ≡ false → visits_by a answer before after visits ≡ visits
refuses Actions.Suspend (Data content) before after visits d = absurd (cc)
refuses Actions.Suspend (Error x) before after visits d = refl
refuses Actions.Resume (Data content) before after visits d = absurd (cc)
refuses Actions.Resume (Error x) before after visits d = refl
refuses a answer before after visits d = refl

replied-threads : {S : Type 0} (now : Standing S) (w : Widths) (id : ℕ) (e : Effect S) (b : Bool) → (replies_by now w id e b).after.moment.state.threads ≡ e.after.state.threads
replied-threads now w id e true = refl
replied-threads now w id e false = refl

-- commands that may be deferred move no counts
plain-class : (number : ℕ) (carried : Carried) → moves_all (action_of (record { set = 2; number = number; carried = carried })) ≡ false
plain-class number carried = refl

plain-method : (number : ℕ) (carried : Carried) → moves_all (action_of (record { set = 6; number = number; carried = carried })) ≡ false
plain-method number carried = refl

plain-at : (c : Command) (a b : Bool) → (c.set == 2) ≡ a → (c.set == 6) ≡ b → (a || b) ≡ true → moves_all (action_of c) ≡ false
plain-at c true b e f h = let is : c.set ≡ 2 = eqb-true c.set 2 e in subst (λ (n : ℕ). moves_all (action_of (record { set = n; number = c.number; carried = c.carried })) ≡ false) (sym is) (plain-class c.number c.carried)
plain-at c false true e f h = let is : c.set ≡ 6 = eqb-true c.set 6 f in subst (λ (n : ℕ). moves_all (action_of (record { set = n; number = c.number; carried = c.carried })) ≡ false) (sym is) (plain-method c.number c.carried)
plain-at c false false e f h = absurd (cc)

plain-deferrable : (c : Command) → is_deferrable c.set ≡ true → moves_all (action_of c) ≡ false
plain-deferrable c h = plain-at c (c.set == 2) (c.set == 6) refl refl h

deferred-plain : {S : Type 0} (m : Meaning S) (v : Target S) (header : Header) (body : List ℕ) (set number : ℕ) (c : Command) → header.kind ≡ kind.Command set number
    → read_as v.settings.profile (m.sizes v.moment.machine) set number body ≡ Ok c → defers (full_standing v) (Packet header body) ≡ true → moves_all (action_of c) ≡ false
deferred-plain m v header body set number c is read deferred =
    let command = (put-off-kind (full_standing v) header.kind deferred).command in
    let same : kind.Command command.0 command.1 ≡ kind.Command set number = sym command.2 ∙ is in
    let sets : command.0 ≡ set = cc in
    let was = was-read v.settings.profile (m.sizes v.moment.machine) set number body c read in
    plain-deferrable c (subst (λ (n : ℕ). is_deferrable n ≡ true) (sets ∙ sym was.set) command.3)

no-both : (b : Bool) → b ≡ true → b ≡ false → ⊥
no-both b on off = cc

-- a command that moves counts is handled at once
moves-at-once : {S : Type 0} (m : Meaning S) (v : Target S) (header : Header) (body : List ℕ) (set number : ℕ) (c : Command) (b : Bool) → header.kind ≡ kind.Command set number
    → read_as v.settings.profile (m.sizes v.moment.machine) set number body ≡ Ok c → moves_all (action_of c) ≡ true → defers (full_standing v) (Packet header body) ≡ b → b ≡ false
moves-at-once m v header body set number c true is read all deferred = absurd (no-both (moves_all (action_of c)) all (deferred-plain m v header body set number c is read deferred))
moves-at-once m v header body set number c false is read all deferred = refl

-- the visits after a command that was read, and handled at once, or put off where it leaves them
packet-visits : {S : Type 0} (m : Meaning S) (v : Target S) (header : Header) (body : List ℕ) (set number : ℕ) (r : Result Command ErrorCode) (n : ℕ) → header.kind ≡ kind.Command set number
    → read_as v.settings.profile (m.sizes v.moment.machine) set number body ≡ r → visits_read m v.settings v.moment r v.visits ≡ n → visits_packet m v.settings v.moment header.kind body v.visits ≡ n
packet-visits m v header body set number r n is read same =
    ap (λ (k : PacketKind). visits_packet m v.settings v.moment k body v.visits) is ∙ (ap (λ (x : Result Command ErrorCode). visits_read m v.settings v.moment x v.visits) read ∙ same)

stay-visits : {S : Type 0} (m : Meaning S) (v : Target S) (message : Message) (b : Bool) → visits_handled m v.settings v.moment message v.visits ≡ v.visits → visits_where m v.settings v.moment message v.visits b ≡ v.visits
stay-visits m v message true same = refl
stay-visits m v message false same = same

move-visits : {S : Type 0} (m : Meaning S) (v : Target S) (message : Message) (n : ℕ) (b : Bool) → b ≡ false → visits_handled m v.settings v.moment message v.visits ≡ n → visits_where m v.settings v.moment message v.visits b ≡ n
move-visits m v message n b at_once same = rw at_once same

-- those that are read and leave the visits
read-stays : {S : Type 0} (m : Meaning S) (v : Target S) (header : Header) (body : List ℕ) (used set number : ℕ) (r : Result Command ErrorCode) → header.kind ≡ kind.Command set number
    → read_as v.settings.profile (m.sizes v.moment.machine) set number body ≡ r → visits_read m v.settings v.moment r v.visits ≡ v.visits → (with_handled m (Packet header body) used v).visits ≡ v.visits
read-stays m v header body used set number r is read same =
    stay-visits m v (Packet header body) (defers (full_standing v) (Packet header body)) (packet-visits m v header body set number r v.visits is read same)

at-once-threads : {S : Type 0} (m : Meaning S) (v : Target S) (message : Message) (b : Bool) → b ≡ false
    → (handles_where m v.settings (full_standing v) message b).after.standing.moment.state.threads ≡ (handles m v.settings (established (standing v)) message).after.moment.state.threads
at-once-threads m v message b at_once = rw at_once refl

read-threads : {S : Type 0} (m : Meaning S) (v : Target S) (header : Header) (body : List ℕ) (used set number : ℕ) (c : Command) → defers (full_standing v) (Packet header body) ≡ false → header.kind ≡ kind.Command set number
    → read_as v.settings.profile (m.sizes v.moment.machine) set number body ≡ Ok c → (with_handled m (Packet header body) used v).moment.state.threads ≡ (effect m v.settings v.moment c).after.state.threads
read-threads {S = S} m v header body used set number c at_once is read =
    let now = established (standing v) in
    let w = m.sizes v.moment.machine in
    at-once-threads m v (Packet header body) (defers (full_standing v) (Packet header body)) at_once
    ∙ (ap (λ (k : PacketKind). (handles_packet m v.settings now header.id k body).after.moment.state.threads) is
    ∙ (ap (λ (r : Result Command ErrorCode). (replies now w header.id (carried_out m v.settings v.moment r)).after.moment.state.threads) read
    ∙ replied-threads now w header.id (effect m v.settings v.moment c) (effect m v.settings v.moment c).dies))

-- a deferred command that is released
deferrable-read : {S : Type 0} (m : Meaning S) (v : Target S) (set number : ℕ) (body : List ℕ) (r : Result Command ErrorCode) → read_as v.settings.profile (m.sizes v.moment.machine) set number body ≡ r → is_deferrable set ≡ true
    → visits_read m v.settings v.moment r v.visits ≡ v.visits
deferrable-read m v set number body (Ok c) read may =
    let was = was-read v.settings.profile (m.sizes v.moment.machine) set number body c read in
    let e = effect m v.settings v.moment c in
    stays (action_of c) e.answer v.moment.state.threads e.after.state.threads v.visits (plain-deferrable c (subst (λ (n : ℕ). is_deferrable n ≡ true) (sym was.set) may))
deferrable-read m v set number body (Err e) read may = refl

deferred-visits : {S : Type 0} (m : Meaning S) (v : Target S) (message : Message) → MayBeDeferred message → visits_handled m v.settings v.moment message v.visits ≡ v.visits
deferred-visits m v Handshake command = absurd command
deferred-visits m v (Packet header body) (set, number, is, may) =
    let w = m.sizes v.moment.machine in
    packet-visits m v header body set number (read_as v.settings.profile w set number body) v.visits is refl (deferrable-read m v set number body (read_as v.settings.profile w set number body) refl may)

released-visits : {S : Type 0} (m : Meaning S) (v : Target S) (place : ℕ) (o : Option (Message × List Message)) → released_at place v.deferred ≡ o → AllByRecursion MayBeDeferred v.deferred
    → visits_released m v.settings v.moment o v.visits ≡ v.visits
released-visits m v place None found all = refl
released-visits m v place (Some (message, others)) found all = deferred-visits m v message (deferred-ones place v.deferred message others all found).0

-- ---- the handshake

greeted-all : (settings : Settings) (state : State) (visits : ℕ) (b all : Bool) → b ≡ false → all ≡ true
    → visits_hello (record settings { start_all = all }) state b visits ≡ turned state.threads (handshaken (record settings { start_all = all }) state).threads
greeted-all settings state visits b all off on = rw (off, on) refl

greeted-none : (settings : Settings) (state : State) (visits : ℕ) (b all : Bool) → (b ≡ true) ⊎ (all ≡ false) → visits_hello (record settings { start_all = all }) state b visits ≡ visits
greeted-none settings state visits true all h = refl
greeted-none settings state visits false all (inl e) = absurd (cc)
greeted-none settings state visits false all (inr e) = rw e refl

greeted-threads : {S : Type 0} (m : Meaning S) (settings : Settings) (now : Standing S) (b : Bool) → b ≡ false → (greets_by m settings now b).after.moment.state.threads ≡ (handshaken settings now.moment.state).threads
greeted-threads m settings now true e = absurd (cc)
greeted-threads m settings now false e = refl

-- ---- steps

apart-threads : {S : Type 0} (now : Standing S) (b : Bool) → (steps_apart now b).after.moment.state.threads ≡ now.moment.state.threads
apart-threads now true = refl
apart-threads now false = refl

session-threads : {S : Type 0} (w : Widths) (id : ℕ) (o : Step S) (now : Standing S) (b : Bool) → (steps_in_session w id o (behind o now) b).after.moment.state.threads ≡ o.after.state.threads
session-threads w id o now true = refl
session-threads w id o now false = refl

at-threads : {S : Type 0} (w : Widths) (id : ℕ) (o : Step S) (now : Standing S) (phase : Phase) → (steps_at w id o (behind o now) phase).after.moment.state.threads ≡ o.after.state.threads
at-threads w id o now Established = session-threads w id o now o.dies
at-threads w id o now AwaitingHandshake = apart-threads (behind o now) o.dies
at-threads w id o now Closed = apart-threads (behind o now) o.dies

stepped-threads : {S : Type 0} (m : Meaning S) (v : Target S) (t : ℕ) → may_step m v.settings v.moment t ≡ true → (with_step m t v).moment.state.threads ≡ (occurs m v.moment t).after.state.threads
stepped-threads m v t may =
    ap (λ (b : Bool). (steps_by m (standing v) t b).after.moment.state.threads) may
    ∙ at-threads (m.sizes v.moment.machine) v.moment.state.next_packet (occurs m v.moment t) (standing v) v.end.phase

at-all : (policy : ℕ) (before after : List Thread) (visits : ℕ) → policy ≡ POLICY_ALL → visits_at policy before after visits ≡ turned before after
at-all policy before after visits e = ap (λ (b : Bool). cond b (turned before after) visits) (eq-eqb policy POLICY_ALL e)

at-other : (policy : ℕ) (before after : List Thread) (visits : ℕ) → (policy ≡ POLICY_ALL → ⊥) → visits_at policy before after visits ≡ visits
at-other policy before after visits h = ap (λ (b : Bool). cond b (turned before after) visits) (false_from_ne_true (policy == POLICY_ALL) (λ e. h (eqb-true policy POLICY_ALL e)))

for-sends : (o : Option CompositeMeaning) (before after : List Thread) (visits n : ℕ) (p : Option CompositeMeaning) → o ≡ p → visits_for p before after visits ≡ n → visits_for o before after visits ≡ n
for-sends o before after visits n p e h = ap (λ (x : Option CompositeMeaning). visits_for x before after visits) e ∙ h

-- ---- all of it

pub visits-turns : {S : Type 0} (m : Meaning S) → VisitsWhatTurns m
visits-turns {S = S} m = record {
  new = λ settings now. refl;
  opened = λ v. refl;
  fed = λ v bytes. refl;
  taken = λ v bytes. refl;
  lost = λ v. refl;
  deferring = λ v deferring. refl;
  released = λ v place few. released-visits m v place (released_at place v.deferred) refl few.commands;
  moved = λ v header body used set number c is read all told.
      let e = effect m v.settings v.moment c in
      let at_once = moves-at-once m v header body set number c (defers (full_standing v) (Packet header body)) is read all refl in
      let visits = moves (action_of c) e.answer v.moment.state.threads e.after.state.threads v.visits all told in
      move-visits m v (Packet header body) _ (defers (full_standing v) (Packet header body)) at_once (packet-visits m v header body set number (Ok c) _ is read visits)
      ∙ ap (λ (ts : List Thread). turned v.moment.state.threads ts) (sym (read-threads m v header body used set number c at_once is read));
  refused = λ v header body used set number c is read told.
      let e = effect m v.settings v.moment c in
      read-stays m v header body used set number (Ok c) is read (refuses (action_of c) e.answer v.moment.state.threads e.after.state.threads v.visits told);
  other = λ v header body used set number c is read all.
      let e = effect m v.settings v.moment c in
      read-stays m v header body used set number (Ok c) is read (stays (action_of c) e.answer v.moment.state.threads e.after.state.threads v.visits all);
  unread = λ v header body used set number e is read. read-stays m v header body used set number (Err e) is read refl;
  ignored = λ v header body used e is.
      stay-visits m v (Packet header body) (defers (full_standing v) (Packet header body)) (ap (λ (k : PacketKind). visits_packet m v.settings v.moment k body v.visits) is);
  started = λ v used off on.
      greeted-all v.settings v.moment.state v.visits v.moment.state.handshaken v.settings.start_all off on
      ∙ ap (λ (ts : List Thread). turned v.moment.state.threads ts) (sym (greeted-threads m v.settings (established (standing v)) v.moment.state.handshaken off));
  greeted = λ v used h. greeted-none v.settings v.moment.state v.visits v.moment.state.handshaken v.settings.start_all h;
  reported = λ v t c may sends all.
      let before = (with_started (starts m v.moment t) v.moment.state).threads in
      let after = (occurs m v.moment t).after.state.threads in
      for-sends (occurs m v.moment t).sends before after v.visits _ (Some c) sends (at-all c.policy before after v.visits all)
      ∙ ap (λ (ts : List Thread). turned before ts) (sym (stepped-threads m v t may));
  apart = λ v t c sends other.
      let before = (with_started (starts m v.moment t) v.moment.state).threads in
      let after = (occurs m v.moment t).after.state.threads in
      for-sends (occurs m v.moment t).sends before after v.visits _ (Some c) sends (at-other c.policy before after v.visits other);
  quiet = λ v t sends.
      for-sends (occurs m v.moment t).sends (with_started (starts m v.moment t) v.moment.state).threads (occurs m v.moment t).after.state.threads v.visits _ None sends refl;
}
