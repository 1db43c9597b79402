-- the target handles a message
use Rattle.std.proofs.Common.{◌≡◌, ◌≤◌, ◌<◌, ◌^◌, ℕ, ◌-◌, ◌⊎◌, inl, inr, zero, suc, Bool, true, false, ◌&&◌, not, cond, Some, None, List, [], ◌∷◌, ◌++◌, length, take, refl, sym, ◌∙◌, ap, subst}
use Rattle.std.specs.Prelude.{nat_lt, nat_le}
use Rattle.std.proofs.lemmas.Bool.{cases_lt, lt-ltb, le-ltb, lt-leb, le-leb}
use Rattle.std.proofs.lemmas.List.{append-nil, append_assoc}
use Rattle.jdwp_wire.specs.Streams as streams
use Rattle.jdwp_wire.specs.Streams.{AreSendable, Whole, More, front_of_cut, message_bytes, stream}
use Rattle.jdwp_wire.specs.Widths.{Widths}
use Rattle.jdwp_end.specs.declared.phase.Phase.{Phase}
use Rattle.jdwp_end.specs.declared.phase.Phase.TheVariants.{Closed, AwaitingHandshake, Established}
use Rattle.jdwp_end.specs.Ends.{End, front_of, is_established_phase, is_paused, next_at, with_handled}
use Rattle.jdwp_event.specs.CompositeBytes.{EncodesComposite, composite_canonical}
use Rattle.jdwp_event.specs.Composites.{vm_death}
use Rattle.jdwp_machine.specs.Meanings.{Meaning}
use Rattle.jdwp_action.specs.Actions.{Command, action_of}
use Rattle.jdwp_debuggee.specs.Answering.{is_answered, read_as}
use Rattle.jdwp_link.proofs.AskedAs.{asked_as}
use Rattle.jdwp_action.specs.AnswerPackets.{sizes_answer, EncodesAnswer}
use Rattle.jdwp_debuggee.specs.Deferring.{is_deferred}
use Rattle.jdwp_debuggee.specs.Effects.{Effect, effect, effect_by}
use Rattle.jdwp_debuggee.specs.Facts.{Facts, IsSound}
use Rattle.jdwp_debuggee.specs.Settings.{Settings}
use Rattle.jdwp_debuggee.specs.State.{Moment}
use Rattle.jdwp_debuggee.specs.Steps.{start_event}
use Rattle.jdwp_action.specs.CommandPackets.{carried_bytes}
use Rattle.jdwp_mirror.specs.Messages.{Ticket, Call, Greets, Asks, Handshake, Reply, Report}
use Rattle.jdwp_debugger.specs.Asking.{EncodesCommand, read_where}
use Rattle.jdwp_target.specs.Deeds as deeds
use Rattle.jdwp_target.specs.Deeds.{handles_where}
use Rattle.jdwp_target.specs.Sends.{report_of}
use Rattle.jdwp_target.specs.Standings as standings
use Rattle.jdwp_target.specs.Standings.{Handles, Reaction, Standing, carried_out, handles, react, replies_by, stands}
use Rattle.jdwp_target.specs.Targets.{Target, full_standing, standing}
use Rattle.jdwp_target.specs.Targets as targets
use Rattle.jdwp_target.specs.Turns.{EncodesFor, EncodesNext, EncodesStart, EncodesUnless, SendsAt}
use Rattle.jdwp_target.specs.Visits.{visits_handled, visits_where}
use Rattle.jdwp_model.specs.Faultless.{is_in_place}
use Rattle.jdwp_model.specs.Next.{after_death, answers, carries_out, defers, defers_or, dies_by, greets_by, started, target_closes, target_front, target_handles, target_takes, target_turn, target_turn_at, whole_call}
use Rattle.jdwp_model.specs.World as world
use Rattle.jdwp_model.specs.World.{is_closed, World}
use Rattle.jdwp_model.specs.Measures.{call_size, measured}
use Rattle.jdwp_link.specs.Laws.{FindsMessages, Laws, PutsMessages, ReadsMessages}
use Rattle.jdwp_link.specs.Links.{Link, idle, way_to_debugger, way_to_target}
use Rattle.jdwp_link.specs.Stands.{AreCut, Parts}
use Rattle.jdwp_link.specs.Wires.{CallWire, Waiting, IsAmong, IsCall, SuitsTicket, TellsWidths, AreCalls, asked, call_sent, calls_sent, deferred_sent, replied, without_ids}
use Rattle.jdwp_link.proofs.Acting.{Acted, acts-parts}
use Rattle.jdwp_link.proofs.Attaching.{parts-did}
use Rattle.jdwp_link.proofs.Cuts.{cut-same, cut-shorter}
use Rattle.jdwp_link.proofs.Reached.{Known}
use Rattle.jdwp_link.proofs.Sizes.{call-length, without-append}
use Rattle.jdwp_link.proofs.Stepping.{flows-target}
use Rattle.jdwp_link.proofs.Wired.{all-append, among-moved}

-- ---- what stands in front

-- no message is handled
pub record IsIdle {S : Type 0} (settings : Settings) (w : Widths) (end : End) (x : World S) : Type 0 where
  pub front : front_of end ≡ More
  pub none : target_front settings (measured w settings.limits) x ≡ None

-- this one is, under its id
pub record HasCall {S : Type 0} (settings : Settings) (w : Widths) (end : End) (x : World S) (wires : List CallWire) : Type 0 where
  pub id : ℕ
  pub call : Call
  pub rest : List CallWire
  pub first : wires ≡ (id, call) ∷ rest
  pub front : front_of end ≡ Whole (call_sent w id call) (call_size w call)
  pub some : target_front settings (measured w settings.limits) x ≡ Some (call, without_ids rest)
  pub came : call_size w call ≤ x.at_target
  pub opened : is_closed x.target ≡ false
  pub in_place : is_in_place x.target call ≡ true

pub front-paused : (end : End) → is_paused end ≡ true → front_of end ≡ More
front-paused end h = ap (λ b. cond b More (next_at end.limits.packet end.phase end.incoming)) h

closed-next : (limit : ℕ) (phase : Phase) (bytes : List ℕ) → is_closed phase ≡ true → next_at limit phase bytes ≡ More
closed-next limit Closed bytes h = refl
closed-next limit AwaitingHandshake bytes h = absurd (cc)
closed-next limit Established bytes h = absurd (cc)

pub front-closed : (end : End) (phase : Phase) → end.phase ≡ phase → is_closed phase ≡ true → front_of end ≡ More
front-closed end phase e h =
    ap (λ n. cond (is_paused end) More n) (closed-next end.limits.packet end.phase end.incoming (ap is_closed e ∙ h))
    ∙ elim (is_paused end) as (λ b. cond b More More ≡ More) [ true ↦ refl | false ↦ refl ]

-- whether a number of bytes has all of a message
pub cut-whole : (n : ℕ) (message : streams.Message) (size : ℕ) → length (message_bytes message) ≡ size → size ≤ n → front_of_cut n message ≡ Whole message size
cut-whole n message size e le = ap (λ k. cond (nat_le k n) (Whole message k) More) e ∙ ap (λ b. cond b (Whole message size) More) (le-leb size n le)

pub cut-short : (n : ℕ) (message : streams.Message) (size : ℕ) → length (message_bytes message) ≡ size → n < size → front_of_cut n message ≡ More
cut-short n message size e lt = ap (λ k. cond (nat_le k n) (Whole message k) More) e ∙ ap (λ b. cond b (Whole message size) More) (lt-leb size n lt)

-- a message in its place stands in front once all of it came
call-front : (w : Widths) (limit : ℕ) (end : End) (n id : ℕ) (phase : Phase) (call : Call) (rest : List CallWire) → FindsMessages → end.limits.packet ≡ limit → limit < 2 ^ 32 → end.phase ≡ phase → is_in_place phase call ≡ true
    → is_paused end ≡ false → AreCalls w limit ((id, call) ∷ rest) → end.incoming ≡ take n (stream (calls_sent w ((id, call) ∷ rest))) → front_of end ≡ front_of_cut n (call_sent w id call)
call-front w limit end n id AwaitingHandshake Greets rest finds most small e place free can came =
    let lt : end.limits.packet < 2 ^ 32 = subst (λ k. k < 2 ^ 32) (sym most) small in
    finds.handshake end n (calls_sent w rest) e free lt came
call-front w limit end n id Established (Asks k c) rest finds most small e place free can came =
    let lt : end.limits.packet < 2 ^ 32 = subst (λ k. k < 2 ^ 32) (sym most) small in
    finds.packet end n _ _ (calls_sent w rest) e free lt (subst (λ most-bytes. streams.IsSendable most-bytes (call_sent w id (Asks k c))) (sym most) can.0.0) came
call-front w limit end n id phase call rest finds most small e place free can came = absurd (cc)

pub turn-free : (closed way : Bool) → closed ≡ false → way ≡ true → (not closed && way) ≡ true
turn-free closed way a b = ap (λ c. not c && way) a ∙ b

pub turn-none : (closed way : Bool) → closed ≡ true → (not closed && way) ≡ false
turn-none closed way a = ap (λ c. not c && way) a

pub turn-paused : (closed way : Bool) → way ≡ false → (not closed && way) ≡ false
turn-paused closed way a = ap (λ b. not closed && b) a ∙ elim (not closed) as (λ b. (b && false) ≡ false) [ true ↦ refl | false ↦ refl ]

front-by : {S : Type 0} (settings : Settings) (w : Widths) (x : World S) (b : Bool) → (not (is_closed x.target) && nat_lt (world.way_to_debugger (measured w settings.limits) x) settings.limits.packet) ≡ b
    → target_front settings (measured w settings.limits) x ≡ cond b (whole_call (measured w settings.limits) x.at_target x.to_target) None
front-by settings w x b e = ap (λ c. cond c (whole_call (measured w settings.limits) x.at_target x.to_target) None) e

-- an unshut target that is not paused, by what is under way to it
front-open : {S : Type 0} (settings : Settings) (w : Widths) (end : End) (x : World S) (wires : List CallWire) (way : List ℕ) → FindsMessages → settings.limits.packet < 2 ^ 32 → end.limits ≡ settings.limits → end.phase ≡ x.target
    → is_closed x.target ≡ false → is_paused end ≡ false → nat_lt (world.way_to_debugger (measured w settings.limits) x) settings.limits.packet ≡ true
    → without_ids wires ≡ x.to_target → AreCalls w settings.limits.packet wires → AreCut x.at_target (stream (calls_sent w wires)) way end (is_closed x.target)
    → ((call : Call) (rest : List Call) → x.to_target ≡ call ∷ rest → is_in_place x.target call ≡ true)
    → IsIdle settings w end x ⊎ HasCall settings w end x wires
front-open settings w end x [] way finds small limits e o free flows calls can cut place =
    let none : end.incoming ≡ [] = cut.there o ∙ elim x.at_target as (λ n. let none : List ℕ = [] in take n none ≡ none) [ zero ↦ refl | suc n ↦ refl ] in
    inl (record {
      front = finds.nothing end none;
      none = front-by settings w x true (turn-free (is_closed x.target) _ o flows) ∙ ap (λ c. whole_call (measured w settings.limits) x.at_target c) (sym calls);
    })
front-open settings w end x ((id, call) ∷ rest) way finds small limits e o free flows calls can cut place =
    let here = place call (without_ids rest) (sym calls) in
    let found = call-front w settings.limits.packet end x.at_target id x.target call rest finds (ap (λ k. k.packet) limits) small e here free can (cut.there o) in
    let whole : target_front settings (measured w settings.limits) x ≡ cond (nat_lt x.at_target (call_size w call)) None (Some (call, without_ids rest)) =
    front-by settings w x true (turn-free (is_closed x.target) _ o flows) ∙ ap (λ c. whole_call (measured w settings.limits) x.at_target c) (sym calls) in
    elim (cases_lt x.at_target (call_size w call)) [
      | inl lt ↦ inl (record {
        front = found ∙ cut-short x.at_target (call_sent w id call) (call_size w call) (call-length finds w id call) lt;
        none = whole ∙ ap (λ b. cond b None (Some (call, without_ids rest))) (lt-ltb x.at_target (call_size w call) lt);
      })
      | inr le ↦ inr (record {
        id = id;
        call = call;
        rest = rest;
        first = refl;
        front = found ∙ cut-whole x.at_target (call_sent w id call) (call_size w call) (call-length finds w id call) le;
        some = whole ∙ ap (λ b. cond b None (Some (call, without_ids rest))) (le-ltb x.at_target (call_size w call) le);
        came = le;
        opened = o;
        in_place = here;
      })
    ]

front-cases : {S : Type 0} (m : Meaning S) (settings : Settings) (w : Widths) (l : Link S) (x : World S) (closed paused : Bool) → FindsMessages → settings.limits.packet < 2 ^ 32 → Known m settings x → (s : Parts m settings w l x)
    → is_closed x.target ≡ closed → is_paused l.target.end ≡ paused → IsIdle settings w l.target.end x ⊎ HasCall settings w l.target.end x s.to.wires
front-cases m settings w l x true paused finds small k s c p = inl (record {
  front = front-closed l.target.end x.target s.target.phase c;
  none = front-by settings w x false (turn-none (is_closed x.target) _ c);
})
front-cases m settings w l x false true finds small k s o p = inl (record {
  front = front-paused l.target.end p;
  none = front-by settings w x false (turn-paused (is_closed x.target) _ (flows-target m settings w l x finds s (k.unlost o) ∙ ap not p));
})
front-cases m settings w l x false false finds small k s o p =
    front-open settings w l.target.end x s.to.wires (way_to_target l) finds small s.target.limits s.target.phase o p (flows-target m settings w l x finds s (k.unlost o) ∙ ap not p) s.to.calls s.to.sent s.to.cut
    (λ call rest e. k.call call rest o e)

pub target-has : {S : Type 0} (m : Meaning S) (settings : Settings) (w : Widths) (l : Link S) (x : World S) → FindsMessages → settings.limits.packet < 2 ^ 32 → Known m settings x → (s : Parts m settings w l x)
    → IsIdle settings w l.target.end x ⊎ HasCall settings w l.target.end x s.to.wires
target-has m settings w l x finds small k s = front-cases m settings w l x (is_closed x.target) (is_paused l.target.end) finds small k s refl refl

-- ---- what the target does

-- a target of these settings at this moment
abbrev at-moment : {S : Type 0} → Target S → Settings → Moment S → Target S
at-moment v settings now = record v { settings = settings; moment = now }

greet-acted : {S : Type 0} (m : Meaning S) (settings : Settings) (w : Widths) (x : World S) (v : Target S) (b : Bool) → PutsMessages m → m.sizes x.now.machine ≡ w → EncodesStart m (at-moment v settings x.now) b
    → Acted m w x (standings.greets_by m settings (stands x.now Established) b) [] (greets_by settings x b)
greet-acted m settings w x v true puts sizes encoded = record {
  more = (0, (Handshake, x.now)) ∷ [];
  sends = refl;
  mean = (tt, tt);
  replies = refl;
  sizes = sizes;
  same = refl;
}
greet-acted m settings w x v false puts sizes encoded =
    let c = start_event settings x.now.state in
    record {
      more = (0, (Handshake, x.now)) ∷ (x.now.state.next_packet, (Report c, started settings x.now)) ∷ [];
      sends = ap (λ v. streams.Handshake ∷ report_of v x.now.state.next_packet c ∷ []) (sym sizes);
      mean = (tt, (subst (EncodesComposite w c) (puts.composites w c) (subst (λ v. EncodesComposite v c (composite_canonical v c)) sizes encoded), tt));
      replies = refl;
      sizes = sizes;
      same = refl;
    }

-- a session that closes drops what is deferred
closes-same : {S : Type 0} (x : World S) (b : Bool) → x.target ≡ Established
    → record x { target = standings.phase_after b; deferred = cond (is_established_phase (standings.phase_after b)) x.deferred [] } ≡ target_closes x b
closes-same x true e = refl
closes-same x false e = ap (λ p. record x { target = p }) (sym e)

reply-acted : {S : Type 0} (m : Meaning S) (w : Widths) (x : World S) (now : Standing S) (id : ℕ) (k : Ticket) (c : Command) (e : Effect S) (dies : Bool) → PutsMessages m → x.target ≡ Established → m.sizes e.after.machine ≡ w
    → EncodesAnswer w c.set c.number e.answer → TellsWidths w k e.answer → Acted m w x (replies_by now w id e dies) ((id, (k, c)) ∷ []) (dies_by (answers x k c e) dies)
reply-acted m w x now id k c e true puts phase sizes encoded tells = record {
  more = (id, (Reply k c e.answer, e.after)) ∷ (e.after.state.next_packet, (Report vm_death, after_death e.after)) ∷ [];
  sends = refl;
  mean = ((encoded, tells), (subst (EncodesComposite w vm_death) (puts.composites w vm_death) (puts.death w), tt));
  replies = refl;
  sizes = sizes;
  same = ap (λ ps. record x { now = after_death e.after; target = Closed; to_debugger = ps; deferred = [] }) (sym (append_assoc x.to_debugger ((Reply k c e.answer, e.after) ∷ []) ((Report vm_death, after_death e.after) ∷ [])));
}
reply-acted {S} m w x now id k c e false puts phase sizes encoded tells = record {
  more = (id, (Reply k c e.answer, e.after)) ∷ [];
  sends = refl;
  mean = ((encoded, tells), tt);
  replies = refl;
  sizes = sizes;
  same = ap (λ (y : World S). record y { now = e.after; to_debugger = x.to_debugger ++ (Reply k c e.answer, e.after) ∷ [] }) (closes-same x e.closes phase);
}

-- a command is carried out as it was asked
carried-as : {S : Type 0} (m : Meaning S) (settings : Settings) (now : Moment S) (c : Command) (b : Bool) → is_answered settings.profile c ≡ b → carried_out m settings now (read_where c b) ≡ effect m settings now c
carried-as m settings now c true e = refl
carried-as m settings now c false e = ap (effect_by m settings now c) (sym e)

carried-asked : {S : Type 0} (m : Meaning S) (settings : Settings) (now : Moment S) (w v : Widths) (c : Command) → ReadsMessages → v ≡ w → EncodesCommand w c → carried_out m settings now (read_as settings.profile v c.set c.number (carried_bytes w c.carried)) ≡ effect m settings now c
carried-asked m settings now w v c reads e h =
    ap (λ u. carried_out m settings now (read_as settings.profile u c.set c.number (carried_bytes w c.carried))) e
    ∙ (ap (carried_out m settings now) (asked_as settings.profile w c h (reads.asked w c h)) ∙ carried-as m settings now c (is_answered settings.profile c) refl)

-- IDSizes is answered the widths
tells-widths : {S : Type 0} (m : Meaning S) (settings : Settings) (now : Moment S) (w : Widths) (k : Ticket) (c : Command) → PutsMessages m → m.sizes now.machine ≡ w → SuitsTicket k c → TellsWidths w k (effect m settings now c).answer
tells-widths m settings now w None c puts e suits = puts.sizes_told settings now c (ap action_of suits) ∙ ap sizes_answer e
tells-widths m settings now w (Some k) c puts e suits = tt

-- a command that is carried out now
pub command-acted : {S : Type 0} (m : Meaning S) (settings : Settings) (w : Widths) (t : Target S) (z : World S) (id : ℕ) (k : Ticket) (c : Command) → Laws m → Facts m settings → IsSound m settings z.now → m.sizes z.now.machine ≡ w → z.target ≡ Established
    → t.settings ≡ settings → t.moment ≡ z.now → IsCall w (Asks k c) → EncodesFor m t (call_sent w id (Asks k c))
    → Acted m w z (handles m settings (stands z.now Established) (call_sent w id (Asks k c))) ((id, (k, c)) ∷ []) (carries_out m settings z k c)
command-acted m settings w t z id k c laws facts sound sizes phase same_settings same_moment can encoded =
    let e = effect m settings z.now c in
    let v_is : m.sizes t.moment.machine ≡ w = ap (λ a. m.sizes a.machine) same_moment ∙ sizes in
    let there : carried_out m t.settings t.moment (read_as t.settings.profile (m.sizes t.moment.machine) c.set c.number (carried_bytes w c.carried)) ≡ e =
    ap (λ u. carried_out m u t.moment (read_as u.profile (m.sizes t.moment.machine) c.set c.number (carried_bytes w c.carried))) same_settings
    ∙ (ap (λ a. carried_out m settings a (read_as settings.profile (m.sizes t.moment.machine) c.set c.number (carried_bytes w c.carried))) same_moment
    ∙ carried-asked m settings z.now w (m.sizes t.moment.machine) c laws.reads v_is can.0) in
    let says : EncodesAnswer w c.set c.number e.answer = subst (λ v. EncodesAnswer v c.set c.number e.answer) v_is (subst (λ f. EncodesAnswer (m.sizes t.moment.machine) c.set c.number f.answer) there encoded) in
    let does = facts.does z.now c sound in
    let now = stands z.now Established in
    let reaction : handles m settings now (call_sent w id (Asks k c)) ≡ replies_by now w id e e.dies =
    ap (λ f. standings.replies now (m.sizes z.now.machine) id f) (carried-asked m settings z.now w (m.sizes z.now.machine) c laws.reads sizes can.0) ∙ ap (λ v. standings.replies now v id e) sizes in
    let acted = reply-acted m w z now id k c e e.dies laws.puts phase (does.sizes ∙ sizes) says (tells-widths m settings z.now w k c laws.puts sizes can.1) in
    subst (λ q. Acted m w z q ((id, (k, c)) ∷ []) (dies_by (answers z k c e) e.dies)) (sym reaction) acted

-- how a target reacts to a message, as its world says how it stands
pub reacts : {S : Type 0} (m : Meaning S) (settings : Settings) (w : Widths) (l : Link S) (x : World S) (message : streams.Message) → Parts m settings w l x
    → react m l.target.settings (standing l.target) (Handles message) ≡ handles m settings (stands x.now Established) message
reacts m settings w l x message s =
    ap (λ u. handles m u (stands l.target.moment Established) message) s.target.same_settings ∙ ap (λ a. handles m settings (stands a Established) message) s.target.now

-- ---- a message that is handled

call-can : (w : Widths) (limit : ℕ) (wires rest : List CallWire) (id : ℕ) (call : Call) → wires ≡ (id, call) ∷ rest → AreCalls w limit wires → AreCalls w limit ((id, call) ∷ rest)
call-can w limit wires rest id call e h = subst (AreCalls w limit) e h

-- a target that takes a message off, and puts it off or handles it
abbrev took : {S : Type 0} → Meaning S → streams.Message → ℕ → Target S → Bool → Target S
took m message used v deferred =
    targets.visiting (visits_where m v.settings v.moment message v.visits deferred)
    (targets.with_performance (handles_where m v.settings (full_standing v) message deferred) (with_handled message used v.end) v)

-- what is left of the calls
left-cut : {S : Type 0} (m : Meaning S) (settings : Settings) (w : Widths) (l : Link S) (x : World S) (id : ℕ) (call : Call) (rest : List CallWire) (after : End) (closed : Bool) → FindsMessages → (s : Parts m settings w l x) → s.to.wires ≡ (id, call) ∷ rest
    → call_size w call ≤ x.at_target → is_closed x.target ≡ false → after.incoming ≡ (with_handled (call_sent w id call) (call_size w call) l.target.end).incoming
    → AreCut (x.at_target - call_size w call) (stream (calls_sent w rest)) (way_to_target l) after closed
left-cut m settings w l x id call rest after closed finds s first came o same =
    let cut : AreCut x.at_target (message_bytes (call_sent w id call) ++ stream (calls_sent w rest)) (way_to_target l) l.target.end (is_closed x.target) =
    subst (λ wires. AreCut x.at_target (stream (calls_sent w wires)) (way_to_target l) l.target.end (is_closed x.target)) first s.to.cut in
    cut-shorter x.at_target (call_size w call) (message_bytes (call_sent w id call)) (stream (calls_sent w rest)) (way_to_target l) (way_to_target l) l.target.end after (is_closed x.target) closed (call-length finds w id call) came o same refl cut

-- The target handles the call in front: what it does to the world, and what it sends for it.
handled-parts : {S : Type 0} (m : Meaning S) (settings : Settings) (w : Widths) (l : Link S) (x y : World S) (id : ℕ) (call : Call) (rest : List CallWire) (done : List Waiting) → FindsMessages → (s : Parts m settings w l x)
    → s.to.wires ≡ (id, call) ∷ rest → call_size w call ≤ x.at_target → is_closed x.target ≡ false
    → AreSendable l.target.end.limits.packet (react m l.target.settings (standing l.target) (Handles (call_sent w id call))).sends
    → ((p : Waiting) → IsAmong p (done ++ (s.deferred.wires ++ asked rest)) → IsAmong p (s.deferred.wires ++ asked ((id, call) ∷ rest)))
    → Acted m w (record x { to_target = without_ids rest; at_target = x.at_target - call_size w call; deferred = without_ids s.deferred.wires }) (handles m settings (stands x.now Established) (call_sent w id call)) done y
    → Parts m settings w (record l { target = took m (call_sent w id call) (call_size w call) l.target false; did = true }) y
handled-parts {S} m settings w l x y id call rest done finds s first came o sends moves acted =
    let message = call_sent w id call in
    let r : Reaction S = react m l.target.settings (standing l.target) (Handles message) in
    acts-parts m settings w l x y true r (full_standing l.target) (message ∷ []) (with_handled message (call_size w call) l.target.end)
    (targets.visiting (visits_handled m l.target.settings l.target.moment message l.target.visits) l.target) (x.at_target - call_size w call) rest s.deferred.wires done
    s s.target.same_settings s.target.limits s.target.lost refl (call-can w settings.limits.packet s.to.wires rest id call first s.to.sent).1
    (subst (λ limits. AreSendable limits.packet r.sends) s.target.limits sends)
    (left-cut m settings w l x id call rest _ _ finds s first came o refl)
    s.deferred.messages s.deferred.sent s.target.deferring
    (λ p h. subst (λ ws. IsAmong p (s.deferred.wires ++ asked ws)) (sym first) (moves p h))
    (subst (λ q. Acted m w (record x { to_target = without_ids rest; at_target = x.at_target - call_size w call; deferred = without_ids s.deferred.wires }) q done y) (sym (reacts m settings w l x message s)) acted)

-- ---- a command that is put off

deferred-length : (w : Widths) (wires : List Waiting) → length (deferred_sent w wires) ≡ length (without_ids wires)
deferred-length w [] = refl
deferred-length w (p ∷ ps) = ap suc (deferred-length w ps)

deferred-append : (w : Widths) (xs ys : List Waiting) → deferred_sent w (xs ++ ys) ≡ deferred_sent w xs ++ deferred_sent w ys
deferred-append w [] ys = refl
deferred-append w (x ∷ xs) ys = ap (λ l. call_sent w x.0 (Asks x.1.0 x.1.1) ∷ l) (deferred-append w xs ys)

-- both say whether it is
same-defers : {S : Type 0} (m : Meaning S) (settings : Settings) (w : Widths) (l : Link S) (x : World S) (id : ℕ) (k : Ticket) (c : Command) → (s : Parts m settings w l x) → x.target ≡ Established
    → deeds.defers (full_standing l.target) (call_sent w id (Asks k c)) ≡ defers x c
same-defers m settings w l x id k c s phase =
    let t = l.target in
    let size : length t.deferred ≡ length x.deferred = ap length (sym s.deferred.messages) ∙ (deferred-length w s.deferred.wires ∙ ap length s.deferred.commands) in
    ap (λ p. is_established_phase p && is_deferred t.deferring c.set (length t.deferred)) (s.target.phase ∙ phase)
    ∙ (ap (λ b. is_deferred b c.set (length t.deferred)) s.target.deferring ∙ ap (λ n. is_deferred x.deferring c.set n) size)

deferred-parts : {S : Type 0} (m : Meaning S) (settings : Settings) (w : Widths) (l : Link S) (x : World S) (id : ℕ) (k : Ticket) (c : Command) (rest : List CallWire) → FindsMessages → (s : Parts m settings w l x)
    → s.to.wires ≡ (id, Asks k c) ∷ rest → call_size w (Asks k c) ≤ x.at_target → is_closed x.target ≡ false
    → Parts m settings w (record l { target = took m (call_sent w id (Asks k c)) (call_size w (Asks k c)) l.target true; did = true })
    (record x { to_target = without_ids rest; at_target = x.at_target - call_size w (Asks k c); deferred = x.deferred ++ (k, c) ∷ [] })
deferred-parts m settings w l x id k c rest finds s first came o =
    let can = call-can w settings.limits.packet s.to.wires rest id (Asks k c) first s.to.sent in
    let new : List Waiting = (id, (k, c)) ∷ [] in
    record {
      target = record { same_settings = s.target.same_settings; limits = s.target.limits; sizes = s.target.sizes; now = s.target.now; phase = s.target.phase; lost = s.target.lost; deferring = s.target.deferring };
      debugger = record {
        order = s.debugger.order;
        limits = s.debugger.limits;
        phase = s.debugger.phase;
        tickets = s.debugger.tickets;
        mirror = s.debugger.mirror;
        opened = λ o. let d = s.debugger.opened o in record { sizes = d.sizes; parked = d.parked; pending = d.pending; ticketed = d.ticketed };
        none_waits = s.debugger.none_waits;
      };
      to = record { wires = rest; calls = refl; sent = can.1; cut = left-cut m settings w l x id (Asks k c) rest _ _ finds s first came o refl; kept = s.to.kept };
      deferred = record {
        wires = s.deferred.wires ++ new;
        commands = without-append s.deferred.wires new ∙ ap (λ cs. cs ++ (k, c) ∷ []) s.deferred.commands;
        messages = deferred-append w s.deferred.wires new ∙ ap (λ ms. ms ++ call_sent w id (Asks k c) ∷ []) s.deferred.messages;
        sent = all-append _ s.deferred.wires new s.deferred.sent (can.0.1, tt);
      };
      from = record {
        wires = s.from.wires;
        packets = s.from.packets;
        sent = s.from.sent;
        cut = cut-same x.at_debugger _ (way_to_debugger l) _ l.debugger.end l.debugger.end (is_closed x.debugger) (is_closed x.debugger) (ap (λ b. l.to_debugger ++ b) (append-nil l.target.end.outgoing)) (λ o. (o, refl)) s.from.cut;
        kept = s.from.kept;
        awaits = λ o p h. s.from.awaits o p
            (subst (IsAmong p) (ap (λ q. replied s.from.wires ++ q) (append_assoc s.deferred.wires new (asked rest) ∙ ap (λ ws. s.deferred.wires ++ asked ws) (sym first))) h);
      };
    }

-- ---- all of it

asked-parts : {S : Type 0} (m : Meaning S) (settings : Settings) (w : Widths) (l : Link S) (x : World S) (id : ℕ) (k : Ticket) (c : Command) (rest : List CallWire) (deferred : Bool) → Laws m → Known m settings x → (s : Parts m settings w l x)
    → x.target ≡ Established → s.to.wires ≡ (id, Asks k c) ∷ rest → call_size w (Asks k c) ≤ x.at_target → is_closed x.target ≡ false
    → EncodesUnless m l.target (call_sent w id (Asks k c)) deferred
    → AreSendable l.target.end.limits.packet (handles_where m l.target.settings (full_standing l.target) (call_sent w id (Asks k c)) deferred).sends
    → Parts m settings w (record l { target = took m (call_sent w id (Asks k c)) (call_size w (Asks k c)) l.target deferred; did = true })
    (defers_or m settings (target_takes (measured w settings.limits) x (Asks k c) (without_ids rest)) k c deferred)
asked-parts m settings w l x id k c rest true laws known s phase first came o encoded sends = deferred-parts m settings w l x id k c rest laws.finds s first came o
asked-parts m settings w l x id k c rest false laws known s phase first came o encoded sends =
    let can = call-can w settings.limits.packet s.to.wires rest id (Asks k c) first s.to.sent in
    let taken = target_takes (measured w settings.limits) x (Asks k c) (without_ids rest) in
    let taken_is : record taken { deferred = without_ids s.deferred.wires } ≡ taken = ap (λ ds. record taken { deferred = ds }) s.deferred.commands in
    let acted = command-acted m settings w l.target taken id k c laws known.facts known.sound s.target.sizes phase s.target.same_settings s.target.now can.0.1 encoded in
    handled-parts m settings w l x (carries_out m settings taken k c) id (Asks k c) rest ((id, (k, c)) ∷ []) laws.finds s first came o sends
    (λ p h. among-moved p (id, (k, c)) s.deferred.wires (asked rest) h)
    (subst (λ z. Acted m w z (handles m settings (stands x.now Established) (call_sent w id (Asks k c))) ((id, (k, c)) ∷ []) (carries_out m settings taken k c)) (sym taken_is) acted)

-- by its place
placed-parts : {S : Type 0} (m : Meaning S) (settings : Settings) (w : Widths) (l : Link S) (x : World S) (id : ℕ) (phase : Phase) (call : Call) (rest : List CallWire) → Laws m → Known m settings x → (s : Parts m settings w l x)
    → x.target ≡ phase → is_in_place phase call ≡ true → s.to.wires ≡ (id, call) ∷ rest → call_size w call ≤ x.at_target → is_closed x.target ≡ false
    → EncodesNext m (Whole (call_sent w id call) (call_size w call)) l.target
    → SendsAt m (Whole (call_sent w id call) (call_size w call)) l.target
    → Parts m settings w (record l { target = targets.with_handled m (call_sent w id call) (call_size w call) l.target; did = true })
    (target_handles m settings (measured w settings.limits) x (without_ids rest) phase call)
placed-parts m settings w l x id AwaitingHandshake Greets rest laws k s phase place first came o encoded sends =
    let says : EncodesStart m (at-moment l.target settings x.now) x.now.state.handshaken =
    subst (λ a. EncodesStart m (at-moment l.target settings a) a.state.handshaken) s.target.now
    (subst (λ u. EncodesStart m (at-moment l.target u l.target.moment) l.target.moment.state.handshaken) s.target.same_settings encoded) in
    let taken = target_takes (measured w settings.limits) x Greets (without_ids rest) in
    let taken_is : record taken { deferred = without_ids s.deferred.wires } ≡ taken = ap (λ ds. record taken { deferred = ds }) s.deferred.commands in
    let acted = greet-acted m settings w taken l.target x.now.state.handshaken laws.puts s.target.sizes says in
    handled-parts m settings w l x _ id Greets rest [] laws.finds s first came o sends (λ p h. h)
    (subst (λ z. Acted m w z (handles m settings (stands x.now Established) streams.Handshake) [] (greets_by settings taken x.now.state.handshaken)) (sym taken_is) acted)
placed-parts m settings w l x id Established (Asks k c) rest laws known s phase place first came o encoded sends =
    let message = call_sent w id (Asks k c) in
    let taken = target_takes (measured w settings.limits) x (Asks k c) (without_ids rest) in
    let same : deeds.defers (full_standing l.target) message ≡ defers x c = same-defers m settings w l x id k c s phase in
    subst (λ b. Parts m settings w (record l { target = took m message (call_size w (Asks k c)) l.target b; did = true }) (defers_or m settings taken k c (defers x c))) (sym same)
    (asked-parts m settings w l x id k c rest (defers x c) laws known s phase first came o (subst (EncodesUnless m l.target message) same encoded)
    (subst (λ b. AreSendable l.target.end.limits.packet (handles_where m l.target.settings (full_standing l.target) message b).sends) same sends))
placed-parts m settings w l x id phase call rest laws k s p place first came o encoded sends = absurd (cc)

-- A turn of the target at a message.
pub turn-parts : {S : Type 0} (m : Meaning S) (settings : Settings) (w : Widths) (l : Link S) (x : World S) → Laws m → Known m settings x → (s : Parts m settings w l x)
    → (h : HasCall settings w l.target.end x s.to.wires)
    → EncodesNext m (Whole (call_sent w h.id h.call) (call_size w h.call)) l.target
    → SendsAt m (Whole (call_sent w h.id h.call) (call_size w h.call)) l.target
    → Parts m settings w (record l { target = targets.with_handled m (call_sent w h.id h.call) (call_size w h.call) l.target; did = true }) (target_turn m settings (measured w settings.limits) x)
turn-parts m settings w l x laws k s h encoded sends =
    subst (λ f. Parts m settings w (record l { target = targets.with_handled m (call_sent w h.id h.call) (call_size w h.call) l.target; did = true }) (target_turn_at m settings (measured w settings.limits) x f)) (sym h.some)
    (placed-parts m settings w l x h.id x.target h.call h.rest laws k s refl h.in_place h.first h.came h.opened encoded sends)

-- one that handles none
pub idle-parts : {S : Type 0} (m : Meaning S) (settings : Settings) (w : Widths) (l : Link S) (x : World S) → Parts m settings w l x → IsIdle settings w l.target.end x → Parts m settings w (idle l) (target_turn m settings (measured w settings.limits) x)
idle-parts m settings w l x s h = subst (λ f. Parts m settings w (idle l) (target_turn_at m settings (measured w settings.limits) x f)) (sym h.none) (parts-did m settings w l x false s)
