-- neither end ever refuses what the other sent
use Rattle.std.proofs.Common.{◌≡◌, ◌+◌, ◌≤◌, inl, Bool, true, false, ◌||◌, not, cond, Option, Some, None, List, [], ◌∷◌, ◌++◌, length, refl, sym, ◌∙◌, ap, subst, arith, is_some}
use Rattle.std.specs.Prelude.{nat_lt}
use Rattle.std.proofs.lemmas.Bool.{lt-ltb}
use Rattle.jdwp_layout.specs.declared.answer.Answer.{Answer}
use Rattle.jdwp_end.specs.declared.phase.Phase.{Phase}
use Rattle.jdwp_end.specs.declared.phase.Phase.TheVariants.{Closed, AwaitingHandshake, Established}
use Rattle.jdwp_end.specs.Ends.{is_established_phase}
use Rattle.jdwp_event.specs.Composites.{CompositeMeaning}
use Rattle.jdwp_event.specs.Told.{is_vm_death}
use Rattle.jdwp_machine.specs.Meanings.{Meaning}
use Rattle.jdwp_debuggee.specs.Settings.{Settings}
use Rattle.jdwp_debuggee.specs.State.{Moment}
use Rattle.jdwp_action.specs.Actions.{Command}
use Rattle.jdwp_mirror.specs.Messages.{Ticket, Call, Greets, Asks, Message, Handshake, Reply, Report}
use Rattle.jdwp_debuggee.specs.Effects.{effect}
use Rattle.jdwp_debuggee.specs.Steps.{occurs}
use Rattle.jdwp_mirror.specs.Mirror.{COUNT_MOST, ends}
use Rattle.jdwp_mirror.specs.Faults
use Rattle.jdwp_mirror.specs.Faults.{Fault, when, is_waited_for, is_bad_reply, is_bad_event, has_bad_event, PARKED_MOST, fault_after_greeting, fault_before_greeting, fault_of}
use Rattle.jdwp_model.specs.Events
use Rattle.jdwp_model.specs.Events.{LinkEvent, Outcome, begins_deferring, defer_nothing}
use Rattle.jdwp_model.specs.World.{Measure, is_closed, Packet, World, opening}
use Rattle.jdwp_model.specs.Next.{greets_by, dies_by, answers, defers, defers_or, target_takes, target_handles, target_front, target_turn_at, release_front, releases_at, closes_by, has_end, messages_of, composites_of, answered, reads_reply, reads_composite, reads, reader, debugger_handles, debugger_takes, debugger_front, debugger_turn_at, steps_now, stepped, next, run}
use Rattle.jdwp_model.specs.Seen.{mirror_count, composites_in}
use Rattle.jdwp_model.specs.Headline.{MayBegin, Always}
use Rattle.jdwp_model.specs.Faultless.{NoPacketIsRefused, is_in_place, NoCallIsRefused, AnswersOneWaiting, AnswersFirstWaiting, AlwaysUndeferred, FewWait, TurnsLoseNothing, ends_in_front, TurnsCloseAtEnds, IdlesUnchanged, AtEachTurn}
use Rattle.jdwp_model.proofs.Session.{Links, links_front, and-left, and-right, replies, commands}
use Rattle.jdwp_model.specs.Places.{one_of, EachAtOnePlace}
use Rattle.jdwp_model.specs.Deferred.{DefersFew}
use Rattle.jdwp_model.specs.Rests.{Rests}
use Rattle.jdwp_model.proofs.Waiting.{In, waited, one-alone}
use Rattle.jdwp_model.proofs.Fronts.{by_target_front, by_debugger_front}
use Rattle.jdwp_model.proofs.Keeps.{closed-not-open, Inv, keeps}
use Rattle.jdwp_model.proofs.Theorems.{opening_inv}
use Rattle.jdwp_model.proofs.Cases.{kept_next}
use Rattle.jdwp_model.proofs.Deferred.{few_deferred, deferred_kept}
use Rattle.jdwp_model.proofs.Ordered.{Ordered, opening_ordered, ordered_next}
use Rattle.jdwp_model.proofs.Fair.{AllFair, mirrors_know, event_accepted, events_accepted}
use Rattle.jdwp_model.proofs.Fairness.{Fairness, fairness_kept}
use Rattle.jdwp_model.proofs.Phases.{is_waiting, is_handshake, no_handshake, begins, no_greeting, waits-or, PhasesOf, phases_kept}
use Rattle.jdwp_model.proofs.Unready.{room, room-most, UnreadyOf, unready_kept}

-- ---- all of it, after every event

pub record Whole {S : Type 0} (m : Meaning S) (settings : Settings) (w : World S) : Type 0 where
  pub inv : Inv m settings w
  pub fair : Fairness w
  pub phases : PhasesOf w
  pub unready : UnreadyOf w
  pub few : DefersFew w

whole-next : {S : Type 0} (m : Meaning S) → Rests m → (settings : Settings) → 1 ≤ settings.count_limit → settings.count_limit ≤ COUNT_MOST → (measure : Measure) (w : World S) (e : LinkEvent) → Whole m settings w → Whole m settings (next m settings measure w e).0
whole-next m rests settings least most measure w e h =
    record {
      inv = keeps m rests settings least most measure w e h.inv;
      fair = kept_next m settings measure w Fairness e h.fair (fairness_kept m rests settings w h.inv h.fair) (λ _ _. record { policies = h.fair.policies; parked = h.fair.parked; sent = h.fair.sent });
      phases = kept_next m settings measure w PhasesOf e h.phases (phases_kept m rests settings w h.inv h.phases) (λ _ _. h.phases);
      unready = kept_next m settings measure w UnreadyOf e h.unready (unready_kept m rests settings w h.inv h.unready) (λ _ _. h.unready);
      few = kept_next m settings measure w DefersFew e h.few (deferred_kept m settings w h.few) (λ deferring _. few_deferred w deferring h.few);
    }

whole-run : {S : Type 0} (m : Meaning S) → Rests m → (settings : Settings) → 1 ≤ settings.count_limit → settings.count_limit ≤ COUNT_MOST → (measure : Measure) (w : World S) (es : List LinkEvent) → Whole m settings w → Whole m settings (run m settings measure w es)
whole-run m rests settings least most measure w [] h = h
whole-run m rests settings least most measure w (e ∷ es) h = whole-run m rests settings least most measure (next m settings measure w e).0 es (whole-next m rests settings least most measure w e h)

opening-whole : {S : Type 0} (m : Meaning S) (settings : Settings) (s : S) → MayBegin m settings s → Whole m settings (opening m s)
opening-whole m settings s b =
    record {
      inv = opening_inv m settings s b;
      fair = record { policies = tt; parked = tt; sent = tt };
      phases = record { waits = λ x. absurd (cc); asked = λ x. absurd (cc); first = λ x. absurd (cc); later = λ x. absurd (cc) };
      unready = λ o r. absurd (cc);
      few = record { few = omega arith; deferrable = tt; none = λ _. refl };
    }

pub always_whole : {S : Type 0} (m : Meaning S) → Rests m → (P : World S → Type 0) → ((settings : Settings) (w : World S) → Whole m settings w → P w) → Always m P
always_whole m rests P f settings measure s events b =
    f settings (run m settings measure (opening m s) events) (whole-run m rests settings b.limit_least b.limit_most measure (opening m s) events (opening-whole m settings s b))

-- ---- what the debugger reads

length-messages : {S : Type 0} (ps : List (Packet S)) → length (messages_of ps) ≡ length ps
length-messages [] = refl
length-messages (p ∷ ps) = let e : length (messages_of ps) ≡ length ps = length-messages ps in omega arith

-- a message that is no handshake comes to a debugger that was greeted
open-after : {S : Type 0} (m : Meaning S) (settings : Settings) (w : World S) (p : Packet S) (rest : List (Packet S)) → Whole m settings w → is_closed w.debugger ≡ false → w.to_debugger ≡ p ∷ rest → is_handshake p.0 ≡ false → is_established_phase w.debugger ≡ true
open-after m settings w p rest h o e n =
    elim (is_established_phase w.debugger) as (λ b. is_established_phase w.debugger ≡ b → b ≡ true) [
      | true ↦ λ _. refl
      | false ↦ λ g.
          let a : begins (is_established_phase w.target) (p ∷ rest) ≡ true = ap (begins (is_established_phase w.target)) (sym e) ∙ h.phases.first (waits-or w.debugger o g) in
          let b : is_handshake p.0 ≡ true = and-left (is_handshake p.0) (no_handshake rest) a in
          absurd (cc)
    ] refl

closed-before : {S : Type 0} (m : Meaning S) (settings : Settings) (w : World S) (a : Moment S) (rest : List (Packet S)) → Whole m settings w → w.to_debugger ≡ (Handshake, a) ∷ rest → is_established_phase w.debugger ≡ false
closed-before m settings w a rest h e =
    elim (is_established_phase w.debugger) as (λ b. is_established_phase w.debugger ≡ b → b ≡ false) [
      | true ↦ λ g. let b : false ≡ true = ap no_handshake (sym e) ∙ h.phases.later g in absurd (cc)
      | false ↦ λ _. refl
    ] refl

after-greeting : {S : Type 0} (w : World S) (message : Message) → is_established_phase w.debugger ≡ true → fault_after_greeting (reader w) message ≡ None → fault_of (reader w) message ≡ None
after-greeting w message g h = ap (λ b. cond b (fault_after_greeting (reader w) message) (fault_before_greeting message)) g ∙ h

reply-read : {S : Type 0} (m : Meaning S) (settings : Settings) (w : World S) (k : Ticket) (c : Command) (x : Answer) (a : Moment S) (rest : List (Packet S)) → Whole m settings w → is_closed w.debugger ≡ false → w.to_debugger ≡ (Reply k c x, a) ∷ rest → fault_after_greeting (reader w) (Reply k c x) ≡ None
reply-read m settings w k c x a rest h o e =
    let s = h.inv.debugger.session o in
    let waits : is_waited_for k w.pending ≡ true = waited k c w.pending (s.waits.in_replied (k, c) (subst (λ l. In (replies l) (k, c)) (sym e) (inl refl))) in
    let good : is_bad_reply c x ≡ false = (subst AllFair e h.fair.sent).0 in
    let none : has_bad_event (mirror_count w.read) (messages_of w.parked) ≡ false =
    events_accepted m w.parked w.read s.base (mirrors_know m w.read s.base s.mirrors) (links_front m s.base w.parked w.to_debugger s.links) h.fair.parked s.no_reply_waits in
    rw (waits, good, none) refl

report-ready : {S : Type 0} (m : Meaning S) (settings : Settings) (w : World S) (c : CompositeMeaning) (a : Moment S) (rest : List (Packet S)) → Whole m settings w → is_closed w.debugger ≡ false → w.ready ≡ true → w.to_debugger ≡ (Report c, a) ∷ rest → is_bad_event (mirror_count w.read) c ≡ false
report-ready m settings w c a rest h o r e =
    let s = h.inv.debugger.session o in
    let empty : w.parked ≡ [] = h.inv.debugger.ready_parked r in
    let l : Links m s.base ((Report c, a) ∷ rest) = subst (λ ps. Links m s.base (ps ++ (Report c, a) ∷ rest)) empty (subst (λ ps. Links m s.base (w.parked ++ ps)) e s.links) in
    event_accepted m w.read s.base a c (mirrors_know m w.read s.base s.mirrors) l.0 (subst AllFair e h.fair.sent).0

report-parked : {S : Type 0} (m : Meaning S) (settings : Settings) (w : World S) (c : CompositeMeaning) (a : Moment S) (rest : List (Packet S)) → Whole m settings w → is_closed w.debugger ≡ false → w.ready ≡ false → w.to_debugger ≡ (Report c, a) ∷ rest → nat_lt (length (messages_of w.parked)) PARKED_MOST ≡ true
report-parked m settings w c a rest h o r e =
    let u = h.unready o r in
    let few : length w.parked + (1 + composites_in rest) ≤ room w.target = subst (λ l. length w.parked + composites_in l ≤ room w.target) e u.few in
    let most : room w.target ≤ 2 = room-most w.target in
    let same : length (messages_of w.parked) ≡ length w.parked = length-messages w.parked in
    lt-ltb (length (messages_of w.parked)) 4 (omega arith)

report-by : {S : Type 0} (m : Meaning S) (settings : Settings) (w : World S) (c : CompositeMeaning) (a : Moment S) (rest : List (Packet S)) (b : Bool) → Whole m settings w → is_closed w.debugger ≡ false → w.to_debugger ≡ (Report c, a) ∷ rest → w.ready ≡ b → cond b (when (is_bad_event (mirror_count w.read) c) Faults.BadEvent) (when (not (nat_lt (length (messages_of w.parked)) PARKED_MOST)) Faults.TooManyParked) ≡ None
report-by m settings w c a rest true h o e r = ap (λ b. when b Faults.BadEvent) (report-ready m settings w c a rest h o r e)
report-by m settings w c a rest false h o e r = ap (λ b. when (not b) Faults.TooManyParked) (report-parked m settings w c a rest h o r e)

pub no_packet_is_refused : {S : Type 0} (m : Meaning S) (settings : Settings) (w : World S) → Whole m settings w → NoPacketIsRefused w
no_packet_is_refused m settings w h (Handshake, a) rest o e = ap (λ b. cond b (Some Faults.BadHandshake) None) (closed-before m settings w a rest h e)
no_packet_is_refused m settings w h (Reply k c x, a) rest o e = after-greeting w (Reply k c x) (open-after m settings w (Reply k c x, a) rest h o e refl) (reply-read m settings w k c x a rest h o e)
no_packet_is_refused m settings w h (Report c, a) rest o e = after-greeting w (Report c) (open-after m settings w (Report c, a) rest h o e refl) (report-by m settings w c a rest w.ready h o e refl)

-- ---- what the target reads

in-place : (phase : Phase) (call : Call) (rest calls : List Call) → is_closed phase ≡ false → calls ≡ call ∷ rest → (is_waiting phase ≡ true → calls ≡ Greets ∷ []) → (is_established_phase phase ≡ true → no_greeting calls ≡ true) → is_in_place phase call ≡ true
in-place Closed call rest calls o e w a = absurd (cc)
in-place AwaitingHandshake Greets rest calls o e w a = refl
in-place AwaitingHandshake (Asks k c) rest calls o e w a = let x : calls ≡ Greets ∷ [] = w refl in let y : Asks k c ∷ rest ≡ Greets ∷ [] = sym e ∙ x in absurd (cc)
in-place Established (Asks k c) rest calls o e w a = refl
in-place Established Greets rest calls o e w a = let x : false ≡ true = ap no_greeting (sym e) ∙ a refl in absurd (cc)

pub no_call_is_refused : {S : Type 0} (m : Meaning S) (settings : Settings) (w : World S) → Whole m settings w → NoCallIsRefused w
no_call_is_refused m settings w h call rest o e = in-place w.target call rest w.to_target o e (λ x. (h.phases.waits x).0) h.phases.asked

-- ---- what waits

pub answers_one_waiting : {S : Type 0} (m : Meaning S) (settings : Settings) (w : World S) → Whole m settings w → AnswersOneWaiting w
answers_one_waiting m settings w h k c x a rest o e =
    one-alone k c w.pending (h.inv.apart.once k) ((h.inv.debugger.session o).waits.in_replied (k, c) (subst (λ l. In (replies l) (k, c)) (sym e) (inl refl)))

pub each_at_one_place : {S : Type 0} (m : Meaning S) (settings : Settings) (w : World S) → Whole m settings w → EachAtOnePlace w
each_at_one_place m settings w h k o =
    let all = (h.inv.debugger.session o).waits.same (one_of k) in
    let once = h.inv.apart.once k in
    omega arith

pub defers_few : {S : Type 0} (m : Meaning S) (settings : Settings) (w : World S) → Whole m settings w → DefersFew w
defers_few m settings w h = h.few

answers-first : {S : Type 0} (w : World S) → Ordered w → AnswersFirstWaiting w
answers-first w p k c x a rest o e = (replies rest ++ commands w.to_target, p.in_order o ∙ ap (λ l. replies l ++ commands w.to_target) e)

not-false : (b : Bool) → not b ≡ true → b ≡ false
not-false true h = absurd (cc)
not-false false h = refl

ordered-run : {S : Type 0} (m : Meaning S) → Rests m → (settings : Settings) → 1 ≤ settings.count_limit → settings.count_limit ≤ COUNT_MOST → (measure : Measure) (w : World S) (es : List LinkEvent) → Inv m settings w → defer_nothing es ≡ true → Ordered w → Ordered (run m settings measure w es)
ordered-run m rests settings least most measure w [] i n p = p
ordered-run m rests settings least most measure w (e ∷ es) i n p =
    ordered-run m rests settings least most measure (next m settings measure w e).0 es (keeps m rests settings least most measure w e i) (and-right (not (begins_deferring e)) _ n)
    (ordered_next m settings measure w e (not-false (begins_deferring e) (and-left _ _ n)) i p)

pub answers_first_waiting : {S : Type 0} (m : Meaning S) → Rests m → AlwaysUndeferred m AnswersFirstWaiting
answers_first_waiting m rests settings measure s events b n =
    answers-first (run m settings measure (opening m s) events) (ordered-run m rests settings b.limit_least b.limit_most measure (opening m s) events (opening_inv m settings s b) n (opening_ordered m s))

few-if-none : {S : Type 0} (w : World S) → w.parked ≡ [] → FewWait w
few-if-none w e = let same : length w.parked ≡ 0 = ap length e in omega arith

few-by : {S : Type 0} (m : Meaning S) (settings : Settings) (w : World S) (closed ready : Bool) → Whole m settings w → is_closed w.debugger ≡ closed → w.ready ≡ ready → FewWait w
few-by m settings w true ready h o r = few-if-none w (h.inv.debugger.unparked (closed-not-open w.debugger o))
few-by m settings w false true h o r = few-if-none w (h.inv.debugger.ready_parked r)
few-by m settings w false false h o r =
    let few : length w.parked + composites_in w.to_debugger ≤ room w.target = (h.unready o r).few in
    let most : room w.target ≤ 2 = room-most w.target in
    omega arith

pub few_wait : {S : Type 0} (m : Meaning S) (settings : Settings) (w : World S) → Whole m settings w → FewWait w
few_wait m settings w h = few-by m settings w (is_closed w.debugger) w.ready h refl refl

-- ---- turns

pub at_each_turn : {S : Type 0} (m : Meaning S) → Rests m → (P : Settings → Measure → World S → Type 0) → ((settings : Settings) (measure : Measure) (w : World S) → Whole m settings w → P settings measure w) → AtEachTurn m P
at_each_turn m rests P f settings measure s events b =
    f settings measure (run m settings measure (opening m s) events) (whole-run m rests settings b.limit_least b.limit_most measure (opening m s) events (opening-whole m settings s b))

greeted-lost : {S : Type 0} (settings : Settings) (w : World S) (b : Bool) → (greets_by settings w b).lost ≡ w.lost
greeted-lost settings w true = refl
greeted-lost settings w false = refl

died-lost : {S : Type 0} (w : World S) (b : Bool) → (dies_by w b).lost ≡ w.lost
died-lost w true = refl
died-lost w false = refl

handled-lost : {S : Type 0} (m : Meaning S) (settings : Settings) (measure : Measure) (w : World S) (rest : List Call) (phase : Phase) (call : Call) → is_in_place phase call ≡ true → (target_handles m settings measure w rest phase call).lost ≡ w.lost
handled-lost m settings measure w rest AwaitingHandshake Greets h = greeted-lost settings (target_takes measure w Greets rest) w.now.state.handshaken
handled-lost m settings measure w rest Established (Asks k c) h =
    let v = target_takes measure w (Asks k c) rest in
    elim (defers w c) as (λ b. (defers_or m settings v k c b).lost ≡ w.lost) [ true ↦ refl | false ↦ died-lost (answers v k c (effect m settings w.now c)) (effect m settings w.now c).dies ]
handled-lost m settings measure w rest phase call h = absurd (cc)

pub turns_lose_nothing : {S : Type 0} (m : Meaning S) (settings : Settings) (measure : Measure) (w : World S) → Whole m settings w → TurnsLoseNothing m settings measure w
turns_lose_nothing m settings measure w h =
    by_target_front settings measure w (λ o. (target_turn_at m settings measure w o).lost ≡ w.lost) refl
    (λ call rest o e. handled-lost m settings measure w rest w.target call (no_call_is_refused m settings w h call rest o e))

-- a debugger's end that is not closed stays so, but for this
abbrev ClosesIf : {S : Type 0} → Bool → World S × List Outcome → Type 0
ClosesIf b r = is_closed r.0.debugger ≡ true → b ≡ true

stays-open : {S : Type 0} (b : Bool) (w : World S) (os : List Outcome) → is_closed w.debugger ≡ false → ClosesIf b (w, os)
stays-open b w os o h = absurd (cc)

closed-if : {S : Type 0} (w : World S) (os : List Outcome) (b : Bool) → is_closed w.debugger ≡ false → ClosesIf b (closes_by w os b)
closed-if w os true o h = refl
closed-if w os false o h = absurd (cc)

or-left : (a b : Bool) → a ≡ true → (a || b) ≡ true
or-left true b h = refl
or-left false b h = absurd (cc)

composite-closes : {S : Type 0} (w : World S) (p : Packet S) (c : CompositeMeaning) (b : Bool) → is_closed w.debugger ≡ false → ClosesIf (is_vm_death c || has_end w.parked) (reads_composite w p c b)
composite-closes w p c false o h = absurd (cc)
composite-closes w p c true o h = or-left _ _ (closed-if (record w { read = p ∷ w.read }) (Events.Seen c ∷ []) (is_vm_death c) o h)

read-closes : {S : Type 0} (w : World S) (p : Packet S) → is_closed w.debugger ≡ false → ClosesIf (ends p.0 || has_end w.parked) (reads w p)
read-closes w (Handshake, a) o h = absurd (cc)
read-closes w (Reply k c x, a) o h = closed-if (reads_reply w (Reply k c x, a) k) (composites_of w.parked ++ answered k x) (ends (Reply k c x) || has_end w.parked) o h
read-closes w (Report c, a) o h = composite-closes w (Report c, a) c w.ready o h

packet-closes : {S : Type 0} (measure : Measure) (w : World S) (p : Packet S) (rest : List (Packet S)) (f : Option Fault) → f ≡ None → is_closed w.debugger ≡ false → ClosesIf (ends p.0 || has_end w.parked) (debugger_handles (debugger_takes measure w p rest) p f)
packet-closes measure w p rest None e o h = read-closes (debugger_takes measure w p rest) p o h
packet-closes measure w p rest (Some f) e o h = absurd (cc)

pub turns_close_at_ends : {S : Type 0} (m : Meaning S) (settings : Settings) (measure : Measure) (w : World S) → Whole m settings w → TurnsCloseAtEnds settings measure w
turns_close_at_ends m settings measure w h o =
    by_debugger_front settings measure w (λ r. ClosesIf (ends_in_front w.parked w.to_debugger) (debugger_turn_at measure w r)) (stays-open _ w [] o)
    (λ p rest _ e. subst (λ l. ClosesIf (ends_in_front w.parked l) (debugger_turn_at measure w (Some (p, rest)))) (sym e)
    (packet-closes measure w p rest (fault_of (reader w) p.0) (no_packet_is_refused m settings w h p rest o e) o))

-- all stays as it was, and nothing is told
abbrev IsAsItWas : {S : Type 0} → World S → World S × List Outcome → Type 0
IsAsItWas w r = r ≡ (w, [])

pub idles_unchanged : {S : Type 0} (m : Meaning S) (settings : Settings) (measure : Measure) (w : World S) → Whole m settings w → IdlesUnchanged m settings measure w
idles_unchanged m settings measure w h Events.TargetTurn t a =
    elim (target_front settings measure w) as (λ o. is_some o ≡ false → IsAsItWas w (target_turn_at m settings measure w o, [])) [ None ↦ λ _. refl | Some o ↦ λ y. absurd (cc) ] a
idles_unchanged m settings measure w h Events.DebuggerTurn t a =
    elim (debugger_front settings measure w) as (λ o. is_some o ≡ false → IsAsItWas w (debugger_turn_at measure w o)) [ None ↦ λ _. refl | Some o ↦ λ y. absurd (cc) ] a
idles_unchanged m settings measure w h (Events.Step u) t a =
    elim (steps_now m settings measure w u) as (λ b. b ≡ false → IsAsItWas w (cond b (stepped w (occurs m w.now u)) w, [])) [ true ↦ λ y. absurd (cc) | false ↦ λ _. refl ] a
idles_unchanged m settings measure w h (Events.Release place) t a =
    elim (release_front settings measure w place) as (λ o. is_some o ≡ false → IsAsItWas w (releases_at m settings w o, [])) [ None ↦ λ _. refl | Some o ↦ λ y. absurd (cc) ] a
idles_unchanged m settings measure w h e t a = absurd (cc)
