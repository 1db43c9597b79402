-- every event keeps what a debugger's watch has of the link
use Rattle.std.proofs.Common.{◌≡◌, ℕ, ◌+◌, ◌-◌, ◌≤◌, Bool, true, false, ◌||◌, ◌&&◌, not, cond, Option, Some, None, List, [], ◌∷◌, ◌++◌, refl, subst}
use Rattle.std.proofs.lemmas.Bool.{cond_both}
use Rattle.jdwp_end.specs.declared.phase.Phase.{Phase}
use Rattle.jdwp_end.specs.declared.phase.Phase.TheVariants.{Closed, AwaitingHandshake, Established}
use Rattle.jdwp_end.specs.Ends.{is_established_phase}
use Rattle.jdwp_event.specs.Composites.{CompositeMeaning}
use Rattle.jdwp_event.specs.Told.{is_vm_death}
use Rattle.jdwp_machine.specs.Meanings.{Meaning}
use Rattle.jdwp_debuggee.specs.Settings.{Settings}
use Rattle.jdwp_debuggee.specs.State.{Moment}
use Rattle.jdwp_debuggee.specs.Effects.{Effect, effect}
use Rattle.jdwp_debuggee.specs.Steps.{occurs}
use Rattle.jdwp_action.specs.Actions.{Command}
use Rattle.jdwp_mirror.specs.Messages.{Ticket, Call, Greets, Asks, Handshake, Reply, Report}
use Rattle.jdwp_mirror.specs.Mirror.{ends, COUNT_MOST}
use Rattle.jdwp_mirror.specs.Faults.{Fault, fault_of}
use Rattle.jdwp_model.specs.Events
use Rattle.jdwp_model.specs.Events.{LinkEvent, AskRefusal, Outcome, begins_deferring, defer_nothing}
use Rattle.jdwp_model.specs.World.{Measure, is_closed, Packet, World}
use Rattle.jdwp_model.specs.Next.{attached, may_attach, ask_refusal, is_busy, ask_by, greets_by, dies_by, answers, defers, defers_or, target_takes, target_handles, target_turn_at, releases_at, closes_by, has_end, composites_of, answered, reads_reply, reads_composite, reads, reader, debugger_handles, debugger_takes, debugger_turn_at, with_report, step_ends, stepped, steps_now, delivered, next, run}
use Rattle.jdwp_model.specs.World.{way_to_target, way_to_debugger}
use Rattle.jdwp_model.specs.Rests.{Rests}
use Rattle.jdwp_model.proofs.Session.{Links, and-left, and-right}
use Rattle.jdwp_model.proofs.Fronts.{by_target_front, by_release_front, by_debugger_front}
use Rattle.jdwp_model.proofs.Keeps.{Inv, keeps, asked-ready, greeted-before, not-greeted, closed-not-open}
use Rattle.jdwp_model.proofs.Cases.{kept_next}
use Rattle.jdwp_model.proofs.Ordered.{Ordered, ordered_next}
use Rattle.jdwp_model.proofs.Fairness.{Fairness, fairness_kept}
use Rattle.jdwp_apart.specs.Watch.{Watch}
use Rattle.jdwp_orders.specs.Watched.{Since, IsPast, hears, hears_packet, hears_front, asks_by, heeds, begins, watch_next, watch_after}
use Rattle.jdwp_orders.proofs.Greetings.{GreetsIdle, idle_kept}
use Rattle.jdwp_orders.proofs.Joined.{Joined, On, joined_asks, joined_handshake, joined_reply, joined_composite}

-- ---- the target's turns and threads leave the debugger's side

answered-on : {S : Type 0} (m : Meaning S) (b : Bool) (since : Since) (w : World S) (watch : Watch) (k : Ticket) (c : Command) (e : Effect S) (dies : Bool) → On m b since w watch → On m b since (dies_by (answers w k c e) dies) watch
answered-on m b since w watch k c e true j = j
answered-on m b since w watch k c e false j = j

handled-on : {S : Type 0} (m : Meaning S) (settings : Settings) (measure : Measure) (b : Bool) (since : Since) (w : World S) (watch : Watch) (rest : List Call) (phase : Phase) (call : Call) → On m b since w watch → On m b since (target_handles m settings measure w rest phase call) watch
handled-on m settings measure b since w watch rest AwaitingHandshake Greets j =
    elim w.now.state.handshaken as (λ h. On m b since (greets_by settings (target_takes measure w Greets rest) h) watch) [ true ↦ j | false ↦ j ]
handled-on m settings measure b since w watch rest Established (Asks k c) j =
    elim (defers w c) as (λ h. On m b since (defers_or m settings (target_takes measure w (Asks k c) rest) k c h) watch) [
      | true ↦ j
      | false ↦ answered-on m b since (target_takes measure w (Asks k c) rest) watch k c (effect m settings w.now c) (effect m settings w.now c).dies j
    ]
handled-on m settings measure b since w watch rest phase call j = j

ended-on : {S : Type 0} (m : Meaning S) (b : Bool) (since : Since) (w : World S) (watch : Watch) (phase : Phase) (dies : Bool) → On m b since w watch → On m b since (step_ends w phase dies) watch
ended-on m b since w watch phase false j = j
ended-on m b since w watch Established true j = j
ended-on m b since w watch AwaitingHandshake true j = j
ended-on m b since w watch Closed true j = j

told-on : {S : Type 0} (m : Meaning S) (b : Bool) (since : Since) (w : World S) (watch : Watch) (after : Moment S) (sends : Option CompositeMeaning) → On m b since w watch → On m b since (with_report w after sends) watch
told-on m b since w watch after None j = j
told-on m b since w watch after (Some c) j = j

-- ---- the debugger's turn

-- All that is kept of a link.
pub record All {S : Type 0} (m : Meaning S) (settings : Settings) (b : Bool) (since : Since) (w : World S) (watch : Watch) : Type 0 where
  pub inv : Inv m settings w
  pub fair : Fairness w
  pub order : Ordered w
  pub idle : GreetsIdle w.to_debugger
  pub joined : Joined m b since w.debugger w.read w.pending watch

closed-by : {S : Type 0} (m : Meaning S) (b : Bool) (since : Since) (w : World S) (watch : Watch) (outcomes : List Outcome) (closes : Bool) → (closes ≡ false → On m b since w watch) → On m b since (closes_by w outcomes closes).0 watch
closed-by m b since w watch outcomes true f = λ o. absurd (cc)
closed-by m b since w watch outcomes false f = f refl

composite-on : {S : Type 0} (m : Meaning S) (settings : Settings) (b : Bool) (since : Since) (w : World S) (watch : Watch) (n : ℕ) (c : CompositeMeaning) (a : Moment S) (rest : List (Packet S)) (ready : Bool) → IsPast since → All m settings b since w watch → is_established_phase w.debugger ≡ true → w.to_debugger ≡ (Report c, a) ∷ rest → w.ready ≡ ready → On m b since (reads_composite (record w { to_debugger = rest; at_debugger = n }) (Report c, a) c ready).0 (cond ready (hears since watch (Report c)) watch)
composite-on m settings b since w watch n c a rest false past h g e r = λ _. h.joined
composite-on m settings b since w watch n c a rest true past h g e r =
    closed-by m b since (record w { to_debugger = rest; at_debugger = n; read = (Report c, a) ∷ w.read }) (hears since watch (Report c)) (Events.Seen c ∷ []) (is_vm_death c)
    (λ d _. joined_composite m settings b since w c a rest watch past h.inv h.fair g r e d h.joined)

read-on : {S : Type 0} (m : Meaning S) (settings : Settings) (b : Bool) (since : Since) (w : World S) (watch : Watch) (n : ℕ) (p : Packet S) (rest : List (Packet S)) → IsPast since → All m settings b since w watch → is_closed w.debugger ≡ false → w.to_debugger ≡ p ∷ rest → fault_of (reader w) p.0 ≡ None → On m b since (reads (record w { to_debugger = rest; at_debugger = n }) p).0 (hears_packet since w watch p.0)
read-on m settings b since w watch n (Handshake, a) rest past h o e f =
    let g = not-greeted (is_established_phase w.debugger) f in
    let s = h.inv.debugger.session o in
    let links : Links m s.base ((Handshake, a) ∷ rest) = subst (λ l. Links m s.base (l ++ (Handshake, a) ∷ rest)) (h.inv.debugger.unparked g) (subst (λ l. Links m s.base (w.parked ++ l)) e s.links) in
    let greets : GreetsIdle ((Handshake, a) ∷ rest) = subst GreetsIdle e h.idle in
    λ _. joined_handshake m b since w.read w.pending a watch (h.inv.apart.none g) (h.joined.early g) links.0.acts.lives greets.0
read-on m settings b since w watch n (Reply k c x, a) rest past h o e f =
    let g = greeted-before (is_established_phase w.debugger) _ None f in
    closed-by m b since (reads_reply (record w { to_debugger = rest; at_debugger = n }) (Reply k c x, a) k) (hears_packet since w watch (Reply k c x)) (composites_of w.parked ++ answered k x) (ends (Reply k c x) || has_end w.parked)
    (λ d _. joined_reply m settings b since w k c x a rest watch past h.inv h.fair h.order g e (second (ends (Reply k c x)) (has_end w.parked) d) h.joined)
  where
    second : (a b : Bool) → (a || b) ≡ false → b ≡ false
    second true b h = absurd (cc)
    second false b h = h
read-on m settings b since w watch n (Report c, a) rest past h o e f =
    composite-on m settings b since w watch n c a rest w.ready past h (greeted-before (is_established_phase w.debugger) _ None f) e refl

handles-on : {S : Type 0} (m : Meaning S) (settings : Settings) (measure : Measure) (b : Bool) (since : Since) (w : World S) (watch : Watch) (p : Packet S) (rest : List (Packet S)) (f : Option Fault) → IsPast since → All m settings b since w watch → is_closed w.debugger ≡ false → w.to_debugger ≡ p ∷ rest → fault_of (reader w) p.0 ≡ f → On m b since (debugger_handles (debugger_takes measure w p rest) p f).0 (hears_packet since w watch p.0)
handles-on m settings measure b since w watch p rest (Some f) past h o e q = λ x. absurd (cc)
handles-on m settings measure b since w watch p rest None past h o e q = read-on m settings b since w watch (w.at_debugger - measure.message p.0) p rest past h o e q

-- ---- all events

ask-on : {S : Type 0} (m : Meaning S) (settings : Settings) (measure : Measure) (b : Bool) (since : Since) (w : World S) (watch : Watch) (c : Command) (r : Option AskRefusal) → ask_refusal settings measure w c ≡ r → Joined m b since w.debugger w.read w.pending watch → On m b since (ask_by w c r).0 (asks_by watch c r)
ask-on m settings measure b since w watch c (Some r) e j = λ _. j
ask-on m settings measure b since w watch c None e j =
    let both : (is_established_phase w.debugger && w.ready) ≡ true = asked-ready (is_closed w.debugger) (is_established_phase w.debugger && w.ready) (is_busy settings measure w) (measure.unfit c) e in
    λ _. joined_asks m b since w.debugger w.read w.pending (Some (w.asked + 1)) c watch (and-left (is_established_phase w.debugger) w.ready both) j

on : {S : Type 0} (m : Meaning S) (settings : Settings) (measure : Measure) (b : Bool) (since : Since) (w : World S) (watch : Watch) (e : LinkEvent) → IsPast since → All m settings b since w watch → On m b since (next m settings measure w e).0 (heeds since settings measure w watch e)
on m settings measure b since w watch Events.Attach past h =
    cond_both (may_attach w) (attached w) w (λ v. On m b since v watch)
    (λ q _. record {
      early = λ _. h.joined.early (closed-not-open w.debugger (and-left (is_closed w.debugger) w.now.state.alive (and-right (is_closed w.target) (is_closed w.debugger && w.now.state.alive) q)));
      late = λ x. absurd (cc);
    })
    (λ _ _. h.joined)
on m settings measure b since w watch (Events.Ask c) past h = ask-on m settings measure b since w watch c (ask_refusal settings measure w c) refl h.joined
on m settings measure b since w watch (Events.ToTarget n) past h =
    cond_both (is_closed w.target) w (record w { at_target = delivered settings n (way_to_target measure w) w.at_target }) (λ v. On m b since v watch) (λ _ _. h.joined) (λ _ _. h.joined)
on m settings measure b since w watch (Events.ToDebugger n) past h =
    cond_both (is_closed w.debugger) w (record w { at_debugger = delivered settings n (way_to_debugger measure w) w.at_debugger }) (λ v. On m b since v watch) (λ _ _. h.joined) (λ _ _. h.joined)
on m settings measure b since w watch Events.TargetTurn past h =
    by_target_front settings measure w (λ o. On m b since (target_turn_at m settings measure w o) watch) (λ _. h.joined)
    (λ call rest _ _. handled-on m settings measure b since w watch rest w.target call (λ _. h.joined))
on m settings measure b since w watch Events.DebuggerTurn past h =
    by_debugger_front settings measure w (λ o. On m b since (debugger_turn_at measure w o).0 (hears_front since w watch o)) (λ _. h.joined)
    (λ p rest o e. handles-on m settings measure b since w watch p rest (fault_of (reader w) p.0) past h o e refl)
on m settings measure b since w watch (Events.Step t) past h =
    let o = occurs m w.now t in
    cond_both (steps_now m settings measure w t) (stepped w o) w (λ v. On m b since v watch)
    (λ _. ended-on m b since (with_report w o.after o.sends) watch w.target o.dies (told-on m b since w watch o.after o.sends (λ _. h.joined))) (λ _ _. h.joined)
on m settings measure b since w watch Events.TargetLoses past h = λ _. h.joined
on m settings measure b since w watch Events.DebuggerLoses past h = λ x. absurd (cc)
on m settings measure b since w watch (Events.Defer deferring) past h = λ _. h.joined
on m settings measure b since w watch (Events.Release place) past h =
    by_release_front settings measure w place (λ o. On m b since (releases_at m settings w o) watch) (λ _. h.joined)
    (λ k c rest _ _. answered-on m b since (record w { deferred = rest }) watch k c (effect m settings w.now c) (effect m settings w.now c).dies (λ _. h.joined))

-- as the debugger's end closes its watch begins anew
restarts : {S : Type 0} (m : Meaning S) (b : Bool) (since : Since) (w : World S) (watch : Watch) → On m b since w watch → Joined m b since w.debugger w.read w.pending (cond (is_closed w.debugger) (begins b) watch)
restarts m b since w watch f =
    elim (is_closed w.debugger) as (λ c. is_closed w.debugger ≡ c → Joined m b since w.debugger w.read w.pending (cond c (begins b) watch)) [
      | true ↦ λ h. record { early = λ _. refl; late = λ e. let n = closed-not-open w.debugger h in absurd (cc) }
      | false ↦ f
    ] refl

all-next : {S : Type 0} (m : Meaning S) → Rests m → (settings : Settings) → 1 ≤ settings.count_limit → settings.count_limit ≤ COUNT_MOST → (measure : Measure) (b : Bool) (since : Since) (w : World S) (watch : Watch) (e : LinkEvent) → IsPast since → begins_deferring e ≡ false → All m settings b since w watch → All m settings b since (next m settings measure w e).0 (watch_next m b since settings measure w watch e)
all-next m rests settings least most measure b since w watch e past n h =
    record {
      inv = keeps m rests settings least most measure w e h.inv;
      fair = kept_next m settings measure w Fairness e h.fair (fairness_kept m rests settings w h.inv h.fair) (λ _ _. record { policies = h.fair.policies; parked = h.fair.parked; sent = h.fair.sent });
      order = ordered_next m settings measure w e n h.inv h.order;
      idle = kept_next m settings measure w (λ v. GreetsIdle v.to_debugger) e h.idle (idle_kept m settings w h.inv h.idle) (λ _ _. h.idle);
      joined = restarts m b since (next m settings measure w e).0 (heeds since settings measure w watch e) (on m settings measure b since w watch e past h);
    }

none-begins : (a b : Bool) → (not a && b) ≡ true → (a ≡ false) × (b ≡ true)
none-begins true b h = absurd (cc)
none-begins false b h = (refl, h)

pub all_run : {S : Type 0} (m : Meaning S) → Rests m → (settings : Settings) → 1 ≤ settings.count_limit → settings.count_limit ≤ COUNT_MOST → (measure : Measure) (b : Bool) (since : Since) (w : World S) (watch : Watch) (es : List LinkEvent) → IsPast since → defer_nothing es ≡ true → All m settings b since w watch → All m settings b since (run m settings measure w es) (watch_after m b since settings measure w watch es)
all_run m rests settings least most measure b since w watch [] past n h = h
all_run m rests settings least most measure b since w watch (e ∷ es) past n h =
    let d = none-begins (begins_deferring e) (defer_nothing es) n in
    all_run m rests settings least most measure b since (next m settings measure w e).0 (watch_next m b since settings measure w watch e) es past d.1
    (all-next m rests settings least most measure b since w watch e past d.0 h)
