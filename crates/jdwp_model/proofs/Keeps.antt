-- every event keeps what holds of a link
use Rattle.std.proofs.Common.{◌≡◌, ℕ, ◌+◌, ◌-◌, ◌≤◌, Bool, true, false, ◌||◌, ◌&&◌, not, cond, Option, Some, None, List, [], ◌∷◌, ◌++◌, refl, sym, ◌∙◌, ap, subst, arith, append_assoc}
use Rattle.std.proofs.lemmas.Bool.{cond_both}
use Rattle.std.proofs.lemmas.List.{append-nil}
use Rattle.std.specs.Option.{option_map}
use Rattle.jdwp_layout.specs.declared.answer.Answer.{Answer}
use Rattle.jdwp_layout.specs.declared.answer.Answer.TheVariants.{Data, Error}
use Rattle.jdwp_end.specs.declared.phase.Phase.{Phase}
use Rattle.jdwp_end.specs.declared.phase.Phase.TheVariants.{Closed, AwaitingHandshake, Established}
use Rattle.jdwp_end.specs.Ends.{is_established_phase}
use Rattle.jdwp_event.specs.Requests.{AskedRequest, Request, all_asked}
use Rattle.jdwp_event.specs.Composites.{CompositeMeaning, vm_death}
use Rattle.jdwp_event.specs.Told.{is_vm_death}
use Rattle.jdwp_machine.specs.Meanings.{Meaning}
use Rattle.jdwp_debuggee.specs.Settings.{Settings}
use Rattle.jdwp_debuggee.specs.State.{Thread, Moment, count_of, count_or_zero, or_zero, reset, changed, cleared, ids}
use Rattle.jdwp_action.specs.Actions
use Rattle.jdwp_action.specs.Actions.{Command, Action, action_of, is_dispose, is_exit}
use Rattle.jdwp_debuggee.specs.Answers.{least_thread, first_of, rising}
use Rattle.jdwp_debuggee.specs.Effects.{Effect, effect}
use Rattle.jdwp_debuggee.specs.Steps.{occurs, may_step, raised_by, start_event}
use Rattle.jdwp_debuggee.specs.Facts.{IsSound, Quiet, Does, Tells, Died, Told, moved, requests_moved, is_data}
use Rattle.jdwp_debuggee.specs.SoundLaws.{raised-by-most, sound_counts}
use Rattle.jdwp_debuggee.specs.ThreadLaws.{count-changed}
use Rattle.jdwp_mirror.specs.Messages.{Ticket, Call, Greets, Asks, Handshake, Reply, Report, id_sizes}
use Rattle.jdwp_mirror.specs.Mirror.{all_kept, ends, COUNT_MOST}
use Rattle.jdwp_mirror.specs.Faults
use Rattle.jdwp_mirror.specs.Faults.{Fault, fault_of}
use Rattle.jdwp_model.specs.Events
use Rattle.jdwp_model.specs.Events.{LinkEvent, AskRefusal}
use Rattle.jdwp_model.specs.World.{Measure, is_closed, Packet, World}
use Rattle.jdwp_model.specs.Next.{steps_now, attached, may_attach, attaches, ask_refusal, is_busy, asks, ask_by, target_loses, started, greets_by, after_death, dying, dies_by, answers, carries_out, defers, defers_or, target_takes, target_handles, target_turn_at, target_turn, releases_at, releases, closes_by, entered, has_end, composites_of, answered, reads_handshake, reads_reply, reads_composite, reads, reader, debugger_handles, debugger_takes, debugger_turn_at, debugger_turn, with_report, step_ends, steps, next, run}
use Rattle.jdwp_model.specs.Rests.{Rests}
use Rattle.jdwp_model.proofs.Acts.{Acts, acts_reply, acts_handshake, acts_event, acts_death}
use Rattle.jdwp_model.proofs.Session.{Links, last, links_more, last_more, links_front, links_back, last_append, Mirrors, mirrors_read, mirrors_entered, quiet_refl, quiet_trans, replies, commands, replies_append, commands_append, and-left, and-right}
use Rattle.jdwp_model.proofs.Waiting.{Waits, waits-none, waits-asked, waits-replied, waits-deferred, released-parts, waits-released, waits-dropped, waits-closing, waits-read}
use Rattle.jdwp_model.proofs.Apart.{Apart, apart_none, apart-asked, apart-greeted, apart-read}
use Rattle.jdwp_model.proofs.Fronts.{by_target_front, by_release_front, by_debugger_front}

-- a moment is that of the last packet read
abbrev pub IsLast : {S : Type 0} → List (Packet S) → Moment S → Type 0
IsLast [] base = Unit {0}
IsLast (p ∷ ps) base = p.1 ≡ base

-- What holds of a session while the debugger's end is not closed.
pub record Session {S : Type 0} (m : Meaning S) (read parked td : List (Packet S)) (calls : List Call) (deferred pending : List (Ticket × Command)) (lost : Bool) (now : Moment S) : Type 0 where
  -- the moment of the last packet read, or that of the attachment
  pub base : Moment S
  pub mirrors : Mirrors m read base
  pub links : Links m base (parked ++ td)
  pub quiet : lost ≡ false → Quiet m (last base (parked ++ td)) now
  pub at_last : IsLast read base
  pub waits : Waits pending (replies td) deferred (commands calls)
  pub no_reply_waits : replies parked ≡ []

-- What holds of the debugger's side.
pub record DebuggerSide {S : Type 0} (m : Meaning S) (phase : Phase) (ready : Bool) (parked read td : List (Packet S)) (calls : List Call) (deferred pending : List (Ticket × Command)) (lost : Bool) (now : Moment S) : Type 0 where
  pub closed : is_closed phase ≡ true → (read ≡ []) × (pending ≡ [])
  pub unparked : is_established_phase phase ≡ false → parked ≡ []
  pub ready_parked : ready ≡ true → parked ≡ []
  pub session : is_closed phase ≡ false → Session m read parked td calls deferred pending lost now

-- What holds of the target's side.
pub record TargetSide {S : Type 0} (m : Meaning S) (settings : Settings) (phase : Phase) (lost : Bool) (now : Moment S) : Type 0 where
  pub sound : IsSound m settings now
  pub idle : is_established_phase phase ≡ false → (now.state.requests ≡ []) × ((t : ℕ) → count_or_zero now.state t ≡ 0)
  pub living : is_closed phase ≡ false → now.state.alive ≡ true
  pub unlost : is_closed phase ≡ false → lost ≡ false
  pub greeted : is_established_phase phase ≡ true → now.state.handshaken ≡ true
  pub unborn : now.state.handshaken ≡ false → count_of now.state (least_thread now.state) ≡ Some 0

pub record Inv {S : Type 0} (m : Meaning S) (settings : Settings) (w : World S) : Type 0 where
  pub target : TargetSide m settings w.target w.lost w.now
  pub debugger : DebuggerSide m w.debugger w.ready w.parked w.read w.to_debugger w.to_target w.deferred w.pending w.lost w.now
  pub apart : Apart w.debugger w.asked w.pending

-- ---- small facts

pub closed-not-open : (p : Phase) → is_closed p ≡ true → is_established_phase p ≡ false
closed-not-open Closed h = refl
closed-not-open AwaitingHandshake h = absurd (cc)
closed-not-open Established h = absurd (cc)

pub open-not-closed : (p : Phase) → is_established_phase p ≡ true → is_closed p ≡ false
open-not-closed Closed h = absurd (cc)
open-not-closed AwaitingHandshake h = absurd (cc)
open-not-closed Established h = refl

pub asked-nil : (rs : List Request) → all_asked rs ≡ [] → rs ≡ []
asked-nil [] h = refl
asked-nil (r ∷ rs) h = absurd (cc)

-- ---- a packet is sent, or nothing is

sends : {S : Type 0} (m : Meaning S) (phase : Phase) (ready : Bool) (parked read td : List (Packet S)) (calls rest : List Call) (deferred left pending : List (Ticket × Command)) (lost : Bool) (now mid : Moment S) (p : Packet S) → DebuggerSide m phase ready parked read td calls deferred pending lost now → lost ≡ false → Quiet m now mid → Acts m p.0 mid p.1 → (Waits pending (replies td) deferred (commands calls) → Waits pending (replies (td ++ p ∷ [])) left (commands rest)) → DebuggerSide m phase ready parked read (td ++ p ∷ []) rest left pending lost p.1
sends m phase ready parked read td calls rest deferred left pending lost now mid p d l q acts e =
    record {
      closed = d.closed;
      unparked = d.unparked;
      ready_parked = d.ready_parked;
      session = λ h.
          let s = d.session h in
          let a : (parked ++ td) ++ p ∷ [] ≡ parked ++ (td ++ p ∷ []) = append_assoc parked td (p ∷ []) in
          record {
            base = s.base;
            mirrors = s.mirrors;
            links = subst (Links m s.base) a (links_more m s.base (parked ++ td) p s.links (record { mid = mid; quiet = quiet_trans m (last s.base (parked ++ td)) now mid (s.quiet l) q; acts = acts }));
            quiet = λ _. subst (λ ps. Quiet m (last s.base ps) p.1) a (subst (λ x. Quiet m x p.1) (sym (last_more s.base (parked ++ td) p)) (quiet_refl m p.1));
            at_last = s.at_last;
            waits = e s.waits;
            no_reply_waits = s.no_reply_waits;
          };
    }

passes : {S : Type 0} (m : Meaning S) (phase : Phase) (ready : Bool) (parked read td : List (Packet S)) (calls : List Call) (deferred pending : List (Ticket × Command)) (lost : Bool) (now after : Moment S) → DebuggerSide m phase ready parked read td calls deferred pending lost now → Quiet m now after → DebuggerSide m phase ready parked read td calls deferred pending lost after
passes m phase ready parked read td calls deferred pending lost now after d q =
    record {
      closed = d.closed;
      unparked = d.unparked;
      ready_parked = d.ready_parked;
      session = λ h.
          let s = d.session h in
          record {
            base = s.base;
            mirrors = s.mirrors;
            links = s.links;
            quiet = λ l. quiet_trans m (last s.base (parked ++ td)) now after (s.quiet l) q;
            at_last = s.at_last;
            waits = s.waits;
            no_reply_waits = s.no_reply_waits;
          };
    }

-- the commands that wait are elsewhere
moves : {S : Type 0} (m : Meaning S) (phase : Phase) (ready : Bool) (parked read td : List (Packet S)) (calls rest : List Call) (deferred left pending : List (Ticket × Command)) (lost : Bool) (now : Moment S) → DebuggerSide m phase ready parked read td calls deferred pending lost now → (Waits pending (replies td) deferred (commands calls) → Waits pending (replies td) left (commands rest)) → DebuggerSide m phase ready parked read td rest left pending lost now
moves m phase ready parked read td calls rest deferred left pending lost now d e =
    record {
      closed = d.closed;
      unparked = d.unparked;
      ready_parked = d.ready_parked;
      session = λ h.
          let s = d.session h in
          record { base = s.base; mirrors = s.mirrors; links = s.links; quiet = s.quiet; at_last = s.at_last; waits = e s.waits; no_reply_waits = s.no_reply_waits };
    }

-- what was deferred is never answered
drops : {S : Type 0} (m : Meaning S) (phase : Phase) (ready : Bool) (parked read td : List (Packet S)) (calls : List Call) (deferred pending : List (Ticket × Command)) (lost : Bool) (now : Moment S) → DebuggerSide m phase ready parked read td calls deferred pending lost now → DebuggerSide m phase ready parked read td calls [] pending lost now
drops m phase ready parked read td calls deferred pending lost now d =
    moves m phase ready parked read td calls calls deferred [] pending lost now d (waits-dropped pending (replies td) deferred (commands calls))

no-reply : {S : Type 0} (pending : List (Ticket × Command)) (td : List (Packet S)) (p : Packet S) (deferred cs : List (Ticket × Command)) → replies (p ∷ []) ≡ [] → Waits pending (replies td) deferred cs → Waits pending (replies (td ++ p ∷ [])) deferred cs
no-reply pending td p deferred cs h = subst (λ l. Waits pending l deferred cs) (sym (replies_append td (p ∷ []) ∙ (ap (λ x. replies td ++ x) h ∙ append-nil (replies td))))

one-reply : {S : Type 0} (pending : List (Ticket × Command)) (td : List (Packet S)) (k : Ticket) (c : Command) (x : Answer) (a : Moment S) (deferred cs : List (Ticket × Command)) → Waits pending (replies td ++ (k, c) ∷ []) deferred cs → Waits pending (replies (td ++ (Reply k c x, a) ∷ [])) deferred cs
one-reply pending td k c x a deferred cs = subst (λ l. Waits pending l deferred cs) (sym (replies_append td ((Reply k c x, a) ∷ [])))

-- ---- attachment

keeps_attach : {S : Type 0} (m : Meaning S) (settings : Settings) (w : World S) → Inv m settings w → Inv m settings (attaches w)
keeps_attach m settings w i =
    cond_both (may_attach w) (attached w) w (Inv m settings) (λ h.
    let t : is_closed w.target ≡ true = and-left _ _ h in
    let d : is_closed w.debugger ≡ true = and-left _ _ (and-right (is_closed w.target) _ h) in
    let al : w.now.state.alive ≡ true = and-right (is_closed w.debugger) _ (and-right (is_closed w.target) _ h) in
    let o : is_established_phase w.target ≡ false = closed-not-open w.target t in
    record {
      target = record { sound = i.target.sound; idle = λ _. i.target.idle o; living = λ _. al; unlost = λ _. refl; greeted = λ x. absurd (cc); unborn = i.target.unborn };
      debugger = record {
        closed = λ x. absurd (cc);
        unparked = λ _. refl;
        ready_parked = λ _. refl;
        session = λ _. record {
          base = w.now;
          mirrors = record {
            known_ever = λ t n x. absurd (cc);
            counts = λ t n k x y. absurd (cc);
            requests = sym (ap (λ r. all_kept (all_asked r)) (i.target.idle o).0);
            known = λ t. refl;
            held = λ t. refl;
            shown = λ t x. absurd (cc);
          };
          links = tt;
          quiet = λ _. quiet_refl m w.now;
          at_last = tt;
          waits = subst (λ l. Waits l [] [] []) (sym (i.debugger.closed d).1) waits-none;
          no_reply_waits = refl;
        };
      };
      apart = subst (Apart AwaitingHandshake w.asked) (sym (i.debugger.closed d).1) (apart_none AwaitingHandshake w.asked);
    }) (λ _. i)

-- ---- asking

pub asked-ready : (closed ready busy : Bool) (r : Option AskRefusal) → cond closed (Some Events.Closed) (cond (not ready) (Some Events.NotReady) (cond busy (Some Events.Busy) r)) ≡ None → ready ≡ true
asked-ready true ready busy r h = absurd (cc)
asked-ready false true busy r h = refl
asked-ready false false busy r h = absurd (cc)

keeps_asks : {S : Type 0} (m : Meaning S) (settings : Settings) (w : World S) (c : Command) → Inv m settings w → is_established_phase w.debugger ≡ true → Inv m settings (asks w c)
keeps_asks m settings w c i g =
    let o = open-not-closed w.debugger g in
    record {
      target = i.target;
      debugger = record {
        closed = λ x. absurd (cc);
        unparked = i.debugger.unparked;
        ready_parked = i.debugger.ready_parked;
        session = λ _.
            let s = i.debugger.session o in
            record {
              base = s.base;
              mirrors = s.mirrors;
              links = s.links;
              quiet = s.quiet;
              at_last = s.at_last;
              waits = subst (Waits (w.pending ++ (Some (w.asked + 1), c) ∷ []) (replies w.to_debugger) w.deferred) (sym (commands_append w.to_target (Asks (Some (w.asked + 1)) c ∷ []))) (waits-asked w.pending (replies w.to_debugger) w.deferred (commands w.to_target) (Some (w.asked + 1), c) s.waits);
              no_reply_waits = s.no_reply_waits;
            };
      };
      apart = apart-asked w.debugger w.asked w.pending c g i.apart;
    }

keeps_ask : {S : Type 0} (m : Meaning S) (settings : Settings) (measure : Measure) (w : World S) (c : Command) (r : Option AskRefusal) → ask_refusal settings measure w c ≡ r → Inv m settings w → Inv m settings (ask_by w c r).0
keeps_ask m settings measure w c (Some r) e i = i
keeps_ask m settings measure w c None e i = keeps_asks m settings w c i (and-left _ _ (asked-ready (is_closed w.debugger) (is_established_phase w.debugger && w.ready) (is_busy settings measure w) (measure.unfit c) e))

-- ---- losses

ids-changed : (f : ℕ → ℕ → ℕ) (ts : List Thread) → ids (changed f ts) ≡ ids ts
ids-changed f [] = refl
ids-changed f (p ∷ ps) = ap (λ l. p.id ∷ l) (ids-changed f ps)

zero-cleared : (t : ℕ) (c : Option ℕ) → or_zero (option_map (cleared t) c) ≡ 0
zero-cleared t None = refl
zero-cleared t (Some n) = refl

keeps_target_loses : {S : Type 0} (m : Meaning S) (settings : Settings) (w : World S) → Inv m settings w → Inv m settings (target_loses w)
keeps_target_loses m settings w i =
    let q = sound_counts m settings w.now cleared i.target.sound (λ t n h. omega arith) in
    record {
      target = record {
        sound = record { state = q.state; lives = q.lives; at_most = q.at_most; below = tt };
        idle = λ _. (refl, λ t. ap or_zero (count-changed cleared w.now.state.threads t) ∙ zero-cleared t (count_of w.now.state t));
        living = λ x. absurd (cc);
        unlost = λ x. absurd (cc);
        greeted = λ x. absurd (cc);
        unborn = λ h.
            let l : least_thread (reset w.now.state) ≡ least_thread w.now.state = ap (λ x. first_of (rising x)) (ids-changed cleared w.now.state.threads) in
            ap (λ x. count_of (reset w.now.state) x) l ∙ (count-changed cleared w.now.state.threads (least_thread w.now.state) ∙ ap (option_map (cleared (least_thread w.now.state))) (i.target.unborn h));
      };
      debugger = record {
        closed = i.debugger.closed;
        unparked = i.debugger.unparked;
        ready_parked = i.debugger.ready_parked;
        session = λ h.
            let s = i.debugger.session h in
            record { base = s.base; mirrors = s.mirrors; links = s.links; quiet = λ x. absurd (cc); at_last = s.at_last; waits = waits-dropped w.pending (replies w.to_debugger) w.deferred (commands w.to_target) s.waits; no_reply_waits = s.no_reply_waits };
      };
      apart = i.apart;
    }

-- the debugger's end closes, whatever it has read or taken
pub closed_side : {S : Type 0} (m : Meaning S) (td : List (Packet S)) (calls : List Call) (deferred : List (Ticket × Command)) (lost : Bool) (now : Moment S) → DebuggerSide m Closed false [] [] td calls deferred [] lost now
closed_side m td calls deferred lost now = record { closed = λ _. (refl, refl); unparked = λ _. refl; ready_parked = λ _. refl; session = λ x. absurd (cc) }

-- ---- the target's turn

keeps_greets : {S : Type 0} (m : Meaning S) → Rests m → (settings : Settings) → 1 ≤ settings.count_limit → settings.count_limit ≤ COUNT_MOST → (w : World S) (n : ℕ) (rest : List Call) (b : Bool) → Inv m settings w → w.target ≡ AwaitingHandshake → w.to_target ≡ Greets ∷ rest → w.now.state.handshaken ≡ b → Inv m settings (greets_by settings (record w { to_target = rest; at_target = n }) b)
keeps_greets m rests settings least most w n rest true i p e h =
    let o : is_closed w.target ≡ false = ap is_closed p in
    let side = subst (λ cs. DebuggerSide m w.debugger w.ready w.parked w.read w.to_debugger cs w.deferred w.pending w.lost w.now) e i.debugger in
    record {
      target = record { sound = i.target.sound; idle = λ x. absurd (cc); living = λ _. i.target.living o; unlost = λ _. i.target.unlost o; greeted = λ _. h; unborn = i.target.unborn };
      debugger = sends m w.debugger w.ready w.parked w.read w.to_debugger (Greets ∷ rest) rest w.deferred w.deferred w.pending w.lost w.now w.now (Handshake, w.now) side (i.target.unlost o) (quiet_refl m w.now) (acts_handshake m rests.lawful settings most w.now i.target.sound) (no-reply w.pending w.to_debugger (Handshake, w.now) w.deferred (commands rest) refl);
      apart = i.apart;
    }
keeps_greets {S} m rests settings least most w n rest false i p e h =
    let o : is_closed w.target ≡ false = ap is_closed p in
    let shut : is_established_phase w.target ≡ false = ap is_established_phase p in
    let thread : ℕ = least_thread w.now.state in
    let c : CompositeMeaning = start_event settings w.now.state in
    let after : Moment S = started settings w.now in
    let side = subst (λ cs. DebuggerSide m w.debugger w.ready w.parked w.read w.to_debugger cs w.deferred w.pending w.lost w.now) e i.debugger in
    let one = sends m w.debugger w.ready w.parked w.read w.to_debugger (Greets ∷ rest) rest w.deferred w.deferred w.pending w.lost w.now w.now (Handshake, w.now) side (i.target.unlost o) (quiet_refl m w.now) (acts_handshake m rests.lawful settings most w.now i.target.sound) (no-reply w.pending w.to_debugger (Handshake, w.now) w.deferred (commands rest) refl) in
    let q = sound_counts m settings w.now (raised_by c.policy thread) i.target.sound (λ t k x.
    let z : k ≡ 0 = ap or_zero (sym x) ∙ (i.target.idle shut).1 t in
    let y : raised_by c.policy thread t k ≤ k + 1 = raised-by-most c.policy thread t k in
    omega arith) in
    let sound : IsSound m settings after = record { state = q.state; lives = q.lives; at_most = q.at_most; below = q.below } in
    let acts = acts_event m rests.lawful settings most w.now after c thread sound refl refl (i.target.unborn h) (λ t. count-changed (raised_by c.policy thread) w.now.state.threads t) refl (λ t x. x) refl in
    let two = sends m w.debugger w.ready w.parked w.read (w.to_debugger ++ (Handshake, w.now) ∷ []) rest rest w.deferred w.deferred w.pending w.lost w.now w.now (Report c, after) one (i.target.unlost o) (quiet_refl m w.now) acts (no-reply w.pending (w.to_debugger ++ (Handshake, w.now) ∷ []) (Report c, after) w.deferred (commands rest) refl) in
    record {
      target = record { sound = sound; idle = λ x. absurd (cc); living = λ _. i.target.living o; unlost = λ _. i.target.unlost o; greeted = λ _. refl; unborn = λ x. absurd (cc) };
      debugger = subst (λ ps. DebuggerSide m w.debugger w.ready w.parked w.read ps rest w.deferred w.pending w.lost after) (append_assoc w.to_debugger ((Handshake, w.now) ∷ []) ((Report c, after) ∷ [])) two;
      apart = i.apart;
    }

-- a command that closes leaves no count and no request
closing : (a : Action) (x : Answer) → true ≡ ((is_exit a || is_dispose a) && is_data x) → ((rs : List AskedRequest) (n : ℕ) → requests_moved a x n rs ≡ []) × ((t : ℕ) (c : Option ℕ) → or_zero (moved a x t c) ≡ 0)
closing Actions.Dispose (Data content) h = (λ rs n. refl, λ t c. zero-cleared t c)
closing Actions.Exit (Data content) h = (λ rs n. refl, λ t c. refl)
closing a (Error e) h = absurd (elim (is_exit a || is_dispose a) as (λ b. true ≡ (b && false) → ⊥) [ true ↦ λ y. cc | false ↦ λ y. cc ] h)
closing a x h = absurd (cc)

killing : (a : Action) (x : Answer) → true ≡ (is_exit a && is_data x) → ((rs : List AskedRequest) (n : ℕ) → requests_moved a x n rs ≡ []) × ((t : ℕ) (c : Option ℕ) → moved a x t c ≡ None)
killing Actions.Exit (Data content) h = (λ rs n. refl, λ t c. refl)
killing a (Error e) h = absurd (elim (is_exit a) as (λ b. true ≡ (b && false) → ⊥) [ true ↦ λ y. cc | false ↦ λ y. cc ] h)
killing a x h = absurd (cc)

spared : (x d a dies : Bool) → false ≡ ((x || d) && a) → dies ≡ (x && a) → dies ≡ false
spared true d a dies h e = e ∙ sym h
spared false d a dies h e = e

closed-too : (x d a : Bool) → true ≡ (x && a) → ((x || d) && a) ≡ true
closed-too true d a h = sym h
closed-too false d a h = absurd (cc)

answered_target : {S : Type 0} (m : Meaning S) (settings : Settings) (now : Moment S) (a : Action) (e : Effect S) (lost b : Bool) → TargetSide m settings Established lost now → Does m settings now a e → e.closes ≡ b → TargetSide m settings (cond b Closed Established) lost e.after
answered_target m settings now a e lost true t d h =
    let x = closing a e.answer (sym h ∙ d.closes) in
    record {
      sound = d.sound;
      idle = λ _. (asked-nil e.after.state.requests (d.requests ∙ x.0 (all_asked now.state.requests) now.state.next_request), λ u. ap or_zero (d.counts u) ∙ x.1 u (count_of now.state u));
      living = λ y. absurd (cc);
      unlost = λ y. absurd (cc);
      greeted = λ y. absurd (cc);
      unborn = λ y. let z : now.state.handshaken ≡ true = t.greeted refl in let v : e.after.state.handshaken ≡ now.state.handshaken = d.handshaken in absurd (cc);
    }
answered_target m settings now a e lost false t d h =
    let dies : e.dies ≡ false = spared (is_exit a) (is_dispose a) (is_data e.answer) e.dies (sym h ∙ d.closes) d.dies in
    record {
      sound = d.sound;
      idle = λ y. absurd (cc);
      living = λ _. d.alive ∙ (ap (λ b. now.state.alive && not b) dies ∙ ap (λ b. b && true) (t.living refl));
      unlost = λ _. t.unlost refl;
      greeted = λ _. d.handshaken ∙ t.greeted refl;
      unborn = λ y. let z : now.state.handshaken ≡ true = t.greeted refl in let v : e.after.state.handshaken ≡ now.state.handshaken = d.handshaken in absurd (cc);
    }

-- A command was taken or released, so that its reply may be sent, and the end may close.
keeps_answers : {S : Type 0} (m : Meaning S) → Rests m → (settings : Settings) → settings.count_limit ≤ COUNT_MOST → (v : World S) (calls : List Call) (deferred : List (Ticket × Command)) (k : Ticket) (c : Command) (e : Effect S) → TargetSide m settings v.target v.lost v.now → v.target ≡ Established → DebuggerSide m v.debugger v.ready v.parked v.read v.to_debugger calls deferred v.pending v.lost v.now → (Waits v.pending (replies v.to_debugger) deferred (commands calls) → Waits v.pending (replies v.to_debugger ++ (k, c) ∷ []) v.deferred (commands v.to_target)) → Apart v.debugger v.asked v.pending → Does m settings v.now (action_of c) e → Inv m settings (answers v k c e)
keeps_answers m rests settings most v calls deferred k c e u p side moved apart d =
    let t = subst (λ x. TargetSide m settings x v.lost v.now) p u in
    record {
      target = subst (λ x. TargetSide m settings (cond e.closes Closed x) v.lost e.after) (sym p) (answered_target m settings v.now (action_of c) e v.lost e.closes t d refl);
      debugger = sends m v.debugger v.ready v.parked v.read v.to_debugger calls v.to_target deferred (cond e.closes [] v.deferred) v.pending v.lost v.now v.now (Reply k c e.answer, e.after) side (t.unlost refl) (quiet_refl m v.now) (acts_reply m rests.lawful settings most v.now k c e t.sound d)
          (λ h. waits-closing v.pending (replies (v.to_debugger ++ (Reply k c e.answer, e.after) ∷ [])) v.deferred (commands v.to_target) e.closes (one-reply v.pending v.to_debugger k c e.answer e.after v.deferred (commands v.to_target) (moved h)));
      apart = apart;
    }

-- the machine died in a session
keeps_dying : {S : Type 0} (m : Meaning S) (settings : Settings) (w : World S) (before mid : Moment S) → IsSound m settings w.now → w.lost ≡ false → DebuggerSide m w.debugger w.ready w.parked w.read w.to_debugger w.to_target w.deferred w.pending w.lost before → Apart w.debugger w.asked w.pending → Quiet m before mid → ((t : ℕ) → count_of w.now.state t ≡ None) → w.now.state.requests ≡ [] → w.now.state.alive ≡ false → w.now.state.handshaken ≡ true → ((t : ℕ) → m.ever mid.machine t ≡ true → m.ever w.now.machine t ≡ true) → Inv m settings (dying w)
keeps_dying m settings w before mid s l d apart q none empty dead shaken ever =
    record {
      target = record {
        sound = record { state = s.state; lives = s.lives; at_most = s.at_most; below = s.below };
        idle = λ _. (empty, λ t. ap or_zero (none t));
        living = λ y. absurd (cc);
        unlost = λ y. absurd (cc);
        greeted = λ y. absurd (cc);
        unborn = λ y. absurd (cc);
      };
      debugger = sends m w.debugger w.ready w.parked w.read w.to_debugger w.to_target w.to_target w.deferred [] w.pending w.lost before mid (Report vm_death, after_death w.now) d l q (acts_death m mid (after_death w.now) none empty dead ever)
          (λ h. waits-dropped w.pending (replies (w.to_debugger ++ (Report vm_death, after_death w.now) ∷ [])) w.deferred (commands w.to_target) (no-reply w.pending w.to_debugger (Report vm_death, after_death w.now) w.deferred (commands w.to_target) refl h));
      apart = apart;
    }

keeps_dies : {S : Type 0} (m : Meaning S) → (settings : Settings) (now : Moment S) (w : World S) (k : Ticket) (c : Command) (e : Effect S) (b : Bool) → TargetSide m settings Established w.lost now → Does m settings now (action_of c) e → Inv m settings (answers w k c e) → e.dies ≡ b → Inv m settings (dies_by (answers w k c e) b)
keeps_dies m settings now w k c e false t d i h = i
keeps_dies m settings now w k c e true t d i h =
    let x = killing (action_of c) e.answer (sym h ∙ d.dies) in
    keeps_dying m settings (answers w k c e) e.after e.after d.sound (t.unlost refl) i.debugger i.apart (quiet_refl m e.after)
    (λ u. d.counts u ∙ x.1 u (count_of now.state u))
    (asked-nil e.after.state.requests (d.requests ∙ x.0 (all_asked now.state.requests) now.state.next_request))
    (d.alive ∙ (ap (λ b. now.state.alive && not b) h ∙ elim now.state.alive as (λ b. (b && false) ≡ false) [ true ↦ refl | false ↦ refl ]))
    (d.handshaken ∙ t.greeted refl)
    (λ u y. y)

keeps_carries_out : {S : Type 0} (m : Meaning S) → Rests m → (settings : Settings) → settings.count_limit ≤ COUNT_MOST → (v : World S) (calls : List Call) (deferred : List (Ticket × Command)) (k : Ticket) (c : Command) → TargetSide m settings v.target v.lost v.now → v.target ≡ Established → DebuggerSide m v.debugger v.ready v.parked v.read v.to_debugger calls deferred v.pending v.lost v.now → (Waits v.pending (replies v.to_debugger) deferred (commands calls) → Waits v.pending (replies v.to_debugger ++ (k, c) ∷ []) v.deferred (commands v.to_target)) → Apart v.debugger v.asked v.pending → Inv m settings (carries_out m settings v k c)
keeps_carries_out m rests settings most v calls deferred k c u p side moved apart =
    let d = (rests.facts settings).does v.now c u.sound in
    keeps_dies m settings v.now v k c (effect m settings v.now c) (effect m settings v.now c).dies (subst (λ x. TargetSide m settings x v.lost v.now) p u) d
    (keeps_answers m rests settings most v calls deferred k c (effect m settings v.now c) u p side moved apart d) refl

-- a command is deferred
keeps_deferral : {S : Type 0} (m : Meaning S) (settings : Settings) (w : World S) (n : ℕ) (rest : List Call) (k : Ticket) (c : Command) → Inv m settings w → w.to_target ≡ Asks k c ∷ rest → Inv m settings (record w { to_target = rest; at_target = n; deferred = w.deferred ++ (k, c) ∷ [] })
keeps_deferral m settings w n rest k c i e =
    let side = subst (λ cs. DebuggerSide m w.debugger w.ready w.parked w.read w.to_debugger cs w.deferred w.pending w.lost w.now) e i.debugger in
    record {
      target = i.target;
      debugger = moves m w.debugger w.ready w.parked w.read w.to_debugger (Asks k c ∷ rest) rest w.deferred (w.deferred ++ (k, c) ∷ []) w.pending w.lost w.now side (waits-deferred w.pending (replies w.to_debugger) w.deferred (commands rest) (k, c));
      apart = i.apart;
    }

keeps_target_handles : {S : Type 0} (m : Meaning S) → Rests m → (settings : Settings) → 1 ≤ settings.count_limit → settings.count_limit ≤ COUNT_MOST → (measure : Measure) (w : World S) (rest : List Call) (phase : Phase) (call : Call) → Inv m settings w → w.target ≡ phase → w.to_target ≡ call ∷ rest → Inv m settings (target_handles m settings measure w rest phase call)
keeps_target_handles m rests settings least most measure w rest AwaitingHandshake Greets i p e = keeps_greets m rests settings least most w (w.at_target - measure.call Greets) rest w.now.state.handshaken i p e refl
keeps_target_handles m rests settings least most measure w rest Established (Asks k c) i p e =
    let v = target_takes measure w (Asks k c) rest in
    let side = subst (λ cs. DebuggerSide m w.debugger w.ready w.parked w.read w.to_debugger cs w.deferred w.pending w.lost w.now) e i.debugger in
    elim (defers w c) as (λ b. Inv m settings (defers_or m settings v k c b)) [
      | true ↦ keeps_deferral m settings w (w.at_target - measure.call (Asks k c)) rest k c i e
      | false ↦ keeps_carries_out m rests settings most v (Asks k c ∷ rest) w.deferred k c i.target p side (waits-replied w.pending (replies w.to_debugger) w.deferred (commands rest) (k, c)) i.apart
    ]
keeps_target_handles m rests settings least most measure w rest phase call i p e = keeps_target_loses m settings w i

keeps_target_turn : {S : Type 0} (m : Meaning S) → Rests m → (settings : Settings) → 1 ≤ settings.count_limit → settings.count_limit ≤ COUNT_MOST → (measure : Measure) (w : World S) → Inv m settings w → Inv m settings (target_turn m settings measure w)
keeps_target_turn m rests settings least most measure w i =
    by_target_front settings measure w (λ o. Inv m settings (target_turn_at m settings measure w o)) i (λ call rest _ e. keeps_target_handles m rests settings least most measure w rest w.target call i refl e)

-- ---- a deferred command is answered

keeps_releases : {S : Type 0} (m : Meaning S) → Rests m → (settings : Settings) → settings.count_limit ≤ COUNT_MOST → (measure : Measure) (w : World S) (place : ℕ) → Inv m settings w → Inv m settings (releases m settings measure w place)
keeps_releases m rests settings most measure w place i =
    by_release_front settings measure w place (λ o. Inv m settings (releases_at m settings w o)) i (λ k c rest p e.
    keeps_carries_out m rests settings most (record w { deferred = rest }) w.to_target w.deferred k c i.target p i.debugger
    (waits-released w.pending (replies w.to_debugger) w.deferred (commands w.to_target) (k, c) rest (released-parts place w.deferred (k, c) rest e)) i.apart)

-- ---- the debugger's turn

keeps_handshake : {S : Type 0} (m : Meaning S) (settings : Settings) (w : World S) (n : ℕ) (a : Moment S) (rest : List (Packet S)) → Inv m settings w → is_closed w.debugger ≡ false → is_established_phase w.debugger ≡ false → w.to_debugger ≡ (Handshake, a) ∷ rest → Inv m settings (reads_handshake (record w { to_debugger = rest; at_debugger = n }) (Handshake, a))
keeps_handshake m settings w n a rest i o g e =
    let s = i.debugger.session o in
    let empty : w.parked ≡ [] = i.debugger.unparked g in
    let l : Links m s.base ((Handshake, a) ∷ rest) = subst (λ ps. Links m s.base (ps ++ (Handshake, a) ∷ rest)) empty (subst (λ ps. Links m s.base (w.parked ++ ps)) e s.links) in
    record {
      target = i.target;
      debugger = record {
        closed = λ x. absurd (cc);
        unparked = λ x. absurd (cc);
        ready_parked = λ _. empty;
        session = λ _. record {
          base = a;
          mirrors = mirrors_read m w.read s.base (Handshake, a) refl s.mirrors l.0;
          links = subst (λ ps. Links m a (ps ++ rest)) (sym empty) l.1;
          quiet = λ h. subst (λ ps. Quiet m (last a (ps ++ rest)) w.now) (sym empty) (subst (λ ps. Quiet m (last s.base (ps ++ (Handshake, a) ∷ rest)) w.now) empty (subst (λ ps. Quiet m (last s.base (w.parked ++ ps)) w.now) e (s.quiet h)));
          at_last = refl;
          waits = subst (Waits (w.pending ++ (None, id_sizes) ∷ []) (replies rest) w.deferred) (sym (commands_append w.to_target (Asks None id_sizes ∷ []))) (waits-asked w.pending (replies rest) w.deferred (commands w.to_target) (None, id_sizes) (subst (λ ps. Waits w.pending (replies ps) w.deferred (commands w.to_target)) e s.waits));
          no_reply_waits = s.no_reply_waits;
        };
      };
      apart = apart-greeted w.debugger w.asked w.pending g i.apart;
    }

pub or-parts : (a b : Bool) → (a || b) ≡ false → (a ≡ false) × (b ≡ false)
or-parts true b h = absurd (cc)
or-parts false b h = (refl, h)

keeps_reply : {S : Type 0} (m : Meaning S) (settings : Settings) (w : World S) (n : ℕ) (k : Ticket) (c : Command) (x : Answer) (a : Moment S) (rest : List (Packet S)) → Inv m settings w → is_closed w.debugger ≡ false → is_established_phase w.debugger ≡ true → w.to_debugger ≡ (Reply k c x, a) ∷ rest → (ends (Reply k c x) || has_end w.parked) ≡ false → Inv m settings (reads_reply (record w { to_debugger = rest; at_debugger = n }) (Reply k c x, a) k)
keeps_reply m settings w n k c x a rest i o g e h =
    let s = i.debugger.session o in
    let none = or-parts (ends (Reply k c x)) (has_end w.parked) h in
    let l : Links m s.base (w.parked ++ (Reply k c x, a) ∷ rest) = subst (λ ps. Links m s.base (w.parked ++ ps)) e s.links in
    let front = links_front m s.base w.parked ((Reply k c x, a) ∷ rest) l in
    let back = links_back m s.base w.parked ((Reply k c x, a) ∷ rest) l in
    record {
      target = i.target;
      debugger = record {
        closed = λ y. absurd (cc);
        unparked = λ _. refl;
        ready_parked = λ _. refl;
        session = λ _. record {
          base = a;
          mirrors = mirrors_read m (entered w.parked w.read) (last s.base w.parked) (Reply k c x, a) none.0 (mirrors_entered m w.parked w.read s.base none.1 s.mirrors front) back.0;
          links = back.1;
          quiet = λ y. subst (λ z. Quiet m z w.now) (last_append s.base w.parked ((Reply k c x, a) ∷ rest)) (subst (λ ps. Quiet m (last s.base (w.parked ++ ps)) w.now) e (s.quiet y));
          at_last = refl;
          waits = waits-read w.pending (replies rest) w.deferred (commands w.to_target) k c (i.apart.once k) (subst (λ ps. Waits w.pending (replies ps) w.deferred (commands w.to_target)) e s.waits);
          no_reply_waits = refl;
        };
      };
      apart = apart-read w.debugger w.asked k w.pending i.apart;
    }

keeps_composite : {S : Type 0} (m : Meaning S) (settings : Settings) (w : World S) (n : ℕ) (c : CompositeMeaning) (a : Moment S) (rest : List (Packet S)) (b : Bool) → Inv m settings w → is_closed w.debugger ≡ false → is_established_phase w.debugger ≡ true → w.to_debugger ≡ (Report c, a) ∷ rest → w.ready ≡ b → Inv m settings (reads_composite (record w { to_debugger = rest; at_debugger = n }) (Report c, a) c b).0
keeps_composite m settings w n c a rest false i o g e h =
    let s = i.debugger.session o in
    let j : (w.parked ++ (Report c, a) ∷ []) ++ rest ≡ w.parked ++ (Report c, a) ∷ rest = append_assoc w.parked ((Report c, a) ∷ []) rest in
    record {
      target = i.target;
      debugger = record {
        closed = λ y. absurd (cc);
        unparked = λ y. absurd (cc);
        ready_parked = λ y. absurd (cc);
        session = λ _. record {
          base = s.base;
          mirrors = s.mirrors;
          links = subst (Links m s.base) (sym j) (subst (λ ps. Links m s.base (w.parked ++ ps)) e s.links);
          quiet = λ y. subst (λ ps. Quiet m (last s.base ps) w.now) (sym j) (subst (λ ps. Quiet m (last s.base (w.parked ++ ps)) w.now) e (s.quiet y));
          at_last = s.at_last;
          waits = subst (λ ps. Waits w.pending (replies ps) w.deferred (commands w.to_target)) e s.waits;
          no_reply_waits = replies_append w.parked ((Report c, a) ∷ []) ∙ (append-nil (replies w.parked) ∙ s.no_reply_waits);
        };
      };
      apart = i.apart;
    }
keeps_composite m settings w n c a rest true i o g e h =
    elim (is_vm_death c) as (λ b. is_vm_death c ≡ b → Inv m settings (closes_by (record w { to_debugger = rest; at_debugger = n; read = (Report c, a) ∷ w.read }) (Events.Seen c ∷ []) b).0) [
      | true ↦ λ _. record { target = i.target; debugger = closed_side m rest w.to_target w.deferred w.lost w.now; apart = apart_none Closed w.asked }
      | false ↦ λ d.
          let s = i.debugger.session o in
          let empty : w.parked ≡ [] = i.debugger.ready_parked h in
          let l : Links m s.base ((Report c, a) ∷ rest) = subst (λ ps. Links m s.base (ps ++ (Report c, a) ∷ rest)) empty (subst (λ ps. Links m s.base (w.parked ++ ps)) e s.links) in
          record {
            target = i.target;
            debugger = record {
              closed = λ y. absurd (cc);
              unparked = i.debugger.unparked;
              ready_parked = i.debugger.ready_parked;
              session = λ _. record {
                base = a;
                mirrors = mirrors_read m w.read s.base (Report c, a) d s.mirrors l.0;
                links = subst (λ ps. Links m a (ps ++ rest)) (sym empty) l.1;
                quiet = λ y. subst (λ ps. Quiet m (last a (ps ++ rest)) w.now) (sym empty) (subst (λ ps. Quiet m (last s.base (ps ++ (Report c, a) ∷ rest)) w.now) empty (subst (λ ps. Quiet m (last s.base (w.parked ++ ps)) w.now) e (s.quiet y)));
                at_last = refl;
                waits = subst (λ ps. Waits w.pending (replies ps) w.deferred (commands w.to_target)) e s.waits;
                no_reply_waits = s.no_reply_waits;
              };
            };
            apart = i.apart;
          }
    ] refl

pub greeted-before : (b : Bool) (f g : Option Fault) → cond b f (Some Faults.BadHandshake) ≡ None → b ≡ true
greeted-before true f g h = refl
greeted-before false f g h = absurd (cc)

pub not-greeted : (b : Bool) → cond b (Some Faults.BadHandshake) None ≡ None → b ≡ false
not-greeted true h = absurd (cc)
not-greeted false h = refl

keeps_reads : {S : Type 0} (m : Meaning S) (settings : Settings) (w : World S) (n : ℕ) (p : Packet S) (rest : List (Packet S)) → Inv m settings w → is_closed w.debugger ≡ false → w.to_debugger ≡ p ∷ rest → fault_of (reader w) p.0 ≡ None → Inv m settings (reads (record w { to_debugger = rest; at_debugger = n }) p).0
keeps_reads m settings w n (Handshake, a) rest i o e f = keeps_handshake m settings w n a rest i o (not-greeted (is_established_phase w.debugger) f) e
keeps_reads m settings w n (Reply k c x, a) rest i o e f =
    let g = greeted-before (is_established_phase w.debugger) _ None f in
    elim (ends (Reply k c x) || has_end w.parked) as (λ b. (ends (Reply k c x) || has_end w.parked) ≡ b → Inv m settings (closes_by (reads_reply (record w { to_debugger = rest; at_debugger = n }) (Reply k c x, a) k) (composites_of w.parked ++ answered k x) b).0) [
      | true ↦ λ _. record { target = i.target; debugger = closed_side m rest w.to_target w.deferred w.lost w.now; apart = apart_none Closed w.asked }
      | false ↦ λ d. keeps_reply m settings w n k c x a rest i o g e d
    ] refl
keeps_reads m settings w n (Report c, a) rest i o e f = keeps_composite m settings w n c a rest w.ready i o (greeted-before (is_established_phase w.debugger) _ None f) e refl

keeps_debugger_handles : {S : Type 0} (m : Meaning S) (settings : Settings) (measure : Measure) (w : World S) (p : Packet S) (rest : List (Packet S)) (f : Option Fault) → Inv m settings w → is_closed w.debugger ≡ false → w.to_debugger ≡ p ∷ rest → fault_of (reader w) p.0 ≡ f → Inv m settings (debugger_handles (debugger_takes measure w p rest) p f).0
keeps_debugger_handles m settings measure w p rest (Some f) i o e h = record { target = i.target; debugger = closed_side m rest w.to_target w.deferred w.lost w.now; apart = apart_none Closed w.asked }
keeps_debugger_handles m settings measure w p rest None i o e h = keeps_reads m settings w (w.at_debugger - measure.message p.0) p rest i o e h

keeps_debugger_turn : {S : Type 0} (m : Meaning S) (settings : Settings) (measure : Measure) (w : World S) → Inv m settings w → Inv m settings (debugger_turn settings measure w).0
keeps_debugger_turn m settings measure w i =
    by_debugger_front settings measure w (λ o. Inv m settings (debugger_turn_at measure w o).0) i (λ p rest o e. keeps_debugger_handles m settings measure w p rest (fault_of (reader w) p.0) i o e refl)

-- ---- steps

died_quiet : {S : Type 0} (m : Meaning S) (now after : Moment S) → Died m now after → now.state.requests ≡ [] → ((t : ℕ) → m.ever now.machine t ≡ true → m.ever after.machine t ≡ true) → Quiet m now after
died_quiet m now after d r ever =
    record {
      same_count = λ t. ap or_zero (d.nobody_lives t) ∙ sym (d.nobody_suspended t);
      no_birth = λ t n _ h. let x = d.nobody_lives t in absurd (cc);
      ever = ever;
      same_requests = ap all_asked (d.no_requests ∙ sym r);
      alive = λ h. let x = d.alive in absurd (cc);
    }

keeps_died : {S : Type 0} (m : Meaning S) (settings : Settings) (w : World S) (after : Moment S) (phase : Phase) → Inv m settings w → w.target ≡ phase → IsSound m settings after → Died m w.now after → after.state.handshaken ≡ true → ((t : ℕ) → m.ever w.now.machine t ≡ true → m.ever after.machine t ≡ true) → Inv m settings (step_ends (record w { now = after }) phase true)
keeps_died m settings w after Established i p s d h ever =
    keeps_dying m settings (record w { now = after }) w.now w.now s (i.target.unlost (ap is_closed p)) i.debugger i.apart (quiet_refl m w.now) d.nobody_lives d.no_requests d.alive h ever
keeps_died m settings w after AwaitingHandshake i p s d h ever =
    record {
      target = record { sound = s; idle = λ _. (d.no_requests, λ t. ap or_zero (d.nobody_lives t)); living = λ y. absurd (cc); unlost = λ y. absurd (cc); greeted = λ y. absurd (cc); unborn = λ y. absurd (cc) };
      debugger = passes m w.debugger w.ready w.parked w.read w.to_debugger w.to_target [] w.pending w.lost w.now after (drops m w.debugger w.ready w.parked w.read w.to_debugger w.to_target w.deferred w.pending w.lost w.now i.debugger) (died_quiet m w.now after d (i.target.idle (ap is_established_phase p)).0 ever);
      apart = i.apart;
    }
keeps_died m settings w after Closed i p s d h ever =
    record {
      target = record { sound = s; idle = λ _. (d.no_requests, λ t. ap or_zero (d.nobody_lives t)); living = λ y. absurd (cc); unlost = λ y. absurd (cc); greeted = λ y. absurd (cc); unborn = λ y. absurd (cc) };
      debugger = passes m w.debugger w.ready w.parked w.read w.to_debugger w.to_target [] w.pending w.lost w.now after (drops m w.debugger w.ready w.parked w.read w.to_debugger w.to_target w.deferred w.pending w.lost w.now i.debugger) (died_quiet m w.now after d (i.target.idle (ap is_established_phase p)).0 ever);
      apart = i.apart;
    }

keeps_quiet : {S : Type 0} (m : Meaning S) (settings : Settings) (w : World S) (after : Moment S) → Inv m settings w → IsSound m settings after → Quiet m w.now after → after.state.handshaken ≡ true → after.state.alive ≡ w.now.state.alive → Inv m settings (record w { now = after })
keeps_quiet m settings w after i s q h a =
    record {
      target = record {
        sound = s;
        idle = λ o. (asked-nil after.state.requests (q.same_requests ∙ ap all_asked (i.target.idle o).0), λ t. q.same_count t ∙ (i.target.idle o).1 t);
        living = λ o. a ∙ i.target.living o;
        unlost = i.target.unlost;
        greeted = λ _. h;
        unborn = λ y. absurd (cc);
      };
      debugger = passes m w.debugger w.ready w.parked w.read w.to_debugger w.to_target w.deferred w.pending w.lost w.now after i.debugger q;
      apart = i.apart;
    }

keeps_tells : {S : Type 0} (m : Meaning S) → Rests m → (settings : Settings) → settings.count_limit ≤ COUNT_MOST → (w : World S) (after : Moment S) (c : CompositeMeaning) → Inv m settings w → is_established_phase w.target ≡ true → IsSound m settings after → Tells m w.now c after → after.state.handshaken ≡ true → after.state.alive ≡ w.now.state.alive → Inv m settings (with_report w after (Some c))
keeps_tells m rests settings most w after c i o s d h a =
    let shut : is_closed w.target ≡ false = open-not-closed w.target o in
    record {
      target = record {
        sound = s;
        idle = λ y. absurd (cc);
        living = λ y. a ∙ i.target.living y;
        unlost = i.target.unlost;
        greeted = λ _. h;
        unborn = λ y. absurd (cc);
      };
      debugger = sends m w.debugger w.ready w.parked w.read w.to_debugger w.to_target w.to_target w.deferred w.deferred w.pending w.lost w.now d.mid (Report c, after) i.debugger (i.target.unlost shut) d.quiet
          (acts_event m rests.lawful settings most d.mid after c d.thread s d.of_thread d.is_no_death d.ran d.counts d.same_requests d.ever d.alive)
          (no-reply w.pending w.to_debugger (Report c, after) w.deferred (commands w.to_target) refl);
      apart = i.apart;
    }

keeps_stepped : {S : Type 0} (m : Meaning S) → Rests m → (settings : Settings) → settings.count_limit ≤ COUNT_MOST → (w : World S) (after : Moment S) (o : Option CompositeMeaning) (dies : Bool) → Inv m settings w → IsSound m settings after → ((t : ℕ) → m.ever w.now.machine t ≡ true → m.ever after.machine t ≡ true) → Told m w.now after dies o → (w.now.state.requests ≡ [] → o ≡ None) → after.state.handshaken ≡ true → (dies ≡ false → after.state.alive ≡ w.now.state.alive) → Inv m settings (step_ends (with_report w after o) w.target dies)
keeps_stepped m rests settings most w after None true i s ever d silent h a = keeps_died m settings w after w.target i refl s d h ever
keeps_stepped m rests settings most w after None false i s ever d silent h a = keeps_quiet m settings w after i s d h (a refl)
keeps_stepped m rests settings most w after (Some c) true i s ever d silent h a = let x : true ≡ false = d.0 in absurd (cc)
keeps_stepped m rests settings most w after (Some c) false i s ever d silent h a =
    let o : is_established_phase w.target ≡ true = elim (is_established_phase w.target) as (λ b. is_established_phase w.target ≡ b → b ≡ true) [ true ↦ λ _. refl | false ↦ λ x. let y = silent (i.target.idle x).0 in absurd (cc) ] refl in
    keeps_tells m rests settings most w after c i o s d.1 h (a refl)

keeps_steps : {S : Type 0} (m : Meaning S) → Rests m → (settings : Settings) → settings.count_limit ≤ COUNT_MOST → (measure : Measure) (w : World S) (t : ℕ) → Inv m settings w → Inv m settings (steps m settings measure w t)
keeps_steps m rests settings most measure w t i =
    cond_both (steps_now m settings measure w t) _ _ (Inv m settings) (λ h.
    let may : may_step m settings w.now t ≡ true = and-left _ _ h in
    let d = (rests.facts settings).happens w.now t i.target.sound may in
    keeps_stepped m rests settings most w (occurs m w.now t).after (occurs m w.now t).sends (occurs m w.now t).dies i d.sound d.ever d.told d.silent (d.handshaken ∙ and-left w.now.state.handshaken _ may) d.alive) (λ _. i)

-- ---- all events

pub keeps : {S : Type 0} (m : Meaning S) → Rests m → (settings : Settings) → 1 ≤ settings.count_limit → settings.count_limit ≤ COUNT_MOST → (measure : Measure) (w : World S) (e : LinkEvent) → Inv m settings w → Inv m settings (next m settings measure w e).0
keeps m rests settings least most measure w Events.Attach i = keeps_attach m settings w i
keeps m rests settings least most measure w (Events.Ask c) i = keeps_ask m settings measure w c (ask_refusal settings measure w c) refl i
keeps m rests settings least most measure w (Events.ToTarget n) i = cond_both (is_closed w.target) _ _ (Inv m settings) (λ _. i) (λ _. record { target = i.target; debugger = i.debugger; apart = i.apart })
keeps m rests settings least most measure w (Events.ToDebugger n) i = cond_both (is_closed w.debugger) _ _ (Inv m settings) (λ _. i) (λ _. record { target = i.target; debugger = i.debugger; apart = i.apart })
keeps m rests settings least most measure w Events.TargetTurn i = keeps_target_turn m rests settings least most measure w i
keeps m rests settings least most measure w Events.DebuggerTurn i = keeps_debugger_turn m settings measure w i
keeps m rests settings least most measure w (Events.Step t) i = keeps_steps m rests settings most measure w t i
keeps m rests settings least most measure w Events.TargetLoses i = keeps_target_loses m settings w i
keeps m rests settings least most measure w Events.DebuggerLoses i = record { target = i.target; debugger = closed_side m w.to_debugger w.to_target w.deferred w.lost w.now; apart = apart_none Closed w.asked }
keeps m rests settings least most measure w (Events.Defer deferring) i = record { target = i.target; debugger = i.debugger; apart = i.apart }
keeps m rests settings least most measure w (Events.Release place) i = keeps_releases m rests settings most measure w place i

pub keeps_run : {S : Type 0} (m : Meaning S) → Rests m → (settings : Settings) → 1 ≤ settings.count_limit → settings.count_limit ≤ COUNT_MOST → (measure : Measure) (w : World S) (es : List LinkEvent) → Inv m settings w → Inv m settings (run m settings measure w es)
keeps_run m rests settings least most measure w [] i = i
keeps_run m rests settings least most measure w (e ∷ es) i = keeps_run m rests settings least most measure (next m settings measure w e).0 es (keeps m rests settings least most measure w e i)
