-- which packets have no fault by themselves, and that those read after what was sent have none
use Rattle.std.proofs.Common.{◌≡◌, ℕ, ◌==◌, ◌+◌, ◌≤◌, Bool, true, false, ◌||◌, ◌&&◌, not, cond, Option, Some, None, List, [], ◌∷◌, ◌++◌, length, refl, sym, ◌∙◌, ap, subst, arith, inl, inr, is_some}
use Rattle.std.specs.Prelude.{nat_le}
use Rattle.std.specs.List.{AllByRecursion}
use Rattle.std.specs.Option.{option_map}
use Rattle.std.proofs.lemmas.Bool.{eqb-true, eq-eqb, le-leb, false_from_ne_true}
use Rattle.jdwp_wire.specs.Widths.{Widths, IsWidth, AreWidths}
use Rattle.jdwp_layout.specs.declared.answer.Answer.{Answer}
use Rattle.jdwp_layout.specs.declared.answer.Answer.TheVariants.{Data, Error}
use Rattle.jdwp_layout.specs.Meanings.{ScalarMeaning}
use Rattle.jdwp_event.specs.Composites.{CompositeMeaning, POLICY_NONE, POLICY_EVENT_THREAD, POLICY_ALL, vm_death}
use Rattle.jdwp_event.specs.Told.{event_thread, events_thread, composite_thread, is_vm_death}
use Rattle.jdwp_machine.specs.Meanings.{Meaning}
use Rattle.jdwp_debuggee.specs.Settings.{Settings}
use Rattle.jdwp_debuggee.specs.State.{State, Moment, count_of}
use Rattle.jdwp_action.specs.Actions
use Rattle.jdwp_action.specs.Actions.{Command, Action, action_of}
use Rattle.jdwp_action.specs.AnswerPackets.{sizes_answer}
use Rattle.jdwp_debuggee.specs.Answers.{least_thread}
use Rattle.jdwp_debuggee.specs.Effects.{effect}
use Rattle.jdwp_debuggee.specs.Steps.{raised_by, start_policy, start_event}
use Rattle.jdwp_debuggee.specs.Facts.{IsSound, Tells, Does, Says}
use Rattle.jdwp_debuggee.specs.Reports.{IsReport}
use Rattle.jdwp_debuggee.specs.ThreadLaws.{count-changed}
use Rattle.jdwp_mirror.specs.Messages.{Handshake, Reply, Report}
use Rattle.jdwp_mirror.specs.Mirror.{counted, given_id, first_count, is_positive, is_thread}
use Rattle.jdwp_mirror.specs.Faults.{is_bad_data, is_bad_error, is_bad_reply, is_of, is_of_two, count_of_thread, is_bad_event, has_bad_event}
use Rattle.jdwp_model.specs.World.{Packet}
use Rattle.jdwp_model.specs.Next.{messages_of, started}
use Rattle.jdwp_model.specs.Seen.{mirror_count}
use Rattle.jdwp_model.specs.Rests.{Rests}
use Rattle.jdwp_model.proofs.Plain.{some-same}
use Rattle.jdwp_model.proofs.Acts.{event_raise, move, move_none}
use Rattle.jdwp_model.proofs.Session.{Sent, Links, Mirrors, moved-some, replies}

-- What holds of a composite by itself, and of its thread as it was sent: it has the count that the policy gives to a thread with none.
pub record IsFairEvent {S : Type 0} (c : CompositeMeaning) (after : Moment S) : Type 0 where
  pub some_event : (length c.events == 0) ≡ false
  pub policy : nat_le c.policy POLICY_ALL ≡ true
  pub of_one : is_of_two c.events ≡ false
  pub death : (is_vm_death c && (not (length c.events == 1) || not (c.policy == POLICY_NONE))) ≡ false
  pub first : (t : ℕ) → composite_thread c ≡ Some t → count_of after.state t ≡ Some (first_count c.policy)

abbrev pub IsFair : {S : Type 0} → Packet S → Type 0
IsFair (Handshake, a) = Unit {0}
IsFair (Reply k c x, a) = is_bad_reply c x ≡ false
IsFair (Report c, a) = IsFairEvent c a

abbrev pub AllFair : {S : Type 0} → List (Packet S) → Type 0
AllFair [] = Unit {0}
AllFair (p ∷ ps) = IsFair p × AllFair ps

pub fair_more : {S : Type 0} (ps : List (Packet S)) (p : Packet S) → AllFair ps → IsFair p → AllFair (ps ++ p ∷ [])
fair_more [] p all fair = (fair, tt)
fair_more (q ∷ qs) p all fair = (all.0, fair_more qs p all.1 fair)

-- ---- replies

abbrev is_bad_by : Action → Answer → Bool
is_bad_by a (Data content) = is_bad_data a content
is_bad_by a (Error e) = is_bad_error a

bad-by : (c : Command) (x : Answer) → is_bad_reply c x ≡ is_bad_by (action_of c) x
bad-by c (Data content) = refl
bad-by c (Error e) = refl

width : (n : ℕ) → IsWidth n → (nat_le 1 n && nat_le n 8) ≡ true
width n h = ap (λ b. b && nat_le n 8) (le-leb 1 n h.0) ∙ le-leb n 8 h.1

widths : (w : Widths) → AreWidths w.field w.method w.object w.reference w.frame → is_bad_by Actions.IdSizes (sizes_answer w) ≡ false
widths w h = rw (width w.field h.field_is, width w.method h.method_is, width w.object h.object_is, width w.reference h.reference_is, width w.frame h.frame_is) refl

good-answer : (w : Widths) (a : Action) (state : State) (x : Answer) → AreWidths w.field w.method w.object w.reference w.frame → (a ≡ Actions.IdSizes → x ≡ sizes_answer w) → Says a state x → is_bad_by a x ≡ false
good-answer w (Actions.SuspendCount t) state (Data content) h e s = ap (λ y. not (is_some (counted y))) s.2
good-answer w (Actions.SetRequest byte policy entries) state (Data content) h e s = ap (λ y. not (is_some (given_id y))) s
good-answer w Actions.IdSizes state x h e s = ap (is_bad_by Actions.IdSizes) (e refl) ∙ widths w h
good-answer w (Actions.SuspendCount t) state (Error err) h e s = refl
good-answer w (Actions.SetRequest byte policy entries) state (Error err) h e s = refl
good-answer w a state (Data content) h e s = refl
good-answer w a state (Error err) h e s = refl

pub reply_fair : {S : Type 0} (m : Meaning S) → Rests m → (settings : Settings) (now : Moment S) (c : Command) → IsSound m settings now → Does m settings now (action_of c) (effect m settings now c) → is_bad_reply c (effect m settings now c).answer ≡ false
reply_fair m rests settings now c s d =
    bad-by c (effect m settings now c).answer ∙ good-answer (m.sizes now.machine) (action_of c) now.state (effect m settings now c).answer (rests.lawful.sizes_are_widths now.machine s.state) (rests.sizes settings now c) d.says

-- ---- composites

first-raise : (policy t : ℕ) → raised_by policy t t 0 ≡ first_count policy
first-raise policy t =
    ap (λ b. cond (policy == POLICY_ALL) (0 + 1) (cond (policy == POLICY_EVENT_THREAD) (cond b (0 + 1) 0) 0)) (eq-eqb t t refl)

first-count : {S : Type 0} (c : CompositeMeaning) (thread : ℕ) (before after : Moment S) → composite_thread c ≡ Some thread → count_of before.state thread ≡ Some 0 → count_of after.state thread ≡ option_map (raised_by c.policy thread thread) (count_of before.state thread) → (t : ℕ) → composite_thread c ≡ Some t → count_of after.state t ≡ Some (first_count c.policy)
first-count c thread before after e ran moves t h =
    let same : thread ≡ t = some-same thread t (sym e ∙ h) in
    subst (λ u. count_of after.state u ≡ Some (first_count c.policy)) same (moves ∙ (ap (option_map (raised_by c.policy thread thread)) ran ∙ ap Some (first-raise c.policy thread)))

one-of : (t : ℕ) (events : List (List ScalarMeaning)) → AllByRecursion (λ (event : List ScalarMeaning). event_thread event ≡ Some t) events → is_of (Some t) (events_thread events) ≡ true
one-of t [] h = refl
one-of t (event ∷ events) h = rw (h.0) (eq-eqb t t refl)

of-one : (t : ℕ) (events : List (List ScalarMeaning)) → AllByRecursion (λ (event : List ScalarMeaning). event_thread event ≡ Some t) events → is_of_two events ≡ false
of-one t [] h = refl
of-one t (event ∷ events) h =
    ap (λ x. not (is_of x (events_thread events)) || is_of_two events) h.0 ∙ (ap (λ b. not b || is_of_two events) (one-of t events h.1) ∙ of-one t events h.1)

not-empty : (n : ℕ) → 1 ≤ n → (n == 0) ≡ false
not-empty n h = false_from_ne_true (n == 0) (λ k. let z : n ≡ 0 = eqb-true n 0 k in absurd (omega arith))

pub report_fair : {S : Type 0} (m : Meaning S) (now after : Moment S) (c : CompositeMeaning) → Tells m now c after → IsReport c → IsFairEvent c after
report_fair m now after c d r =
    record {
      some_event = not-empty (length c.events) r.some_event;
      policy = le-leb c.policy 2 r.policy;
      of_one = of-one r.thread c.events r.one_thread;
      death = ap (λ b. b && (not (length c.events == 1) || not (c.policy == POLICY_NONE))) d.is_no_death;
      first = first-count c d.thread d.mid after d.of_thread d.ran (d.counts d.thread);
    }

start-policy : (all : Bool) → nat_le (start_policy all) POLICY_ALL ≡ true
start-policy true = refl
start-policy false = refl

pub start_fair : {S : Type 0} (settings : Settings) (now : Moment S) → count_of now.state (least_thread now.state) ≡ Some 0 → IsFairEvent (start_event settings now.state) (started settings now)
start_fair settings now h =
    record {
      some_event = refl;
      policy = start-policy settings.start_all;
      of_one = refl;
      death = refl;
      first = first-count (start_event settings now.state) (least_thread now.state) now (started settings now) refl h (count-changed (raised_by (start_policy settings.start_all) (least_thread now.state)) now.state.threads (least_thread now.state));
    }

pub death_fair : {S : Type 0} (after : Moment S) → IsFairEvent vm_death after
death_fair after = record { some_event = refl; policy = refl; of_one = refl; death = refl; first = λ t h. absurd (cc) }

-- ---- the mirror's counts at a moment, whatever ends there

pub record Knows {S : Type 0} (m : Meaning S) (read : List (Packet S)) (base : Moment S) : Type 0 where
  pub known_ever : (t n : ℕ) → mirror_count read t ≡ Some n → m.ever base.machine t ≡ true
  pub counts : (t n k : ℕ) → mirror_count read t ≡ Some n → count_of base.state t ≡ Some k → n ≡ k

pub mirrors_know : {S : Type 0} (m : Meaning S) (read : List (Packet S)) (base : Moment S) → Mirrors m read base → Knows m read base
mirrors_know m read base r = record { known_ever = r.known_ever; counts = r.counts }

knows-read : {S : Type 0} (m : Meaning S) (read : List (Packet S)) (base : Moment S) (p : Packet S) → Knows m read base → Sent m base p → Knows m (p ∷ read) p.1
knows-read m read base p r s =
    record {
      known_ever = λ t n h. elim (s.acts.learns t n (mirror_count read t) h) [
        | inl l ↦ s.acts.lives t n l
        | inr l ↦ s.acts.ever t (s.quiet.ever t (r.known_ever t l.0 l.1))
      ];
      counts = λ t n k h e. elim (s.acts.learns t n (mirror_count read t) h) [
        | inl l ↦ some-same n k (sym l ∙ e)
        | inr l ↦
            let j = moved-some p.0 t k (count_of s.mid.state t) (sym (s.acts.counts t) ∙ e) in
            let q : l.0 ≡ j.0 = r.counts t l.0 j.0 l.1 (s.quiet.no_birth t j.0 (r.known_ever t l.0 l.1) j.1) in
            l.2 k (ap (λ x. move p.0 t (Some x)) q ∙ j.2) (s.acts.at_most t k e)
      ];
    }

-- ---- a composite's thread had count 0

raised-first : (a b d : Bool) (j : ℕ) → d ≡ true → cond a (j + 1) (cond b (cond d (j + 1) j) j) ≡ cond a 1 (cond b 1 0) → j ≡ 0
raised-first true b d j e h = omega (arith, h)
raised-first false true true j e h = omega (arith, h)
raised-first false true false j e h = absurd (cc)
raised-first false false d j e h = h

of-thread : (c : CompositeMeaning) (t : ℕ) → composite_thread c ≡ Some t → is_thread (composite_thread c) t ≡ true
of-thread c t e = ap (λ u. is_thread u t) e ∙ eq-eqb t t refl

had-zero : (c : CompositeMeaning) (t : ℕ) (k : Option ℕ) → composite_thread c ≡ Some t → move (Report c) t k ≡ Some (first_count c.policy) → k ≡ Some 0
had-zero c t None e h = let z = move_none (Report c) t in absurd (cc)
had-zero c t (Some j) e h =
    elim (is_vm_death c) as (λ b. cond b None (Some (event_raise c t j)) ≡ Some (first_count c.policy) → Some j ≡ Some 0) [
      | true ↦ λ x. absurd (cc)
      | false ↦ λ x. ap Some (raised-first (c.policy == POLICY_ALL) (c.policy == POLICY_EVENT_THREAD) (is_thread (composite_thread c) t) j (of-thread c t e) (some-same _ _ x))
    ] h

zero-not-positive : (c : Option ℕ) → ((n : ℕ) → c ≡ Some n → n ≡ 0) → is_positive c ≡ false
zero-not-positive None h = refl
zero-not-positive (Some n) h = ap (λ x. not (x == 0)) (h n refl)

not-positive : {S : Type 0} (m : Meaning S) (read : List (Packet S)) (base a : Moment S) (c : CompositeMeaning) (thread : Option ℕ) → Knows m read base → Sent m base (Report c, a) → IsFairEvent c a → composite_thread c ≡ thread → is_positive (count_of_thread (mirror_count read) thread) ≡ false
not-positive m read base a c None r s f e = refl
not-positive m read base a c (Some t) r s f e =
    zero-not-positive (mirror_count read t) (λ n h.
    let ran : count_of s.mid.state t ≡ Some 0 = had-zero c t (count_of s.mid.state t) e (sym (s.acts.counts t) ∙ f.first t e) in
    r.counts t n 0 h (s.quiet.no_birth t 0 (r.known_ever t n h) ran))

good-event : (a b c d e : Bool) → a ≡ false → b ≡ true → c ≡ false → d ≡ false → e ≡ false → (a || (not b || (c || (d || e)))) ≡ false
good-event a b c d e p q r s t = rw (p, q, r, s, t) refl

pub event_accepted : {S : Type 0} (m : Meaning S) (read : List (Packet S)) (base a : Moment S) (c : CompositeMeaning) → Knows m read base → Sent m base (Report c, a) → IsFairEvent c a → is_bad_event (mirror_count read) c ≡ false
event_accepted m read base a c r s f =
    good-event (length c.events == 0) (nat_le c.policy POLICY_ALL) (is_of_two c.events) (is_positive (count_of_thread (mirror_count read) (composite_thread c))) _
    f.some_event f.policy f.of_one (not-positive m read base a c (composite_thread c) r s f refl) f.death

pub events_accepted : {S : Type 0} (m : Meaning S) (ps read : List (Packet S)) (base : Moment S) → Knows m read base → Links m base ps → AllFair ps → replies ps ≡ [] → has_bad_event (mirror_count read) (messages_of ps) ≡ false
events_accepted m [] read base r l f e = refl
events_accepted m ((Report c, a) ∷ ps) read base r l f e =
    ap (λ b. b || has_bad_event (mirror_count ((Report c, a) ∷ read)) (messages_of ps)) (event_accepted m read base a c r l.0 f.0)
    ∙ events_accepted m ps ((Report c, a) ∷ read) a (knows-read m read base (Report c, a) r l.0) l.1 f.1 e
events_accepted m ((Reply k c x, a) ∷ ps) read base r l f e = absurd (cc)
events_accepted m ((Handshake, a) ∷ ps) read base r l f e = events_accepted m ps ((Handshake, a) ∷ read) a (knows-read m read base (Handshake, a) r l.0) l.1 f.1 e
