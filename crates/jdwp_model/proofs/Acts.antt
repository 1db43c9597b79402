-- what sending a message does, and what reading it teaches
use Rattle.std.proofs.Common.{◌≡◌, ℕ, ◌==◌, ◌+◌, ◌-◌, ◌≤◌, ◌⊎◌, inl, inr, Bool, true, false, ◌||◌, ◌&&◌, not, cond, Option, Some, None, List, [], ◌∷◌, ◌++◌, refl, sym, ◌∙◌, ap, subst, arith, is_some}
use Rattle.std.proofs.lemmas.Bool.{eqb-true}
use Rattle.std.specs.Option.{option_map}
use Rattle.jdwp_layout.specs.declared.answer.Answer.{Answer}
use Rattle.jdwp_layout.specs.declared.answer.Answer.TheVariants.{Data, Error}
use Rattle.jdwp_wire.specs.declared.error_code.ErrorCode.{ErrorCode}
use Rattle.jdwp_layout.specs.Meanings.{DatumMeaning}
use Rattle.jdwp_event.specs.Modifiers.{modifiers_of}
use Rattle.jdwp_event.specs.Requests.{all_asked}
use Rattle.jdwp_event.specs.Composites.{CompositeMeaning, POLICY_ALL, POLICY_EVENT_THREAD, vm_death}
use Rattle.jdwp_event.specs.Told.{composite_thread, is_vm_death}
use Rattle.jdwp_machine.specs.Meanings.{Meaning}
use Rattle.jdwp_machine.specs.Laws.{IsLawful}
use Rattle.jdwp_debuggee.specs.Settings.{Settings}
use Rattle.jdwp_debuggee.specs.State.{State, Moment, count_of, or_zero, raised, lowered, only}
use Rattle.jdwp_action.specs.Actions
use Rattle.jdwp_action.specs.Actions.{Command, Action, action_of, thread_of, about, is_dispose, is_exit}
use Rattle.jdwp_debuggee.specs.Effects.{Effect}
use Rattle.jdwp_debuggee.specs.Steps.{raised_by}
use Rattle.jdwp_debuggee.specs.Facts.{AreBelow, IsSound, Does, Says, OfThread, moved, moved_by, requests_by, requests_moved, is_data}
use Rattle.jdwp_mirror.specs.Messages.{Ticket, Message, Handshake, Reply, Report}
use Rattle.jdwp_mirror.specs.Mirror.{all_kept, learned, learned_data, learned_error, learned_event, own_count, other_count, first_count, taught, counted, lists, is_thread, teaches, teaches_data, forgets, forgets_data, shows, shows_data, is_last_of_thread, is_invalid_thread, requests_after, requests_after_data, is_not_kept, is_no_kept_breakpoint, ends, one_more, one_less, COUNT_MOST}
use Rattle.jdwp_model.specs.Seen.{lowers, lowers_by, raises, raises_by}
use Rattle.jdwp_model.proofs.Plain.{more-exact, some-same, kept-append, kept-filter, kept-below, lists-alive}
use Rattle.jdwp_action.specs.AboutLaws.{about_action}

-- what an event does to a count
abbrev pub event_raise : CompositeMeaning → ℕ → ℕ → ℕ
event_raise c t n = cond (c.policy == POLICY_ALL) (n + 1) (cond (c.policy == POLICY_EVENT_THREAD) (cond (is_thread (composite_thread c) t) (n + 1) n) n)

-- a reply to Dispose or Exit, or the machine's end
abbrev pub kills : Message → Bool
kills Handshake = false
kills (Reply k c x) = is_data x && (is_dispose (action_of c) || is_exit (action_of c))
kills (Report c) = is_vm_death c

-- a reply to Dispose
abbrev pub disposes : Message → Bool
disposes Handshake = false
disposes (Reply k c x) = is_dispose (action_of c)
disposes (Report c) = false

-- what a message does to a count
abbrev pub move : Message → ℕ → Option ℕ → Option ℕ
move Handshake t count = count
move (Reply k c x) t count = moved (action_of c) x t count
move (Report c) t count = cond (is_vm_death c) None (option_map (event_raise c t) count)

-- what the mirror has of a thread after a packet is right, or it was there before and moved as the target's
abbrev pub Learns : Message → ℕ → Option ℕ → ℕ → State → Type 0
Learns message t count n after =
    (count_of after t ≡ Some n) ⊎ ((j : ℕ) × (count ≡ Some j) × ((k : ℕ) → move message t (Some j) ≡ Some k → k ≤ COUNT_MOST → n ≡ k))

-- A message was sent: what it did, from one moment to the next.
pub record Acts {S : Type 0} (m : Meaning S) (message : Message) (before after : Moment S) : Type 0 where
  pub counts : (t : ℕ) → count_of after.state t ≡ move message t (count_of before.state t)
  pub learns : (t n : ℕ) (count : Option ℕ) → learned message t count ≡ Some n → Learns message t count n after.state
  pub same_requests : all_kept (all_asked after.state.requests) ≡ requests_after message (all_kept (all_asked before.state.requests))
  pub shown : (t : ℕ) → shows message t ≡ true → is_some (count_of before.state t) ≡ true
  pub ever : (t : ℕ) → m.ever before.machine t ≡ true → m.ever after.machine t ≡ true
  pub lives : (t n : ℕ) → count_of after.state t ≡ Some n → m.ever after.machine t ≡ true
  pub at_most : (t n : ℕ) → count_of after.state t ≡ Some n → n ≤ COUNT_MOST
  pub alive : after.state.alive ≡ true → before.state.alive ≡ true
  pub spares : after.state.alive ≡ true → disposes message ≡ false → kills message ≡ false

-- ---- small facts

mapped : (f : ℕ → ℕ) (c : Option ℕ) (n : ℕ) → option_map f c ≡ Some n → (j : ℕ) × (c ≡ Some j) × (n ≡ f j)
mapped f None n h = absurd (cc)
mapped f (Some j) n h = (j, refl, cc)

-- ---- replies

-- what a packet teaches, by what it does to a count
abbrev pub Learns-by : (ℕ → Option ℕ) → Option ℕ → ℕ → ℕ → State → Type 0
Learns-by mv count t n after = (count_of after t ≡ Some n) ⊎ ((j : ℕ) × (count ≡ Some j) × ((i : ℕ) → mv j ≡ Some i → i ≤ COUNT_MOST → n ≡ i))

stay : (mv : ℕ → Option ℕ) (t n : ℕ) (c : Option ℕ) (after : State) → c ≡ Some n → mv n ≡ Some n → Learns-by mv c t n after
stay mv t n c after h e = inr (n, h, λ k q l. let y : Some n ≡ Some k = sym e ∙ q in some-same n k y)

rise : (mv : ℕ → Option ℕ) (t n : ℕ) (c : Option ℕ) (after : State) → option_map one_more c ≡ Some n → ((j : ℕ) → mv j ≡ Some (j + 1)) → Learns-by mv c t n after
rise mv t n c after h e =
    let j = mapped one_more c n h in
    inr (j.0, j.1, λ k q l. let y : Some (j.0 + 1) ≡ Some k = sym (e j.0) ∙ q in let z : j.0 + 1 ≡ k = some-same _ _ y in j.2 ∙ (more-exact j.0 (subst (λ x. x ≤ COUNT_MOST) (sym z) l) ∙ z))

fall : (mv : ℕ → Option ℕ) (t n : ℕ) (c : Option ℕ) (after : State) → option_map one_less c ≡ Some n → ((j : ℕ) → mv j ≡ Some (j - 1)) → Learns-by mv c t n after
fall mv t n c after h e =
    let j = mapped one_less c n h in
    inr (j.0, j.1, λ k q l. let y : Some (j.0 - 1) ≡ Some k = sym (e j.0) ∙ q in let z : j.0 - 1 ≡ k = some-same _ _ y in j.2 ∙ z)

-- of one thread
rise-one : (u t n : ℕ) (c : Option ℕ) (after : State) → cond (u == t) (option_map one_more c) c ≡ Some n → Learns-by (λ j. Some (cond (u == t) (j + 1) j)) c t n after
rise-one u t n c after =
    elim (u == t) as (λ b. cond b (option_map one_more c) c ≡ Some n → Learns-by (λ j. Some (cond b (j + 1) j)) c t n after) [
      | true ↦ λ h. rise (λ j. Some (j + 1)) t n c after h (λ j. refl)
      | false ↦ λ h. stay (λ j. Some j) t n c after h refl
    ]

fall-one : (u t n : ℕ) (c : Option ℕ) (after : State) → cond (u == t) (option_map one_less c) c ≡ Some n → Learns-by (λ j. Some (cond (u == t) (j - 1) j)) c t n after
fall-one u t n c after =
    elim (u == t) as (λ b. cond b (option_map one_less c) c ≡ Some n → Learns-by (λ j. Some (cond b (j - 1) j)) c t n after) [
      | true ↦ λ h. fall (λ j. Some (j - 1)) t n c after h (λ j. refl)
      | false ↦ λ h. stay (λ j. Some j) t n c after h refl
    ]

learns-data : (a : Action) (content : List DatumMeaning) (before after : State) (t n : ℕ) (c : Option ℕ) → Says a before (Data content) → count_of after t ≡ moved_by a t (count_of before t) → learned_data a content t c ≡ Some n → Learns-by (λ j. moved_by a t (Some j)) c t n after
learns-data Actions.Suspend content before after t n c y e h = rise (λ j. Some (j + 1)) t n c after h (λ j. refl)
learns-data Actions.Resume content before after t n c y e h = fall (λ j. Some (j - 1)) t n c after h (λ j. refl)
learns-data (Actions.SuspendThread u) content before after t n c y e h = rise-one u t n c after h
learns-data (Actions.ResumeThread u) content before after t n c y e h = fall-one u t n c after h
learns-data (Actions.SuspendCount u) content before after t n c y e h =
    let f : counted content ≡ Some y.0 = ap counted y.2 in
    elim (u == t) as (λ b. (u == t) ≡ b → cond b (taught (counted content) c) c ≡ Some n → Learns-by (λ j. Some j) c t n after) [
      | true ↦ λ q z.
          let w : Some y.0 ≡ Some n = sym (ap (λ x. taught x c) f) ∙ z in
          inl (e ∙ (ap (λ x. count_of before x) (sym (eqb-true u t q)) ∙ (y.1 ∙ w)))
      | false ↦ λ _ z. stay (λ j. Some j) t n c after z refl
    ] refl h
learns-data Actions.AllThreads content before after t n c y e h =
    elim (lists content t) as (λ b. cond b c None ≡ Some n → Learns-by (λ j. Some j) c t n after) [ true ↦ λ z. stay (λ j. Some j) t n c after z refl | false ↦ λ z. absurd (cc) ] h
learns-data Actions.Exit content before after t n c y e h = absurd (cc)
learns-data Actions.Dispose content before after t n c y e h = absurd (cc)
learns-data a content before after t n c y e h = stay (λ j. Some j) t n c after h refl

learns-error : (c : Command) (e : ErrorCode) (t n : ℕ) (count : Option ℕ) (after : State) → learned_error c e t count ≡ Some n → Learns-by (λ j. Some j) count t n after
learns-error c e t n count after h =
    elim (is_invalid_thread e && is_thread (thread_of c) t) as (λ b. cond b None count ≡ Some n → Learns-by (λ j. Some j) count t n after) [ true ↦ λ z. absurd (cc) | false ↦ λ z. stay (λ j. Some j) t n count after z refl ] h

learns-reply : (k : Ticket) (c : Command) (x : Answer) (before after : State) (t n : ℕ) (count : Option ℕ) → Says (action_of c) before x → count_of after t ≡ moved (action_of c) x t (count_of before t) → learned (Reply k c x) t count ≡ Some n → Learns (Reply k c x) t count n after
learns-reply k c (Data content) before after t n count y e h = learns-data (action_of c) content before after t n count y e h
learns-reply k c (Error err) before after t n count y e h = learns-error c err t n count after h

-- ---- requests after a reply

requests-data : (a : Action) (content : List DatumMeaning) (before : State) → AreBelow before.next_request (all_asked before.requests) → Says a before (Data content) → all_kept (requests_by a before.next_request (all_asked before.requests)) ≡ requests_after_data a content (all_kept (all_asked before.requests))
requests-data (Actions.SetRequest byte policy entries) content before b y =
    kept-append (all_asked before.requests) _
    ∙ (ap (λ l. l ++ all_kept (record { id = before.next_request; kind = byte; policy = policy; modifiers = modifiers_of entries } ∷ [])) (sym (kept-below before.next_request (all_asked before.requests) b))
    ∙ sym (ap (λ c. requests_after_data (Actions.SetRequest byte policy entries) c (all_kept (all_asked before.requests))) y))
requests-data (Actions.ClearRequest byte id) content before b y = kept-filter (is_not_kept byte id) (all_asked before.requests)
requests-data Actions.ClearBreakpoints content before b y = kept-filter is_no_kept_breakpoint (all_asked before.requests)
requests-data Actions.Exit content before b y = refl
requests-data Actions.Dispose content before b y = refl
requests-data a content before b y = refl

requests-reply : (k : Ticket) (c : Command) (x : Answer) (before after : State) → AreBelow before.next_request (all_asked before.requests) → Says (action_of c) before x → all_asked after.requests ≡ requests_moved (action_of c) x before.next_request (all_asked before.requests) → all_kept (all_asked after.requests) ≡ requests_after (Reply k c x) (all_kept (all_asked before.requests))
requests-reply k c (Data content) before after b y e = ap all_kept e ∙ requests-data (action_of c) content before b y
requests-reply k c (Error err) before after b y e = ap all_kept e

-- ---- who is shown

of-thread : (thread : Option ℕ) (t : ℕ) → is_thread thread t ≡ true → thread ≡ Some t
of-thread None t h = absurd (cc)
of-thread (Some u) t h = ap Some (eqb-true u t h)

shown-data : (c : Command) (a : Action) (content : List DatumMeaning) (before : State) (t : ℕ) → about a ≡ thread_of c → Says a before (Data content) → ((u : ℕ) → about a ≡ Some u → is_some (count_of before u) ≡ true) → shows_data c a content t ≡ true → is_some (count_of before t) ≡ true
shown-data c Actions.AllThreads content before t e y o h = sym (lists-alive before content t y) ∙ h
shown-data c a content before t e y o h = o t (e ∙ of-thread (thread_of c) t h)

shown-reply : (k : Ticket) (c : Command) (x : Answer) (before : State) (t : ℕ) → Says (action_of c) before x → ((u : ℕ) → about (action_of c) ≡ Some u → OfThread x (count_of before u)) → shows (Reply k c x) t ≡ true → is_some (count_of before t) ≡ true
shown-reply k c (Data content) before t y o h = shown-data c (action_of c) content before t (about_action c) y o h
shown-reply k c (Error e) before t y o h = absurd (cc)

and-left : (a b : Bool) → (a && b) ≡ true → a ≡ true
and-left true b h = refl
and-left false b h = h

pub lived : {S : Type 0} (m : Meaning S) → IsLawful m → (settings : Settings) (now : Moment S) → IsSound m settings now → (t n : ℕ) → count_of now.state t ≡ Some n → m.ever now.machine t ≡ true
lived m law settings now s t n h = law.live_ever now.machine s.state t (s.lives t ∙ ap is_some h)

spares-reply : (x d a dies alive : Bool) → d ≡ false → dies ≡ (x && a) → (alive && not dies) ≡ true → (a && (d || x)) ≡ false
spares-reply true d true dies alive p q h = let y : (alive && not true) ≡ true = ap (λ b. alive && not b) (sym q) ∙ h in absurd (elim alive as (λ b. (b && false) ≡ true → ⊥) [ true ↦ λ z. cc | false ↦ λ z. cc ] y)
spares-reply false d true dies alive p q h = ap (λ b. b || false) p
spares-reply x d false dies alive p q h = refl

pub acts_reply : {S : Type 0} (m : Meaning S) → IsLawful m → (settings : Settings) → settings.count_limit ≤ COUNT_MOST → (now : Moment S) (k : Ticket) (c : Command) (e : Effect S) → IsSound m settings now → Does m settings now (action_of c) e → Acts m (Reply k c e.answer) now e.after
acts_reply m law settings most now k c e s d =
    record {
      counts = d.counts;
      learns = λ t n count h. learns-reply k c e.answer now.state e.after.state t n count d.says (d.counts t) h;
      same_requests = requests-reply k c e.answer now.state e.after.state s.below d.says d.requests;
      shown = λ t h. shown-reply k c e.answer now.state t d.says d.of_thread h;
      ever = d.ever;
      lives = lived m law settings e.after d.sound;
      at_most = λ t n h. let l : n ≤ settings.count_limit = d.sound.at_most t n h in omega arith;
      alive = λ h. and-left now.state.alive (not e.dies) (sym d.alive ∙ h);
      spares = λ h p. spares-reply (is_exit (action_of c)) (is_dispose (action_of c)) (is_data e.answer) e.dies now.state.alive p d.dies (sym d.alive ∙ h);
    }

-- ---- handshakes and events

pub acts_handshake : {S : Type 0} (m : Meaning S) → IsLawful m → (settings : Settings) → settings.count_limit ≤ COUNT_MOST → (now : Moment S) → IsSound m settings now → Acts m Handshake now now
acts_handshake m law settings most now s =
    record {
      counts = λ t. refl;
      learns = λ t n count h. stay (λ j. Some j) t n count now.state h refl;
      same_requests = refl;
      shown = λ t h. absurd (cc);
      ever = λ t h. h;
      lives = lived m law settings now s;
      at_most = λ t n h. let l : n ≤ settings.count_limit = s.at_most t n h in omega arith;
      alive = λ h. h;
      spares = λ h p. refl;
    }

-- the event's thread had count 0
first-raise : (c : CompositeMeaning) (t : ℕ) → is_thread (composite_thread c) t ≡ true → event_raise c t 0 ≡ first_count c.policy
first-raise c t h = ap (λ b. cond (c.policy == POLICY_ALL) 1 (cond (c.policy == POLICY_EVENT_THREAD) (cond b 1 0) 0)) h

other-raise : (c : CompositeMeaning) (t j k : ℕ) → is_thread (composite_thread c) t ≡ false → Some (event_raise c t j) ≡ Some k → k ≤ COUNT_MOST → other_count c.policy j ≡ k
other-raise c t j k h e l =
    let f : event_raise c t j ≡ cond (c.policy == POLICY_ALL) (j + 1) (cond (c.policy == POLICY_EVENT_THREAD) j j) = ap (λ b. cond (c.policy == POLICY_ALL) (j + 1) (cond (c.policy == POLICY_EVENT_THREAD) (cond b (j + 1) j) j)) h in
    let g : cond (c.policy == POLICY_ALL) (j + 1) (cond (c.policy == POLICY_EVENT_THREAD) j j) ≡ k = sym f ∙ some-same _ _ e in
    elim (c.policy == POLICY_ALL) as (λ b. cond b (j + 1) (cond (c.policy == POLICY_EVENT_THREAD) j j) ≡ k → cond b (one_more j) j ≡ k) [
      | true ↦ λ q. more-exact j (subst (λ x. x ≤ COUNT_MOST) (sym q) l) ∙ q
      | false ↦ elim (c.policy == POLICY_EVENT_THREAD) as (λ b. cond b j j ≡ k → j ≡ k) [ true ↦ λ q. q | false ↦ λ q. q ]
    ] g

learns-event : (c : CompositeMeaning) (before after : State) (t n : ℕ) (count : Option ℕ) → ((u : ℕ) → is_thread (composite_thread c) u ≡ true → count_of before u ≡ Some 0) → count_of after t ≡ option_map (event_raise c t) (count_of before t) → learned_event c t count ≡ Some n → Learns-by (λ j. Some (event_raise c t j)) count t n after
learns-event c before after t n count ran e =
    elim (is_thread (composite_thread c) t) as (λ b. is_thread (composite_thread c) t ≡ b → cond b (own_count c) (option_map (other_count c.policy) count) ≡ Some n → Learns-by (λ j. Some (event_raise c t j)) count t n after) [
      | true ↦ λ q h. elim (is_last_of_thread c) as (λ b. cond b None (Some (first_count c.policy)) ≡ Some n → Learns-by (λ j. Some (event_raise c t j)) count t n after) [
        | true ↦ λ z. absurd (cc)
        | false ↦ λ z. inl (e ∙ (ap (option_map (event_raise c t)) (ran t q) ∙ (ap Some (first-raise c t q) ∙ z)))
      ] h
      | false ↦ λ q h. let j = mapped (other_count c.policy) count n h in inr (j.0, j.1, λ k z l. j.2 ∙ other-raise c t j.0 k q z l)
    ] refl

pub acts_event : {S : Type 0} (m : Meaning S) → IsLawful m → (settings : Settings) → settings.count_limit ≤ COUNT_MOST → (before after : Moment S) (c : CompositeMeaning) (thread : ℕ) → IsSound m settings after → composite_thread c ≡ Some thread → is_vm_death c ≡ false → count_of before.state thread ≡ Some 0 → ((t : ℕ) → count_of after.state t ≡ option_map (raised_by c.policy thread t) (count_of before.state t)) → all_asked after.state.requests ≡ all_asked before.state.requests → ((t : ℕ) → m.ever before.machine t ≡ true → m.ever after.machine t ≡ true) → after.state.alive ≡ before.state.alive → Acts m (Report c) before after
acts_event m law settings most before after c thread s of lasts ran counts asked ever alive =
    let ran_one : (u : ℕ) → is_thread (composite_thread c) u ≡ true → count_of before.state u ≡ Some 0 = λ u h.
    let q : Some thread ≡ Some u = sym of ∙ of-thread (composite_thread c) u h in
    subst (λ x. count_of before.state x ≡ Some 0) (some-same thread u q) ran in
    let raise : (t : ℕ) → count_of after.state t ≡ option_map (event_raise c t) (count_of before.state t) = λ t.
    counts t ∙ sym (ap (λ (o : Option ℕ). option_map (λ n. cond (c.policy == POLICY_ALL) (n + 1) (cond (c.policy == POLICY_EVENT_THREAD) (cond (is_thread o t) (n + 1) n) n)) (count_of before.state t)) of) in
    record {
      counts = λ t. raise t ∙ sym (ap (λ b. cond b None (option_map (event_raise c t) (count_of before.state t))) lasts);
      learns = λ t n count h.
          let x = learns-event c before.state after.state t n count ran_one (raise t) (sym (ap (λ b. cond b None (learned_event c t count)) lasts) ∙ h) in
          elim x [
            | inl l ↦ inl l
            | inr l ↦ inr (l.0, l.1, λ k z y. l.2 k (sym (ap (λ b. cond b None (Some (event_raise c t l.0))) lasts) ∙ z) y)
          ];
      same_requests = ap all_kept asked ∙ sym (ap (λ b. cond b [] (all_kept (all_asked before.state.requests))) lasts);
      shown = λ t h. ap is_some (ran_one t h);
      ever = ever;
      lives = lived m law settings after s;
      at_most = λ t n h. let l : n ≤ settings.count_limit = s.at_most t n h in omega arith;
      alive = λ h. sym alive ∙ h;
      spares = λ h p. lasts;
    }

-- the machine's end
pub acts_death : {S : Type 0} (m : Meaning S) (before after : Moment S) → ((t : ℕ) → count_of after.state t ≡ None) → after.state.requests ≡ [] → after.state.alive ≡ false → ((t : ℕ) → m.ever before.machine t ≡ true → m.ever after.machine t ≡ true) → Acts m (Report vm_death) before after
acts_death m before after none empty dead ever =
    record {
      counts = none;
      learns = λ t n count h. absurd (cc);
      same_requests = ap (λ r. all_kept (all_asked r)) empty;
      shown = λ t h. absurd (cc);
      ever = ever;
      lives = λ t n h. let x = none t in absurd (cc);
      at_most = λ t n h. let x = none t in absurd (cc);
      alive = λ h. absurd (cc);
      spares = λ h p. absurd (cc);
    }

-- ---- who is known

some-map : (f : ℕ → ℕ) (c : Option ℕ) → is_some (option_map f c) ≡ is_some c
some-map f None = refl
some-map f (Some n) = refl

known-data : (a : Action) (content : List DatumMeaning) (t : ℕ) (c : Option ℕ) → is_dispose a ≡ false → is_some (learned_data a content t c) ≡ (not (forgets_data a content t) && (teaches_data a content t || is_some c))
known-data Actions.Suspend content t c h = some-map one_more c
known-data Actions.Resume content t c h = some-map one_less c
known-data (Actions.SuspendThread u) content t c h = elim (u == t) as (λ b. is_some (cond b (option_map one_more c) c) ≡ is_some c) [ true ↦ some-map one_more c | false ↦ refl ]
known-data (Actions.ResumeThread u) content t c h = elim (u == t) as (λ b. is_some (cond b (option_map one_less c) c) ≡ is_some c) [ true ↦ some-map one_less c | false ↦ refl ]
known-data (Actions.SuspendCount u) content t c h =
    elim (u == t) as (λ b. is_some (cond b (taught (counted content) c) c) ≡ ((b && is_some (counted content)) || is_some c)) [
      | true ↦ elim (counted content) as (λ v. is_some (taught v c) ≡ (is_some v || is_some c)) [ Some n ↦ refl | None ↦ refl ]
      | false ↦ refl
    ]
known-data Actions.AllThreads content t c h = elim (lists content t) as (λ b. is_some (cond b c None) ≡ (not (not b) && is_some c)) [ true ↦ refl | false ↦ refl ]
known-data Actions.Exit content t c h = refl
known-data Actions.Dispose content t c h = absurd (cc)
known-data a content t c h = refl

known-event : (c : CompositeMeaning) (t : ℕ) (n : Option ℕ) → is_some (learned_event c t n) ≡ (not (is_last_of_thread c && is_thread (composite_thread c) t) && (is_thread (composite_thread c) t || is_some n))
known-event c t n =
    elim (is_thread (composite_thread c) t) as (λ b. is_some (cond b (own_count c) (option_map (other_count c.policy) n)) ≡ (not (is_last_of_thread c && b) && (b || is_some n))) [
      | true ↦ elim (is_last_of_thread c) as (λ b. is_some (cond b None (Some (first_count c.policy))) ≡ (not (b && true) && true)) [ true ↦ refl | false ↦ refl ]
      | false ↦ some-map (other_count c.policy) n ∙ elim (is_last_of_thread c) as (λ b. is_some n ≡ (not (b && false) && is_some n)) [ true ↦ refl | false ↦ refl ]
    ]

-- the mirror knows a thread that the packet teaches, or that it knew, unless the packet forgets it
pub learned_known : (message : Message) (t : ℕ) (c : Option ℕ) → ends message ≡ false → is_some (learned message t c) ≡ (not (forgets message t) && (teaches message t || is_some c))
learned_known Handshake t c h = refl
learned_known (Reply k d (Data content)) t c h = known-data (action_of d) content t c h
learned_known (Reply k d (Error e)) t c h =
    elim (is_invalid_thread e && is_thread (thread_of d) t) as (λ b. is_some (cond b None c) ≡ (not b && is_some c)) [ true ↦ refl | false ↦ refl ]
learned_known (Report d) t c h = ap (λ b. is_some (cond b None (learned_event d t c))) h ∙ known-event d t c

teaching-data : (c : Command) (a : Action) (content : List DatumMeaning) (t : ℕ) → about a ≡ thread_of c → shows_data c a content t ≡ false → teaches_data a content t ≡ false
teaching-data c (Actions.SuspendCount u) content t e h =
    let f : (u == t) ≡ false = ap (λ o. is_thread o t) e ∙ h in
    ap (λ b. b && is_some (counted content)) f
teaching-data c a content t e h = refl

-- a packet that teaches a thread shows it
pub teaches_shows : (message : Message) (t : ℕ) → shows message t ≡ false → teaches message t ≡ false
teaches_shows Handshake t h = refl
teaches_shows (Reply k c (Data content)) t h = teaching-data c (action_of c) content t (about_action c) h
teaches_shows (Reply k c (Error e)) t h = refl
teaches_shows (Report c) t h = h

-- ---- how far counts move

abbrev pub message_lowers : Message → ℕ → ℕ
message_lowers Handshake t = 0
message_lowers (Reply k c x) t = lowers c t
message_lowers (Report c) t = 0

abbrev pub message_raises : Message → ℕ → ℕ
message_raises Handshake t = 0
message_raises (Reply k c x) t = raises c t
message_raises (Report c) t = 1

lower-map : (f : ℕ → ℕ) (c : Option ℕ) (x : ℕ) → ((n : ℕ) → n ≤ f n + x) → or_zero c ≤ or_zero (option_map f c) + x
lower-map f None x h = omega arith
lower-map f (Some n) x h = h n

raise-map : (f : ℕ → ℕ) (c : Option ℕ) (x : ℕ) → ((n : ℕ) → f n ≤ n + x) → or_zero (option_map f c) ≤ or_zero c + x
raise-map f None x h = omega arith
raise-map f (Some n) x h = h n

lowers-data : (a : Action) (t : ℕ) (c : Option ℕ) → (is_dispose a || is_exit a) ≡ false → or_zero c ≤ or_zero (moved_by a t c) + lowers_by a t
lowers-data Actions.Suspend t c h = lower-map (λ n. n + 1) c 0 (λ n. omega arith)
lowers-data Actions.Resume t c h = lower-map (λ n. n - 1) c 1 (λ n. omega arith)
lowers-data Actions.Dispose t c h = absurd (cc)
lowers-data Actions.Exit t c h = absurd (cc)
lowers-data (Actions.SuspendThread u) t c h = lower-map (only u raised t) c 0 (λ n. elim (u == t) as (λ b. n ≤ cond b (n + 1) n + 0) [ true ↦ omega arith | false ↦ omega arith ])
lowers-data (Actions.ResumeThread u) t c h = lower-map (only u lowered t) c (cond (u == t) 1 0) (λ n. elim (u == t) as (λ b. n ≤ cond b (n - 1) n + cond b 1 0) [ true ↦ omega arith | false ↦ omega arith ])
lowers-data a t c h = omega arith

raises-data : (a : Action) (t : ℕ) (c : Option ℕ) → or_zero (moved_by a t c) ≤ or_zero c + raises_by a t
raises-data Actions.Suspend t c = raise-map (λ n. n + 1) c 1 (λ n. omega arith)
raises-data Actions.Resume t c = raise-map (λ n. n - 1) c 0 (λ n. omega arith)
raises-data Actions.Dispose t c = raise-map (λ n. 0) c 0 (λ n. omega arith)
raises-data Actions.Exit t c = omega arith
raises-data (Actions.SuspendThread u) t c = raise-map (only u raised t) c (cond (u == t) 1 0) (λ n. elim (u == t) as (λ b. cond b (n + 1) n ≤ n + cond b 1 0) [ true ↦ omega arith | false ↦ omega arith ])
raises-data (Actions.ResumeThread u) t c = raise-map (only u lowered t) c 0 (λ n. elim (u == t) as (λ b. cond b (n - 1) n ≤ n + 0) [ true ↦ omega arith | false ↦ omega arith ])
raises-data a t c = omega arith

event-more : (c : CompositeMeaning) (t n : ℕ) → n ≤ event_raise c t n + 0
event-more c t n =
    elim (c.policy == POLICY_ALL) as (λ b. n ≤ cond b (n + 1) (cond (c.policy == POLICY_EVENT_THREAD) (cond (is_thread (composite_thread c) t) (n + 1) n) n) + 0) [
      | true ↦ omega arith
      | false ↦ elim (c.policy == POLICY_EVENT_THREAD) as (λ b. n ≤ cond b (cond (is_thread (composite_thread c) t) (n + 1) n) n + 0) [
        | true ↦ elim (is_thread (composite_thread c) t) as (λ b. n ≤ cond b (n + 1) n + 0) [ true ↦ omega arith | false ↦ omega arith ]
        | false ↦ omega arith
      ]
    ]

event-one : (c : CompositeMeaning) (t n : ℕ) → event_raise c t n ≤ n + 1
event-one c t n =
    elim (c.policy == POLICY_ALL) as (λ b. cond b (n + 1) (cond (c.policy == POLICY_EVENT_THREAD) (cond (is_thread (composite_thread c) t) (n + 1) n) n) ≤ n + 1) [
      | true ↦ omega arith
      | false ↦ elim (c.policy == POLICY_EVENT_THREAD) as (λ b. cond b (cond (is_thread (composite_thread c) t) (n + 1) n) n ≤ n + 1) [
        | true ↦ elim (is_thread (composite_thread c) t) as (λ b. cond b (n + 1) n ≤ n + 1) [ true ↦ omega arith | false ↦ omega arith ]
        | false ↦ omega arith
      ]
    ]

pub move_lowers : (message : Message) (t : ℕ) (c : Option ℕ) → kills message ≡ false → or_zero c ≤ or_zero (move message t c) + message_lowers message t
move_lowers Handshake t c h = omega arith
move_lowers (Reply k d (Data content)) t c h = lowers-data (action_of d) t c h
move_lowers (Reply k d (Error e)) t c h = omega arith
move_lowers (Report d) t c h =
    subst (λ b. or_zero c ≤ or_zero (cond b None (option_map (event_raise d t) c)) + 0) (sym h) (lower-map (event_raise d t) c 0 (event-more d t))

pub move_raises : (message : Message) (t : ℕ) (c : Option ℕ) → or_zero (move message t c) ≤ or_zero c + message_raises message t
move_raises Handshake t c = omega arith
move_raises (Reply k d (Data content)) t c = raises-data (action_of d) t c
move_raises (Reply k d (Error e)) t c = omega arith
move_raises (Report d) t c =
    elim (is_vm_death d) as (λ b. or_zero (cond b None (option_map (event_raise d t) c)) ≤ or_zero c + 1) [
      | true ↦ omega arith
      | false ↦ raise-map (event_raise d t) c 1 (event-one d t)
    ]

-- who does not live before a message does not live after it
none-data : (a : Action) (t : ℕ) → moved_by a t None ≡ None
none-data Actions.Suspend t = refl
none-data Actions.Resume t = refl
none-data Actions.Dispose t = refl
none-data Actions.Exit t = refl
none-data (Actions.SuspendThread u) t = refl
none-data (Actions.ResumeThread u) t = refl
none-data a t = refl

pub move_none : (message : Message) (t : ℕ) → move message t None ≡ None
move_none Handshake t = refl
move_none (Reply k c (Data content)) t = none-data (action_of c) t
move_none (Reply k c (Error e)) t = refl
move_none (Report c) t = let n : Option ℕ = None in elim (is_vm_death c) as (λ b. cond b n n ≡ n) [ true ↦ refl | false ↦ refl ]

-- who lived before a packet after which the mirror knows it lives after it
some-data : (a : Action) (content : List DatumMeaning) (t i j : ℕ) (c : Option ℕ) → learned_data a content t c ≡ Some i → (k : ℕ) × (moved_by a t (Some j) ≡ Some k)
some-data Actions.Suspend content t i j c h = (j + 1, refl)
some-data Actions.Resume content t i j c h = (j - 1, refl)
some-data Actions.Dispose content t i j c h = (0, refl)
some-data Actions.Exit content t i j c h = absurd (cc)
some-data (Actions.SuspendThread u) content t i j c h = (cond (u == t) (j + 1) j, refl)
some-data (Actions.ResumeThread u) content t i j c h = (cond (u == t) (j - 1) j, refl)
some-data a content t i j c h = (j, refl)

pub move_some : (message : Message) (t : ℕ) (c : Option ℕ) (i j : ℕ) → ends message ≡ false → learned message t c ≡ Some i → (k : ℕ) × (move message t (Some j) ≡ Some k)
move_some Handshake t c i j d h = (j, refl)
move_some (Reply k e (Data content)) t c i j d h = some-data (action_of e) content t i j c h
move_some (Reply k e (Error x)) t c i j d h = (j, refl)
move_some (Report e) t c i j d h = (event_raise e t j, ap (λ b. cond b None (Some (event_raise e t j))) d)
