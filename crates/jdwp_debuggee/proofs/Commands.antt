-- what commands do
use Rattle.std.proofs.Common.{◌≡◌, ℕ, ℤ, ◌==◌, ◌+◌, ◌-◌, ◌≤◌, true, false, ◌||◌, ◌&&◌, cond, Option, Some, None, List, refl, sym, ◌∙◌, ap, subst, arith}
use Rattle.std.specs.Option.{option_map}
use Rattle.std.proofs.lemmas.Bool.{eqb-true}
use Rattle.jdwp_wire.specs.declared.error_code.ErrorCode.{ErrorCode}
use Rattle.jdwp_wire.specs.ErrorCodes.{INVALID_THREAD, THREAD_NOT_SUSPENDED, INTERNAL, NOT_IMPLEMENTED}
use Rattle.jdwp_value.specs.declared.value.Value.{Value}
use Rattle.jdwp_layout.specs.declared.answer.Answer.{Answer}
use Rattle.jdwp_layout.specs.declared.answer.Answer.TheVariants.{Data, Error}
use Rattle.jdwp_layout.specs.Meanings.{ScalarMeaning, DatumMeaning}
use Rattle.jdwp_layout.specs.CommandNumbers.{SET_SLOTS}
use Rattle.jdwp_event.specs.Modifiers.{ModifierMeaning, modifiers_of}
use Rattle.jdwp_event.specs.Requests.{AskedRequest, all_asked}
use Rattle.jdwp_machine.specs.Meanings.{Meaning}
use Rattle.jdwp_machine.specs.Laws.{IsLawful, MayAnswer}
use Rattle.jdwp_debuggee.specs.Settings.{Settings}
use Rattle.jdwp_debuggee.specs.State.{State, Moment, count_of, with_counts, raised, lowered, cleared, only, at_limit, restopped}
use Rattle.jdwp_action.specs.Actions
use Rattle.jdwp_debuggee.specs.Answering.{is_answered}
use Rattle.jdwp_action.specs.Actions.{Command, Action, action_of, is_dispose, is_exit, about}
use Rattle.jdwp_action.specs.AnswerPackets.{sizes_answer}
use Rattle.jdwp_debuggee.specs.Answers.{done, int_answer, bounded, fits_packet, frames_answer, query_of, all_threads, status_answer}
use Rattle.jdwp_debuggee.specs.Refusals.{set_refusal}
use Rattle.jdwp_debuggee.specs.Strings.{makes_string, text_in}
use Rattle.jdwp_debuggee.specs.Effects.{Effect, asks_by, string_made, effect, effect_by, does, answered, refused, changes, suspend_by, suspend_thread_by, suspend_thread_at, resume_thread_by, slots_by, slots_at, set_by, answer_count, answer_status, answer_frames, answer_thread}
use Rattle.jdwp_debuggee.specs.Invoking.{answer_asked}
use Rattle.jdwp_layout.specs.Invocations.{invocation_request}
use Rattle.jdwp_debuggee.specs.Breadth.{is_plain}
use Rattle.jdwp_debuggee.specs.Facts.{AreBelow, IsSound, moved_by, requests_by, Says, OfThread, Does, is_not_asked, is_no_asked_breakpoint}
use Rattle.jdwp_debuggee.proofs.Small.{and-true, and-false, some-same, asked-append, asked-filter, below-filter, below-more}
use Rattle.jdwp_debuggee.specs.SoundLaws.{sound_counts}
use Rattle.jdwp_debuggee.specs.ThreadLaws.{count-changed}
use Rattle.jdwp_debuggee.proofs.ThreadLists.{below-limit, under-limit}
use Rattle.jdwp_debuggee.proofs.Ends.{ended-state, ended-ever, ended-live, ended-sizes}

says-error : (a : Action) (state : State) (e : ErrorCode) → Says a state (Error e)
says-error (Actions.SuspendCount t) state e = tt
says-error (Actions.SetRequest byte policy entries) state e = tt
says-error Actions.AllThreads state e = tt
says-error a state e = tt

-- ---- refused

pub does_refused : {S : Type 0} (m : Meaning S) (settings : Settings) (now : Moment S) (a : Action) (e : ErrorCode) → IsSound m settings now → ((t : ℕ) → about a ≡ Some t → OfThread (Error e) (count_of now.state t)) → Does m settings now a (refused now e)
does_refused m settings now a e s h =
    record {
      sound = s;
      ever = λ t x. x;
      sizes = refl;
      counts = λ t. refl;
      requests = refl;
      says = says-error a now.state e;
      of_thread = h;
      handshaken = refl;
      alive = and-true now.state.alive;
      dies = and-false (is_exit a);
      closes = and-false (is_exit a || is_dispose a);
    }

-- ---- answered, and nothing changes

plain-moved : (a : Action) (t : ℕ) (c : Option ℕ) → is_plain a ≡ true → c ≡ moved_by a t c
plain-moved Actions.Suspend t c h = absurd (cc)
plain-moved Actions.Resume t c h = absurd (cc)
plain-moved Actions.Dispose t c h = absurd (cc)
plain-moved Actions.Exit t c h = absurd (cc)
plain-moved (Actions.SuspendThread u) t c h = absurd (cc)
plain-moved (Actions.ResumeThread u) t c h = absurd (cc)
plain-moved a t c h = refl

plain-requests : (a : Action) (n : ℕ) (rs : List AskedRequest) → is_plain a ≡ true → rs ≡ requests_by a n rs
plain-requests Actions.Dispose n rs h = absurd (cc)
plain-requests Actions.Exit n rs h = absurd (cc)
plain-requests (Actions.SetRequest byte policy entries) n rs h = absurd (cc)
plain-requests (Actions.ClearRequest byte id) n rs h = absurd (cc)
plain-requests Actions.ClearBreakpoints n rs h = absurd (cc)
plain-requests a n rs h = refl

plain-exit : (a : Action) → is_plain a ≡ true → is_exit a ≡ false
plain-exit Actions.Exit h = absurd (cc)
plain-exit a h = refl

plain-dispose : (a : Action) → is_plain a ≡ true → is_dispose a ≡ false
plain-dispose Actions.Dispose h = absurd (cc)
plain-dispose a h = refl

pub does_answered : {S : Type 0} (m : Meaning S) (settings : Settings) (now : Moment S) (a : Action) (x : Answer) → IsSound m settings now → is_plain a ≡ true → Says a now.state x → ((t : ℕ) → about a ≡ Some t → OfThread x (count_of now.state t)) → Does m settings now a (answered now x)
does_answered m settings now a (Error e) s p y h = does_refused m settings now a e s h
does_answered m settings now a (Data content) s p y h =
    record {
      sound = s;
      ever = λ t x. x;
      sizes = refl;
      counts = λ t. plain-moved a t (count_of now.state t) p;
      requests = plain-requests a now.state.next_request (all_asked now.state.requests) p;
      says = y;
      of_thread = h;
      handshaken = refl;
      alive = and-true now.state.alive;
      dies = sym (ap (λ b. b && true) (plain-exit a p));
      closes = sym (ap (λ b. (b || is_dispose a) && true) (plain-exit a p) ∙ ap (λ b. b && true) (plain-dispose a p));
    }

-- ---- counts change

-- an OK reply without data to a command that changes counts alone
does_counts : {S : Type 0} (m : Meaning S) (settings : Settings) (now : Moment S) (a : Action) (f : ℕ → ℕ → ℕ) → IsSound m settings now → ((t n : ℕ) → count_of now.state t ≡ Some n → f t n ≤ settings.count_limit) → ((t : ℕ) (c : Option ℕ) → option_map (f t) c ≡ moved_by a t c) → ((rs : List AskedRequest) (n : ℕ) → rs ≡ requests_by a n rs) → Says a now.state done → ((t : ℕ) → about a ≡ Some t → OfThread done (count_of now.state t)) → is_exit a ≡ false → is_dispose a ≡ false → Does m settings now a (changes now (with_counts f now.state) done)
does_counts m settings now a f s most mv rq y h x d =
    record {
      sound = sound_counts m settings now f s most;
      ever = λ t z. z;
      sizes = refl;
      counts = λ t. count-changed f now.state.threads t ∙ mv t (count_of now.state t);
      requests = rq (all_asked now.state.requests) now.state.next_request;
      says = y;
      of_thread = h;
      handshaken = refl;
      alive = and-true now.state.alive;
      dies = sym (ap (λ b. b && true) x);
      closes = sym (ap (λ b. (b || is_dispose a) && true) x ∙ ap (λ b. b && true) d);
    }

pub raised-most : {S : Type 0} (settings : Settings) (now : Moment S) → ((t n : ℕ) → count_of now.state t ≡ Some n → n ≤ settings.count_limit) → at_limit settings.count_limit now.state ≡ false → (t n : ℕ) → count_of now.state t ≡ Some n → n + 1 ≤ settings.count_limit
raised-most settings now most h t n e = under-limit n settings.count_limit (most t n e) (below-limit settings.count_limit now.state.threads t n h e)

pub lowered-most : (n limit : ℕ) → n ≤ limit → n - 1 ≤ limit
lowered-most n limit h = omega arith

pub only-most : (u t k n limit : ℕ) → (u ≡ t → k ≤ limit) → n ≤ limit → cond (u == t) k n ≤ limit
only-most u t k n limit h l = elim (u == t) as (λ b. (u == t) ≡ b → cond b k n ≤ limit) [ true ↦ λ e. h (eqb-true u t e) | false ↦ λ _. l ] refl

-- ---- answers of the machine

bounded-of : {S : Type 0} (m : Meaning S) (s : S) (settings : Settings) (set number : ℕ) (x : Answer) (n : ℕ) → MayAnswer m s set number x → OfThread (bounded settings (m.sizes s) x) (Some n)
bounded-of m s settings set number (Data content) n h =
    elim (fits_packet settings (m.sizes s) content) as (λ b. OfThread (cond b (Data content) (Error INTERNAL)) (Some n)) [ true ↦ refl | false ↦ λ k. absurd (omega (arith, k)) ]
bounded-of m s settings set number (Error e) n h = λ k. absurd (h.1 k)

frames-of : {S : Type 0} (m : Meaning S) (law : IsLawful m) (settings : Settings) (now : Moment S) (c : Command) (n : ℕ) → m.is_state now.machine → OfThread (bounded settings (m.sizes now.machine) (frames_answer m now.machine c n)) (Some n)
frames-of m law settings now c n st =
    elim (n == 0) as (λ b. OfThread (bounded settings (m.sizes now.machine) (cond b (Error THREAD_NOT_SUSPENDED) (m.query now.machine (query_of c)))) (Some n)) [
      | true ↦ λ k. absurd (omega (arith, k))
      | false ↦ bounded-of m now.machine settings c.set c.number (m.query now.machine (query_of c)) n (law.answers now.machine (query_of c) st)
    ]

-- the thread of the action is the one that was asked about
of-one : (x : Answer) (state : State) (t u : ℕ) (v : Option ℕ) → count_of state t ≡ v → OfThread x v → Some t ≡ Some u → OfThread x (count_of state u)
of-one x state t u v e h k = subst (λ (z : ℕ). OfThread x (count_of state z)) (some-same t u k) (subst (λ (z : Option ℕ). OfThread x z) (sym e) h)

-- ---- slots

slots-does : {S : Type 0} (m : Meaning S) → IsLawful m → (settings : Settings) (now : Moment S) (t f : ℕ) (values : List (ℤ × Value)) (n : ℕ) (x : Answer) → IsSound m settings now → count_of now.state t ≡ Some n → MayAnswer m now.machine SET_SLOTS.set SET_SLOTS.number x → Does m settings now (Actions.SetSlots t f values) (record { after = record { state = now.state; machine = m.written now.machine t f values }; answer = x; dies = false; closes = false })
slots-does m law settings now t f values n x s e h =
    let sound : IsSound m settings (record { state = now.state; machine = m.written now.machine t f values }) = record {
      state = law.state_written now.machine t f values s.state;
      lives = λ u. law.live_written now.machine t f values u s.state ∙ s.lives u;
      at_most = s.at_most;
      below = s.below;
    } in
    elim x as (λ (x : Answer). MayAnswer m now.machine SET_SLOTS.set SET_SLOTS.number x → Does m settings now (Actions.SetSlots t f values) (record { after = record { state = now.state; machine = m.written now.machine t f values }; answer = x; dies = false; closes = false })) [
      | Data content ↦ λ _. record {
        sound = sound;
        ever = λ u k. law.ever_written now.machine t f values u s.state ∙ k;
        sizes = law.sizes_written now.machine t f values s.state;
        counts = λ u. refl;
        requests = refl;
        says = tt;
        of_thread = λ u k. of-one (Data content) now.state t u (Some n) e refl k;
        handshaken = refl;
        alive = and-true now.state.alive;
        dies = refl;
        closes = refl;
      }
      | Error c ↦ λ y. record {
        sound = sound;
        ever = λ u k. law.ever_written now.machine t f values u s.state ∙ k;
        sizes = law.sizes_written now.machine t f values s.state;
        counts = λ u. refl;
        requests = refl;
        says = tt;
        of_thread = λ u k. of-one (Error c) now.state t u (Some n) e (λ i. absurd (y.1 i)) k;
        handshaken = refl;
        alive = and-true now.state.alive;
        dies = refl;
        closes = refl;
      }
    ] h

-- ---- strings

pub made-sound : {S : Type 0} (m : Meaning S) → IsLawful m → (settings : Settings) (now : Moment S) (text : List ℕ) → IsSound m settings now → IsSound m settings (string_made m now text).after
made-sound m law settings now text s = record {
  state = law.state_made now.machine text s.state;
  lives = λ u. law.live_made now.machine text u s.state ∙ s.lives u;
  at_most = s.at_most;
  below = s.below;
}

made-does : {S : Type 0} (m : Meaning S) → IsLawful m → (settings : Settings) (now : Moment S) (text : List ℕ) (x : Answer) → IsSound m settings now
    → Does m settings now Actions.Ask (record { after = record { state = now.state; machine = m.made now.machine text }; answer = x; dies = false; closes = false })
made-does m law settings now text (Data content) s = record {
  sound = made-sound m law settings now text s;
  ever = λ u k. law.ever_made now.machine text u s.state ∙ k;
  sizes = law.sizes_made now.machine text s.state;
  counts = λ u. refl;
  requests = refl;
  says = tt;
  of_thread = λ u k. absurd (cc);
  handshaken = refl;
  alive = and-true now.state.alive;
  dies = refl;
  closes = refl;
}
made-does m law settings now text (Error e) s = record {
  sound = made-sound m law settings now text s;
  ever = λ u k. law.ever_made now.machine text u s.state ∙ k;
  sizes = law.sizes_made now.machine text s.state;
  counts = λ u. refl;
  requests = refl;
  says = tt;
  of_thread = λ u k. absurd (cc);
  handshaken = refl;
  alive = and-true now.state.alive;
  dies = refl;
  closes = refl;
}

-- ---- requests

pub set-sound : {S : Type 0} (m : Meaning S) (settings : Settings) (now : Moment S) (byte policy : ℕ) (modifiers : List ModifierMeaning) → IsSound m settings now → IsSound m settings (set_by m now byte policy modifiers None).after
set-sound m settings now byte policy modifiers s = record {
  state = s.state;
  lives = s.lives;
  at_most = s.at_most;
  below = subst (AreBelow (now.state.next_request + 1)) (sym (asked-append now.state.requests _)) (below-more now.state.next_request (all_asked now.state.requests) _ refl s.below);
}

pub set-does : {S : Type 0} (m : Meaning S) (settings : Settings) (now : Moment S) (byte policy : ℕ) (entries : List (List ScalarMeaning)) (v : Option ErrorCode) → IsSound m settings now → Does m settings now (Actions.SetRequest byte policy entries) (set_by m now byte policy (modifiers_of entries) v)
set-does m settings now byte policy entries (Some e) s = does_refused m settings now (Actions.SetRequest byte policy entries) e s (λ t h. absurd (cc))
set-does m settings now byte policy entries None s =
    record {
      sound = set-sound m settings now byte policy (modifiers_of entries) s;
      ever = λ t x. x;
      sizes = refl;
      counts = λ t. refl;
      requests = asked-append now.state.requests _;
      says = refl;
      of_thread = λ t h. absurd (cc);
      handshaken = refl;
      alive = and-true now.state.alive;
      dies = refl;
      closes = refl;
    }

-- ---- all threads

listed-does : {S : Type 0} (m : Meaning S) (settings : Settings) (now : Moment S) (content : List DatumMeaning) → IsSound m settings now → Data content ≡ all_threads now.state → Does m settings now Actions.AllThreads (answered now (bounded settings (m.sizes now.machine) (Data content)))
listed-does m settings now content s e =
    elim (fits_packet settings (m.sizes now.machine) content) as (λ b. Does m settings now Actions.AllThreads (answered now (cond b (Data content) (Error INTERNAL)))) [
      | true ↦ does_answered m settings now Actions.AllThreads (Data content) s refl e (λ t h. absurd (cc))
      | false ↦ does_refused m settings now Actions.AllThreads INTERNAL s (λ t h. absurd (cc))
    ]

-- the threads that an event stopped count for nothing here
restopped-does : {S : Type 0} (m : Meaning S) (settings : Settings) (now : Moment S) (a : Action) (state : State) (x : Answer) → Does m settings now a (changes now state x) → Does m settings now a (changes now (restopped state) x)
restopped-does m settings now a state x d = record {
  sound = record { state = d.sound.state; lives = d.sound.lives; at_most = d.sound.at_most; below = d.sound.below };
  ever = d.ever;
  sizes = d.sizes;
  counts = d.counts;
  requests = d.requests;
  says = d.says;
  of_thread = d.of_thread;
  handshaken = d.handshaken;
  alive = d.alive;
  dies = d.dies;
  closes = d.closes;
}

-- ---- all commands

abbrev Is : {S : Type 0} → Meaning S → Settings → Moment S → Action → Effect S → Type 0
Is m settings now a e = Does m settings now a e

pub does_all : {S : Type 0} (m : Meaning S) → IsLawful m → (settings : Settings) (now : Moment S) (c : Command) (a : Action) → IsSound m settings now → Does m settings now a (does m settings now c a)
does_all m law settings now c Actions.Suspend s =
    elim (at_limit settings.count_limit now.state) as (λ b. at_limit settings.count_limit now.state ≡ b → Does m settings now Actions.Suspend (suspend_by now b)) [
      | true ↦ λ _. does_refused m settings now Actions.Suspend INTERNAL s (λ t h. absurd (cc))
      | false ↦ λ e. does_counts m settings now Actions.Suspend raised s (raised-most settings now s.at_most e) (λ t c. refl) (λ rs n. refl) tt (λ t h. absurd (cc)) refl refl
    ] refl
does_all m law settings now c Actions.Resume s =
    restopped-does m settings now Actions.Resume (with_counts lowered now.state) done
    (does_counts m settings now Actions.Resume lowered s (λ t n h. lowered-most n settings.count_limit (s.at_most t n h)) (λ t c. refl) (λ rs n. refl) tt (λ t h. absurd (cc)) refl refl)
does_all m law settings now c Actions.Dispose s =
    record {
      sound = record { state = s.state; lives = (sound_counts m settings now cleared s (λ t n h. omega arith)).lives; at_most = (sound_counts m settings now cleared s (λ t n h. omega arith)).at_most; below = tt };
      ever = λ t x. x;
      sizes = refl;
      counts = λ t. count-changed cleared now.state.threads t;
      requests = refl;
      says = tt;
      of_thread = λ t h. absurd (cc);
      handshaken = refl;
      alive = and-true now.state.alive;
      dies = refl;
      closes = refl;
    }
does_all m law settings now c Actions.Exit s =
    record {
      sound = record {
        state = ended-state m law now.machine s.state;
        lives = λ t. ended-live m law now.machine s.state t;
        at_most = λ t n h. absurd (cc);
        below = tt;
      };
      ever = λ t x. ended-ever m law now.machine s.state t ∙ x;
      sizes = ended-sizes m law now.machine s.state;
      counts = λ t. refl;
      requests = refl;
      says = tt;
      of_thread = λ t h. absurd (cc);
      handshaken = refl;
      alive = and-false now.state.alive;
      dies = refl;
      closes = refl;
    }
does_all m law settings now c Actions.HoldEvents s =
    record {
      sound = record { state = s.state; lives = s.lives; at_most = s.at_most; below = s.below };
      ever = λ t x. x;
      sizes = refl;
      counts = λ t. refl;
      requests = refl;
      says = tt;
      of_thread = λ t h. absurd (cc);
      handshaken = refl;
      alive = and-true now.state.alive;
      dies = refl;
      closes = refl;
    }
does_all m law settings now c Actions.ReleaseEvents s =
    record {
      sound = record { state = s.state; lives = s.lives; at_most = s.at_most; below = s.below };
      ever = λ t x. x;
      sizes = refl;
      counts = λ t. refl;
      requests = refl;
      says = tt;
      of_thread = λ t h. absurd (cc);
      handshaken = refl;
      alive = and-true now.state.alive;
      dies = refl;
      closes = refl;
    }
does_all m law settings now c (Actions.SetRequest byte policy entries) s =
    set-does m settings now byte policy entries (set_refusal m settings now byte policy (modifiers_of entries)) s
does_all m law settings now c (Actions.ClearRequest byte id) s =
    record {
      sound = record { state = s.state; lives = s.lives; at_most = s.at_most; below = subst (AreBelow now.state.next_request) (sym (asked-filter (is_not_asked byte id) now.state.requests)) (below-filter now.state.next_request (is_not_asked byte id) (all_asked now.state.requests) s.below) };
      ever = λ t x. x;
      sizes = refl;
      counts = λ t. refl;
      requests = asked-filter (is_not_asked byte id) now.state.requests;
      says = tt;
      of_thread = λ t h. absurd (cc);
      handshaken = refl;
      alive = and-true now.state.alive;
      dies = refl;
      closes = refl;
    }
does_all m law settings now c Actions.ClearBreakpoints s =
    record {
      sound = record { state = s.state; lives = s.lives; at_most = s.at_most; below = subst (AreBelow now.state.next_request) (sym (asked-filter is_no_asked_breakpoint now.state.requests)) (below-filter now.state.next_request is_no_asked_breakpoint (all_asked now.state.requests) s.below) };
      ever = λ t x. x;
      sizes = refl;
      counts = λ t. refl;
      requests = asked-filter is_no_asked_breakpoint now.state.requests;
      says = tt;
      of_thread = λ t h. absurd (cc);
      handshaken = refl;
      alive = and-true now.state.alive;
      dies = refl;
      closes = refl;
    }
does_all m law settings now c (Actions.SuspendThread t) s =
    elim (count_of now.state t) as (λ v. count_of now.state t ≡ v → Does m settings now (Actions.SuspendThread t) (suspend_thread_by settings now t v)) [
      | None ↦ λ e. does_refused m settings now (Actions.SuspendThread t) INVALID_THREAD s (λ u h. of-one (Error INVALID_THREAD) now.state t u None e (λ _. refl) h)
      | Some n ↦ λ e. elim (n == settings.count_limit) as (λ b. (n == settings.count_limit) ≡ b → Does m settings now (Actions.SuspendThread t) (suspend_thread_at now t b)) [
        | true ↦ λ _. does_refused m settings now (Actions.SuspendThread t) INTERNAL s (λ u h. of-one (Error INTERNAL) now.state t u (Some n) e (λ k. absurd (omega (arith, k))) h)
        | false ↦ λ z. does_counts m settings now (Actions.SuspendThread t) (only t raised) s
            (λ u k h. only-most t u (k + 1) k settings.count_limit (λ q. let w : Some n ≡ Some k = sym e ∙ (ap (λ x. count_of now.state x) q ∙ h) in let y : n ≡ k = cc in under-limit k settings.count_limit (s.at_most u k h) (subst (λ x. (x == settings.count_limit) ≡ false) y z)) (s.at_most u k h))
            (λ u c. refl) (λ rs n. refl) tt (λ u h. of-one done now.state t u (Some n) e refl h) refl refl
      ] refl
    ] refl
does_all m law settings now c (Actions.ResumeThread t) s =
    elim (count_of now.state t) as (λ v. count_of now.state t ≡ v → Does m settings now (Actions.ResumeThread t) (resume_thread_by now t v)) [
      | None ↦ λ e. does_refused m settings now (Actions.ResumeThread t) INVALID_THREAD s (λ u h. of-one (Error INVALID_THREAD) now.state t u None e (λ _. refl) h)
      | Some n ↦ λ e. restopped-does m settings now (Actions.ResumeThread t) (with_counts (only t lowered) now.state) done
          (does_counts m settings now (Actions.ResumeThread t) (only t lowered) s
          (λ u k h. only-most t u (k - 1) k settings.count_limit (λ q. lowered-most k settings.count_limit (s.at_most u k h)) (s.at_most u k h))
          (λ u c. refl) (λ rs n. refl) tt (λ u h. of-one done now.state t u (Some n) e refl h) refl refl)
    ] refl
does_all m law settings now c (Actions.SuspendCount t) s =
    elim (count_of now.state t) as (λ v. count_of now.state t ≡ v → Does m settings now (Actions.SuspendCount t) (answered now (answer_count v))) [
      | None ↦ λ e. does_refused m settings now (Actions.SuspendCount t) INVALID_THREAD s (λ u h. of-one (Error INVALID_THREAD) now.state t u None e (λ _. refl) h)
      | Some n ↦ λ e. does_answered m settings now (Actions.SuspendCount t) (int_answer n) s refl (n, e, refl) (λ u h. of-one (int_answer n) now.state t u (Some n) e refl h)
    ] refl
does_all m law settings now c (Actions.ThreadStatus t) s =
    elim (count_of now.state t) as (λ v. count_of now.state t ≡ v → Does m settings now (Actions.ThreadStatus t) (answered now (answer_status v))) [
      | None ↦ λ e. does_refused m settings now (Actions.ThreadStatus t) INVALID_THREAD s (λ u h. of-one (Error INVALID_THREAD) now.state t u None e (λ _. refl) h)
      | Some n ↦ λ e. does_answered m settings now (Actions.ThreadStatus t) (status_answer n) s refl tt (λ u h. of-one (status_answer n) now.state t u (Some n) e refl h)
    ] refl
does_all m law settings now c (Actions.SetSlots t f values) s =
    elim (count_of now.state t) as (λ v. count_of now.state t ≡ v → Does m settings now (Actions.SetSlots t f values) (slots_by m now t f values v)) [
      | None ↦ λ e. does_refused m settings now (Actions.SetSlots t f values) INVALID_THREAD s (λ u h. of-one (Error INVALID_THREAD) now.state t u None e (λ _. refl) h)
      | Some n ↦ λ e. elim (n == 0) as (λ b. Does m settings now (Actions.SetSlots t f values) (slots_at m now t f values b)) [
        | true ↦ does_refused m settings now (Actions.SetSlots t f values) THREAD_NOT_SUSPENDED s (λ u h. of-one (Error THREAD_NOT_SUSPENDED) now.state t u (Some n) e (λ k. absurd (omega (arith, k))) h)
        | false ↦ slots-does m law settings now t f values n (m.write_answer now.machine t f values) s e (law.write_answers now.machine t f values s.state)
      ]
    ] refl
does_all m law settings now c (Actions.AskFrames t) s =
    elim (count_of now.state t) as (λ v. count_of now.state t ≡ v → Does m settings now (Actions.AskFrames t) (answered now (answer_frames m settings now c v))) [
      | None ↦ λ e. does_refused m settings now (Actions.AskFrames t) INVALID_THREAD s (λ u h. of-one (Error INVALID_THREAD) now.state t u None e (λ _. refl) h)
      | Some n ↦ λ e. does_answered m settings now (Actions.AskFrames t) _ s refl tt (λ u h. of-one _ now.state t u (Some n) e (frames-of m law settings now c n s.state) h)
    ] refl
does_all m law settings now c (Actions.AskThread t) s =
    elim (count_of now.state t) as (λ v. count_of now.state t ≡ v → Does m settings now (Actions.AskThread t) (answered now (answer_thread m settings now c v))) [
      | None ↦ λ e. does_refused m settings now (Actions.AskThread t) INVALID_THREAD s (λ u h. of-one (Error INVALID_THREAD) now.state t u None e (λ _. refl) h)
      | Some n ↦ λ e. does_answered m settings now (Actions.AskThread t) _ s refl tt (λ u h. of-one _ now.state t u (Some n) e (bounded-of m now.machine settings c.set c.number (m.query now.machine (query_of c)) n (law.answers now.machine (query_of c) s.state)) h)
    ] refl
does_all m law settings now c Actions.AllThreads s = listed-does m settings now _ s refl
does_all m law settings now c Actions.IdSizes s = does_answered m settings now Actions.IdSizes (sizes_answer (m.sizes now.machine)) s refl tt (λ t h. absurd (cc))
does_all m law settings now c Actions.Ask s =
    elim (makes_string (query_of c)) as (λ b. Does m settings now Actions.Ask (asks_by m settings now c b)) [
      | true ↦ let text = text_in (query_of c).content in made-does m law settings now text (m.made_answer now.machine text) s
      | false ↦ does_answered m settings now Actions.Ask (answer_asked m settings now (query_of c) (invocation_request c.set c.number)) s refl tt (λ t h. absurd (cc))
    ]

not-implemented : (t : ℕ) (count : Option ℕ) → OfThread (Error NOT_IMPLEMENTED) count
not-implemented t count k = absurd (omega (arith, k))

pub does_effect : {S : Type 0} (m : Meaning S) → IsLawful m → (settings : Settings) (now : Moment S) (c : Command) → IsSound m settings now → Does m settings now (action_of c) (effect m settings now c)
does_effect m law settings now c s =
    elim (is_answered settings.profile c) as (λ b. Does m settings now (action_of c) (effect_by m settings now c b)) [
      | true ↦ does_all m law settings now c (action_of c) s
      | false ↦ does_refused m settings now (action_of c) NOT_IMPLEMENTED s (λ t h. not-implemented t (count_of now.state t))
    ]
