-- what steps do
use Rattle.std.proofs.Common.{◌≡◌, ℕ, ◌==◌, ◌+◌, ◌≤◌, Bool, true, false, ◌||◌, ◌&&◌, cond, not, Option, Some, None, List, [], ◌∷◌, map, refl, sym, ◌∙◌, ap, subst, arith, is_some}
use Rattle.std.specs.List.{list_any}
use Rattle.std.specs.Option.{option_or}
use Rattle.std.proofs.lemmas.Bool.{eqb-true, eq-eqb, false_from_ne_true}
use Rattle.jdwp_event.specs.declared.kind.EventKind.TheVariants as kind
use Rattle.jdwp_event.specs.EventKinds.{kind_byte}
use Rattle.jdwp_event.specs.Requests.{Request, all_asked}
use Rattle.jdwp_event.specs.Occurrences.{OccurrenceMeaning, Moved, Entered, Left, Threw, Prepared, Started, RanOut, HappeningMeaning, started, started_by, runs_out, is_run_out}
use Rattle.jdwp_event.specs.Filters.{is_of_kind, passes, passing, counted, all_counted, reached_after, origin_at, place_of}
use Rattle.jdwp_event.specs.Composites.{CompositeMeaning, event_for, gathered, composite_by}
use Rattle.jdwp_event.specs.Told.{composite_thread, is_event_of, is_vm_death}
use Rattle.jdwp_machine.specs.Meanings.{Meaning, has}
use Rattle.jdwp_machine.specs.Laws.{IsLawful, is_named}
use Rattle.jdwp_debuggee.specs.Settings.{Settings}
use Rattle.jdwp_debuggee.specs.State.{Thread, State, Moment, count_of, count_in, count_by, or_zero, with_counts, with_thread, without_thread, at_limit, is_marked}
use Rattle.jdwp_debuggee.specs.Steps.{Step, with_happening, ended_by, ends, death_by, report_by, happens, occurs_by, occurs, may_step, is_zero, with_started, raised_by}
use Rattle.jdwp_debuggee.specs.Facts.{AreBelow, IsSound, Quiet, Happens}
use Rattle.jdwp_debuggee.proofs.Small.{and-left, and-right, is-not-true}
use Rattle.jdwp_debuggee.specs.SoundLaws.{raised-by-most, sound_counts}
use Rattle.jdwp_debuggee.specs.ThreadLaws.{count-changed}
use Rattle.jdwp_debuggee.proofs.ThreadLists.{count-append, count-marked, count-without, below-limit, under-limit}

-- ---- what requests see

counted-asked : (h : HappeningMeaning) (r : Request) → (counted h r).asked ≡ r.asked
counted-asked h r =
    elim (is_of_kind h.occurrence r.asked.kind) as (λ b. (cond b (record { asked = r.asked; reached = reached_after r.origin h r.asked.modifiers r.reached; origin = cond (passes h r) (origin_at (place_of h.occurrence) r.origin) r.origin }) r).asked ≡ r.asked) [ true ↦ refl | false ↦ refl ]

asked-counted : (h : HappeningMeaning) (rs : List Request) → all_asked (all_counted h rs) ≡ all_asked rs
asked-counted h [] = refl
asked-counted h (r ∷ rs) = ap (λ a. a ∷ all_asked (all_counted h rs)) (counted-asked h r) ∙ ap (λ l. r.asked ∷ l) (asked-counted h rs)

no-death-kind : (o : OccurrenceMeaning) → is_of_kind o (kind_byte kind.VmDeath) ≡ false
no-death-kind (Moved p) = refl
no-death-kind (Entered p) = refl
no-death-kind (Left p v) = refl
no-death-kind (Threw p t) = refl
no-death-kind (Prepared p) = refl
no-death-kind Started = refl
no-death-kind RanOut = refl

other-kind : (o : OccurrenceMeaning) (byte : ℕ) → is_of_kind o byte ≡ true → (byte == kind_byte kind.VmDeath) ≡ false
other-kind o byte h =
    false_from_ne_true (byte == kind_byte kind.VmDeath) (λ k.
    let e : is_of_kind o (kind_byte kind.VmDeath) ≡ true = subst (λ n. is_of_kind o n ≡ true) (eqb-true byte (kind_byte kind.VmDeath) k) h in
    let f : is_of_kind o (kind_byte kind.VmDeath) ≡ false = no-death-kind o in
    absurd (cc))

no-death : (h : HappeningMeaning) (rs : List Request) → list_any (is_event_of kind.VmDeath) (map (event_for h) (passing h rs)) ≡ false
no-death h [] = refl
no-death h (r ∷ rs) =
    elim (passes h r) as (λ b. passes h r ≡ b → list_any (is_event_of kind.VmDeath) (map (event_for h) (cond b (r ∷ passing h rs) (passing h rs))) ≡ false) [
      | true ↦ λ e. ap (λ b. b || list_any (is_event_of kind.VmDeath) (map (event_for h) (passing h rs))) (other-kind h.occurrence r.asked.kind (and-left _ _ e)) ∙ no-death h rs
      | false ↦ λ _. no-death h rs
    ] refl

-- what a composite that was gathered says
abbrev Says : HappeningMeaning → CompositeMeaning → Type 0
Says h c = (composite_thread c ≡ Some h.thread) × (is_vm_death c ≡ false)

says-by : (h : HappeningMeaning) (xs : List Request) (c : CompositeMeaning) → list_any (is_event_of kind.VmDeath) (map (event_for h) xs) ≡ false → composite_by h xs ≡ Some c → Says h c
says-by h [] c d e = absurd (cc)
says-by h (x ∷ xs) c d e =
    subst (λ (o : Option CompositeMeaning). elim o as (λ _. Type 0) [ None ↦ Unit {0} | Some y ↦ Says h y ]) e (refl, d)

gathered-says : (h : HappeningMeaning) (rs : List Request) (c : CompositeMeaning) → gathered h rs ≡ Some c → Says h c
gathered-says h rs c e = says-by h (passing h rs) c (no-death h rs) e

-- ---- small facts

zero-count : (c : Option ℕ) → is_zero c ≡ true → c ≡ Some 0
zero-count None h = absurd (cc)
zero-count (Some n) h = ap Some (eqb-true n 0 h)

out-some : (c : Option ℕ) (b : Bool) → is_some (cond b None c) ≡ (is_some c && not b)
out-some None true = refl
out-some None false = refl
out-some (Some n) true = refl
out-some (Some n) false = refl

out-count : (c : Option ℕ) (b : Bool) (n : ℕ) → cond b None c ≡ Some n → c ≡ Some n
out-count c true n h = absurd (cc)
out-count c false n h = h

out-zero : (c : Option ℕ) (b : Bool) → (b ≡ true → c ≡ Some 0) → or_zero (cond b None c) ≡ or_zero c
out-zero c true h = rw (h refl) refl
out-zero c false h = refl

gone-zero : (c : Option ℕ) (b : Bool) → (b ≡ true → c ≡ Some 0) → cond b None c ≡ None → or_zero c ≡ 0
gone-zero c true h k = rw (h refl) refl
gone-zero c false h k = ap or_zero k

-- ---- a thread ends

-- a state that differs from this in what requests saw alone
pub record Same (a b : State) : Type 0 where
  pub threads : b.threads ≡ a.threads
  pub asked : all_asked b.requests ≡ all_asked a.requests
  pub next : b.next_request ≡ a.next_request
  pub shaken : b.handshaken ≡ a.handshaken
  pub alive : b.alive ≡ a.alive

same-seen : (h : HappeningMeaning) (a : State) → Same a (with_happening h a)
same-seen h a = record { threads = refl; asked = asked-counted h a.requests; next = refl; shaken = refl; alive = refl }

same-itself : (a : State) → Same a a
same-itself a = record { threads = refl; asked = refl; next = refl; shaken = refl; alive = refl }

count-left : (now : State) (t : ℕ) (st : State) → Same now st → (u : ℕ) → count_of (without_thread t st) u ≡ cond (u == t) None (count_of now u)
count-left now t st e u = count-without t st.threads u ∙ ap (λ ts. cond (u == t) None (count_in ts u)) e.threads

ends-happens : {S : Type 0} (m : Meaning S) → IsLawful m → (settings : Settings) (now : Moment S) (t : ℕ) (st : State) (ts : List Thread) → IsSound m settings now → has (m.live now.machine) t ≡ true → count_of now.state t ≡ Some 0 → Same now.state st → (without_thread t st).threads ≡ ts → Happens m settings now (ends m now.machine t (ended_by ts (without_thread t st)))
ends-happens m law settings now t st [] s l c e f =
    let out : (u : ℕ) → cond (u == t) None (count_of now.state u) ≡ None = λ u. sym (count-left now.state t st e u) ∙ ap (λ ts. count_in ts u) f in
    record {
      sound = record {
        state = law.state_ended now.machine t (s.state, l);
        lives = λ u. law.live_ended now.machine t u (s.state, l) ∙ (ap (λ b. b && not (u == t)) (s.lives u) ∙ (sym (out-some (count_of now.state u) (u == t)) ∙ ap is_some (out u)));
        at_most = λ u n h. absurd (cc);
        below = tt;
      };
      ever = λ u h. law.ever_ended now.machine t u (s.state, l) ∙ h;
      sizes = law.sizes_ended now.machine t (s.state, l);
      told = record {
        nobody_suspended = λ u. gone-zero (count_of now.state u) (u == t) (λ q. ap (λ x. count_of now.state x) (eqb-true u t q) ∙ c) (out u);
        nobody_lives = λ u. refl;
        no_requests = refl;
        alive = refl;
      };
      silent = λ h. refl;
      handshaken = e.shaken;
      alive = λ h. absurd (cc);
    }
ends-happens m law settings now t st (x ∷ xs) s l c e f =
    record {
      sound = record {
        state = law.state_ended now.machine t (s.state, l);
        lives = λ u. law.live_ended now.machine t u (s.state, l) ∙ (ap (λ b. b && not (u == t)) (s.lives u) ∙ (sym (out-some (count_of now.state u) (u == t)) ∙ sym (ap is_some (count-left now.state t st e u))));
        at_most = λ u n h. s.at_most u n (out-count (count_of now.state u) (u == t) n (sym (count-left now.state t st e u) ∙ h));
        below = subst (λ n. AreBelow n (all_asked st.requests)) (sym e.next) (subst (AreBelow now.state.next_request) (sym e.asked) s.below);
      };
      ever = λ u h. law.ever_ended now.machine t u (s.state, l) ∙ h;
      sizes = law.sizes_ended now.machine t (s.state, l);
      told = record {
        same_count = λ u. ap or_zero (count-left now.state t st e u) ∙ out-zero (count_of now.state u) (u == t) (λ q. ap (λ x. count_of now.state x) (eqb-true u t q) ∙ c);
        no_birth = λ u n _ h. out-count (count_of now.state u) (u == t) n (sym (count-left now.state t st e u) ∙ h);
        ever = λ u h. law.ever_ended now.machine t u (s.state, l) ∙ h;
        same_requests = e.asked;
        alive = λ h. sym e.alive ∙ h;
      };
      silent = λ h. refl;
      handshaken = e.shaken;
      alive = λ h. e.alive;
    }

-- ---- a thread steps

or-none : (c : Option ℕ) → option_or c None ≡ c
or-none None = refl
or-none (Some n) = refl

or-zero : (c : Option ℕ) (b : Bool) → or_zero (option_or c (cond b (Some 0) None)) ≡ or_zero c
or-zero (Some n) b = refl
or-zero None true = refl
or-zero None false = refl

or-some : (c : Option ℕ) (b : Bool) → is_some (option_or c (cond b (Some 0) None)) ≡ (is_some c || b)
or-some (Some n) b = refl
or-some None true = refl
or-some None false = refl

or-false : (b : Bool) → (b || false) ≡ b
or-false true = refl
or-false false = refl

or-most : (c : Option ℕ) (b : Bool) (k n : ℕ) → 1 ≤ k → ((j : ℕ) → c ≡ Some j → j + 1 ≤ k) → option_or c (cond b (Some 0) None) ≡ Some n → n + 1 ≤ k
or-most (Some j) b k n l h e = let q : j ≡ n = cc in let y : j + 1 ≤ k = h j refl in subst (λ x. x + 1 ≤ k) q y
or-most None true k n l h e = let q : 0 ≡ n = cc in subst (λ x. x + 1 ≤ k) q l
or-most None false k n l h e = absurd (cc)

-- the count of a new thread
new-count : (n u : ℕ) → count_in (record { id = n; suspend_count = 0; death_reported = false } ∷ []) u ≡ cond (n == u) (Some 0) None
new-count n u =
    elim (n == u) as (λ b. count_by (cond b (Some (record { id = n; suspend_count = 0; death_reported = false })) None) ≡ cond b (Some 0) None) [ true ↦ refl | false ↦ refl ]

count-new : (state : State) (n u : ℕ) → count_of (with_thread n state) u ≡ option_or (count_of state u) (cond (n == u) (Some 0) None)
count-new state n u = count-append state.threads _ u ∙ ap (λ c. option_or (count_of state u) c) (new-count n u)

-- What a step leaves before its composite: who started lives.
pub record Mid {S : Type 0} (m : Meaning S) (settings : Settings) (now mid : Moment S) (thread : ℕ) : Type 0 where
  pub sound : IsSound m settings mid
  pub quiet : Quiet m now mid
  pub ran : count_of mid.state thread ≡ Some 0
  pub below_limit : (u n : ℕ) → count_of mid.state u ≡ Some n → n + 1 ≤ settings.count_limit
  pub shaken : mid.state.handshaken ≡ now.state.handshaken
  pub alive : mid.state.alive ≡ now.state.alive

-- what is known of a thread that may step
pub record Ready {S : Type 0} (m : Meaning S) (settings : Settings) (now : Moment S) (t : ℕ) : Type 0 where
  pub sound : IsSound m settings now
  pub live : has (m.live now.machine) t ≡ true
  pub count : count_of now.state t ≡ Some 0
  pub below_limit : (u n : ℕ) → count_of now.state u ≡ Some n → n + 1 ≤ settings.count_limit

started-thread : (h : HappeningMeaning) (n : ℕ) → started h ≡ Some n → h.thread ≡ n
started-thread h n = elim h.occurrence as (λ o. started_by h.thread o ≡ Some n → h.thread ≡ n) [
  | Moved p ↦ λ e. absurd (cc)
  | Entered p ↦ λ e. absurd (cc)
  | Left p v ↦ λ e. absurd (cc)
  | Threw p t ↦ λ e. absurd (cc)
  | Prepared p ↦ λ e. absurd (cc)
  | Started ↦ λ e. cc
  | RanOut ↦ λ e. absurd (cc)
]

out-of-started : (h : HappeningMeaning) → runs_out h ≡ true → started h ≡ None
out-of-started h = elim h.occurrence as (λ o. is_run_out o ≡ true → started_by h.thread o ≡ None) [
  | Moved p ↦ λ e. refl
  | Entered p ↦ λ e. refl
  | Left p v ↦ λ e. refl
  | Threw p t ↦ λ e. refl
  | Prepared p ↦ λ e. refl
  | Started ↦ λ e. absurd (cc)
  | RanOut ↦ λ e. refl
]

stepped-mid : {S : Type 0} (m : Meaning S) → IsLawful m → (settings : Settings) (now : Moment S) (t : ℕ) (o : Option ℕ) → Ready m settings now t → runs_out (m.next now.machine t) ≡ false → started (m.next now.machine t) ≡ o → Mid m settings now (record { state = with_started o (with_happening (m.next now.machine t) now.state); machine = m.stepped now.machine t }) (m.next now.machine t).thread
stepped-mid m law settings now t None r x e =
    let may : m.is_state now.machine × (has (m.live now.machine) t ≡ true) × (runs_out (m.next now.machine t) ≡ false) = (r.sound.state, r.live, x) in
    let named : (u : ℕ) → is_named (started (m.next now.machine t)) u ≡ false = λ u. ap (λ v. is_named v u) e in
    record {
      sound = record {
        state = law.state_stepped now.machine t may;
        lives = λ u. law.live_stepped now.machine t u may ∙ (ap (λ b. has (m.live now.machine) u || b) (named u) ∙ (or-false _ ∙ r.sound.lives u));
        at_most = r.sound.at_most;
        below = subst (AreBelow now.state.next_request) (sym (asked-counted (m.next now.machine t) now.state.requests)) r.sound.below;
      };
      quiet = record {
        same_count = λ u. refl;
        no_birth = λ u n _ h. h;
        ever = λ u h. law.ever_stepped now.machine t u may ∙ ap (λ b. b || is_named (started (m.next now.machine t)) u) h;
        same_requests = asked-counted (m.next now.machine t) now.state.requests;
        alive = λ h. h;
      };
      ran = ap (λ v. count_of now.state v) (law.own_thread now.machine t (r.sound.state, r.live) e) ∙ r.count;
      below_limit = r.below_limit;
      shaken = refl;
      alive = refl;
    }
stepped-mid m law settings now t (Some n) r x e =
    let may : m.is_state now.machine × (has (m.live now.machine) t ≡ true) × (runs_out (m.next now.machine t) ≡ false) = (r.sound.state, r.live, x) in
    let named : (u : ℕ) → is_named (started (m.next now.machine t)) u ≡ (n == u) = λ u. ap (λ v. is_named v u) e in
    let fresh : m.ever now.machine n ≡ false = law.new_thread now.machine t n (r.sound.state, r.live) e in
    let least : 1 ≤ settings.count_limit = r.below_limit t 0 r.count in
    let after : State = with_thread n (with_happening (m.next now.machine t) now.state) in
    let count : (u : ℕ) → count_of after u ≡ option_or (count_of now.state u) (cond (n == u) (Some 0) None) = count-new (with_happening (m.next now.machine t) now.state) n in
    let lived : (u k : ℕ) → count_of now.state u ≡ Some k → m.ever now.machine u ≡ true = λ u k h. law.live_ever now.machine r.sound.state u (r.sound.lives u ∙ ap is_some h) in
    record {
      sound = record {
        state = law.state_stepped now.machine t may;
        lives = λ u. law.live_stepped now.machine t u may ∙ (ap (λ b. has (m.live now.machine) u || b) (named u) ∙ (ap (λ b. b || (n == u)) (r.sound.lives u) ∙ (sym (or-some (count_of now.state u) (n == u)) ∙ sym (ap is_some (count u)))));
        at_most = λ u k h. let y : k + 1 ≤ settings.count_limit = or-most (count_of now.state u) (n == u) settings.count_limit k least (r.below_limit u) (sym (count u) ∙ h) in omega arith;
        below = subst (AreBelow now.state.next_request) (sym (asked-counted (m.next now.machine t) now.state.requests)) r.sound.below;
      };
      quiet = record {
        same_count = λ u. ap or_zero (count u) ∙ or-zero (count_of now.state u) (n == u);
        no_birth = λ u k y h.
            let f : (n == u) ≡ false = false_from_ne_true (n == u) (λ q. let z : m.ever now.machine u ≡ false = subst (λ v. m.ever now.machine v ≡ false) (eqb-true n u q) fresh in absurd (cc)) in
            sym (count u ∙ (ap (λ b. option_or (count_of now.state u) (cond b (Some 0) None)) f ∙ or-none _)) ∙ h;
        ever = λ u h. law.ever_stepped now.machine t u may ∙ ap (λ b. b || is_named (started (m.next now.machine t)) u) h;
        same_requests = asked-counted (m.next now.machine t) now.state.requests;
        alive = λ h. h;
      };
      ran =
          let none : count_of now.state n ≡ None = elim (count_of now.state n) as (λ v. count_of now.state n ≡ v → v ≡ None) [ None ↦ λ _. refl | Some k ↦ λ q. let z : m.ever now.machine n ≡ true = lived n k q in absurd (cc) ] refl in
          let here : count_of after n ≡ Some 0 = count n ∙ (ap (λ v. option_or v (cond (n == n) (Some 0) None)) none ∙ ap (λ b. cond b (Some 0) None) (eq-eqb n n refl)) in
          ap (λ v. count_of after v) (started-thread (m.next now.machine t) n e) ∙ here;
      below_limit = λ u k h. or-most (count_of now.state u) (n == u) settings.count_limit k least (r.below_limit u) (sym (count u) ∙ h);
      shaken = refl;
      alive = refl;
    }

-- ---- with a composite, and without

abbrev Is : {S : Type 0} → Meaning S → Settings → Moment S → Step S → Type 0
Is m settings now o = Happens m settings now o

raised-sound : {S : Type 0} (m : Meaning S) (settings : Settings) (now mid : Moment S) (thread : ℕ) (c : CompositeMeaning) → Mid m settings now mid thread → IsSound m settings (record { state = with_counts (raised_by c.policy thread) mid.state; machine = mid.machine })
raised-sound m settings now mid thread c d =
    sound_counts m settings mid (raised_by c.policy thread) d.sound (λ u n h. let a : raised_by c.policy thread u n ≤ n + 1 = raised-by-most c.policy thread u n in let b : n + 1 ≤ settings.count_limit = d.below_limit u n h in omega arith)

reports : {S : Type 0} (m : Meaning S) → IsLawful m → (settings : Settings) (now : Moment S) (t : ℕ) (o : Option CompositeMeaning) → Ready m settings now t → runs_out (m.next now.machine t) ≡ false → gathered (m.next now.machine t) now.state.requests ≡ o → Happens m settings now (report_by m now.machine t (m.next now.machine t) now.state o)
reports m law settings now t None r x e =
    let d = stepped-mid m law settings now t (started (m.next now.machine t)) r x refl in
    record { sound = d.sound; ever = d.quiet.ever; sizes = law.sizes_stepped now.machine t (r.sound.state, r.live, x); told = d.quiet; silent = λ h. refl; handshaken = d.shaken; alive = λ h. d.alive }
reports {S} m law settings now t (Some c) r x e =
    let mid : Moment S = record { state = with_started (started (m.next now.machine t)) (with_happening (m.next now.machine t) now.state); machine = m.stepped now.machine t } in
    let thread : ℕ = (m.next now.machine t).thread in
    let d : Mid m settings now mid thread = stepped-mid m law settings now t (started (m.next now.machine t)) r x refl in
    let q = raised-sound m settings now mid thread c d in
    let says = gathered-says (m.next now.machine t) now.state.requests c e in
    record {
      sound = record { state = q.state; lives = q.lives; at_most = q.at_most; below = q.below };
      ever = d.quiet.ever;
      sizes = law.sizes_stepped now.machine t (r.sound.state, r.live, x);
      told = (
        refl,
        record {
          thread = thread;
          mid = mid;
          quiet = d.quiet;
          of_thread = says.0;
          is_no_death = says.1;
          ran = d.ran;
          counts = λ u. count-changed (raised_by c.policy thread) mid.state.threads u;
          same_requests = refl;
          ever = λ u h. h;
          alive = refl;
        },
      );
      silent = λ h. let y : gathered (m.next now.machine t) now.state.requests ≡ None = ap (gathered (m.next now.machine t)) h in absurd (cc);
      handshaken = d.shaken;
      alive = λ h. d.alive;
    }

dies : {S : Type 0} (m : Meaning S) → IsLawful m → (settings : Settings) (now : Moment S) (t : ℕ) (o : Option CompositeMeaning) → Ready m settings now t → runs_out (m.next now.machine t) ≡ true → gathered (m.next now.machine t) now.state.requests ≡ o → Happens m settings now (death_by m now.machine t (m.next now.machine t) now.state o)
dies m law settings now t None r x e = ends-happens m law settings now t (with_happening (m.next now.machine t) now.state) _ r.sound r.live r.count (same-seen (m.next now.machine t) now.state) refl
dies {S} m law settings now t (Some c) r x e =
    let mid : Moment S = record { state = with_happening (m.next now.machine t) now.state; machine = now.machine } in
    let thread : ℕ = (m.next now.machine t).thread in
    let own : thread ≡ t = law.own_thread now.machine t (r.sound.state, r.live) (out-of-started (m.next now.machine t) x) in
    let asked = asked-counted (m.next now.machine t) now.state.requests in
    let d : Mid m settings now mid thread = record {
      sound = record { state = r.sound.state; lives = r.sound.lives; at_most = r.sound.at_most; below = subst (AreBelow now.state.next_request) (sym asked) r.sound.below };
      quiet = record { same_count = λ u. refl; no_birth = λ u n _ h. h; ever = λ u h. h; same_requests = asked; alive = λ h. h };
      ran = ap (λ v. count_of now.state v) own ∙ r.count;
      below_limit = r.below_limit;
      shaken = refl;
      alive = refl;
    } in
    let q = raised-sound m settings now mid thread c d in
    let says = gathered-says (m.next now.machine t) now.state.requests c e in
    let raised : State = with_counts (raised_by c.policy thread) mid.state in
    record {
      sound = record {
        state = q.state;
        lives = λ u. q.lives u ∙ sym (ap is_some (count-marked t raised.threads u));
        at_most = λ u n h. q.at_most u n (sym (count-marked t raised.threads u) ∙ h);
        below = q.below;
      };
      ever = λ u h. h;
      sizes = refl;
      told = (
        refl,
        record {
          thread = thread;
          mid = mid;
          quiet = d.quiet;
          of_thread = says.0;
          is_no_death = says.1;
          ran = d.ran;
          counts = λ u. count-marked t raised.threads u ∙ count-changed (raised_by c.policy thread) mid.state.threads u;
          same_requests = refl;
          ever = λ u h. h;
          alive = refl;
        },
      );
      silent = λ h. let y : gathered (m.next now.machine t) now.state.requests ≡ None = ap (gathered (m.next now.machine t)) h in absurd (cc);
      handshaken = refl;
      alive = λ h. refl;
    }

-- ---- all steps

pub ready : {S : Type 0} (m : Meaning S) (settings : Settings) (now : Moment S) (t : ℕ) → IsSound m settings now → may_step m settings now t ≡ true → Ready m settings now t
ready m settings now t s h =
    let a = and-right (now.state.alive) _ (and-right now.state.handshaken _ h) in
    let b = and-right (not now.state.held) _ a in
    let c : count_of now.state t ≡ Some 0 = zero-count (count_of now.state t) (and-left (is_zero (count_of now.state t)) _ b) in
    let d : at_limit settings.count_limit now.state ≡ false = is-not-true _ (and-left (not (at_limit settings.count_limit now.state)) _ (and-right (is_zero (count_of now.state t)) _ b)) in
    record {
      sound = s;
      live = s.lives t ∙ ap is_some c;
      count = c;
      below_limit = λ u n e. under-limit n settings.count_limit (s.at_most u n e) (below-limit settings.count_limit now.state.threads u n d e);
    }

happens-by : {S : Type 0} (m : Meaning S) → IsLawful m → (settings : Settings) (now : Moment S) (t : ℕ) (b : Bool) → Ready m settings now t → runs_out (m.next now.machine t) ≡ b → Happens m settings now (happens m now t (m.next now.machine t) b)
happens-by m law settings now t true r e = dies m law settings now t _ r e refl
happens-by m law settings now t false r e = reports m law settings now t _ r e refl

pub happens_step : {S : Type 0} (m : Meaning S) → IsLawful m → (settings : Settings) (now : Moment S) (t : ℕ) → IsSound m settings now → may_step m settings now t ≡ true → Happens m settings now (occurs m now t)
happens_step m law settings now t s h =
    let r = ready m settings now t s h in
    elim (is_marked now.state t) as (λ b. Happens m settings now (occurs_by m now t b)) [
      | true ↦ ends-happens m law settings now t now.state _ s r.live r.count (same-itself now.state) refl
      | false ↦ happens-by m law settings now t _ r refl
    ]
