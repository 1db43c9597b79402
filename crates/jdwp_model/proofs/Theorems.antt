-- what holds of every link that is reached
use Rattle.std.proofs.Common.{◌≡◌, ℕ, zero, suc, ◌==◌, ◌+◌, ◌<◌, ◌≤◌, Bool, true, false, ◌||◌, cond, Option, Some, None, List, [], ◌∷◌, ◌++◌, length, refl, sym, ◌∙◌, ap, subst, arith, is_some}
use Rattle.std.specs.Prelude.{nat_le}
use Rattle.std.proofs.lemmas.Bool.{eq-eqb}
use Rattle.jdwp_end.specs.declared.phase.Phase.TheVariants.{Closed}
use Rattle.jdwp_event.specs.Requests.{all_asked}
use Rattle.jdwp_machine.specs.Meanings.{Meaning, has}
use Rattle.jdwp_debuggee.specs.Settings.{Settings}
use Rattle.jdwp_debuggee.specs.State.{Moment, count_in, count_of, count_or_zero, or_zero, running, ids, new_state}
use Rattle.jdwp_debuggee.specs.Answers.{inserted, rising, first_of}
use Rattle.jdwp_debuggee.specs.ThreadLaws.{has-count, has-rising, ids-running, count-running}
use Rattle.jdwp_mirror.specs.Mirror.{all_kept, learned, is_positive}
use Rattle.jdwp_model.specs.World.{World, Packet, is_closed, opening}
use Rattle.jdwp_model.specs.Next.{run}
use Rattle.jdwp_model.specs.Seen.{mirror_count, mirror_held, mirror_requests, seen_moment, is_known, is_shown, is_held, unanswered, lowers, raises, has_dispose, composites_in}
use Rattle.jdwp_model.specs.Headline.{MayBegin, Always, KnowsAndHolds, HasTheCounts, requests_then, HasTheRequests, HeldIsSuspended, HeldIsCovered, CountIsAtMost}
use Rattle.jdwp_model.specs.Rests.{Rests}
use Rattle.jdwp_model.proofs.Session.{last, links_lower, links_upper, lowers_in, raises_in, no_dispose_in, replies, commands, replies_append, lowers_replies, raises_replies, composites_append, no_dispose_replies, and-left, and-right}
use Rattle.jdwp_model.proofs.Waiting.{replied-most, replied-no-dispose}
use Rattle.jdwp_model.proofs.Apart.{apart_none}
use Rattle.jdwp_model.proofs.Keeps.{Inv, Session, IsLast, closed_side, closed-not-open, keeps_run}

-- ---- before the first session

inserted-first : (n : ℕ) (xs : List ℕ) → has (inserted n xs) (first_of (inserted n xs)) ≡ true
inserted-first n [] = ap (λ b. b || false) (eq-eqb n n refl)
inserted-first n (x ∷ xs) =
    elim (nat_le n x) as (λ b. has (cond b (n ∷ x ∷ xs) (x ∷ inserted n xs)) (first_of (cond b (n ∷ x ∷ xs) (x ∷ inserted n xs))) ≡ true) [
      | true ↦ ap (λ b. b || has (x ∷ xs) n) (eq-eqb n n refl)
      | false ↦ ap (λ b. b || has (inserted n xs) x) (eq-eqb x x refl)
    ]

rising-first : (xs : List ℕ) → 1 ≤ length xs → has (rising xs) (first_of (rising xs)) ≡ true
rising-first [] h = absurd (omega arith)
rising-first (x ∷ xs) h = inserted-first x (rising xs)

running-zero : (ts : List ℕ) (t : ℕ) (c : Option ℕ) → count_in (running ts) t ≡ c → or_zero c ≡ 0
running-zero ts t None h = refl
running-zero ts t (Some n) h = count-running ts t n h

running-some : (ts : List ℕ) (t : ℕ) (c : Option ℕ) → count_in (running ts) t ≡ c → is_some c ≡ true → c ≡ Some 0
running-some ts t None h s = absurd (cc)
running-some ts t (Some n) h s = ap Some (count-running ts t n h)

running-has : (ts : List ℕ) (t : ℕ) → has ts t ≡ is_some (count_in (running ts) t)
running-has ts t = ap (λ l. has l t) (sym (ids-running ts)) ∙ has-count (running ts) t

least-running : (ts : List ℕ) → 1 ≤ length ts → count_in (running ts) (first_of (rising (ids (running ts)))) ≡ Some 0
least-running ts h =
    let e : ids (running ts) ≡ ts = ids-running ts in
    let f : has ts (first_of (rising ts)) ≡ true = sym (has-rising ts (first_of (rising ts))) ∙ rising-first ts h in
    let g : count_in (running ts) (first_of (rising ts)) ≡ Some 0 = running-some ts (first_of (rising ts)) _ refl (sym (running-has ts (first_of (rising ts))) ∙ f) in
    ap (λ l. count_in (running ts) (first_of (rising l))) e ∙ g

pub opening_inv : {S : Type 0} (m : Meaning S) (settings : Settings) (s : S) → MayBegin m settings s → Inv m settings (opening m s)
opening_inv m settings s b =
    record {
      target = record {
        sound = record {
          state = b.state;
          lives = λ t. running-has (m.live s) t;
          at_most = λ t n h. let z : n ≡ 0 = count-running (m.live s) t n h in omega arith;
          below = tt;
        };
        idle = λ _. (refl, λ t. running-zero (m.live s) t _ refl);
        living = λ x. absurd (cc);
        unlost = λ x. absurd (cc);
        greeted = λ x. absurd (cc);
        unborn = λ _. least-running (m.live s) b.lives;
      };
      debugger = closed_side m [] [] [] false (record { state = new_state (m.live s); machine = s });
      apart = apart_none Closed 0;
    }

pub always : {S : Type 0} (m : Meaning S) → Rests m → (P : World S → Type 0) → ((settings : Settings) (w : World S) → Inv m settings w → P w) → Always m P
always m rests P f settings measure s events b =
    f settings (run m settings measure (opening m s) events) (keeps_run m rests settings b.limit_least b.limit_most measure (opening m s) events (opening_inv m settings s b))

-- ---- what was seen

-- a packet was read, so the debugger's end is not closed
open-if-read : {S : Type 0} (m : Meaning S) (settings : Settings) (w : World S) → Inv m settings w → (t n : ℕ) → mirror_count w.read t ≡ Some n → is_closed w.debugger ≡ false
open-if-read m settings w i t n h =
    elim (is_closed w.debugger) as (λ b. is_closed w.debugger ≡ b → b ≡ false) [
      | true ↦ λ x. let y : mirror_count w.read t ≡ None = ap (λ l. mirror_count l t) (i.debugger.closed x).0 in absurd (cc)
      | false ↦ λ _. refl
    ] refl

pub knows_and_holds : {S : Type 0} (m : Meaning S) (settings : Settings) (w : World S) → Inv m settings w → KnowsAndHolds w
knows_and_holds m settings w i t =
    elim (is_closed w.debugger) as (λ b. is_closed w.debugger ≡ b → (is_some (mirror_count w.read t) ≡ is_known w.read t) × (mirror_held w.read t ≡ is_held w.read t)) [
      | true ↦ λ x. rw ((i.debugger.closed x).0) (refl, refl)
      | false ↦ λ x. ((i.debugger.session x).mirrors.known t, (i.debugger.session x).mirrors.held t)
    ] refl

pub seen-base : {S : Type 0} (read : List (Packet S)) (base past : Moment S) → IsLast read base → seen_moment read ≡ Some past → past ≡ base
seen-base [] base past l h = absurd (cc)
seen-base (p ∷ ps) base past l h = let q : Some p.1 ≡ Some past = h in let e : p.1 ≡ past = cc in sym e ∙ l

pub has_the_counts : {S : Type 0} (m : Meaning S) (settings : Settings) (w : World S) → Inv m settings w → HasTheCounts w
has_the_counts m settings w i t n k past h e c =
    let s = i.debugger.session (open-if-read m settings w i t n h) in
    s.mirrors.counts t n k h (subst (λ (x : Moment _). count_of x.state t ≡ Some k) (seen-base w.read s.base past s.at_last e) c)

requests-base : {S : Type 0} (read : List (Packet S)) (base : Moment S) → IsLast read base → mirror_requests read ≡ all_kept (all_asked base.state.requests) → mirror_requests read ≡ requests_then (seen_moment read)
requests-base [] base l h = refl
requests-base (p ∷ ps) base l h = h ∙ ap (λ (x : Moment _). all_kept (all_asked x.state.requests)) (sym l)

pub has_the_requests : {S : Type 0} (m : Meaning S) (settings : Settings) (w : World S) → Inv m settings w → HasTheRequests w
has_the_requests m settings w i =
    elim (is_closed w.debugger) as (λ b. is_closed w.debugger ≡ b → HasTheRequests w) [
      | true ↦ λ x. rw ((i.debugger.closed x).0) refl
      | false ↦ λ x. requests-base w.read (i.debugger.session x).base (i.debugger.session x).at_last (i.debugger.session x).mirrors.requests
    ] refl

-- ---- what is held

above-zero : (n : ℕ) → (n == 0) ≡ false → 0 < n
above-zero zero h = absurd (cc)
above-zero (suc n) h = omega arith

-- the replies under way, composites that wait among them or not
pub all-replies : {S : Type 0} (parked td : List (Packet S)) → replies parked ≡ [] → replies (parked ++ td) ≡ replies td
all-replies parked td h = replies_append parked td ∙ ap (λ x. x ++ replies td) h

pub held_is_covered : {S : Type 0} (m : Meaning S) (settings : Settings) (w : World S) → Inv m settings w → HeldIsCovered w
held_is_covered m settings w i t n h c u =
    let s = i.debugger.session (open-if-read m settings w i t n c) in
    let shown = s.mirrors.shown t (and-right (is_known w.read t) (is_shown w.read t) (sym (s.mirrors.held t) ∙ h)) in
    let same : n ≡ shown.0 = s.mirrors.counts t n shown.0 c shown.1 in
    let positive : 0 < shown.0 = above-zero shown.0 shown.2 in
    let here : count_or_zero s.base.state t ≡ shown.0 = ap or_zero shown.1 in
    let none : has_dispose (replies w.to_debugger) ≡ false = replied-no-dispose w.pending (replies w.to_debugger) w.deferred (commands w.to_target) s.waits u.no_dispose in
    let all : replies (w.parked ++ w.to_debugger) ≡ replies w.to_debugger = all-replies w.parked w.to_debugger s.no_reply_waits in
    let spared : no_dispose_in (w.parked ++ w.to_debugger) ≡ true = no_dispose_replies (w.parked ++ w.to_debugger) (subst (λ x. has_dispose x ≡ false) (sym all) none) in
    let q = s.quiet u.not_lost in
    let lower : count_or_zero s.base.state t ≤ count_or_zero (last s.base (w.parked ++ w.to_debugger)).state t + lowers_in (w.parked ++ w.to_debugger) t =
    links_lower m s.base (w.parked ++ w.to_debugger) t s.links spared (q.alive u.alive) in
    let now : count_or_zero w.now.state t ≡ count_or_zero (last s.base (w.parked ++ w.to_debugger)).state t = q.same_count t in
    let parts : unanswered lowers (replies w.to_debugger) t ≤ unanswered lowers w.pending t = replied-most lowers w.pending (replies w.to_debugger) w.deferred (commands w.to_target) t s.waits in
    let lowered : lowers_in (w.parked ++ w.to_debugger) t ≡ unanswered lowers (replies w.to_debugger) t = lowers_replies (w.parked ++ w.to_debugger) t ∙ ap (λ x. unanswered lowers x t) all in
    (omega arith, omega arith)

positive-some : (c : Option ℕ) → is_positive c ≡ true → (n : ℕ) × (c ≡ Some n)
positive-some None h = absurd (cc)
positive-some (Some n) h = (n, refl)

held-count : {S : Type 0} (read : List (Packet S)) (t : ℕ) → mirror_held read t ≡ true → (n : ℕ) × (mirror_count read t ≡ Some n)
held-count [] t h = absurd (cc)
held-count (p ∷ ps) t h = positive-some (learned p.0 t (mirror_count ps t)) (and-left _ _ h)

pub held_is_suspended : {S : Type 0} (m : Meaning S) (settings : Settings) (w : World S) → Inv m settings w → HeldIsSuspended w
held_is_suspended m settings w i t h u z =
    let c = held-count w.read t h in
    let x = held_is_covered m settings w i t c.0 h c.1 u in
    let a : 0 < c.0 = x.0 in
    let b : c.0 ≤ count_or_zero w.now.state t + unanswered lowers w.pending t = x.1 in
    omega arith

-- ---- from above

lost-zero : {S : Type 0} (m : Meaning S) (settings : Settings) (w : World S) → Inv m settings w → w.lost ≡ true → (t : ℕ) → count_or_zero w.now.state t ≡ 0
lost-zero m settings w i l t =
    let c : is_closed w.target ≡ true = elim (is_closed w.target) as (λ b. is_closed w.target ≡ b → b ≡ true) [ true ↦ λ _. refl | false ↦ λ x. let y : w.lost ≡ false = i.target.unlost x in absurd (cc) ] refl in
    (i.target.idle (closed-not-open w.target c)).1 t

at-most-by : {S : Type 0} (m : Meaning S) (settings : Settings) (w : World S) → Inv m settings w → (lost : Bool) → w.lost ≡ lost → (t n : ℕ) → (s : Session m w.read w.parked w.to_debugger w.to_target w.deferred w.pending w.lost w.now) → count_or_zero s.base.state t ≡ n → count_or_zero w.now.state t ≤ n + unanswered raises w.pending t + (composites_in w.parked + composites_in w.to_debugger)
at-most-by m settings w i true e t n s here = let z = lost-zero m settings w i e t in omega arith
at-most-by m settings w i false e t n s here =
    let all : replies (w.parked ++ w.to_debugger) ≡ replies w.to_debugger = all-replies w.parked w.to_debugger s.no_reply_waits in
    let upper : count_or_zero (last s.base (w.parked ++ w.to_debugger)).state t ≤ count_or_zero s.base.state t + raises_in (w.parked ++ w.to_debugger) t = links_upper m s.base (w.parked ++ w.to_debugger) t s.links in
    let now : count_or_zero w.now.state t ≡ count_or_zero (last s.base (w.parked ++ w.to_debugger)).state t = (s.quiet e).same_count t in
    let parts : unanswered raises (replies w.to_debugger) t ≤ unanswered raises w.pending t = replied-most raises w.pending (replies w.to_debugger) w.deferred (commands w.to_target) t s.waits in
    let raised : raises_in (w.parked ++ w.to_debugger) t ≡ unanswered raises (replies w.to_debugger) t + (composites_in w.parked + composites_in w.to_debugger) =
    raises_replies (w.parked ++ w.to_debugger) t ∙ (ap (λ x. unanswered raises x t + composites_in (w.parked ++ w.to_debugger)) all ∙ ap (λ x. unanswered raises (replies w.to_debugger) t + x) (composites_append w.parked w.to_debugger)) in
    omega arith

pub count_is_at_most : {S : Type 0} (m : Meaning S) (settings : Settings) (w : World S) → Inv m settings w → CountIsAtMost w
count_is_at_most m settings w i t n k past h e c =
    let s = i.debugger.session (open-if-read m settings w i t n h) in
    let q : count_of s.base.state t ≡ Some k = subst (λ (x : Moment _). count_of x.state t ≡ Some k) (seen-base w.read s.base past s.at_last e) c in
    let same : n ≡ k = s.mirrors.counts t n k h q in
    at-most-by m settings w i w.lost refl t n s (ap or_zero q ∙ sym same)
