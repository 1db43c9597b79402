-- the model of both ends acts in one order, and what is sure in it
use Rattle.std.proofs.Common.{◌≡◌, ℕ, ◌≤◌, Bool, true, false, ◌||◌, ◌&&◌, Some, List, [], ◌∷◌, ◌++◌, refl, sym, ◌∙◌, ap, subst, arith, is_some}
use Rattle.jdwp_end.specs.Ends.{is_established_phase}
use Rattle.jdwp_event.specs.Told.{is_vm_death}
use Rattle.jdwp_machine.specs.Meanings.{Meaning}
use Rattle.jdwp_debuggee.specs.Settings.{Settings}
use Rattle.jdwp_debuggee.specs.State.{Moment, count_of, or_zero, ids}
use Rattle.jdwp_action.specs.Actions.{Command}
use Rattle.jdwp_mirror.specs.Messages.{Ticket, Call, Greets, Asks, Handshake, Reply, Report}
use Rattle.jdwp_model.specs.World.{Packet, World, opening}
use Rattle.jdwp_model.specs.Next.{run}
use Rattle.jdwp_model.specs.Rests.{Rests}
use Rattle.jdwp_model.proofs.Session.{Links, last, alive_along, replies, commands}
use Rattle.jdwp_model.proofs.Theorems.{opening_inv, seen-base, all-replies, has_the_counts}
use Rattle.jdwp_model.proofs.Keeps.{open-not-closed}
use Rattle.jdwp_model.proofs.Ordered.{opening_ordered}
use Rattle.jdwp_model.proofs.Fair.{AllFair}
use Rattle.jdwp_apart.specs.Messages.{may_ask}
use Rattle.jdwp_apart.specs.Watch.{Watch, sure}
use Rattle.jdwp_apart.specs.World.{Life, Unborn, Alive, Ended, is_alive}
use Rattle.jdwp_apart.specs.Headline as apart_headline
use Rattle.jdwp_orders.specs.Acts.{in_one_order}
use Rattle.jdwp_orders.specs.Watched.{Since, IsPast, begins, watch_after, all_may_ask, all_might_ask}
use Rattle.jdwp_orders.specs.Headline.{Always, asked_in, StandsAs, ActsInOneOrder, SureIsSuspended, SureIsCovered, SureIsMirrored}
use Rattle.jdwp_orders.proofs.Acting.{acted, Leads, leads_on}
use Rattle.jdwp_orders.proofs.People.{all_settle, turns, turns_quiet, all_between}
use Rattle.jdwp_orders.proofs.Following.{Core, core_lives}
use Rattle.jdwp_orders.proofs.Catching.{Full, asked_of, has_death, both, catch_up}
use Rattle.jdwp_orders.proofs.Joined.{opened, asked_append}
use Rattle.jdwp_orders.proofs.Turning.{All, all_run}

-- ---- what is under way

asked-commands : (calls : List Call) → asked_of (commands calls) ≡ asked_in calls
asked-commands [] = refl
asked-commands (Greets ∷ calls) = asked-commands calls
asked-commands (Asks k c ∷ calls) = ap (λ l. c ∷ l) (asked-commands calls)

-- while the machine lives its end is not among the packets
living : {S : Type 0} (m : Meaning S) (base : Moment S) (ps : List (Packet S)) → Links m base ps → all_may_ask (replies ps) ≡ true → (last base ps).state.alive ≡ true → has_death ps ≡ false
living m base [] l may h = refl
living m base ((Handshake, a) ∷ ps) l may h = living m a ps l.1 may h
living m base ((Reply k c x, a) ∷ ps) l may h = living m a ps l.1 (both (may_ask c) (all_may_ask (replies ps)) may).1 h
living m base ((Report c, a) ∷ ps) l may h =
    let e : is_vm_death c ≡ false = l.0.acts.spares (alive_along m a ps l.1 h) refl in
    ap (λ b. b || has_death ps) e ∙ living m a ps l.1 may h

-- ---- such a target stands as the link's does

stands : {S : Type 0} (m : Meaning S) → Rests m → (settings : Settings) (b : Bool) (since : Since) (w : World S) (watch : Watch) → IsPast since → All m settings b since w watch → ActsInOneOrder b since w watch
stands m rests settings b since w watch past h g within =
    let s = h.inv.debugger.session (open-not-closed w.debugger g) in
    let ps = w.parked ++ w.to_debugger in
    let l = h.joined.late g in
    let same : l.0 ≡ s.base = seen-base w.read s.base l.0 s.at_last l.1 in
    let all : replies ps ≡ replies w.to_debugger = all-replies w.parked w.to_debugger s.no_reply_waits in
    let parts : w.pending ≡ replies ps ++ commands w.to_target = h.order.in_order (open-not-closed w.debugger g) ∙ ap (λ x. x ++ commands w.to_target) (sym all) in
    let waiting : asked_of w.pending ≡ asked_of (replies ps) ++ asked_in w.to_target = ap asked_of parts ∙ (asked_append (replies ps) (commands w.to_target) ∙ ap (λ x. asked_of (replies ps) ++ x) (asked-commands w.to_target)) in
    let may : all_may_ask (replies ps) ≡ true = front (replies ps) (commands w.to_target) (sym (ap all_may_ask parts) ∙ (both (all_may_ask w.pending) (all_might_ask w.read) within.asked).0) in
    let q = s.quiet within.not_lost in
    let lasts : has_death ps ≡ false = living m s.base ps s.links may (q.alive within.alive) in
    let ts = ids (last s.base ps).state.threads ++ ids w.now.state.threads in
    let lived : (t n : ℕ) → count_of w.now.state t ≡ Some n → m.ever w.now.machine t ≡ true = λ t n e.
    rests.lawful.live_ever w.now.machine h.inv.target.sound.state t (h.inv.target.sound.lives t ∙ ap is_some e) in
    leads_on (Full m since s.base (asked_of (replies ps) ++ asked_in w.to_target) [] watch) (StandsAs since w watch) (opened b)
    (subst (λ ws. Leads (Full m since s.base ws [] watch) (opened b)) waiting (subst (λ x. Leads (Full m since x (asked_of w.pending) [] watch) (opened b)) same (l.2 within.asked)))
    (λ u f. leads_on (Full m since (last s.base ps) (asked_in w.to_target) ps watch) (StandsAs since w watch) u
    (catch_up m since s.base ps [] (asked_in w.to_target) watch u past s.links (fair-both w.parked w.to_debugger h.fair.parked h.fair.sent) may lasts f)
    (λ v i.
    let r = turns (Core since (asked_in w.to_target) ps watch) (core_lives since (asked_in w.to_target) ps watch) (λ t. count_of (last s.base ps).state t) (λ t. count_of w.now.state t) (m.ever (last s.base ps).machine) (m.ever w.now.machine) ts v
    (turns_quiet m (last s.base ps) w.now (m.ever w.now.machine) q (λ t x. x) lived) (all_between (last s.base ps) w.now) i.0 i.1 in (
      all_settle (λ t. count_of w.now.state t) ts,
      record {
        lives = λ t. (r.1 t).lives;
        counts = λ t. (r.1 t).counts;
        waiting = r.0.waiting;
        stream = r.0.stream;
        replies = r.0.no_replies;
        composites = r.0.no_composites;
        invocations = r.0.invocations;
        watch = r.0.watch;
      },
    )))
  where
    front : (xs ys : List (Ticket × Command)) → all_may_ask (xs ++ ys) ≡ true → all_may_ask xs ≡ true
    front [] ys e = refl
    front (x ∷ xs) ys e = let d = both (may_ask x.1) (all_may_ask (xs ++ ys)) e in ap (λ c. c && all_may_ask xs) d.0 ∙ front xs ys d.1

    fair-both : {T : Type 0} (xs ys : List (Packet T)) → AllFair xs → AllFair ys → AllFair (xs ++ ys)
    fair-both [] ys f e = e
    fair-both (x ∷ xs) ys f e = (f.0, fair-both xs ys f.1 e)

-- ---- what is sure

lives-now : (l : Life) → is_alive l ≡ true → l ≡ Alive
lives-now Unborn h = absurd (cc)
lives-now Alive h = refl
lives-now Ended h = absurd (cc)

-- nobody is sure of anything before the handshake is read
nothing-sure : (b : Bool) (watch : Watch) (t : ℕ) → watch ≡ begins b → sure watch t ≡ 0
nothing-sure b watch t h = ap (λ w. sure w t) h

by-phase : (b : Bool) (P : Type 0) → (b ≡ true → P) → (b ≡ false → P) → P
by-phase true P f g = f refl
by-phase false P f g = g refl

covered : {S : Type 0} (m : Meaning S) → Rests m → apart_headline.Always apart_headline.SureIsCovered → (settings : Settings) (b : Bool) (since : Since) (w : World S) (watch : Watch) → IsPast since → All m settings b since w watch → SureIsCovered b since w watch
covered m rests law settings b since w watch past h t n within lives =
    by-phase (is_established_phase w.debugger) (sure watch t ≤ n) (λ g.
    let x = stands m rests settings b since w watch past h g within in
    let v = acted (opened b) x.0 in
    let alive : v.lives t ≡ Alive = lives-now (v.lives t) (x.1.lives t ∙ ap is_some lives) in
    let c : sure v.watch t ≤ v.counts t = law b (λ _. false) (in_one_order x.0) t alive in
    let e : sure v.watch t ≡ sure watch t = ap (λ u. sure u t) x.1.watch in
    let d : v.counts t ≡ n = x.1.counts t ∙ ap or_zero lives in
    omega arith) (λ g. let z = nothing-sure b watch t (h.joined.early g) in omega arith)

mirrored : {S : Type 0} (m : Meaning S) → apart_headline.Always apart_headline.SureIsCovered → (settings : Settings) (b : Bool) (since : Since) (w : World S) (watch : Watch) → All m settings b since w watch → SureIsMirrored b since w watch
mirrored m law settings b since w watch h t n k past asked known seen lived =
    by-phase (is_established_phase w.debugger) (sure watch t ≤ n) (λ g.
    let l = h.joined.late g in
    let s : Some l.0 ≡ Some past = sym l.1 ∙ seen in
    let same : l.0 ≡ past = cc in
    let x = l.2 asked in
    let v = acted (opened b) x.0 in
    let here : count_of l.0.state t ≡ Some k = ap (λ (y : Moment _). count_of y.state t) same ∙ lived in
    let alive : v.lives t ≡ Alive = lives-now (v.lives t) ((x.1.1 t).lives ∙ ap is_some here) in
    let c : sure v.watch t ≤ v.counts t = law b (λ _. false) (in_one_order x.0) t alive in
    let e : sure v.watch t ≡ sure watch t = ap (λ u. sure u t) x.1.0.watch in
    let d : v.counts t ≡ k = (x.1.1 t).counts ∙ ap or_zero here in
    let q : n ≡ k = has_the_counts m settings w h.inv t n k past known seen lived in
    omega arith) (λ g. let z = nothing-sure b watch t (h.joined.early g) in omega arith)

-- ---- always

always : {S : Type 0} (m : Meaning S) → Rests m → (P : Bool → Since → World S → Watch → Type 0) → ((settings : Settings) (b : Bool) (since : Since) (w : World S) (watch : Watch) → IsPast since → All m settings b since w watch → P b since w watch) → Always m P
always m rests P f settings measure s events b since begin none past =
    f settings b since (run m settings measure (opening m s) events) (watch_after m b since settings measure (opening m s) (begins b) events) past
    (all_run m rests settings begin.limit_least begin.limit_most measure b since (opening m s) (begins b) events past none (record {
      inv = opening_inv m settings s begin;
      fair = record { policies = tt; parked = tt; sent = tt };
      order = opening_ordered m s;
      idle = tt;
      joined = record { early = λ _. refl; late = λ x. absurd (cc) };
    }))

pub always_in_one_order : {S : Type 0} (m : Meaning S) → Rests m → Always m ActsInOneOrder
always_in_one_order m rests = always m rests ActsInOneOrder (stands m rests)

pub always_covered : {S : Type 0} (m : Meaning S) → Rests m → apart_headline.Always apart_headline.SureIsCovered → Always m SureIsCovered
always_covered m rests law = always m rests SureIsCovered (covered m rests law)

pub always_suspended : {S : Type 0} (m : Meaning S) → Rests m → apart_headline.Always apart_headline.SureIsCovered → Always m SureIsSuspended
always_suspended m rests law =
    always m rests SureIsSuspended (λ settings b since w watch past h t n within lives positive. let c = covered m rests law settings b since w watch past h t n within lives in omega arith)

pub always_mirrored : {S : Type 0} (m : Meaning S) → Rests m → apart_headline.Always apart_headline.SureIsCovered → Always m SureIsMirrored
always_mirrored m rests law = always m rests SureIsMirrored (λ settings b since w watch past. mirrored m law settings b since w watch)
