-- the target defers or does not, and it answers a command that is deferred
use Rattle.std.proofs.Common.{◌≡◌, ℕ, ◌+◌, inl, inr, zero, suc, Bool, true, false, ◌&&◌, not, cond, Option, Some, None, is_some, List, [], ◌∷◌, Ok, Err, refl, sym, ◌∙◌, ap, subst}
use Rattle.std.specs.List.{AllByRecursion}
use Rattle.std.specs.Prelude.{nat_lt}
use Rattle.jdwp_wire.specs.Streams as streams
use Rattle.jdwp_wire.specs.Streams.{AreSendable}
use Rattle.jdwp_wire.specs.Widths.{Widths}
use Rattle.jdwp_end.specs.declared.phase.Phase.{Phase}
use Rattle.jdwp_end.specs.declared.phase.Phase.TheVariants.{Closed, AwaitingHandshake, Established}
use Rattle.jdwp_end.specs.Ends.{is_established, is_established_phase, is_paused}
use Rattle.jdwp_machine.specs.Meanings.{Meaning}
use Rattle.jdwp_action.specs.Actions.{Command}
use Rattle.jdwp_debuggee.specs.Deferring.{beside, released_at}
use Rattle.jdwp_debuggee.specs.Settings.{Settings}
use Rattle.jdwp_mirror.specs.Messages.{Ticket, Asks}
use Rattle.jdwp_target.specs.Deeds.{FullStanding, releases_by}
use Rattle.jdwp_target.specs.Standings.{Handles, Reaction, react}
use Rattle.jdwp_target.specs.Targets.{Target, full_standing, standing, with_deferring}
use Rattle.jdwp_target.specs.Targets as targets
use Rattle.jdwp_target.specs.Turns.{EncodesFor, EncodesReleased, ReleasesAt, SendsReleased, at_place, deferred_at}
use Rattle.jdwp_target.specs.Visits.{visits_handled, visits_released}
use Rattle.jdwp_target.specs.declared.target.TargetFault.{TargetFault}
use Rattle.jdwp_target.specs.declared.target.TargetFault.TheVariants as faults
use Rattle.jdwp_target.specs.declared.target.Turn.{Turn}
use Rattle.jdwp_target.specs.declared.target.Turn.TheVariants as turns
use Rattle.jdwp_model.specs.Events
use Rattle.jdwp_model.specs.Next.{carries_out, release_front, releases, releases_at}
use Rattle.jdwp_model.specs.World as world
use Rattle.jdwp_model.specs.World.{is_closed, World}
use Rattle.jdwp_model.specs.Measures.{measured}
use Rattle.jdwp_link.specs.Clauses.{MayStop}
use Rattle.jdwp_link.specs.Laws.{FindsMessages, Laws}
use Rattle.jdwp_link.specs.Links.{Link}
use Rattle.jdwp_link.specs.Stands.{Parts}
use Rattle.jdwp_link.specs.Told.{turn_did}
use Rattle.jdwp_link.specs.Wires.{Waiting, IsAmong, IsCall, AreDeferred, asked, call_sent, deferred_sent, without_ids}
use Rattle.jdwp_link.proofs.Acting.{Acted, acts-parts}
use Rattle.jdwp_link.proofs.Attaching.{and-left, parts-did}
use Rattle.jdwp_link.proofs.Cuts.{cut-same}
use Rattle.jdwp_link.proofs.Reached.{Known}
use Rattle.jdwp_link.proofs.Stepping.{flows-target}
use Rattle.jdwp_link.proofs.Turning.{command-acted, reacts}
use Rattle.jdwp_link.proofs.Wired.{among-back, among-either, among-front}

-- ---- whether it defers

pub defers-parts : {S : Type 0} (m : Meaning S) (settings : Settings) (w : Widths) (l : Link S) (x : World S) (deferring did : Bool) → Parts m settings w l x
    → Parts m settings w (record l { target = with_deferring deferring l.target; did = did }) (record x { deferring = deferring })
defers-parts m settings w l x deferring did s = record {
  target = record { same_settings = s.target.same_settings; limits = s.target.limits; sizes = s.target.sizes; now = s.target.now; phase = s.target.phase; lost = s.target.lost; deferring = refl };
  debugger = record {
    order = s.debugger.order;
    limits = s.debugger.limits;
    phase = s.debugger.phase;
    tickets = s.debugger.tickets;
    mirror = s.debugger.mirror;
    opened = λ o. let d = s.debugger.opened o in record { sizes = d.sizes; parked = d.parked; pending = d.pending; ticketed = d.ticketed };
    none_waits = s.debugger.none_waits;
  };
  to = record {
    wires = s.to.wires;
    calls = s.to.calls;
    sent = s.to.sent;
    cut = record { number = s.to.cut.number; there = s.to.cut.there; left = s.to.cut.left };
    kept = s.to.kept;
  };
  deferred = record { wires = s.deferred.wires; commands = s.deferred.commands; messages = s.deferred.messages; sent = s.deferred.sent };
  from = record {
    wires = s.from.wires;
    packets = s.from.packets;
    sent = s.from.sent;
    cut = record { number = s.from.cut.number; there = s.from.cut.there; left = s.from.cut.left };
    kept = s.from.kept;
    awaits = s.from.awaits;
  };
}

-- ---- the command at a place

-- as it was sent, and as it was meant
abbrev sent_of : Widths → Option (Waiting × List Waiting) → Option (streams.Message × List streams.Message)
sent_of w None = None
sent_of w (Some (p, ps)) = Some (call_sent w p.0 (Asks p.1.0 p.1.1), deferred_sent w ps)

abbrev meant_by : Option (Waiting × List Waiting) → Option ((Ticket × Command) × List (Ticket × Command))
meant_by None = None
meant_by (Some (p, ps)) = Some (p.1, without_ids ps)

beside-sent : (w : Widths) (p : Waiting) (o : Option (Waiting × List Waiting)) → beside (call_sent w p.0 (Asks p.1.0 p.1.1)) (sent_of w o) ≡ sent_of w (beside p o)
beside-sent w p None = refl
beside-sent w p (Some (q, qs)) = refl

released-sent : (w : Widths) (place : ℕ) (wires : List Waiting) → released_at place (deferred_sent w wires) ≡ sent_of w (released_at place wires)
released-sent w zero [] = refl
released-sent w (suc n) [] = refl
released-sent w zero (p ∷ ps) = refl
released-sent w (suc n) (p ∷ ps) = ap (beside (call_sent w p.0 (Asks p.1.0 p.1.1))) (released-sent w n ps) ∙ beside-sent w p (released_at n ps)

beside-meant : (p : Waiting) (o : Option (Waiting × List Waiting)) → beside p.1 (meant_by o) ≡ meant_by (beside p o)
beside-meant p None = refl
beside-meant p (Some (q, qs)) = refl

released-meant : (place : ℕ) (wires : List Waiting) → released_at place (without_ids wires) ≡ meant_by (released_at place wires)
released-meant zero [] = refl
released-meant (suc n) [] = refl
released-meant zero (p ∷ ps) = refl
released-meant (suc n) (p ∷ ps) = ap (beside p.1) (released-meant n ps) ∙ beside-meant p (released_at n ps)

-- ---- the others

beside-is : (y : Waiting) (o : Option (Waiting × List Waiting)) (x : Waiting) (others : List Waiting) → beside y o ≡ Some (x, others) → (rest : List Waiting) × (o ≡ Some (x, rest)) × (others ≡ y ∷ rest)
beside-is y None x others e = absurd (cc)
beside-is y (Some (z, zs)) x others e =
    let both : (z, y ∷ zs) ≡ (x, others) = cc in
    (zs, ap (λ (q : Waiting × List Waiting). Some (q.0, zs)) both, sym (ap (λ (q : Waiting × List Waiting). q.1) both))

-- what holds of all holds of it and of the others
all-released : (P : Waiting → Type 0) (place : ℕ) (xs : List Waiting) (x : Waiting) (others : List Waiting) → released_at place xs ≡ Some (x, others) → AllByRecursion P xs → P x × AllByRecursion P others
all-released P zero [] x others e h = absurd (cc)
all-released P (suc n) [] x others e h = absurd (cc)
all-released P zero (y ∷ ys) x others e h =
    let both : (y, ys) ≡ (x, others) = cc in
    (subst P (ap (λ (q : Waiting × List Waiting). q.0) both) h.0, subst (AllByRecursion P) (ap (λ (q : Waiting × List Waiting). q.1) both) h.1)
all-released P (suc n) (y ∷ ys) x others e h =
    let (rest, found, same) = beside-is y (released_at n ys) x others e in
    let (here, more) = all-released P n ys x rest found h.1 in
    (here, subst (AllByRecursion P) (sym same) (h.0, more))

-- it and the others are among all
among-released : (p : Waiting) (place : ℕ) (xs : List Waiting) (x : Waiting) (others : List Waiting) → released_at place xs ≡ Some (x, others) → IsAmong p (x ∷ others) → IsAmong p xs
among-released p zero [] x others e h = absurd (cc)
among-released p (suc n) [] x others e h = absurd (cc)
among-released p zero (y ∷ ys) x others e h =
    let both : (y, ys) ≡ (x, others) = cc in
    subst (λ (q : Waiting × List Waiting). IsAmong p (q.0 ∷ q.1)) (sym both) h
among-released p (suc n) (y ∷ ys) x others e (inl is) =
    let (rest, found, same) = beside-is y (released_at n ys) x others e in
    inr (among-released p n ys x rest found (inl is))
among-released p (suc n) (y ∷ ys) x others e (inr h) =
    let (rest, found, same) = beside-is y (released_at n ys) x others e in
    elim (subst (IsAmong p) same h) [ inl is ↦ inl is | inr a ↦ inr (among-released p n ys x rest found (inr a)) ]

-- ---- whether there is one

established-is : (phase : Phase) → is_established_phase phase ≡ true → phase ≡ Established
established-is Established e = refl
established-is AwaitingHandshake e = absurd (cc)
established-is Closed e = absurd (cc)

and-same : (a b c : Bool) → (a ≡ true → b ≡ c) → (a && b) ≡ (a && c)
and-same true b c e = e refl
and-same false b c e = refl

-- both say whether the target may answer now
same-may : {S : Type 0} (m : Meaning S) (settings : Settings) (w : Widths) (l : Link S) (x : World S) → FindsMessages → Known m settings x → Parts m settings w l x
    → (is_established l.target.end && not (is_paused l.target.end)) ≡ (is_established_phase x.target && nat_lt (world.way_to_debugger (measured w settings.limits) x) settings.limits.packet)
same-may m settings w l x finds k s =
    ap (λ p. is_established_phase p && not (is_paused l.target.end)) s.target.phase
    ∙ and-same (is_established_phase x.target) _ _ (λ e. sym (flows-target m settings w l x finds s (k.unlost (ap is_closed (established-is x.target e)))))

found-target : {S : Type 0} (m : Meaning S) (settings : Settings) (w : Widths) (l : Link S) (x : World S) (place : ℕ) (b : Bool) (f : Option (Waiting × List Waiting)) → FindsMessages → Known m settings x → (s : Parts m settings w l x)
    → (is_established_phase x.target && nat_lt (world.way_to_debugger (measured w settings.limits) x) settings.limits.packet) ≡ b → released_at place l.target.deferred ≡ sent_of w f
    → deferred_at place l.target ≡ at_place l.target (sent_of w f) b
found-target m settings w l x place b f finds k s may found =
    ap (λ o. at_place l.target o (is_established l.target.end && not (is_paused l.target.end))) found ∙ ap (at_place l.target (sent_of w f)) (same-may m settings w l x finds k s ∙ may)

found-world : {S : Type 0} (m : Meaning S) (settings : Settings) (w : Widths) (l : Link S) (x : World S) (place : ℕ) (b : Bool) (f : Option (Waiting × List Waiting)) → (s : Parts m settings w l x)
    → (is_established_phase x.target && nat_lt (world.way_to_debugger (measured w settings.limits) x) settings.limits.packet) ≡ b → released_at place s.deferred.wires ≡ f
    → release_front settings (measured w settings.limits) x place ≡ cond b (meant_by f) None
found-world m settings w l x place b f s may found =
    ap (λ c. cond c (released_at place x.deferred) None) may ∙ ap (λ o. cond b o None) (ap (released_at place) (sym s.deferred.commands) ∙ (released-meant place s.deferred.wires ∙ ap meant_by found))

-- ---- it is answered

-- a target that answers the command that is found
abbrev released : {S : Type 0} → Meaning S → Target S → Option (streams.Message × List streams.Message) → Target S
released m v found =
    targets.visiting (visits_released m v.settings v.moment found v.visits)
    (targets.with_performance (releases_by m v.settings (full_standing v) found) v.end (record v { releases = v.releases + 1 }))

released-parts : {S : Type 0} (m : Meaning S) (settings : Settings) (w : Widths) (l : Link S) (x : World S) (id : ℕ) (k : Ticket) (c : Command) (others : List Waiting) → Laws m → Known m settings x → (s : Parts m settings w l x) → x.target ≡ Established
    → ((p : Waiting) → IsAmong p ((id, (k, c)) ∷ others) → IsAmong p s.deferred.wires) → IsCall w (Asks k c) → AreDeferred w others
    → EncodesFor m l.target (call_sent w id (Asks k c))
    → AreSendable l.target.end.limits.packet (react m l.target.settings (standing l.target) (Handles (call_sent w id (Asks k c)))).sends
    → Parts m settings w (record l { target = released m l.target (Some (call_sent w id (Asks k c), deferred_sent w others)); did = true })
    (carries_out m settings (record x { deferred = without_ids others }) k c)
released-parts {S} m settings w l x id k c others laws known s phase all can sent encoded sends =
    let message = call_sent w id (Asks k c) in
    let now : FullStanding S = record (full_standing l.target) { deferred = deferred_sent w others } in
    let r : Reaction S = react m l.target.settings (standing l.target) (Handles message) in
    let done : List Waiting = (id, (k, c)) ∷ [] in
    let left = record x { deferred = without_ids others } in
    let before = record x { to_target = without_ids s.to.wires; at_target = x.at_target; deferred = without_ids others } in
    let world_is : before ≡ left = ap (λ cs. record x { to_target = cs; deferred = without_ids others }) s.to.calls in
    let acted = command-acted m settings w l.target left id k c laws known.facts known.sound s.target.sizes phase s.target.same_settings s.target.now can encoded in
    acts-parts m settings w l x (carries_out m settings left k c) true r now (message ∷ []) l.target.end
    (targets.visiting (visits_handled m l.target.settings l.target.moment message l.target.visits) (record l.target { releases = l.target.releases + 1 })) x.at_target s.to.wires others done
    s s.target.same_settings s.target.limits s.target.lost refl s.to.sent (subst (λ limits. AreSendable limits.packet r.sends) s.target.limits sends)
    (cut-same x.at_target _ _ _ l.target.end _ (is_closed x.target) _ refl (λ h. (ap is_closed phase, refl)) s.to.cut)
    refl sent s.target.deferring
    (λ p h. elim (among-either p ((id, (k, c)) ∷ others) (asked s.to.wires) h) [
      | inl a ↦ among-front p s.deferred.wires (asked s.to.wires) (all p a)
      | inr a ↦ among-back p s.deferred.wires (asked s.to.wires) a
    ])
    (subst (λ z. Acted m w z r done (carries_out m settings left k c)) (sym world_is) (subst (λ q. Acted m w left q done (carries_out m settings left k c)) (sym (reacts m settings w l x message s)) acted))

-- ---- all of it

-- what a release that answers leaves of a world
pub record Releases {S : Type 0} (m : Meaning S) (settings : Settings) (w : Widths) (l : Link S) (x : World S) (place : ℕ) (turn : Turn) (after : Target S) : Type 0 where
  pub parts : Parts m settings w (record l { target = after; did = turn_did turn }) (releases m settings (measured w settings.limits) x place)
  pub did : turn_did turn ≡ is_some (release_front settings (measured w settings.limits) x place)

releases-none : {S : Type 0} (m : Meaning S) (settings : Settings) (w : Widths) (l : Link S) (x : World S) (place : ℕ) (turn : Turn) (after : Target S) → Parts m settings w l x
    → deferred_at place l.target ≡ None → release_front settings (measured w settings.limits) x place ≡ None
    → ReleasesAt m place (deferred_at place l.target) l.target (Ok turn) after → Releases m settings w l x place turn after
releases-none m settings w l x place turn after s none front so =
    let (told, same) = subst (λ o. ReleasesAt m place o l.target (Ok turn) after) none so in
    let nothing : turn ≡ turns.Nothing = cc in
    let did : turn_did turn ≡ false = ap turn_did nothing in
    record {
      parts = subst (λ t. Parts m settings w (record l { target = t; did = turn_did turn }) (releases m settings (measured w settings.limits) x place)) (sym same)
          (subst (λ b. Parts m settings w (record l { did = b }) (releases m settings (measured w settings.limits) x place)) (sym did)
          (subst (λ f. Parts m settings w (record l { did = false }) (releases_at m settings x f)) (sym front) (parts-did m settings w l x false s)));
      did = did ∙ ap is_some (sym front);
    }

releases-by : {S : Type 0} (m : Meaning S) (settings : Settings) (w : Widths) (l : Link S) (x : World S) (place : ℕ) (turn : Turn) (after : Target S) (b : Bool) (f : Option (Waiting × List Waiting)) → Laws m → Known m settings x → (s : Parts m settings w l x)
    → (is_established_phase x.target && nat_lt (world.way_to_debugger (measured w settings.limits) x) settings.limits.packet) ≡ b → released_at place s.deferred.wires ≡ f → released_at place l.target.deferred ≡ sent_of w f
    → ReleasesAt m place (deferred_at place l.target) l.target (Ok turn) after → EncodesReleased m (deferred_at place l.target) l.target → SendsReleased m place (deferred_at place l.target) l.target
    → Releases m settings w l x place turn after
releases-by m settings w l x place turn after false f laws k s may found there so encoded sends =
    releases-none m settings w l x place turn after s (found-target m settings w l x place false f laws.finds k s may there) (found-world m settings w l x place false f s may found) so
releases-by m settings w l x place turn after true None laws k s may found there so encoded sends =
    releases-none m settings w l x place turn after s (found-target m settings w l x place true None laws.finds k s may there) (found-world m settings w l x place true None s may found) so
releases-by m settings w l x place turn after true (Some ((id, (k, c)), others)) laws known s may found there so encoded sends =
    let measure = measured w settings.limits in
    let message = call_sent w id (Asks k c) in
    let at = found-target m settings w l x place true (Some ((id, (k, c)), others)) laws.finds known s may there in
    let front = found-world m settings w l x place true (Some ((id, (k, c)), others)) s may found in
    let (told, same) = subst (λ o. ReleasesAt m place o l.target (Ok turn) after) at so in
    let did : turn_did turn ≡ true = ap turn_did told in
    let phase = established-is x.target (and-left (is_established_phase x.target) _ may) in
    let (can, sent) = all-released _ place s.deferred.wires (id, (k, c)) others found s.deferred.sent in
    let puts : AreSendable l.target.end.limits.packet (react m l.target.settings (standing l.target) (Handles message)).sends =
    subst (λ o. AreSendable l.target.end.limits.packet (releases_by m l.target.settings (full_standing l.target) o).sends) there (subst (λ o. SendsReleased m place o l.target) at sends) in
    let parts = released-parts m settings w l x id k c others laws known s phase (λ p h. among-released p place s.deferred.wires (id, (k, c)) others found h) can sent (subst (λ o. EncodesReleased m o l.target) at encoded) puts in
    record {
      parts = subst (λ t. Parts m settings w (record l { target = t; did = turn_did turn }) (releases m settings measure x place)) (sym (same ∙ ap (released m l.target) there))
          (subst (λ b. Parts m settings w (record l { target = released m l.target (Some (message, deferred_sent w others)); did = b }) (releases m settings measure x place)) (sym did)
          (subst (λ g. Parts m settings w (record l { target = released m l.target (Some (message, deferred_sent w others)); did = true }) (releases_at m settings x g)) (sym front) parts));
      did = did ∙ ap is_some (sym front);
    }

pub releases-so : {S : Type 0} (m : Meaning S) (settings : Settings) (w : Widths) (l : Link S) (x : World S) (place : ℕ) (turn : Turn) (after : Target S) → Laws m → Known m settings x → Parts m settings w l x
    → ReleasesAt m place (deferred_at place l.target) l.target (Ok turn) after → EncodesReleased m (deferred_at place l.target) l.target → SendsReleased m place (deferred_at place l.target) l.target
    → Releases m settings w l x place turn after
releases-so m settings w l x place turn after laws k s so encoded sends =
    releases-by m settings w l x place turn after _ (released_at place s.deferred.wires) laws k s refl refl (ap (released_at place) (sym s.deferred.messages) ∙ released-sent w place s.deferred.wires) so encoded sends

-- a release that fails wants memory
release-fails-by : {S : Type 0} (m : Meaning S) (l : Link S) (place : ℕ) (fault : TargetFault) (after : Target S) (found : Option (streams.Message × List streams.Message)) → deferred_at place l.target ≡ found
    → ReleasesAt m place found l.target (Err fault) after → (fault ≡ faults.NoMemory) × (after ≡ l.target) × MayStop m l (Events.Release place)
release-fails-by m l place fault after None e (told, same) = absurd (cc)
release-fails-by m l place fault after (Some (message, others)) e (is, needs, same) = (is, same, (message, others, e, needs))

pub release-fails : {S : Type 0} (m : Meaning S) (l : Link S) (place : ℕ) (fault : TargetFault) (after : Target S)
    → ReleasesAt m place (deferred_at place l.target) l.target (Err fault) after → (fault ≡ faults.NoMemory) × (after ≡ l.target) × MayStop m l (Events.Release place)
release-fails m l place fault after so = release-fails-by m l place fault after (deferred_at place l.target) refl so
