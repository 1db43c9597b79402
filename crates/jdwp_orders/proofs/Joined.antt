-- what a debugger's watch has of the link, after each event
use Rattle.std.proofs.Common.{◌≡◌, ℕ, Bool, true, false, ◌||◌, ◌&&◌, Option, Some, None, List, [], ◌∷◌, ◌++◌, refl, sym, ◌∙◌, ap, subst, append_assoc, is_some}
use Rattle.jdwp_layout.specs.declared.answer.Answer.{Answer}
use Rattle.jdwp_end.specs.declared.phase.Phase.{Phase}
use Rattle.jdwp_end.specs.declared.phase.Phase.TheVariants.{Established}
use Rattle.jdwp_end.specs.Ends.{is_established_phase}
use Rattle.jdwp_event.specs.Composites.{CompositeMeaning}
use Rattle.jdwp_event.specs.Told.{is_vm_death}
use Rattle.jdwp_machine.specs.Meanings.{Meaning}
use Rattle.jdwp_debuggee.specs.Settings.{Settings}
use Rattle.jdwp_debuggee.specs.State.{Moment, count_of, count_or_zero, or_zero, ids}
use Rattle.jdwp_debuggee.specs.ThreadLaws.{has-count}
use Rattle.jdwp_action.specs.Actions.{Command}
use Rattle.jdwp_mirror.specs.Messages.{Ticket, Handshake, Reply, Report, id_sizes}
use Rattle.jdwp_mirror.specs.Mirror.{ends}
use Rattle.jdwp_model.specs.World.{is_closed, Packet, World}
use Rattle.jdwp_model.specs.Next.{without_ticket, entered, has_end}
use Rattle.jdwp_model.specs.Seen.{seen_moment}
use Rattle.jdwp_model.proofs.Session.{Links, last, last_more, links_front, replies, commands, replies_append}
use Rattle.jdwp_model.proofs.Theorems.{seen-base}
use Rattle.jdwp_model.proofs.Keeps.{Inv, open-not-closed}
use Rattle.jdwp_model.proofs.Ordered.{Ordered, without-first}
use Rattle.jdwp_model.proofs.Fair.{AllFair, fair_more}
use Rattle.jdwp_model.proofs.Fairness.{Fairness}
use Rattle.jdwp_apart.specs.Messages.{may_ask}
use Rattle.jdwp_apart.specs.Watch.{Watch, asks}
use Rattle.jdwp_apart.specs.World as apart
use Rattle.jdwp_orders.specs.Acts
use Rattle.jdwp_orders.specs.Watched.{Since, IsPast, hears, hears_all, begins, all_may_ask, all_might_ask}
use Rattle.jdwp_orders.proofs.Acting.{Leads, leads_on}
use Rattle.jdwp_orders.proofs.People.{Matches, all_settle, turns}
use Rattle.jdwp_orders.proofs.Following.{Core, core_lives, core_asked, to_asked}
use Rattle.jdwp_orders.proofs.Catching.{Full, asked_of, has_death, neither, both, reading}

-- such a target before the session
abbrev pub opened : Bool → apart.World
opened one_by_one = apart.opening one_by_one (λ _. false)

-- Before the target's handshake is read the watch has nothing; and then it is that of such a target, which stands as the link's did when it
-- sent the last packet read, and for which all that was not answered waits.
pub record Joined {S : Type 0} (m : Meaning S) (b : Bool) (since : Since) (phase : Phase) (read : List (Packet S)) (pending : List (Ticket × Command)) (watch : Watch) : Type 0 where
  pub early : is_established_phase phase ≡ false → watch ≡ begins b
  pub late : is_established_phase phase ≡ true → (past : Moment S) × (seen_moment read ≡ Some past) × ((all_may_ask pending && all_might_ask read) ≡ true → Leads (Full m since past (asked_of pending) [] watch) (opened b))

-- the same of a link, while the debugger's end is open
abbrev pub On : {S : Type 0} → Meaning S → Bool → Since → World S → Watch → Type 0
On m b since w watch = is_closed w.debugger ≡ false → Joined m b since w.debugger w.read w.pending watch

-- ---- commands that wait

pub asked_more : (ps : List (Ticket × Command)) (p : Ticket × Command) → asked_of (ps ++ p ∷ []) ≡ asked_of ps ++ p.1 ∷ []
asked_more [] p = refl
asked_more (q ∷ ps) p = ap (λ l. q.1 ∷ l) (asked_more ps p)

pub asked_append : (ps qs : List (Ticket × Command)) → asked_of (ps ++ qs) ≡ asked_of ps ++ asked_of qs
asked_append [] qs = refl
asked_append (p ∷ ps) qs = ap (λ l. p.1 ∷ l) (asked_append ps qs)

may-more : (ps : List (Ticket × Command)) (p : Ticket × Command) → all_may_ask (ps ++ p ∷ []) ≡ true → (all_may_ask ps ≡ true) × (may_ask p.1 ≡ true)
may-more [] p h = (refl, (both (may_ask p.1) true h).0)
may-more (q ∷ ps) p h =
    let x = both (may_ask q.1) (all_may_ask (ps ++ p ∷ [])) h in
    let y = may-more ps p x.1 in
    (ap (λ b. b && all_may_ask ps) x.0 ∙ y.0, y.1)

might-before : {S : Type 0} (ps read : List (Packet S)) → all_might_ask (entered ps read) ≡ true → all_might_ask read ≡ true
might-before [] read h = h
might-before ((Handshake, a) ∷ ps) read h = might-before ps ((Handshake, a) ∷ read) h
might-before ((Reply k c x, a) ∷ ps) read h = (both (may_ask c) (all_might_ask read) (might-before ps ((Reply k c x, a) ∷ read) h)).1
might-before ((Report c, a) ∷ ps) read h = might-before ps ((Report c, a) ∷ read) h

and-true : (a b : Bool) → a ≡ true → b ≡ true → (a && b) ≡ true
and-true a b h k = ap (λ x. x && b) h ∙ k

-- ---- asking

asks-one : {S : Type 0} (m : Meaning S) (b : Bool) (since : Since) (past : Moment S) (pending : List (Ticket × Command)) (k : Ticket) (c : Command) (watch : Watch) → may_ask c ≡ true → Leads (Full m since past (asked_of pending) [] watch) (opened b) → Leads (Full m since past (asked_of (pending ++ (k, c) ∷ [])) [] (asks watch c)) (opened b)
asks-one {S} m b since past pending k c watch may h =
    leads_on (Full m since past (asked_of pending) [] watch) (Full m since past (asked_of (pending ++ (k, c) ∷ [])) [] (asks watch c)) (opened b) h
    (λ u f. (
      Acts.Asks c ∷ [],
      to_asked (Full m since past (asked_of (pending ++ (k, c) ∷ [])) [] (asks watch c)) u c may
          (subst (λ l. Core {S = S} since l [] (asks watch c) (apart.asked u c)) (sym (asked_more pending (k, c))) (core_asked since (asked_of pending) [] watch u c f.0), f.1),
    ))

pub joined_asks : {S : Type 0} (m : Meaning S) (b : Bool) (since : Since) (phase : Phase) (read : List (Packet S)) (pending : List (Ticket × Command)) (k : Ticket) (c : Command) (watch : Watch) → is_established_phase phase ≡ true → Joined m b since phase read pending watch → Joined m b since phase read (pending ++ (k, c) ∷ []) (asks watch c)
joined_asks m b since phase read pending k c watch g j =
    let l = j.late g in
    record {
      early = λ x. absurd (cc);
      late = λ _. (
        l.0,
        l.1,
        λ q.
            let x = both (all_may_ask (pending ++ (k, c) ∷ [])) (all_might_ask read) q in
            let y = may-more pending (k, c) x.0 in
            asks-one m b since l.0 pending k c watch y.1 (l.2 (and-true (all_may_ask pending) (all_might_ask read) y.0 x.1)),
      );
    }

-- ---- the handshake is read

no-true : false ≡ true → ⊥
no-true h = cc

none-of : (c : Option ℕ) → false ≡ is_some c → c ≡ None
none-of None h = refl
none-of (Some n) h = absurd (cc)

-- the threads of a moment begin
begun : {S : Type 0} (m : Meaning S) (b : Bool) (since : Since) (a : Moment S) → ((t n : ℕ) → count_of a.state t ≡ Some n → m.ever a.machine t ≡ true) → ((t : ℕ) → count_or_zero a.state t ≡ 0) → Leads (Full m since a [] [] (begins b)) (opened b)
begun {S} m b since a lives idle =
    let core : Core {S = S} since [] [] (begins b) (opened b) = record { waiting = refl; stream = refl; no_replies = refl; no_composites = refl; invocations = refl; done = refl; watch = refl } in
    let nobody : Matches (λ _. None) (λ _. false) (opened b) = λ u. record { lives = refl; counts = refl; begun = λ h. absurd (cc) } in (
      all_settle (λ t. count_of a.state t) (ids a.state.threads),
      turns (Core {S = S} since [] [] (begins b)) (core_lives since [] [] (begins b)) (λ _. None) (λ t. count_of a.state t) (λ _. false) (m.ever a.machine) (ids a.state.threads) (opened b)
          (record { ever = λ t h. absurd (no-true h); no_birth = λ t n h k. absurd (no-true h); lived = lives; unsuspended = λ t n _ k. sym (ap or_zero k) ∙ idle t })
          (λ u h. (refl, none-of (count_of a.state u) (sym h ∙ has-count a.state.threads u))) core nobody,
    )

pub joined_handshake : {S : Type 0} (m : Meaning S) (b : Bool) (since : Since) (read : List (Packet S)) (pending : List (Ticket × Command)) (a : Moment S) (watch : Watch) → pending ≡ [] → watch ≡ begins b → ((t n : ℕ) → count_of a.state t ≡ Some n → m.ever a.machine t ≡ true) → ((t : ℕ) → count_or_zero a.state t ≡ 0) → Joined m b since Established ((Handshake, a) ∷ read) (pending ++ (None, id_sizes) ∷ []) (asks watch id_sizes)
joined_handshake m b since read pending a watch e h lives idle =
    record {
      early = λ x. absurd (cc);
      late = λ _. (
        a,
        refl,
        λ _. asks-one m b since a pending None id_sizes watch refl
            (subst (λ l. Leads (Full m since a (asked_of l) [] watch) (opened b)) (sym e) (subst (λ v. Leads (Full m since a [] [] v) (opened b)) (sym h) (begun m b since a lives idle))),
      );
    }

-- ---- packets are read

-- packets behind that of the moment at which such a target stands
record Reads {S : Type 0} (m : Meaning S) (base : Moment S) (ps : List (Packet S)) : Type 0 where
  links : Links m base ps
  fair : AllFair ps
  lasts : has_death ps ≡ false

joined-reads : {S : Type 0} (m : Meaning S) (b : Bool) (since : Since) (phase : Phase) (read after : List (Packet S)) (pending left : List (Ticket × Command)) (ps : List (Packet S)) (base now : Moment S) (watch : Watch) → IsPast since → is_established_phase phase ≡ true → Reads m base ps → ((past : Moment S) → seen_moment read ≡ Some past → past ≡ base) → last base ps ≡ now → seen_moment after ≡ Some now → pending ≡ replies ps ++ left → ((all_may_ask left && all_might_ask after) ≡ true → (all_may_ask (replies ps) ≡ true) × ((all_may_ask pending && all_might_ask read) ≡ true)) → Joined m b since phase read pending watch → Joined m b since phase after left (hears_all since watch ps)
joined-reads m b since phase read after pending left ps base now watch past g r same e seen parts may j =
    let l = j.late g in
    record {
      early = λ x. absurd (cc);
      late = λ _. (
        now,
        seen,
        λ q.
            let y = may q in
            let f : asked_of pending ≡ asked_of (replies ps) ++ asked_of left = ap asked_of parts ∙ asked_append (replies ps) left in
            leads_on (Full m since base (asked_of (replies ps) ++ asked_of left) [] watch) (Full m since now (asked_of left) [] (hears_all since watch ps)) (opened b)
            (subst (λ ws. Leads (Full m since base ws [] watch) (opened b)) f (subst (λ x. Leads (Full m since x (asked_of pending) [] watch) (opened b)) (same l.0 l.1) (l.2 y.1)))
            (λ u i. subst (λ x. Leads (Full m since x (asked_of left) [] (hears_all since watch ps)) u) e (reading m since base ps (asked_of left) watch u past r.links r.fair y.0 r.lasts i)),
      );
    }

death-ends : {S : Type 0} (ps : List (Packet S)) → has_end ps ≡ false → has_death ps ≡ false
death-ends [] h = refl
death-ends ((Handshake, a) ∷ ps) h = death-ends ps h
death-ends ((Reply k c x, a) ∷ ps) h = death-ends ps (neither (ends (Reply k c x)) (has_end ps) h).1
death-ends ((Report c, a) ∷ ps) h = let d = neither (is_vm_death c) (has_end ps) h in ap (λ b. b || has_death ps) d.0 ∙ death-ends ps d.1

death-append : {S : Type 0} (ps : List (Packet S)) (k : Ticket) (c : Command) (x : Answer) (a : Moment S) → has_death ps ≡ false → has_death (ps ++ (Reply k c x, a) ∷ []) ≡ false
death-append [] k c x a h = refl
death-append ((Handshake, z) ∷ ps) k c x a h = death-append ps k c x a h
death-append ((Reply i d y, z) ∷ ps) k c x a h = death-append ps k c x a h
death-append ((Report d, z) ∷ ps) k c x a h = let e = neither (is_vm_death d) (has_death ps) h in ap (λ b. b || has_death (ps ++ (Reply k c x, a) ∷ [])) e.0 ∙ death-append ps k c x a e.1

hears-last : {S : Type 0} (since : Since) (watch : Watch) (ps : List (Packet S)) (p : Packet S) → hears_all since watch (ps ++ p ∷ []) ≡ hears since (hears_all since watch ps) p.0
hears-last since watch [] p = refl
hears-last since watch (q ∷ ps) p = hears-last since (hears since watch q.0) ps p

pub joined_reply : {S : Type 0} (m : Meaning S) (settings : Settings) (b : Bool) (since : Since) (w : World S) (k : Ticket) (c : Command) (x : Answer) (a : Moment S) (rest : List (Packet S)) (watch : Watch) → IsPast since → Inv m settings w → Fairness w → Ordered w → is_established_phase w.debugger ≡ true → w.to_debugger ≡ (Reply k c x, a) ∷ rest → has_end w.parked ≡ false → Joined m b since w.debugger w.read w.pending watch → Joined m b since w.debugger ((Reply k c x, a) ∷ entered w.parked w.read) (without_ticket k w.pending) (hears since (hears_all since watch w.parked) (Reply k c x))
joined_reply {S} m settings b since w k c x a rest watch past i fair order g e d j =
    let o = open-not-closed w.debugger g in
    let s = i.debugger.session o in
    let p : Packet S = (Reply k c x, a) in
    let ps = w.parked ++ p ∷ [] in
    let left = replies rest ++ commands w.to_target in
    let pending : w.pending ≡ (k, c) ∷ left = order.in_order o ∙ ap (λ l. replies l ++ commands w.to_target) e in
    let others : without_ticket k w.pending ≡ left = ap (without_ticket k) pending ∙ without-first k c left in
    let all : w.parked ++ p ∷ rest ≡ ps ++ rest = sym (append_assoc w.parked (p ∷ []) rest) in
    let answers : replies ps ≡ (k, c) ∷ [] = replies_append w.parked (p ∷ []) ∙ ap (λ l. l ++ (k, c) ∷ []) s.no_reply_waits in
    let front : AllFair (p ∷ rest) = subst AllFair e fair.sent in
    let r : Reads m s.base ps = record {
      links = links_front m s.base ps rest (subst (Links m s.base) all (subst (λ l. Links m s.base (w.parked ++ l)) e s.links));
      fair = fair_more w.parked p fair.parked front.0;
      lasts = death-append w.parked k c x a (death-ends w.parked d);
    } in
    subst (λ l. Joined m b since w.debugger (p ∷ entered w.parked w.read) l (hears since (hears_all since watch w.parked) (Reply k c x))) (sym others)
    (subst (λ v. Joined m b since w.debugger (p ∷ entered w.parked w.read) left v) (hears-last since watch w.parked p)
    (joined-reads m b since w.debugger w.read (p ∷ entered w.parked w.read) w.pending left ps s.base a watch past g r
    (λ q h. seen-base w.read s.base q s.at_last h) (last_more s.base w.parked p) refl (pending ∙ ap (λ l. l ++ left) (sym answers))
    (λ q.
    let y = both (all_may_ask left) (may_ask c && all_might_ask (entered w.parked w.read)) q in
    let z = both (may_ask c) (all_might_ask (entered w.parked w.read)) y.1 in (
      ap all_may_ask answers ∙ and-true (may_ask c) true z.0 refl,
      and-true (all_may_ask w.pending) (all_might_ask w.read) (ap all_may_ask pending ∙ and-true (may_ask c) (all_may_ask left) z.0 y.0) (might-before w.parked w.read z.1),
    )) j))

pub joined_composite : {S : Type 0} (m : Meaning S) (settings : Settings) (b : Bool) (since : Since) (w : World S) (c : CompositeMeaning) (a : Moment S) (rest : List (Packet S)) (watch : Watch) → IsPast since → Inv m settings w → Fairness w → is_established_phase w.debugger ≡ true → w.ready ≡ true → w.to_debugger ≡ (Report c, a) ∷ rest → is_vm_death c ≡ false → Joined m b since w.debugger w.read w.pending watch → Joined m b since w.debugger ((Report c, a) ∷ w.read) w.pending (hears since watch (Report c))
joined_composite {S} m settings b since w c a rest watch past i fair g h e d j =
    let o = open-not-closed w.debugger g in
    let s = i.debugger.session o in
    let p : Packet S = (Report c, a) in
    let empty : w.parked ≡ [] = i.debugger.ready_parked h in
    let front : AllFair (p ∷ rest) = subst AllFair e fair.sent in
    let links : Links m s.base (p ∷ rest) = subst (λ l. Links m s.base (l ++ p ∷ rest)) empty (subst (λ l. Links m s.base (w.parked ++ l)) e s.links) in
    let r : Reads m s.base (p ∷ []) = record { links = (links.0, tt); fair = (front.0, tt); lasts = ap (λ x. x || false) d } in
    joined-reads m b since w.debugger w.read (p ∷ w.read) w.pending w.pending (p ∷ []) s.base a watch past g r
    (λ q k. seen-base w.read s.base q s.at_last k) refl refl refl (λ q. (refl, q)) j
