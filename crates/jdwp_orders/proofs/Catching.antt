-- what the link's target did from one packet to the next, done in one order
use Rattle.std.proofs.Common.{◌≡◌, ℕ, inl, inr, Bool, true, false, ◌||◌, ◌&&◌, not, cond, Some, None, List, [], ◌∷◌, ◌++◌, refl, sym, ◌∙◌, ap, subst, append_assoc}
use Rattle.std.proofs.lemmas.List.{append-nil}
use Rattle.std.specs.Option.{option_map}
use Rattle.jdwp_layout.specs.declared.answer.Answer.{Answer}
use Rattle.jdwp_layout.specs.declared.answer.Answer.TheVariants.{Data, Error}
use Rattle.jdwp_event.specs.Composites.{CompositeMeaning}
use Rattle.jdwp_event.specs.Told.{composite_thread, is_vm_death}
use Rattle.jdwp_machine.specs.Meanings.{Meaning}
use Rattle.jdwp_debuggee.specs.State.{Moment, count_of, ids}
use Rattle.jdwp_action.specs.Actions.{Command, action_of, is_dispose, is_exit, is_implemented}
use Rattle.jdwp_action.specs.AboutLaws.{about_action}
use Rattle.jdwp_mirror.specs.Messages.{Ticket, Handshake, Reply, Report}
use Rattle.jdwp_mirror.specs.Faults.{is_bad_reply}
use Rattle.jdwp_model.specs.World.{Packet}
use Rattle.jdwp_model.proofs.Acts as model_acts
use Rattle.jdwp_model.proofs.Acts.{event_raise, kills, move}
use Rattle.jdwp_model.proofs.Session.{Sent, Links, last, replies}
use Rattle.jdwp_model.proofs.Fair.{AllFair}
use Rattle.jdwp_apart.specs.Messages.{may_ask}
use Rattle.jdwp_apart.specs.Watch.{Watch}
use Rattle.jdwp_apart.specs.World as apart
use Rattle.jdwp_apart.specs.World.{may_answer, lives_one}
use Rattle.jdwp_orders.specs.Acts
use Rattle.jdwp_orders.specs.Watched.{Since, IsPast, composite_after, hears_all, all_may_ask}
use Rattle.jdwp_orders.proofs.Acting.{Leads, leads_here, leads_on}
use Rattle.jdwp_orders.proofs.People.{Person, Matches, same_person, all_settle, turns, turns_quiet, all_between}
use Rattle.jdwp_orders.proofs.Moving.{reply_person, event_person, survives, answer_may, thread_lives}
use Rattle.jdwp_orders.proofs.Following.{Core, core_lives, to_replied, core_replied, to_reported, stop_may, core_reported, core_greeted, reads_all}

-- such a target is as the link's was at a moment
abbrev pub Full : {S : Type 0} → Meaning S → Since → Moment S → List Command → List (Packet S) → Watch → apart.World → Type 0
Full m since now ws ps watch v = Core since ws ps watch v × Matches (λ t. count_of now.state t) (m.ever now.machine) v

-- the commands among what waits
abbrev pub asked_of : List (Ticket × Command) → List Command
asked_of [] = []
asked_of (p ∷ ps) = p.1 ∷ asked_of ps

-- the machine's end is among these packets
abbrev pub has_death : {S : Type 0} → List (Packet S) → Bool
has_death [] = false
has_death ((Handshake, a) ∷ ps) = has_death ps
has_death ((Reply k c x, a) ∷ ps) = has_death ps
has_death ((Report c, a) ∷ ps) = is_vm_death c || has_death ps

-- ---- which commands may be asked

pub neither : (a b : Bool) → (a || b) ≡ false → (a ≡ false) × (b ≡ false)
neither true b h = absurd (cc)
neither false b h = (refl, h)

pub both : (a b : Bool) → (a && b) ≡ true → (a ≡ true) × (b ≡ true)
both true b h = (refl, h)
both false b h = absurd (cc)

not-false : (b : Bool) → not b ≡ true → b ≡ false
not-false true h = absurd (cc)
not-false false h = refl

ends-neither : (c : Command) → may_ask c ≡ true → (is_dispose (action_of c) || is_exit (action_of c)) ≡ false
ends-neither c h = not-false (is_dispose (action_of c) || is_exit (action_of c)) (both (is_implemented c) (not (is_dispose (action_of c) || is_exit (action_of c))) h).1

pub no_end : (c : Command) → may_ask c ≡ true → (is_dispose (action_of c) ≡ false) × (is_exit (action_of c) ≡ false)
no_end c h = neither (is_dispose (action_of c)) (is_exit (action_of c)) (ends-neither c h)

pub kills_none : (k : Ticket) (c : Command) (x : Answer) → may_ask c ≡ true → kills (Reply k c x) ≡ false
kills_none k c (Data content) h = ends-neither c h
kills_none k c (Error e) h = refl

-- ---- before a packet nothing is told

abbrev Between : {S : Type 0} → Meaning S → Since → Moment S → Moment S → List Command → List (Packet S) → Watch → apart.World → Type 0
Between m since mid after ws ps watch u = Core since ws ps watch u × Matches (λ t. count_of mid.state t) (m.ever after.machine) u

quietly : {S : Type 0} (m : Meaning S) (since : Since) (base : Moment S) (p : Packet S) (ws : List Command) (ps : List (Packet S)) (watch : Watch) (v : apart.World) → (s : Sent m base p) → kills p.0 ≡ false → Full m since base ws ps watch v → Leads (Between m since s.mid p.1 ws ps watch) v
quietly m since base p ws ps watch v s h f =
    let lived : (t n : ℕ) → count_of s.mid.state t ≡ Some n → m.ever p.1.machine t ≡ true = λ t n e.
    let k = survives p.0 t n h in
    s.acts.lives t k.0 (s.acts.counts t ∙ (ap (move p.0 t) e ∙ k.1)) in
    let ts = ids base.state.threads ++ ids s.mid.state.threads in (
      all_settle (λ t. count_of s.mid.state t) ts,
      turns (Core since ws ps watch) (core_lives since ws ps watch) (λ t. count_of base.state t) (λ t. count_of s.mid.state t) (m.ever base.machine) (m.ever p.1.machine) ts v
          (turns_quiet m base s.mid (m.ever p.1.machine) s.quiet s.acts.ever lived) (all_between base s.mid) f.0 f.1,
    )

-- ---- the packet

answer-may : {S : Type 0} (m : Meaning S) (k : Ticket) (c : Command) (x : Answer) (mid after : Moment S) (ever : ℕ → Bool) (v : apart.World) → model_acts.Acts m (Reply k c x) mid after → is_bad_reply c x ≡ false → Matches (λ t. count_of mid.state t) ever v → may_answer (action_of c) x v.lives v.counts ≡ true
answer-may m k c (Data content) mid after ever v acts good match =
    answer_may c content v.lives v.counts (λ t. count_of mid.state t) (λ t. count_of after.state t) (record {
      of = about_action c;
      good = good;
      shown = acts.shown;
      told = λ t n h. elim (acts.learns t n None h) [ inl l ↦ l | inr l ↦ absurd (cc (l.1)) ];
      moves = acts.counts;
      alive = λ t. (match t).lives;
      same = λ t. (match t).counts;
    })
answer-may m k c (Error e) mid after ever v acts good match = refl

catch-reply : {S : Type 0} (m : Meaning S) (since : Since) (k : Ticket) (c : Command) (x : Answer) (mid after : Moment S) (ws : List Command) (ps : List (Packet S)) (watch : Watch) (v : apart.World) → model_acts.Acts m (Reply k c x) mid after → is_bad_reply c x ≡ false → may_ask c ≡ true → Between m since mid after (c ∷ ws) ps watch v → Leads (Full m since after ws (ps ++ (Reply k c x, after) ∷ []) watch) v
catch-reply m since k c x mid after ws ps watch v acts good may b =
    let e = no_end c may in (
      Acts.Replies x ∷ [],
      to_replied (Full m since after ws (ps ++ (Reply k c x, after) ∷ []) watch) v c ws x b.0.waiting b.0.no_replies (answer-may m k c x mid after (m.ever after.machine) v acts good b.1) (
        core_replied since ws ps watch v k c x after b.0,
        λ u. reply_person (action_of c) x u (v.lives u) (v.counts u) (count_of mid.state u) (count_of after.state u) (m.ever after.machine u) e.0 e.1 (acts.counts u) (b.1 u),
      ),
    )

catch-composite : {S : Type 0} (m : Meaning S) (since : Since) (c : CompositeMeaning) (mid after : Moment S) (ws : List Command) (ps : List (Packet S)) (watch : Watch) (v : apart.World) → IsPast since → model_acts.Acts m (Report c) mid after → is_vm_death c ≡ false → Between m since mid after ws ps watch v → Leads (Full m since after ws (ps ++ (Report c, after) ∷ []) watch) v
catch-composite m since c mid after ws ps watch v past acts lasts b =
    let s = composite_after since v.done c in
    let lives : lives_one (composite_thread c) v.lives ≡ true = thread_lives (composite_thread c) v.lives (λ t. count_of mid.state t) acts.shown (λ t. (b.1 t).lives) in (
      Acts.Reports s ∷ [],
      to_reported (Full m since after ws (ps ++ (Report c, after) ∷ []) watch) v s b.0.no_composites (stop_may since v c past b.0.no_composites lives) (
        core_reported since ws ps watch v c after b.0,
        λ u. event_person s u (v.lives u) (v.counts u) (count_of mid.state u) (count_of after.state u) (m.ever after.machine u) (acts.counts u ∙ ap (λ d. cond d None (option_map (event_raise c u) (count_of mid.state u))) lasts) (b.1 u),
      ),
    )

catch-handshake : {S : Type 0} (m : Meaning S) (since : Since) (mid after : Moment S) (ws : List Command) (ps : List (Packet S)) (watch : Watch) (v : apart.World) → model_acts.Acts m Handshake mid after → Between m since mid after ws ps watch v → Full m since after ws (ps ++ (Handshake, after) ∷ []) watch v
catch-handshake m since mid after ws ps watch v acts b = (
  core_greeted since ws ps watch v after b.0,
  λ u. same_person (v.lives u) (v.counts u) (count_of mid.state u) (count_of after.state u) (m.ever after.machine u) (m.ever after.machine u) (sym (acts.counts u)) (λ h. h) (b.1 u),
)

-- ---- all packets

joined-on : {S : Type 0} (m : Meaning S) (since : Since) (base : Moment S) (ws : List Command) (qs ps : List (Packet S)) (p : Packet S) (watch : Watch) (v : apart.World) → Leads (Full m since base ws ((qs ++ p ∷ []) ++ ps) watch) v → Leads (Full m since base ws (qs ++ p ∷ ps) watch) v
joined-on m since base ws qs ps p watch v h = subst (λ l. Leads (Full m since base ws l watch) v) (append_assoc qs (p ∷ []) ps) h

pub catch_up : {S : Type 0} (m : Meaning S) (since : Since) (base : Moment S) (ps qs : List (Packet S)) (ws : List Command) (watch : Watch) (v : apart.World) → IsPast since → Links m base ps → AllFair ps → all_may_ask (replies ps) ≡ true → has_death ps ≡ false → Full m since base (asked_of (replies ps) ++ ws) qs watch v → Leads (Full m since (last base ps) ws (qs ++ ps) watch) v
catch_up m since base [] qs ws watch v past links fair may lasts f =
    leads_here (Full m since base ws (qs ++ []) watch) v (subst (λ l. Full m since base ws l watch v) (sym (append-nil qs)) f)
catch_up m since base ((Handshake, a) ∷ ps) qs ws watch v past links fair may lasts f =
    let rest = asked_of (replies ps) ++ ws in
    joined-on m since (last a ps) ws qs ps (Handshake, a) watch v
    (leads_on (Between m since links.0.mid a rest qs watch) (Full m since (last a ps) ws ((qs ++ (Handshake, a) ∷ []) ++ ps) watch) v
    (quietly m since base (Handshake, a) rest qs watch v links.0 refl f)
    (λ u b. catch_up m since a ps (qs ++ (Handshake, a) ∷ []) ws watch u past links.1 fair.1 may lasts (catch-handshake m since links.0.mid a rest qs watch u links.0.acts b)))
catch_up m since base ((Reply k c x, a) ∷ ps) qs ws watch v past links fair may lasts f =
    let rest = asked_of (replies ps) ++ ws in
    let d = both (may_ask c) (all_may_ask (replies ps)) may in
    joined-on m since (last a ps) ws qs ps (Reply k c x, a) watch v
    (leads_on (Between m since links.0.mid a (c ∷ rest) qs watch) (Full m since (last a ps) ws ((qs ++ (Reply k c x, a) ∷ []) ++ ps) watch) v
    (quietly m since base (Reply k c x, a) (c ∷ rest) qs watch v links.0 (kills_none k c x d.0) f)
    (λ u b. leads_on (Full m since a rest (qs ++ (Reply k c x, a) ∷ []) watch) (Full m since (last a ps) ws ((qs ++ (Reply k c x, a) ∷ []) ++ ps) watch) u
    (catch-reply m since k c x links.0.mid a rest qs watch u links.0.acts fair.0 d.0 b)
    (λ i g. catch_up m since a ps (qs ++ (Reply k c x, a) ∷ []) ws watch i past links.1 fair.1 d.1 lasts g)))
catch_up m since base ((Report c, a) ∷ ps) qs ws watch v past links fair may lasts f =
    let rest = asked_of (replies ps) ++ ws in
    let d = neither (is_vm_death c) (has_death ps) lasts in
    joined-on m since (last a ps) ws qs ps (Report c, a) watch v
    (leads_on (Between m since links.0.mid a rest qs watch) (Full m since (last a ps) ws ((qs ++ (Report c, a) ∷ []) ++ ps) watch) v
    (quietly m since base (Report c, a) rest qs watch v links.0 d.0 f)
    (λ u b. leads_on (Full m since a rest (qs ++ (Report c, a) ∷ []) watch) (Full m since (last a ps) ws ((qs ++ (Report c, a) ∷ []) ++ ps) watch) u
    (catch-composite m since c links.0.mid a rest qs watch u past links.0.acts d.0 b)
    (λ i g. catch_up m since a ps (qs ++ (Report c, a) ∷ []) ws watch i past links.1 fair.1 may d.1 g)))

-- ---- what is sent is read

pub reading : {S : Type 0} (m : Meaning S) (since : Since) (base : Moment S) (ps : List (Packet S)) (ws : List Command) (watch : Watch) (v : apart.World) → IsPast since → Links m base ps → AllFair ps → all_may_ask (replies ps) ≡ true → has_death ps ≡ false → Full m since base (asked_of (replies ps) ++ ws) [] watch v → Leads (Full m since (last base ps) ws [] (hears_all since watch ps)) v
reading m since base ps ws watch v past links fair may lasts f =
    leads_on (Full m since (last base ps) ws ps watch) (Full m since (last base ps) ws [] (hears_all since watch ps)) v
    (catch_up m since base ps [] ws watch v past links fair may lasts f)
    (λ u g. reads_all since ws ps [] watch u (λ lives counts. (t : ℕ) → Person (lives t) (counts t) (count_of (last base ps).state t) (m.ever (last base ps).machine t)) g.1
    (subst (λ l. Core since ws l watch u) (sym (append-nil ps)) g.0))
