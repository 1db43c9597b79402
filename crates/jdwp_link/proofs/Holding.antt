-- what a debugger may rely on, of a link
use Rattle.std.proofs.Common.{◌≡◌, ◌≤◌, ◌<◌, ℕ, ◌+◌, Bool, true, false, ◌||◌, Option, Some, None, is_some, List, [], ◌∷◌, refl, sym, ◌∙◌, ap, subst, arith}
use Rattle.jdwp_wire.specs.Widths.{Widths}
use Rattle.jdwp_machine.specs.Meanings.{Meaning}
use Rattle.jdwp_action.specs.Actions.{Command, action_of, is_dispose}
use Rattle.jdwp_debuggee.specs.Effects.{effect}
use Rattle.jdwp_debuggee.specs.Settings.{Settings}
use Rattle.jdwp_debuggee.specs.State.{count_or_zero}
use Rattle.jdwp_mirror.specs.Messages.{id_sizes}
use Rattle.jdwp_debugger.specs.Debuggers.{AreOwn, Asked, Unanswered, and_then, has_tickets, unanswered}
use Rattle.jdwp_debugger.specs.declared.pending.Ticket as code
use Rattle.jdwp_model.specs.Headline as headline
use Rattle.jdwp_model.specs.Headline.{CountIsAtMost, HasTheCounts, HasTheRequests, HeldIsCovered, HeldIsSuspended, KnowsAndHolds}
use Rattle.jdwp_model.specs.Lasting as lasting
use Rattle.jdwp_model.specs.Lasting.{writes}
use Rattle.jdwp_model.specs.Seen as seen
use Rattle.jdwp_model.specs.Seen.{composites_in, lowers, raises}
use Rattle.jdwp_model.specs.World.{is_closed, World}
use Rattle.jdwp_model.specs.Measures.{measured}
use Rattle.jdwp_link.specs.Clauses.{CountsAtMost, HoldsSuspended, IsUnbroken, MirrorsSeen, StaysTrue, has_dispose, has_write, unanswered_by}
use Rattle.jdwp_link.specs.Laws.{HoldsOfWorlds}
use Rattle.jdwp_link.specs.Links.{Link}
use Rattle.jdwp_link.specs.Stands.{Parts, Stands}
use Rattle.jdwp_link.specs.Wires.{waiting, without_ids}
use Rattle.jdwp_link.proofs.Reached.{Known, known, reached-has}

-- ---- what waits

-- what waits without a ticket is IDSizes, which counts for nothing
weighed : (by : Command → ℕ → ℕ) (o : Option code.Ticket) (c : Command) (us : List Unanswered) (t : ℕ) → by id_sizes t ≡ 0 → (o ≡ None → c ≡ id_sizes) → unanswered_by by (and_then o c us) t ≡ by c t + unanswered_by by us t
weighed by None c us t none own = let e : by c t ≡ 0 = ap (λ d. by d t) (own refl) ∙ none in omega (arith, e)
weighed by (Some k) c us t none own = refl

same-sum : (by : Command → ℕ → ℕ) (ps : List Asked) (t : ℕ) → by id_sizes t ≡ 0 → AreOwn ps → unanswered_by by (unanswered ps) t ≡ seen.unanswered by (without_ids (waiting ps)) t
same-sum by [] t none own = refl
same-sum by (p ∷ ps) t none own = weighed by p.ticket p.command (unanswered ps) t none own.0 ∙ ap (λ n. by p.command t + n) (same-sum by ps t none own.1)

disposed : (o : Option code.Ticket) (c : Command) (us : List Unanswered) → (o ≡ None → c ≡ id_sizes) → has_dispose (and_then o c us) ≡ (is_dispose (action_of c) || has_dispose us)
disposed None c us own = ap (λ b. b || has_dispose us) (sym (ap (λ d. is_dispose (action_of d)) (own refl)))
disposed (Some k) c us own = refl

same-dispose : (ps : List Asked) → AreOwn ps → has_dispose (unanswered ps) ≡ seen.has_dispose (without_ids (waiting ps))
same-dispose [] own = refl
same-dispose (p ∷ ps) own = disposed p.ticket p.command (unanswered ps) own.0 ∙ ap (λ b. is_dispose (action_of p.command) || b) (same-dispose ps own.1)

written : (o : Option code.Ticket) (c : Command) (us : List Unanswered) (t : ℕ) → (o ≡ None → c ≡ id_sizes) → has_write (and_then o c us) t ≡ (writes c t || has_write us t)
written None c us t own = ap (λ b. b || has_write us t) (sym (ap (λ d. writes d t) (own refl)))
written (Some k) c us t own = refl

same-write : (ps : List Asked) (t : ℕ) → AreOwn ps → has_write (unanswered ps) t ≡ lasting.has_write (without_ids (waiting ps)) t
same-write [] t own = refl
same-write (p ∷ ps) t own = written p.ticket p.command (unanswered ps) t own.0 ∙ ap (λ b. writes p.command t || b) (same-write ps t own.1)

-- nothing waits at a debugger where no ticket does, but IDSizes
none-first : (o : Option code.Ticket) (c : Command) (ps : List Asked) → (is_some o || has_tickets ps) ≡ false → (has_tickets ps ≡ false → unanswered ps ≡ []) → and_then o c (unanswered ps) ≡ []
none-first None c ps h more = more h
none-first (Some k) c ps h more = absurd (cc)

none-unanswered : (ps : List Asked) → has_tickets ps ≡ false → unanswered ps ≡ []
none-unanswered [] h = refl
none-unanswered (p ∷ ps) h = none-first p.ticket p.command ps h (none-unanswered ps)

-- ---- the same of a link and of its world

either : (b : Bool) (P : Type 0) → (b ≡ true → P) → (b ≡ false → P) → P
either true P f g = f refl
either false P f g = g refl

sum-same : {S : Type 0} (m : Meaning S) (settings : Settings) (w : Widths) (l : Link S) (x : World S) (by : Command → ℕ → ℕ) (t : ℕ) → Known m settings x → Parts m settings w l x → AreOwn l.debugger.pending → by id_sizes t ≡ 0
    → unanswered_by by (unanswered l.debugger.pending) t ≡ seen.unanswered by x.pending t
sum-same m settings w l x by t k s own none =
    either (is_closed x.debugger) (unanswered_by by (unanswered l.debugger.pending) t ≡ seen.unanswered by x.pending t)
    (λ c. ap (λ us. unanswered_by by us t) (none-unanswered l.debugger.pending (s.debugger.none_waits c)) ∙ ap (λ ps. seen.unanswered by ps t) (sym (k.shut c)))
    (λ o. same-sum by l.debugger.pending t none own ∙ ap (λ ps. seen.unanswered by ps t) (s.debugger.opened o).pending)

dispose-same : {S : Type 0} (m : Meaning S) (settings : Settings) (w : Widths) (l : Link S) (x : World S) → Known m settings x → Parts m settings w l x → AreOwn l.debugger.pending → has_dispose (unanswered l.debugger.pending) ≡ seen.has_dispose x.pending
dispose-same m settings w l x k s own =
    either (is_closed x.debugger) (has_dispose (unanswered l.debugger.pending) ≡ seen.has_dispose x.pending)
    (λ c. ap has_dispose (none-unanswered l.debugger.pending (s.debugger.none_waits c)) ∙ ap seen.has_dispose (sym (k.shut c)))
    (λ o. same-dispose l.debugger.pending own ∙ ap seen.has_dispose (s.debugger.opened o).pending)

write-same : {S : Type 0} (m : Meaning S) (settings : Settings) (w : Widths) (l : Link S) (x : World S) (t : ℕ) → Known m settings x → Parts m settings w l x → AreOwn l.debugger.pending → has_write (unanswered l.debugger.pending) t ≡ lasting.has_write x.pending t
write-same m settings w l x t k s own =
    either (is_closed x.debugger) (has_write (unanswered l.debugger.pending) t ≡ lasting.has_write x.pending t)
    (λ c. ap (λ us. has_write us t) (none-unanswered l.debugger.pending (s.debugger.none_waits c)) ∙ ap (λ ps. lasting.has_write ps t) (sym (k.shut c)))
    (λ o. same-write l.debugger.pending t own ∙ ap (λ ps. lasting.has_write ps t) (s.debugger.opened o).pending)

unbroken : {S : Type 0} (m : Meaning S) (settings : Settings) (w : Widths) (l : Link S) (x : World S) → Known m settings x → Parts m settings w l x → AreOwn l.debugger.pending → IsUnbroken l → headline.IsUnbroken x
unbroken m settings w l x k s own u = record {
  alive = ap (λ a. a.state.alive) (sym s.target.now) ∙ u.alive;
  not_lost = sym s.target.lost ∙ u.not_lost;
  no_dispose = sym (dispose-same m settings w l x k s own) ∙ u.no_dispose;
}

-- ---- the clauses

pub holds-suspended : {S : Type 0} (m : Meaning S) → HoldsOfWorlds m → (settings : Settings) (w : Widths) (l : Link S) (x : World S) → AreOwn l.debugger.pending → Stands m settings w l x → HoldsSuspended l
holds-suspended m worlds settings w l x own s =
    let k = known m worlds settings w x s.reached in
    record {
      suspended = λ t h u z.
          let q : seen.unanswered lowers x.pending t ≡ 0 = sym (sum-same m settings w l x lowers t k s.parts own refl) ∙ z in
          subst (λ a. 0 < count_or_zero a.state t) (sym s.parts.target.now)
          (reached-has m settings w x HeldIsSuspended s.reached worlds.suspended t (sym (s.parts.debugger.mirror.held t) ∙ h) (unbroken m settings w l x k s.parts own u) q);
      covered = λ t n h e u.
          let q = sum-same m settings w l x lowers t k s.parts own refl in
          let r = reached-has m settings w x HeldIsCovered s.reached worlds.covered t n (sym (s.parts.debugger.mirror.held t) ∙ h) (sym (s.parts.debugger.mirror.counts t) ∙ e) (unbroken m settings w l x k s.parts own u) in
          (r.0, subst (λ a. n ≤ count_or_zero a.state t + unanswered_by lowers (unanswered l.debugger.pending) t) (sym s.parts.target.now) (subst (λ j. n ≤ count_or_zero x.now.state t + j) (sym q) r.1));
    }

pub counts-at-most : {S : Type 0} (m : Meaning S) → HoldsOfWorlds m → (settings : Settings) (w : Widths) (l : Link S) (x : World S) → AreOwn l.debugger.pending → Stands m settings w l x → CountsAtMost l x
counts-at-most m worlds settings w l x own s t n k past h e c =
    let q = sum-same m settings w l x raises t (known m worlds settings w x s.reached) s.parts own refl in
    let r = reached-has m settings w x CountIsAtMost s.reached worlds.at_most t n k past (sym (s.parts.debugger.mirror.counts t) ∙ h) e c in
    subst (λ a. count_or_zero a.state t ≤ n + unanswered_by raises (unanswered l.debugger.pending) t + (composites_in x.parked + composites_in x.to_debugger)) (sym s.parts.target.now)
    (subst (λ j. count_or_zero x.now.state t ≤ n + j + (composites_in x.parked + composites_in x.to_debugger)) (sym q) r)

pub mirrors-seen : {S : Type 0} (m : Meaning S) → HoldsOfWorlds m → (settings : Settings) (w : Widths) (l : Link S) (x : World S) → Stands m settings w l x → MirrorsSeen l x
mirrors-seen m worlds settings w l x s =
    let knows = reached-has m settings w x KnowsAndHolds s.reached worlds.known_and_held in
    let counts = reached-has m settings w x HasTheCounts s.reached worlds.counts in
    let requests = reached-has m settings w x HasTheRequests s.reached worlds.requests in
    let mirror = s.parts.debugger.mirror in
    record {
      known = λ t. ap is_some (mirror.counts t) ∙ (knows t).0;
      held = λ t. mirror.held t ∙ (knows t).1;
      counts = λ t n k past h e c. counts t n k past (sym (mirror.counts t) ∙ h) e c;
      by_rule = mirror.counts;
      requests = mirror.requests ∙ requests;
    }

pub stays-true : {S : Type 0} (m : Meaning S) → HoldsOfWorlds m → (settings : Settings) (w : Widths) (l : Link S) (x : World S) → AreOwn l.debugger.pending → Stands m settings w l x → StaysTrue m l x
stays-true m worlds settings w l x own s t c content past asks lasts u none saw few =
    let k = known m worlds settings w x s.reached in
    let q = sum-same m settings w l x lowers t k s.parts own refl in
    let write : lasting.has_write x.pending t ≡ false = sym (write-same m settings w l x t k s.parts own) ∙ none in
    let r = subst (λ y. lasting.StaysTrue m settings y) s.reached.is (worlds.stays settings (measured w settings.limits) s.reached.first s.reached.events s.reached.begins) t c content past asks lasts
    (unbroken m settings w l x k s.parts own u) write saw (subst (λ n. n < count_or_zero past.state t) q few) in
    ap (λ a. (effect m l.target.settings a c).answer) s.parts.target.now ∙ (ap (λ v. (effect m v x.now c).answer) s.parts.target.same_settings ∙ r)
