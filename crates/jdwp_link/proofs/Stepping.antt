-- a thread makes a step
use Rattle.std.proofs.Common.{◌≡◌, ℕ, ◌+◌, inl, inr, Bool, true, false, ◌||◌, ◌&&◌, not, cond, Option, Some, None, [], ◌∷◌, ◌++◌, length, refl, sym, ◌∙◌, ap, subst}
use Rattle.std.specs.Prelude.{nat_lt, nat_le}
use Rattle.std.proofs.lemmas.Bool.{cases_lt, lt-ltb, le-ltb, lt-leb, le-leb}
use Rattle.std.proofs.lemmas.List.{append-nil, append_assoc}
use Rattle.jdwp_wire.specs.Streams.{AreSendable}
use Rattle.jdwp_wire.specs.Widths.{Widths}
use Rattle.jdwp_end.specs.declared.phase.Phase.{Phase}
use Rattle.jdwp_end.specs.declared.phase.Phase.TheVariants.{Closed, AwaitingHandshake, Established}
use Rattle.jdwp_end.specs.Ends.{is_established_phase, is_paused}
use Rattle.jdwp_event.specs.CompositeBytes.{EncodesComposite, composite_canonical}
use Rattle.jdwp_event.specs.Composites.{CompositeMeaning, composite_data, vm_death}
use Rattle.jdwp_layout.specs.Writes.{data_canonical}
use Rattle.jdwp_machine.specs.Meanings.{Meaning}
use Rattle.jdwp_debuggee.specs.Settings.{Settings}
use Rattle.jdwp_debuggee.specs.State.{Moment}
use Rattle.jdwp_debuggee.specs.Steps.{may_step, occurs}
use Rattle.jdwp_debuggee.specs.Visits.{visits_stepped}
use Rattle.jdwp_mirror.specs.Messages.{Report}
use Rattle.jdwp_target.specs.Sends.{EncodesSent}
use Rattle.jdwp_target.specs.Standings.{Steps, after_death, react, reports_step, stands, steps_by}
use Rattle.jdwp_target.specs.Targets.{full_standing, standing, visiting, with_step}
use Rattle.jdwp_target.specs.Turns.{EncodesWhere, SendsWhere, is_frozen}
use Rattle.jdwp_model.specs.Next.{steps, steps_now, step_ends, stepped, with_report}
use Rattle.jdwp_model.specs.World as world
use Rattle.jdwp_model.specs.World.{is_closed, World}
use Rattle.jdwp_model.specs.Measures.{measured}
use Rattle.jdwp_link.specs.Insides.{TargetKeeps}
use Rattle.jdwp_link.specs.Laws.{FindsMessages, PutsMessages}
use Rattle.jdwp_link.specs.Links.{Link, idle}
use Rattle.jdwp_link.specs.Stands.{Parts}
use Rattle.jdwp_link.specs.Wires.{without_ids}
use Rattle.jdwp_link.proofs.Acting.{Acted, acts-parts}
use Rattle.jdwp_link.proofs.Attaching.{and-left, parts-did}
use Rattle.jdwp_link.proofs.Cuts.{cut-same}
use Rattle.jdwp_link.proofs.Delivering.{way-debugger}
use Rattle.jdwp_link.proofs.Reached.{Known}

-- ---- a pause

-- less is under way than a packet may have, unless the end is paused
pub not-paused : (a b : ℕ) → nat_lt a b ≡ not (nat_le b a)
not-paused a b = elim (cases_lt a b) [
  | inl lt ↦ rw (lt-ltb a b lt, lt-leb b a lt) refl
  | inr le ↦ rw (le-ltb a b le, le-leb b a le) refl
]

pub flows-target : {S : Type 0} (m : Meaning S) (settings : Settings) (w : Widths) (l : Link S) (x : World S) → FindsMessages → Parts m settings w l x → x.lost ≡ false
    → nat_lt (world.way_to_debugger (measured w settings.limits) x) settings.limits.packet ≡ not (is_paused l.target.end)
flows-target m settings w l x finds s unlost =
    let way : length l.target.end.outgoing ≡ world.way_to_debugger (measured w settings.limits) x =
    ap (λ b. length (b ++ l.target.end.outgoing)) (sym (s.from.kept unlost)) ∙ way-debugger m settings w l x finds s in
    ap (λ n. nat_lt n settings.limits.packet) (sym way) ∙ (not-paused (length l.target.end.outgoing) settings.limits.packet ∙ ap (λ n. not (nat_le n.packet (length l.target.end.outgoing))) (sym s.target.limits))

-- ---- whether it is made

frozen-by : (lost paused may way : Bool) → (lost ≡ false → way ≡ not paused) → (lost ≡ true → paused ≡ false) → (may && (lost || way)) ≡ not (paused || not may)
frozen-by true paused may way free emptied =
    let e : paused ≡ false = emptied refl in
    rw e (elim may as (λ b. (b && true) ≡ not (not b)) [ true ↦ refl | false ↦ refl ])
frozen-by false paused may way free emptied =
    let e : way ≡ not paused = free refl in
    rw e (elim may as (λ b. (b && not paused) ≡ not (paused || not b)) [ true ↦ elim paused as (λ p. not p ≡ not (p || false)) [ true ↦ refl | false ↦ refl ] | false ↦ elim paused as (λ p. false ≡ not (p || true)) [ true ↦ refl | false ↦ refl ] ])

pub same-frozen : {S : Type 0} (m : Meaning S) (settings : Settings) (w : Widths) (l : Link S) (x : World S) (t : ℕ) → FindsMessages → Parts m settings w l x → TargetKeeps l.target.end
    → steps_now m settings (measured w settings.limits) x t ≡ not (is_frozen m t l.target)
same-frozen m settings w l x t finds s keeps =
    let may : may_step m l.target.settings l.target.moment t ≡ may_step m settings x.now t = ap (λ u. may_step m u l.target.moment t) s.target.same_settings ∙ ap (λ a. may_step m settings a t) s.target.now in
    frozen-by x.lost (is_paused l.target.end) (may_step m settings x.now t) _ (flows-target m settings w l x finds s) (λ h. keeps.flows (keeps.emptied (s.target.lost ∙ h)))
    ∙ ap (λ b. not (is_paused l.target.end || not b)) (sym may)

-- ---- what it does

means : {S : Type 0} (m : Meaning S) (w : Widths) (c : CompositeMeaning) → PutsMessages m → EncodesComposite w c (composite_canonical w c) → EncodesComposite w c (data_canonical w (composite_data c))
means m w c puts h = subst (EncodesComposite w c) (puts.composites w c) h

step-acted : {S : Type 0} (m : Meaning S) (w : Widths) (x : World S) (phase : Phase) (after : Moment S) (sends : Option CompositeMeaning) (ends dies : Bool) → PutsMessages m → x.target ≡ phase
    → (is_established_phase phase ≡ false → sends ≡ None) → m.sizes after.machine ≡ w → EncodesSent w phase sends → (is_established_phase phase ≡ false → x.deferred ≡ [])
    → Acted m w x (reports_step w x.now.state.next_packet (record { after = after; sends = sends; ends = ends; dies = dies }) (stands x.now phase)) [] (step_ends (with_report x after sends) phase dies)
step-acted m w x Established after None ends true puts e silent sizes encoded none = record {
  more = (after.state.next_packet, (Report vm_death, after_death after)) ∷ [];
  sends = refl;
  mean = (means m w vm_death puts (puts.death w), tt);
  replies = refl;
  sizes = sizes;
  same = refl;
}
step-acted m w x Established after (Some c) ends true puts e silent sizes encoded none = record {
  more = (x.now.state.next_packet, (Report c, after)) ∷ (after.state.next_packet, (Report vm_death, after_death after)) ∷ [];
  sends = refl;
  mean = (means m w c puts encoded, (means m w vm_death puts (puts.death w), tt));
  replies = refl;
  sizes = sizes;
  same = ap (λ ps. record x { now = after_death after; target = Closed; to_debugger = ps; deferred = [] }) (sym (append_assoc x.to_debugger ((Report c, after) ∷ []) ((Report vm_death, after_death after) ∷ [])));
}
step-acted m w x Established after None ends false puts e silent sizes encoded none = record {
  more = [];
  sends = refl;
  mean = tt;
  replies = refl;
  sizes = sizes;
  same = ap (λ ps. record x { now = after; target = Established; to_debugger = ps }) (append-nil x.to_debugger) ∙ ap (λ p. record x { now = after; target = p }) (sym e);
}
step-acted m w x Established after (Some c) ends false puts e silent sizes encoded none = record {
  more = (x.now.state.next_packet, (Report c, after)) ∷ [];
  sends = refl;
  mean = (means m w c puts encoded, tt);
  replies = refl;
  sizes = sizes;
  same = ap (λ p. record x { now = after; target = p; to_debugger = x.to_debugger ++ (Report c, after) ∷ [] }) (sym e);
}
step-acted m w x AwaitingHandshake after None ends true puts e silent sizes encoded none = record {
  more = [];
  sends = refl;
  mean = tt;
  replies = refl;
  sizes = sizes;
  same = ap (λ ps. record x { now = after; target = Closed; to_debugger = ps; deferred = [] }) (append-nil x.to_debugger);
}
step-acted m w x AwaitingHandshake after None ends false puts e silent sizes encoded none = record {
  more = [];
  sends = refl;
  mean = tt;
  replies = refl;
  sizes = sizes;
  same = ap (λ ps. record x { now = after; target = AwaitingHandshake; to_debugger = ps; deferred = [] }) (append-nil x.to_debugger)
      ∙ (ap (λ ds. record x { now = after; target = AwaitingHandshake; deferred = ds }) (sym (none refl)) ∙ ap (λ p. record x { now = after; target = p }) (sym e));
}
step-acted m w x AwaitingHandshake after (Some c) ends dies puts e silent sizes encoded none = let h : Some c ≡ None = silent refl in absurd (cc)
step-acted m w x Closed after None ends true puts e silent sizes encoded none = record {
  more = [];
  sends = refl;
  mean = tt;
  replies = refl;
  sizes = sizes;
  same = ap (λ ps. record x { now = after; target = Closed; to_debugger = ps; deferred = [] }) (append-nil x.to_debugger);
}
step-acted m w x Closed after None ends false puts e silent sizes encoded none = record {
  more = [];
  sends = refl;
  mean = tt;
  replies = refl;
  sizes = sizes;
  same = ap (λ ps. record x { now = after; target = Closed; to_debugger = ps; deferred = [] }) (append-nil x.to_debugger)
      ∙ (ap (λ ds. record x { now = after; target = Closed; deferred = ds }) (sym (none refl)) ∙ ap (λ p. record x { now = after; target = p }) (sym e));
}
step-acted m w x Closed after (Some c) ends dies puts e silent sizes encoded none = let h : Some c ≡ None = silent refl in absurd (cc)

-- ---- all of it

-- a step opens no session
step-open : {S : Type 0} (w : Widths) (id : ℕ) (now after : Moment S) (sends : Option CompositeMeaning) (ends dies : Bool) (phase : Phase)
    → is_closed (reports_step w id (record { after = after; sends = sends; ends = ends; dies = dies }) (stands now phase)).after.phase ≡ false → is_closed phase ≡ false
step-open w id now after sends ends dies Established h = refl
step-open w id now after sends ends dies AwaitingHandshake h = refl
step-open w id now after sends ends true Closed h = h
step-open w id now after sends ends false Closed h = h

same-step : {S : Type 0} (m : Meaning S) (settings : Settings) (w : Widths) (l : Link S) (x : World S) (t : ℕ) → Parts m settings w l x → may_step m settings x.now t ≡ true
    → react m l.target.settings (standing l.target) (Steps t) ≡ reports_step w x.now.state.next_packet (occurs m x.now t) (stands x.now x.target)
same-step m settings w l x t s may =
    let stand : standing l.target ≡ stands x.now x.target = ap (λ a. stands a l.target.end.phase) s.target.now ∙ ap (stands x.now) s.target.phase in
    ap (λ u. react m u (standing l.target) (Steps t)) s.target.same_settings
    ∙ (ap (λ n. react m settings n (Steps t)) stand
    ∙ (ap (λ b. steps_by m (stands x.now x.target) t b) may ∙ ap (λ v. reports_step v x.now.state.next_packet (occurs m x.now t) (stands x.now x.target)) s.target.sizes))

pub step-parts : {S : Type 0} (m : Meaning S) (settings : Settings) (w : Widths) (l : Link S) (x : World S) (t : ℕ) → FindsMessages → PutsMessages m → Known m settings x → (s : Parts m settings w l x)
    → TargetKeeps l.target.end
    → is_frozen m t l.target ≡ false → EncodesWhere m t l.target false → SendsWhere m t l.target false
    → Parts m settings w (record l { target = with_step m t l.target; did = true }) (steps m settings (measured w settings.limits) x t)
step-parts m settings w l x t finds puts k s keeps free encoded sends =
    let now : steps_now m settings (measured w settings.limits) x t ≡ true = same-frozen m settings w l x t finds s keeps ∙ ap not free in
    let may : may_step m settings x.now t ≡ true = and-left (may_step m settings x.now t) _ now in
    let happens = k.facts.happens x.now t k.sound may in
    let silent : is_established_phase x.target ≡ false → (occurs m x.now t).sends ≡ None = (λ h. happens.silent (k.idle h)) in
    let same = same-step m settings w l x t s may in
    let says : EncodesSent w x.target (occurs m x.now t).sends =
    subst (λ v. EncodesSent v x.target (occurs m x.now t).sends) (ap (λ a. m.sizes a.machine) s.target.now ∙ s.target.sizes)
    (subst (λ p. EncodesSent (m.sizes l.target.moment.machine) p (occurs m x.now t).sends) s.target.phase (subst (λ a. EncodesSent (m.sizes l.target.moment.machine) l.target.end.phase (occurs m a t).sends) s.target.now encoded)) in
    let o = occurs m x.now t in
    let acted = step-acted m w x x.target o.after o.sends o.ends o.dies puts refl silent (happens.sizes ∙ s.target.sizes) says k.few.none in
    let before = record x { to_target = without_ids s.to.wires; at_target = x.at_target; deferred = without_ids s.deferred.wires } in
    let world_is : before ≡ x = ap (λ c. record x { to_target = c; deferred = without_ids s.deferred.wires }) s.to.calls ∙ ap (λ ds. record x { deferred = ds }) s.deferred.commands in
    let acts : Acted m w before (react m l.target.settings (standing l.target) (Steps t)) [] (stepped x o) =
    subst (λ r. Acted m w before r [] (stepped x o)) (sym same) (subst (λ z. Acted m w z (reports_step w x.now.state.next_packet o (stands x.now x.target)) [] (stepped x o)) (sym world_is) acted) in
    let opens : is_closed (react m l.target.settings (standing l.target) (Steps t)).after.phase ≡ false → is_closed x.target ≡ false =
    (λ h. step-open w x.now.state.next_packet x.now o.after o.sends o.ends o.dies x.target (ap (λ r. is_closed r.after.phase) (sym same) ∙ h)) in
    let parts = acts-parts m settings w l x (stepped x o) true (react m l.target.settings (standing l.target) (Steps t)) (full_standing l.target) [] l.target.end (visiting (visits_stepped m l.target.moment t l.target.visits) (record l.target { steps = l.target.steps + 1 })) x.at_target s.to.wires s.deferred.wires []
    s s.target.same_settings s.target.limits s.target.lost refl s.to.sent (subst (λ limits. AreSendable limits.packet (react m l.target.settings (standing l.target) (Steps t)).sends) s.target.limits sends)
    (cut-same x.at_target _ _ _ l.target.end _ (is_closed x.target) _ refl (λ h. (opens h, refl)) s.to.cut) s.deferred.messages s.deferred.sent s.target.deferring (λ p h. h) acts in
    subst (λ b. Parts m settings w (record l { target = with_step m t l.target; did = true }) (cond b (stepped x o) x)) (sym now) parts

-- a step that is not made
pub frozen-parts : {S : Type 0} (m : Meaning S) (settings : Settings) (w : Widths) (l : Link S) (x : World S) (t : ℕ) → FindsMessages → Parts m settings w l x
    → TargetKeeps l.target.end
    → is_frozen m t l.target ≡ true → Parts m settings w (idle l) (steps m settings (measured w settings.limits) x t)
frozen-parts m settings w l x t finds s keeps frozen =
    let now : steps_now m settings (measured w settings.limits) x t ≡ false = same-frozen m settings w l x t finds s keeps ∙ ap not frozen in
    subst (λ b. Parts m settings w (idle l) (cond b (stepped x (occurs m x.now t)) x)) (sym now) (parts-did m settings w l x false s)
