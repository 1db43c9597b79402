-- what each act of the target leaves
use Rattle.std.proofs.Common.{◌≡◌, ℕ, inl, inr, Bool, true, false, ◌||◌, ◌&&◌, not, cond, Option, Some, None, List, [], ◌∷◌, ◌++◌, length, Ok, Result, refl, sym, ◌∙◌, ap, subst}
use Rattle.std.specs.Prelude.{nat_le}
use Rattle.std.proofs.lemmas.List.{append-nil, append_assoc}
use Rattle.jdwp_wire.specs.Streams as streams
use Rattle.jdwp_wire.specs.Streams.{More, stream, IsFront}
use Rattle.jdwp_wire.specs.Widths.{Widths}
use Rattle.jdwp_wire.specs.declared.packet.PacketKind.{PacketKind}
use Rattle.jdwp_wire.specs.declared.packet.PacketKind.TheVariants as kind
use Rattle.jdwp_end.specs.Ends.{front_of, is_established, is_open, is_paused, next_of}
use Rattle.jdwp_event.specs.Composites.{CompositeMeaning}
use Rattle.jdwp_machine.specs.Meanings.{Meaning}
use Rattle.jdwp_debuggee.specs.Settings.{Settings}
use Rattle.jdwp_debuggee.specs.Steps.{may_step, occurs}
use Rattle.jdwp_debuggee.specs.Deferring.{released_at}
use Rattle.jdwp_target.specs.Deeds.{defers}
use Rattle.jdwp_target.specs.Targets as targets
use Rattle.jdwp_target.specs.Targets.{Target, full_standing, with_deferring, with_handled, with_release, with_step}
use Rattle.jdwp_target.specs.Turns as turns
use Rattle.jdwp_target.specs.Turns.{EncodesByKind, EncodesFor, EncodesNext, EncodesReleased, EncodesStart, EncodesUnless, EncodesWhere, ReleasesAt, SendsAt, SendsReleased, SendsWhere, StepsWhere, at_place, deferred_at, is_frozen, told_by_end, told_of, told_of_packet, told_where}
use Rattle.jdwp_target.specs.declared.target.Stepped.{Stepped}
use Rattle.jdwp_target.specs.declared.target.TargetFault.{TargetFault}
use Rattle.jdwp_target.specs.declared.target.Turn.{Turn}
use Rattle.jdwp_target.specs.declared.target.Turn.TheVariants as turning
use Rattle.jdwp_debugger.specs.Debuggers as debuggers
use Rattle.jdwp_debugger.specs.Debuggers.{Debugger}
use Rattle.jdwp_model.specs.Events
use Rattle.jdwp_model.specs.Measures.{call_size, measured}
use Rattle.jdwp_model.specs.Next as model
use Rattle.jdwp_model.specs.World.{World, is_closed}
use Rattle.jdwp_link.specs.Laws.{Laws}
use Rattle.jdwp_link.specs.Links.{attached, idle, may_attach}
use Rattle.jdwp_link.specs.Stands.{Parts}
use Rattle.jdwp_link.specs.Told.{step_did, turn_did}
use Rattle.jdwp_link.specs.Wires.{call_sent, calls_sent, packets_sent, without_ids}
use Rattle.jdwp_link.proofs.Attaching.{attach-parts}
use Rattle.jdwp_link.proofs.Losing.{loses-target}
use Rattle.jdwp_link.proofs.Releasing.{defers-parts, releases-so}
use Rattle.jdwp_link.proofs.Stepping.{step-parts}
use Rattle.jdwp_link.proofs.Turning.{front-closed, front-paused, target-has, turn-parts}
use Rattle.jdwp_across.specs.Programs as act
use Rattle.jdwp_across.specs.Programs.{Act, Programs, where_did}
use Rattle.jdwp_across.specs.Merges.{Agrees}
use Rattle.jdwp_across.specs.Standing.{far_from_debugger, far_from_target, joined, link_at, target_at, uncounted}
use Rattle.jdwp_across.proofs.Cutting.{all-comes, cut-again, cut-some, far-less, target-after}
use Rattle.jdwp_across.proofs.Reached.{goes-idle, goes-one, known-across, reached-same}
use Rattle.jdwp_across.proofs.Standing.{Standing, Stands, either, sized, stands-by, stands-still, target-keeps, target-sized, unpaused, way-none}
use Rattle.jdwp_across.proofs.Unmeasured.{release-uncounted, step-uncounted, turn-uncounted}

-- ---- what is told

-- of a message that is handled
packet-did : {S : Type 0} (m : Meaning S) (t : Target S) (id : ℕ) (k : PacketKind) (body : List ℕ) → turn_did (told_of_packet m t id k body) ≡ true
packet-did m t id (kind.Command set number) body = refl
packet-did m t id (kind.Reply error) body = refl

told-did : {S : Type 0} (m : Meaning S) (t : Target S) (message : streams.Message) → turn_did (told_of m t message) ≡ true
told-did m t streams.Handshake = refl
told-did m t (streams.Packet header body) = packet-did m t header.id header.kind body

told-where-did : {S : Type 0} (m : Meaning S) (t : Target S) (message : streams.Message) (b : Bool) → turn_did (told_where m t message b) ≡ true
told-where-did m t streams.Handshake b = refl
told-where-did m t (streams.Packet header body) true = refl
told-where-did m t (streams.Packet header body) false = packet-did m t header.id header.kind body

-- of a step that is made
made-did : (sends : Option CompositeMeaning) (ends : Bool) → step_did (told_by_end sends ends) ≡ true
made-did None true = refl
made-did None false = refl
made-did (Some c) true = refl
made-did (Some c) false = refl

abbrev answers : Turn → Result Turn TargetFault
answers turn = Ok turn

none-turned : (turn : Turn) → answers turn ≡ answers turning.Nothing → turn ≡ turning.Nothing
none-turned turn h = cc

-- ---- an end whose buffers are others

start-at : {S : Type 0} (m : Meaning S) (t : Target S) (i o : List ℕ) (b : Bool) → EncodesStart m t b → EncodesStart m (target_at i o t) b
start-at m t i o true h = h
start-at m t i o false h = h

kind-at : {S : Type 0} (m : Meaning S) (t : Target S) (i o : List ℕ) (k : PacketKind) (body : List ℕ) → EncodesByKind m t k body → EncodesByKind m (target_at i o t) k body
kind-at m t i o (kind.Command set number) body h = h
kind-at m t i o (kind.Reply error) body h = h

for-at : {S : Type 0} (m : Meaning S) (t : Target S) (i o : List ℕ) (message : streams.Message) → EncodesFor m t message → EncodesFor m (target_at i o t) message
for-at m t i o streams.Handshake h = start-at m t i o t.moment.state.handshaken h
for-at m t i o (streams.Packet header body) h = kind-at m t i o header.kind body h

unless-at : {S : Type 0} (m : Meaning S) (t : Target S) (i o : List ℕ) (message : streams.Message) (b : Bool) → EncodesUnless m t message b → EncodesUnless m (target_at i o t) message b
unless-at m t i o message true h = h
unless-at m t i o message false h = for-at m t i o message h

told-kind : {S : Type 0} (m : Meaning S) (t : Target S) (i o : List ℕ) (id : ℕ) (k : PacketKind) (body : List ℕ) → told_of_packet m t id k body ≡ told_of_packet m (target_at i o t) id k body
told-kind m t i o id (kind.Command set number) body = refl
told-kind m t i o id (kind.Reply error) body = refl

told-at : {S : Type 0} (m : Meaning S) (t : Target S) (i o : List ℕ) (message : streams.Message) → told_of m t message ≡ told_of m (target_at i o t) message
told-at m t i o streams.Handshake = refl
told-at m t i o (streams.Packet header body) = told-kind m t i o header.id header.kind body

place-at : {S : Type 0} (t : Target S) (i o : List ℕ) (f : Option (streams.Message × List streams.Message)) (b : Bool) → at_place t f b ≡ at_place (target_at i o t) f b
place-at t i o f true = refl
place-at t i o f false = refl

-- ---- a turn

-- only what was fed has come to the target
pub fed-parts : {S : Type 0} (m : Meaning S) (settings : Settings) (w : Widths) (t : Target S) (d : Debugger) (x : World S) → is_closed x.target ≡ false → Parts m settings w (joined t d) x
    → Parts m settings w (link_at t d t.end.incoming [] (d.end.incoming ++ far_from_debugger t d) (far_from_target t d)) (record x { at_target = length t.end.incoming })
fed-parts m settings w t d x o s =
    cut-again m settings w (joined t d) x (length t.end.incoming) x.at_debugger t.end.incoming [] t.end.session (d.end.incoming ++ far_from_debugger t d) (far_from_target t d) d.end.session s refl
    (cut-some x.at_target (stream (calls_sent w s.to.wires)) t.end.incoming (far_from_target t d) (joined t d).target.end _ (is_closed x.target) o refl refl s.to.cut)
    (record { number = s.from.cut.number; there = s.from.cut.there; left = s.from.cut.left })

turn-none : {S : Type 0} (m : Meaning S) (settings : Settings) (w : Widths) (first : World S) (acts : List Act) (old new : Programs S) (turn : Turn) → Standing m settings w first acts old → front_of old.target.end ≡ More
    → turns.TurnsAt m (front_of old.target.end) old.target (Ok turn) new.target → new.debugger ≡ old.debugger → Stands m settings w first (acts ++ act.TargetTurns turn ∷ []) new
turn-none m settings w first acts old new turn b front so same_d =
    let (told, same) = subst (λ f. turns.TurnsAt m f old.target (Ok turn) new.target) front so in
    let none = none-turned turn told in
    stands-still m settings w first acts old new (act.TargetTurns turn) b (ap (λ t. where_did (turn_did t) Events.TargetTurn) none) refl same same_d

turn-open : {S : Type 0} (m : Meaning S) (settings : Settings) (w : Widths) (first : World S) (acts : List Act) (old new : Programs S) (turn : Turn) → Laws m → (b : Standing m settings w first acts old)
    → is_closed b.world.target ≡ false → is_paused old.target.end ≡ false
    → turns.TurnsAt m (front_of old.target.end) old.target (Ok turn) new.target → EncodesNext m (front_of old.target.end) old.target → SendsAt m (front_of old.target.end) old.target → new.debugger ≡ old.debugger
    → Stands m settings w first (acts ++ act.TargetTurns turn ∷ []) new
turn-open m settings w first acts old new turn laws b o p so encoded sends same_d =
    let t = old.target in
    let d = old.debugger in
    let x = b.world in
    let size = sized m settings w first acts old b in
    let far = far_from_target t d in
    let all = d.end.incoming ++ far_from_debugger t d in
    let l = link_at t d t.end.incoming [] all far in
    let y = record x { at_target = length t.end.incoming } in
    let parts = fed-parts m settings w t d x o b.stands.parts in
    let known = known-across m laws.worlds settings w first acts y b.onward (reached-same m settings w first acts x y refl b.stands.reached) in
    let some = target-sized m settings w t d x size b.stands.parts in
    let front : front_of l.target.end ≡ front_of t.end = ap (λ q. cond q More (next_of t.end)) (unpaused t.end.limits.packet some ∙ sym p) in
    elim (target-has m settings w l y laws.finds size.small known parts) [
      | inl h ↦ turn-none m settings w first acts old new turn b (sym front ∙ h.front) so same_d
      | inr h ↦
          let message = call_sent w h.id h.call in
          let used = call_size w h.call in
          let (told, same) = subst (λ f. turns.TurnsAt m f t (Ok turn) new.target) (sym front ∙ h.front) so in
          let enc = unless-at m t t.end.incoming [] message _ (subst (λ f. EncodesNext m f t) (sym front ∙ h.front) encoded) in
          let sent = subst (λ f. SendsAt m f t) (sym front ∙ h.front) sends in
          let after = turn-parts m settings w l y laws known parts h enc sent in
          let z = model.target_turn m settings (measured w settings.limits) y in
          let did : turn_did turn ≡ true = ap turn_did told ∙ told-where-did m t message (defers (full_standing t) message) in
          stands-by m settings w first acts old new (act.TargetTurns turn) (Events.TargetTurn ∷ []) z (with_handled m message used t) d b
          (goes-one m settings w (act.TargetTurns turn) Events.TargetTurn x z [] (ap (λ q. where_did q Events.TargetTurn) did)
          (ap (λ q. (q, [])) (turn-uncounted m settings (measured w settings.limits) w y h.call (without_ids h.rest) size.some o (sym parts.to.calls ∙ ap without_ids h.first) h.some)) refl)
          (target-after m settings w t (with_handled m message used l.target) (with_handled m message used t) d all far [] true z after (λ come. refl) refl (λ q. refl) refl refl b.agrees.to_debugger)
          same same_d
    ]

pub turns-target : {S : Type 0} (m : Meaning S) (settings : Settings) (w : Widths) (first : World S) (acts : List Act) (old new : Programs S) (turn : Turn) → Laws m → Standing m settings w first acts old
    → turns.TurnsAt m (front_of old.target.end) old.target (Ok turn) new.target → EncodesNext m (front_of old.target.end) old.target → SendsAt m (front_of old.target.end) old.target → new.debugger ≡ old.debugger
    → Stands m settings w first (acts ++ act.TargetTurns turn ∷ []) new
turns-target m settings w first acts old new turn laws b so encoded sends same_d =
    either (is_closed b.world.target) (Stands m settings w first (acts ++ act.TargetTurns turn ∷ []) new)
    (λ c. turn-none m settings w first acts old new turn b (front-closed old.target.end b.world.target b.stands.parts.target.phase c) so same_d)
    (λ o. either (is_paused old.target.end) (Stands m settings w first (acts ++ act.TargetTurns turn ∷ []) new)
    (λ q. turn-none m settings w first acts old new turn b (front-paused old.target.end q) so same_d)
    (λ p. turn-open m settings w first acts old new turn laws b o p so encoded sends same_d))

-- ---- a step

or-right : (a b : Bool) → (a || b) ≡ false → b ≡ false
or-right true b h = absurd (cc)
or-right false b h = h

step-made : {S : Type 0} (m : Meaning S) (settings : Settings) (w : Widths) (first : World S) (acts : List Act) (old new : Programs S) (t : ℕ) (stepped : Stepped) → Laws m → Standing m settings w first acts old
    → is_frozen m t old.target ≡ false → step_did stepped ≡ true → new.target ≡ with_step m t old.target → EncodesWhere m t old.target false → SendsWhere m t old.target false → new.debugger ≡ old.debugger
    → Stands m settings w first (acts ++ act.TargetSteps t stepped ∷ []) new
step-made m settings w first acts old new t stepped laws b free did same encoded sends same_d =
    let x = b.world in
    let size = sized m settings w first acts old b in
    let l = joined old.target old.debugger in
    let known = known-across m laws.worlds settings w first acts x b.onward b.stands.reached in
    let some = target-sized m settings w old.target old.debugger x size b.stands.parts in
    let able = or-right (is_paused old.target.end) (not (may_step m old.target.settings old.target.moment t)) free in
    let flows : is_frozen m t l.target ≡ false = ap (λ q. q || not (may_step m old.target.settings old.target.moment t)) (unpaused old.target.end.limits.packet some) ∙ able in
    let after = step-parts m settings w l x t laws.finds laws.puts known b.stands.parts (target-keeps l.target.end.incoming old.target.end some) flows encoded sends in
    let z = model.steps m settings (measured w settings.limits) x t in
    stands-by m settings w first acts old new (act.TargetSteps t stepped) (Events.Step t ∷ []) z (with_step m t old.target) old.debugger b
    (goes-one m settings w (act.TargetSteps t stepped) (Events.Step t) x z [] (ap (λ q. where_did q (Events.Step t)) did)
    (ap (λ q. (q, [])) (step-uncounted m settings (measured w settings.limits) w x t size.some (way-none m settings w old.target old.debugger x laws.finds size b.stands.parts))) refl)
    (target-after m settings w old.target (with_step m t l.target) (with_step m t old.target) old.debugger l.debugger.end.incoming [] [] true z after (λ come. refl) refl (λ q. sym (append-nil l.target.end.incoming)) refl refl b.agrees.to_debugger)
    same same_d

pub steps-target : {S : Type 0} (m : Meaning S) (settings : Settings) (w : Widths) (first : World S) (acts : List Act) (old new : Programs S) (t : ℕ) (stepped : Stepped) (frozen : Bool) → is_frozen m t old.target ≡ frozen → Laws m → Standing m settings w first acts old
    → StepsWhere m t old.target stepped new.target frozen → EncodesWhere m t old.target frozen → SendsWhere m t old.target frozen → new.debugger ≡ old.debugger
    → Stands m settings w first (acts ++ act.TargetSteps t stepped ∷ []) new
steps-target m settings w first acts old new t stepped true e laws b (told, same) encoded sends same_d =
    stands-still m settings w first acts old new (act.TargetSteps t stepped) b (ap (λ q. where_did (step_did q) (Events.Step t)) told) refl same same_d
steps-target m settings w first acts old new t stepped false e laws b (told, same) encoded sends same_d =
    let o = occurs m old.target.moment t in
    step-made m settings w first acts old new t stepped laws b e (ap step_did told ∙ made-did o.sends o.ends) same encoded sends same_d

-- ---- a release

and-never : (a : Bool) → (a && false) ≡ false
and-never true = refl
and-never false = refl

release-none : {S : Type 0} (m : Meaning S) (settings : Settings) (w : Widths) (first : World S) (acts : List Act) (old new : Programs S) (place : ℕ) (turn : Turn) → Standing m settings w first acts old
    → ReleasesAt m place None old.target (Ok turn) new.target → new.debugger ≡ old.debugger → Stands m settings w first (acts ++ act.TargetReleases place turn ∷ []) new
release-none m settings w first acts old new place turn b (told, same) same_d =
    let none = none-turned turn told in
    stands-still m settings w first acts old new (act.TargetReleases place turn) b (ap (λ t. where_did (turn_did t) (Events.Release place)) none) refl same same_d

release-found : {S : Type 0} (m : Meaning S) (settings : Settings) (w : Widths) (first : World S) (acts : List Act) (old new : Programs S) (place : ℕ) (turn : Turn) (f : Option (streams.Message × List streams.Message)) → Laws m → Standing m settings w first acts old
    → deferred_at place (joined old.target old.debugger).target ≡ f
    → ReleasesAt m place f old.target (Ok turn) new.target → EncodesReleased m f old.target → SendsReleased m place f old.target → new.debugger ≡ old.debugger
    → Stands m settings w first (acts ++ act.TargetReleases place turn ∷ []) new
release-found m settings w first acts old new place turn None laws b e so encoded sends same_d = release-none m settings w first acts old new place turn b so same_d
release-found m settings w first acts old new place turn (Some (message, others)) laws b e (told, same) encoded sends same_d =
    let x = b.world in
    let size = sized m settings w first acts old b in
    let l = joined old.target old.debugger in
    let known = known-across m laws.worlds settings w first acts x b.onward b.stands.reached in
    let after = releases-so m settings w l x place turn (with_release m place l.target) laws known b.stands.parts
    (subst (λ f. ReleasesAt m place f l.target (Ok turn) (with_release m place l.target)) (sym e) (told ∙ told-at m old.target l.target.end.incoming [] message, refl))
    (subst (λ f. EncodesReleased m f l.target) (sym e) (for-at m old.target l.target.end.incoming [] message encoded))
    (subst (λ f. SendsReleased m place f l.target) (sym e) sends) in
    let z = model.releases m settings (measured w settings.limits) x place in
    let did : turn_did turn ≡ true = ap turn_did told ∙ told-did m old.target message in
    stands-by m settings w first acts old new (act.TargetReleases place turn) (Events.Release place ∷ []) z (with_release m place old.target) old.debugger b
    (goes-one m settings w (act.TargetReleases place turn) (Events.Release place) x z [] (ap (λ q. where_did q (Events.Release place)) did)
    (ap (λ q. (q, [])) (release-uncounted m settings (measured w settings.limits) w x place size.some (way-none m settings w old.target old.debugger x laws.finds size b.stands.parts))) refl)
    (target-after m settings w old.target (with_release m place l.target) (with_release m place old.target) old.debugger l.debugger.end.incoming [] [] _ z after.parts (λ come. refl) refl (λ q. sym (append-nil l.target.end.incoming)) refl refl b.agrees.to_debugger)
    same same_d

pub releases-target : {S : Type 0} (m : Meaning S) (settings : Settings) (w : Widths) (first : World S) (acts : List Act) (old new : Programs S) (place : ℕ) (turn : Turn) → Laws m → Standing m settings w first acts old
    → ReleasesAt m place (deferred_at place old.target) old.target (Ok turn) new.target → EncodesReleased m (deferred_at place old.target) old.target → SendsReleased m place (deferred_at place old.target) old.target → new.debugger ≡ old.debugger
    → Stands m settings w first (acts ++ act.TargetReleases place turn ∷ []) new
releases-target m settings w first acts old new place turn laws b so encoded sends same_d =
    let t = old.target in
    let size = sized m settings w first acts old b in
    let some = target-sized m settings w t old.debugger b.world size b.stands.parts in
    let found = released_at place t.deferred in
    either (is_paused t.end) (Stands m settings w first (acts ++ act.TargetReleases place turn ∷ []) new)
    (λ q.
    let none : deferred_at place t ≡ None = ap (λ c. at_place t found (is_established t.end && not c)) q ∙ ap (at_place t found) (and-never (is_established t.end)) in
    release-none m settings w first acts old new place turn b (subst (λ f. ReleasesAt m place f t (Ok turn) new.target) none so) same_d)
    (λ p.
    let e : deferred_at place (joined t old.debugger).target ≡ deferred_at place t =
    sym (place-at t (t.end.incoming ++ far_from_target t old.debugger) [] found (is_established t.end && not (nat_le t.end.limits.packet 0))) ∙ ap (λ c. at_place t found (is_established t.end && not c)) (unpaused t.end.limits.packet some ∙ sym p) in
    release-found m settings w first acts old new place turn (deferred_at place t) laws b e so encoded sends same_d)

-- ---- it defers, or loses the connection

pub defers-target : {S : Type 0} (m : Meaning S) (settings : Settings) (w : Widths) (first : World S) (acts : List Act) (old new : Programs S) (deferring : Bool) → Standing m settings w first acts old
    → new ≡ record old { target = with_deferring deferring old.target } → Stands m settings w first (acts ++ act.TargetDefers deferring ∷ []) new
defers-target m settings w first acts old new deferring b is =
    let x = b.world in
    let l = joined old.target old.debugger in
    let z = record x { deferring = deferring } in
    stands-by m settings w first acts old new (act.TargetDefers deferring) (Events.Defer deferring ∷ []) z (with_deferring deferring old.target) old.debugger b
    (goes-one m settings w (act.TargetDefers deferring) (Events.Defer deferring) x z [] refl refl refl)
    (target-after m settings w old.target (with_deferring deferring l.target) (with_deferring deferring old.target) old.debugger l.debugger.end.incoming [] [] false z (defers-parts m settings w l x deferring false b.stands.parts) (λ come. refl) refl
    (λ q. sym (append-nil l.target.end.incoming)) (sym (append-nil old.target.end.session.enqueued)) refl b.agrees.to_debugger)
    (ap (λ v. v.target) is) (ap (λ v. v.debugger) is)

pub loses-at-target : {S : Type 0} (m : Meaning S) (settings : Settings) (w : Widths) (first : World S) (acts : List Act) (old new : Programs S) → Standing m settings w first acts old
    → new ≡ record old { target = targets.lost_target old.target } → Stands m settings w first (acts ++ act.TargetLoses ∷ []) new
loses-at-target m settings w first acts old new b is =
    let x = b.world in
    let l = joined old.target old.debugger in
    let z = model.target_loses x in
    stands-by m settings w first acts old new act.TargetLoses (Events.TargetLoses ∷ []) z (targets.lost_target old.target) old.debugger b
    (goes-one m settings w act.TargetLoses Events.TargetLoses x z [] refl refl refl)
    (target-after m settings w old.target (targets.lost_target (targets.with_taken [] l.target)) (targets.lost_target old.target) old.debugger l.debugger.end.incoming [] [] false z (loses-target m settings w l x b.stands.parts) (λ come. refl) refl
    (λ q. absurd (cc)) (sym (append-nil old.target.end.session.enqueued)) refl b.agrees.to_debugger)
    (ap (λ v. v.target) is) (ap (λ v. v.debugger) is)

-- ---- bytes come, and leave

pub comes-to-target : {S : Type 0} (m : Meaning S) (settings : Settings) (w : Widths) (first : World S) (acts : List Act) (old new : Programs S) (bytes : List ℕ) → Standing m settings w first acts old → Agrees new
    → new ≡ record old { target = targets.with_fed bytes old.target } → Stands m settings w first (acts ++ act.ComesToTarget bytes ∷ []) new
comes-to-target m settings w first acts old new bytes b then is =
    let t = old.target in
    let d = old.debugger in
    let x = b.world in
    let l = joined t d in
    let front : IsFront (t.end.session.fed ++ bytes) d.end.session.enqueued = (subst Agrees is then).to_target in
    let fed = targets.with_fed bytes t in
    stands-by m settings w first acts old new (act.ComesToTarget bytes) [] x fed d b (goes-idle m settings w (act.ComesToTarget bytes) x refl refl)
    (target-after m settings w t l.target fed d l.debugger.end.incoming [] [] false x b.stands.parts (λ come. refl) refl
    (λ o. append_assoc t.end.incoming bytes (far_from_target fed d) ∙ (ap (λ q. t.end.incoming ++ q) (sym (far-less t.end.session.fed bytes d.end.session.enqueued front)) ∙ sym (append-nil l.target.end.incoming)))
    (sym (append-nil t.end.session.enqueued)) refl b.agrees.to_debugger)
    (ap (λ v. v.target) is) (ap (λ v. v.debugger) is)

pub leaves-target : {S : Type 0} (m : Meaning S) (settings : Settings) (w : Widths) (first : World S) (acts : List Act) (old new : Programs S) (bytes : List ℕ) → Standing m settings w first acts old
    → new ≡ record old { target = targets.with_taken bytes old.target } → Stands m settings w first (acts ++ act.LeavesTarget bytes ∷ []) new
leaves-target m settings w first acts old new bytes b is =
    let x = b.world in
    let l = joined old.target old.debugger in
    stands-by m settings w first acts old new (act.LeavesTarget bytes) [] x (targets.with_taken bytes old.target) old.debugger b (goes-idle m settings w (act.LeavesTarget bytes) x refl refl)
    (target-after m settings w old.target l.target (targets.with_taken bytes old.target) old.debugger l.debugger.end.incoming [] [] false x b.stands.parts (λ come. refl) refl
    (λ o. sym (append-nil l.target.end.incoming)) (sym (append-nil old.target.end.session.enqueued)) refl b.agrees.to_debugger)
    (ap (λ v. v.target) is) (ap (λ v. v.debugger) is)

-- ---- a session begins

attach-uncounted : {S : Type 0} (x : World S) (b : Bool) → cond b (model.attached (uncounted x)) (uncounted x) ≡ uncounted (cond b (model.attached x) x)
attach-uncounted x true = refl
attach-uncounted x false = refl

pub connects : {S : Type 0} (m : Meaning S) (settings : Settings) (w : Widths) (first : World S) (acts : List Act) (old new : Programs S) → Laws m → Standing m settings w first acts old
    → is_open old.target.end ≡ false → is_open old.debugger.end ≡ false → old.target.moment.state.alive ≡ true
    → new ≡ record { target = targets.opened_target old.target; debugger = debuggers.attached old.debugger } → Stands m settings w first (acts ++ act.Connects ∷ []) new
connects m settings w first acts old new laws b shut unheard lives is =
    let x = b.world in
    let l = joined old.target old.debugger in
    let known = known-across m laws.worlds settings w first acts x b.onward b.stands.reached in
    let may : may_attach l ≡ true =
    ap (λ q. not q && (not (is_open old.debugger.end) && old.target.moment.state.alive)) shut ∙ (ap (λ q. not q && old.target.moment.state.alive) unheard ∙ lives) in
    let z = model.attaches x in
    let parts : Parts m settings w (attached l) z = subst (λ q. Parts m settings w (cond q (attached l) (idle l)) z) may (attach-parts m settings w l x known b.stands.parts) in
    let t = targets.opened_target old.target in
    let d = debuggers.attached old.debugger in
    let done = all-comes m settings w (attached l) z (t.end.incoming ++ far_from_target t d) t.end.session (d.end.incoming ++ far_from_debugger t d) d.end.session parts refl (λ o. refl) (λ o. refl) in
    stands-by m settings w first acts old new act.Connects (Events.Attach ∷ []) z t d b
    (goes-one m settings w act.Connects Events.Attach x z [] refl (ap (λ q. (q, [])) (attach-uncounted x (model.may_attach x))) refl)
    (record { world = record z { at_target = length (stream (calls_sent w parts.to.wires)); at_debugger = length (stream (packets_sent w parts.from.wires)) }; parts = done; same = refl })
    (ap (λ v. v.target) is) (ap (λ v. v.debugger) is)
