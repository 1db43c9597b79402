-- what a link is after an event, by what its parts are
use Rattle.std.proofs.Common.{◌≡◌, ℕ, ◌-◌, min, Bool, true, false, cond, List, [], length, take, drop, refl, ◌∙◌, ap}
use Rattle.jdwp_end.specs.Ends as ends
use Rattle.jdwp_end.specs.Ends.{room_of}
use Rattle.jdwp_debugger.specs.Debuggers.{Debugger}
use Rattle.jdwp_debugger.specs.Debuggers as debuggers
use Rattle.jdwp_target.specs.Targets.{Target}
use Rattle.jdwp_target.specs.Targets as targets
use Rattle.jdwp_link.specs.Insides.{link_of}
use Rattle.jdwp_link.specs.Links.{Link, attached, attaches, carried_to_debugger, carried_to_target, come_to_debugger, come_to_target, delivered_to_debugger, delivered_to_target, idle, may_attach}
use Rattle.jdwp_link.proofs.Moves.{comes, fed-twice, room-after}

-- ---- a session

attached-by : {S : Type 0} (l : Link S) (t : Target S) (d : Debugger) (a b : List ℕ) (begun : Bool)
    → (begun ≡ true → (t ≡ targets.opened_target l.target) × (d ≡ debuggers.attached l.debugger) × (a ≡ []) × (b ≡ []))
    → (begun ≡ false → (t ≡ l.target) × (d ≡ l.debugger) × (a ≡ l.to_target) × (b ≡ l.to_debugger))
    → link_of t d a b false ≡ cond begun (attached l) (idle l)
attached-by l t d a b true begins stays = rw ((begins refl).0, (begins refl).1, (begins refl).2, (begins refl).3) refl
attached-by l t d a b false begins stays = rw ((stays refl).0, (stays refl).1, (stays refl).2, (stays refl).3) refl

pub attached-is : {S : Type 0} (l : Link S) (t : Target S) (d : Debugger) (a b : List ℕ) (begun : Bool) → begun ≡ may_attach l
    → (begun ≡ true → (t ≡ targets.opened_target l.target) × (d ≡ debuggers.attached l.debugger) × (a ≡ []) × (b ≡ []))
    → (begun ≡ false → (t ≡ l.target) × (d ≡ l.debugger) × (a ≡ l.to_target) × (b ≡ l.to_debugger))
    → link_of t d a b false ≡ attaches l
attached-is l t d a b begun e begins stays = attached-by l t d a b begun begins stays ∙ ap (λ q. cond q (attached l) (idle l)) e

-- ---- deliveries

pub to-target-is : {S : Type 0} (l : Link S) (n first second : ℕ) → first ≡ min n (min (length l.to_target) (room_of l.target.end))
    → second ≡ min (min (length l.debugger.end.outgoing) (room_of (ends.with_fed (take first l.to_target) l.target.end))) (n - first)
    → length (take first l.to_target) ≡ first
    → link_of (targets.with_fed (take second l.debugger.end.outgoing) (targets.with_fed (take first l.to_target) l.target)) (debuggers.with_taken (take second l.debugger.end.outgoing) l.debugger) (drop first l.to_target) l.to_debugger false
    ≡ delivered_to_target (come_to_target n l) l
to-target-is l n first second a b size =
    let room = room-after (take first l.to_target) l.target.end ∙ ap (λ k. room_of l.target.end - k) size in
    let c = comes n (room_of l.target.end) first second l.to_target l.debugger.end.outgoing a (b ∙ ap (λ r. min (min (length l.debugger.end.outgoing) r) (n - first)) room) in
    let fed = fed-twice (take first l.to_target) (take second l.debugger.end.outgoing) l.target.end ∙ ap (λ bytes. ends.with_fed bytes l.target.end) c.whole in
    ap (λ e. link_of (record l.target { end = e }) (debuggers.with_taken (take second l.debugger.end.outgoing) l.debugger) (drop first l.to_target) l.to_debugger false) fed
    ∙ (ap (λ bytes. link_of (targets.with_fed (come_to_target n l) l.target) (debuggers.with_taken bytes l.debugger) (drop first l.to_target) l.to_debugger false) c.rest
    ∙ ap (λ bytes. link_of (targets.with_fed (come_to_target n l) l.target) (debuggers.with_taken (drop (length l.to_target) (come_to_target n l)) l.debugger) bytes l.to_debugger false) c.left)

pub to-debugger-is : {S : Type 0} (l : Link S) (n first second : ℕ) → first ≡ min n (min (length l.to_debugger) (room_of l.debugger.end))
    → second ≡ min (min (length l.target.end.outgoing) (room_of (ends.with_fed (take first l.to_debugger) l.debugger.end))) (n - first)
    → length (take first l.to_debugger) ≡ first
    → link_of (targets.with_taken (take second l.target.end.outgoing) l.target) (debuggers.with_fed (take second l.target.end.outgoing) (debuggers.with_fed (take first l.to_debugger) l.debugger)) l.to_target (drop first l.to_debugger) false
    ≡ delivered_to_debugger (come_to_debugger n l) l
to-debugger-is l n first second a b size =
    let room = room-after (take first l.to_debugger) l.debugger.end ∙ ap (λ k. room_of l.debugger.end - k) size in
    let c = comes n (room_of l.debugger.end) first second l.to_debugger l.target.end.outgoing a (b ∙ ap (λ r. min (min (length l.target.end.outgoing) r) (n - first)) room) in
    let fed = fed-twice (take first l.to_debugger) (take second l.target.end.outgoing) l.debugger.end ∙ ap (λ bytes. ends.with_fed bytes l.debugger.end) c.whole in
    ap (λ e. link_of (targets.with_taken (take second l.target.end.outgoing) l.target) (record l.debugger { end = e }) l.to_target (drop first l.to_debugger) false) fed
    ∙ (ap (λ bytes. link_of (targets.with_taken bytes l.target) (debuggers.with_fed (come_to_debugger n l) l.debugger) l.to_target (drop first l.to_debugger) false) c.rest
    ∙ ap (λ bytes. link_of (targets.with_taken (drop (length l.to_debugger) (come_to_debugger n l)) l.target) (debuggers.with_fed (come_to_debugger n l) l.debugger) l.to_target bytes false) c.left)

-- what comes behind the queue
pub to-target-rest : {S : Type 0} (l : Link S) (n first second : ℕ) → first ≡ min n (min (length l.to_target) (room_of l.target.end))
    → second ≡ min (min (length l.debugger.end.outgoing) (room_of (ends.with_fed (take first l.to_target) l.target.end))) (n - first)
    → length (take first l.to_target) ≡ first → take second l.debugger.end.outgoing ≡ carried_to_target n l
to-target-rest l n first second a b size =
    let room = room-after (take first l.to_target) l.target.end ∙ ap (λ k. room_of l.target.end - k) size in
    (comes n (room_of l.target.end) first second l.to_target l.debugger.end.outgoing a (b ∙ ap (λ r. min (min (length l.debugger.end.outgoing) r) (n - first)) room)).rest

-- what comes behind the queue
pub to-debugger-rest : {S : Type 0} (l : Link S) (n first second : ℕ) → first ≡ min n (min (length l.to_debugger) (room_of l.debugger.end))
    → second ≡ min (min (length l.target.end.outgoing) (room_of (ends.with_fed (take first l.to_debugger) l.debugger.end))) (n - first)
    → length (take first l.to_debugger) ≡ first → take second l.target.end.outgoing ≡ carried_to_debugger n l
to-debugger-rest l n first second a b size =
    let room = room-after (take first l.to_debugger) l.debugger.end ∙ ap (λ k. room_of l.debugger.end - k) size in
    (comes n (room_of l.debugger.end) first second l.to_debugger l.target.end.outgoing a (b ∙ ap (λ r. min (min (length l.target.end.outgoing) r) (n - first)) room)).rest
