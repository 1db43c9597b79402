-- events as the code does them: what a link is then, and what it keeps
use Rattle.std.proofs.Common.{◌≡◌, ℕ, ◌-◌, min, Bool, true, false, not, List, [], ◌++◌, length, take, drop, Ok, refl, sym, ◌∙◌, ap, subst, arith}
use Rattle.std.specs.Prelude.{if◌then◌else◌}
use Rattle.std.proofs.lemmas.List.{length-take-le}
use Rattle.jdwp_link.specs.Queue.{Queue}
use Rattle.jdwp_end.specs.Ends.{front_of, is_open, is_open_phase, room_of}
use Rattle.jdwp_machine.specs.Meanings.{Meaning}
use Rattle.jdwp_debugger.specs.Debuggers.{Debugger, has_tickets}
use Rattle.jdwp_debugger.specs.Debuggers as debuggers
use Rattle.jdwp_target.specs.Targets.{Target}
use Rattle.jdwp_target.specs.Targets as targets
use Rattle.jdwp_target.specs.Turns.{EncodesNext, EncodesReleased, EncodesWhere, ReleasesAt, SendsAt, SendsReleased, SendsWhere, StepsWhere, TurnsAt, deferred_at, is_frozen}
use Rattle.jdwp_target.specs.declared.target.Stepped.{Stepped}
use Rattle.jdwp_target.specs.declared.target.Turn.{Turn}
use Rattle.jdwp_model.specs.Events
use Rattle.jdwp_link.specs.Clauses.{Delivers, Goes}
use Rattle.jdwp_link.specs.Insides.{DebuggerKeeps, IsRightLink, TargetKeeps, link_of}
use Rattle.jdwp_link.specs.Laws.{FindsMessages, HoldsOfWorlds, Laws}
use Rattle.jdwp_link.specs.Links.{Link, attaches, carried_to_debugger, carried_to_target, come_to_debugger, come_to_target, delivered_to_debugger, delivered_to_target, may_attach, target_lost}
use Rattle.jdwp_link.specs.Stands.{IsLink}
use Rattle.jdwp_link.specs.Told.{step_did, turn_did}
use Rattle.jdwp_link.proofs.Ending.{attached-is, to-debugger-is, to-debugger-rest, to-target-is, to-target-rest}
use Rattle.jdwp_link.proofs.Going.{goes-attach, goes-defer, goes-release, goes-stepped, goes-target-loses, goes-to-debugger, goes-to-target, goes-turn}
use Rattle.jdwp_link.proofs.Keeping.{attach-right, small-limits, target-lost-right, target-right, to-debugger-right, to-target-right}

-- an event goes, and the link is right after it
pub record Done {S : Type 0} (m : Meaning S) (e : Events.LinkEvent) (old new : Link S) (to from : ℕ) : Type 0 where
  pub goes : Goes m e old new []
  pub right : IsRightLink m new to from

done-at : {S : Type 0} (m : Meaning S) (e : Events.LinkEvent) (old new : Link S) (to from to_new from_new : ℕ) → to_new ≡ to → from_new ≡ from → Done m e old new to from → Done m e old new to_new from_new
done-at m e old new to from to_new from_new a b d = record { goes = d.goes; right = subst (λ n. IsRightLink m new n from_new) (sym a) (subst (λ n. IsRightLink m new to n) (sym b) d.right) }

-- ---- a session

record Cleared (b : Bool) (q r : Queue) : Type 0 where
  emptied : b ≡ true → r.bytes ≡ []
  same : b ≡ false → r.bytes ≡ q.bytes
  capacity : r.capacity ≡ q.capacity

cleared : (b : Bool) (q r : Queue) → r ≡ (if b then record q { bytes = [] } else q) → Cleared b q r
cleared true q r e = record { emptied = λ h. ap (λ x. x.bytes) e; same = λ h. absurd (cc); capacity = ap (λ x. x.capacity) e }
cleared false q r e = record { emptied = λ h. absurd (cc); same = λ h. ap (λ x. x.bytes) e; capacity = ap (λ x. x.capacity) e }

pub attach-done : {S : Type 0} (m : Meaning S) → HoldsOfWorlds m → (l : Link S) (t : Target S) (d : Debugger) (q q_new r r_new : Queue) (b : Bool) → IsRightLink m l q.capacity r.capacity → q.bytes ≡ l.to_target → r.bytes ≡ l.to_debugger
    → b ≡ may_attach l → (b ≡ true → (t ≡ targets.opened_target l.target) × (d ≡ debuggers.attached l.debugger)) → (b ≡ false → (t ≡ l.target) × (d ≡ l.debugger))
    → q_new ≡ (if b then record q { bytes = [] } else q) → r_new ≡ (if b then record r { bytes = [] } else r) → TargetKeeps t.end → DebuggerKeeps d
    → Done m Events.Attach l (link_of t d q_new.bytes r_new.bytes false) q_new.capacity r_new.capacity
attach-done m worlds l t d q q_new r r_new b right a c when begun stays e f target debugger =
    let x = cleared b q q_new e in
    let y = cleared b r r_new f in
    let is : link_of t d q_new.bytes r_new.bytes false ≡ attaches l =
    attached-is l t d q_new.bytes r_new.bytes b when (λ h. ((begun h).0, (begun h).1, x.emptied h, y.emptied h)) (λ h. ((stays h).0, (stays h).1, x.same h ∙ a, y.same h ∙ c)) in
    let goes = subst (λ n. Goes m Events.Attach l n []) (sym is) (goes-attach m worlds l) in
    done-at m Events.Attach l (link_of t d q_new.bytes r_new.bytes false) q.capacity r.capacity q_new.capacity r_new.capacity x.capacity y.capacity
    (record { goes = goes; right = attach-right m l (link_of t d q_new.bytes r_new.bytes false) q.capacity r.capacity Events.Attach right is goes target debugger })

-- no ticket waits at a closed debugger
pub none-waits : {S : Type 0} (m : Meaning S) (l : Link S) → IsLink m l → is_open l.debugger.end ≡ false → has_tickets l.debugger.pending ≡ false
none-waits m l link o =
    let s = link.stands.parts.debugger in
    s.none_waits (ap not (ap is_open_phase (sym s.phase) ∙ o))

-- ---- deliveries

-- how the bytes came to the target
record CameToTarget {S : Type 0} (l new : Link S) (n second : ℕ) : Type 0 where
  same : new ≡ delivered_to_target (come_to_target n l) l
  rest : take second l.debugger.end.outgoing ≡ carried_to_target n l

came-to-target : {S : Type 0} (l : Link S) (q q_new : Queue) (t t_new : Target S) (d : Debugger) (n first second waiting room : ℕ) → q.bytes ≡ l.to_target
    → first ≡ min n (min (length q.bytes) (room_of l.target.end)) → q_new ≡ record q { bytes = drop first q.bytes } → t ≡ targets.with_fed (take first q.bytes) l.target
    → waiting ≡ length l.debugger.end.outgoing → room ≡ room_of t.end → second ≡ min (min waiting room) (n - first)
    → d ≡ debuggers.with_taken (take second l.debugger.end.outgoing) l.debugger → t_new ≡ targets.with_fed (take second l.debugger.end.outgoing) t
    → CameToTarget l (link_of t_new d q_new.bytes l.to_debugger false) n second
came-to-target {S} l q q_new t t_new d n first second waiting room a count left fed waits roomy next taken more =
    let bytes : take first q.bytes ≡ take first l.to_target = ap (take first) a in
    let first-is : first ≡ min n (min (length l.to_target) (room_of l.target.end)) = count ∙ ap (λ b. min n (min (length b) (room_of l.target.end))) a in
    let fed-is : t ≡ targets.with_fed (take first l.to_target) l.target = fed ∙ ap (λ b. targets.with_fed b l.target) bytes in
    let room-is : room ≡ room_of (targets.with_fed (take first l.to_target) l.target).end = roomy ∙ ap (λ (x : Target S). room_of x.end) fed-is in
    let second-is : second ≡ min (min (length l.debugger.end.outgoing) (room_of (targets.with_fed (take first l.to_target) l.target).end)) (n - first) =
    next ∙ (ap (λ k. min (min k room) (n - first)) waits ∙ ap (λ k. min (min (length l.debugger.end.outgoing) k) (n - first)) room-is) in
    let size : length (take first l.to_target) ≡ first = length-take-le first l.to_target (omega (first-is, arith)) in
    record {
      same = ap (λ x. link_of x d q_new.bytes l.to_debugger false) (more ∙ ap (λ x. targets.with_fed (take second l.debugger.end.outgoing) x) fed-is)
          ∙ (ap (λ x. link_of (targets.with_fed (take second l.debugger.end.outgoing) (targets.with_fed (take first l.to_target) l.target)) x q_new.bytes l.to_debugger false) taken
          ∙ (ap (λ x. link_of (targets.with_fed (take second l.debugger.end.outgoing) (targets.with_fed (take first l.to_target) l.target)) (debuggers.with_taken (take second l.debugger.end.outgoing) l.debugger) x l.to_debugger false) (ap (λ (x : Queue). x.bytes) left ∙ ap (drop first) a)
          ∙ to-target-is l n first second first-is second-is size));
      rest = to-target-rest l n first second first-is second-is size;
    }

-- an event goes, and the link is right after it; what came over the way is this
pub record DoneOver {S : Type 0} (m : Meaning S) (e : Events.LinkEvent) (old new : Link S) (to from : ℕ) (came over : List ℕ) : Type 0 where
  pub done : Done m e old new to from
  pub delivers : Delivers e old new
  pub carried : came ≡ over

pub to-target-done : {S : Type 0} (m : Meaning S) (l : Link S) (q q_new : Queue) (t t_new : Target S) (d : Debugger) (n first second waiting room : ℕ) (from : ℕ) → FindsMessages → IsRightLink m l q.capacity from → q.bytes ≡ l.to_target
    → first ≡ min n (min (length q.bytes) (room_of l.target.end)) → q_new ≡ record q { bytes = drop first q.bytes } → t ≡ targets.with_fed (take first q.bytes) l.target
    → waiting ≡ length l.debugger.end.outgoing → room ≡ room_of t.end → second ≡ min (min waiting room) (n - first)
    → d ≡ debuggers.with_taken (take second l.debugger.end.outgoing) l.debugger → t_new ≡ targets.with_fed (take second l.debugger.end.outgoing) t → TargetKeeps t_new.end → DebuggerKeeps d
    → DoneOver m (Events.ToTarget n) l (link_of t_new d q_new.bytes l.to_debugger false) q_new.capacity from (take second l.debugger.end.outgoing) (carried_to_target n l)
to-target-done {S} m l q q_new t t_new d n first second waiting room from finds right a count left fed waits roomy next taken more target debugger =
    let came = came-to-target l q q_new t t_new d n first second waiting room a count left fed waits roomy next taken more in
    let is = came.same in
    let goes = goes-to-target m l n finds in
    let kept = to-target-right m l n q.capacity from (Events.ToTarget n) right goes (subst (λ (x : Link S). TargetKeeps x.target.end) is target) (subst (λ (x : Link S). DebuggerKeeps x.debugger) is debugger) in
    record {
      done = done-at m (Events.ToTarget n) l (link_of t_new d q_new.bytes l.to_debugger false) q.capacity from q_new.capacity from (ap (λ (x : Queue). x.capacity) left) refl
          (subst (λ x. Done m (Events.ToTarget n) l x q.capacity from) (sym is) (record { goes = goes; right = kept }));
      delivers = is;
      carried = came.rest;
    }

-- how the bytes came to the debugger
record CameToDebugger {S : Type 0} (l new : Link S) (n second : ℕ) : Type 0 where
  same : new ≡ delivered_to_debugger (come_to_debugger n l) l
  rest : take second l.target.end.outgoing ≡ carried_to_debugger n l

came-to-debugger : {S : Type 0} (l : Link S) (q q_new : Queue) (d d_new : Debugger) (t : Target S) (n first second waiting room : ℕ) → q.bytes ≡ l.to_debugger
    → first ≡ min n (min (length q.bytes) (room_of l.debugger.end)) → q_new ≡ record q { bytes = drop first q.bytes } → d ≡ debuggers.with_fed (take first q.bytes) l.debugger
    → waiting ≡ length l.target.end.outgoing → room ≡ room_of d.end → second ≡ min (min waiting room) (n - first)
    → t ≡ targets.with_taken (take second l.target.end.outgoing) l.target → d_new ≡ debuggers.with_fed (take second l.target.end.outgoing) d
    → CameToDebugger l (link_of t d_new l.to_target q_new.bytes false) n second
came-to-debugger {S} l q q_new d d_new t n first second waiting room a count left fed waits roomy next taken more =
    let bytes : take first q.bytes ≡ take first l.to_debugger = ap (take first) a in
    let first-is : first ≡ min n (min (length l.to_debugger) (room_of l.debugger.end)) = count ∙ ap (λ b. min n (min (length b) (room_of l.debugger.end))) a in
    let fed-is : d ≡ debuggers.with_fed (take first l.to_debugger) l.debugger = fed ∙ ap (λ b. debuggers.with_fed b l.debugger) bytes in
    let room-is : room ≡ room_of (debuggers.with_fed (take first l.to_debugger) l.debugger).end = roomy ∙ ap (λ (x : Debugger). room_of x.end) fed-is in
    let second-is : second ≡ min (min (length l.target.end.outgoing) (room_of (debuggers.with_fed (take first l.to_debugger) l.debugger).end)) (n - first) =
    next ∙ (ap (λ k. min (min k room) (n - first)) waits ∙ ap (λ k. min (min (length l.target.end.outgoing) k) (n - first)) room-is) in
    let size : length (take first l.to_debugger) ≡ first = length-take-le first l.to_debugger (omega (first-is, arith)) in
    record {
      same = ap (λ x. link_of t x l.to_target q_new.bytes false) (more ∙ ap (λ x. debuggers.with_fed (take second l.target.end.outgoing) x) fed-is)
          ∙ (ap (λ x. link_of x (debuggers.with_fed (take second l.target.end.outgoing) (debuggers.with_fed (take first l.to_debugger) l.debugger)) l.to_target q_new.bytes false) taken
          ∙ (ap (λ x. link_of (targets.with_taken (take second l.target.end.outgoing) l.target) (debuggers.with_fed (take second l.target.end.outgoing) (debuggers.with_fed (take first l.to_debugger) l.debugger)) l.to_target x false) (ap (λ (x : Queue). x.bytes) left ∙ ap (drop first) a)
          ∙ to-debugger-is l n first second first-is second-is size));
      rest = to-debugger-rest l n first second first-is second-is size;
    }

pub to-debugger-done : {S : Type 0} (m : Meaning S) (l : Link S) (q q_new : Queue) (d d_new : Debugger) (t : Target S) (n first second waiting room : ℕ) (to : ℕ) → FindsMessages → IsRightLink m l to q.capacity → q.bytes ≡ l.to_debugger
    → first ≡ min n (min (length q.bytes) (room_of l.debugger.end)) → q_new ≡ record q { bytes = drop first q.bytes } → d ≡ debuggers.with_fed (take first q.bytes) l.debugger
    → waiting ≡ length l.target.end.outgoing → room ≡ room_of d.end → second ≡ min (min waiting room) (n - first)
    → t ≡ targets.with_taken (take second l.target.end.outgoing) l.target → d_new ≡ debuggers.with_fed (take second l.target.end.outgoing) d → TargetKeeps t.end → DebuggerKeeps d_new
    → DoneOver m (Events.ToDebugger n) l (link_of t d_new l.to_target q_new.bytes false) to q_new.capacity (take second l.target.end.outgoing) (carried_to_debugger n l)
to-debugger-done {S} m l q q_new d d_new t n first second waiting room to finds right a count left fed waits roomy next taken more target debugger =
    let came = came-to-debugger l q q_new d d_new t n first second waiting room a count left fed waits roomy next taken more in
    let is = came.same in
    let goes = goes-to-debugger m l n finds in
    let kept = to-debugger-right m l n to q.capacity (Events.ToDebugger n) right goes (subst (λ (x : Link S). TargetKeeps x.target.end) is target) (subst (λ (x : Link S). DebuggerKeeps x.debugger) is debugger) in
    record {
      done = done-at m (Events.ToDebugger n) l (link_of t d_new l.to_target q_new.bytes false) to q.capacity to q_new.capacity refl (ap (λ (x : Queue). x.capacity) left)
          (subst (λ x. Done m (Events.ToDebugger n) l x to q.capacity) (sym is) (record { goes = goes; right = kept }));
      delivers = is;
      carried = came.rest;
    }

-- ---- a loss

pub target-loses-done : {S : Type 0} (m : Meaning S) (l : Link S) (q q_new : Queue) (t t_new : Target S) (to : ℕ) → IsRightLink m l to q.capacity → q.bytes ≡ l.to_debugger
    → t ≡ targets.with_taken l.target.end.outgoing l.target → q_new ≡ record q { bytes = q.bytes ++ l.target.end.outgoing } → t_new ≡ targets.lost_target t → TargetKeeps t_new.end → DebuggerKeeps l.debugger
    → Done m Events.TargetLoses l (link_of t_new l.debugger l.to_target q_new.bytes false) to q_new.capacity
target-loses-done {S} m l q q_new t t_new to right a taken kept lost target debugger =
    let is : link_of t_new l.debugger l.to_target q_new.bytes false ≡ target_lost l =
    ap (λ x. link_of x l.debugger l.to_target q_new.bytes false) (lost ∙ ap targets.lost_target taken)
    ∙ ap (λ x. link_of (targets.lost_target (targets.with_taken l.target.end.outgoing l.target)) l.debugger l.to_target x false) (ap (λ (x : Queue). x.bytes) kept ∙ ap (λ b. b ++ l.target.end.outgoing) a) in
    let goes = goes-target-loses m l in
    done-at m Events.TargetLoses l (link_of t_new l.debugger l.to_target q_new.bytes false) to q.capacity to q_new.capacity refl (ap (λ (x : Queue). x.capacity) kept)
    (subst (λ x. Done m Events.TargetLoses l x to q.capacity) (sym is) (record { goes = goes; right = target-lost-right m l to q.capacity Events.TargetLoses right goes (subst (λ (x : Link S). TargetKeeps x.target.end) is target) debugger }))

-- ---- steps and turns of the target

pub step-done : {S : Type 0} (m : Meaning S) → HoldsOfWorlds m → (l : Link S) (t : ℕ) (stepped : Stepped) (after : Target S) (to from : ℕ) → Laws m → IsRightLink m l to from → TargetKeeps l.target.end
    → StepsWhere m t l.target stepped after (is_frozen m t l.target) → EncodesWhere m t l.target (is_frozen m t l.target) → SendsWhere m t l.target (is_frozen m t l.target) → TargetKeeps after.end → DebuggerKeeps l.debugger
    → Done m (Events.Step t) l (record l { target = after; did = step_did stepped }) to from
step-done m worlds l t stepped after to from laws right keeps so encoded sends target debugger =
    let goes = goes-stepped m worlds l t stepped after laws keeps so encoded sends in
    record { goes = goes; right = target-right m l after (step_did stepped) to from (Events.Step t) right goes (goes.settings right.is_link.world right.is_link.stands) target debugger }

pub turn-done : {S : Type 0} (m : Meaning S) → HoldsOfWorlds m → (l : Link S) (turn : Turn) (after : Target S) (to from : ℕ) → Laws m → IsRightLink m l to from → DebuggerKeeps l.debugger
    → TurnsAt m (front_of l.target.end) l.target (Ok turn) after → EncodesNext m (front_of l.target.end) l.target → SendsAt m (front_of l.target.end) l.target → TargetKeeps after.end
    → Done m Events.TargetTurn l (record l { target = after; did = turn_did turn }) to from
turn-done m worlds l turn after to from laws right debugger so encoded sends target =
    let goes = goes-turn m worlds l turn after laws (small-limits m l right.is_link debugger) so encoded sends in
    record { goes = goes; right = target-right m l after (turn_did turn) to from Events.TargetTurn right goes (goes.settings right.is_link.world right.is_link.stands) target debugger }

-- ---- replies that are deferred

pub defer-done : {S : Type 0} (m : Meaning S) (l : Link S) (deferring : Bool) (after : Target S) (to from : ℕ) → IsRightLink m l to from → after ≡ targets.with_deferring deferring l.target → TargetKeeps after.end → DebuggerKeeps l.debugger
    → Done m (Events.Defer deferring) l (record l { target = after; did = false }) to from
defer-done m l deferring after to from right is target debugger =
    let goes : Goes m (Events.Defer deferring) l (record l { target = after; did = false }) [] = subst (λ t. Goes m (Events.Defer deferring) l (record l { target = t; did = false }) []) (sym is) (goes-defer m l deferring) in
    record { goes = goes; right = target-right m l after false to from (Events.Defer deferring) right goes (goes.settings right.is_link.world right.is_link.stands) target debugger }

pub release-done : {S : Type 0} (m : Meaning S) → HoldsOfWorlds m → (l : Link S) (place : ℕ) (turn : Turn) (after : Target S) (to from : ℕ) → Laws m → IsRightLink m l to from → DebuggerKeeps l.debugger
    → ReleasesAt m place (deferred_at place l.target) l.target (Ok turn) after → EncodesReleased m (deferred_at place l.target) l.target → SendsReleased m place (deferred_at place l.target) l.target → TargetKeeps after.end
    → Done m (Events.Release place) l (record l { target = after; did = turn_did turn }) to from
release-done m worlds l place turn after to from laws right debugger so encoded sends target =
    let goes = goes-release m worlds l place turn after laws so encoded sends in
    record { goes = goes; right = target-right m l after (turn_did turn) to from (Events.Release place) right goes (goes.settings right.is_link.world right.is_link.stands) target debugger }
