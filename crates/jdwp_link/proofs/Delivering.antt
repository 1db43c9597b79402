-- bytes come to an end
use Rattle.std.proofs.Common.{◌≡◌, ◌≤◌, ℕ, ◌+◌, ◌-◌, min, length, take, drop, Bool, true, false, not, cond, List, [], refl, sym, ◌∙◌, ap, subst, arith}
use Rattle.std.proofs.lemmas.List.{length-take-le, length-drop}
use Rattle.jdwp_wire.specs.Widths.{Widths}
use Rattle.jdwp_end.specs.declared.phase.Phase.{Phase}
use Rattle.jdwp_end.specs.Ends.{End, is_open_phase, room_of}
use Rattle.jdwp_machine.specs.Meanings.{Meaning}
use Rattle.jdwp_debuggee.specs.Settings.{Settings}
use Rattle.jdwp_model.specs.Events
use Rattle.jdwp_model.specs.Next.{next, delivered, delivers_to_target, delivers_to_debugger}
use Rattle.jdwp_model.specs.World as world
use Rattle.jdwp_model.specs.World.{is_closed, World, calls_size, packets_size}
use Rattle.jdwp_model.specs.Measures.{measured}
use Rattle.jdwp_link.specs.Laws.{FindsMessages}
use Rattle.jdwp_link.specs.Links.{Link, way_to_target, way_to_debugger, come_to_target, delivered_to_target, come_to_debugger, delivered_to_debugger}
use Rattle.jdwp_link.specs.Stands.{Parts}
use Rattle.jdwp_link.proofs.Cuts.{drop-none, at-most, left-after, cut-more}
use Rattle.jdwp_link.proofs.Sizes.{calls-length, packets-length}

opened-by : (b : Bool) → not b ≡ false → b ≡ true
opened-by true h = refl
opened-by false h = absurd (cc)

closed-by : (b : Bool) → not b ≡ true → b ≡ false
closed-by true h = absurd (cc)
closed-by false h = refl

-- an unshut end has room for what is not handled; a closed one for nothing
room-open : (settings : Settings) (end : End) (phase : Phase) (at : ℕ) (bytes : List ℕ) → end.limits ≡ settings.limits → end.phase ≡ phase → is_closed phase ≡ false → at ≤ length bytes → end.incoming ≡ take at bytes
    → room_of end ≡ settings.limits.packet - at
room-open settings end phase at bytes limits e o number there =
    let a : is_open_phase end.phase ≡ true = ap is_open_phase e ∙ opened-by (is_open_phase phase) o in
    let b : length end.incoming ≡ at = ap length there ∙ length-take-le at bytes number in
    ap (λ c. cond c (end.limits.packet - length end.incoming) 0) a ∙ (ap (λ n. n.packet - length end.incoming) limits ∙ ap (λ n. settings.limits.packet - n) b)

room-closed : (end : End) (phase : Phase) → end.phase ≡ phase → is_closed phase ≡ true → room_of end ≡ 0
room-closed end phase e c = ap (λ b. cond b (end.limits.packet - length end.incoming) 0) (ap is_open_phase e ∙ closed-by (is_open_phase phase) c)

-- ---- to the target

pub way-target : {S : Type 0} (m : Meaning S) (settings : Settings) (w : Widths) (l : Link S) (x : World S) → FindsMessages → Parts m settings w l x → length (way_to_target l) ≡ world.way_to_target (measured w settings.limits) x
way-target m settings w l x finds s =
    ap length s.to.cut.left ∙ (length-drop x.at_target _ ∙ ap (λ n. n - x.at_target) (calls-length finds w settings.limits s.to.wires ∙ ap (calls_size (measured w settings.limits)) s.to.calls))

comes-target : {S : Type 0} (m : Meaning S) (settings : Settings) (w : Widths) (l : Link S) (x : World S) (k : ℕ) → k ≤ length (way_to_target l) → Parts m settings w l x
    → Parts m settings w (delivered_to_target (take k (way_to_target l)) l) (record x { at_target = x.at_target + k })
comes-target m settings w l x k le s = record {
  target = record { same_settings = s.target.same_settings; limits = s.target.limits; sizes = s.target.sizes; now = s.target.now; phase = s.target.phase; lost = s.target.lost; deferring = s.target.deferring };
  debugger = record {
    order = s.debugger.order;
    limits = s.debugger.limits;
    phase = s.debugger.phase;
    tickets = s.debugger.tickets;
    mirror = s.debugger.mirror;
    opened = λ o. let d = s.debugger.opened o in record { sizes = d.sizes; parked = d.parked; pending = d.pending; ticketed = d.ticketed };
    none_waits = s.debugger.none_waits;
  };
  to = record {
    wires = s.to.wires;
    calls = s.to.calls;
    sent = s.to.sent;
    cut = cut-more x.at_target k _ (way_to_target l) _ l.target.end _ _ le refl (left-after k l.to_target l.debugger.end.outgoing le) s.to.cut;
    kept = λ o. let e : l.to_target ≡ [] = s.to.kept o in ap (drop (length (take k (way_to_target l)))) e ∙ drop-none (length (take k (way_to_target l)));
  };
  deferred = record { wires = s.deferred.wires; commands = s.deferred.commands; messages = s.deferred.messages; sent = s.deferred.sent };
  from = record {
    wires = s.from.wires;
    packets = s.from.packets;
    sent = s.from.sent;
    cut = record { number = s.from.cut.number; there = s.from.cut.there; left = s.from.cut.left };
    kept = s.from.kept;
    awaits = s.from.awaits;
  };
}

same-target : {S : Type 0} (m : Meaning S) (settings : Settings) (w : Widths) (l : Link S) (x : World S) (n : ℕ) (b : Bool) → FindsMessages → Parts m settings w l x → is_closed x.target ≡ b
    → record x { at_target = x.at_target + min n (min (length (way_to_target l)) (room_of l.target.end)) } ≡ delivers_to_target settings (measured w settings.limits) x n
same-target m settings w l x n true finds s c =
    let r = room-closed l.target.end x.target s.target.phase c in
    let z = (at-most n (length (way_to_target l)) (room_of l.target.end)).2 in
    let e : x.at_target + min n (min (length (way_to_target l)) (room_of l.target.end)) ≡ x.at_target = omega (z, r, arith) in
    ap (λ k. record x { at_target = k }) e ∙ ap (λ q. cond q x (record x { at_target = delivered settings n (world.way_to_target (measured w settings.limits) x) x.at_target })) (sym c)
same-target m settings w l x n false finds s o =
    ap (λ k. record x { at_target = x.at_target + min n (min k (room_of l.target.end)) }) (way-target m settings w l x finds s)
    ∙ (ap (λ k. record x { at_target = x.at_target + min n (min (world.way_to_target (measured w settings.limits) x) k) })
    (room-open settings l.target.end x.target x.at_target _ s.target.limits s.target.phase o s.to.cut.number (s.to.cut.there o))
    ∙ ap (λ q. cond q x (record x { at_target = delivered settings n (world.way_to_target (measured w settings.limits) x) x.at_target })) (sym o))

pub delivers-target : {S : Type 0} (m : Meaning S) (settings : Settings) (w : Widths) (l : Link S) (x : World S) (n : ℕ) → FindsMessages → Parts m settings w l x
    → Parts m settings w (delivered_to_target (come_to_target n l) l) (next m settings (measured w settings.limits) x (Events.ToTarget n)).0
delivers-target m settings w l x n finds s =
    subst (λ y. Parts m settings w (delivered_to_target (come_to_target n l) l) y) (same-target m settings w l x n (is_closed x.target) finds s refl)
    (comes-target m settings w l x (min n (min (length (way_to_target l)) (room_of l.target.end))) (at-most n (length (way_to_target l)) (room_of l.target.end)).1 s)

-- ---- to the debugger

pub way-debugger : {S : Type 0} (m : Meaning S) (settings : Settings) (w : Widths) (l : Link S) (x : World S) → FindsMessages → Parts m settings w l x → length (way_to_debugger l) ≡ world.way_to_debugger (measured w settings.limits) x
way-debugger m settings w l x finds s =
    ap length s.from.cut.left ∙ (length-drop x.at_debugger _ ∙ ap (λ n. n - x.at_debugger) (packets-length finds w settings.limits s.from.wires ∙ ap (packets_size (measured w settings.limits)) s.from.packets))

comes-debugger : {S : Type 0} (m : Meaning S) (settings : Settings) (w : Widths) (l : Link S) (x : World S) (k : ℕ) → k ≤ length (way_to_debugger l) → Parts m settings w l x
    → Parts m settings w (delivered_to_debugger (take k (way_to_debugger l)) l) (record x { at_debugger = x.at_debugger + k })
comes-debugger m settings w l x k le s = record {
  target = record { same_settings = s.target.same_settings; limits = s.target.limits; sizes = s.target.sizes; now = s.target.now; phase = s.target.phase; lost = s.target.lost; deferring = s.target.deferring };
  debugger = record {
    order = s.debugger.order;
    limits = s.debugger.limits;
    phase = s.debugger.phase;
    tickets = s.debugger.tickets;
    mirror = s.debugger.mirror;
    opened = λ o. let d = s.debugger.opened o in record { sizes = d.sizes; parked = d.parked; pending = d.pending; ticketed = d.ticketed };
    none_waits = s.debugger.none_waits;
  };
  to = record {
    wires = s.to.wires;
    calls = s.to.calls;
    sent = s.to.sent;
    cut = record { number = s.to.cut.number; there = s.to.cut.there; left = s.to.cut.left };
    kept = s.to.kept;
  };
  deferred = record { wires = s.deferred.wires; commands = s.deferred.commands; messages = s.deferred.messages; sent = s.deferred.sent };
  from = record {
    wires = s.from.wires;
    packets = s.from.packets;
    sent = s.from.sent;
    cut = cut-more x.at_debugger k _ (way_to_debugger l) _ l.debugger.end _ _ le refl (left-after k l.to_debugger l.target.end.outgoing le) s.from.cut;
    kept = λ o. let e : l.to_debugger ≡ [] = s.from.kept o in ap (drop (length (take k (way_to_debugger l)))) e ∙ drop-none (length (take k (way_to_debugger l)));
    awaits = s.from.awaits;
  };
}

same-debugger : {S : Type 0} (m : Meaning S) (settings : Settings) (w : Widths) (l : Link S) (x : World S) (n : ℕ) (b : Bool) → FindsMessages → Parts m settings w l x → is_closed x.debugger ≡ b
    → record x { at_debugger = x.at_debugger + min n (min (length (way_to_debugger l)) (room_of l.debugger.end)) } ≡ delivers_to_debugger settings (measured w settings.limits) x n
same-debugger m settings w l x n true finds s c =
    let r = room-closed l.debugger.end x.debugger s.debugger.phase c in
    let z = (at-most n (length (way_to_debugger l)) (room_of l.debugger.end)).2 in
    let e : x.at_debugger + min n (min (length (way_to_debugger l)) (room_of l.debugger.end)) ≡ x.at_debugger = omega (z, r, arith) in
    ap (λ k. record x { at_debugger = k }) e ∙ ap (λ q. cond q x (record x { at_debugger = delivered settings n (world.way_to_debugger (measured w settings.limits) x) x.at_debugger })) (sym c)
same-debugger m settings w l x n false finds s o =
    ap (λ k. record x { at_debugger = x.at_debugger + min n (min k (room_of l.debugger.end)) }) (way-debugger m settings w l x finds s)
    ∙ (ap (λ k. record x { at_debugger = x.at_debugger + min n (min (world.way_to_debugger (measured w settings.limits) x) k) })
    (room-open settings l.debugger.end x.debugger x.at_debugger _ s.debugger.limits s.debugger.phase o s.from.cut.number (s.from.cut.there o))
    ∙ ap (λ q. cond q x (record x { at_debugger = delivered settings n (world.way_to_debugger (measured w settings.limits) x) x.at_debugger })) (sym o))

pub delivers-debugger : {S : Type 0} (m : Meaning S) (settings : Settings) (w : Widths) (l : Link S) (x : World S) (n : ℕ) → FindsMessages → Parts m settings w l x
    → Parts m settings w (delivered_to_debugger (come_to_debugger n l) l) (next m settings (measured w settings.limits) x (Events.ToDebugger n)).0
delivers-debugger m settings w l x n finds s =
    subst (λ y. Parts m settings w (delivered_to_debugger (come_to_debugger n l) l) y) (same-debugger m settings w l x n (is_closed x.debugger) finds s refl)
    (comes-debugger m settings w l x (min n (min (length (way_to_debugger l)) (room_of l.debugger.end))) (at-most n (length (way_to_debugger l)) (room_of l.debugger.end)).1 s)
