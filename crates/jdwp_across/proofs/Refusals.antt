-- neither end refuses what the other sent: a turn that fails wants memory
use Rattle.std.proofs.Common.{◌≡◌, ℕ, inl, inr, None, false, cond, List, [], ◌++◌, length, Err, refl, sym, ◌∙◌, ap, subst}
use Rattle.jdwp_wire.specs.Streams as streams
use Rattle.jdwp_wire.specs.Streams.{More}
use Rattle.jdwp_wire.specs.Widths.{Widths}
use Rattle.jdwp_wire.specs.declared.packet.Header.{Header}
use Rattle.jdwp_end.specs.Ends.{front_of, is_paused, next_of}
use Rattle.jdwp_machine.specs.Meanings.{Meaning}
use Rattle.jdwp_debuggee.specs.Settings.{Settings}
use Rattle.jdwp_target.specs.Targets.{Target}
use Rattle.jdwp_target.specs.Turns as target
use Rattle.jdwp_target.specs.declared.target.TargetFault.{TargetFault}
use Rattle.jdwp_target.specs.declared.target.TargetFault.TheVariants as target_fault
use Rattle.jdwp_debugger.specs.Debuggers.{Debugger}
use Rattle.jdwp_debugger.specs.DebuggerTurns as turns
use Rattle.jdwp_debugger.specs.DebuggerTurns.{FailsAt, HandlesAt}
use Rattle.jdwp_debugger.specs.declared.faults.DebuggerFault.{DebuggerFault}
use Rattle.jdwp_debugger.specs.declared.faults.DebuggerFault.TheVariants as fault
use Rattle.jdwp_model.specs.Measures.{message_size}
use Rattle.jdwp_model.specs.World.{World, is_closed}
use Rattle.jdwp_link.specs.Laws.{Laws}
use Rattle.jdwp_link.specs.Wires.{message_sent}
use Rattle.jdwp_link.proofs.Finding.{debugger-has}
use Rattle.jdwp_link.proofs.Turning.{front-closed, front-paused, target-has}
use Rattle.jdwp_link.proofs.Unrefused.{IsUnrefused, unrefused}
use Rattle.jdwp_across.specs.Programs.{Act, Programs}
use Rattle.jdwp_across.specs.Standing.{debugger_at, far_from_debugger, far_from_target, link_at}
use Rattle.jdwp_across.proofs.DebuggerActs as debugger
use Rattle.jdwp_across.proofs.Reached.{known-across, reached-same}
use Rattle.jdwp_across.proofs.Standing.{Standing, debugger-keeps, debugger-sized, either, sized, target-sized, unpaused}
use Rattle.jdwp_across.proofs.TargetActs.{fed-parts}

-- ---- the target

idle-fails : {S : Type 0} (m : Meaning S) (t after : Target S) (f : TargetFault) → front_of t.end ≡ More → target.TurnsAt m (front_of t.end) t (Err f) after → (f ≡ target_fault.NoMemory) × (after ≡ t)
idle-fails m t after f front so = let (told, same) = subst (λ q. target.TurnsAt m q t (Err f) after) front so in absurd (cc)

target-open : {S : Type 0} (m : Meaning S) (settings : Settings) (w : Widths) (first : World S) (acts : List Act) (v : Programs S) (f : TargetFault) (after : Target S) → Laws m → (b : Standing m settings w first acts v)
    → is_closed b.world.target ≡ false → is_paused v.target.end ≡ false
    → target.TurnsAt m (front_of v.target.end) v.target (Err f) after → (f ≡ target_fault.NoMemory) × (after ≡ v.target)
target-open m settings w first acts v f after laws b o p so =
    let t = v.target in
    let d = v.debugger in
    let x = b.world in
    let size = sized m settings w first acts v b in
    let l = link_at t d t.end.incoming [] (d.end.incoming ++ far_from_debugger t d) (far_from_target t d) in
    let y = record x { at_target = length t.end.incoming } in
    let parts = fed-parts m settings w t d x o b.stands.parts in
    let known = known-across m laws.worlds settings w first acts y b.onward (reached-same m settings w first acts x y refl b.stands.reached) in
    let some = target-sized m settings w t d x size b.stands.parts in
    let front : front_of l.target.end ≡ front_of t.end = ap (λ q. cond q More (next_of t.end)) (unpaused t.end.limits.packet some ∙ sym p) in
    elim (target-has m settings w l y laws.finds size.small known parts) [
      | inl h ↦ idle-fails m t after f (sym front ∙ h.front) so
      | inr h ↦ let (is, needs, same) = subst (λ q. target.TurnsAt m q t (Err f) after) (sym front ∙ h.front) so in (is, same)
    ]

pub target-fails : {S : Type 0} (m : Meaning S) (settings : Settings) (w : Widths) (first : World S) (acts : List Act) (v : Programs S) (f : TargetFault) (after : Target S) → Laws m → Standing m settings w first acts v
    → target.TurnsAt m (front_of v.target.end) v.target (Err f) after → (f ≡ target_fault.NoMemory) × (after ≡ v.target)
target-fails m settings w first acts v f after laws b so =
    either (is_closed b.world.target) ((f ≡ target_fault.NoMemory) × (after ≡ v.target))
    (λ c. idle-fails m v.target after f (front-closed v.target.end b.world.target b.stands.parts.target.phase c) so)
    (λ o. either (is_paused v.target.end) ((f ≡ target_fault.NoMemory) × (after ≡ v.target))
    (λ q. idle-fails m v.target after f (front-paused v.target.end q) so)
    (λ p. target-open m settings w first acts v f after laws b o p so))

-- ---- the debugger

still-fails : (d after : Debugger) (f : DebuggerFault) → front_of d.end ≡ More → turns.TurnsAt (front_of d.end) d (Err f) after → (f ≡ fault.NoMemory) × (after ≡ d)
still-fails d after f front so = let (told, same) = subst (λ q. turns.TurnsAt q d (Err f) after) front so in absurd (cc)

fails-at : (header : Header) (body : List ℕ) (old : Debugger) (f : DebuggerFault) (after : Debugger) → turns.refusal old header body ≡ None → FailsAt header body old f after → (f ≡ fault.NoMemory) × (after ≡ old)
fails-at header body old fault.NoMemory after h (wants, same) = (refl, same)
fails-at header body old f after h (refuses, same) = absurd (cc)

fails-message : (message : streams.Message) (used : ℕ) (i o : List ℕ) (old : Debugger) (f : DebuggerFault) (after : Debugger) → IsUnrefused (debugger_at i o old) message → HandlesAt message used old (Err f) after → (f ≡ fault.NoMemory) × (after ≡ old)
fails-message streams.Handshake used i o old f after h (is, same) = (is, same)
fails-message (streams.Packet header body) used i o old f after h so = fails-at header body old f after h so

debugger-open : {S : Type 0} (m : Meaning S) (settings : Settings) (w : Widths) (first : World S) (acts : List Act) (v : Programs S) (f : DebuggerFault) (after : Debugger) → Laws m → (b : Standing m settings w first acts v)
    → is_closed b.world.debugger ≡ false → is_paused v.debugger.end ≡ false
    → turns.TurnsAt (front_of v.debugger.end) v.debugger (Err f) after → (f ≡ fault.NoMemory) × (after ≡ v.debugger)
debugger-open m settings w first acts v f after laws b o p so =
    let t = v.target in
    let d = v.debugger in
    let x = b.world in
    let size = sized m settings w first acts v b in
    let l = link_at t d (t.end.incoming ++ far_from_target t d) (far_from_debugger t d) d.end.incoming [] in
    let y = record x { at_debugger = length d.end.incoming } in
    let parts = debugger.fed-parts m settings w t d x o b.stands.parts in
    let known = known-across m laws.worlds settings w first acts y b.onward (reached-same m settings w first acts x y refl b.stands.reached) in
    let some = debugger-sized m settings w t d x size b.stands.parts in
    let keeps = debugger-keeps d.end.incoming d b.keeps in
    let front : front_of l.debugger.end ≡ front_of d.end = ap (λ q. cond q More (next_of d.end)) (unpaused d.end.limits.packet some ∙ sym p) in
    elim (debugger-has m settings w l y laws.finds size.small known parts) [
      | inl h ↦ still-fails d after f (sym front ∙ h.front) so
      | inr h ↦ fails-message (message_sent w h.id h.packet.0) (message_size w h.packet.0) d.end.incoming [] d f after (unrefused m settings w l y laws known keeps parts h) (subst (λ q. turns.TurnsAt q d (Err f) after) (sym front ∙ h.front) so)
    ]

pub debugger-fails : {S : Type 0} (m : Meaning S) (settings : Settings) (w : Widths) (first : World S) (acts : List Act) (v : Programs S) (f : DebuggerFault) (after : Debugger) → Laws m → Standing m settings w first acts v
    → turns.TurnsAt (front_of v.debugger.end) v.debugger (Err f) after → (f ≡ fault.NoMemory) × (after ≡ v.debugger)
debugger-fails m settings w first acts v f after laws b so =
    either (is_closed b.world.debugger) ((f ≡ fault.NoMemory) × (after ≡ v.debugger))
    (λ c. still-fails v.debugger after f (front-closed v.debugger.end b.world.debugger b.stands.parts.debugger.phase c) so)
    (λ o. either (is_paused v.debugger.end) ((f ≡ fault.NoMemory) × (after ≡ v.debugger))
    (λ q. still-fails v.debugger after f (front-paused v.debugger.end q) so)
    (λ p. debugger-open m settings w first acts v f after laws b o p so))
