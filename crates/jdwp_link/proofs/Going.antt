-- what each event does to a link and tells of it, as the model says
use Rattle.std.proofs.Common.{◌≡◌, ◌<◌, ◌^◌, ℕ, ◌+◌, ◌⊎◌, inl, inr, Bool, true, false, not, cond, Option, Some, None, is_some, List, [], ◌∷◌, Ok, Err, refl, sym, ◌∙◌, ap, subst}
use Rattle.std.specs.Option.{option_map}
use Rattle.jdwp_wire.specs.Widths.{Widths}
use Rattle.jdwp_end.specs.Ends.{front_of}
use Rattle.jdwp_machine.specs.Meanings.{Meaning}
use Rattle.jdwp_action.specs.Actions.{Command}
use Rattle.jdwp_debuggee.specs.Steps.{occurs}
use Rattle.jdwp_mirror.specs.Messages.{Call, Greets, Asks}
use Rattle.jdwp_event.specs.Composites.{CompositeMeaning}
use Rattle.jdwp_debugger.specs.Asking.{HasAsked, refusal_of_ask}
use Rattle.jdwp_debugger.specs.Debuggers.{Debugger, tickets_of}
use Rattle.jdwp_debugger.specs.declared.asking.Refused.{Refused}
use Rattle.jdwp_debugger.specs.declared.pending.Ticket.{Ticket}
use Rattle.jdwp_target.specs.Deeds.{defers}
use Rattle.jdwp_target.specs.Targets.{Target, full_standing, with_deferring, with_handled, with_step}
use Rattle.jdwp_target.specs.Turns.{EncodesNext, EncodesReleased, EncodesWhere, ReleasesAt, SendsAt, SendsReleased, SendsWhere, StepsWhere, TurnsAt, deferred_at, is_frozen, told_by_end, told_where}
use Rattle.jdwp_target.specs.declared.target.Stepped.{Stepped}
use Rattle.jdwp_target.specs.declared.target.TargetFault.{TargetFault}
use Rattle.jdwp_target.specs.declared.target.TargetFault.TheVariants as faults
use Rattle.jdwp_target.specs.declared.target.Turn.{Turn}
use Rattle.jdwp_target.specs.declared.target.Turn.TheVariants as turns
use Rattle.jdwp_model.specs.Events
use Rattle.jdwp_model.specs.Events.{AskRefusal}
use Rattle.jdwp_model.specs.Next.{acts, ask_by, ask_refusal, target_turn}
use Rattle.jdwp_model.specs.World.{World}
use Rattle.jdwp_model.specs.Measures.{call_size}
use Rattle.jdwp_link.specs.declared.events.Outcome.{Outcome}
use Rattle.jdwp_link.specs.declared.events.Outcome.TheVariants as outcome
use Rattle.jdwp_link.specs.Clauses.{Goes, MayStop, measure_of}
use Rattle.jdwp_link.specs.EventParts.{AsksSo, lost_of}
use Rattle.jdwp_link.specs.Insides.{DebuggerKeeps, TargetKeeps}
use Rattle.jdwp_link.specs.Laws.{FindsMessages, HoldsOfWorlds, Laws, PutsMessages}
use Rattle.jdwp_link.specs.Links.{Link, idle, attached, may_attach, attaches, come_to_debugger, come_to_target, delivered_to_debugger, delivered_to_target, debugger_lost, target_lost}
use Rattle.jdwp_link.specs.Stands.{IsLink, Parts, StandsFor}
use Rattle.jdwp_link.specs.Told.{refusal_told, step_did, told_outcomes, turn_did}
use Rattle.jdwp_link.specs.Wires.{CallWire, call_sent}
use Rattle.jdwp_link.proofs.Asking.{ask-parts, same-refusal}
use Rattle.jdwp_link.proofs.Attaching.{attach-parts, parts-did}
use Rattle.jdwp_link.proofs.Delivering.{delivers-debugger, delivers-target}
use Rattle.jdwp_link.proofs.Losing.{loses-debugger, loses-target, loses-tells}
use Rattle.jdwp_link.proofs.Reached.{goes, known}
use Rattle.jdwp_link.proofs.Releasing.{defers-parts, releases-so}
use Rattle.jdwp_link.proofs.Stepping.{frozen-parts, same-frozen, step-parts}
use Rattle.jdwp_link.proofs.Turning.{HasCall, IsIdle, idle-parts, turn-parts, target-has}

-- ---- sessions, deliveries and losses

did-attach : {S : Type 0} (l : Link S) (b : Bool) → (cond b (attached l) (idle l)).did ≡ false
did-attach l true = refl
did-attach l false = refl

pub goes-attach : {S : Type 0} (m : Meaning S) → HoldsOfWorlds m → (l : Link S) → Goes m Events.Attach l (attaches l) []
goes-attach m worlds l = goes m Events.Attach l (attaches l) []
    (λ x s. attach-parts m _ _ l x (known m worlds _ _ x s.reached) s.parts) (λ x s. refl) (λ x s. did-attach l (may_attach l))

pub goes-to-target : {S : Type 0} (m : Meaning S) (l : Link S) (n : ℕ) → FindsMessages → Goes m (Events.ToTarget n) l (delivered_to_target (come_to_target n l) l) []
goes-to-target m l n finds = goes m (Events.ToTarget n) l (delivered_to_target (come_to_target n l) l) [] (λ x s. delivers-target m _ _ l x n finds s.parts) (λ x s. refl) (λ x s. refl)

pub goes-to-debugger : {S : Type 0} (m : Meaning S) (l : Link S) (n : ℕ) → FindsMessages → Goes m (Events.ToDebugger n) l (delivered_to_debugger (come_to_debugger n l) l) []
goes-to-debugger m l n finds = goes m (Events.ToDebugger n) l (delivered_to_debugger (come_to_debugger n l) l) [] (λ x s. delivers-debugger m _ _ l x n finds s.parts) (λ x s. refl) (λ x s. refl)

pub goes-target-loses : {S : Type 0} (m : Meaning S) (l : Link S) → Goes m Events.TargetLoses l (target_lost l) []
goes-target-loses m l = goes m Events.TargetLoses l (target_lost l) [] (λ x s. loses-target m _ _ l x s.parts) (λ x s. refl) (λ x s. refl)

pub goes-debugger-loses : {S : Type 0} (m : Meaning S) → HoldsOfWorlds m → (l : Link S) → Goes m Events.DebuggerLoses l (record (debugger_lost l) { did = false }) (lost_of (tickets_of l.debugger.pending))
goes-debugger-loses m worlds l = goes m Events.DebuggerLoses l (record (debugger_lost l) { did = false }) (lost_of (tickets_of l.debugger.pending))
    (λ x s. loses-debugger m _ _ l x false s.parts) (λ x s. loses-tells m _ _ l x (known m worlds _ _ x s.reached) s.parts) (λ x s. refl)

-- ---- steps

pub goes-frozen : {S : Type 0} (m : Meaning S) (l : Link S) (t : ℕ) → FindsMessages → TargetKeeps l.target.end → is_frozen m t l.target ≡ true → Goes m (Events.Step t) l (idle l) []
goes-frozen m l t finds keeps frozen = goes m (Events.Step t) l (idle l) []
    (λ x s. frozen-parts m _ _ l x t finds s.parts keeps frozen) (λ x s. refl) (λ x s. sym (same-frozen m _ _ l x t finds s.parts keeps ∙ ap not frozen))

pub goes-step : {S : Type 0} (m : Meaning S) → HoldsOfWorlds m → (l : Link S) (t : ℕ) → FindsMessages → PutsMessages m → TargetKeeps l.target.end
    → is_frozen m t l.target ≡ false → EncodesWhere m t l.target false → SendsWhere m t l.target false → Goes m (Events.Step t) l (record l { target = with_step m t l.target; did = true }) []
goes-step m worlds l t finds puts keeps free encoded sends = goes m (Events.Step t) l (record l { target = with_step m t l.target; did = true }) []
    (λ x s. step-parts m _ _ l x t finds puts (known m worlds _ _ x s.reached) s.parts keeps free encoded sends) (λ x s. refl)
    (λ x s. sym (same-frozen m _ _ l x t finds s.parts keeps ∙ ap not free))

-- what is told of a step that is made
step-told : (sends : Option CompositeMeaning) (ends : Bool) → step_did (told_by_end sends ends) ≡ true
step-told sends true = refl
step-told None false = refl
step-told (Some c) false = refl

stepped-by : {S : Type 0} (m : Meaning S) → HoldsOfWorlds m → (l : Link S) (t : ℕ) (stepped : Stepped) (after : Target S) (b : Bool) → FindsMessages → PutsMessages m → TargetKeeps l.target.end → is_frozen m t l.target ≡ b
    → StepsWhere m t l.target stepped after b → EncodesWhere m t l.target b → SendsWhere m t l.target b → Goes m (Events.Step t) l (record l { target = after; did = step_did stepped }) []
stepped-by m worlds l t stepped after true finds puts keeps frozen (told, same) encoded sends =
    let none : step_did stepped ≡ false = ap step_did told in
    subst (λ v. Goes m (Events.Step t) l (record l { target = v; did = step_did stepped }) []) (sym same) (subst (λ b. Goes m (Events.Step t) l (record l { did = b }) []) (sym none) (goes-frozen m l t finds keeps frozen))
stepped-by m worlds l t stepped after false finds puts keeps free (told, same) encoded sends =
    let o = occurs m l.target.moment t in
    let done : step_did stepped ≡ true = ap step_did told ∙ step-told o.sends o.ends in
    subst (λ v. Goes m (Events.Step t) l (record l { target = v; did = step_did stepped }) []) (sym same)
    (subst (λ b. Goes m (Events.Step t) l (record l { target = with_step m t l.target; did = b }) []) (sym done) (goes-step m worlds l t finds puts keeps free encoded sends))

pub goes-stepped : {S : Type 0} (m : Meaning S) → HoldsOfWorlds m → (l : Link S) (t : ℕ) (stepped : Stepped) (after : Target S) → Laws m → TargetKeeps l.target.end
    → StepsWhere m t l.target stepped after (is_frozen m t l.target) → EncodesWhere m t l.target (is_frozen m t l.target) → SendsWhere m t l.target (is_frozen m t l.target)
    → Goes m (Events.Step t) l (record l { target = after; did = step_did stepped }) []
goes-stepped m worlds l t stepped after laws keeps so encoded sends = stepped-by m worlds l t stepped after (is_frozen m t l.target) laws.finds laws.puts keeps refl so encoded sends

-- ---- the target's turn

-- a message in front is told
tells-call : {S : Type 0} (m : Meaning S) (old : Target S) (w : Widths) (id : ℕ) (call : Call) (deferred : Bool) → turn_did (told_where m old (call_sent w id call) deferred) ≡ true
tells-call m old w id Greets deferred = refl
tells-call m old w id (Asks k c) true = refl
tells-call m old w id (Asks k c) false = refl

-- what a turn that answers leaves of a world
answers-so : {S : Type 0} (m : Meaning S) → HoldsOfWorlds m → (l : Link S) (x : World S) (turn : Turn) (after : Target S) → Laws m → l.target.settings.limits.packet < 2 ^ 32 → (s : StandsFor m l x)
    → IsIdle l.target.settings (m.sizes l.target.moment.machine) l.target.end x ⊎ HasCall l.target.settings (m.sizes l.target.moment.machine) l.target.end x s.parts.to.wires
    → TurnsAt m (front_of l.target.end) l.target (Ok turn) after → EncodesNext m (front_of l.target.end) l.target → SendsAt m (front_of l.target.end) l.target
    → Parts m l.target.settings (m.sizes l.target.moment.machine) (record l { target = after; did = turn_did turn }) (target_turn m l.target.settings (measure_of m l) x) × (turn_did turn ≡ acts m l.target.settings (measure_of m l) x Events.TargetTurn)
answers-so m worlds l x turn after laws small s (inl h) so encoded sends =
    let (told, same) = subst (λ f. TurnsAt m f l.target (Ok turn) after) h.front so in
    let nothing : turn ≡ turns.Nothing = cc in
    let none : turn_did turn ≡ false = ap turn_did nothing in (
      subst (λ t. Parts m l.target.settings (m.sizes l.target.moment.machine) (record l { target = t; did = turn_did turn }) (target_turn m l.target.settings (measure_of m l) x)) (sym same)
          (subst (λ b. Parts m l.target.settings (m.sizes l.target.moment.machine) (record l { did = b }) (target_turn m l.target.settings (measure_of m l) x)) (sym none) (idle-parts m _ _ l x s.parts h)),
      none ∙ sym (ap is_some h.none),
    )
answers-so m worlds l x turn after laws small s (inr h) so encoded sends =
    let w = m.sizes l.target.moment.machine in
    let (told, same) = subst (λ f. TurnsAt m f l.target (Ok turn) after) h.front so in
    let did : turn_did turn ≡ true = ap turn_did told ∙ tells-call m l.target w h.id h.call (defers (full_standing l.target) (call_sent w h.id h.call)) in
    let parts = turn-parts m l.target.settings w l x laws (known m worlds l.target.settings w x s.reached) s.parts h (subst (λ f. EncodesNext m f l.target) h.front encoded) (subst (λ f. SendsAt m f l.target) h.front sends) in (
      subst (λ t. Parts m l.target.settings w (record l { target = t; did = turn_did turn }) (target_turn m l.target.settings (measure_of m l) x)) (sym same)
          (subst (λ b. Parts m l.target.settings w (record l { target = with_handled m (call_sent w h.id h.call) (call_size w h.call) l.target; did = b }) (target_turn m l.target.settings (measure_of m l) x)) (sym did) parts),
      did ∙ sym (ap is_some h.some),
    )

pub goes-turn : {S : Type 0} (m : Meaning S) → HoldsOfWorlds m → (l : Link S) (turn : Turn) (after : Target S) → Laws m → l.target.settings.limits.packet < 2 ^ 32
    → TurnsAt m (front_of l.target.end) l.target (Ok turn) after → EncodesNext m (front_of l.target.end) l.target → SendsAt m (front_of l.target.end) l.target
    → Goes m Events.TargetTurn l (record l { target = after; did = turn_did turn }) []
goes-turn {S} m worlds l turn after laws small so encoded sends =
    let all = λ (x : World S) (s : StandsFor m l x). answers-so m worlds l x turn after laws small s (target-has m l.target.settings (m.sizes l.target.moment.machine) l x laws.finds small (known m worlds _ _ x s.reached) s.parts) so encoded sends in
    goes m Events.TargetTurn l (record l { target = after; did = turn_did turn }) [] (λ x s. (all x s).0) (λ x s. refl) (λ x s. (all x s).1)

-- a turn that fails wants memory
fails-so : {S : Type 0} (m : Meaning S) (l : Link S) (x : World S) (fault : TargetFault) (after : Target S) (wires : List CallWire)
    → IsIdle l.target.settings (m.sizes l.target.moment.machine) l.target.end x ⊎ HasCall l.target.settings (m.sizes l.target.moment.machine) l.target.end x wires
    → TurnsAt m (front_of l.target.end) l.target (Err fault) after → (fault ≡ faults.NoMemory) × (after ≡ l.target) × MayStop m l Events.TargetTurn
fails-so m l x fault after wires (inl h) so = let (told, same) = subst (λ f. TurnsAt m f l.target (Err fault) after) h.front so in absurd (cc)
fails-so m l x fault after wires (inr h) so =
    let (is, needs, same) = subst (λ f. TurnsAt m f l.target (Err fault) after) h.front so in
    (is, same, (call_sent (m.sizes l.target.moment.machine) h.id h.call, call_size (m.sizes l.target.moment.machine) h.call, h.front, needs))

pub turn-fails : {S : Type 0} (m : Meaning S) → HoldsOfWorlds m → (l : Link S) (fault : TargetFault) (after : Target S) → Laws m → l.target.settings.limits.packet < 2 ^ 32 → IsLink m l
    → TurnsAt m (front_of l.target.end) l.target (Err fault) after → (fault ≡ faults.NoMemory) × (after ≡ l.target) × MayStop m l Events.TargetTurn
turn-fails m worlds l fault after laws small link so =
    let s = link.stands in
    fails-so m l link.world fault after s.parts.to.wires (target-has m l.target.settings (m.sizes l.target.moment.machine) l link.world laws.finds small (known m worlds _ _ link.world s.reached) s.parts) so

-- ---- replies that are deferred

pub goes-defer : {S : Type 0} (m : Meaning S) (l : Link S) (deferring : Bool) → Goes m (Events.Defer deferring) l (record l { target = with_deferring deferring l.target; did = false }) []
goes-defer m l deferring = goes m (Events.Defer deferring) l (record l { target = with_deferring deferring l.target; did = false }) [] (λ x s. defers-parts m _ _ l x deferring false s.parts) (λ x s. refl) (λ x s. refl)

pub goes-release : {S : Type 0} (m : Meaning S) → HoldsOfWorlds m → (l : Link S) (place : ℕ) (turn : Turn) (after : Target S) → Laws m
    → ReleasesAt m place (deferred_at place l.target) l.target (Ok turn) after → EncodesReleased m (deferred_at place l.target) l.target → SendsReleased m place (deferred_at place l.target) l.target
    → Goes m (Events.Release place) l (record l { target = after; did = turn_did turn }) []
goes-release {S} m worlds l place turn after laws so encoded sends =
    let all = λ (x : World S) (s : StandsFor m l x). releases-so m l.target.settings (m.sizes l.target.moment.machine) l x place turn after laws (known m worlds _ _ x s.reached) s.parts so encoded sends in
    goes m (Events.Release place) l (record l { target = after; did = turn_did turn }) [] (λ x s. (all x s).parts) (λ x s. refl) (λ x s. (all x s).did)

-- ---- a command is asked

unrefused : (refusal : Option AskRefusal) → None ≡ option_map refusal_told refusal → refusal ≡ None
unrefused None e = refl
unrefused (Some r) e = absurd (cc)

refused-so : {S : Type 0} (x : World S) (c : Command) (refused : Refused) (refusal : Option AskRefusal) → Some refused ≡ option_map refusal_told refusal
    → ((ask_by x c refusal).0 ≡ x) × (told_outcomes (ask_by x c refusal).1 ≡ outcome.Refused refused ∷ [])
refused-so x c refused None e = absurd (cc)
refused-so x c refused (Some r) e = let same : refused ≡ refusal_told r = cc in (refl, ap (λ q. outcome.Refused q ∷ []) (sym same))

pub goes-asked : {S : Type 0} (m : Meaning S) (l : Link S) (c : Command) (ticket : Ticket) (after : Debugger) → FindsMessages → DebuggerKeeps l.debugger → refusal_of_ask l.debugger c ≡ None → ticket.0 ≡ l.debugger.tickets + 1 → HasAsked c l.debugger after
    → Goes m (Events.Ask c) l (record l { debugger = after; did = false }) (outcome.Asked ticket ∷ [])
goes-asked {S} m l c ticket after finds keeps none is asked =
    let free = λ (x : World S) (s : StandsFor m l x). unrefused (ask_refusal l.target.settings (measure_of m l) x c) (sym none ∙ same-refusal m l.target.settings (m.sizes l.target.moment.machine) l x c finds keeps s.parts) in
    goes m (Events.Ask c) l (record l { debugger = after; did = false }) (outcome.Asked ticket ∷ [])
    (λ x s. subst (λ r. Parts m l.target.settings (m.sizes l.target.moment.machine) (record l { debugger = after; did = false }) (ask_by x c r).0) (sym (free x s)) (ask-parts m _ _ l x c after s.parts asked))
    (λ x s. ap (λ n. outcome.Asked (record { 0 = n }) ∷ []) (is ∙ ap (λ n. n + 1) s.parts.debugger.tickets) ∙ ap (λ r. told_outcomes (ask_by x c r).1) (sym (free x s)))
    (λ x s. refl)

pub goes-refused : {S : Type 0} (m : Meaning S) (l : Link S) (c : Command) (refused : Refused) → FindsMessages → DebuggerKeeps l.debugger → refusal_of_ask l.debugger c ≡ Some refused
    → Goes m (Events.Ask c) l (idle l) (outcome.Refused refused ∷ [])
goes-refused {S} m l c refused finds keeps is =
    let so = λ (x : World S) (s : StandsFor m l x). refused-so x c refused (ask_refusal l.target.settings (measure_of m l) x c) (sym is ∙ same-refusal m l.target.settings (m.sizes l.target.moment.machine) l x c finds keeps s.parts) in
    goes m (Events.Ask c) l (idle l) (outcome.Refused refused ∷ [])
    (λ x s. subst (λ y. Parts m l.target.settings (m.sizes l.target.moment.machine) (idle l) y) (sym (so x s).0) (parts-did m _ _ l x false s.parts))
    (λ x s. sym (so x s).1) (λ x s. refl)

-- a command is asked, or refused
pub goes-told : {S : Type 0} (m : Meaning S) (l : Link S) (c : Command) (o : Outcome) (after : Debugger) → FindsMessages → DebuggerKeeps l.debugger → AsksSo c l.debugger o after → Goes m (Events.Ask c) l (record l { debugger = after; did = false }) (o ∷ [])
goes-told m l c (outcome.Asked ticket) after finds keeps (none, is, asked) = goes-asked m l c ticket after finds keeps none is asked
goes-told m l c (outcome.Refused refused) after finds keeps (is, same) =
    subst (λ d. Goes m (Events.Ask c) l (record l { debugger = d; did = false }) (outcome.Refused refused ∷ [])) (sym same) (goes-refused m l c refused finds keeps is)
goes-told m l c (outcome.Answered ticket answer) after finds keeps h = absurd h
goes-told m l c (outcome.Lost ticket) after finds keeps h = absurd h
goes-told m l c (outcome.Seen composite) after finds keeps h = absurd h
