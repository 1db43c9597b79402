-- what events do where messages have no length: the same as at their lengths, but for how many bytes came
use Rattle.std.proofs.Common.{◌≡◌, ◌<◌, ℕ, ◌+◌, ◌-◌, Bool, true, false, ◌||◌, ◌&&◌, not, cond, Option, Some, None, List, [], ◌∷◌, length, refl, sym, ◌∙◌, ap}
use Rattle.std.specs.Prelude.{nat_lt}
use Rattle.std.proofs.lemmas.Bool.{lt-ltb}
use Rattle.jdwp_wire.specs.Limits.{Limits}
use Rattle.jdwp_wire.specs.Widths.{Widths}
use Rattle.jdwp_end.specs.declared.phase.Phase.{Phase}
use Rattle.jdwp_end.specs.declared.phase.Phase.TheVariants.{Closed, AwaitingHandshake, Established}
use Rattle.jdwp_end.specs.Ends.{is_established_phase}
use Rattle.jdwp_event.specs.Composites.{CompositeMeaning}
use Rattle.jdwp_machine.specs.Meanings.{Meaning}
use Rattle.jdwp_action.specs.Actions.{Command}
use Rattle.jdwp_debuggee.specs.Effects.{effect}
use Rattle.jdwp_debuggee.specs.Settings.{Settings}
use Rattle.jdwp_debuggee.specs.State.{Moment}
use Rattle.jdwp_debuggee.specs.Steps as debuggee
use Rattle.jdwp_debuggee.specs.Steps.{may_step, occurs}
use Rattle.jdwp_debuggee.specs.Deferring.{released_at}
use Rattle.jdwp_mirror.specs.Messages.{LAST_TICKET, Ticket, Call, Greets, Asks, Handshake, Reply, Report}
use Rattle.jdwp_mirror.specs.Faults.{fault_of}
use Rattle.jdwp_model.specs.Events as events
use Rattle.jdwp_model.specs.Events.{Outcome}
use Rattle.jdwp_model.specs.Measures.{measured, unfit}
use Rattle.jdwp_model.specs.Next.{ask_refusal, dies_by, answers, carries_out, defers, defers_or, greets_by, target_takes, target_handles, target_front, target_turn, target_turn_at, whole_call, release_front, releases, releases_at, closes_by, reads, reads_reply, reads_composite, reader, debugger_handles, debugger_takes, debugger_front, debugger_turn, debugger_turn_at, whole_packet, with_report, step_ends, stepped, steps, steps_now}
use Rattle.jdwp_model.specs.World.{Measure, Packet, World, is_closed, calls_size, packets_size, way_to_target, way_to_debugger}
use Rattle.jdwp_across.specs.Standing.{uncounted, unmeasured}

-- ---- nothing is under way

no-calls-length : (w : Widths) (limits : Limits) (cs : List Call) → calls_size (unmeasured w limits) cs ≡ 0
no-calls-length w limits [] = refl
no-calls-length w limits (c ∷ cs) = ap (λ n. 0 + n) (no-calls-length w limits cs)

no-packets-length : {S : Type 0} (w : Widths) (limits : Limits) (ps : List (Packet S)) → packets_size (unmeasured w limits) ps ≡ 0
no-packets-length w limits [] = refl
no-packets-length w limits (p ∷ ps) = ap (λ n. 0 + n) (no-packets-length w limits ps)

pub flows-to-target : {S : Type 0} (w : Widths) (limits : Limits) (x : World S) (packet : ℕ) → 0 < packet → nat_lt (way_to_target (unmeasured w limits) (uncounted x)) packet ≡ true
flows-to-target w limits x packet h = ap (λ n. nat_lt (n - 0) packet) (no-calls-length w limits x.to_target) ∙ lt-ltb 0 packet h

pub flows-to-debugger : {S : Type 0} (w : Widths) (limits : Limits) (x : World S) (packet : ℕ) → 0 < packet → nat_lt (way_to_debugger (unmeasured w limits) (uncounted x)) packet ≡ true
flows-to-debugger w limits x packet h = ap (λ n. nat_lt (n - 0) packet) (no-packets-length w limits x.to_debugger) ∙ lt-ltb 0 packet h

-- ---- the target

dies-uncounted : {S : Type 0} (x : World S) (b : Bool) → dies_by (uncounted x) b ≡ uncounted (dies_by x b)
dies-uncounted x true = refl
dies-uncounted x false = refl

carries-uncounted : {S : Type 0} (m : Meaning S) (settings : Settings) (x : World S) (k : Ticket) (c : Command) → carries_out m settings (uncounted x) k c ≡ uncounted (carries_out m settings x k c)
carries-uncounted m settings x k c = dies-uncounted (answers x k c (effect m settings x.now c)) (effect m settings x.now c).dies

greets-uncounted : {S : Type 0} (settings : Settings) (x : World S) (b : Bool) → greets_by settings (uncounted x) b ≡ uncounted (greets_by settings x b)
greets-uncounted settings x true = refl
greets-uncounted settings x false = refl

defers-uncounted : {S : Type 0} (m : Meaning S) (settings : Settings) (x : World S) (k : Ticket) (c : Command) (b : Bool) → defers_or m settings (uncounted x) k c b ≡ uncounted (defers_or m settings x k c b)
defers-uncounted m settings x k c true = refl
defers-uncounted m settings x k c false = carries-uncounted m settings x k c

handles-uncounted : {S : Type 0} (m : Meaning S) (settings : Settings) (measure : Measure) (w : Widths) (limits : Limits) (x : World S) (rest : List Call) (phase : Phase) (call : Call)
    → target_handles m settings (unmeasured w limits) (uncounted x) rest phase call ≡ uncounted (target_handles m settings measure x rest phase call)
handles-uncounted m settings measure w limits x rest Closed Greets = refl
handles-uncounted m settings measure w limits x rest Closed (Asks k c) = refl
handles-uncounted m settings measure w limits x rest AwaitingHandshake Greets = greets-uncounted settings (target_takes measure x Greets rest) x.now.state.handshaken
handles-uncounted m settings measure w limits x rest AwaitingHandshake (Asks k c) = refl
handles-uncounted m settings measure w limits x rest Established Greets = refl
handles-uncounted m settings measure w limits x rest Established (Asks k c) = defers-uncounted m settings (target_takes measure x (Asks k c) rest) k c (defers x c)

pub turn-uncounted : {S : Type 0} (m : Meaning S) (settings : Settings) (measure : Measure) (w : Widths) (x : World S) (call : Call) (rest : List Call) → 0 < settings.limits.packet
    → is_closed x.target ≡ false → x.to_target ≡ call ∷ rest → target_front settings measure x ≡ Some (call, rest)
    → target_turn m settings (unmeasured w settings.limits) (uncounted x) ≡ uncounted (target_turn m settings measure x)
turn-uncounted m settings measure w x call rest flows o first front =
    let here : target_front settings (unmeasured w settings.limits) (uncounted x) ≡ Some (call, rest) =
    ap (λ b. cond (not b && nat_lt (way_to_debugger (unmeasured w settings.limits) (uncounted x)) settings.limits.packet) (whole_call (unmeasured w settings.limits) 0 x.to_target) None) o
    ∙ (ap (λ b. cond b (whole_call (unmeasured w settings.limits) 0 x.to_target) None) (flows-to-debugger w settings.limits x settings.limits.packet flows)
    ∙ ap (λ cs. whole_call (unmeasured w settings.limits) 0 cs) first) in
    ap (target_turn_at m settings (unmeasured w settings.limits) (uncounted x)) here
    ∙ (handles-uncounted m settings measure w settings.limits x rest x.target call ∙ ap (λ f. uncounted (target_turn_at m settings measure x f)) (sym front))

released-uncounted : {S : Type 0} (m : Meaning S) (settings : Settings) (x : World S) (f : Option ((Ticket × Command) × List (Ticket × Command))) → releases_at m settings (uncounted x) f ≡ uncounted (releases_at m settings x f)
released-uncounted m settings x None = refl
released-uncounted m settings x (Some ((k, c), rest)) = carries-uncounted m settings (record x { deferred = rest }) k c

pub release-uncounted : {S : Type 0} (m : Meaning S) (settings : Settings) (measure : Measure) (w : Widths) (x : World S) (place : ℕ) → 0 < settings.limits.packet
    → nat_lt (way_to_debugger measure x) settings.limits.packet ≡ true
    → releases m settings (unmeasured w settings.limits) (uncounted x) place ≡ uncounted (releases m settings measure x place)
release-uncounted m settings measure w x place flows way =
    ap (λ b. releases_at m settings (uncounted x) (cond (is_established_phase x.target && b) (released_at place x.deferred) None)) (flows-to-debugger w settings.limits x settings.limits.packet flows ∙ sym way)
    ∙ released-uncounted m settings x (release_front settings measure x place)

report-uncounted : {S : Type 0} (x : World S) (after : Moment S) (sends : Option CompositeMeaning) → with_report (uncounted x) after sends ≡ uncounted (with_report x after sends)
report-uncounted x after None = refl
report-uncounted x after (Some c) = refl

ends-uncounted : {S : Type 0} (x : World S) (phase : Phase) (b : Bool) → step_ends (uncounted x) phase b ≡ uncounted (step_ends x phase b)
ends-uncounted x Closed false = refl
ends-uncounted x Closed true = refl
ends-uncounted x AwaitingHandshake false = refl
ends-uncounted x AwaitingHandshake true = refl
ends-uncounted x Established false = refl
ends-uncounted x Established true = refl

stepped-uncounted : {S : Type 0} (x : World S) (o : debuggee.Step S) → stepped (uncounted x) o ≡ uncounted (stepped x o)
stepped-uncounted x o = ap (λ z. step_ends z x.target o.dies) (report-uncounted x o.after o.sends) ∙ ends-uncounted (with_report x o.after o.sends) x.target o.dies

where-uncounted : {S : Type 0} (x : World S) (o : debuggee.Step S) (b : Bool) → cond b (stepped (uncounted x) o) (uncounted x) ≡ uncounted (cond b (stepped x o) x)
where-uncounted x o true = stepped-uncounted x o
where-uncounted x o false = refl

pub step-uncounted : {S : Type 0} (m : Meaning S) (settings : Settings) (measure : Measure) (w : Widths) (x : World S) (t : ℕ) → 0 < settings.limits.packet
    → nat_lt (way_to_debugger measure x) settings.limits.packet ≡ true
    → steps m settings (unmeasured w settings.limits) (uncounted x) t ≡ uncounted (steps m settings measure x t)
step-uncounted m settings measure w x t flows way =
    ap (λ b. cond (may_step m settings x.now t && (x.lost || b)) (stepped (uncounted x) (occurs m x.now t)) (uncounted x)) (flows-to-debugger w settings.limits x settings.limits.packet flows ∙ sym way)
    ∙ where-uncounted x (occurs m x.now t) (steps_now m settings measure x t)

-- ---- the debugger

pub same-asks : {S : Type 0} (settings : Settings) (w : Widths) (x : World S) (c : Command) → 0 < settings.limits.packet
    → nat_lt (way_to_target (measured w settings.limits) x) settings.limits.packet ≡ true
    → ask_refusal settings (unmeasured w settings.limits) (uncounted x) c ≡ ask_refusal settings (measured w settings.limits) x c
same-asks settings w x c flows way =
    ap (λ b. cond (is_closed x.debugger) (Some events.Closed) (cond (not (is_established_phase x.debugger && x.ready)) (Some events.NotReady)
    (cond (not (nat_lt (length x.pending) settings.limits.pending) || (not b || not (nat_lt x.asked LAST_TICKET))) (Some events.Busy) (unfit w settings.limits c))))
    (flows-to-target w settings.limits x settings.limits.packet flows ∙ sym way)

-- what an event leaves, and what is told of it
abbrev pub uncounted_first : {S : Type 0} → World S × List Outcome → World S × List Outcome
uncounted_first r = (uncounted r.0, r.1)

closes-uncounted : {S : Type 0} (x : World S) (os : List Outcome) (b : Bool) → closes_by (uncounted x) os b ≡ uncounted_first (closes_by x os b)
closes-uncounted x os true = refl
closes-uncounted x os false = refl

composite-uncounted : {S : Type 0} (x : World S) (p : Packet S) (c : CompositeMeaning) (b : Bool) → reads_composite (uncounted x) p c b ≡ uncounted_first (reads_composite x p c b)
composite-uncounted x p c false = refl
composite-uncounted x p c true = closes-uncounted (record x { read = p ∷ x.read }) _ _

reads-uncounted : {S : Type 0} (x : World S) (p : Packet S) → reads (uncounted x) p ≡ uncounted_first (reads x p)
reads-uncounted x (Handshake, a) = refl
reads-uncounted x (Reply k c v, a) = closes-uncounted (reads_reply x (Reply k c v, a) k) _ _
reads-uncounted x (Report c, a) = composite-uncounted x (Report c, a) c x.ready

pub read-uncounted : {S : Type 0} (settings : Settings) (measure : Measure) (w : Widths) (x : World S) (p : Packet S) (rest : List (Packet S)) → 0 < settings.limits.packet
    → is_closed x.debugger ≡ false → x.to_debugger ≡ p ∷ rest → debugger_front settings measure x ≡ Some (p, rest) → fault_of (reader x) p.0 ≡ None
    → debugger_turn settings (unmeasured w settings.limits) (uncounted x) ≡ uncounted_first (debugger_turn settings measure x)
read-uncounted settings measure w x p rest flows o first front fair =
    let here : debugger_front settings (unmeasured w settings.limits) (uncounted x) ≡ Some (p, rest) =
    ap (λ b. cond (not b && nat_lt (way_to_target (unmeasured w settings.limits) (uncounted x)) settings.limits.packet) (whole_packet (unmeasured w settings.limits) 0 x.to_debugger) None) o
    ∙ (ap (λ b. cond b (whole_packet (unmeasured w settings.limits) 0 x.to_debugger) None) (flows-to-target w settings.limits x settings.limits.packet flows)
    ∙ ap (λ ps. whole_packet (unmeasured w settings.limits) 0 ps) first) in
    ap (λ f. debugger_turn_at (unmeasured w settings.limits) (uncounted x) f) here
    ∙ (ap (λ f. debugger_handles (debugger_takes (unmeasured w settings.limits) (uncounted x) p rest) p f) fair
    ∙ (reads-uncounted (debugger_takes measure x p rest) p
    ∙ (ap (λ f. uncounted_first (debugger_handles (debugger_takes measure x p rest) p f)) (sym fair)
    ∙ ap (λ f. uncounted_first (debugger_turn_at measure x f)) (sym front))))
