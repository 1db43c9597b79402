-- What a step leaves of a target over a machine.
use Rattle.std.proofs.Common.{◌≡◌, ◌∙◌, ◌≤◌, ◌<◌, ◌+◌, ℕ, nat_le, Bool, true, false, cond, List, [], ◌∷◌, length, Option, Some, None, refl, sym, ap, subst, arith}
use Rattle.std.specs.Prelude.{IfSome}
use Rattle.std.proofs.lemmas.Bool.{leb-false}
use Rattle.jdwp_wire.specs.Widths.{Widths}
use Rattle.jdwp_wire.specs.Streams.{AreSendable}
use Rattle.jdwp_wire.specs.Limits.{least_packet_limit, most_packet_limit}
use Rattle.jdwp_end.specs.declared.phase.Phase.{Phase}
use Rattle.jdwp_end.specs.declared.phase.Phase.TheVariants.{Closed, AwaitingHandshake, Established}
use Rattle.jdwp_end.specs.Ends.{End, is_established_phase, is_paused, most_outgoing}
use Rattle.jdwp_layout.specs.Writes.{data_canonical}
use Rattle.jdwp_event.specs.CompositeBytes.{composite_canonical}
use Rattle.jdwp_event.specs.Composites.{CompositeMeaning, composite_data}
use Rattle.jdwp_event.specs.Occurrences.{HappeningMeaning, started, runs_out}
use Rattle.jdwp_machine.specs.Meanings.{Meaning}
use Rattle.jdwp_debuggee.specs.Debuggees.{Debuggee, at_moment, visiting}
use Rattle.jdwp_debuggee.specs.Sending.{FitsPacket}
use Rattle.jdwp_debuggee.specs.State.{State, Thread, Moment, is_marked, without_thread}
use Rattle.jdwp_debuggee.specs.StepParts as debuggee
use Rattle.jdwp_debuggee.specs.Steps.{Step, death_by, ended_by, happens, may_step, occurs, occurs_by, report_by, with_happening, with_started}
use Rattle.jdwp_debuggee.specs.Visits.{visits_stepped}
use Rattle.jdwp_debuggee.specs.declared.steps.StepDone.{StepDone}
use Rattle.jdwp_target.specs.Insides.{Deferral, IsRightTarget, target_of}
use Rattle.jdwp_target.specs.Standings.{Reaction, Standing, Steps, behind, react, reports_step, stands, steps_apart, steps_at, steps_by, steps_in_session}
use Rattle.jdwp_target.specs.StepParts.{CanBeReported, CanLeave, debuggee_after, end_after, step_of}
use Rattle.jdwp_target.specs.Targets.{Ran, Target, full_standing}
use Rattle.jdwp_target.specs.Deeds.{Does, perform}
use Rattle.jdwp_target.specs.Turns.{SendsWhere, is_frozen}
use Rattle.jdwp_target.proofs.TargetRuns.{ran-stepped}

-- ---- what a step of the debuggee leaves

ended-handshaken : (threads : List Thread) (state : State) → (ended_by threads state).0.handshaken ≡ state.handshaken
ended-handshaken [] state = refl
ended-handshaken (entry ∷ entries) state = refl

left-handshaken : (t : ℕ) (state : State) → (ended_by (without_thread t state).threads (without_thread t state)).0.handshaken ≡ state.handshaken
left-handshaken t state = ended-handshaken (without_thread t state).threads (without_thread t state)

started-handshaken : (o : Option ℕ) (state : State) → (with_started o state).handshaken ≡ state.handshaken
started-handshaken None state = refl
started-handshaken (Some t) state = refl

death-handshaken : {S : Type 0} (m : Meaning S) (s : S) (t : ℕ) (h : HappeningMeaning) (state : State) (c : Option CompositeMeaning) → (death_by m s t h state c).after.state.handshaken ≡ state.handshaken
death-handshaken m s t h state None = left-handshaken t (with_happening h state)
death-handshaken m s t h state (Some c) = refl

report-handshaken : {S : Type 0} (m : Meaning S) (s : S) (t : ℕ) (h : HappeningMeaning) (state : State) (c : Option CompositeMeaning) → (report_by m s t h state c).after.state.handshaken ≡ state.handshaken
report-handshaken m s t h state None = started-handshaken (started h) (with_happening h state)
report-handshaken m s t h state (Some c) = started-handshaken (started h) (with_happening h state)

happens-handshaken : {S : Type 0} (m : Meaning S) (now : Moment S) (t : ℕ) (h : HappeningMeaning) (b : Bool) → (happens m now t h b).after.state.handshaken ≡ now.state.handshaken
happens-handshaken m now t h true = death-handshaken m now.machine t h now.state _
happens-handshaken m now t h false = report-handshaken m now.machine t h now.state _

occurs-handshaken-by : {S : Type 0} (m : Meaning S) (now : Moment S) (t : ℕ) (b : Bool) → (occurs_by m now t b).after.state.handshaken ≡ now.state.handshaken
occurs-handshaken-by m now t true = left-handshaken t now.state
occurs-handshaken-by m now t false = happens-handshaken m now t (m.next now.machine t) (runs_out (m.next now.machine t))

pub occurs-handshaken : {S : Type 0} (m : Meaning S) (now : Moment S) (t : ℕ) → (occurs m now t).after.state.handshaken ≡ now.state.handshaken
occurs-handshaken m now t = occurs-handshaken-by m now t (is_marked now.state t)

-- ---- where the machine dies nothing else is reported

death-alone : {S : Type 0} (m : Meaning S) (s : S) (t : ℕ) (h : HappeningMeaning) (state : State) (c : Option CompositeMeaning) → (death_by m s t h state c).dies ≡ true → (death_by m s t h state c).sends ≡ None
death-alone m s t h state None e = refl
death-alone m s t h state (Some c) e = cc

report-alone : {S : Type 0} (m : Meaning S) (s : S) (t : ℕ) (h : HappeningMeaning) (state : State) (c : Option CompositeMeaning) → (report_by m s t h state c).dies ≡ true → (report_by m s t h state c).sends ≡ None
report-alone m s t h state None e = refl
report-alone m s t h state (Some c) e = cc

happens-alone : {S : Type 0} (m : Meaning S) (now : Moment S) (t : ℕ) (h : HappeningMeaning) (b : Bool) → (happens m now t h b).dies ≡ true → (happens m now t h b).sends ≡ None
happens-alone m now t h true e = death-alone m now.machine t h now.state _ e
happens-alone m now t h false e = report-alone m now.machine t h now.state _ e

occurs-alone-by : {S : Type 0} (m : Meaning S) (now : Moment S) (t : ℕ) (b : Bool) → (occurs_by m now t b).dies ≡ true → (occurs_by m now t b).sends ≡ None
occurs-alone-by m now t true e = refl
occurs-alone-by m now t false e = happens-alone m now t (m.next now.machine t) (runs_out (m.next now.machine t)) e

pub occurs-alone : {S : Type 0} (m : Meaning S) (now : Moment S) (t : ℕ) → (occurs m now t).dies ≡ true → (occurs m now t).sends ≡ None
occurs-alone m now t e = occurs-alone-by m now t (is_marked now.state t) e

-- ---- what the target's acts leave

abbrev pub stepped_by : {S : Type 0} → Meaning S → ℕ → Debuggee S → End → Reaction S
stepped_by m t d end = react m d.settings (stands d.moment end.phase) (Steps t)

apart-phase : {S : Type 0} (now : Standing S) (dies : Bool) → (steps_apart now dies).after.phase ≡ Established → now.phase ≡ Established
apart-phase now true e = absurd cc
apart-phase now false e = e

apart-moment : {S : Type 0} (now : Standing S) (dies : Bool) → (steps_apart now dies).after.moment ≡ now.moment
apart-moment now true = refl
apart-moment now false = refl

-- an end that is established after a step was so before it
at-phase : {S : Type 0} (w : Widths) (id : ℕ) (o : Step S) (now : Standing S) (phase : Phase) → now.phase ≡ phase → (steps_at w id o now phase).after.phase ≡ Established → now.phase ≡ Established
at-phase w id o now Established is e = is
at-phase w id o now AwaitingHandshake is e = apart-phase now o.dies e
at-phase w id o now Closed is e = apart-phase now o.dies e

session-handshaken : {S : Type 0} (w : Widths) (id : ℕ) (o : Step S) (now : Standing S) (dies : Bool) → (steps_in_session w id o (behind o now) dies).after.moment.state.handshaken ≡ o.after.state.handshaken
session-handshaken w id o now true = refl
session-handshaken w id o now false = refl

at-handshaken : {S : Type 0} (w : Widths) (id : ℕ) (o : Step S) (now : Standing S) (phase : Phase) → (steps_at w id o (behind o now) phase).after.moment.state.handshaken ≡ o.after.state.handshaken
at-handshaken w id o now Established = session-handshaken w id o now o.dies
at-handshaken {S = S} w id o now AwaitingHandshake = ap (λ (x : Moment S). x.state.handshaken) (apart-moment (behind o now) o.dies)
at-handshaken {S = S} w id o now Closed = ap (λ (x : Moment S). x.state.handshaken) (apart-moment (behind o now) o.dies)

by-handshaken : {S : Type 0} (m : Meaning S) (t : ℕ) (now : Standing S) (may : Bool) → (now.phase ≡ Established → now.moment.state.handshaken ≡ true)
    → (steps_by m now t may).after.phase ≡ Established → (steps_by m now t may).after.moment.state.handshaken ≡ true
by-handshaken m t now false had e = had e
by-handshaken m t now true had e =
    let w = m.sizes now.moment.machine in
    let id = now.moment.state.next_packet in
    let o = occurs m now.moment t in
    at-handshaken w id o now now.phase ∙ (occurs-handshaken m now.moment t ∙ had (at-phase w id o (behind o now) now.phase refl e))

-- what is deferred behind a step
abbrev pub deferral_stepped : {S : Type 0} → Meaning S → ℕ → Debuggee S → Deferral → End → Deferral
deferral_stepped m t d x end = record x { commands = cond (is_established_phase (stepped_by m t d end).after.phase) x.commands [] }

-- a target is as it should be after a step
pub right-stepped : {S : Type 0} (m : Meaning S) (t : ℕ) (d : Debuggee S) (x : Deferral) (began : List (Debuggee S)) (phases : List Phase) (steps : ℕ) (end : End) → may_step m d.settings d.moment t ≡ true
    → AreSendable end.limits.packet (stepped_by m t d end).sends → IsRightTarget m d x began phases steps end
    → IsRightTarget m (visiting (visits_stepped m d.moment t d.visits) (debuggee_after (stepped_by m t d end) d)) (deferral_stepped m t d x end) began phases (steps + 1) (end_after (stepped_by m t d end) end)
right-stepped {S = S} m t d x began phases steps end may sends k =
    let first = k.some.0 in
    let rest = k.some.1 in
    let split : began ≡ first ∷ rest = k.some.2 in
    let new = visiting (visits_stepped m d.moment t d.visits) (debuggee_after (stepped_by m t d end) d) in
    let newer = end_after (stepped_by m t d end) end in
    let left = deferral_stepped m t d x end in
    let ran : Ran m (target_of d x (first ∷ rest) phases steps end) = subst (λ (b : List (Debuggee S)). Ran m (target_of d x b phases steps end)) split k.ran in
    record {
      some = k.some;
      handshaken = λ e. by-handshaken m t (stands d.moment end.phase) (may_step m d.settings d.moment t) k.handshaken e;
      limits = k.limits;
      ran = subst (λ (b : List (Debuggee S)). Ran m (target_of new left b phases (steps + 1) newer)) (sym split) (ran-stepped m (target_of d x (first ∷ rest) phases steps end) t may sends ran);
    }

-- ---- what the code does

same-step : {S : Type 0} (d e : Debuggee S) (visits : ℕ) (o : Step S) (done : StepDone) → e ≡ visiting visits (at_moment o.after d) → done.sends ≡ o.sends → done.ends ≡ o.ends → done.dies ≡ o.dies → step_of e done ≡ o
same-step d e visits o done after sends ends dies = rw (after, sends, ends, dies) refl

acts : {S : Type 0} (m : Meaning S) (t : ℕ) (d : Debuggee S) (end : End) → may_step m d.settings d.moment t ≡ true
    → stepped_by m t d end ≡ reports_step (m.sizes d.moment.machine) d.moment.state.next_packet (occurs m d.moment t) (stands d.moment end.phase)
acts m t d end may = rw may refl

-- The debuggee made a step (`e`), and was told of (`f`), and so was the end.
pub stepped-debuggee : {S : Type 0} (m : Meaning S) (t : ℕ) (d e f : Debuggee S) (end : End) (w : Widths) (id : ℕ) (done : StepDone)
    → debuggee.Steps m t d e done → w ≡ m.sizes d.moment.machine → id ≡ d.moment.state.next_packet
    → f ≡ debuggee_after (reports_step w id (step_of e done) (stands e.moment end.phase)) e
    → f ≡ visiting (visits_stepped m d.moment t d.visits) (debuggee_after (stepped_by m t d end) d)
stepped-debuggee m t d e f end w id done s sizes packet is =
    let o : step_of e done ≡ occurs m d.moment t = same-step d e (visits_stepped m d.moment t d.visits) (occurs m d.moment t) done s.after s.sends s.ends s.dies in
    rw (is, o, sizes, packet, s.after, acts m t d end s.may) refl

pub stepped-end : {S : Type 0} (m : Meaning S) (t : ℕ) (d e : Debuggee S) (end new : End) (w : Widths) (id : ℕ) (done : StepDone)
    → debuggee.Steps m t d e done → w ≡ m.sizes d.moment.machine → id ≡ d.moment.state.next_packet
    → new ≡ end_after (reports_step w id (step_of e done) (stands e.moment end.phase)) end
    → new ≡ end_after (stepped_by m t d end) end
stepped-end m t d e end new w id done s sizes packet is =
    let o : step_of e done ≡ occurs m d.moment t = same-step d e (visits_stepped m d.moment t d.visits) (occurs m d.moment t) done s.after s.sends s.ends s.dies in
    rw (is, o, sizes, packet, s.after, acts m t d end s.may) refl

pub stepped-sends : {S : Type 0} (m : Meaning S) (t : ℕ) (d e : Debuggee S) (end : End) (w : Widths) (id limit : ℕ) (done : StepDone)
    → debuggee.Steps m t d e done → w ≡ m.sizes d.moment.machine → id ≡ d.moment.state.next_packet
    → AreSendable limit (reports_step w id (step_of e done) (stands e.moment end.phase)).sends → AreSendable limit (stepped_by m t d end).sends
stepped-sends m t d e end w id limit done s sizes packet sends =
    let o : step_of e done ≡ occurs m d.moment t = same-step d e (visits_stepped m d.moment t d.visits) (occurs m d.moment t) done s.after s.sends s.ends s.dies in
    rw (acts m t d end s.may) (rw (o, sizes, packet, s.after) at sends)

pub sends-where : {S : Type 0} (m : Meaning S) (t : ℕ) (v : Target S) → is_paused v.end ≡ false → may_step m v.settings v.moment t ≡ true
    → AreSendable v.end.limits.packet (perform m v.settings (full_standing v) (Does (Steps t))).sends → SendsWhere m t v (is_frozen m t v)
sends-where m t v flows may sends =
    let going : is_frozen m t v ≡ false = rw (flows, may) refl in
    rw going sends

-- what is deferred behind it, where the end is established or not
pub stepped-deferral : {S : Type 0} (m : Meaning S) (t : ℕ) (d : Debuggee S) (x y : Deferral) (end new : End) (goes_on : Bool) → new ≡ end_after (stepped_by m t d end) end → goes_on ≡ is_established_phase new.phase
    → y ≡ record x { commands = cond goes_on x.commands [] } → y ≡ deferral_stepped m t d x end
stepped-deferral m t d x y end new goes_on is same left =
    left ∙ (ap (λ (b : Bool). record x { commands = cond b x.commands [] }) same ∙ ap (λ (e : End). record x { commands = cond (is_established_phase e.phase) x.commands [] }) is)

-- ---- what can be told

not-paused : (limit n : ℕ) → nat_le limit n ≡ false → n < limit
not-paused limit n e = leb-false limit n e

leaves : (w : Widths) (end : End) (c : CompositeMeaning) → is_paused end ≡ false → end.limits.packet ≤ most_packet_limit → FitsPacket w end.limits.packet c → CanLeave w end c
leaves w end c flows most fits =
    let waits : length end.outgoing < end.limits.packet = not-paused end.limits.packet (length end.outgoing) flows in
    let same : length (composite_canonical w c) ≡ length (data_canonical w (composite_data c)) = ap length fits.same_bytes in
    let within : 11 + length (composite_canonical w c) ≤ end.limits.packet = rw same fits.within in
    record { writable = fits.unrefused; small = omega arith; room = omega arith; within = fits.within }

-- what fits a packet can be reported where the end is not paused
pub reports-leave : (w : Widths) (end : End) (sends : Option CompositeMeaning) → is_paused end ≡ false → end.limits.packet ≤ most_packet_limit
    → IfSome sends (FitsPacket w end.limits.packet) → CanBeReported w end sends
reports-leave w end None flows most fits = tt
reports-leave w end (Some c) flows most fits = leaves w end c flows most fits

pub death-leaves : (end : End) → is_paused end ≡ false → least_packet_limit ≤ end.limits.packet → length end.outgoing + 21 ≤ most_outgoing end.limits
death-leaves end flows least =
    let waits : length end.outgoing < end.limits.packet = not-paused end.limits.packet (length end.outgoing) flows in
    omega arith

pub dies-alone : {S : Type 0} (m : Meaning S) (t : ℕ) (d e : Debuggee S) (done : StepDone) → debuggee.Steps m t d e done → done.dies ≡ true → done.sends ≡ None
dies-alone m t d e done s dies = s.sends ∙ occurs-alone m d.moment t (sym s.dies ∙ dies)
