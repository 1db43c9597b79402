-- How a run of a target over any machine goes on.
use Rattle.std.proofs.Common.{◌≡◌, ◌≢◌, ◌∙◌, ℕ, ◌+◌, ◌<◌, ◌≤◌, ◌++◌, Option, Some, None, List, [], ◌∷◌, length, take, ◌⊎◌, inl, inr, Bool, true, false, sym, ap, refl, subst, arith, append_assoc}
use Rattle.std.proofs.lemmas.List.{append-nil}
use Rattle.jdwp_wire.specs.Bytes.{IsBytes}
use Rattle.jdwp_wire.specs.Streams.{Message, Handshake, Packet, Whole, AreSendable, IsConversation, stream}
use Rattle.jdwp_wire.specs.Widths.{Widths}
use Rattle.jdwp_end.specs.declared.phase.Phase.{Phase}
use Rattle.jdwp_end.specs.declared.phase.Phase.TheVariants.{Closed, AwaitingHandshake, Established}
use Rattle.jdwp_end.specs.Ends.{End, front_of, is_established, is_established_phase, is_open}
use Rattle.jdwp_end.specs.Ends as ends
use Rattle.jdwp_end.specs.Runs.{Carries}
use Rattle.jdwp_end.specs.CarryingLaws.{carries-new, carries-opened, carries-fed, carries-handled, carries-enqueued, carries-closed, carries-taken, carries-lost, stream-append}
use Rattle.jdwp_end.specs.FrontLaws.{IsDue, due-open, in-front}
use Rattle.jdwp_machine.specs.Meanings.{Meaning}
use Rattle.jdwp_debuggee.specs.Settings.{Settings}
use Rattle.jdwp_debuggee.specs.State.{Moment}
use Rattle.jdwp_debuggee.specs.Steps.{Step, may_step, occurs}
use Rattle.jdwp_debuggee.specs.Deferring.{released_at}
use Rattle.jdwp_target.specs.Standings.{Act, Handles, Steps, Loses, Standing, behind, established, handled, has_loss, react, steps_made, steps_apart, steps_at, steps_by, steps_in_session}
use Rattle.jdwp_target.specs.Deeds.{Deed, DefersFew, Does, FullStanding, InOrder, MayBeDeferred, MayBeDone, Performance, Releases, SetsDeferring, acts_in, after, defers, handles_where, perform, releases_by, releases_made, sent}
use Rattle.jdwp_target.proofs.Conversing.{handling-converses, kind-converses, message-phase, some-sent, stepping-converses, waits-silent}
use Rattle.jdwp_target.proofs.Deferrals.{put-off-in-session, stays-few}
use Rattle.jdwp_target.specs.ReleaseLaws.{deferred-ones}
use Rattle.jdwp_target.specs.Targets.{Target, Ran, full_standing, in_phase, lost_target, new_target, opened_target, standing, with_deferring, with_fed, with_handled, with_release, with_step, with_taken}

-- ---- one act more

pub handled-message : (acts : List Act) (m : Message) → handled (acts ++ Handles m ∷ []) ≡ handled acts ++ m ∷ []
handled-message [] m = refl
handled-message (Handles n ∷ acts) m = ap (λ (x : List Message). n ∷ x) (handled-message acts m)
handled-message (Steps t ∷ acts) m = handled-message acts m
handled-message (Loses ∷ acts) m = handled-message acts m

handled-step : (acts : List Act) (t : ℕ) → handled (acts ++ Steps t ∷ []) ≡ handled acts
handled-step [] t = refl
handled-step (Handles n ∷ acts) t = ap (λ (x : List Message). n ∷ x) (handled-step acts t)
handled-step (Steps u ∷ acts) t = handled-step acts t
handled-step (Loses ∷ acts) t = handled-step acts t

handled-loss : (acts : List Act) → handled (acts ++ Loses ∷ []) ≡ handled acts
handled-loss [] = refl
handled-loss (Handles n ∷ acts) = ap (λ (x : List Message). n ∷ x) (handled-loss acts)
handled-loss (Steps u ∷ acts) = handled-loss acts
handled-loss (Loses ∷ acts) = handled-loss acts

-- the acts among one deed more
acts-act : (deeds : List Deed) (act : Act) → acts_in (deeds ++ Does act ∷ []) ≡ acts_in deeds ++ act ∷ []
acts-act [] act = refl
acts-act (Does other ∷ deeds) act = ap (λ (x : List Act). other ∷ x) (acts-act deeds act)
acts-act (SetsDeferring b ∷ deeds) act = acts-act deeds act
acts-act (Releases place ∷ deeds) act = acts-act deeds act

acts-set : (deeds : List Deed) (deferring : Bool) → acts_in (deeds ++ SetsDeferring deferring ∷ []) ≡ acts_in deeds
acts-set [] deferring = refl
acts-set (Does other ∷ deeds) deferring = ap (λ (x : List Act). other ∷ x) (acts-set deeds deferring)
acts-set (SetsDeferring b ∷ deeds) deferring = acts-set deeds deferring
acts-set (Releases place ∷ deeds) deferring = acts-set deeds deferring

acts-release : (deeds : List Deed) (at : ℕ) → acts_in (deeds ++ Releases at ∷ []) ≡ acts_in deeds
acts-release [] at = refl
acts-release (Does other ∷ deeds) at = ap (λ (x : List Act). other ∷ x) (acts-release deeds at)
acts-release (SetsDeferring b ∷ deeds) at = acts-release deeds at
acts-release (Releases place ∷ deeds) at = acts-release deeds at

-- a release is counted by its deed alone
releases-act : (deeds : List Deed) (act : Act) → releases_made (deeds ++ Does act ∷ []) ≡ releases_made deeds
releases-act [] act = refl
releases-act (Does other ∷ deeds) act = releases-act deeds act
releases-act (SetsDeferring b ∷ deeds) act = releases-act deeds act
releases-act (Releases place ∷ deeds) act = ap (λ (k : ℕ). k + 1) (releases-act deeds act)

releases-set : (deeds : List Deed) (deferring : Bool) → releases_made (deeds ++ SetsDeferring deferring ∷ []) ≡ releases_made deeds
releases-set [] deferring = refl
releases-set (Does other ∷ deeds) deferring = releases-set deeds deferring
releases-set (SetsDeferring b ∷ deeds) deferring = releases-set deeds deferring
releases-set (Releases place ∷ deeds) deferring = ap (λ (k : ℕ). k + 1) (releases-set deeds deferring)

releases-release : (deeds : List Deed) (at : ℕ) → releases_made (deeds ++ Releases at ∷ []) ≡ releases_made deeds + 1
releases-release [] at = refl
releases-release (Does other ∷ deeds) at = releases-release deeds at
releases-release (SetsDeferring b ∷ deeds) at = releases-release deeds at
releases-release (Releases place ∷ deeds) at = ap (λ (k : ℕ). k + 1) (releases-release deeds at)

after-more : {S : Type 0} (m : Meaning S) (settings : Settings) (now : FullStanding S) (deeds : List Deed) (a : Deed) → after m settings now (deeds ++ a ∷ []) ≡ (perform m settings (after m settings now deeds) a).after
after-more m settings now [] a = refl
after-more m settings now (b ∷ deeds) a = after-more m settings (perform m settings now b).after deeds a

sent-more : {S : Type 0} (m : Meaning S) (settings : Settings) (now : FullStanding S) (deeds : List Deed) (a : Deed) → sent m settings now (deeds ++ a ∷ []) ≡ sent m settings now deeds ++ (perform m settings (after m settings now deeds) a).sends
sent-more m settings now [] a = append-nil (perform m settings now a).sends
sent-more m settings now (b ∷ deeds) a =
    ap (λ (x : List Message). (perform m settings now b).sends ++ x) (sent-more m settings (perform m settings now b).after deeds a)
    ∙ sym (append_assoc (perform m settings now b).sends (sent m settings (perform m settings now b).after deeds) (perform m settings (after m settings (perform m settings now b).after deeds) a).sends)

-- one deed more in order
order-more : {S : Type 0} (m : Meaning S) (settings : Settings) (now : FullStanding S) (deeds : List Deed) (a : Deed) → InOrder m settings now deeds → MayBeDone m settings (after m settings now deeds) a → InOrder m settings now (deeds ++ a ∷ [])
order-more m settings now [] a all one = (one, tt)
order-more m settings now (b ∷ deeds) a all one = (all.0, order-more m settings (perform m settings now b).after deeds a all.1 one)

-- a loss is noticed by its act alone
loss-message : (acts : List Act) (m : Message) → has_loss (acts ++ Handles m ∷ []) ≡ has_loss acts
loss-message [] m = refl
loss-message (Handles n ∷ acts) m = loss-message acts m
loss-message (Steps t ∷ acts) m = loss-message acts m
loss-message (Loses ∷ acts) m = refl

loss-step : (acts : List Act) (t : ℕ) → has_loss (acts ++ Steps t ∷ []) ≡ has_loss acts
loss-step [] t = refl
loss-step (Handles n ∷ acts) t = loss-step acts t
loss-step (Steps u ∷ acts) t = loss-step acts t
loss-step (Loses ∷ acts) t = refl

loss-loss : (acts : List Act) → has_loss (acts ++ Loses ∷ []) ≡ true
loss-loss [] = refl
loss-loss (Handles n ∷ acts) = loss-loss acts
loss-loss (Steps u ∷ acts) = loss-loss acts
loss-loss (Loses ∷ acts) = refl

-- a step is counted by its act alone
count-message : (acts : List Act) (m : Message) → steps_made (acts ++ Handles m ∷ []) ≡ steps_made acts
count-message [] m = refl
count-message (Handles n ∷ acts) m = count-message acts m
count-message (Steps t ∷ acts) m = ap (λ (k : ℕ). k + 1) (count-message acts m)
count-message (Loses ∷ acts) m = count-message acts m

count-step : (acts : List Act) (t : ℕ) → steps_made (acts ++ Steps t ∷ []) ≡ steps_made acts + 1
count-step [] t = refl
count-step (Handles n ∷ acts) t = count-step acts t
count-step (Steps u ∷ acts) t = ap (λ (k : ℕ). k + 1) (count-step acts t)
count-step (Loses ∷ acts) t = count-step acts t

count-loss : (acts : List Act) → steps_made (acts ++ Loses ∷ []) ≡ steps_made acts
count-loss [] = refl
count-loss (Handles n ∷ acts) = count-loss acts
count-loss (Steps u ∷ acts) = ap (λ (k : ℕ). k + 1) (count-loss acts)
count-loss (Loses ∷ acts) = count-loss acts

-- the run of the deeds and one more that may come, where the end carries the messages of both
goes-on : {S : Type 0} (m : Meaning S) (v w : Target S) (deed : Deed) → (ran : Ran m v) → w.settings ≡ v.settings → w.began ≡ v.began → w.end.limits ≡ v.end.limits
    → MayBeDone m v.settings (full_standing v) deed
    → w.end.session.lost ≡ has_loss (acts_in (ran.deeds ++ deed ∷ [])) → w.steps ≡ steps_made (acts_in (ran.deeds ++ deed ∷ [])) → w.releases ≡ releases_made (ran.deeds ++ deed ∷ [])
    → Carries w.end (handled (acts_in (ran.deeds ++ deed ∷ [])))
    → w.end.session.enqueued ≡ v.end.session.enqueued ++ stream (perform m v.settings (full_standing v) deed).sends
    → IsConversation v.end.limits.packet (sent m v.settings v.began ran.deeds ++ (perform m v.settings (full_standing v) deed).sends)
    → full_standing w ≡ (perform m v.settings (full_standing v) deed).after → Ran m w
goes-on {S = S} m v w deed ran settings began limits may lost steps releases carries enqueued conversation stands =
    let performs : perform m v.settings (full_standing v) deed ≡ perform m v.settings (after m v.settings v.began ran.deeds) deed = ap (λ (x : FullStanding S). perform m v.settings x deed) ran.stands in
    let sends : sent m v.settings v.began (ran.deeds ++ deed ∷ []) ≡ sent m v.settings v.began ran.deeds ++ (perform m v.settings (full_standing v) deed).sends =
    sent-more m v.settings v.began ran.deeds deed ∙ ap (λ (x : Performance S). sent m v.settings v.began ran.deeds ++ x.sends) (sym performs) in
    let order : InOrder m v.settings v.began (ran.deeds ++ deed ∷ []) =
    order-more m v.settings v.began ran.deeds deed ran.in_order (subst (λ (x : FullStanding S). MayBeDone m v.settings x deed) ran.stands may) in
    record {
      fresh = ap (λ (x : FullStanding S). x.deferred) began ∙ ran.fresh;
      deeds = ran.deeds ++ deed ∷ [];
      in_order = rw (settings, began) order;
      lost = lost;
      steps = steps;
      releases = releases;
      carries = carries;
      enqueued =
          enqueued ∙ (ap (λ (x : List ℕ). x ++ stream (perform m v.settings (full_standing v) deed).sends) ran.enqueued
          ∙ (sym (ap stream sends ∙ stream-append (sent m v.settings v.began ran.deeds) (perform m v.settings (full_standing v) deed).sends)
          ∙ rw (settings, began) refl));
      conversation = rw (limits, settings, began, sends) conversation;
      stands = stands ∙ (ap (λ (x : Performance S). x.after) performs ∙ (sym (after-more m v.settings v.began ran.deeds deed) ∙ rw (settings, began) refl));
    }

-- where the handshake is waited for nothing was sent yet, and in an established session something was
none-sent : {S : Type 0} (m : Meaning S) (v : Target S) (ran : Ran m v) → v.end.phase ≡ AwaitingHandshake → sent m v.settings v.began ran.deeds ≡ []
none-sent {S = S} m v ran e = waits-silent m v.settings v.began ran.deeds (sym (ap (λ (x : FullStanding S). x.standing.phase) ran.stands) ∙ e)

was-sent : {S : Type 0} (m : Meaning S) (v : Target S) (ran : Ran m v) → v.end.phase ≡ Established → sent m v.settings v.began ran.deeds ≢ []
was-sent m v ran e = some-sent m v.settings v.end.limits.packet v.began ran.deeds ran.carries.conversation (ran.carries.established e)

-- few are deferred
pub ran-few : {S : Type 0} (m : Meaning S) (v : Target S) → Ran m v → DefersFew (full_standing v)
ran-few {S = S} m v ran =
    let began : DefersFew v.began = record { commands = rw ran.fresh tt; few = rw ran.fresh (omega arith); none = λ _. ran.fresh } in
    subst (λ (x : FullStanding S). DefersFew x) (sym ran.stands) (stays-few m v.settings v.began ran.deeds began)

-- ---- each call

pub ran-new : {S : Type 0} (m : Meaning S) (settings : Settings) (now : Moment S) → Ran m (new_target settings now)
ran-new m settings now = record { fresh = refl; deeds = []; in_order = tt; lost = refl; steps = refl; releases = refl; carries = carries-new settings.limits; enqueued = refl; conversation = tt; stands = refl }

pub ran-opened : {S : Type 0} (m : Meaning S) (v : Target S) → Ran m (opened_target v)
ran-opened m v = record { fresh = refl; deeds = []; in_order = tt; lost = refl; steps = refl; releases = refl; carries = carries-opened v.end; enqueued = refl; conversation = tt; stands = refl }

pub ran-fed : {S : Type 0} (m : Meaning S) (v : Target S) (bytes : List ℕ) → is_open v.end ≡ true → Ran m v → Ran m (with_fed bytes v)
ran-fed m v bytes opened ran = record {
  fresh = ran.fresh;
  deeds = ran.deeds;
  in_order = ran.in_order;
  lost = ran.lost;
  steps = ran.steps;
  releases = ran.releases;
  carries = carries-fed v.end (handled (acts_in ran.deeds)) bytes opened ran.carries;
  enqueued = ran.enqueued;
  conversation = ran.conversation;
  stands = ran.stands;
}

pub ran-taken : {S : Type 0} (m : Meaning S) (v : Target S) (n : ℕ) → n ≤ length v.end.outgoing → Ran m v → Ran m (with_taken (take n v.end.outgoing) v)
ran-taken m v n le ran = record {
  fresh = ran.fresh;
  deeds = ran.deeds;
  in_order = ran.in_order;
  lost = ran.lost;
  steps = ran.steps;
  releases = ran.releases;
  carries = carries-taken v.end (handled (acts_in ran.deeds)) n le ran.carries;
  enqueued = ran.enqueued;
  conversation = ran.conversation;
  stands = ran.stands;
}

pub ran-lost : {S : Type 0} (m : Meaning S) (v : Target S) → Ran m v → Ran m (lost_target v)
ran-lost m v ran =
    let acts = acts_in ran.deeds in
    let more = acts-act ran.deeds Loses in
    goes-on m v (lost_target v) (Does Loses) ran refl refl refl tt (sym (ap has_loss more ∙ loss-loss acts)) (ran.steps ∙ sym (ap steps_made more ∙ count-loss acts)) (ran.releases ∙ sym (releases-act ran.deeds Loses))
    (subst (Carries (lost_target v).end) (sym (ap handled more ∙ handled-loss acts)) (carries-lost v.end (handled acts) ran.carries))
    (sym (append-nil v.end.session.enqueued)) (rw (append-nil (sent m v.settings v.began ran.deeds)) ran.conversation) refl

-- the end closes, or its phase stays
carries-phase : (phase : Phase) (end : End) (ms : List Message) → (phase ≡ Closed) ⊎ (phase ≡ end.phase) → Carries end ms → Carries (in_phase phase end) ms
carries-phase phase end ms (inl e) c = subst (λ (p : Phase). Carries (in_phase p end) ms) (sym e) (carries-closed end ms c)
carries-phase phase end ms (inr e) c = subst (λ (p : Phase). Carries (in_phase p end) ms) (sym e) c

-- nothing is put
carries-nothing : (end : End) (ms : List Message) → Carries end ms → Carries (ends.with_enqueued [] end) ms
carries-nothing end ms c = rw (append-nil end.outgoing, append-nil end.session.enqueued) c

-- ---- steps

apart : (end : End) (ms : List Message) {S : Type 0} (now : Standing S) (dies : Bool) → now.phase ≡ end.phase → Carries end ms
    → Carries (in_phase (steps_apart now dies).after.phase (ends.with_enqueued (stream (steps_apart now dies).sends) end)) ms
apart end ms now true e c = carries-phase Closed (ends.with_enqueued [] end) ms (inl refl) (carries-nothing end ms c)
apart end ms now false e c = carries-phase now.phase (ends.with_enqueued [] end) ms (inr e) (carries-nothing end ms c)

in-session : {S : Type 0} (w : Widths) (id : ℕ) (o : Step S) (now : Standing S) (dies : Bool) (phase : Phase) → now.phase ≡ phase
    → ((steps_in_session w id o now dies).after.phase ≡ Closed) ⊎ ((steps_in_session w id o now dies).after.phase ≡ phase)
in-session w id o now true phase e = inl refl
in-session w id o now false phase e = inr e

open-established : (end : End) → end.phase ≡ Established → is_open end ≡ true
open-established end e = rw e refl

carries-step-at : (end : End) (ms : List Message) {S : Type 0} (w : Widths) (id : ℕ) (o : Step S) (now : Standing S) (phase : Phase) → now.phase ≡ end.phase → end.phase ≡ phase → Carries end ms
    → Carries (in_phase (steps_at w id o now phase).after.phase (ends.with_enqueued (stream (steps_at w id o now phase).sends) end)) ms
carries-step-at end ms w id o now Established same e c =
    let bytes = stream (steps_in_session w id o now o.dies).sends in
    carries-phase (steps_in_session w id o now o.dies).after.phase (ends.with_enqueued bytes end) ms
    (in-session w id o now o.dies end.phase same)
    (carries-enqueued end ms bytes (open-established end e) c)
carries-step-at end ms w id o now AwaitingHandshake same e c = apart end ms now o.dies same c
carries-step-at end ms w id o now Closed same e c = apart end ms now o.dies same c

carries-step : {S : Type 0} (m : Meaning S) (v : Target S) (t : ℕ) (may : Bool) (ms : List Message) → Carries v.end ms
    → Carries (in_phase (steps_by m (standing v) t may).after.phase (ends.with_enqueued (stream (steps_by m (standing v) t may).sends) v.end)) ms
carries-step m v t false ms c = carries-phase v.end.phase (ends.with_enqueued [] v.end) ms (inr refl) (carries-nothing v.end ms c)
carries-step m v t true ms c =
    let o = occurs m v.moment t in
    carries-step-at v.end ms (m.sizes v.moment.machine) v.moment.state.next_packet o (behind o (standing v)) v.end.phase refl refl c

pub ran-stepped : {S : Type 0} (m : Meaning S) (v : Target S) (t : ℕ) → may_step m v.settings v.moment t ≡ true
    → AreSendable v.end.limits.packet (perform m v.settings (full_standing v) (Does (Steps t))).sends → Ran m v → Ran m (with_step m t v)
ran-stepped m v t may fits ran =
    let acts = acts_in ran.deeds in
    let more = acts-act ran.deeds (Steps t) in
    goes-on m v (with_step m t v) (Does (Steps t)) ran refl refl refl may (ran.lost ∙ sym (ap has_loss more ∙ loss-step acts t)) (ap (λ (k : ℕ). k + 1) ran.steps ∙ sym (ap steps_made more ∙ count-step acts t)) (ran.releases ∙ sym (releases-act ran.deeds (Steps t)))
    (subst (Carries (with_step m t v).end) (sym (ap handled more ∙ handled-step acts t)) (carries-step m v t (may_step m v.settings v.moment t) (handled acts) ran.carries))
    refl
    (stepping-converses m (standing v) t (may_step m v.settings v.moment t) v.end.limits.packet (sent m v.settings v.began ran.deeds) ran.conversation (was-sent m v ran) fits)
    refl

-- ---- messages

established-is : (p : Phase) → is_established_phase p ≡ true → p ≡ Established
established-is Closed h = absurd (cc)
established-is AwaitingHandshake h = absurd (cc)
established-is Established h = refl

-- a message was taken off, and put off or handled
carries-where : {S : Type 0} (m : Meaning S) (v : Target S) (message : Message) (used : ℕ) (ms : List Message) (b : Bool) → (b ≡ true → v.end.phase ≡ Established) → Carries (ends.with_handled message used v.end) ms
    → Carries (in_phase (handles_where m v.settings (full_standing v) message b).after.standing.phase (ends.with_enqueued (stream (handles_where m v.settings (full_standing v) message b).sends) (ends.with_handled message used v.end))) ms
carries-where m v message used ms true session c =
    let off = ends.with_handled message used v.end in
    carries-phase v.end.phase (ends.with_enqueued [] off) ms (inr (session refl)) (carries-nothing off ms c)
carries-where m v message used ms false session c =
    let off = ends.with_handled message used v.end in
    let r = react m v.settings (standing v) (Handles message) in
    carries-phase r.after.phase (ends.with_enqueued (stream r.sends) off) ms (message-phase m v.settings (standing v) message) (carries-enqueued off ms (stream r.sends) refl c)

converses-where : {S : Type 0} (m : Meaning S) (v : Target S) (message : Message) (xs : List Message) (b : Bool) → IsDue v.end.limits.packet v.end.phase message → IsConversation v.end.limits.packet xs
    → (v.end.phase ≡ AwaitingHandshake → xs ≡ []) → (v.end.phase ≡ Established → xs ≢ []) → AreSendable v.end.limits.packet (handles_where m v.settings (full_standing v) message b).sends
    → IsConversation v.end.limits.packet (xs ++ (handles_where m v.settings (full_standing v) message b).sends)
converses-where m v message xs true due c none some sends = rw (append-nil xs) c
converses-where m v message xs false due c none some sends = handling-converses m v.settings (established (standing v)) v.end.phase v.end.limits.packet xs message due c none some sends

pub ran-handled : {S : Type 0} (m : Meaning S) (v : Target S) (message : Message) (used : ℕ) → IsBytes v.end.incoming → front_of v.end ≡ Whole message used
    → AreSendable v.end.limits.packet (perform m v.settings (full_standing v) (Does (Handles message))).sends → Ran m v → Ran m (with_handled m message used v)
ran-handled m v message used fits front sends ran =
    let b = defers (full_standing v) message in
    let acts = acts_in ran.deeds in
    let more = acts-act ran.deeds (Handles message) in
    let ms = handled acts ++ message ∷ [] in
    let h : Carries (ends.with_handled message used v.end) ms = carries-handled v.end (handled acts) message used fits front ran.carries in
    let session = λ (e : b ≡ true). established-is v.end.phase (put-off-in-session (full_standing v) message e) in
    let due = (in-front v.end message used fits front).1 in
    let opened : is_open v.end ≡ true = due-open v.end.limits.packet v.end.phase message due in
    goes-on m v (with_handled m message used v) (Does (Handles message)) ran refl refl refl opened (ran.lost ∙ sym (ap has_loss more ∙ loss-message acts message)) (ran.steps ∙ sym (ap steps_made more ∙ count-message acts message)) (ran.releases ∙ sym (releases-act ran.deeds (Handles message)))
    (subst (Carries (with_handled m message used v).end) (sym (ap handled more ∙ handled-message acts message)) (carries-where m v message used ms b session h))
    refl
    (converses-where m v message (sent m v.settings v.began ran.deeds) b due ran.conversation (none-sent m v ran) (was-sent m v ran) sends)
    refl

-- ---- deferred replies

pub ran-deferring : {S : Type 0} (m : Meaning S) (v : Target S) (deferring : Bool) → Ran m v → Ran m (with_deferring deferring v)
ran-deferring m v deferring ran =
    let more = acts-set ran.deeds deferring in
    goes-on m v (with_deferring deferring v) (SetsDeferring deferring) ran refl refl refl tt (ran.lost ∙ sym (ap has_loss more)) (ran.steps ∙ sym (ap steps_made more)) (ran.releases ∙ sym (releases-set ran.deeds deferring))
    (subst (Carries v.end) (sym (ap handled more)) ran.carries)
    (sym (append-nil v.end.session.enqueued)) (rw (append-nil (sent m v.settings v.began ran.deeds)) ran.conversation) refl

no-handshake : (x : Message) → MayBeDeferred x → x ≢ Handshake
no-handshake Handshake command e = command
no-handshake (Packet header body) command e = cc

carries-released : {S : Type 0} (m : Meaning S) (v : Target S) (o : Option (Message × List Message)) (ms : List Message) → v.end.phase ≡ Established → Carries v.end ms
    → Carries (in_phase (releases_by m v.settings (full_standing v) o).after.standing.phase (ends.with_enqueued (stream (releases_by m v.settings (full_standing v) o).sends) v.end)) ms
carries-released m v None ms e c = carries-phase v.end.phase (ends.with_enqueued [] v.end) ms (inr refl) (carries-nothing v.end ms c)
carries-released m v (Some (message, others)) ms e c =
    let r = react m v.settings (standing v) (Handles message) in
    carries-phase r.after.phase (ends.with_enqueued (stream r.sends) v.end) ms (rw e (message-phase m v.settings (standing v) message)) (carries-enqueued v.end ms (stream r.sends) (open-established v.end e) c)

converses-released : {S : Type 0} (m : Meaning S) (v : Target S) (place : ℕ) (o : Option (Message × List Message)) (xs : List Message) → DefersFew (full_standing v) → released_at place v.deferred ≡ o
    → IsConversation v.end.limits.packet xs → xs ≢ [] → AreSendable v.end.limits.packet (releases_by m v.settings (full_standing v) o).sends
    → IsConversation v.end.limits.packet (xs ++ (releases_by m v.settings (full_standing v) o).sends)
converses-released m v place None xs few is c some sends = rw (append-nil xs) c
converses-released m v place (Some (message, others)) xs few is c some sends =
    let command = (deferred-ones place v.deferred message others few.commands is).0 in
    kind-converses m v.settings (established (standing v)) v.end.limits.packet xs message (no-handshake message command) c some sends

pub ran-released : {S : Type 0} (m : Meaning S) (v : Target S) (place : ℕ) → is_established v.end ≡ true → place < length v.deferred
    → AreSendable v.end.limits.packet (perform m v.settings (full_standing v) (Releases place)).sends → Ran m v → Ran m (with_release m place v)
ran-released m v place session there sends ran =
    let more = acts-release ran.deeds place in
    let o = released_at place v.deferred in
    let phase = established-is v.end.phase session in
    goes-on m v (with_release m place v) (Releases place) ran refl refl refl (session, there) (ran.lost ∙ sym (ap has_loss more)) (ran.steps ∙ sym (ap steps_made more))
    (ap (λ (k : ℕ). k + 1) ran.releases ∙ sym (releases-release ran.deeds place))
    (subst (Carries (with_release m place v).end) (sym (ap handled more)) (carries-released m v o (handled (acts_in ran.deeds)) phase ran.carries))
    refl
    (converses-released m v place o (sent m v.settings v.began ran.deeds) (ran-few m v ran) refl ran.conversation (was-sent m v ran phase) sends)
    refl
