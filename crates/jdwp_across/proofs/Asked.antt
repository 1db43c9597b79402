-- what the events of an act leave of what was asked and read, and of the watch
use Rattle.std.proofs.Common.{◌≡◌, ℕ, zero, suc, Bool, true, false, ◌+◌, ◌&&◌, ◌||◌, cond, Option, Some, None, List, [], ◌∷◌, ◌++◌, refl, ◌∙◌, ap}
use Rattle.std.specs.Prelude.{◌==◌, fold}
use Rattle.std.proofs.lemmas.Bool.{cond_both, eqb-true}
use Rattle.jdwp_end.specs.declared.phase.Phase.{Phase}
use Rattle.jdwp_end.specs.declared.phase.Phase.TheVariants.{Closed, AwaitingHandshake, Established}
use Rattle.jdwp_wire.specs.Widths.{Widths}
use Rattle.jdwp_event.specs.Composites.{CompositeMeaning}
use Rattle.jdwp_layout.specs.declared.answer.Answer.{Answer}
use Rattle.jdwp_layout.specs.CommandNumbers.{CommandNumber, is_command, CLASS_INVOKE, INTERFACE_INVOKE, NEW_INSTANCE, OBJECT_INVOKE}
use Rattle.jdwp_machine.specs.Meanings.{Meaning}
use Rattle.jdwp_action.specs.Actions.{Command, is_implemented}
use Rattle.jdwp_apart.specs.Following.{Following, answered_by, answered_to, before_thread, invocation_by, made_by, put_by, put_to, reported, reported_to, with_made}
use Rattle.jdwp_action.specs.Actions.{action_of}
use Rattle.jdwp_apart.specs.Messages.{Invocation, is_invocation, may_ask}
use Rattle.jdwp_apart.specs.Watch.{Watch, asks, reads_reply}
use Rattle.jdwp_apart.specs.World.{reply_of}
use Rattle.jdwp_debuggee.specs.Effects.{Effect, effect}
use Rattle.jdwp_debuggee.specs.Settings.{Settings}
use Rattle.jdwp_debuggee.specs.State.{Moment}
use Rattle.jdwp_debuggee.specs.Steps.{occurs}
use Rattle.jdwp_mirror.specs.Messages.{Call, Greets, Asks, Handshake, Reply, Report, Ticket, same_ticket}
use Rattle.jdwp_debugger.specs.Debuggers.{Asked}
use Rattle.jdwp_debugger.specs.DebuggerTurns.{command_at, reports}
use Rattle.jdwp_link.specs.Wires.{waiting, without_ids}
use Rattle.jdwp_model.specs.Events
use Rattle.jdwp_model.specs.Events.{LinkEvent, Outcome}
use Rattle.jdwp_model.specs.Next.{answers, closes_by, defers, defers_or, dies_by, entered, greets_by, messages_of, next, releases_at, run, step_ends, stepped, steps_now, target_handles, target_takes, target_turn_at, with_report, without_ticket}
use Rattle.jdwp_model.specs.World.{Measure, Packet, World, is_closed}
use Rattle.jdwp_model.proofs.Fronts.{by_release_front, by_target_front}
use Rattle.jdwp_orders.specs.Watched.{Since, all_may_ask, all_might_ask, begins, heeds, watch_after, watch_next}

-- ---- the target's events

-- what was read and what waits stay
abbrev pub Left : {S : Type 0} → World S → World S → Type 0
Left w z = (z.read ≡ w.read) × (z.pending ≡ w.pending)

answered-left : {S : Type 0} (w : World S) (k : Ticket) (c : Command) (e : Effect S) (dies : Bool) → Left w (dies_by (answers w k c e) dies)
answered-left w k c e true = (refl, refl)
answered-left w k c e false = (refl, refl)

greets-left : {S : Type 0} (settings : Settings) (w : World S) (b : Bool) → Left w (greets_by settings w b)
greets-left settings w true = (refl, refl)
greets-left settings w false = (refl, refl)

defers-left : {S : Type 0} (m : Meaning S) (settings : Settings) (w : World S) (k : Ticket) (c : Command) (b : Bool) → Left w (defers_or m settings w k c b)
defers-left m settings w k c true = (refl, refl)
defers-left m settings w k c false = answered-left w k c (effect m settings w.now c) (effect m settings w.now c).dies

handled-left : {S : Type 0} (m : Meaning S) (settings : Settings) (measure : Measure) (w : World S) (rest : List Call) (phase : Phase) (call : Call) → Left w (target_handles m settings measure w rest phase call)
handled-left m settings measure w rest AwaitingHandshake Greets = greets-left settings (target_takes measure w Greets rest) w.now.state.handshaken
handled-left m settings measure w rest Established (Asks k c) = defers-left m settings (target_takes measure w (Asks k c) rest) k c (defers w c)
handled-left m settings measure w rest phase call = (refl, refl)

told-left : {S : Type 0} (w : World S) (after : Moment S) (sends : Option CompositeMeaning) → Left w (with_report w after sends)
told-left w after None = (refl, refl)
told-left w after (Some c) = (refl, refl)

ended-left : {S : Type 0} (w z : World S) (phase : Phase) (dies : Bool) → Left w z → Left w (step_ends z phase dies)
ended-left w z phase false h = h
ended-left w z Established true h = h
ended-left w z AwaitingHandshake true h = h
ended-left w z Closed true h = h

-- an event of the target alone
abbrev pub is_of_target : LinkEvent → Bool
is_of_target Events.TargetTurn = true
is_of_target (Events.Step t) = true
is_of_target Events.TargetLoses = true
is_of_target (Events.Defer deferring) = true
is_of_target (Events.Release place) = true
is_of_target e = false

pub target-left : {S : Type 0} (m : Meaning S) (settings : Settings) (measure : Measure) (w : World S) (e : LinkEvent) → is_of_target e ≡ true → Left w (next m settings measure w e).0
target-left m settings measure w Events.TargetTurn h =
    by_target_front settings measure w (λ o. Left w (target_turn_at m settings measure w o)) (refl, refl) (λ call rest _ _. handled-left m settings measure w rest w.target call)
target-left m settings measure w (Events.Step t) h =
    let o = occurs m w.now t in
    cond_both (steps_now m settings measure w t) (stepped w o) w (λ z. Left w z) (λ _. ended-left w (with_report w o.after o.sends) w.target o.dies (told-left w o.after o.sends)) (λ _. (refl, refl))
target-left m settings measure w Events.TargetLoses h = (refl, refl)
target-left m settings measure w (Events.Defer deferring) h = (refl, refl)
target-left m settings measure w (Events.Release place) h =
    by_release_front settings measure w place (λ o. Left w (releases_at m settings w o)) (refl, refl)
    (λ k c rest _ _. answered-left (record w { deferred = rest }) k c (effect m settings w.now c) (effect m settings w.now c).dies)
target-left m settings measure w e h = absurd (cc)

pub target-heeds : {S : Type 0} (since : Since) (settings : Settings) (measure : Measure) (w : World S) (v : Watch) (e : LinkEvent) → is_of_target e ≡ true → heeds since settings measure w v e ≡ v
target-heeds since settings measure w v Events.TargetTurn h = refl
target-heeds since settings measure w v (Events.Step t) h = refl
target-heeds since settings measure w v Events.TargetLoses h = refl
target-heeds since settings measure w v (Events.Defer deferring) h = refl
target-heeds since settings measure w v (Events.Release place) h = refl
target-heeds since settings measure w v e h = absurd (cc)

-- ---- the watch

pub watch-append : {S : Type 0} (m : Meaning S) (b : Bool) (since : Since) (settings : Settings) (measure : Measure) (x : World S) (v : Watch) (before es : List LinkEvent)
    → watch_after m b since settings measure x v (before ++ es) ≡ watch_after m b since settings measure (run m settings measure x before) (watch_after m b since settings measure x v before) es
watch-append m b since settings measure x v [] es = refl
watch-append m b since settings measure x v (e ∷ before) es = watch-append m b since settings measure (next m settings measure x e).0 (watch_next m b since settings measure x v e) before es

pub watch-open : {S : Type 0} (m : Meaning S) (since : Since) (settings : Settings) (measure : Measure) (x : World S) (v : Watch) (e : LinkEvent) → is_closed (next m settings measure x e).0.debugger ≡ false
    → watch_after m true since settings measure x v (e ∷ []) ≡ heeds since settings measure x v e
watch-open m since settings measure x v e h = ap (λ b. cond b (begins true) (heeds since settings measure x v e)) h

pub watch-shut : {S : Type 0} (m : Meaning S) (since : Since) (settings : Settings) (measure : Measure) (x : World S) (v : Watch) (e : LinkEvent) → is_closed (next m settings measure x e).0.debugger ≡ true
    → watch_after m true since settings measure x v (e ∷ []) ≡ begins true
watch-shut m since settings measure x v e h = ap (λ b. cond b (begins true) (heeds since settings measure x v e)) h

-- the end stayed open behind what was read
pub closes-open : {S : Type 0} (z : World S) (os : List Outcome) (b : Bool) → is_closed (closes_by z os b).0.debugger ≡ false → (closes_by z os b).0 ≡ z
closes-open z os true h = absurd (cc)
closes-open z os false h = refl

-- ---- which commands were asked

pub both : (a b : Bool) → (a && b) ≡ true → (a ≡ true) × (b ≡ true)
both true b h = (refl, h)
both false b h = absurd (cc)

pub and-both : (a b : Bool) → a ≡ true → b ≡ true → (a && b) ≡ true
and-both a b h k = ap (λ x. x && b) h ∙ k

pub may-more : (ps : List (Ticket × Command)) (k : Ticket) (c : Command) → all_may_ask ps ≡ true → may_ask c ≡ true → all_may_ask (ps ++ (k, c) ∷ []) ≡ true
may-more [] k c h may = and-both (may_ask c) true may refl
may-more (p ∷ ps) k c h may = let d = both (may_ask p.1) (all_may_ask ps) h in and-both (may_ask p.1) (all_may_ask (ps ++ (k, c) ∷ [])) d.0 (may-more ps k c d.1 may)

pub may-without : (k : Ticket) (ps : List (Ticket × Command)) → all_may_ask ps ≡ true → all_may_ask (without_ticket k ps) ≡ true
may-without k [] h = refl
may-without k (p ∷ ps) h =
    let d = both (may_ask p.1) (all_may_ask ps) h in
    cond_both (same_ticket p.0 k) ps (p ∷ without_ticket k ps) (λ l. all_may_ask l ≡ true) (λ _. d.1) (λ _. and-both (may_ask p.1) (all_may_ask (without_ticket k ps)) d.0 (may-without k ps d.1))

pub may-at : (place : ℕ) (ps : List Asked) → all_may_ask (without_ids (waiting ps)) ≡ true → may_ask (command_at place ps) ≡ true
may-at zero [] h = refl
may-at (suc place) [] h = refl
may-at zero (p ∷ ps) h = (both (may_ask p.command) (all_may_ask (without_ids (waiting ps))) h).0
may-at (suc place) (p ∷ ps) h = may-at place ps (both (may_ask p.command) (all_may_ask (without_ids (waiting ps))) h).1

-- composites that waited ask nothing
pub might-entered : {S : Type 0} (cs : List CompositeMeaning) (parked read : List (Packet S)) → reports cs ≡ messages_of parked → all_might_ask (entered parked read) ≡ all_might_ask read
might-entered [] [] read e = refl
might-entered [] (p ∷ ps) read e = absurd (cc)
might-entered (c ∷ cs) [] read e = absurd (cc)
might-entered (c ∷ cs) ((Report d, a) ∷ ps) read e = let others : reports cs ≡ messages_of ps = cc in might-entered cs ps ((Report d, a) ∷ read) others
might-entered (c ∷ cs) ((Reply k d x, a) ∷ ps) read e = absurd (cc)
might-entered (c ∷ cs) ((Handshake, a) ∷ ps) read e = absurd (cc)

-- ---- commands that invoke a method

none-carried : (c : Command) (n : CommandNumber) → is_implemented (record c { set = n.set; number = n.number }) ≡ false → is_implemented c ≡ true → is_command n c.set c.number ≡ false
none-carried c n none h =
    elim (is_command n c.set c.number) as (λ b. is_command n c.set c.number ≡ b → b ≡ false) [
      | true ↦ λ e.
          let d = both (c.set == n.set) (c.number == n.number) e in
          let set : c.set ≡ n.set = eqb-true c.set n.set d.0 in
          let number : c.number ≡ n.number = eqb-true c.number n.number d.1 in
          let same : is_implemented c ≡ is_implemented (record c { set = n.set; number = n.number }) = (λ i. is_implemented (record c { set = set i; number = number i })) in
          absurd (cc)
      | false ↦ λ e. refl
    ] refl

none-of-four : (a b c d : Bool) → a ≡ false → b ≡ false → c ≡ false → d ≡ false → (a || (b || (c || d))) ≡ false
none-of-four true b c d ha hb hc hd = absurd (cc)
none-of-four false true c d ha hb hc hd = absurd (cc)
none-of-four false false true d ha hb hc hd = absurd (cc)
none-of-four false false false d ha hb hc hd = hd

-- what a target of this layer carries out invokes no method
pub invokes-none : (c : Command) → may_ask c ≡ true → is_invocation c ≡ false
invokes-none c h =
    let carried = (both (is_implemented c) _ h).0 in
    none-of-four (is_command CLASS_INVOKE c.set c.number) (is_command NEW_INSTANCE c.set c.number) (is_command INTERFACE_INVOKE c.set c.number) (is_command OBJECT_INVOKE c.set c.number)
    (none-carried c CLASS_INVOKE refl carried) (none-carried c NEW_INSTANCE refl carried) (none-carried c INTERFACE_INVOKE refl carried) (none-carried c OBJECT_INVOKE refl carried)

-- ---- what is followed

abbrev some_following : Following → Option Following
some_following f = Some f

-- behind a command that is asked
pub record Puts (c : Command) (o : Option Following) (last : Following) : Type 0 where
  pub first : Following
  pub before : o ≡ Some first
  pub may : may_ask c ≡ true
  pub is : record first { watch = asks first.watch c } ≡ last

put-by : (b may : Bool) (i : Invocation) (c : Command) (f last : Following) → b ≡ false → put_by (cond b (Some i) None) may c f ≡ Some last → (may ≡ true) × (record f { watch = asks f.watch c } ≡ last)
put-by true may i c f last e h = absurd (cc)
put-by false true i c f last e h = let same : some_following (record f { watch = asks f.watch c }) ≡ some_following last = h in (refl, cc)
put-by false false i c f last e h = absurd (cc)

pub put-some : (w : Widths) (c : Command) (o : Option Following) (last : Following) → is_invocation c ≡ false → put_to w c o ≡ Some last → Puts c o last
put-some w c None last e h = absurd (cc)
put-some w c (Some f) last e h =
    let p = put-by (is_invocation c) (may_ask c) (invocation_by (before_thread w c) w.object c.carried) c f last e h in
    record { first = f; before = refl; may = p.0; is = p.1 }

-- behind an answer
pub record Answered (c : Command) (answer : Answer) (o : Option Following) (last : Following) : Type 0 where
  pub first : Following
  pub before : o ≡ Some first
  pub is : record { watch = reads_reply first.watch (reply_of c answer); made = with_made (made_by (action_of c) answer) (first.watch.answered + 1) first.made } ≡ last

answered-by : (b next : Bool) (i : Invocation) (c : Command) (answer : Answer) (f last : Following) → b ≡ false → answered_by (cond b (Some i) None) next c answer f ≡ Some last
    → record { watch = reads_reply f.watch (reply_of c answer); made = with_made (made_by (action_of c) answer) (f.watch.answered + 1) f.made } ≡ last
answered-by true next i c answer f last e h = absurd (cc)
answered-by false true i c answer f last e h =
    let same : some_following (record { watch = reads_reply f.watch (reply_of c answer); made = with_made (made_by (action_of c) answer) (f.watch.answered + 1) f.made }) ≡ some_following last = h in cc
answered-by false false i c answer f last e h = absurd (cc)

pub answered-some : (w : Widths) (next : Bool) (c : Command) (answer : Answer) (o : Option Following) (last : Following) → is_invocation c ≡ false → answered_to w next c answer o ≡ Some last → Answered c answer o last
answered-some w next c answer None last e h = absurd (cc)
answered-some w next c answer (Some f) last e h =
    record { first = f; before = refl; is = answered-by (is_invocation c) next (invocation_by (before_thread w c) w.object c.carried) c answer f last e h }

pub answered-before : (w : Widths) (next : Bool) (c : Command) (answer : Answer) (o : Option Following) (last : Following) → answered_to w next c answer o ≡ Some last → (first : Following) × (o ≡ Some first)
answered-before w next c answer None last h = absurd (cc)
answered-before w next c answer (Some f) last h = (f, refl)

-- behind a composite, and behind several
pub reported-some : (c : CompositeMeaning) (o : Option Following) (last : Following) → reported_to o c ≡ Some last → (first : Following) × (o ≡ Some first) × (reported c first ≡ last)
reported-some c None last h = absurd (cc)
reported-some c (Some f) last h = let same : some_following (reported c f) ≡ some_following last = h in (f, refl, cc)

pub fold-some : (cs : List CompositeMeaning) (o : Option Following) (last : Following) → fold reported_to o cs ≡ Some last → (first : Following) × (o ≡ Some first)
fold-some [] o last h = (last, h)
fold-some (c ∷ cs) o last h =
    let d = fold-some cs (reported_to o c) last h in
    let e = reported-some c o d.0 d.1 in
    (e.0, e.1)
