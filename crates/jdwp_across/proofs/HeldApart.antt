-- whom a debugger of a target whose replies and composites come apart holds is suspended in the other program's target
use Rattle.std.proofs.Common.{◌≡◌, ◌≤◌, ◌<◌, ℕ, ◌+◌, inl, inr, Bool, true, false, ◌&&◌, ◌||◌, not, cond, Option, Some, None, List, [], ◌∷◌, ◌++◌, Ok, refl, sym, ◌∙◌, ap, subst, arith}
use Rattle.std.specs.Prelude.{fold, remove}
use Rattle.std.specs.List.{list_any}
use Rattle.std.proofs.lemmas.Bool.{cond_both, ltb-true}
use Rattle.jdwp_wire.specs.Streams as streams
use Rattle.jdwp_wire.specs.Streams.{Fault, More, NextMessage, Whole}
use Rattle.jdwp_wire.specs.Widths.{Widths}
use Rattle.jdwp_wire.specs.declared.packet.Header.{Header}
use Rattle.jdwp_end.specs.declared.phase.Phase.{Phase}
use Rattle.jdwp_end.specs.declared.phase.Phase.TheVariants.{AwaitingHandshake, Closed, Established}
use Rattle.jdwp_end.specs.Ends.{front_of, is_established_phase, is_open, is_open_phase}
use Rattle.jdwp_event.specs.Composites.{CompositeMeaning}
use Rattle.jdwp_event.specs.Told.{is_vm_death}
use Rattle.jdwp_layout.specs.declared.answer.Answer.{Answer}
use Rattle.jdwp_machine.specs.Meanings.{Meaning}
use Rattle.jdwp_action.specs.Actions.{Command}
use Rattle.jdwp_apart.specs.Following as follow
use Rattle.jdwp_apart.specs.Following.{Following, answered_to, begun, put_to, reported_to}
use Rattle.jdwp_apart.specs.Messages.{is_invocation, may_ask}
use Rattle.jdwp_apart.specs.Watch.{Watch, asks, sure}
use Rattle.jdwp_debuggee.specs.Settings.{Settings}
use Rattle.jdwp_debuggee.specs.State.{Moment, count_of}
use Rattle.jdwp_mirror.specs.Faults.{fault_of}
use Rattle.jdwp_mirror.specs.Messages.{Message, Handshake, Reply, Report, id_sizes}
use Rattle.jdwp_mirror.specs.Mirror.{ends}
use Rattle.jdwp_mirror.specs.Mirrors.{Mirror}
use Rattle.jdwp_watch.specs.Ledgers.{put_of}
use Rattle.jdwp_watch.specs.declared.put.Put.TheVariants as put
use Rattle.jdwp_debugger.proofs.Followed.{first-follows, put-to-follows}
use Rattle.jdwp_debugger.specs.Asking.{HasAsked}
use Rattle.jdwp_debugger.specs.Debuggers as debuggers
use Rattle.jdwp_debugger.specs.Debuggers.{Asked, Debugger, begun_in}
use Rattle.jdwp_debugger.specs.DebuggerTurns as turns
use Rattle.jdwp_debugger.specs.DebuggerTurns.{Enters, Told, closed_where, command_at, is_next, measured_where, read_meaning, reports}
use Rattle.jdwp_debugger.specs.FollowingKept.{following, ledger_put}
use Rattle.jdwp_debugger.specs.Holding.{held_in, least_in, surely}
use Rattle.jdwp_debugger.specs.News.{Answers, Happens, Measures, News, Waits, widths_by}
use Rattle.jdwp_debugger.specs.declared.heads.Head.TheVariants as head
use Rattle.jdwp_debugger.specs.declared.order.Order.{Order}
use Rattle.jdwp_debugger.specs.declared.order.Order.TheVariants.{One, Apart}
use Rattle.jdwp_debugger.specs.declared.turning.Read.{Read}
use Rattle.jdwp_link.specs.EventParts.{is_left, told_did}
use Rattle.jdwp_link.specs.Laws.{Laws}
use Rattle.jdwp_link.specs.Told.{step_did, turn_did}
use Rattle.jdwp_link.specs.Wires.{waiting, without_ids}
use Rattle.jdwp_model.specs.Events
use Rattle.jdwp_model.specs.Events.{AskRefusal, LinkEvent, begins_deferring, defer_nothing}
use Rattle.jdwp_model.specs.Headline.{MayBegin}
use Rattle.jdwp_model.specs.Next.{answered, ask_by, ask_refusal, attached, attaches, composites_of, debugger_front, debugger_handles, debugger_takes, debugger_turn_at, entered, has_end, may_attach, messages_of, next, reader, reads, reads_composite, reads_reply, run, without_ticket}
use Rattle.jdwp_model.specs.World.{Packet, World, is_closed, opening}
use Rattle.jdwp_orders.specs.Headline as orders
use Rattle.jdwp_orders.specs.Watched.{Since, all_may_ask, all_might_ask, asked_within, asks_by, begins, hears, hears_all, hears_front, hears_packet, heeds, watch_after}
use Rattle.jdwp_across.specs.Apart.{SuspendsWhatIsHeldApart, are_in_order, is_in_order, programs_apart}
use Rattle.jdwp_across.specs.Headline.{MayStart}
use Rattle.jdwp_across.specs.Merges.{Merged}
use Rattle.jdwp_across.specs.Merges as merging
use Rattle.jdwp_across.specs.Programs.{Act, ComesToDebugger, ComesToTarget, Connects, DebuggerAsks, DebuggerLoses, DebuggerNumbers, DebuggerTurns, Does, LeavesDebugger, LeavesTarget, Programs, TargetDefers, TargetLoses, TargetReleases, TargetSteps, TargetTurns, events_in, events_of, settled, where_did}
use Rattle.jdwp_across.specs.Standing.{uncounted, unmeasured}
use Rattle.jdwp_across.proofs.Asked.{Puts, and-both, answered-before, answered-some, both, closes-open, fold-some, invokes-none, is_of_target, may-at, may-more, may-without, might-entered, put-some, reported-some, target-heeds, target-left, watch-append, watch-open, watch-shut}
use Rattle.jdwp_across.proofs.DebuggerActs.{none-read}
use Rattle.jdwp_across.proofs.Fronts.{IsNews, SaysSo, has-front}
use Rattle.jdwp_across.proofs.Reached.{events-more, run-append}
use Rattle.jdwp_across.proofs.Sure.{Watched, answers-watched, asks-watched, begins-watched, reports-watched, waited-watched, watched-as}
use Rattle.jdwp_across.proofs.Twins.{Stands, as_one, first-stands, stands-on, twin}

-- ---- the watch behind acts

abbrev pub watch_by : {S : Type 0} → Meaning S → Settings → Widths → World S → List Act → Since → Watch
watch_by m settings w start acts since = watch_after m true since settings (unmeasured w settings.limits) start (begins true) (events_in acts)

-- What holds of the debugger's own and of the world for which the twins stand: what is followed is the model's watch, and by as much as is followed
-- each command that was asked is one that such sessions are spoken of with.
record Watches {S : Type 0} (m : Meaning S) (settings : Settings) (w : Widths) (start : World S) (acts : List Act) (d : Debugger) (x : World S) : Type 0 where
  early : is_established_phase d.end.phase ≡ false → (since : Since) → watch_by m settings w start acts since ≡ begins true
  opened : (f : Following) → following d ≡ Some f → is_open d.end ≡ true
  watched : (f : Following) → following d ≡ Some f → Watched (watch_by m settings w start acts) f
  within : (f : Following) → following d ≡ Some f → asked_within x ≡ true

-- how an act goes
record Goes {S : Type 0} (m : Meaning S) (settings : Settings) (w : Widths) (start : World S) (acts : List Act) (act : Act) (d e : Debugger) (x y : World S) : Type 0 where
  runs : uncounted y ≡ run m settings (unmeasured w settings.limits) (uncounted x) (events_of act)
  watch : (since : Since) → watch_by m settings w start (acts ++ act ∷ []) since ≡ watch_after m true since settings (unmeasured w settings.limits) (uncounted x) (watch_by m settings w start acts since) (events_of act)
  before : d.end.phase ≡ x.debugger
  behind : e.end.phase ≡ y.debugger
  tickets_before : d.tickets ≡ x.asked
  tickets_behind : e.tickets ≡ y.asked
  waits : is_closed y.debugger ≡ false → without_ids (waiting e.pending) ≡ y.pending

goes : {S : Type 0} (m : Meaning S) (settings : Settings) (w : Widths) (start : World S) (acts : List Act) (act : Act) (old new : Programs S) → (h : Stands m settings w start acts old) → (k : Stands m settings w start (acts ++ act ∷ []) new)
    → Goes m settings w start acts act old.debugger new.debugger h.standing.world k.standing.world
goes m settings w start acts act old new h k =
    let measure = unmeasured w settings.limits in
    let r = h.standing.stands.reached in
    let q = k.standing.stands.reached in
    record {
      runs = sym q.is ∙ (ap (run m settings measure start) (events-more acts act) ∙ (run-append m settings measure start (events_in acts) (events_of act) ∙ ap (λ z. run m settings measure z (events_of act)) r.is));
      watch = λ since.
          ap (watch_after m true since settings measure start (begins true)) (events-more acts act)
          ∙ (watch-append m true since settings measure start (begins true) (events_in acts) (events_of act)
          ∙ ap (λ z. watch_after m true since settings measure z (watch_by m settings w start acts since) (events_of act)) r.is);
      before = h.standing.stands.parts.debugger.phase;
      behind = k.standing.stands.parts.debugger.phase;
      tickets_before = h.standing.stands.parts.debugger.tickets;
      tickets_behind = k.standing.stands.parts.debugger.tickets;
      waits = λ o. (k.standing.stands.parts.debugger.opened o).pending;
    }

not-true : (b : Bool) → not b ≡ true → b ≡ false
not-true true h = absurd (cc)
not-true false h = refl

-- ---- acts at which the debugger reads and asks nothing

within-same : {S : Type 0} (x z : World S) → z.read ≡ x.read → z.pending ≡ x.pending → asked_within x ≡ true → asked_within z ≡ true
within-same x z r p h = (λ i. all_may_ask (p i) && all_might_ask (r i)) ∙ h

idle : {S : Type 0} (m : Meaning S) (settings : Settings) (w : Widths) (start : World S) (acts : List Act) (act : Act) (d e : Debugger) (x y : World S) → Goes m settings w start acts act d e x y → events_of act ≡ []
    → ((f : Following) → following e ≡ Some f → following d ≡ Some f) → Watches m settings w start acts d x → Watches m settings w start (acts ++ act ∷ []) e y
idle m settings w start acts act d e x y g none less h =
    let measure = unmeasured w settings.limits in
    let same : uncounted y ≡ uncounted x = g.runs ∙ ap (run m settings measure (uncounted x)) none in
    let phase : e.end.phase ≡ d.end.phase = g.behind ∙ (ap (λ z. z.debugger) same ∙ sym g.before) in
    let still : (since : Since) → watch_by m settings w start (acts ++ act ∷ []) since ≡ watch_by m settings w start acts since =
    λ since. g.watch since ∙ ap (watch_after m true since settings measure (uncounted x) (watch_by m settings w start acts since)) none in
    record {
      early = λ q since. still since ∙ h.early (ap is_established_phase (sym phase) ∙ q) since;
      opened = λ f q. ap is_open_phase phase ∙ h.opened f (less f q);
      watched = λ f q. watched-as (watch_by m settings w start acts) (watch_by m settings w start (acts ++ act ∷ [])) f still (h.watched f (less f q));
      within = λ f q. within-same x y (ap (λ z. z.read) same) (ap (λ z. z.pending) same) (h.within f (less f q));
    }

acts-at-target : {S : Type 0} (m : Meaning S) (settings : Settings) (w : Widths) (start : World S) (acts : List Act) (act : Act) (d e : Debugger) (x y : World S) (event : LinkEvent) → Goes m settings w start acts act d e x y → events_of act ≡ event ∷ [] → is_of_target event ≡ true
    → e ≡ d → Watches m settings w start acts d x → Watches m settings w start (acts ++ act ∷ []) e y
acts-at-target m settings w start acts act d e x y event g one is same h =
    let measure = unmeasured w settings.limits in
    let to = next m settings measure (uncounted x) event in
    let runs : uncounted y ≡ to.0 = g.runs ∙ ap (run m settings measure (uncounted x)) one in
    let left = target-left m settings measure (uncounted x) event is in
    let less : (f : Following) → following e ≡ Some f → following d ≡ Some f = λ f q. ap following (sym same) ∙ q in
    let watch : (since : Since) → watch_by m settings w start (acts ++ act ∷ []) since ≡ cond (is_closed to.0.debugger) (begins true) (heeds since settings measure (uncounted x) (watch_by m settings w start acts since) event) =
    λ since. g.watch since ∙ ap (watch_after m true since settings measure (uncounted x) (watch_by m settings w start acts since)) one in
    record {
      early = λ q since. watch since ∙
          cond_both (is_closed to.0.debugger) (begins true) (heeds since settings measure (uncounted x) (watch_by m settings w start acts since) event) (λ v. v ≡ begins true) (λ _. refl)
          (λ _. target-heeds since settings measure (uncounted x) (watch_by m settings w start acts since) event is ∙ h.early (ap (λ v. is_established_phase v.end.phase) (sym same) ∙ q) since);
      opened = λ f q. ap (λ v. is_open v.end) same ∙ h.opened f (less f q);
      watched = λ f q.
          let shut : is_closed to.0.debugger ≡ false = ap (λ z. is_closed z.debugger) (sym runs) ∙ (ap is_closed (sym g.behind) ∙ (ap (λ v. is_closed v.end.phase) same ∙ ap not (h.opened f (less f q)))) in
          watched-as (watch_by m settings w start acts) (watch_by m settings w start (acts ++ act ∷ [])) f
          (λ since. watch since ∙ (ap (λ b. cond b (begins true) (heeds since settings measure (uncounted x) (watch_by m settings w start acts since) event)) shut
          ∙ target-heeds since settings measure (uncounted x) (watch_by m settings w start acts since) event is)) (h.watched f (less f q));
      within = λ f q. within-same x y (ap (λ z. z.read) runs ∙ left.0) (ap (λ z. z.pending) runs ∙ left.1) (h.within f (less f q));
    }

-- whether or not anything was done
may-act : {S : Type 0} (m : Meaning S) (settings : Settings) (w : Widths) (start : World S) (acts : List Act) (act : Act) (d e : Debugger) (x y : World S) (did : Bool) (event : LinkEvent) → Goes m settings w start acts act d e x y → events_of act ≡ where_did did event → is_of_target event ≡ true
    → e ≡ d → Watches m settings w start acts d x → Watches m settings w start (acts ++ act ∷ []) e y
may-act m settings w start acts act d e x y true event g one is same h = acts-at-target m settings w start acts act d e x y event g one is same h
may-act m settings w start acts act d e x y false event g none is same h = idle m settings w start acts act d e x y g none (λ f q. ap following (sym same) ∙ q) h

-- ---- a session begins, and ends

begun-is : (o : Order) (f : Following) → begun_in o ≡ Some f → begun ≡ f
begun-is One f h = absurd (cc)
begun-is Apart f h = cc

open-closed : (p : Phase) → is_open_phase p ≡ false → is_established_phase p ≡ false
open-closed Closed h = refl
open-closed AwaitingHandshake h = refl
open-closed Established h = absurd (cc)

-- nothing was read as a session begins
begins-none : {S : Type 0} (x : World S) → is_closed x.debugger ≡ true → is_closed (attaches x).debugger ≡ false → all_might_ask (attaches x).read ≡ true
begins-none x shut = cond_both (may_attach x) (attached x) x (λ z. is_closed z.debugger ≡ false → all_might_ask z.read ≡ true) (λ _ _. refl) (λ _ o. absurd (cc))

begins-session : {S : Type 0} (m : Meaning S) (settings : Settings) (w : Widths) (start : World S) (acts : List Act) (d e : Debugger) (x y : World S) → Goes m settings w start acts Connects d e x y → is_open d.end ≡ false → e ≡ debuggers.attached d
    → Watches m settings w start acts d x → Watches m settings w start (acts ++ Connects ∷ []) e y
begins-session m settings w start acts d e x y g shut is h =
    let measure = unmeasured w settings.limits in
    let runs : uncounted y ≡ attaches (uncounted x) = g.runs in
    let open-now : is_closed y.debugger ≡ false = ap is_closed (sym g.behind) ∙ ap (λ v. is_closed v.end.phase) is in
    let kept : is_closed (attaches (uncounted x)).debugger ≡ false = ap (λ z. is_closed z.debugger) (sym runs) ∙ open-now in
    let first : (since : Since) → watch_by m settings w start (acts ++ Connects ∷ []) since ≡ begins true =
    λ since. g.watch since ∙ (watch-open m since settings measure (uncounted x) (watch_by m settings w start acts since) Events.Attach kept ∙ h.early (open-closed d.end.phase shut) since) in
    let none : without_ids (waiting e.pending) ≡ [] = ap (λ v. without_ids (waiting v.pending)) is in
    record {
      early = λ q. first;
      opened = λ f q. ap (λ v. is_open v.end) is;
      watched = λ f q.
          let same : begun ≡ f = begun-is d.order f (sym (ap following is ∙ first-follows d.order (widths_by None)) ∙ q) in
          subst (Watched (watch_by m settings w start (acts ++ Connects ∷ []))) same (begins-watched (watch_by m settings w start (acts ++ Connects ∷ [])) first);
      within = λ f q.
          and-both (all_may_ask y.pending) (all_might_ask y.read) (ap all_may_ask (sym (g.waits open-now) ∙ none))
          (ap (λ z. all_might_ask z.read) runs ∙ begins-none (uncounted x) (ap is_closed (sym g.before) ∙ ap not shut) kept);
    }

loses-session : {S : Type 0} (m : Meaning S) (settings : Settings) (w : Widths) (start : World S) (acts : List Act) (act : Act) (d e : Debugger) (x y : World S) → Goes m settings w start acts act d e x y → events_of act ≡ Events.DebuggerLoses ∷ [] → e ≡ debuggers.lost_debugger d
    → Watches m settings w start (acts ++ act ∷ []) e y
loses-session m settings w start acts act d e x y g one is =
    let measure = unmeasured w settings.limits in
    let none : following e ≡ None = ap following is in
    record {
      early = λ q since. g.watch since ∙ ap (watch_after m true since settings measure (uncounted x) (watch_by m settings w start acts since)) one;
      opened = λ f q. let no : None ≡ Some f = sym none ∙ q in absurd (cc);
      watched = λ f q. let no : None ≡ Some f = sym none ∙ q in absurd (cc);
      within = λ f q. let no : None ≡ Some f = sym none ∙ q in absurd (cc);
    }

-- ---- a command is asked

asked-none : {S : Type 0} (x : World S) (c : Command) (r : Option AskRefusal) → (ask_by x c r).0.asked ≡ x.asked + 1 → r ≡ None
asked-none x c None h = refl
asked-none x c (Some r) h = let no : x.asked ≡ x.asked + 1 = h in absurd (omega (no, arith))

asks-command : {S : Type 0} (m : Meaning S) (settings : Settings) (w : Widths) (start : World S) (acts : List Act) (act : Act) (c : Command) (d e : Debugger) (x y : World S) → Goes m settings w start acts act d e x y → events_of act ≡ Events.Ask c ∷ [] → is_invocation c ≡ false → HasAsked c d e
    → Watches m settings w start acts d x → Watches m settings w start (acts ++ act ∷ []) e y
asks-command m settings w start acts act c d e x y g one plain asked h =
    let measure = unmeasured w settings.limits in
    let is = asked.is in
    let refusal = ask_refusal settings measure (uncounted x) c in
    let first : uncounted y ≡ (ask_by (uncounted x) c refusal).0 = g.runs ∙ ap (run m settings measure (uncounted x)) one in
    let more : (ask_by (uncounted x) c refusal).0.asked ≡ x.asked + 1 = ap (λ z. z.asked) (sym first) ∙ (sym g.tickets_behind ∙ (ap (λ v. v.tickets) is ∙ ap (λ n. n + 1) g.tickets_before)) in
    let none : refusal ≡ None = asked-none (uncounted x) c refusal more in
    let runs : uncounted y ≡ (ask_by (uncounted x) c None).0 = first ∙ ap (λ r. (ask_by (uncounted x) c r).0) none in
    let phase : e.end.phase ≡ Established = ap (λ v. v.end.phase) is ∙ asked.established in
    let kept : is_closed (ask_by (uncounted x) c refusal).0.debugger ≡ false = ap (λ z. is_closed z.debugger) (sym first) ∙ (ap is_closed (sym g.behind) ∙ ap is_closed phase) in
    let p : Asked = record { id = asked.id; ticket = Some (record { 0 = d.tickets + 1 }); command = c } in
    let follows : following e ≡ put_to (widths_by d.sizes) c (following d) = ap following is ∙ put-to-follows d.ledger (ledger_put (put_of c) d.ledger) d.sizes d.pending (d.pending ++ p ∷ []) p refl refl in
    let puts : (f : Following) → following e ≡ Some f → Puts c (following d) f = λ f q. put-some (widths_by d.sizes) c (following d) f plain (sym follows ∙ q) in
    record {
      early = λ q. let no : is_established_phase e.end.phase ≡ true = ap is_established_phase phase in absurd (cc);
      opened = λ f q. ap is_open_phase phase;
      watched = λ f q.
          let u = puts f q in
          subst (Watched (watch_by m settings w start (acts ++ act ∷ []))) u.is
          (watched-as (λ since. asks (watch_by m settings w start acts since) c) (watch_by m settings w start (acts ++ act ∷ [])) (record u.first { watch = asks u.first.watch c })
          (λ since. g.watch since ∙ (ap (watch_after m true since settings measure (uncounted x) (watch_by m settings w start acts since)) one
          ∙ (watch-open m since settings measure (uncounted x) (watch_by m settings w start acts since) (Events.Ask c) kept ∙ ap (asks_by (watch_by m settings w start acts since) c) none)))
          (asks-watched (watch_by m settings w start acts) u.first c (h.watched u.first u.before)));
      within = λ f q.
          let u = puts f q in
          let old = both (all_may_ask x.pending) (all_might_ask x.read) (h.within u.first u.before) in
          ap asked_within runs ∙ and-both (all_may_ask (x.pending ++ (Some (x.asked + 1), c) ∷ [])) (all_might_ask x.read) (may-more x.pending (Some (x.asked + 1)) c old.0 u.may) old.1;
    }

-- ---- a message is read

-- what the debugger is behind a message, before tickets that wait are lost, where the model's world is this
record Hears {S : Type 0} (m : Meaning S) (settings : Settings) (w : Widths) (start : World S) (acts : List Act) (x : World S) (message : Message) (t : Told) (after : Debugger) (z : World S) : Type 0 where
  did : told_did t ≡ true
  shut : is_established_phase after.end.phase ≡ false → is_closed after.end.phase ≡ true
  opened : (f : Following) → following after ≡ Some f → is_open after.end ≡ true
  watched : (f : Following) → following after ≡ Some f → Watched (λ since. hears_packet since (uncounted x) (watch_by m settings w start acts since) message) f
  within : is_closed z.debugger ≡ false → (f : Following) → following after ≡ Some f → asked_within z ≡ true

closed-follows : (b : Bool) (d : Debugger) (f : Following) → following (closed_where b d) ≡ Some f → closed_where b d ≡ d
closed-follows true d f h = absurd (cc)
closed-follows false d f h = refl

measured-follows : (b : Bool) (v : Widths) (d : Debugger) (f : Following) → following (measured_where b v d) ≡ Some f → measured_where b v d ≡ d
measured-follows true v d f h = absurd (cc)
measured-follows false v d f h = refl

settled-follows : (b : Bool) (d : Debugger) (f : Following) → following (settled b d) ≡ Some f → settled b d ≡ d
settled-follows true d f h = absurd (cc)
settled-follows false d f h = refl

closed-shut : (b : Bool) (d : Debugger) → d.end.phase ≡ Established → is_established_phase (closed_where b d).end.phase ≡ false → is_closed (closed_where b d).end.phase ≡ true
closed-shut true d e h = refl
closed-shut false d e h = let no : is_established_phase d.end.phase ≡ true = ap is_established_phase e in absurd (cc)

measured-shut : (b : Bool) (v : Widths) (d : Debugger) → d.end.phase ≡ Established → is_established_phase (measured_where b v d).end.phase ≡ false → is_closed (measured_where b v d).end.phase ≡ true
measured-shut true v d e h = refl
measured-shut false v d e h = let no : is_established_phase d.end.phase ≡ true = ap is_established_phase e in absurd (cc)

settled-shut : (b : Bool) (d : Debugger) → (is_established_phase d.end.phase ≡ false → is_closed d.end.phase ≡ true) → is_established_phase (settled b d).end.phase ≡ false → is_closed (settled b d).end.phase ≡ true
settled-shut true d f h = refl
settled-shut false d f h = f h

-- what the model's world is behind it
abbrev read_of : {S : Type 0} → Settings → Widths → World S → Packet S → List (Packet S) → World S
read_of settings w x p rest = (reads (debugger_takes (unmeasured w settings.limits) (uncounted x) p rest) p).0

hears-handshake : {S : Type 0} (m : Meaning S) (settings : Settings) (w : Widths) (start : World S) (acts : List Act) (d : Debugger) (x : World S) (a : Moment S) (rest : List (Packet S)) (used : ℕ) (t : Told) (after : Debugger)
    → Watches m settings w start acts d x → t ≡ turns.Hello → after ≡ turns.greeted used d → Hears m settings w start acts x Handshake t after (read_of settings w x (Handshake, a) rest)
hears-handshake m settings w start acts d x a rest used t after h told is =
    let p : Asked = record { id = d.next_id; ticket = None; command = id_sizes } in
    let follows : following after ≡ put_to (widths_by d.sizes) id_sizes (following d) = ap following is ∙ put-to-follows d.ledger (ledger_put put.Asks d.ledger) d.sizes d.pending (d.pending ++ p ∷ []) p refl refl in
    let puts : (f : Following) → following after ≡ Some f → Puts id_sizes (following d) f = λ f q. put-some (widths_by d.sizes) id_sizes (following d) f refl (sym follows ∙ q) in
    record {
      did = ap told_did told;
      shut = λ q. let no : is_established_phase after.end.phase ≡ true = ap (λ v. is_established_phase v.end.phase) is in absurd (cc);
      opened = λ f q. ap (λ v. is_open v.end) is;
      watched = λ f q.
          let u = puts f q in
          subst (Watched (λ since. asks (watch_by m settings w start acts since) id_sizes)) u.is (asks-watched (watch_by m settings w start acts) u.first id_sizes (h.watched u.first u.before));
      within = λ o f q.
          let u = puts f q in
          let old = both (all_may_ask x.pending) (all_might_ask x.read) (h.within u.first u.before) in
          and-both (all_may_ask (x.pending ++ (None, id_sizes) ∷ [])) (all_might_ask x.read) (may-more x.pending None id_sizes old.0 refl) old.1;
    }

hears-parked : {S : Type 0} (m : Meaning S) (settings : Settings) (w : Widths) (start : World S) (acts : List Act) (d : Debugger) (x : World S) (c : CompositeMeaning) (a : Moment S) (rest : List (Packet S)) (header : Header) (body bytes : List ℕ) (used : ℕ) (t : Told) (after : Debugger)
    → Watches m settings w start acts d x → x.ready ≡ false → Enters (streams.Packet header body) used header (Waits bytes) d t after → Hears m settings w start acts x (Report c) t after (read_of settings w x (Report c, a) rest)
hears-parked m settings w start acts d x c a rest header body bytes used t after h ready (told, is) =
    let less : (f : Following) → following after ≡ Some f → following d ≡ Some f = λ f q. ap following (sym is) ∙ q in
    let z = debugger_takes (unmeasured w settings.limits) (uncounted x) (Report c, a) rest in
    record {
      did = ap told_did told;
      shut = λ q. let no : is_established_phase after.end.phase ≡ true = ap (λ v. is_established_phase v.end.phase) is in absurd (cc);
      opened = λ f q. ap (λ v. is_open v.end) is;
      watched = λ f q.
          watched-as (watch_by m settings w start acts) (λ since. hears_packet since (uncounted x) (watch_by m settings w start acts since) (Report c)) f
          (λ since. ap (λ b. cond b (hears since (watch_by m settings w start acts since) (Report c)) (watch_by m settings w start acts since)) ready) (h.watched f (less f q));
      within = λ o f q. ap (λ b. asked_within (reads_composite z (Report c, a) c b).0) ready ∙ h.within f (less f q);
    }

hears-report : {S : Type 0} (m : Meaning S) (settings : Settings) (w : Widths) (start : World S) (acts : List Act) (d : Debugger) (x : World S) (c : CompositeMeaning) (a : Moment S) (rest : List (Packet S)) (header : Header) (body : List ℕ) (used : ℕ) (t : Told) (after : Debugger)
    → Watches m settings w start acts d x → x.ready ≡ true → Enters (streams.Packet header body) used header (Happens c) d t after → Hears m settings w start acts x (Report c) t after (read_of settings w x (Report c, a) rest)
hears-report m settings w start acts d x c a rest header body used t after h ready (told, (mirror, learned, ledger, follows, is)) =
    let b = ends (Report c) in
    let base = record (turns.with_read (streams.Packet header body) used (head.Composite header ∷ []) d) { mirror = mirror; ledger = ledger } in
    let z = debugger_takes (unmeasured w settings.limits) (uncounted x) (Report c, a) rest in
    let kept : (f : Following) → following after ≡ Some f → closed_where b base ≡ base = λ f q. closed-follows b base f (ap following (sym is) ∙ q) in
    let from : (f : Following) → following after ≡ Some f → reported_to (following d) c ≡ Some f = λ f q. sym follows ∙ (ap following (sym (is ∙ kept f q)) ∙ q) in
    record {
      did = ap told_did told;
      shut = λ q. ap (λ v. is_closed v.end.phase) is ∙ closed-shut b base refl (ap (λ v. is_established_phase v.end.phase) (sym is) ∙ q);
      opened = λ f q. ap (λ v. is_open v.end) (is ∙ kept f q);
      watched = λ f q.
          let (first, before, last) = reported-some c (following d) f (from f q) in
          watched-as (λ since. hears since (watch_by m settings w start acts since) (Report c)) (λ since. hears_packet since (uncounted x) (watch_by m settings w start acts since) (Report c)) f
          (λ since. ap (λ r. cond r (hears since (watch_by m settings w start acts since) (Report c)) (watch_by m settings w start acts since)) ready)
          (subst (Watched (λ since. hears since (watch_by m settings w start acts since) (Report c))) last (reports-watched (watch_by m settings w start acts) first c (h.watched first before)));
      within = λ o f q.
          let (first, before, last) = reported-some c (following d) f (from f q) in
          let read : (reads_composite z (Report c, a) c x.ready).0 ≡ (reads_composite z (Report c, a) c true).0 = ap (λ r. (reads_composite z (Report c, a) c r).0) ready in
          ap asked_within (read ∙ closes-open (record z { read = (Report c, a) ∷ z.read }) (Events.Seen c ∷ []) (is_vm_death c) (ap (λ v. is_closed v.debugger) (sym read) ∙ o)) ∙ h.within first before;
    }

hears-answer : {S : Type 0} (m : Meaning S) (settings : Settings) (w : Widths) (start : World S) (acts : List Act) (d : Debugger) (x : World S) (k : ℕ) (c : Command) (answer : Answer) (a : Moment S) (rest : List (Packet S)) (place ticket : ℕ) (given : Answer) (header : Header) (body : List ℕ) (used : ℕ) (t : Told) (after : Debugger)
    → Watches m settings w start acts d x → without_ids (waiting d.pending) ≡ x.pending → given ≡ answer → command_at place d.pending ≡ c → x.parked ≡ []
    → Enters (streams.Packet header body) used header (Answers place ticket given) d t after → Hears m settings w start acts x (Reply (Some k) c answer) t after (read_of settings w x (Reply (Some k) c answer, a) rest)
hears-answer m settings w start acts d x k c answer a rest place ticket given header body used t after h waits same command bare (told, (mirror, learned, ledger, follows, is)) =
    let q = command_at place d.pending in
    let b = ends (Reply (Some ticket) q given) in
    let base = record (turns.with_read (streams.Packet header body) used (turns.reply_head header q ∷ []) d) { mirror = mirror; pending = remove d.pending place; ledger = ledger } in
    let z = debugger_takes (unmeasured w settings.limits) (uncounted x) (Reply (Some k) c answer, a) rest in
    let kept : (f : Following) → following after ≡ Some f → closed_where b base ≡ base = λ f e. closed-follows b base f (ap following (sym is) ∙ e) in
    let from : (f : Following) → following after ≡ Some f → answered_to (widths_by d.sizes) (is_next place d.pending) q given (following d) ≡ Some f = λ f e. sym follows ∙ (ap following (sym (is ∙ kept f e)) ∙ e) in
    let old : (f : Following) → following after ≡ Some f → (all_may_ask x.pending ≡ true) × (all_might_ask x.read ≡ true) =
    λ f e. let (first, before) = answered-before (widths_by d.sizes) (is_next place d.pending) q given (following d) f (from f e) in both (all_may_ask x.pending) (all_might_ask x.read) (h.within first before) in
    let may = λ (f : Following) (e : following after ≡ Some f). may-at place d.pending (ap all_may_ask waits ∙ (old f e).0) in
    record {
      did = ap told_did told;
      shut = λ e. ap (λ v. is_closed v.end.phase) is ∙ closed-shut b base refl (ap (λ v. is_established_phase v.end.phase) (sym is) ∙ e);
      opened = λ f e. ap (λ v. is_open v.end) (is ∙ kept f e);
      watched = λ f e.
          let u = answered-some (widths_by d.sizes) (is_next place d.pending) q given (following d) f (invokes-none q (may f e)) (from f e) in
          watched-as (λ since. hears since (watch_by m settings w start acts since) (Reply (Some k) q given)) (λ since. hears_packet since (uncounted x) (watch_by m settings w start acts since) (Reply (Some k) c answer)) f
          (λ since. ap (λ ps. hears since (hears_all since (watch_by m settings w start acts since) ps) (Reply (Some k) c answer)) bare
          ∙ (λ i. hears since (watch_by m settings w start acts since) (Reply (Some k) (sym command i) (sym same i))))
          (subst (Watched (λ since. hears since (watch_by m settings w start acts since) (Reply (Some k) q given))) u.is (answers-watched (watch_by m settings w start acts) u.first (Some k) q given (h.watched u.first u.before)));
      within = λ o f e.
          ap asked_within (closes-open (reads_reply z (Reply (Some k) c answer, a) (Some k)) (composites_of x.parked ++ answered (Some k) answer) (ends (Reply (Some k) c answer) || has_end x.parked) o)
          ∙ and-both (all_may_ask (without_ticket (Some k) x.pending)) (may_ask c && all_might_ask (entered x.parked x.read)) (may-without (Some k) x.pending (old f e).0)
          (and-both (may_ask c) (all_might_ask (entered x.parked x.read)) (ap may_ask (sym command) ∙ may f e) (ap (λ ps. all_might_ask (entered ps x.read)) bare ∙ (old f e).1));
    }

hears-sizes : {S : Type 0} (m : Meaning S) (settings : Settings) (w : Widths) (start : World S) (acts : List Act) (d : Debugger) (x : World S) (c : Command) (answer : Answer) (a : Moment S) (rest : List (Packet S)) (place : ℕ) (given : Answer) (v : Widths) (cs : List CompositeMeaning) (header : Header) (body : List ℕ) (used : ℕ) (t : Told) (after : Debugger)
    → Watches m settings w start acts d x → without_ids (waiting d.pending) ≡ x.pending → given ≡ answer → command_at place d.pending ≡ c → reports cs ≡ messages_of x.parked
    → Enters (streams.Packet header body) used header (Measures place given v cs) d t after → Hears m settings w start acts x (Reply None c answer) t after (read_of settings w x (Reply None c answer, a) rest)
hears-sizes m settings w start acts d x c answer a rest place given v cs header body used t after h waits same command waited (told, (mirror, learned, ledger, follows, is)) =
    let q = command_at place d.pending in
    let b = list_any ends (reports cs) in
    let base = turns.with_ledger ledger (turns.with_sizes (streams.Packet header body) used header place mirror v d) in
    let z = debugger_takes (unmeasured w settings.limits) (uncounted x) (Reply None c answer, a) rest in
    let all = fold reported_to (following d) cs in
    let kept : (f : Following) → following after ≡ Some f → measured_where b v base ≡ base = λ f e. measured-follows b v base f (ap following (sym is) ∙ e) in
    let from : (f : Following) → following after ≡ Some f → answered_to (widths_by d.sizes) (is_next place d.pending) q given all ≡ Some f = λ f e. sym follows ∙ (ap following (sym (is ∙ kept f e)) ∙ e) in
    let first : (f : Following) → following after ≡ Some f → (g : Following) × (following d ≡ Some g) =
    λ f e. let (g, before) = answered-before (widths_by d.sizes) (is_next place d.pending) q given all f (from f e) in fold-some cs (following d) g before in
    let old : (f : Following) → following after ≡ Some f → (all_may_ask x.pending ≡ true) × (all_might_ask x.read ≡ true) =
    λ f e. both (all_may_ask x.pending) (all_might_ask x.read) (h.within (first f e).0 (first f e).1) in
    let may = λ (f : Following) (e : following after ≡ Some f). may-at place d.pending (ap all_may_ask waits ∙ (old f e).0) in
    record {
      did = ap told_did told;
      shut = λ e. ap (λ u. is_closed u.end.phase) is ∙ measured-shut b v base refl (ap (λ u. is_established_phase u.end.phase) (sym is) ∙ e);
      opened = λ f e. ap (λ u. is_open u.end) (is ∙ kept f e);
      watched = λ f e.
          let u = answered-some (widths_by d.sizes) (is_next place d.pending) q given all f (invokes-none q (may f e)) (from f e) in
          let (g, before) = first f e in
          let through = waited-watched (watch_by m settings w start acts) g u.first cs x.parked waited (h.watched g before) (ap (λ o. fold reported_to o cs) (sym before) ∙ u.before) in
          let waits-for = λ (since : Since). hears_all since (watch_by m settings w start acts since) x.parked in
          watched-as (λ since. hears since (waits-for since) (Reply None q given)) (λ since. hears_packet since (uncounted x) (watch_by m settings w start acts since) (Reply None c answer)) f
          (λ since i. hears since (waits-for since) (Reply None (sym command i) (sym same i)))
          (subst (Watched (λ since. hears since (waits-for since) (Reply None q given))) u.is (answers-watched waits-for u.first None q given through));
      within = λ o f e.
          ap asked_within (closes-open (reads_reply z (Reply None c answer, a) None) (composites_of x.parked ++ answered None answer) (ends (Reply None c answer) || has_end x.parked) o)
          ∙ and-both (all_may_ask (without_ticket None x.pending)) (may_ask c && all_might_ask (entered x.parked x.read)) (may-without None x.pending (old f e).0)
          (and-both (may_ask c) (all_might_ask (entered x.parked x.read)) (ap may_ask (sym command) ∙ may f e) (might-entered cs x.parked x.read waited ∙ (old f e).1));
    }

-- what the packet says tells what is heard
hears-news : {S : Type 0} (m : Meaning S) (settings : Settings) (w : Widths) (start : World S) (acts : List Act) (d : Debugger) (mirror : Mirror) (x : World S) (message : Message) (a : Moment S) (rest : List (Packet S)) (news : News) (header : Header) (body : List ℕ) (used : ℕ) (t : Told) (after : Debugger)
    → Watches m settings w start acts d x → without_ids (waiting d.pending) ≡ x.pending → IsNews x (as_one mirror d) message news → Enters (streams.Packet header body) used header news d t after
    → Hears m settings w start acts x message t after (read_of settings w x (message, a) rest)
hears-news m settings w start acts d mirror x (Report c) a rest (Waits bytes) header body used t after h waits ready enters = hears-parked m settings w start acts d x c a rest header body bytes used t after h ready enters
hears-news m settings w start acts d mirror x (Report c) a rest (Happens e) header body used t after h waits (ready, same) enters =
    hears-report m settings w start acts d x c a rest header body used t after h ready (subst (λ q. Enters (streams.Packet header body) used header (Happens q) d t after) same enters)
hears-news m settings w start acts d mirror x (Reply (Some k) c answer) a rest (Answers place ticket given) header body used t after h waits (same, command, bare) enters =
    hears-answer m settings w start acts d x k c answer a rest place ticket given header body used t after h waits same command bare enters
hears-news m settings w start acts d mirror x (Reply None c answer) a rest (Measures place given v cs) header body used t after h waits (same, command, waited) enters =
    hears-sizes m settings w start acts d x c answer a rest place given v cs header body used t after h waits same command waited enters
hears-news m settings w start acts d mirror x message a rest news header body used t after h waits never enters = absurd never

hears-message : {S : Type 0} (m : Meaning S) (settings : Settings) (w : Widths) (start : World S) (acts : List Act) (d : Debugger) (mirror : Mirror) (x : World S) (message : Message) (a : Moment S) (rest : List (Packet S)) (sent : streams.Message) (used : ℕ) (r : Read) (after : Debugger)
    → Watches m settings w start acts d x → without_ids (waiting d.pending) ≡ x.pending → SaysSo x (as_one mirror d) message sent → turns.HandlesAt sent used d (Ok r) after
    → Hears m settings w start acts x message (read_meaning r) after (read_of settings w x (message, a) rest)
hears-message m settings w start acts d mirror x message a rest streams.Handshake used r after h waits so (told, none, is) =
    subst (λ q. Hears m settings w start acts x q (read_meaning r) after (read_of settings w x (q, a) rest)) (sym so) (hears-handshake m settings w start acts d x a rest used (read_meaning r) after h told is)
hears-message m settings w start acts d mirror x message a rest (streams.Packet header body) used r after h waits (news, said, so) reads-it =
    let same : Ok reads-it.news ≡ Ok news = sym reads-it.said ∙ said d.order in
    let e : reads-it.news ≡ news = cc in
    hears-news m settings w start acts d mirror x message a rest news header body used (read_meaning r) after h waits so (subst (λ n. Enters (streams.Packet header body) used header n d (read_meaning r) after) e reads-it.entered)

reads-message : {S : Type 0} (m : Meaning S) (settings : Settings) (w : Widths) (start : World S) (acts : List Act) (act : Act) (d e after : Debugger) (x y : World S) (p : Packet S) (rest : List (Packet S)) (t : Told) → Goes m settings w start acts act d e x y → events_of act ≡ where_did (told_did t) Events.DebuggerTurn
    → debugger_front settings (unmeasured w settings.limits) (uncounted x) ≡ Some (p, rest) → fault_of (reader x) p.0 ≡ None → e ≡ settled (is_left after) after
    → Hears m settings w start acts x p.0 t after (read_of settings w x p rest) → Watches m settings w start (acts ++ act ∷ []) e y
reads-message m settings w start acts act d e after x y p rest t g turned front fair is h =
    let measure = unmeasured w settings.limits in
    let one : events_of act ≡ Events.DebuggerTurn ∷ [] = turned ∙ ap (λ b. where_did b Events.DebuggerTurn) h.did in
    let to = next m settings measure (uncounted x) Events.DebuggerTurn in
    let there : uncounted y ≡ to.0 = g.runs ∙ ap (run m settings measure (uncounted x)) one in
    let runs : uncounted y ≡ read_of settings w x p rest =
    there ∙ (ap (λ o. (debugger_turn_at measure (uncounted x) o).0) front ∙ ap (λ f. (debugger_handles (debugger_takes measure (uncounted x) p rest) p f).0) fair) in
    let kept : (f : Following) → following e ≡ Some f → e ≡ after = λ f q. is ∙ settled-follows (is_left after) after f (ap following (sym is) ∙ q) in
    let less : (f : Following) → following e ≡ Some f → following after ≡ Some f = λ f q. ap following (sym (kept f q)) ∙ q in
    let opened : (f : Following) → following e ≡ Some f → is_open e.end ≡ true = λ f q. ap (λ v. is_open v.end) (kept f q) ∙ h.opened f (less f q) in
    let still : (f : Following) → following e ≡ Some f → is_closed y.debugger ≡ false = λ f q. ap is_closed (sym g.behind) ∙ ap not (opened f q) in
    let watch : (since : Since) → watch_by m settings w start (acts ++ act ∷ []) since ≡ watch_after m true since settings measure (uncounted x) (watch_by m settings w start acts since) (Events.DebuggerTurn ∷ []) =
    λ since. g.watch since ∙ ap (watch_after m true since settings measure (uncounted x) (watch_by m settings w start acts since)) one in
    record {
      early = λ q since.
          let shut : is_closed e.end.phase ≡ true = ap (λ v. is_closed v.end.phase) is ∙ settled-shut (is_left after) after h.shut (ap (λ v. is_established_phase v.end.phase) (sym is) ∙ q) in
          watch since ∙ watch-shut m since settings measure (uncounted x) (watch_by m settings w start acts since) Events.DebuggerTurn (ap (λ z. is_closed z.debugger) (sym there) ∙ (ap is_closed (sym g.behind) ∙ shut));
      opened = opened;
      watched = λ f q.
          watched-as (λ since. hears_packet since (uncounted x) (watch_by m settings w start acts since) p.0) (watch_by m settings w start (acts ++ act ∷ [])) f
          (λ since. watch since ∙ (watch-open m since settings measure (uncounted x) (watch_by m settings w start acts since) Events.DebuggerTurn (ap (λ z. is_closed z.debugger) (sym there) ∙ still f q)
          ∙ ap (hears_front since (uncounted x) (watch_by m settings w start acts since)) front)) (h.watched f (less f q));
      within = λ f q. ap asked_within runs ∙ h.within (ap (λ z. is_closed z.debugger) (sym runs) ∙ still f q) f (less f q);
    }

reads-nothing : {S : Type 0} (m : Meaning S) (settings : Settings) (w : Widths) (start : World S) (acts : List Act) (act : Act) (d e after : Debugger) (x y : World S) (r : Read) → Goes m settings w start acts act d e x y → events_of act ≡ where_did (told_did (read_meaning r)) Events.DebuggerTurn
    → turns.TurnsAt More d (Ok r) after → e ≡ settled (is_left after) after → Watches m settings w start acts d x → Watches m settings w start (acts ++ act ∷ []) e y
reads-nothing m settings w start acts act d e after x y r g turned (told, same) is h =
    let none = none-read r told in
    idle m settings w start acts act d e x y g (turned ∙ ap (λ q. where_did (told_did (read_meaning q)) Events.DebuggerTurn) none)
    (λ f q. ap following (sym same) ∙ (ap following (sym (settled-follows (is_left after) after f (ap following (sym is) ∙ q))) ∙ (ap following (sym is) ∙ q))) h

turns-debugger : {S : Type 0} (m : Meaning S) (settings : Settings) (w : Widths) (start : World S) (acts : List Act) (act : Act) (old : Programs S) (e after : Debugger) (y : World S) (r : Read) → Laws m → (h : Stands m settings w start acts old) → Goes m settings w start acts act old.debugger e h.standing.world y
    → events_of act ≡ where_did (told_did (read_meaning r)) Events.DebuggerTurn → turns.TurnsAt (front_of old.debugger.end) old.debugger (Ok r) after → e ≡ settled (is_left after) after
    → Watches m settings w start acts old.debugger h.standing.world → Watches m settings w start (acts ++ act ∷ []) e y
turns-debugger m settings w start acts act old e after y r laws h g turned so is watches =
    let d = old.debugger in
    let x = h.standing.world in
    elim (has-front m settings w start acts (twin h.mirror old) laws h.standing) [
      | inl more ↦ reads-nothing m settings w start acts act d e after x y r g turned (subst (λ f. turns.TurnsAt f d (Ok r) after) more so) is watches
      | inr q ↦
          let waits = (h.standing.stands.parts.debugger.opened q.opened).pending in
          reads-message m settings w start acts act d e after x y q.packet q.rest (read_meaning r) g turned q.model_front q.fair is
          (hears-message m settings w start acts d h.mirror x q.packet.0 q.packet.1 q.rest _ _ r after watches waits q.says (subst (λ f. turns.TurnsAt f d (Ok r) after) q.front so))
    ]

-- ---- each act

watches-on : {S : Type 0} (m : Meaning S) (settings : Settings) (w : Widths) (start : World S) (acts : List Act) (act : Act) (old new : Programs S) (y : World S) → Laws m → (h : Stands m settings w start acts old) → Goes m settings w start acts act old.debugger new.debugger h.standing.world y
    → is_in_order act ≡ true → Does m act old new → Watches m settings w start acts old.debugger h.standing.world → Watches m settings w start (acts ++ act ∷ []) new.debugger y
watches-on m settings w start acts Connects old new y laws h g order (shut, unheard, lives, is) watches =
    begins-session m settings w start acts old.debugger new.debugger h.standing.world y g unheard (ap (λ v. v.debugger) is) watches
watches-on m settings w start acts (ComesToTarget bytes) old new y laws h g order is watches =
    idle m settings w start acts (ComesToTarget bytes) old.debugger new.debugger h.standing.world y g refl (λ f q. ap (λ v. following v.debugger) (sym is) ∙ q) watches
watches-on m settings w start acts (LeavesTarget bytes) old new y laws h g order is watches =
    idle m settings w start acts (LeavesTarget bytes) old.debugger new.debugger h.standing.world y g refl (λ f q. ap (λ v. following v.debugger) (sym is) ∙ q) watches
watches-on m settings w start acts (TargetTurns turn) old new y laws h g order (so, encoded, sends, same) watches =
    may-act m settings w start acts (TargetTurns turn) old.debugger new.debugger h.standing.world y (turn_did turn) Events.TargetTurn g refl refl same watches
watches-on m settings w start acts (TargetReleases place turn) old new y laws h g order (so, encoded, sends, same) watches =
    may-act m settings w start acts (TargetReleases place turn) old.debugger new.debugger h.standing.world y (turn_did turn) (Events.Release place) g refl refl same watches
watches-on m settings w start acts (TargetSteps t stepped) old new y laws h g order (so, encoded, sends, same) watches =
    may-act m settings w start acts (TargetSteps t stepped) old.debugger new.debugger h.standing.world y (step_did stepped) (Events.Step t) g refl refl same watches
watches-on m settings w start acts (TargetDefers deferring) old new y laws h g order is watches =
    acts-at-target m settings w start acts (TargetDefers deferring) old.debugger new.debugger h.standing.world y (Events.Defer deferring) g refl refl (ap (λ v. v.debugger) is) watches
watches-on m settings w start acts TargetLoses old new y laws h g order is watches =
    acts-at-target m settings w start acts TargetLoses old.debugger new.debugger h.standing.world y Events.TargetLoses g refl refl (ap (λ v. v.debugger) is) watches
watches-on m settings w start acts (ComesToDebugger bytes) old new y laws h g order is watches =
    idle m settings w start acts (ComesToDebugger bytes) old.debugger new.debugger h.standing.world y g refl (λ f q. ap (λ v. following v.debugger) (sym is) ∙ q) watches
watches-on m settings w start acts (LeavesDebugger bytes) old new y laws h g order is watches =
    idle m settings w start acts (LeavesDebugger bytes) old.debugger new.debugger h.standing.world y g refl (λ f q. ap (λ v. following v.debugger) (sym is) ∙ q) watches
watches-on m settings w start acts (DebuggerAsks c ticket) old new y laws h g order (free, given, asked, same) watches =
    asks-command m settings w start acts (DebuggerAsks c ticket) c old.debugger new.debugger h.standing.world y g refl (not-true (is_invocation c) order) asked watches
watches-on m settings w start acts (DebuggerNumbers id) old new y laws h g order (small, is) watches =
    idle m settings w start acts (DebuggerNumbers id) old.debugger new.debugger h.standing.world y g refl (λ f q. ap (λ v. following v.debugger) (sym is) ∙ q) watches
watches-on m settings w start acts (DebuggerTurns r lost) old new y laws h g order (after, so, gone, is) watches =
    turns-debugger m settings w start acts (DebuggerTurns r lost) old new.debugger after y r laws h g refl so (ap (λ v. v.debugger) is) watches
watches-on m settings w start acts (DebuggerLoses lost) old new y laws h g order (gone, is) watches =
    loses-session m settings w start acts (DebuggerLoses lost) old.debugger new.debugger h.standing.world y g refl (ap (λ v. v.debugger) is)

-- ---- the order

closed-order : (b : Bool) (d : Debugger) → (closed_where b d).order ≡ d.order
closed-order true d = refl
closed-order false d = refl

measured-order : (b : Bool) (v : Widths) (d : Debugger) → (measured_where b v d).order ≡ d.order
measured-order true v d = refl
measured-order false v d = refl

settled-order : (b : Bool) (d : Debugger) → (settled b d).order ≡ d.order
settled-order true d = refl
settled-order false d = refl

enters-order : (header : Header) (body : List ℕ) (used : ℕ) (d : Debugger) (t : Told) (after : Debugger) (news : News) → Enters (streams.Packet header body) used header news d t after → after.order ≡ d.order
enters-order header body used d t after (Waits bytes) (told, is) = ap (λ v. v.order) is
enters-order header body used d t after (Happens c) (told, (mirror, learned, ledger, follows, is)) = ap (λ v. v.order) is ∙ closed-order (ends (Report c)) _
enters-order header body used d t after (Answers place ticket answer) (told, (mirror, learned, ledger, follows, is)) = ap (λ v. v.order) is ∙ closed-order (ends (Reply (Some ticket) (command_at place d.pending) answer)) _
enters-order header body used d t after (Measures place answer v cs) (told, (mirror, learned, ledger, follows, is)) = ap (λ u. u.order) is ∙ measured-order (list_any ends (reports cs)) v _

handled-order : (sent : streams.Message) (used : ℕ) (d : Debugger) (r : Read) (after : Debugger) → turns.HandlesAt sent used d (Ok r) after → after.order ≡ d.order
handled-order streams.Handshake used d r after (told, none, is) = ap (λ v. v.order) is
handled-order (streams.Packet header body) used d r after h = enters-order header body used d (read_meaning r) after h.news h.entered

pub turn-order : (f : NextMessage) (d : Debugger) (r : Read) (after : Debugger) → turns.TurnsAt f d (Ok r) after → after.order ≡ d.order
turn-order (Whole message used) d r after h = handled-order message used d r after h
turn-order More d r after (told, is) = ap (λ v. v.order) is
turn-order (Fault fault) d r after (told, is) = absurd (cc)

pub act-order : {S : Type 0} (m : Meaning S) (act : Act) (old new : Programs S) → Does m act old new → new.debugger.order ≡ old.debugger.order
act-order m Connects old new (shut, unheard, lives, is) = ap (λ v. v.debugger.order) is
act-order m (ComesToTarget bytes) old new is = ap (λ v. v.debugger.order) is
act-order m (LeavesTarget bytes) old new is = ap (λ v. v.debugger.order) is
act-order m (TargetTurns turn) old new (so, encoded, sends, same) = ap (λ d. d.order) same
act-order m (TargetReleases place turn) old new (so, encoded, sends, same) = ap (λ d. d.order) same
act-order m (TargetSteps t stepped) old new (so, encoded, sends, same) = ap (λ d. d.order) same
act-order m (TargetDefers deferring) old new is = ap (λ v. v.debugger.order) is
act-order m TargetLoses old new is = ap (λ v. v.debugger.order) is
act-order m (ComesToDebugger bytes) old new is = ap (λ v. v.debugger.order) is
act-order m (LeavesDebugger bytes) old new is = ap (λ v. v.debugger.order) is
act-order m (DebuggerAsks c ticket) old new (free, given, asked, same) = ap (λ d. d.order) asked.is
act-order m (DebuggerNumbers id) old new (small, is) = ap (λ v. v.debugger.order) is
act-order m (DebuggerTurns r lost) old new (after, so, gone, is) = ap (λ v. v.debugger.order) is ∙ (settled-order (is_left after) after ∙ turn-order (front_of old.debugger.end) old.debugger r after so)
act-order m (DebuggerLoses lost) old new (gone, is) = ap (λ v. v.debugger.order) is

-- ---- every merge

order-front : (acts : List Act) (act : Act) → are_in_order (acts ++ act ∷ []) ≡ true → (are_in_order acts ≡ true) × (is_in_order act ≡ true)
order-front [] act h = (refl, (both (is_in_order act) true h).0)
order-front (a ∷ acts) act h =
    let d = both (is_in_order a) (are_in_order (acts ++ act ∷ [])) h in
    let rest = order-front acts act d.1 in
    (and-both (is_in_order a) (are_in_order acts) d.0 rest.0, rest.1)

record All {S : Type 0} (m : Meaning S) (settings : Settings) (w : Widths) (start : World S) (acts : List Act) (v : Programs S) : Type 0 where
  stands : Stands m settings w start acts v
  order : v.debugger.order ≡ Apart
  watches : Watches m settings w start acts v.debugger stands.standing.world

first-watches : {S : Type 0} (m : Meaning S) (settings : Settings) (s : S) (id : ℕ) (x : World S) → Watches m settings (m.sizes s) (opening m s) [] (programs_apart m settings s id).debugger x
first-watches m settings s id x = record { early = λ q since. refl; opened = λ f q. absurd (cc); watched = λ f q. absurd (cc); within = λ f q. absurd (cc) }

all-acts : {S : Type 0} (m : Meaning S) (settings : Settings) (s : S) (id : ℕ) (acts : List Act) (v : Programs S) → Laws m → MayStart m settings s id → are_in_order acts ≡ true → Merged m (programs_apart m settings s id) acts v → All m settings (m.sizes s) (opening m s) acts v
all-acts m settings s id acts v laws may order merging.Start =
    let stands = first-stands m laws.worlds settings s id may in
    record { stands = stands; order = refl; watches = first-watches m settings s id stands.standing.world }
all-acts m settings s id acts v laws may order (merging.More before act old new merged does agrees) =
    let w = m.sizes s in
    let start = opening m s in
    let split = order-front before act order in
    let h = all-acts m settings s id before old laws may split.0 merged in
    let stands = stands-on m settings w start before act old new laws h.stands does agrees in
    record {
      stands = stands;
      order = act-order m act old new does ∙ h.order;
      watches = watches-on m settings w start before act old new stands.standing.world laws h.stands (goes m settings w start before act old new h.stands stands) split.1 does h.watches;
    }

-- ---- no target begins to defer

did-nothing : (b : Bool) (e : LinkEvent) (es : List LinkEvent) → begins_deferring e ≡ false → defer_nothing es ≡ true → defer_nothing (where_did b e ++ es) ≡ true
did-nothing true e es none h = and-both (not (begins_deferring e)) (defer_nothing es) (ap not none) h
did-nothing false e es none h = h

act-defers : (act : Act) (es : List LinkEvent) → is_in_order act ≡ true → defer_nothing es ≡ true → defer_nothing (events_of act ++ es) ≡ true
act-defers Connects es order h = h
act-defers (ComesToTarget bytes) es order h = h
act-defers (LeavesTarget bytes) es order h = h
act-defers (TargetTurns turn) es order h = did-nothing (turn_did turn) Events.TargetTurn es refl h
act-defers (TargetReleases place turn) es order h = did-nothing (turn_did turn) (Events.Release place) es refl h
act-defers (TargetSteps t stepped) es order h = did-nothing (step_did stepped) (Events.Step t) es refl h
act-defers (TargetDefers deferring) es order h = and-both (not deferring) (defer_nothing es) order h
act-defers TargetLoses es order h = h
act-defers (ComesToDebugger bytes) es order h = h
act-defers (LeavesDebugger bytes) es order h = h
act-defers (DebuggerAsks c ticket) es order h = h
act-defers (DebuggerNumbers id) es order h = h
act-defers (DebuggerTurns r lost) es order h = did-nothing (told_did (read_meaning r)) Events.DebuggerTurn es refl h
act-defers (DebuggerLoses lost) es order h = h

none-defers : (acts : List Act) → are_in_order acts ≡ true → defer_nothing (events_in acts) ≡ true
none-defers [] h = refl
none-defers (act ∷ acts) h = let d = both (is_in_order act) (are_in_order acts) h in act-defers act (events_in acts) d.0 (none-defers acts d.1)

-- ---- what is sure

least-by : {S : Type 0} (m : Meaning S) (settings : Settings) (s : S) (acts : List Act) (v : Programs S) (t n : ℕ) (o : Option Following) → orders.Always m orders.SureIsCovered → MayBegin m settings s → (h : All m settings (m.sizes s) (opening m s) acts v) → are_in_order acts ≡ true
    → v.target.moment.state.alive ≡ true → v.target.end.session.lost ≡ false → count_of v.target.moment.state t ≡ Some n → following v.debugger ≡ o → surely o t ≤ n
least-by m settings s acts v t n None law begin h order alive kept lives is = omega arith
least-by m settings s acts v t n (Some f) law begin h order alive kept lives is =
    let w = m.sizes s in
    let start = opening m s in
    let measure = unmeasured w settings.limits in
    let b = h.stands.standing in
    let x = b.world in
    let k = h.watches.watched f is in
    let since : Since = λ i c. follow.since (k.made i) c in
    let parts = b.stands.parts in
    let within : orders.IsWithin (uncounted x) = record {
      alive = ap (λ y. y.state.alive) (sym parts.target.now) ∙ alive;
      not_lost = sym parts.target.lost ∙ kept;
      asked = h.watches.within f is;
    } in
    let here = subst (λ z. orders.SureIsCovered true since z (watch_by m settings w start acts since)) b.stands.reached.is (law settings measure s (events_in acts) true since begin (none-defers acts order) k.past) in
    let least : sure (watch_by m settings w start acts since) t ≤ n = here t n within (ap (λ y. count_of y.state t) (sym parts.target.now) ∙ lives) in
    subst (λ q. sure q t ≤ n) (k.same since (λ i c le. refl)) least

pub suspends-what-is-held-apart : {S : Type 0} (m : Meaning S) → Laws m → orders.Always m orders.SureIsCovered → SuspendsWhatIsHeldApart m
suspends-what-is-held-apart {S} m laws law settings s id acts target debugger t n may merged order alive kept lives =
    let v : Programs S = record { target = target; debugger = debugger } in
    let h = all-acts m settings s id acts v laws may order merged in
    let least : surely (following debugger) t ≤ n = least-by m settings s acts v t n (following debugger) law may.begins h order alive kept lives refl in
    record {
      suspended = λ held.
          let some : 0 < surely (following debugger) t = ltb-true 0 (surely (following debugger) t) (ap (λ o. held_in o debugger t) (sym h.order) ∙ held) in
          omega (some, least, arith);
      at_least = subst (λ o. least_in o debugger t ≤ n) (sym h.order) least;
    }
