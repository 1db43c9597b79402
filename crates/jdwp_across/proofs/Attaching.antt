-- what `attach` does is acts of a debugger
use Rattle.std.proofs.Common.{◌≡◌, ◌≢◌, ℕ, ◌≤◌, ◌+◌, Bool, true, false, not, ◌&&◌, inl, inr, List, [], ◌∷◌, ◌++◌, length, Option, Some, None, Result, Ok, Err, refl, sym, ◌∙◌, ap, subst, arith}
use Rattle.std.proofs.Math.Seq.{drop-nil}
use Rattle.std.proofs.lemmas.List.{append-nil, append_assoc}
use Rattle.jdwp_wire.specs.Streams.{IsFront}
use Rattle.jdwp_end.specs.Ends.{End, front_of, is_open, room_of}
use Rattle.jdwp_machine.specs.Meanings.{Meaning}
use Rattle.jdwp_action.specs.Actions.{Command}
use Rattle.jdwp_debugger.specs.Asking.{HasAsked, refusal_of_ask}
use Rattle.jdwp_debugger.specs.Debuggers.{Debugger, attached, lost_debugger, tickets_of, with_fed, with_taken}
use Rattle.jdwp_debugger.specs.DebuggerTurns.{TurnsAt, refused}
use Rattle.jdwp_debugger.specs.declared.faults.DebuggerFault.{DebuggerFault}
use Rattle.jdwp_debugger.specs.declared.faults.DebuggerFault.TheVariants as code
use Rattle.jdwp_debugger.specs.declared.pending.Ticket.{Ticket}
use Rattle.jdwp_debugger.specs.declared.turning.Read.{Read}
use Rattle.jdwp_debugger.specs.declared.turning.Read.TheVariants as read
use Rattle.jdwp_link.specs.EventParts.{is_left}
use Rattle.jdwp_link.proofs.Moves.{fed-none}
use Rattle.jdwp_end.specs.Story.{Story, flushed}
use Rattle.jdwp_end.specs.declared.pipes.ended.Ended.{Ended}
use Rattle.jdwp_end.specs.declared.pipes.ended.Ended.TheVariants as ended
use Rattle.jdwp_attach.specs.declared.plans.plan_line.PlanLine.{PlanLine}
use Rattle.jdwp_attach.specs.OwnCounts.{AsksDue, Step, due_behind, suspend_count}
use Rattle.jdwp_attach.specs.PlanRuns.{Attaches, IsLostFrom, Leaves, MayEnd, Stays, Tells, TellsInOrder, TellsPart, WantsMemory, WantsToAsk, WantsToTell, WantsTurn, unflushed_debugger}
use Rattle.jdwp_attach.specs.Runs as run
use Rattle.jdwp_attach.specs.Runs.{FlushesOrFails, InOrder, Reaches, ReachesBy, Standing, at}
use Rattle.jdwp_attach.proofs.Turned.{fault-refused, memory-same}
use Rattle.jdwp_across.specs.Programs.{Act, ComesToDebugger, DebuggerAsks, DebuggerLoses, DebuggerTurns, LeavesDebugger, lost_with, settled}
use Rattle.jdwp_across.specs.Acting.{DebuggerDoes, DebuggerRuns, Move, bytes_of, from_debugger, to_debugger}
use Rattle.jdwp_across.specs.Running as running
use Rattle.jdwp_across.specs.Running.{DebuggerActs, IsAs}
use Rattle.jdwp_across.proofs.Moving.{bytes-on, leads-all, leads-one}
use Rattle.jdwp_across.proofs.Turning.{Stays as SessionStays, asks-open, none-comes, none-fails, none-in-front, none-turns, turn-stays}

-- ---- acts that led on

record Went {S : Type 0} (m : Meaning S) (first last : Debugger) : Type 0 where
  moves : List (Move Debugger)
  runs : DebuggerRuns m first moves last
  fed : last.end.session.fed ≡ first.end.session.fed ++ bytes_of to_debugger moves
  taken : last.end.session.taken ≡ first.end.session.taken ++ bytes_of from_debugger moves

went-nowhere : {S : Type 0} (m : Meaning S) (d : Debugger) → Went m d d
went-nowhere m d = record { moves = []; runs = refl; fed = sym (append-nil d.end.session.fed); taken = sym (append-nil d.end.session.taken) }

went-on : {S : Type 0} (m : Meaning S) (first old new : Debugger) (act : Act) → Went m first old → DebuggerDoes m act old new → new.end.session.fed ≡ old.end.session.fed ++ to_debugger act
    → new.end.session.taken ≡ old.end.session.taken ++ from_debugger act → Went m first new
went-on m first old new act h does fed taken =
    let move : Move Debugger = record { act = act; behind = new } in
    record {
      moves = h.moves ++ move ∷ [];
      runs = leads-all (DebuggerDoes m) first old new h.moves (move ∷ []) h.runs (leads-one (DebuggerDoes m) old new act does);
      fed = bytes-on to_debugger h.moves (move ∷ []) first.end.session.fed old.end.session.fed new.end.session.fed h.fed (fed ∙ ap (λ b. old.end.session.fed ++ b) (sym (append-nil (to_debugger act))));
      taken = bytes-on from_debugger h.moves (move ∷ []) first.end.session.taken old.end.session.taken new.end.session.taken h.taken (taken ∙ ap (λ b. old.end.session.taken ++ b) (sym (append-nil (from_debugger act))));
    }

-- an act at which nothing comes and nothing leaves
went-quietly : {S : Type 0} (m : Meaning S) (first old new : Debugger) (act : Act) → Went m first old → DebuggerDoes m act old new → to_debugger act ≡ [] → from_debugger act ≡ [] → SessionStays old new → Went m first new
went-quietly m first old new act h does none_comes none_leaves stays =
    went-on m first old new act h does (stays.fed ∙ sym (ap (λ b. old.end.session.fed ++ b) none_comes ∙ append-nil old.end.session.fed))
    (stays.taken ∙ sym (ap (λ b. old.end.session.taken ++ b) none_leaves ∙ append-nil old.end.session.taken))

-- Acts lead to the last debugger, and this one is as it.
record Led {S : Type 0} (m : Meaning S) (first d : Debugger) : Type 0 where
  last : Debugger
  went : Went m first last
  is : IsAs last d
  fed : d.end.session.fed ≡ last.end.session.fed
  taken : IsFront last.end.session.taken d.end.session.taken

-- they lead to this very one
led-same : {S : Type 0} (m : Meaning S) (first d : Debugger) → Went m first d → Led m first d
led-same m first d h = record { last = d; went = h; is = running.Same refl; fed = refl; taken = ([], sym (append-nil d.end.session.taken)) }

-- and to what is left as its end closed
led-closed : {S : Type 0} (m : Meaning S) (first d : Debugger) → is_open d.end ≡ false → Went m first (lost_debugger d) → Led m first d
led-closed m first d shut h = record { last = lost_debugger d; went = h; is = running.Closed shut refl; fed = refl; taken = ([], sym (append-nil d.end.session.taken)) }

-- ---- a turn

settled-stays : (b : Bool) (old mid : Debugger) → SessionStays old mid → SessionStays old (settled b mid)
settled-stays true old mid h = record { fed = h.fed; taken = h.taken }
settled-stays false old mid h = h

turned : {S : Type 0} (m : Meaning S) (first old mid : Debugger) (r : Read) → Went m first old → TurnsAt (front_of old.end) old (Ok r) mid → Went m first (settled (is_left mid) mid)
turned m first old mid r h so =
    went-quietly m first old (settled (is_left mid) mid) (DebuggerTurns r (lost_with (is_left mid) mid)) h (refl, λ t. (mid, so, refl, refl)) refl refl
    (settled-stays (is_left mid) old mid (turn-stays (front_of old.end) old mid r so))

left-shut : (unshut some : Bool) → (not unshut && some) ≡ true → unshut ≡ false
left-shut true some h = absurd (cc)
left-shut false some h = refl

turn-by : {S : Type 0} (m : Meaning S) (first mid : Debugger) (b : Bool) → (b ≡ true → is_open mid.end ≡ false) → Went m first (settled b mid) → Led m first mid
turn-by m first mid true shut h = led-closed m first mid (shut refl) h
turn-by m first mid false shut h = led-same m first mid h

turn-same : {S : Type 0} (m : Meaning S) (first old mid : Debugger) (r : Read) → Went m first old → TurnsAt (front_of old.end) old (Ok r) mid → Led m first mid
turn-same m first old mid r h so = turn-by m first mid (is_left mid) (λ e. left-shut (is_open mid.end) _ e) (turned m first old mid r h so)

-- a turn at an end that was lost
idle : {S : Type 0} (m : Meaning S) (first old : Debugger) → Went m first (lost_debugger old) → Went m first (lost_debugger (record old { last = [] }))
idle m first old h =
    let lost = lost_debugger old in
    turned m first lost (record lost { last = [] }) read.Nothing h (subst (λ x. TurnsAt x lost (Ok read.Nothing) (record lost { last = [] })) (sym (none-in-front lost.end refl)) (refl, refl))

turn-led : {S : Type 0} (m : Meaning S) (first old mid : Debugger) (r : Read) → Led m first old → TurnsAt (front_of old.end) old (Ok r) mid → Led m first mid
turn-led m first old mid r h so = elim h.is as (λ is. Led m first mid) [
  | running.Same e ↦ turn-same m first old mid r (subst (Went m first) (sym e) h.went) so
  | running.Closed shut e ↦
      let is : mid ≡ record old { last = [] } = (none-turns (front_of old.end) old mid r (none-in-front old.end shut) so).1 in
      subst (Led m first) (sym is) (led-closed m first (record old { last = [] }) shut (idle m first old (subst (Went m first) e h.went)))
  | running.Refused shut refuses ↦
      let is : mid ≡ record old { last = [] } = (none-turns (front_of old.end) old mid r (none-in-front old.end shut) so).1 in
      subst (Led m first) (sym is) (record { last = h.last; went = h.went; is = running.Refused shut refuses; fed = h.fed; taken = h.taken })
]

-- ---- a turn that fails

refuses-led : {S : Type 0} (m : Meaning S) (first old mid : Debugger) (fault : DebuggerFault) → fault ≢ code.NoMemory → Led m first old → TurnsAt (front_of old.end) old (Err fault) mid → Led m first mid
refuses-led m first old mid fault some h so = elim h.is as (λ is. Led m first mid) [
  | running.Same e ↦
      let is : mid ≡ refused old = fault-refused (front_of old.end) old mid fault some so in
      let at-last : TurnsAt (front_of h.last.end) h.last (Err fault) mid = subst (λ (d : Debugger). TurnsAt (front_of d.end) d (Err fault) mid) e so in
      subst (Led m first) (sym is)
      (record { last = h.last; went = h.went; is = running.Refused refl (fault, mid, at-last, some); fed = h.fed; taken = h.taken })
  | running.Closed shut e ↦ absurd (none-fails (front_of old.end) old mid fault (none-in-front old.end shut) so)
  | running.Refused shut refuses ↦ absurd (none-fails (front_of old.end) old mid fault (none-in-front old.end shut) so)
]

fails-led : {S : Type 0} (m : Meaning S) (first old mid : Debugger) (fault : DebuggerFault) → Led m first old → TurnsAt (front_of old.end) old (Err fault) mid → Led m first mid
fails-led m first old mid code.NoMemory h so = subst (Led m first) (sym (memory-same (front_of old.end) old mid so)) h
fails-led m first old mid (code.Frame fault) h so = refuses-led m first old mid (code.Frame fault) (λ e. cc) h so
fails-led m first old mid code.UnknownReply h so = refuses-led m first old mid code.UnknownReply (λ e. cc) h so
fails-led m first old mid code.BadReply h so = refuses-led m first old mid code.BadReply (λ e. cc) h so
fails-led m first old mid code.TooManyParked h so = refuses-led m first old mid code.TooManyParked (λ e. cc) h so
fails-led m first old mid code.BadEvent h so = refuses-led m first old mid code.BadEvent (λ e. cc) h so

turns-led : {S : Type 0} (m : Meaning S) (first old mid : Debugger) (result : Result Read DebuggerFault) → Led m first old → TurnsAt (front_of old.end) old result mid → Led m first mid
turns-led m first old mid (Ok r) h so = turn-led m first old mid r h so
turns-led m first old mid (Err fault) h so = fails-led m first old mid fault h so

-- ---- a command

asked : {S : Type 0} (m : Meaning S) (first old new : Debugger) (c : Command) → Went m first old → refusal_of_ask old c ≡ None → HasAsked c old new → Went m first new
asked m first old new c h free has =
    let ticket : Ticket = record { 0 = old.tickets + 1 } in
    went-quietly m first old new (DebuggerAsks c ticket) h (refl, λ t. (free, refl, has, refl)) refl refl
    (record { fed = ap (λ (d : Debugger). d.end.session.fed) has.is; taken = ap (λ (d : Debugger). d.end.session.taken) has.is })

ask-led : {S : Type 0} (m : Meaning S) (first old new : Debugger) (c : Command) → Led m first old → refusal_of_ask old c ≡ None → HasAsked c old new → Led m first new
ask-led m first old new c h free has =
    let opened = asks-open old c free in
    elim h.is as (λ is. Led m first new) [
      | running.Same e ↦ led-same m first new (asked m first old new c (subst (Went m first) (sym e) h.went) free has)
      | running.Closed shut e ↦ absurd (let both = sym opened ∙ shut in cc)
      | running.Refused shut refuses ↦ absurd (let both = sym opened ∙ shut in cc)
    ]

due-led : {S : Type 0} (m : Meaning S) (first old new : Debugger) (due : Option ℕ) (own : List Step) → Led m first old → AsksDue due old new own → Led m first new
due-led m first old new None own h (none, same) = subst (Led m first) (sym same) h
due-led m first old new (Some thread) own h (inl (one, free, has)) = ask-led m first old new (suspend_count thread) h free has
due-led m first old new (Some thread) own h (inr (none, refuses, same)) = subst (Led m first) (sym same) h

-- ---- bytes

none-fed : (d : Debugger) (bytes : List ℕ) → bytes ≡ [] → with_fed bytes d ≡ d
none-fed d bytes none = ap (λ b. with_fed b d) none ∙ ap (λ (e : End). record d { end = e }) (fed-none d.end)

feed-shut : {S : Type 0} (m : Meaning S) (first old : Debugger) (bytes : List ℕ) → is_open old.end ≡ false → length bytes ≤ room_of old.end → Led m first old → Led m first (with_fed bytes old)
feed-shut m first old bytes shut fits h = subst (Led m first) (sym (none-fed old bytes (none-comes old.end bytes shut fits))) h

feed-led : {S : Type 0} (m : Meaning S) (first old : Debugger) (bytes : List ℕ) → Led m first old → length bytes ≤ room_of old.end → Led m first (with_fed bytes old)
feed-led m first old bytes h fits = elim h.is as (λ is. Led m first (with_fed bytes old)) [
  | running.Same e ↦
      led-same m first (with_fed bytes old)
      (went-on m first old (with_fed bytes old) (ComesToDebugger bytes) (subst (Went m first) (sym e) h.went) (refl, λ t. refl) refl (sym (append-nil old.end.session.taken)))
  | running.Closed shut e ↦ feed-shut m first old bytes shut fits h
  | running.Refused shut refuses ↦ feed-shut m first old bytes shut fits h
]

take-lost : (d : Debugger) (bytes : List ℕ) → with_taken bytes (lost_debugger d) ≡ lost_debugger (with_taken bytes d)
take-lost d bytes = ap (λ (out : List ℕ). record (lost_debugger (with_taken bytes d)) { end = record (lost_debugger (with_taken bytes d)).end { outgoing = out } }) (drop-nil (length bytes))

took : {S : Type 0} (m : Meaning S) (first old : Debugger) (bytes : List ℕ) → Went m first old → Went m first (with_taken bytes old)
took m first old bytes h = went-on m first old (with_taken bytes old) (LeavesDebugger bytes) h (refl, λ t. refl) (sym (append-nil old.end.session.fed)) refl

take-led : {S : Type 0} (m : Meaning S) (first old : Debugger) (bytes : List ℕ) → Led m first old → Led m first (with_taken bytes old)
take-led m first old bytes h = elim h.is as (λ is. Led m first (with_taken bytes old)) [
  | running.Same e ↦ led-same m first (with_taken bytes old) (took m first old bytes (subst (Went m first) (sym e) h.went))
  | running.Closed shut e ↦
      led-closed m first (with_taken bytes old) shut (subst (Went m first) (take-lost old bytes) (took m first (lost_debugger old) bytes (subst (Went m first) e h.went)))
  | running.Refused shut refuses ↦
      let front = h.taken in
      record {
        last = h.last;
        went = h.went;
        is = running.Refused shut refuses;
        fed = h.fed;
        taken = (front.0 ++ bytes, ap (λ b. b ++ bytes) front.1 ∙ append_assoc h.last.end.session.taken front.0 bytes);
      }
]

-- ---- a loss

lose-led : {S : Type 0} (m : Meaning S) (first old : Debugger) → Led m first old → Led m first (lost_debugger old)
lose-led m first old h = elim h.is as (λ is. Led m first (lost_debugger old)) [
  | running.Same e ↦
      led-same m first (lost_debugger old)
      (went-quietly m first old (lost_debugger old) (DebuggerLoses (tickets_of old.pending)) (subst (Went m first) (sym e) h.went) (refl, λ t. (refl, refl)) refl refl (record { fed = refl; taken = refl }))
  | running.Closed shut e ↦ led-same m first (lost_debugger old) (subst (Went m first) e h.went)
  | running.Refused shut refuses ↦ record { last = h.last; went = h.went; is = running.Refused refl refuses; fed = h.fed; taken = h.taken }
]

-- ---- calls that lead on

reaches-led : {S : Type 0} (m : Meaning S) (plan : List PlanLine) (base : Debugger) (steps : List Step) (text : List ℕ) (d : Debugger) → Reaches plan base steps text d → Led m base d
reaches-led m plan base steps text d run.Begins = led-same m base base (went-nowhere m base)
reaches-led m plan base steps text d (run.Turns before own told old mid new result r awaits so asks) =
    due-led m base mid new (due_behind result mid) own (turns-led m base old mid result (reaches-led m plan base before told old r) so) asks
reaches-led m plan base steps text d (run.Asks before told old new command r opened free has) = ask-led m base old new command (reaches-led m plan base before told old r) free has
reaches-led m plan base steps text d (run.Feeds before told old new bytes r awaits so fits) = feed-led m base new bytes (turns-led m base old new (Ok read.Nothing) (reaches-led m plan base before told old r) so) fits
reaches-led m plan base steps text d (run.Takes before told old bytes r front) = take-led m base old bytes (reaches-led m plan base before told old r)
reaches-led m plan base steps text d (run.Passes before told old line more r tickets there tells) = reaches-led m plan base before told old r

by-led : {S : Type 0} (m : Meaning S) (plan done : List PlanLine) (base : Debugger) (text : List ℕ) (d : Debugger) → ReachesBy plan base done text d → Led m base d
by-led m plan done base text d (steps, are, r) = reaches-led m plan base steps text d r

tells-led : {S : Type 0} (m : Meaning S) (plan done : List PlanLine) (base : Standing) (out : Story) (d : Debugger) → Tells plan done base out d → Led m base.debugger d
tells-led m plan done base out d (text, r, printed) = by-led m plan done base.debugger text d r

in-order-led : {S : Type 0} (m : Meaning S) (plan : List PlanLine) (base : Standing) (out : Story) (d : Debugger) → TellsInOrder plan base out d → Led m base.debugger d
in-order-led m plan base out d (done, begins, tells) = tells-led m plan done base out d tells

-- ---- how a run ends

asks-led : {S : Type 0} (m : Meaning S) (plan : List PlanLine) (base : Standing) (out : Story) (d : Debugger) → WantsToAsk plan base out d → Led m base.debugger d
asks-led m plan base out d w = turn-led m base.debugger w.old d w.read (by-led m plan w.done base.debugger w.told w.old w.reached) w.turned

part-led : {S : Type 0} (m : Meaning S) (plan : List PlanLine) (base : Standing) (out : Story) (d : Debugger) → TellsPart plan base out d → Led m base.debugger d
part-led m plan base out d (inl (done, begins, (text, part, r, front, printed))) = by-led m plan done base.debugger text d r
part-led m plan base out d (inr wants) = asks-led m plan base out d wants

awaited-led : {S : Type 0} (m : Meaning S) (plan : List PlanLine) (base : Standing) (out : Story) (d : Debugger) → WantsTurn plan base out d → Led m base.debugger d
awaited-led m plan base out d (done, begins, awaits, tells) = tells-led m plan done base out d tells

tell-led : {S : Type 0} (m : Meaning S) (plan : List PlanLine) (base : Standing) (out : Story) (d : Debugger) → WantsToTell plan base out d → Led m base.debugger d
tell-led m plan base out d w =
    let old = by-led m plan w.done base.debugger w.told w.old w.reached in
    let mid = turn-led m base.debugger w.old w.mid w.read old w.turned in
    let new = due-led m base.debugger w.mid w.new (due_behind (Ok w.read) w.mid) w.own mid w.asks in
    subst (Led m base.debugger) (sym w.is) (take-led m base.debugger w.new w.new.end.outgoing new)

memory-led : {S : Type 0} (m : Meaning S) (plan : List PlanLine) (base : Standing) (out : Story) (d : Debugger) → WantsMemory plan base out d → Led m base.debugger d
memory-led m plan base out d (inl (wants, turned)) = awaited-led m plan base out d wants
memory-led m plan base out d (inr (inl (done, line, next, takes, tells))) = tells-led m plan done base out d tells
memory-led m plan base out d (inr (inr (inl wants))) = tell-led m plan base out d wants
memory-led m plan base out d (inr (inr (inr wants))) = asks-led m plan base out d wants

lost-led : {S : Type 0} (m : Meaning S) (P : Debugger → Type 0) (base d : Debugger) → ((before : Debugger) → P before → Led m base before) → IsLostFrom P d → Led m base d
lost-led m P base d led (before, holds, unlost, is) = subst (Led m base) (sym is) (lose-led m base before (led before holds))

ends-led : {S : Type 0} (m : Meaning S) (plan : List PlanLine) (how : Ended) (base : Standing) (pipe out : Story) (d : Debugger) → MayEnd plan how base pipe out d → Led m base.debugger d
ends-led m plan ended.Done base pipe out d (lost, left) =
    lost-led m _ base.debugger d
    (λ before h. elim h as (λ x. Led m base.debugger before) [
      | inl (reads, tells) ↦ in-order-led m plan base out before tells
      | inr (finished, tells) ↦ tells-led m plan plan base out before tells
    ]) lost
ends-led m plan ended.LostByRead base pipe out d (less, lost, left) = lost-led m _ base.debugger d (λ before h. in-order-led m plan base out before h.2) lost
ends-led m plan ended.LostByWrite base pipe out d (failed, lost) = lost-led m _ base.debugger d (λ before h. part-led m plan base out before h) lost
ends-led m plan (ended.Refused number) base pipe out d (lost, left) = lost-led m _ base.debugger d (λ before h. in-order-led m plan base out before h.1) lost
ends-led m plan ended.NoMemory base pipe out d (wants, kept, left) = memory-led m plan base out d wants
ends-led m plan ended.TurnLimit base pipe out d (wants, opened, kept, left, turns) = awaited-led m plan base out d wants

-- ---- what went through the pipe

-- the debugger and the pipe behind a run, and behind the last flush
acts-of : {S : Type 0} (m : Meaning S) (plan : List PlanLine) (base : Standing) (pipe out after : Story) (d new : Debugger) → base.debugger.end.session.fed ≡ [] → base.debugger.end.session.taken ≡ [] → InOrder plan base pipe out d
    → Led m base.debugger new → SessionStays d new → after.read ≡ pipe.read → (after.failed_writes ≡ base.pipe.failed_writes → (pipe.failed_writes ≡ base.pipe.failed_writes) × (after.written ≡ pipe.written))
    → DebuggerActs m base.debugger base.pipe new after
acts-of m plan base pipe out after d new unfed untaken order h stays read whole =
    let came : d.end.session.fed ≡ bytes_of to_debugger h.went.moves = sym stays.fed ∙ (h.fed ∙ (h.went.fed ∙ ap (λ b. b ++ bytes_of to_debugger h.went.moves) unfed)) in
    let took : d.end.session.taken ≡ bytes_of from_debugger h.went.moves ++ h.taken.0 =
    sym stays.taken ∙ (h.taken.1 ∙ ap (λ b. b ++ h.taken.0) (h.went.taken ∙ ap (λ b. b ++ bytes_of from_debugger h.went.moves) untaken)) in
    record {
      moves = h.went.moves;
      last = h.last;
      runs = h.went.runs;
      is = h.is;
      read = read ∙ (order.read ∙ ap (λ b. base.pipe.read ++ b) came);
      written = λ f.
          let w = whole f in
          let all = order.whole w.0 in
          (h.taken.0, w.1 ∙ (all.0 ∙ (ap (λ b. base.pipe.written ++ b) (sym all.1 ∙ took) ∙ sym (append_assoc base.pipe.written (bytes_of from_debugger h.went.moves) h.taken.0))));
    }

flush-so : {S : Type 0} (m : Meaning S) (plan : List PlanLine) (base : Standing) (pipe out after : Story) (d new : Debugger) (b : Bool) → base.debugger.end.session.fed ≡ [] → base.debugger.end.session.taken ≡ [] → InOrder plan base pipe out d
    → Led m base.debugger new → SessionStays d new → FlushesOrFails b pipe after → DebuggerActs m base.debugger base.pipe new after
flush-so m plan base pipe out after d new true unfed untaken order h stays is =
    acts-of m plan base pipe out after d new unfed untaken order h stays (ap (λ (x : Story). x.read) is)
    (λ f. (sym (ap (λ (x : Story). x.failed_writes) is) ∙ f, ap (λ (x : Story). x.written) is))
flush-so m plan base pipe out after d new false unfed untaken order h stays is =
    acts-of m plan base pipe out after d new unfed untaken order h stays (ap (λ (x : Story). x.read) is)
    (λ f. absurd (let more : after.failed_writes ≡ pipe.failed_writes + 1 = ap (λ (x : Story). x.failed_writes) is in let least = order.failed_writes in omega (arith, more, least, f)))

unflushed-led : {S : Type 0} (m : Meaning S) (base d : Debugger) (how : Ended) → Led m base d → Led m base (unflushed_debugger how d)
unflushed-led m base d ended.NoMemory h = lose-led m base d h
unflushed-led m base d ended.TurnLimit h = lose-led m base d h
unflushed-led m base d ended.Done h = h
unflushed-led m base d ended.LostByRead h = h
unflushed-led m base d ended.LostByWrite h = h
unflushed-led m base d (ended.Refused number) h = h

unflushed-stays : (how : Ended) (d : Debugger) → SessionStays d (unflushed_debugger how d)
unflushed-stays ended.NoMemory d = record { fed = refl; taken = refl }
unflushed-stays ended.TurnLimit d = record { fed = refl; taken = refl }
unflushed-stays ended.Done d = record { fed = refl; taken = refl }
unflushed-stays ended.LostByRead d = record { fed = refl; taken = refl }
unflushed-stays ended.LostByWrite d = record { fed = refl; taken = refl }
unflushed-stays (ended.Refused number) d = record { fed = refl; taken = refl }

attaches : {S : Type 0} (m : Meaning S) (plan : List PlanLine) (base : Standing) (how : Ended) (after printed : Story) (d : Debugger) → base.debugger.end.session.fed ≡ [] → base.debugger.end.session.taken ≡ []
    → Attaches plan base how after printed d → DebuggerActs m base.debugger base.pipe d after
attaches m plan base how after printed d unfed untaken (Leaves how' pipe out d' order ends) =
    acts-of m plan base pipe out (flushed pipe) d d unfed untaken order (ends-led m plan how base (flushed pipe) (flushed out) d ends) (record { fed = refl; taken = refl }) refl (λ f. (f, refl))
attaches m plan base how after printed d unfed untaken (Stays how' pipe out after' printed' old order ends fails) =
    flush-so m plan base pipe out after old (unflushed_debugger how' old) fails.left unfed untaken order
    (unflushed-led m base.debugger old how' (ends-led m plan how' base (flushed pipe) (flushed out) old ends)) (unflushed-stays how' old) fails.pipe_flushes

pub attaches-by-acts : {S : Type 0} (m : Meaning S) (plan : List PlanLine) (old : Debugger) (turns : ℕ) (before out : Story) (how : Ended) (after printed : Story) (d : Debugger)
    → Attaches plan (at before out (attached old) turns) how after printed d → DebuggerActs m (attached old) before d after
attaches-by-acts m plan old turns before out how after printed d h = attaches m plan (at before out (attached old) turns) how after printed d refl refl h
