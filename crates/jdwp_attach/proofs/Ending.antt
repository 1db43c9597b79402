-- Why a run of a plan ends, and what is left then.
use Rattle.std.proofs.Common.{◌≡◌, ◌≢◌, ◌∙◌, ℕ, ◌<◌, ◌≤◌, ◌+◌, ◌++◌, ◌⊎◌, List, [], ◌∷◌, length, true, false, Ok, Err, Some, None, Option, is_some, inl, inr, get_or, take, drop, sym, ap, refl, subst, append_assoc, arith}
use Rattle.std.proofs.lemmas.Grind.{common_steps}
use Rattle.std.proofs.lemmas.List.{append-nil}
use Rattle.jdwp_wire.specs.Handshake.{handshake_bytes}
use Rattle.jdwp_wire.specs.Streams.{More, IsFront}
use Rattle.jdwp_end.specs.Ends.{front_of, is_open}
use Rattle.jdwp_debugger.specs.declared.faults.DebuggerFault.{DebuggerFault}
use Rattle.jdwp_debugger.specs.declared.faults.DebuggerFault.TheVariants as code
use Rattle.jdwp_wire.specs.Widths.{Widths}
use Rattle.jdwp_action.specs.Actions.{Command}
use Rattle.jdwp_debugger.specs.declared.asking.Refused as asking
use Rattle.jdwp_debugger.specs.declared.asking.Refused.TheVariants as refusal
use Rattle.jdwp_debugger.specs.declared.turning.Read.{Read}
use Rattle.jdwp_debugger.specs.declared.turning.Read.TheVariants as read
use Rattle.jdwp_debugger.specs.Asking.{HasAsked, IsRefusal, refusal_of_ask}
use Rattle.jdwp_debugger.specs.RefusedNumbers.{refused_number}
use Rattle.jdwp_debugger.specs.Debuggers.{Debugger, attached, has_tickets, lost_debugger, with_taken}
use Rattle.jdwp_debugger.specs.DebuggerTurns.{TurnsAt, refused}
use Rattle.jdwp_end.specs.declared.pipes.ended.Ended.{Ended}
use Rattle.jdwp_end.specs.declared.pipes.ended.Ended.TheVariants.{Done, LostByRead, LostByWrite, Refused, NoMemory, TurnLimit}
use Rattle.jdwp_end.specs.Endings.{unflushed_end}
use Rattle.jdwp_end.specs.Story.{FailsFlush, FailsRead, FailsWrite, Story, flushed, with_written}
use Rattle.jdwp_attach.specs.declared.plans.plan_line.PlanLine.{PlanLine}
use Rattle.jdwp_attach.specs.declared.plans.plan_line.PlanLine.TheVariants as line
use Rattle.jdwp_attach.specs.Lines.{is_of_pair}
use Rattle.jdwp_attach.specs.PlanLines.{said_by}
use Rattle.jdwp_attach.specs.OwnCounts.{Line, due_behind}
use Rattle.jdwp_attach.specs.PlanAsks.{IsBeginning, Stands, asks, command_asked}
use Rattle.jdwp_attach.specs.PlanRuns.{Attaches, Leaves, Stays, EndsFailed, EndsRefused, EndsSo, HasLeft, IsAsk, LineEndsSo, MayEnd, ReadsEnd, RefusesBy, RefusesCommand, RefusesLineAt, TakesMemory, Tells, TellsInOrder, TellsPart, WantsMemory, WantsToAsk, WantsToTell, told_number, unflushed_debugger}
use Rattle.jdwp_attach.specs.PlanWaits.{Awaits}
use Rattle.jdwp_attach.specs.Runs.{AsksInOrder, FailsLastFlush, Finishes, InOrder, IsGoing, LosesAtRead, LosesAtWrite, Reaches, ReachesBy, RunSteps, Standing, at}
use Rattle.jdwp_attach.specs.Telling.{TellsKnown}
use Rattle.jdwp_attach.proofs.Moves.{asked-moves, asked-passes, begins-all, begins-behind, begins-line, begins-none, line-split, printed-again, written-none}
use Rattle.jdwp_attach.proofs.Reached.{along-all, along-taken, are-line, are-none, hello-reached, hello-reached-all, reach-passed, reach-same, reach-untold}
use Rattle.jdwp_attach.proofs.Stages.{asks-append, one-asked, puts-same, stands-asked, stands-known, stands-puts}
use Rattle.jdwp_attach.proofs.Turned.{Moves, fault-refused, memory-same}

-- ---- in order

-- as much was fed, put and taken, and as many commands were asked
pub record Same (old new : Debugger) : Type 0 where
  pub fed : new.end.session.fed ≡ old.end.session.fed
  pub enqueued : new.end.session.enqueued ≡ old.end.session.enqueued
  pub taken : new.end.session.taken ≡ old.end.session.taken
  pub tickets : new.tickets ≡ old.tickets

pub same-lost : (d : Debugger) → Same d (lost_debugger d)
same-lost d = record { fed = refl; enqueued = refl; taken = refl; tickets = refl }

pub same-by : (old new : Debugger) → new ≡ old → Same old new
same-by old new is =
    record {
      fed = ap (λ (d : Debugger). d.end.session.fed) is;
      enqueued = ap (λ (d : Debugger). d.end.session.enqueued) is;
      taken = ap (λ (d : Debugger). d.end.session.taken) is;
      tickets = ap (λ (d : Debugger). d.tickets) is;
    }

pub asks-same : (plan : List PlanLine) (base old new : Debugger) → new.tickets ≡ old.tickets → new.end.session.enqueued ≡ old.end.session.enqueued → AsksInOrder plan base old → AsksInOrder plan base new
asks-same plan base old new same enqueued (done, begins, (run, (tickets, puts))) = (done, begins, (run, (same ∙ tickets, puts-same run.steps base old new enqueued puts)))

pub going-asks : (plan done : List PlanLine) (base now : Standing) → IsBeginning done plan → IsGoing plan done base now → AsksInOrder plan base.debugger now.debugger
going-asks plan done base now begins k = (
  done,
  begins,
  (record { steps = k.steps; are = k.are; told = k.told; debugger = now.debugger; reached = k.reached }, (k.asked, stands-puts k.steps base.debugger now.debugger k.stands)),
)

-- nothing more went through the pipe to the target, nothing was printed, and what the debugger was fed and what it put stayed
stays-in-order : (plan done : List PlanLine) (base : Standing) (s o : Story) (old : Debugger) (left : ℕ) (s' : Story) (new : Debugger)
    → IsBeginning done plan → IsGoing plan done base (at s o old left) → s'.read ≡ s.read → s'.written ≡ s.written → s.failed_writes ≤ s'.failed_writes → s'.early ≡ s.early
    → Same old new → InOrder plan base s' o new
stays-in-order plan done base s o old left s' new begins k read written failed early same =
    let all : s'.written ≡ base.pipe.written ++ new.end.session.enqueued = grind (arith, common_steps, written, k.written, same.enqueued) in
    let out : new.end.session.taken ≡ new.end.session.enqueued = same.taken ∙ k.taken ∙ sym same.enqueued in
    record {
      read = grind (arith, common_steps, read, k.read, same.fed);
      asked = asks-same plan base.debugger old new same.tickets same.enqueued (going-asks plan done base (at s o old left) begins k);
      written = (new.end.session.enqueued, all, ([], sym (append-nil new.end.session.enqueued)), ([], out ∙ sym (append-nil new.end.session.enqueued)));
      whole = λ _. (all, out);
      failed_writes = omega (arith, failed, k.failed_writes);
      prompt = early ∙ k.prompt;
      unread = ap (λ (x : Story). x.read) k.printed;
      failed_prints = omega (arith, ap (λ (x : Story). x.failed_writes) k.printed);
    }

going-in-order : (plan done : List PlanLine) (base : Standing) (s o : Story) (d : Debugger) (left : ℕ) (new : Debugger) → IsBeginning done plan → IsGoing plan done base (at s o d left)
    → Same d new → InOrder plan base s o new
going-in-order plan done base s o d left new begins k same = stays-in-order plan done base s o d left s new begins k refl refl (omega arith) refl same

-- no write failed so far
printed-same : (a b : Story) (text : List ℕ) → b ≡ with_written text a → b.failed_writes ≡ a.failed_writes
printed-same a b text e = ap (λ (x : Story). x.failed_writes) e

-- no write and no flush failed so far
has-left : (plan done : List PlanLine) (base : Standing) (s o : Story) (d : Debugger) (left : ℕ) → IsGoing plan done base (at s o d left) → HasLeft base (flushed s) (flushed o)
has-left plan done base s o d left k = (k.failed_writes, printed-same base.out o k.told k.printed, refl, refl)

-- ---- what was told

pub printed-so : (a b : Story) (text : List ℕ) → b ≡ with_written text a → b.written ≡ a.written ++ text
printed-so a b text e = ap (λ (x : Story). x.written) e

-- all that was told so far was printed
going-tells : (plan done : List PlanLine) (base : Standing) (s o : Story) (d : Debugger) (left : ℕ) → IsGoing plan done base (at s o d left) → Tells plan done base (flushed o) d
going-tells plan done base s o d left k = (k.told, (k.steps, k.are, k.reached), printed-so base.out o k.told k.printed)

going-told : (plan done : List PlanLine) (base : Standing) (s o : Story) (d : Debugger) (left : ℕ) → IsBeginning done plan → IsGoing plan done base (at s o d left) → TellsInOrder plan base (flushed o) d
going-told plan done base s o d left begins k = (done, begins, going-tells plan done base s o d left k)

-- what was told is a part of what was told
pub tells-part : (plan : List PlanLine) (base : Standing) (o : Story) (d : Debugger) → TellsInOrder plan base o d → TellsPart plan base o d
tells-part plan base o d (done, begins, (text, r, is)) = inl (done, begins, (text, text, r, ([], sym (append-nil text)), is))

-- what was told before, and a part of what was to be told
part-told : (plan done : List PlanLine) (base : Standing) (s o o' : Story) (old d : Debugger) (left : ℕ) (text told some : List ℕ) → IsBeginning done plan → (k : IsGoing plan done base (at s o old left))
    → ReachesBy plan base.debugger done told d → told ≡ k.told ++ text → IsFront some text → o'.written ≡ o.written ++ some → TellsPart plan base (flushed o') d
part-told plan done base s o o' old d left text told some begins k r tells (rest, split) is = inl (
  done,
  begins,
  (
    told,
    k.told ++ some,
    r,
    (rest, tells ∙ ap (λ (x : List ℕ). k.told ++ x) split ∙ sym (append_assoc k.told some rest)),
    is ∙ ap (λ (x : List ℕ). x ++ some) (printed-so base.out o k.told k.printed) ∙ append_assoc base.out.written k.told some,
  ),
)

-- what was told before, and nothing more
none-told : (plan done : List PlanLine) (base : Standing) (s o o' : Story) (old d : Debugger) (left : ℕ) (text told : List ℕ) → IsBeginning done plan → (k : IsGoing plan done base (at s o old left))
    → ReachesBy plan base.debugger done told d → told ≡ k.told ++ text → o' ≡ o → TellsPart plan base (flushed o') d
none-told plan done base s o o' old d left text told begins k r tells same =
    part-told plan done base s o o' old d left text told [] begins k r tells (text, refl) (ap (λ (x : Story). x.written) same ∙ sym (append-nil o.written))

-- ---- the limit of turns

pub limit-ends : (s o : Story) (d : Debugger) (left : ℕ) → left ≡ 0 → EndsSo (λ plan done. Awaits plan done d) (at s o d left) (at s o d left) TurnLimit
limit-ends s o d left none plan done base begins awaits k = (
  going-in-order plan done base s o d left d begins k (same-by d d refl),
  ((done, begins, awaits, going-tells plan done base s o d left k), k.ready.0, k.kept, has-left plan done base s o d left k, omega (arith, k.turns, none)),
)

-- want of memory
stays-memory : (plan done : List PlanLine) (base : Standing) (s o : Story) (d : Debugger) (left : ℕ) → IsBeginning done plan → WantsMemory plan base (flushed o) d → IsGoing plan done base (at s o d left)
    → InOrder plan base s o d × MayEnd plan NoMemory base (flushed s) (flushed o) d
stays-memory plan done base s o d left begins wants k =
    (going-in-order plan done base s o d left d begins k (same-by d d refl), (wants, k.kept, has-left plan done base s o d left k))

-- a turn that wants it
turn-wants : (plan done : List PlanLine) (base : Standing) (s o : Story) (d : Debugger) (left : ℕ) → IsBeginning done plan → Awaits plan done d → TurnsAt (front_of d.end) d (Err code.NoMemory) d
    → IsGoing plan done base (at s o d left) → WantsMemory plan base (flushed o) d
turn-wants plan done base s o d left begins awaits turned k = inl ((done, begins, awaits, going-tells plan done base s o d left k), turned)

-- a line that does
line-wants : (done rest : List PlanLine) (line : PlanLine) (base : Standing) (s o : Story) (d : Debugger) (left : ℕ) → TakesMemory line d
    → IsGoing (done ++ line ∷ rest) done base (at s o d left) → WantsMemory (done ++ line ∷ rest) base (flushed o) d
line-wants done rest line base s o d left takes k = inr (inl (done, line, (rest, refl), takes, going-tells (done ++ line ∷ rest) done base s o d left k))

-- ---- turns that failed

turn-memory-ends : (s o : Story) (old new : Debugger) (left left' : ℕ) → TurnsAt (front_of old.end) old (Err code.NoMemory) new → EndsSo (λ plan done. Awaits plan done old) (at s o old left) (at s o new left') NoMemory
turn-memory-ends s o old new left left' turned plan done base begins awaits k =
    let same = memory-same (front_of old.end) old new turned in
    let again : TurnsAt (front_of old.end) old (Err code.NoMemory) old = subst (λ (x : Debugger). TurnsAt (front_of old.end) old (Err code.NoMemory) x) same turned in
    rw same (stays-memory plan done base s o old left begins (turn-wants plan done base s o old left begins awaits again k) k)

turn-refused-ends : (s o : Story) (old mid new : Debugger) (left left' number : ℕ) (fault : DebuggerFault) → fault ≢ code.NoMemory → TurnsAt (front_of old.end) old (Err fault) mid → new ≡ lost_debugger mid
    → number ≡ told_number fault → EndsSo (λ plan done. Awaits plan done old) (at s o old left) (at s o new left') (Refused number)
turn-refused-ends s o old mid new left left' number fault some turned is number-is plan done base begins awaits k =
    let same = fault-refused (front_of old.end) old mid fault some turned in
    let kept : mid.end.session.lost ≡ false = rw same k.kept in
    let reached : Reaches plan base.debugger k.steps k.told mid = reach-untold plan done base.debugger k.steps k.told old mid (Err fault) refl refl k.are k.reached awaits turned in
    rw is (
      going-in-order plan done base s o old left (lost_debugger mid) begins k (record { fed = rw same refl; enqueued = rw same refl; taken = rw same refl; tickets = rw same refl }),
      (
        (
          mid,
          (inl (old, fault, (done, k.told, (k.steps, k.are, k.reached)), turned, some, number-is), (done, begins, (k.told, (k.steps, k.are, reached), printed-so base.out o k.told k.printed))),
          kept,
          refl,
        ),
        inl (has-left plan done base s o old left k),
      ),
    )

pub turn-ends : (s o : Story) (old mid new : Debugger) (left left' : ℕ) (fault : DebuggerFault) (ended : Ended) → TurnsAt (front_of old.end) old (Err fault) mid → EndsFailed fault mid new ended
    → EndsSo (λ plan done. Awaits plan done old) (at s o old left) (at s o new left') ended
turn-ends s o old mid new left left' code.NoMemory ended turned h = rw (h.0, h.1) (turn-memory-ends s o old mid left left' turned)
turn-ends s o old mid new left left' (code.Frame fault) ended turned h = rw h.0 (turn-refused-ends s o old mid new left left' _ (code.Frame fault) (λ e. cc) turned h.1 refl)
turn-ends s o old mid new left left' code.UnknownReply ended turned h = rw h.0 (turn-refused-ends s o old mid new left left' _ code.UnknownReply (λ e. cc) turned h.1 refl)
turn-ends s o old mid new left left' code.BadReply ended turned h = rw h.0 (turn-refused-ends s o old mid new left left' _ code.BadReply (λ e. cc) turned h.1 refl)
turn-ends s o old mid new left left' code.TooManyParked ended turned h = rw h.0 (turn-refused-ends s o old mid new left left' _ code.TooManyParked (λ e. cc) turned h.1 refl)
turn-ends s o old mid new left left' code.BadEvent ended turned h = rw h.0 (turn-refused-ends s o old mid new left left' _ code.BadEvent (λ e. cc) turned h.1 refl)

-- ---- commands that were refused

-- the command of a line reads
pub asks-takes : (line : PlanLine) (set number : ℕ) (bytes : List ℕ) (w : Widths) (command : Command) (d : Debugger) → IsAsk line set number bytes → d.sizes ≡ Some w
    → command_asked w set number bytes ≡ Some command → TakesMemory line d
asks-takes (line.Ask s n carried) set number bytes w command d h known is = (w, command, known, rw (h.0, h.1, h.2) is)
asks-takes other set number bytes w command d h known is = absurd h

-- its data read
pub reads-takes : (line : PlanLine) (set number : ℕ) (bytes : List ℕ) (w : Widths) (d : Debugger) → IsAsk line set number bytes → d.sizes ≡ Some w
    → is_some (command_asked w set number bytes) ≡ true → TakesMemory line d
reads-takes line set number bytes w d asks-it known some =
    elim (command_asked w set number bytes) as (λ (o : Option Command). command_asked w set number bytes ≡ o → is_some o ≡ true → TakesMemory line d) [
      | None ↦ λ is some. absurd (cc)
      | Some command ↦ λ is some. asks-takes line set number bytes w command d asks-it known is
    ] refl some

-- the debugger refuses the command of a line
pub ask-refuses : (line : PlanLine) (d : Debugger) (set number refused : ℕ) (bytes : List ℕ) (w : Widths) → IsAsk line set number bytes → RefusesCommand d refused (command_asked w set number bytes)
    → RefusesBy line w d refused
ask-refuses (line.Ask s n carried) d set number refused bytes w h refuses = rw (h.0, h.1, h.2) refuses
ask-refuses other d set number refused bytes w h refuses = absurd h

-- the line behind those that were carried out is refused
pub line-refused : (done rest : List PlanLine) (line : PlanLine) (base : Standing) (s o : Story) (d : Debugger) (left refused : ℕ) (w : Widths) → IsGoing (done ++ line ∷ rest) done base (at s o d left) → d.sizes ≡ Some w
    → RefusesBy line w d refused → RefusesLineAt (done ++ line ∷ rest) (length done + 1) base.debugger refused d
line-refused done rest line base s o d left refused w k known refuses =
    let knows = stands-known k.steps base.debugger d (ap (λ (x : Option Widths). is_some x) known) k.stands in
    let same : knows.0 ≡ w = let e = sym knows.1 ∙ known in cc in
    record {
      done = done;
      line = line;
      rest = rest;
      plan_is = refl;
      place_is = refl;
      steps = k.steps;
      are = k.are;
      told = k.told;
      reached = k.reached;
      asked = k.asked;
      widths = w;
      known = known;
      put = rw (← same) knows.2;
      refused = refuses;
    }

line-stops : (done rest : List PlanLine) (line : PlanLine) (base : Standing) (s o : Story) (d new : Debugger) (left refused : ℕ) (w : Widths) → IsGoing (done ++ line ∷ rest) done base (at s o d left) → d.sizes ≡ Some w
    → RefusesBy line w d refused → new ≡ lost_debugger d
    → InOrder (done ++ line ∷ rest) base s o new × MayEnd (done ++ line ∷ rest) (Refused refused) base (flushed s) (flushed o) new
line-stops done rest line base s o d new left refused w k known refuses is =
    rw is (
      going-in-order (done ++ line ∷ rest) done base s o d left (lost_debugger d) (begins-line done rest line) k (same-lost d),
      (
        (
          d,
          (
            inr (length done + 1, line-refused done rest line base s o d left refused w k known refuses),
            going-told (done ++ line ∷ rest) done base s o d left (begins-line done rest line) k,
          ),
          k.kept,
          refl,
        ),
        inl (has-left (done ++ line ∷ rest) done base s o d left k),
      ),
    )

pub unread-ends : (line : PlanLine) (s o : Story) (d new : Debugger) (left left' set number : ℕ) (bytes : List ℕ) (w : Widths) (ended : Ended) → IsAsk line set number bytes → d.sizes ≡ Some w
    → command_asked w set number bytes ≡ None → EndsRefused refusal.BadCommand d new ended → LineEndsSo line (at s o d left) (at s o new left') ended
unread-ends line s o d new left left' set number bytes w ended asks-it known unread is =
    subst (λ (e : Ended). LineEndsSo line (at s o d left) (at s o new left') e) (sym is.0)
    (λ done rest base k.
    line-stops done rest line base s o d new left (refused_number refusal.BadCommand) w k known (ask-refuses line d set number _ bytes w asks-it (rw unread refl)) is.1)

refuses-some : (line : PlanLine) (s o : Story) (d new : Debugger) (left left' set number : ℕ) (bytes : List ℕ) (w : Widths) (command : Command) (r : asking.Refused) → IsAsk line set number bytes
    → d.sizes ≡ Some w → command_asked w set number bytes ≡ Some command → refusal_of_ask d command ≡ Some r → new ≡ lost_debugger d → LineEndsSo line (at s o d left) (at s o new left') (Refused (refused_number r))
refuses-some line s o d new left left' set number bytes w command r asks-it known is-command refuses is done rest base k =
    line-stops done rest line base s o d new left (refused_number r) w k known (ask-refuses line d set number _ bytes w asks-it (rw is-command (r, refuses, refl))) is

pub refused-ends : (line : PlanLine) (s o : Story) (old mid new : Debugger) (left left' set number : ℕ) (bytes : List ℕ) (w : Widths) (command : Command) (r : asking.Refused) (ended : Ended)
    → IsAsk line set number bytes → old.sizes ≡ Some w → command_asked w set number bytes ≡ Some command → (mid ≡ old) × IsRefusal r (refusal_of_ask old command) → EndsRefused r mid new ended
    → LineEndsSo line (at s o old left) (at s o new left') ended
refused-ends line s o old mid new left left' set number bytes w command refusal.NoMemory ended a known c h e =
    λ done rest base k. rw (e.0, e.1, h.0)
    (stays-memory (done ++ line ∷ rest) done base s o old left (begins-line done rest line) (line-wants done rest line base s o old left (asks-takes line set number bytes w command old a known c) k) k)
refused-ends line s o old mid new left left' set number bytes w command refusal.Closed ended a known c h e =
    rw e.0 (refuses-some line s o old new left left' set number bytes w command refusal.Closed a known c h.1 (e.1 ∙ ap (λ (x : Debugger). lost_debugger x) h.0))
refused-ends line s o old mid new left left' set number bytes w command refusal.NotReady ended a known c h e =
    rw e.0 (refuses-some line s o old new left left' set number bytes w command refusal.NotReady a known c h.1 (e.1 ∙ ap (λ (x : Debugger). lost_debugger x) h.0))
refused-ends line s o old mid new left left' set number bytes w command refusal.Busy ended a known c h e =
    rw e.0 (refuses-some line s o old new left left' set number bytes w command refusal.Busy a known c h.1 (e.1 ∙ ap (λ (x : Debugger). lost_debugger x) h.0))
refused-ends line s o old mid new left left' set number bytes w command refusal.BadCommand ended a known c h e =
    rw e.0 (refuses-some line s o old new left left' set number bytes w command refusal.BadCommand a known c h.1 (e.1 ∙ ap (λ (x : Debugger). lost_debugger x) h.0))
refused-ends line s o old mid new left left' set number bytes w command refusal.TooLong ended a known c h e =
    rw e.0 (refuses-some line s o old new left left' set number bytes w command refusal.TooLong a known c h.1 (e.1 ∙ ap (λ (x : Debugger). lost_debugger x) h.0))

-- a line of `pair` alone
pub is-of-pair : (l : PlanLine) → (l ≡ line.LoseTarget) ⊎ ((l ≡ line.LoseDebugger) ⊎ (l ≡ line.Attach)) → is_of_pair (said_by l) ≡ true
is-of-pair l (inl is) = rw is refl
is-of-pair l (inr (inl is)) = rw is refl
is-of-pair l (inr (inr is)) = rw is refl

pub pair-refuses : (line : PlanLine) (w : Widths) (d : Debugger) → is_of_pair (said_by line) ≡ true → RefusesBy line w d 0
pair-refuses line.LoseTarget w d h = refl
pair-refuses line.LoseDebugger w d h = refl
pair-refuses line.Attach w d h = refl
pair-refuses (line.Ask set number bytes) w d h = absurd (cc)
pair-refuses line.Answers w d h = absurd (cc)
pair-refuses (line.Events count) w d h = absurd (cc)
pair-refuses line.Mirror w d h = absurd (cc)

pub pair-ends : (line : PlanLine) (s o : Story) (d new : Debugger) (left left' : ℕ) → is_of_pair (said_by line) ≡ true → is_some d.sizes ≡ true → new ≡ lost_debugger d
    → LineEndsSo line (at s o d left) (at s o new left') (Refused 0)
pair-ends line s o d new left left' of-pair known is done rest base k =
    let knows = stands-known k.steps base.debugger d known k.stands in
    line-stops done rest line base s o d new left 0 knows.0 k knows.1 (pair-refuses line knows.0 d of-pair) is

-- a command that was asked is that of the line behind those that were carried out
pub asked-in-order : (done rest : List PlanLine) (line : PlanLine) (base : Standing) (s o : Story) (old mid : Debugger) (left set number : ℕ) (bytes : List ℕ) (w : Widths) (command : Command)
    → IsAsk line set number bytes → old.sizes ≡ Some w → command_asked w set number bytes ≡ Some command → refusal_of_ask old command ≡ None → HasAsked command old mid
    → IsGoing (done ++ line ∷ rest) done base (at s o old left) → AsksInOrder (done ++ line ∷ rest) base.debugger mid
asked-in-order done rest line base s o old mid left set number bytes w command asks-it known is unrefused asked k =
    let plan = done ++ line ∷ rest in
    let steps = k.steps ++ Line line ∷ [] in
    let one = one-asked line set number bytes asks-it in
    let moves = asked-moves command old mid asked in
    let stands = stands-asked k.steps line base.debugger old mid set number bytes w command asks-it known is asked k.stands in (
      done ++ line ∷ [],
      begins-behind done rest line,
      (
        record {
          steps = steps;
          are = are-line base.debugger.order done k.steps line k.are;
          told = k.told ++ [];
          debugger = mid;
          reached = asked-passes plan k.steps line base.debugger old mid k.told command set number bytes asks-it k.ready.0 unrefused asked k.asked k.reached;
        },
        (omega (arith, moves.tickets_are, k.asked, asks-append k.steps (Line line), one), stands-puts steps base.debugger mid stands),
      ),
    )

-- ---- a read that failed

read-fails : (s s' o : Story) (old mid new : Debugger) (left left' : ℕ) → TurnsAt (front_of old.end) old (Ok read.Nothing) mid → front_of old.end ≡ More → mid ≡ record old { last = [] }
    → new ≡ lost_debugger mid → FailsRead (flushed s) s' → EndsSo (λ plan done. Awaits plan done old) (at s o old left) (at s' o new left') LostByRead
read-fails s s' o old mid new left left' turned front same is f plan done base begins awaits k =
    let reached : Reaches plan base.debugger k.steps k.told (record old { last = [] }) = reach-same plan done base.debugger k.steps k.told old mid k.are k.reached awaits turned same in
    rw (is, same) (
      stays-in-order plan done base s o old left s' (lost_debugger (record old { last = [] })) begins k f.read f.written (omega (arith, f.failed_writes)) f.early
          (record { fed = refl; enqueued = refl; taken = refl; tickets = refl }),
      (
        omega (arith, f.fails, k.failed_reads, k.ends),
        (record old { last = [] }, (k.ready.0, front, (done, begins, (k.told, (k.steps, k.are, reached), printed-so base.out o k.told k.printed))), k.kept, refl),
        (f.failed_writes ∙ k.failed_writes, printed-same base.out o k.told k.printed, refl, refl),
      ),
    )

-- a flush before it failed
flush-fails : (s s' o : Story) (old mid new : Debugger) (left left' : ℕ) → TurnsAt (front_of old.end) old (Ok read.Nothing) mid → mid ≡ record old { last = [] }
    → new ≡ lost_debugger mid → FailsFlush s s' → EndsSo (λ plan done. Awaits plan done old) (at s o old left) (at s' o new left') LostByWrite
flush-fails s s' o old mid new left left' turned same is f plan done base begins awaits k =
    let reached : Reaches plan base.debugger k.steps k.told (record old { last = [] }) = reach-same plan done base.debugger k.steps k.told old mid k.are k.reached awaits turned same in
    rw (is, same, f) (
      stays-in-order plan done base s o old left (record s { failed_writes = s.failed_writes + 1 }) (lost_debugger (record old { last = [] })) begins k refl refl (omega arith) refl
          (record { fed = refl; enqueued = refl; taken = refl; tickets = refl }),
      (
        inl (omega (arith, k.failed_writes)),
        (
          record old { last = [] },
          tells-part plan base (flushed o) (record old { last = [] }) (done, begins, (k.told, (k.steps, k.are, reached), printed-so base.out o k.told k.printed)),
          k.kept,
          refl,
        ),
      ),
    )

pub read-ends : (s s' o : Story) (old mid new : Debugger) (left left' : ℕ) (ended : Ended) → TurnsAt (front_of old.end) old (Ok read.Nothing) mid → front_of old.end ≡ More
    → mid ≡ record old { last = [] } → LosesAtRead ended mid new s s' → EndsSo (λ plan done. Awaits plan done old) (at s o old left) (at s' o new left') ended
read-ends s s' o old mid new left left' LostByRead turned front same h = read-fails s s' o old mid new left left' turned front same h.0 h.1
read-ends s s' o old mid new left left' LostByWrite turned front same h = flush-fails s s' o old mid new left left' turned same h.0 h.1
read-ends s s' o old mid new left left' Done turned front same h = absurd h
read-ends s s' o old mid new left left' (Refused number) turned front same h = absurd h
read-ends s s' o old mid new left left' NoMemory turned front same h = absurd h
read-ends s s' o old mid new left left' TurnLimit turned front same h = absurd h

-- ---- want of memory for a count

-- nothing was put by the turn before it
pub count-wants : (plan done : List PlanLine) (base : Standing) (s o : Story) (old mid : Debugger) (left : ℕ) (r : Read) → IsBeginning done plan → Awaits plan done old
    → TurnsAt (front_of old.end) old (Ok r) mid → is_some (due_behind (Ok r) mid) ≡ true → Moves old mid 1 0 → mid.end.session.enqueued ≡ old.end.session.enqueued
    → IsGoing plan done base (at s o old left) → InOrder plan base s o mid × MayEnd plan NoMemory base (flushed s) (flushed o) mid
count-wants plan done base s o old mid left r begins awaits turned due p enqueued k =
    let printed : (flushed o).written ≡ base.out.written ++ k.told = printed-so base.out o k.told k.printed in
    let wants : WantsToAsk plan base (flushed o) mid =
    record { done = done; begins = begins; old = old; read = r; told = k.told; reached = (k.steps, k.are, k.reached); awaits = awaits; turned = turned; due = due; printed = printed }
    in (
      going-in-order plan done base s o old left mid begins k (record { fed = p.fed; enqueued = enqueued; taken = p.taken; tickets = omega (arith, p.tickets_are) }),
      (inr (inr (inr wants)), p.kept ∙ k.kept, has-left plan done base s o old left k),
    )

-- ---- what ends behind what was put

-- what happened since where lines are printed to
record Grows (a b : Story) : Type 0 where
  unread : b.read ≡ a.read
  failed : a.failed_writes ≤ b.failed_writes

grows-told : (a b : Story) (text : List ℕ) → b ≡ with_written text a → Grows a b
grows-told a b text e = record { unread = ap (λ (x : Story). x.read) e; failed = omega (arith, ap (λ (x : Story). x.failed_writes) e) }

grows-again : (a b c : Story) (x y : List ℕ) → b ≡ with_written x a → c ≡ with_written y b → Grows a c
grows-again a b c x y e f = record {
  unread = ap (λ (z : Story). z.read) f ∙ ap (λ (z : Story). z.read) e;
  failed = omega (arith, ap (λ (z : Story). z.failed_writes) f, ap (λ (z : Story). z.failed_writes) e);
}

grows-part : (a b c : Story) (x y : List ℕ) → b ≡ with_written x a → FailsWrite b c y → Grows a c
grows-part a b c x y e f = record {
  unread = f.read ∙ ap (λ (z : Story). z.read) e;
  failed = omega (arith, ap (λ (z : Story). z.failed_writes) e, f.failed_writes);
}

-- all that was put was written
written-in-order : (plan done : List PlanLine) (base : Standing) (s o : Story) (old mid : Debugger) (left turns tickets : ℕ) (s' o' : Story) (new : Debugger)
    → IsGoing plan done base (at s o old left) → Moves old mid turns tickets → AsksInOrder plan base.debugger mid → s' ≡ with_written mid.end.outgoing s → Grows base.out o'
    → Same (with_taken mid.end.outgoing mid) new → InOrder plan base s' o' new
written-in-order plan done base s o old mid left turns tickets s' o' new k p asked written grows same =
    let all : s'.written ≡ base.pipe.written ++ new.end.session.enqueued =
    grind (arith, common_steps, written, same.enqueued, k.written, k.ready.1, p.enqueued, p.outgoing, append_assoc)
    in
    let out : new.end.session.taken ≡ new.end.session.enqueued =
    grind (arith, common_steps, same.taken, same.enqueued, k.taken, k.ready.1, p.taken, p.enqueued, p.outgoing)
    in
    record {
      read = grind (arith, common_steps, written, same.fed, k.read, p.fed);
      asked = asks-same plan base.debugger mid new same.tickets same.enqueued asked;
      written = (new.end.session.enqueued, all, ([], sym (append-nil new.end.session.enqueued)), ([], out ∙ sym (append-nil new.end.session.enqueued)));
      whole = λ _. (all, out);
      failed_writes = omega (arith, k.failed_writes, ap (λ (x : Story). x.failed_writes) written);
      prompt = ap (λ (x : Story). x.early) written ∙ k.prompt;
      unread = grows.unread;
      failed_prints = grows.failed;
    }

-- some of it was taken, and some of that written
part-in-order : (plan done : List PlanLine) (base : Standing) (s o : Story) (old mid : Debugger) (left turns tickets : ℕ) (s' o' : Story) (new : Debugger) (taken : List ℕ)
    → IsGoing plan done base (at s o old left) → Moves old mid turns tickets → AsksInOrder plan base.debugger mid → IsFront taken mid.end.outgoing → FailsWrite s s' taken → Grows base.out o'
    → Same (with_taken taken mid) new → InOrder plan base s' o' new
part-in-order plan done base s o old mid left turns tickets s' o' new taken k p asked front f grows same =
    let w = f.written in
    record {
      read = grind (arith, common_steps, f.read, same.fed, k.read, p.fed);
      asked = asks-same plan base.debugger mid new same.tickets same.enqueued asked;
      written = (
        old.end.session.enqueued ++ w.0,
        grind (arith, common_steps, k.written, w.1, append_assoc),
        (w.2.0 ++ front.0, grind (arith, common_steps, same.enqueued, p.enqueued, p.outgoing, k.ready.1, front.1, w.2.1, append_assoc)),
        (w.2.0, grind (arith, common_steps, same.taken, p.taken, k.taken, w.2.1, append_assoc)),
      );
      whole = λ e. absurd (omega (arith, f.failed_writes, k.failed_writes, e));
      failed_writes = omega (arith, f.failed_writes, k.failed_writes);
      prompt = f.early ∙ k.prompt;
      unread = grows.unread;
      failed_prints = grows.failed;
    }

-- some of what waited was taken, and then the connection was lost
lost-behind : (taken : List ℕ) (mid new : Debugger) → new ≡ lost_debugger (with_taken taken mid) → Same (with_taken taken mid) new
lost-behind taken mid new is = rw is (same-lost (with_taken taken mid))

-- a write failed
pub loses-ends : (plan done : List PlanLine) (base : Standing) (s o : Story) (old mid : Debugger) (left l1 l2 turns tickets : ℕ) (s' o' : Story) (new : Debugger) (text told : List ℕ)
    → IsBeginning done plan → (k : IsGoing plan done base (at s o old left)) → Moves old mid turns tickets → ReachesBy plan base.debugger done told mid → told ≡ k.told ++ text → AsksInOrder plan base.debugger mid
    → LosesAtWrite text (at s o mid l1) (at s' o' new l2) → InOrder plan base s' o' new × MayEnd plan LostByWrite base (flushed s') (flushed o') new
loses-ends plan done base s o old mid left l1 l2 turns tickets s' o' new text told begins k p r tells asked f =
    elim f.fails [
      | inl (front, w, same) ↦ (
        part-in-order plan done base s o old mid left turns tickets s' o' new f.taken k p asked front w (rw same (grows-told base.out o k.told k.printed)) (lost-behind f.taken mid new f.is),
        (
          inl (omega (arith, w.failed_writes, k.failed_writes)),
          (
            with_taken f.taken mid,
            none-told plan done base s o o' old (with_taken f.taken mid) left text told begins k (along-taken plan base.debugger done told mid f.taken r front) tells same,
            p.kept ∙ k.kept,
            f.is,
          ),
        ),
      )
      | inr (all, w, part) ↦ (
        written-in-order plan done base s o old mid left turns tickets s' o' new k p asked w (grows-part base.out o o' k.told text k.printed part) (lost-behind mid.end.outgoing mid new (rw all at f.is)),
        (
          inr (omega (arith, part.failed_writes, printed-same base.out o k.told k.printed)),
          (
            with_taken f.taken mid,
            part-told plan done base s o o' old (with_taken f.taken mid) left text told part.written.0 begins k (along-all plan base.debugger done told mid f.taken all r) tells part.written.2 part.written.1,
            p.kept ∙ k.kept,
            f.is,
          ),
        ),
      )
    ]

pub moved-ends : (plan done : List PlanLine) (base : Standing) (s o : Story) (old mid : Debugger) (left l1 l2 turns tickets : ℕ) (s' o' : Story) (new : Debugger) (ended : Ended) (text told : List ℕ)
    → IsBeginning done plan → (k : IsGoing plan done base (at s o old left)) → Moves old mid turns tickets → ReachesBy plan base.debugger done told mid → told ≡ k.told ++ text → AsksInOrder plan base.debugger mid
    → (is_open mid.end ≡ false → ReadsEnd plan base.debugger (with_taken mid.end.outgoing mid)) → (text ≢ [] → WantsToTell plan base (flushed o) (with_taken mid.end.outgoing mid))
    → Finishes ended text (at s o mid l1) (at s' o' new l2) → InOrder plan base s' o' new × MayEnd plan ended base (flushed s') (flushed o') new
moved-ends plan done base s o old mid left l1 l2 turns tickets s' o' new Done text told begins k p r tells asked why wants c = (
  written-in-order plan done base s o old mid left turns tickets s' o' new k p asked c.pipe (grows-again base.out o o' k.told text k.printed c.out) (lost-behind mid.end.outgoing mid new c.debugger),
  (
    (
      with_taken mid.end.outgoing mid,
      inl (
        why c.closed,
        (
          done,
          begins,
          (
            told,
            along-all plan base.debugger done told mid mid.end.outgoing refl r,
            printed-so base.out o' told (printed-again base.out o o' k.told text told k.printed c.out tells),
          ),
        ),
      ),
      p.kept ∙ k.kept,
      c.debugger,
    ),
    (ap (λ (x : Story). x.failed_writes) c.pipe ∙ k.failed_writes, printed-same o o' text c.out ∙ printed-same base.out o k.told k.printed, refl, refl),
  ),
)
moved-ends plan done base s o old mid left l1 l2 turns tickets s' o' new NoMemory text told begins k p r tells asked why wants t = (
  written-in-order plan done base s o old mid left turns tickets s' o' new k p asked t.pipe (rw t.out (grows-told base.out o k.told k.printed)) (same-by (with_taken mid.end.outgoing mid) new t.debugger),
  (
    subst (λ (x : Story). WantsMemory plan base (flushed x) new) (sym t.out)
        (subst (λ (x : Debugger). WantsMemory plan base (flushed o) x) (sym t.debugger) (inr (inr (inl (wants t.some))))),
    ap (λ (x : Debugger). x.end.session.lost) t.debugger ∙ p.kept ∙ k.kept,
    (ap (λ (x : Story). x.failed_writes) t.pipe ∙ k.failed_writes, ap (λ (x : Story). x.failed_writes) t.out ∙ printed-same base.out o k.told k.printed, refl, refl),
  ),
)
moved-ends plan done base s o old mid left l1 l2 turns tickets s' o' new LostByWrite text told begins k p r tells asked why wants f =
    loses-ends plan done base s o old mid left l1 l2 turns tickets s' o' new text told begins k p r tells asked f
moved-ends plan done base s o old mid left l1 l2 turns tickets s' o' new LostByRead text told begins k p r tells asked why wants f = absurd f
moved-ends plan done base s o old mid left l1 l2 turns tickets s' o' new (Refused number) text told begins k p r tells asked why wants f = absurd f
moved-ends plan done base s o old mid left l1 l2 turns tickets s' o' new TurnLimit text told begins k p r tells asked why wants f = absurd f

-- memory was wanting at a line
pub line-memory : (line : PlanLine) (s o : Story) (d : Debugger) (left : ℕ) → TakesMemory line d → LineEndsSo line (at s o d left) (at s o d left) NoMemory
line-memory line s o d left takes done rest base k =
    stays-memory (done ++ line ∷ rest) done base s o d left (begins-line done rest line) (line-wants done rest line base s o d left takes k) k

-- a write of the lines of a mirror failed
pub mirror-part : (s o o' : Story) (d new : Debugger) (left : ℕ) (text : List ℕ) → TellsKnown d text → FailsWrite o o' text → new ≡ lost_debugger d
    → LineEndsSo line.Mirror (at s o d left) (at s o' new left) LostByWrite
mirror-part s o o' d new left text tells part is done rest base k =
    let plan = done ++ line.Mirror ∷ rest in
    let r = going-in-order plan done base s o d left (lost_debugger d) (begins-line done rest line.Mirror) k (same-lost d) in
    let grows = grows-part base.out o o' k.told text k.printed part in
    let tickets : d.tickets ≡ base.debugger.tickets + asks (k.steps ++ Line line.Mirror ∷ []) = omega (arith, k.asked, asks-append k.steps (Line line.Mirror)) in
    rw is (
      record {
        read = r.read;
        asked = r.asked;
        written = r.written;
        whole = r.whole;
        failed_writes = r.failed_writes;
        prompt = r.prompt;
        unread = grows.unread;
        failed_prints = grows.failed;
      },
      (
        inr (omega (arith, part.failed_writes, printed-same base.out o k.told k.printed)),
        (
          d,
          inl (
            done ++ line.Mirror ∷ [],
            begins-behind done rest line.Mirror,
            (
              k.told ++ text,
              k.told ++ part.written.0,
              (
                k.steps ++ Line line.Mirror ∷ [],
                are-line base.debugger.order done k.steps line.Mirror k.are,
                reach-passed plan base.debugger k.steps k.told d line.Mirror text k.reached tickets tt tells,
              ),
              (part.written.2.0, ap (λ (x : List ℕ). k.told ++ x) part.written.2.1 ∙ sym (append_assoc k.told part.written.0 part.written.2.0)),
              part.written.1 ∙ ap (λ (x : List ℕ). x ++ part.written.0) (printed-so base.out o k.told k.printed) ∙ append_assoc base.out.written k.told part.written.0,
            ),
          ),
          k.kept,
          refl,
        ),
      ),
    )

-- ---- lines one after the other

-- a line that ended the run
pub line-ends : (plan : List PlanLine) (i : ℕ) (line : PlanLine) (old new : Standing) (ended : Ended) → i < length plan → line ≡ get_or plan i line → LineEndsSo line old new ended
    → (base : Standing) → IsGoing plan (take i plan) base old → InOrder plan base new.pipe new.out new.debugger × MayEnd plan ended base (flushed new.pipe) (flushed new.out) new.debugger
line-ends plan i line old new ended inside is f base k =
    let split = line-split plan i line inside is in
    subst (λ (p : List PlanLine). InOrder p base new.pipe new.out new.debugger × MayEnd p ended base (flushed new.pipe) (flushed new.out) new.debugger) (sym split)
    (f (take i plan) (drop (i + 1) plan) base (subst (λ (p : List PlanLine). IsGoing p (take i plan) base old) split k))

-- ---- the whole run

-- all lines were carried out, and all that was asked was answered
pub finished-ends : (plan : List PlanLine) (base : Standing) (s o : Story) (d new : Debugger) (left : ℕ) → IsGoing plan plan base (at s o d left) → is_some d.sizes ≡ true → has_tickets d.pending ≡ false
    → new ≡ lost_debugger d → InOrder plan base s o new × MayEnd plan Done base (flushed s) (flushed o) new
finished-ends plan base s o d new left k known answered is =
    let knows = stands-known k.steps base.debugger d known k.stands in
    let run : RunSteps plan plan base.debugger = record { steps = k.steps; are = k.are; told = k.told; debugger = d; reached = k.reached } in
    rw is (
      going-in-order plan plan base s o d left (lost_debugger d) (begins-all plan) k (same-lost d),
      (
        (d, inr ((answered, (run, k.asked, (knows.0, knows.1, knows.2))), going-tells plan plan base s o d left k), k.kept, refl),
        has-left plan plan base s o d left k,
      ),
    )

-- all that was written left
pub left-in-order : (plan : List PlanLine) (base : Standing) (s o : Story) (d : Debugger) → InOrder plan base s o d → InOrder plan base (flushed s) (flushed o) d
left-in-order plan base s o d r = record {
  read = r.read;
  asked = r.asked;
  written = r.written;
  whole = r.whole;
  failed_writes = r.failed_writes;
  prompt = r.prompt;
  unread = r.unread;
  failed_prints = r.failed_prints;
}

-- from how the debugger stood as it attached
pub lost-so : (plan : List PlanLine) (ended : Ended) (s o : Story) (d d' : Debugger) (turns : ℕ) (s' o' : Story) (new : Debugger) → d ≡ d'
    → InOrder plan (at s o d turns) s' o' new × MayEnd plan ended (at s o d turns) s' o' new → InOrder plan (at s o d' turns) s' o' new × MayEnd plan ended (at s o d' turns) s' o' new
lost-so plan ended s o d d' turns s' o' new begun h = rw (← begun) h

-- the last flush succeeded
pub left-so : (plan : List PlanLine) (ended : Ended) (s o : Story) (d d' : Debugger) (turns : ℕ) (s' o' s'' o'' : Story) (new : Debugger) → d ≡ d' → s'' ≡ flushed s' → o'' ≡ flushed o'
    → InOrder plan (at s o d turns) s' o' new → MayEnd plan ended (at s o d turns) (flushed s') (flushed o') new → InOrder plan (at s o d' turns) s'' o'' new × MayEnd plan ended (at s o d' turns) s'' o'' new
left-so plan ended s o d d' turns s' o' s'' o'' new begun e f r m = rw (e, f, ← begun) (left-in-order plan (at s o d turns) s' o' new r, m)

-- the same of the run
pub left-run : (plan : List PlanLine) (ended : Ended) (s o : Story) (d d' : Debugger) (turns : ℕ) (s' o' s'' o'' : Story) (new : Debugger) → d ≡ d' → s'' ≡ flushed s' → o'' ≡ flushed o'
    → InOrder plan (at s o d turns) s' o' new → MayEnd plan ended (at s o d turns) (flushed s') (flushed o') new → Attaches plan (at s o d' turns) ended s'' o'' new
left-run plan ended s o d d' turns s' o' s'' o'' new begun e f r m = rw (e, f, ← begun) (Leaves ended s' o' new r m)

-- and where it failed
pub stays-run : (plan : List PlanLine) (how ended : Ended) (s o : Story) (d d' : Debugger) (turns : ℕ) (s' o' s'' o'' : Story) (new left : Debugger) → d ≡ d' → ended ≡ unflushed_end how
    → left ≡ unflushed_debugger how new → InOrder plan (at s o d turns) s' o' new → MayEnd plan how (at s o d turns) (flushed s') (flushed o') new → FailsLastFlush s' o' s'' o''
    → Attaches plan (at s o d' turns) ended s'' o'' left
stays-run plan how ended s o d d' turns s' o' s'' o'' new left begun is leaves r m f = rw (is, leaves, ← begun) (Stays how s' o' s'' o'' new r m f)

-- ---- the handshake

hello-stands : (d : Debugger) → d ≡ attached d → Stands [] d (with_taken d.end.outgoing d)
hello-stands d begun =
    inl (
      (refl, refl),
      ap (λ (x : Debugger). x.end.phase) begun,
      ap (λ (x : Debugger). x.sizes) begun,
      ap (λ (x : Debugger). x.pending) begun,
      refl,
    )

-- all of it was written
pub hello-goes : (plan : List PlanLine) (s o : Story) (d new : Debugger) (left : ℕ) (s' : Story) → d ≡ attached d → new ≡ with_taken d.end.outgoing d → s' ≡ with_written d.end.outgoing s
    → IsGoing plan [] (at s o d left) (at s' o new left)
hello-goes plan s o d new left s' begun is written =
    let outgoing : d.end.outgoing ≡ handshake_bytes = ap (λ (x : Debugger). x.end.outgoing) begun in
    let enqueued : d.end.session.enqueued ≡ handshake_bytes = ap (λ (x : Debugger). x.end.session.enqueued) begun in
    let taken : d.end.session.taken ≡ [] = ap (λ (x : Debugger). x.end.session.taken) begun in
    let fed : d.end.session.fed ≡ [] = ap (λ (x : Debugger). x.end.session.fed) begun in
    let turns : d.end.session.turns ≡ 0 = ap (λ (x : Debugger). x.end.session.turns) begun in
    rw (is, written) (record {
      ready = (ap (λ (x : Debugger). is_open x.end) begun, grind (arith, common_steps));
      kept = ap (λ (x : Debugger). x.end.session.lost) begun;
      steps = [];
      are = are-none d.order;
      told = [];
      reached = hello-reached-all plan d;
      asked = omega arith;
      stands = hello-stands d begun;
      read = grind (arith, common_steps, fed);
      written = grind (arith, common_steps, outgoing, enqueued);
      taken = grind (arith, common_steps, taken, outgoing, enqueued);
      failed_reads = refl;
      failed_writes = refl;
      ends = refl;
      prompt = refl;
      printed = sym (written-none o);
      turns = omega (arith, turns);
    })

-- some of it was
pub hello-ends : (plan : List PlanLine) (s o : Story) (d new : Debugger) (left : ℕ) (s' : Story) (taken : List ℕ) → d ≡ attached d → IsFront taken d.end.outgoing → FailsWrite s s' taken
    → new ≡ lost_debugger (with_taken taken d) → InOrder plan (at s o d left) s' o new × MayEnd plan LostByWrite (at s o d left) (flushed s') (flushed o) new
hello-ends plan s o d new left s' taken begun front f is =
    let w = f.written in
    let outgoing : d.end.outgoing ≡ handshake_bytes = ap (λ (x : Debugger). x.end.outgoing) begun in
    let enqueued : d.end.session.enqueued ≡ handshake_bytes = ap (λ (x : Debugger). x.end.session.enqueued) begun in
    let none : d.end.session.taken ≡ [] = ap (λ (x : Debugger). x.end.session.taken) begun in
    let fed : d.end.session.fed ≡ [] = ap (λ (x : Debugger). x.end.session.fed) begun in
    let kept : d.end.session.lost ≡ false = ap (λ (x : Debugger). x.end.session.lost) begun in
    let reached = hello-reached plan d taken front in
    let run : RunSteps plan [] d = record { steps = []; are = are-none d.order; told = []; debugger = with_taken taken d; reached = reached } in
    rw is (
      record {
        read = grind (arith, common_steps, f.read, fed);
        asked = ([], begins-none plan, (run, (omega arith, inl (refl, refl))));
        written = (
          w.0,
          w.1,
          (w.2.0 ++ front.0, grind (arith, common_steps, enqueued, outgoing, front.1, w.2.1, append_assoc)),
          (w.2.0, grind (arith, common_steps, none, w.2.1)),
        );
        whole = λ e. absurd (omega (arith, f.failed_writes, e));
        failed_writes = omega (arith, f.failed_writes);
        prompt = f.early;
        unread = refl;
        failed_prints = omega arith;
      },
      (
        inl f.failed_writes,
        (with_taken taken d, inl ([], begins-none plan, ([], [], ([], are-none d.order, reached), ([], refl), sym (append-nil o.written))), kept, refl),
      ),
    )
