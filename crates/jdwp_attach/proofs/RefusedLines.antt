-- Which line is told where a run of a plan ends.
use Rattle.std.proofs.Common.{◌≡◌, ◌∙◌, ℕ, ◌<◌, ◌≤◌, ◌+◌, ◌++◌, ◌⊎◌, true, is_some, List, ◌∷◌, length, Result, Ok, Err, IfErr, Some, None, Option, inl, inr, get_or, take, drop, sym, ap, refl, subst, arith}
use Rattle.std.proofs.lemmas.List.{length-take}
use Rattle.jdwp_wire.specs.Widths.{Widths}
use Rattle.jdwp_wire.specs.declared.frame.FrameFault.TheVariants as frame
use Rattle.jdwp_action.specs.Actions.{Command}
use Rattle.jdwp_debugger.specs.declared.asking.Refused as asking
use Rattle.jdwp_debugger.specs.declared.asking.Refused.TheVariants as refusal
use Rattle.jdwp_debugger.specs.declared.faults.DebuggerFault.{DebuggerFault}
use Rattle.jdwp_debugger.specs.declared.faults.DebuggerFault.TheVariants as code
use Rattle.jdwp_debugger.specs.Asking.{IsRefusal, refusal_of_ask}
use Rattle.jdwp_debugger.specs.RefusedNumbers.{refused_number}
use Rattle.jdwp_debugger.specs.Debuggers.{Debugger, lost_debugger}
use Rattle.jdwp_end.specs.declared.pipes.ended.Ended.{Ended}
use Rattle.jdwp_end.specs.declared.pipes.ended.Ended.TheVariants.{Done, LostByRead, LostByWrite, Refused, NoMemory, TurnLimit}
use Rattle.jdwp_end.specs.Story.{Story, flushed}
use Rattle.jdwp_attach.specs.declared.plans.plan_line.PlanLine.{PlanLine}
use Rattle.jdwp_attach.specs.declared.plans.plan_line.PlanLine.TheVariants as line
use Rattle.jdwp_attach.specs.Lines.{is_of_pair}
use Rattle.jdwp_attach.specs.PlanLines.{said_by}
use Rattle.jdwp_attach.specs.declared.attached.Attached.{Attached}
use Rattle.jdwp_attach.specs.declared.attached.Attached.TheVariants as run
use Rattle.jdwp_attach.specs.PlanAsks.{command_asked}
use Rattle.jdwp_attach.specs.PlanRuns.{EndsFailed, EndsRefused, IsAsk, IsByTurn, LineEndsSo, LineTells, MayEnd, RefusesBy, RefusesCommand, TellsNoLine, TellsRefused, ended_at, ended_of, told_number}
use Rattle.jdwp_attach.specs.Runs.{Finishes, InOrder, IsGoing, LosesAtRead, Standing, at}
use Rattle.jdwp_attach.proofs.Ending.{ask-refuses, line-refused, pair-refuses}
use Rattle.jdwp_attach.proofs.Moves.{line-split}
use Rattle.jdwp_attach.proofs.Stages.{stands-known}

-- ---- numbers

turn-number : (fault : DebuggerFault) → ((1 ≤ told_number fault) × (told_number fault ≤ 4)) ⊎ (41 ≤ told_number fault)
turn-number (code.Frame frame.ShortLength) = inl (omega arith, omega arith)
turn-number (code.Frame frame.TooLong) = inl (omega arith, omega arith)
turn-number (code.Frame frame.BadFlags) = inl (omega arith, omega arith)
turn-number (code.Frame (frame.BadHandshake place)) = inl (omega arith, omega arith)
turn-number code.UnknownReply = inr (omega arith)
turn-number code.BadReply = inr (omega arith)
turn-number code.TooManyParked = inr (omega arith)
turn-number code.BadEvent = inr (omega arith)
turn-number code.NoMemory = inr (omega arith)

refusal-number : (r : asking.Refused) → (31 ≤ refused_number r) × (refused_number r ≤ 36)
refusal-number refusal.NotReady = (omega arith, omega arith)
refusal-number refusal.Busy = (omega arith, omega arith)
refusal-number refusal.Closed = (omega arith, omega arith)
refusal-number refusal.TooLong = (omega arith, omega arith)
refusal-number refusal.NoMemory = (omega arith, omega arith)
refusal-number refusal.BadCommand = (omega arith, omega arith)

command-number : (d : Debugger) (number : ℕ) (command : Option Command) → RefusesCommand d number command → (31 ≤ number) × (number ≤ 36)
command-number d number None is = (omega (arith, is), omega (arith, is))
command-number d number (Some command) (r, refuses, is) = rw is (refusal-number r)

line-number : (line : PlanLine) (w : Widths) (d : Debugger) (number : ℕ) → RefusesBy line w d number → (number ≡ 0) ⊎ ((31 ≤ number) × (number ≤ 36))
line-number (line.Ask set n bytes) w d number refuses = inr (command-number d number (command_asked w set n bytes.items) refuses)
line-number line.LoseTarget w d number refuses = inl refuses
line-number line.LoseDebugger w d number refuses = inl refuses
line-number line.Attach w d number refuses = inl refuses
line-number line.Answers w d number refuses = absurd refuses
line-number (line.Events count) w d number refuses = absurd refuses
line-number line.Mirror w d number refuses = absurd refuses

-- no number is that of a turn's fault and that of a line's refusal
turn-no-line : (fault : DebuggerFault) (line : PlanLine) (w : Widths) (d : Debugger) (number : ℕ) → number ≡ told_number fault → RefusesBy line w d number → ⊥
turn-no-line fault line w d number is refuses =
    elim (line-number line w d number refuses) [
      | inl none ↦ elim (turn-number fault) [
        | inl low ↦ omega (arith, low.0, none, is)
        | inr high ↦ omega (arith, high, none, is)
      ]
      | inr n ↦ elim (turn-number fault) [
        | inl low ↦ omega (arith, low.1, n.0, is)
        | inr high ↦ omega (arith, high, n.1, is)
      ]
    ]

-- ---- no line

-- a run that ended so where no line was refused
pub no-line : (plan : List PlanLine) (ended : Ended) (base : Standing) (s o : Story) (d : Debugger) → IsByTurn ended → MayEnd plan ended base s o d → TellsNoLine plan ended base.debugger d
no-line plan (Refused number) base s o d (fault, is) m =
    let how = m.0 in (
      how.0,
      elim how.1.0 [
        | inl turn ↦ turn
        | inr (place, r) ↦ absurd (turn-no-line fault r.line r.widths how.0 number is r.refused)
      ],
      how.2,
      how.3,
    )
no-line plan Done base s o d by m = tt
no-line plan LostByRead base s o d by m = tt
no-line plan LostByWrite base s o d by m = tt
no-line plan NoMemory base s o d by m = tt
no-line plan TurnLimit base s o d by m = tt

-- how a turn ends that failed
pub failed-by-turn : (fault : DebuggerFault) (old new : Debugger) (ended : Ended) → EndsFailed fault old new ended → IsByTurn ended
failed-by-turn code.NoMemory old new ended h = rw h.0 tt
failed-by-turn (code.Frame fault) old new ended h = rw h.0 (code.Frame fault, refl)
failed-by-turn code.UnknownReply old new ended h = rw h.0 (code.UnknownReply, refl)
failed-by-turn code.BadReply old new ended h = rw h.0 (code.BadReply, refl)
failed-by-turn code.TooManyParked old new ended h = rw h.0 (code.TooManyParked, refl)
failed-by-turn code.BadEvent old new ended h = rw h.0 (code.BadEvent, refl)

-- a flush or a read behind it that failed
pub read-by-turn : (ended : Ended) (old new : Debugger) (s s' : Story) → LosesAtRead ended old new s s' → IsByTurn ended
read-by-turn LostByRead old new s s' h = tt
read-by-turn LostByWrite old new s s' h = tt
read-by-turn Done old new s s' h = tt
read-by-turn (Refused number) old new s s' h = absurd h
read-by-turn NoMemory old new s s' h = tt
read-by-turn TurnLimit old new s s' h = tt

-- what ends behind what was put
pub told-by-turn : (ended : Ended) (text : List ℕ) (old new : Standing) → Finishes ended text old new → IsByTurn ended
told-by-turn Done text old new h = tt
told-by-turn NoMemory text old new h = tt
told-by-turn LostByWrite text old new h = tt
told-by-turn LostByRead text old new h = tt
told-by-turn (Refused number) text old new h = absurd h
told-by-turn TurnLimit text old new h = tt

-- ---- lines

-- memory was wanting at a line
pub memory-tells : (line : PlanLine) (old : Standing) (d : Debugger) → LineTells line old d NoMemory
memory-tells (line.Ask set number bytes) old d done rest base k = tt
memory-tells line.Answers old d done rest base k = tt
memory-tells (line.Events count) old d done rest base k = tt
memory-tells line.Mirror old d done rest base k = tt
memory-tells line.LoseTarget old d done rest base k = tt
memory-tells line.LoseDebugger old d done rest base k = tt
memory-tells line.Attach old d done rest base k = tt

-- a write failed at a line
pub lost-tells : (line : PlanLine) (old : Standing) (d : Debugger) → LineTells line old d LostByWrite
lost-tells (line.Ask set number bytes) old d done rest base k = tt
lost-tells line.Answers old d done rest base k = tt
lost-tells (line.Events count) old d done rest base k = tt
lost-tells line.Mirror old d done rest base k = tt
lost-tells line.LoseTarget old d done rest base k = tt
lost-tells line.LoseDebugger old d done rest base k = tt
lost-tells line.Attach old d done rest base k = tt

-- a line that is not refused
pub turns-tell : (line : PlanLine) (old new : Standing) (ended : Ended) → ((place : ℕ) → ended_at line place ended ≡ run.Ended ended) → IsByTurn ended → LineEndsSo line old new ended
    → LineTells line old new.debugger ended
turns-tell line old new ended none by ends done rest base k =
    subst (λ (how : Attached). TellsRefused (done ++ line ∷ rest) how base.debugger new.debugger) (sym (none (length done + 1)))
    (no-line (done ++ line ∷ rest) ended base (flushed new.pipe) (flushed new.out) new.debugger by (ends done rest base k).1)

-- a line of `pair` alone
pair-ended : (line : PlanLine) (place refused : ℕ) → is_of_pair (said_by line) ≡ true → ended_at line place (Refused refused) ≡ run.RefusedLine place refused
pair-ended line.LoseTarget place refused h = refl
pair-ended line.LoseDebugger place refused h = refl
pair-ended line.Attach place refused h = refl
pair-ended (line.Ask set number bytes) place refused h = absurd (cc)
pair-ended line.Answers place refused h = absurd (cc)
pair-ended (line.Events count) place refused h = absurd (cc)
pair-ended line.Mirror place refused h = absurd (cc)

pub pair-tells : (line : PlanLine) (s o : Story) (d new : Debugger) (left : ℕ) → is_of_pair (said_by line) ≡ true → is_some d.sizes ≡ true → new ≡ lost_debugger d → LineTells line (at s o d left) new (Refused 0)
pair-tells line s o d new left of-pair known is done rest base k =
    let knows = stands-known k.steps base.debugger d known k.stands in
    subst (λ (how : Attached). TellsRefused (done ++ line ∷ rest) how base.debugger new) (sym (pair-ended line (length done + 1) 0 of-pair))
    (d, line-refused done rest line base s o d left 0 knows.0 k knows.1 (pair-refuses line knows.0 d of-pair), k.kept, is)

-- a line that asks a command
ask-ended : (line : PlanLine) (set number : ℕ) (bytes : List ℕ) (place refused : ℕ) → IsAsk line set number bytes → ended_at line place (Refused refused) ≡ run.RefusedLine place refused
ask-ended (line.Ask s n carried) set number bytes place refused h = refl
ask-ended other set number bytes place refused h = absurd h

-- it is refused
ask-tells : (line : PlanLine) (s o : Story) (d new : Debugger) (left set number refused : ℕ) (bytes : List ℕ) (w : Widths) → IsAsk line set number bytes → d.sizes ≡ Some w
    → RefusesCommand d refused (command_asked w set number bytes) → new ≡ lost_debugger d → LineTells line (at s o d left) new (Refused refused)
ask-tells line s o d new left set number refused bytes w asks-it known refuses is done rest base k =
    subst (λ (how : Attached). TellsRefused (done ++ line ∷ rest) how base.debugger new) (sym (ask-ended line set number bytes (length done + 1) refused asks-it))
    (d, line-refused done rest line base s o d left refused w k known (ask-refuses line d set number refused bytes w asks-it refuses), k.kept, is)

-- its bytes do not read
pub unread-tells : (line : PlanLine) (s o : Story) (d new : Debugger) (left set number : ℕ) (bytes : List ℕ) (w : Widths) (ended : Ended) → IsAsk line set number bytes → d.sizes ≡ Some w
    → command_asked w set number bytes ≡ None → EndsRefused refusal.BadCommand d new ended → LineTells line (at s o d left) new ended
unread-tells line s o d new left set number bytes w ended asks-it known unread is =
    subst (λ (e : Ended). LineTells line (at s o d left) new e) (sym is.0)
    (ask-tells line s o d new left set number (refused_number refusal.BadCommand) bytes w asks-it known (rw unread refl) is.1)

tells-some : (line : PlanLine) (s o : Story) (old mid new : Debugger) (left set number : ℕ) (bytes : List ℕ) (w : Widths) (command : Command) (r : asking.Refused) → IsAsk line set number bytes
    → old.sizes ≡ Some w → command_asked w set number bytes ≡ Some command → mid ≡ old → refusal_of_ask old command ≡ Some r → new ≡ lost_debugger mid
    → LineTells line (at s o old left) new (Refused (refused_number r))
tells-some line s o old mid new left set number bytes w command r asks-it known is-command same refuses is =
    ask-tells line s o old new left set number (refused_number r) bytes w asks-it known (rw is-command (r, refuses, refl)) (is ∙ ap (λ (x : Debugger). lost_debugger x) same)

-- the debugger refuses it
pub refused-tells : (line : PlanLine) (s o : Story) (old mid new : Debugger) (left set number : ℕ) (bytes : List ℕ) (w : Widths) (command : Command) (r : asking.Refused) (ended : Ended)
    → IsAsk line set number bytes → old.sizes ≡ Some w → command_asked w set number bytes ≡ Some command → (mid ≡ old) × IsRefusal r (refusal_of_ask old command) → EndsRefused r mid new ended
    → LineTells line (at s o old left) new ended
refused-tells line s o old mid new left set number bytes w command refusal.NoMemory ended a known c h e =
    rw e.0 (memory-tells line (at s o old left) new)
refused-tells line s o old mid new left set number bytes w command refusal.Closed ended a known c h e =
    rw e.0 (tells-some line s o old mid new left set number bytes w command refusal.Closed a known c h.0 h.1 e.1)
refused-tells line s o old mid new left set number bytes w command refusal.NotReady ended a known c h e =
    rw e.0 (tells-some line s o old mid new left set number bytes w command refusal.NotReady a known c h.0 h.1 e.1)
refused-tells line s o old mid new left set number bytes w command refusal.Busy ended a known c h e =
    rw e.0 (tells-some line s o old mid new left set number bytes w command refusal.Busy a known c h.0 h.1 e.1)
refused-tells line s o old mid new left set number bytes w command refusal.BadCommand ended a known c h e =
    rw e.0 (tells-some line s o old mid new left set number bytes w command refusal.BadCommand a known c h.0 h.1 e.1)
refused-tells line s o old mid new left set number bytes w command refusal.TooLong ended a known c h e =
    rw e.0 (tells-some line s o old mid new left set number bytes w command refusal.TooLong a known c h.0 h.1 e.1)

-- ---- the whole run

pub err-both : {A E : Type 0} {P Q S : E → Type 0} (r : Result A E) → ((e : E) → P e → Q e → S e) → IfErr r P → IfErr r Q → IfErr r S
err-both (Ok a) f p q = p
err-both (Err e) f p q = f e p q

-- a line that ended the run, by its place
line-tells : (plan : List PlanLine) (i : ℕ) (line : PlanLine) (old : Standing) (d : Debugger) (ended : Ended) → i < length plan → line ≡ get_or plan i line → LineTells line old d ended
    → (base : Standing) → IsGoing plan (take i plan) base old → TellsRefused plan (ended_at line (i + 1) ended) base.debugger d
line-tells plan i line old d ended inside is f base k =
    let counts : length (take i plan) ≡ i = omega (arith, inside, length-take i plan) in
    let split = line-split plan i line inside is in
    subst (λ (p : List PlanLine). TellsRefused p (ended_at line (i + 1) ended) base.debugger d) (sym split)
    (subst (λ (n : ℕ). TellsRefused (take i plan ++ line ∷ drop (i + 1) plan) (ended_at line (n + 1) ended) base.debugger d) counts
    (f (take i plan) (drop (i + 1) plan) base (subst (λ (p : List PlanLine). IsGoing p (take i plan) base old) split k)))

-- the same of what is told
pub line-told : (plan : List PlanLine) (how : Attached) (i : ℕ) (line : PlanLine) (old : Standing) (d : Debugger) (ended : Ended) → how ≡ ended_at line (i + 1) ended → i < length plan
    → line ≡ get_or plan i line → LineTells line old d ended → (base : Standing) → IsGoing plan (take i plan) base old → TellsRefused plan how base.debugger d
line-told plan how i line old d ended is inside there f base k =
    subst (λ (h : Attached). TellsRefused plan h base.debugger d) (sym is) (line-tells plan i line old d ended inside there f base k)

-- how it ended is what is told
ended-so : (line : PlanLine) (place : ℕ) (ended : Ended) → ended_of (ended_at line place ended) ≡ ended
ended-so (line.Ask set number bytes) place (Refused refused) = refl
ended-so (line.Ask set number bytes) place Done = refl
ended-so (line.Ask set number bytes) place LostByRead = refl
ended-so (line.Ask set number bytes) place LostByWrite = refl
ended-so (line.Ask set number bytes) place NoMemory = refl
ended-so (line.Ask set number bytes) place TurnLimit = refl
ended-so line.Answers place ended = refl
ended-so (line.Events count) place ended = refl
ended-so line.Mirror place ended = refl
ended-so line.LoseTarget place (Refused refused) = refl
ended-so line.LoseTarget place Done = refl
ended-so line.LoseTarget place LostByRead = refl
ended-so line.LoseTarget place LostByWrite = refl
ended-so line.LoseTarget place NoMemory = refl
ended-so line.LoseTarget place TurnLimit = refl
ended-so line.LoseDebugger place (Refused refused) = refl
ended-so line.LoseDebugger place Done = refl
ended-so line.LoseDebugger place LostByRead = refl
ended-so line.LoseDebugger place LostByWrite = refl
ended-so line.LoseDebugger place NoMemory = refl
ended-so line.LoseDebugger place TurnLimit = refl
ended-so line.Attach place (Refused refused) = refl
ended-so line.Attach place Done = refl
ended-so line.Attach place LostByRead = refl
ended-so line.Attach place LostByWrite = refl
ended-so line.Attach place NoMemory = refl
ended-so line.Attach place TurnLimit = refl

-- and of how it ended
pub run-told : (plan : List PlanLine) (how : Attached) (line : PlanLine) (place : ℕ) (ended : Ended) (base : Standing) (s o : Story) (d : Debugger) → how ≡ ended_at line place ended
    → InOrder plan base s o d × MayEnd plan ended base (flushed s) (flushed o) d → InOrder plan base s o d × MayEnd plan (ended_of how) base (flushed s) (flushed o) d
run-told plan how line place ended base s o d is (r, m) =
    (r, subst (λ (e : Ended). MayEnd plan e base (flushed s) (flushed o) d) (sym (ap (λ (h : Attached). ended_of h) is ∙ ended-so line place ended)) m)

-- from how the debugger stood as it attached
pub told-so : (plan : List PlanLine) (how : Attached) (d d' new : Debugger) → d ≡ d' → TellsRefused plan how d new → TellsRefused plan how d' new
told-so plan how d d' new begun h = rw (← begun) h
