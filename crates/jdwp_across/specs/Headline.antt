-- What a debugger may rely on where the target is in another program: a thread shown as suspended is suspended.
use Rattle.std.specs.Prelude.{◌≡◌, ◌<◌, ◌^◌, ℕ, true, false, List, ◌++◌, Err}
use Rattle.jdwp_wire.specs.Limits.{AreLimits}
use Rattle.jdwp_layout.specs.declared.answer.Answer.{Answer}
use Rattle.jdwp_end.specs.Ends.{front_of}
use Rattle.jdwp_machine.specs.Meanings.{Meaning}
use Rattle.jdwp_debuggee.specs.Settings.{Settings}
use Rattle.jdwp_debuggee.specs.State.{count_or_zero}
use Rattle.jdwp_mirror.specs.KnownThreads.{is_held_in}
use Rattle.jdwp_target.specs.Targets.{Target}
use Rattle.jdwp_target.specs.Turns as turns
use Rattle.jdwp_target.specs.declared.target.TargetFault.{TargetFault}
use Rattle.jdwp_target.specs.declared.target.TargetFault.TheVariants as target_fault
use Rattle.jdwp_debugger.specs.Debuggers.{Debugger, unanswered}
use Rattle.jdwp_debugger.specs.DebuggerTurns as reads
use Rattle.jdwp_debugger.specs.declared.faults.DebuggerFault.{DebuggerFault}
use Rattle.jdwp_debugger.specs.declared.faults.DebuggerFault.TheVariants as debugger_fault
use Rattle.jdwp_model.specs.Given.{IsIn, given_answers}
use Rattle.jdwp_model.specs.Headline.{MayBegin}
use Rattle.jdwp_model.specs.Seen.{lowers}
use Rattle.jdwp_model.specs.Tickets.{tickets_to, times}
use Rattle.jdwp_model.specs.World.{World, opening}
use Rattle.jdwp_link.specs.Clauses.{CountsAtMost, HoldsSuspended, MirrorsSeen, StaysTrue, has_dispose, unanswered_by}
use Rattle.jdwp_link.specs.Outcomes.{answers_in, settled_in, waiting_at}
use Rattle.jdwp_across.specs.Programs.{Act, Programs, events_in, new_programs, told_in}
use Rattle.jdwp_across.specs.Merges.{Merged}
use Rattle.jdwp_across.specs.Standing.{StandsAcross, joined, unmeasured}

-- Programs that there may be: a debuggee that there may be, limits that there may be, and an id that a packet may have.
pub record MayStart {S : Type 0} (m : Meaning S) (settings : Settings) (s : S) (id : ℕ) : Type 0 where
  pub begins : MayBegin m settings s
  pub limits : AreLimits settings.limits.packet settings.limits.live settings.limits.requests settings.limits.pending
  pub id_fits : id < 2 ^ 32

-- ---- all that holds

-- Neither end refuses what the other sent: a turn that fails wants memory, and changes nothing.
pub record RefusesNothing {S : Type 0} (m : Meaning S) (programs : Programs S) : Type 0 where
  pub target : (fault : TargetFault) (after : Target S) → turns.TurnsAt m (front_of programs.target.end) programs.target (Err fault) after
      → (fault ≡ target_fault.NoMemory) × (after ≡ programs.target)
  pub debugger : (fault : DebuggerFault) (after : Debugger) → reads.TurnsAt (front_of programs.debugger.end) programs.debugger (Err fault) after
      → (fault ≡ debugger_fault.NoMemory) × (after ≡ programs.debugger)

-- The two stand for a world of the model, to which the events of the acts lead from the first one, and what is said of it holds of them: what the
-- mirror shows is what the target had when it sent the last packet read; a held thread is suspended now; counts from above; what was read of a
-- suspended thread's frames stays true. Each ticket that was given since was answered or lost, or waits, and once; each answer that was told of a
-- ticket is the one that the target gave to it when it carried out its command. And neither end refuses what the other sent.
pub record MayRelyOn {S : Type 0} (m : Meaning S) (settings : Settings) (first : World S) (acts : List Act) (programs : Programs S) : Type 0 where
  pub world : World S
  pub stands : StandsAcross m settings (m.sizes first.now.machine) first acts programs world
  pub mirror : MirrorsSeen (joined programs.target programs.debugger) world
  pub held : HoldsSuspended (joined programs.target programs.debugger)
  pub at_most : CountsAtMost (joined programs.target programs.debugger) world
  pub stays : StaysTrue m (joined programs.target programs.debugger) world
  pub settles : (k : ℕ) → times k (tickets_to first.asked ++ (settled_in (told_in acts) ++ waiting_at programs.debugger)) ≡ times k (tickets_to programs.debugger.tickets)
  pub tells : (p : ℕ × Answer) → IsIn (answers_in (told_in acts)) p
      → IsIn (given_answers m settings (unmeasured (m.sizes first.now.machine) settings.limits) first (events_in acts)) p
  pub reads : RefusesNothing m programs

-- After every list of acts of a target and a debugger in two programs, between which bytes come in order.
abbrev pub HoldsAcross : {S : Type 0} → Meaning S → Type 0
HoldsAcross {S} m =
    (settings : Settings) (s : S) (id : ℕ) (acts : List Act) (programs : Programs S) →
    MayStart m settings s id → Merged m (new_programs m settings s id) acts programs → MayRelyOn m settings (opening m s) acts programs

-- ---- one thread

-- A thread that the debugger's mirror holds is suspended in the target now, whatever is under way: where the machine lives, the target noticed
-- no loss in this session, and neither a Dispose nor a Resume of the thread or of all is unanswered.
abbrev pub SuspendsWhatIsHeld : {S : Type 0} → Meaning S → Type 0
SuspendsWhatIsHeld {S} m =
    (settings : Settings) (s : S) (id : ℕ) (acts : List Act) (target : Target S) (debugger : Debugger) (t : ℕ) →
    MayStart m settings s id → Merged m (new_programs m settings s id) acts (record { target = target; debugger = debugger }) →
    is_held_in debugger.mirror.threads t ≡ true → target.moment.state.alive ≡ true → target.end.session.lost ≡ false →
    has_dispose (unanswered debugger.pending) ≡ false → unanswered_by lowers (unanswered debugger.pending) t ≡ 0 →
    0 < count_or_zero target.moment.state t
