-- A target in one program and a debugger of `Order::Apart` in another: whom the debugger holds is suspended, with no exception for what is
-- unanswered.
use Rattle.std.specs.Prelude.{◌≡◌, ◌≤◌, ◌<◌, ℕ, Bool, true, false, ◌&&◌, not, List, [], ◌∷◌, Some}
use Rattle.jdwp_machine.specs.Meanings.{Meaning}
use Rattle.jdwp_apart.specs.Messages.{is_invocation}
use Rattle.jdwp_debuggee.specs.Settings.{Settings}
use Rattle.jdwp_debuggee.specs.State.{count_of}
use Rattle.jdwp_target.specs.Targets.{Target}
use Rattle.jdwp_debugger.specs.Debuggers.{Debugger, new_debugger_in}
use Rattle.jdwp_debugger.specs.Holding.{at_least, is_held}
use Rattle.jdwp_debugger.specs.declared.order.Order.TheVariants.{Apart}
use Rattle.jdwp_across.specs.Headline.{MayStart}
use Rattle.jdwp_across.specs.Merges.{Merged}
use Rattle.jdwp_across.specs.Programs.{Act, DebuggerAsks, Programs, TargetDefers, new_programs}

-- Both before their first session, but that the debugger takes replies and composites to be sent by threads of their own.
abbrev pub programs_apart : {S : Type 0} → Meaning S → Settings → S → ℕ → Programs S
programs_apart m settings s id = record (new_programs m settings s id) { debugger = new_debugger_in Apart settings.limits id }

-- Commands are answered in order: the target does not begin to defer replies, and none is asked that invokes a method: for such a one this
-- debugger takes threads to run, and this target, where it answers it, lets none.
abbrev pub is_in_order : Act → Bool
is_in_order (TargetDefers deferring) = not deferring
is_in_order (DebuggerAsks c ticket) = not (is_invocation c)
is_in_order act = true

abbrev pub are_in_order : List Act → Bool
are_in_order [] = true
are_in_order (act ∷ acts) = is_in_order act && are_in_order acts

-- What holds of a thread that lives: it is suspended in the target now if the debugger holds it, and its count there is no less than the
-- debugger says.
pub record IsCovered (debugger : Debugger) (t count : ℕ) : Type 0 where
  pub suspended : is_held debugger t ≡ true → 0 < count
  pub at_least : at_least debugger t ≤ count

-- After every merge whose commands are answered in order it is so, whatever is under way and unanswered, a Resume or a Dispose too: while
-- the machine lives, and the target noticed no loss in this session.
abbrev pub SuspendsWhatIsHeldApart : {S : Type 0} → Meaning S → Type 0
SuspendsWhatIsHeldApart {S} m =
    (settings : Settings) (s : S) (id : ℕ) (acts : List Act) (target : Target S) (debugger : Debugger) (t count : ℕ) →
    MayStart m settings s id → Merged m (programs_apart m settings s id) acts (record { target = target; debugger = debugger }) →
    are_in_order acts ≡ true → target.moment.state.alive ≡ true → target.end.session.lost ≡ false →
    count_of target.moment.state t ≡ Some count → IsCovered debugger t count
