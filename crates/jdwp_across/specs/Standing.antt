-- For which worlds of the model two programs stand: those to which the events of their acts lead where messages have no length.
use Rattle.std.specs.Prelude.{◌≡◌, ℕ, false, List, [], ◌++◌, length, drop}
use Rattle.jdwp_wire.specs.Limits.{Limits}
use Rattle.jdwp_wire.specs.Widths.{Widths}
use Rattle.jdwp_end.specs.Ends.{End}
use Rattle.jdwp_machine.specs.Meanings.{Meaning}
use Rattle.jdwp_debuggee.specs.Settings.{Settings}
use Rattle.jdwp_mirror.specs.Messages.{Call, Message}
use Rattle.jdwp_target.specs.Targets.{Target}
use Rattle.jdwp_debugger.specs.Debuggers.{Debugger}
use Rattle.jdwp_model.specs.Measures.{unfit}
use Rattle.jdwp_model.specs.Next.{outcomes, run}
use Rattle.jdwp_model.specs.World.{Measure, World}
use Rattle.jdwp_link.specs.Links.{Link}
use Rattle.jdwp_link.specs.Stands.{Parts}
use Rattle.jdwp_link.specs.Told.{told_outcomes}
use Rattle.jdwp_across.specs.Programs.{Act, Programs, events_in, told_in}

-- ---- a link of both

-- an end to which these bytes came that it did not handle, and at which these wait to leave
abbrev pub buffered : List ℕ → List ℕ → End → End
buffered come leave end = record end { incoming = come; outgoing = leave }

abbrev pub target_at : {S : Type 0} → List ℕ → List ℕ → Target S → Target S
target_at come leave t = record t { end = buffered come leave t.end }

abbrev pub debugger_at : List ℕ → List ℕ → Debugger → Debugger
debugger_at come leave d = record d { end = buffered come leave d.end }

abbrev pub link_at : {S : Type 0} → Target S → Debugger → List ℕ → List ℕ → List ℕ → List ℕ → Link S
link_at t d t_come t_leave d_come d_leave =
    record { target = target_at t_come t_leave t; debugger = debugger_at d_come d_leave d; to_target = []; to_debugger = []; did = false }

-- what the debugger put in the session and the target was not fed with, and the same the other way
abbrev pub far_from_target : {S : Type 0} → Target S → Debugger → List ℕ
far_from_target t d = drop (length t.end.session.fed) d.end.session.enqueued

abbrev pub far_from_debugger : {S : Type 0} → Target S → Debugger → List ℕ
far_from_debugger t d = drop (length d.end.session.fed) t.end.session.enqueued

-- The two as they are but for their buffers: all that was put and not handled has come to the other end. What is said of a link of them
-- (`MirrorsSeen`, `HoldsSuspended`, `CountsAtMost`, `StaysTrue`) speaks of the target's settings and moment, of whether it noticed a loss, and of
-- the debugger's mirror and the commands that wait, which are the two programs' own, and of no buffer.
abbrev pub joined : {S : Type 0} → Target S → Debugger → Link S
joined t d = link_at t d (t.end.incoming ++ far_from_target t d) [] (d.end.incoming ++ far_from_debugger t d) []

-- ---- a world of both

-- Where messages have no length, each is whole as soon as it is sent, and no end is ever paused: so an end may handle a message, and a thread
-- may step, whenever it does in its own program.
abbrev pub unmeasured : Widths → Limits → Measure
unmeasured w limits = record { call = λ (c : Call). 0; message = λ (x : Message). 0; unfit = unfit w limits }

-- how many bytes came is not counted then
abbrev pub uncounted : {S : Type 0} → World S → World S
uncounted x = record x { at_target = 0; at_debugger = 0 }

-- The events of the acts lead to this world from the first one, and what they tell is what the acts told.
pub record IsReachedBy {S : Type 0} (m : Meaning S) (settings : Settings) (w : Widths) (first : World S) (acts : List Act) (x : World S) : Type 0 where
  pub is : run m settings (unmeasured w settings.limits) first (events_in acts) ≡ uncounted x
  pub tells : told_in acts ≡ told_outcomes (outcomes m settings (unmeasured w settings.limits) first (events_in acts))

pub record StandsAcross {S : Type 0} (m : Meaning S) (settings : Settings) (w : Widths) (first : World S) (acts : List Act) (programs : Programs S) (x : World S) : Type 0 where
  pub reached : IsReachedBy m settings w first acts x
  pub parts : Parts m settings w (joined programs.target programs.debugger) x
