-- The acts of a target and of a debugger in two programs, in one order, and what they take of the connection.
use Rattle.std.specs.Prelude.{List, [], ◌∷◌, ◌++◌}
use Rattle.jdwp_wire.specs.Streams.{IsFront}
use Rattle.jdwp_machine.specs.Meanings.{Meaning}
use Rattle.jdwp_across.specs.Programs.{Act, Does, Programs}

-- The one premise on the connection: what an end was fed in the session is a beginning of what the other had put by then. So bytes come in
-- order, unchanged, each once, in any pieces and as late as they like; some may never come.
pub record Agrees {S : Type 0} (programs : Programs S) : Type 0 where
  pub to_target : IsFront programs.target.end.session.fed programs.debugger.end.session.enqueued
  pub to_debugger : IsFront programs.debugger.end.session.fed programs.target.end.session.enqueued

-- The acts of both, in an order in which each comes after all that it rests on: what one program does in its own order, and bytes after they
-- were put; behind each act the connection agrees.
--
-- What such an order takes for granted beside that: a session begins at both ends together (`Connects`). No act of either end lies between
-- the target's `accept` and the debugger's `attach`, and no byte of a session before comes after them.
pub data Merged {S : Type 0} (m : Meaning S) (first : Programs S) : List Act → Programs S → Type 0 where
  Start : Merged m first [] first
  More : (acts : List Act) (act : Act) (old new : Programs S) → Merged m first acts old → Does m act old new → Agrees new → Merged m first (acts ++ act ∷ []) new
