-- One session of a new target.
use Rattle.std.specs.Prelude.{◌≡◌, ◌≤◌, ◌+◌, ℕ, Bool}
use Rattle.jdwp_machine.specs.Meanings.{Meaning}
use Rattle.jdwp_debuggee.specs.Settings.{Settings}
use Rattle.jdwp_debuggee.specs.State.{new_state}
use Rattle.jdwp_target.specs.Targets.{Target, Ran, new_target, opened_target, with_deferring}
use Rattle.jdwp_end.specs.declared.pipes.ended.Ended.{Ended}
use Rattle.jdwp_end.specs.declared.pipes.ended.Ended.TheVariants.{TurnLimit}
use Rattle.jdwp_engine.specs.Outcome.{MayEnd}
use Rattle.jdwp_engine.specs.Run.{InOrder, cost}
use Rattle.jdwp_engine.specs.Sessions.{Serves}
use Rattle.jdwp_end.specs.Story.{Story}

-- a target over a machine in this state, before its first session, which defers replies or answers each command at once
abbrev pub fresh : {S : Type 0} → Meaning S → Settings → Bool → S → Target S
fresh m settings defer machine = with_deferring defer (new_target settings (record { state = new_state (m.live machine); machine = machine }))

-- From the first story to the second a new target was run for at most so many rounds, and the session ended so: it was fed what was read,
-- in order; what was written is what it enqueued, or a beginning where a write failed; the reason of this end stands; it was run round by
-- round, each thread stepped in its turn; turns and reads with room are together no more than the rounds; and where the rounds were used,
-- they were.
pub record ServesNew {S : Type 0} (m : Meaning S) (settings : Settings) (defer : Bool) (machine : S) (rounds : ℕ) (start now : Story) (ended : Ended) : Type 0 where
  pub target : Target S
  pub ran : Ran m target
  pub in_order : InOrder (fresh m settings defer machine) start now target
  pub may_end : MayEnd m ended start now target
  pub by_rounds : Serves m rounds (opened_target (fresh m settings defer machine)) start ended target now
  pub at_most : target.end.session.turns + now.rooms ≤ rounds + start.rooms
  pub all_used : ended ≡ TurnLimit → rounds + start.rooms ≤ cost now target
