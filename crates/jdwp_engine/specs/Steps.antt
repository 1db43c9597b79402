-- What a message that is handled and steps that are made leave of a target.
use Rattle.std.specs.Prelude.{◌≡◌, ℕ, ◌<◌, ◌+◌, Bool, true, false, List, ◌++◌}
use Rattle.jdwp_end.specs.Ends.{is_open}
use Rattle.jdwp_target.specs.Targets.{Target}

-- A message was taken off, a command released, or steps were made: bytes were enqueued to leave behind those that wait, which was counted, and where
-- the session closed, this is why.
pub record Advances {S : Type 0} (old new : Target S) (why : Type 0) : Type 0 where
  pub settings : new.settings ≡ old.settings
  pub began : new.began ≡ old.began
  pub lost : new.end.session.lost ≡ old.end.session.lost
  pub fed : new.end.session.fed ≡ old.end.session.fed
  pub bytes : List ℕ
  pub enqueued : new.end.session.enqueued ≡ old.end.session.enqueued ++ bytes
  pub outgoing : new.end.outgoing ≡ old.end.outgoing ++ bytes
  pub costs : old.end.session.turns + (old.steps + old.releases) < new.end.session.turns + (new.steps + new.releases)
  pub closes : is_open new.end ≡ false → why

-- steps were made, of threads one after the other; a session that they close has a dead machine
abbrev pub StepsOn : {S : Type 0} → Target S → Target S → Type 0
StepsOn old new = Advances old new (new.moment.state.alive ≡ false)

-- one step at least was made, or none, and then nothing changed
abbrev pub StepsIf : {S : Type 0} → Target S → Target S → Bool → Type 0
StepsIf old new true = StepsOn old new
StepsIf old new false = new ≡ old
