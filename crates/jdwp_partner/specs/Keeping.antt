-- What rounds of a target keep, what moved between it and a pipe, and how it stands.
use Rattle.std.specs.Prelude.{◌≡◌, ℕ, true, false, [], None, Ok}
use Rattle.jdwp_end.specs.Ends.{front_of, is_open}
use Rattle.jdwp_end.specs.Story.{Story}
use Rattle.jdwp_engine.specs.Rounds.{StepsEach}
use Rattle.jdwp_machine.specs.Meanings.{Meaning}
use Rattle.jdwp_partner.specs.declared.standing.Standing.{Standing}
use Rattle.jdwp_partner.specs.declared.standing.Standing.TheVariants.{Goes, Still, AllUsed, Refused, NoMemory}
use Rattle.jdwp_target.specs.Targets.{Target}
use Rattle.jdwp_wire.specs.Streams.{More, IsFront}

-- it has what it was made with, and is in the same session
pub record IsOfSession {S : Type 0} (old new : Target S) : Type 0 where
  pub settings : new.settings ≡ old.settings
  pub began : new.began ≡ old.began

-- the same, and nothing was fed or taken
pub record Keeps {S : Type 0} (old new : Target S) : Type 0 where
  pub settings : new.settings ≡ old.settings
  pub began : new.began ≡ old.began
  pub fed : new.end.session.fed ≡ old.end.session.fed
  pub taken : new.end.session.taken ≡ old.end.session.taken

-- The target was fed a beginning of what was written, in order, and all of it while its session is open; and what was read is what was taken
-- from it, in order.
pub record IsMoved {S : Type 0} (target : Target S) (story : Story) : Type 0 where
  pub fed : IsFront target.end.session.fed story.written
  pub all : is_open target.end ≡ true → story.written ≡ target.end.session.fed
  pub read : story.read ≡ target.end.session.taken

-- Nothing more can happen, unless bytes come: nothing waits to leave, no message came whole, nothing is deferred, and of the live threads,
-- each of which is tried, none makes a step.
pub record IsStill {S : Type 0} (m : Meaning S) (target : Target S) : Type 0 where
  pub idle : target.end.outgoing ≡ []
  pub front : front_of target.end ≡ More
  pub deferred : target.deferred ≡ []
  pub steps : StepsEach m None target (Ok false) target

-- A target with so many rounds left of which this is told: where that is that nothing more can happen, or that all rounds were used, it is so.
abbrev pub Stands : {S : Type 0} → Meaning S → Standing → ℕ → Target S → Type 0
Stands m Goes rounds target = Unit {0}
Stands m Still rounds target = IsStill m target
Stands m AllUsed rounds target = rounds ≡ 0
Stands m (Refused number) rounds target = Unit {0}
Stands m NoMemory rounds target = Unit {0}
