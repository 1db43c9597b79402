-- What the code keeps of a session.
use Rattle.std.specs.Prelude.{◌≡◌, ℕ, Option, Some, None, option_map}
use Rattle.std.specs.BTreeMap.{get}
use Rattle.std.specs.Ordering.{nat_cmp}
use Rattle.jdwp_mirror.specs.KnownThreads.{count_in, is_held_in}
use Rattle.jdwp_mirror.specs.Messages.{Message}
use Rattle.jdwp_mirror.specs.Mirrors.{Mirror, Learned}
use Rattle.jdwp_draw.specs.declared.follower.Follower.{Follower}
use Rattle.jdwp_draw.specs.declared.follower.AskedCommand.{AskedCommand}
use Rattle.jdwp_draw.specs.Sessions.{Asked, Session}

abbrev pub asked_meaning : AskedCommand → Asked
asked_meaning a = record { place = a.place; command = a.command }

abbrev pub waits_in : Follower → ℕ → Option Asked
waits_in f id = option_map asked_meaning (get nat_cmp f.asked id)

-- it keeps this of the session
pub record IsAt (f : Follower) (s : Session) : Type 0 where
  pub waits : (id : ℕ) → waits_in f id ≡ s.waits id
  pub counts : (t : ℕ) → count_in f.mirror.threads t ≡ s.counts t
  pub held : (t : ℕ) → is_held_in f.mirror.threads t ≡ s.held t
  pub requests : f.mirror.requests ≡ s.requests

-- what this told was learned, if it told anything
abbrev pub Hears : Option Message → Mirror → Mirror → Type 0
Hears None old new = new ≡ old
Hears (Some message) old new = Learned old message new
