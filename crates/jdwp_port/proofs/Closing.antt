-- Behind which sessions the target is closed.
use Rattle.std.proofs.Common.{◌≡◌, ℕ, Bool, true, false, refl}
use Rattle.jdwp_end.specs.Ends.{is_open}
use Rattle.jdwp_machine.specs.Meanings.{Meaning}
use Rattle.jdwp_target.specs.Targets.{Target}
use Rattle.jdwp_end.specs.declared.pipes.ended.Ended.{Ended}
use Rattle.jdwp_end.specs.declared.pipes.ended.Ended.TheVariants as ended
use Rattle.jdwp_engine.specs.Outcome.{IsLost, MayEnd}
use Rattle.jdwp_end.specs.Story.{Story}
use Rattle.jdwp_port.specs.Served.{IsSession, goes_on}

closed_by_loss : {S : Type 0} (m : Meaning S) (target : Target S) → IsLost m target → is_open target.end ≡ false
closed_by_loss m target (before, ran, kept, is) = rw is refl

-- of a living machine
pub closed_at_end : {S : Type 0} (m : Meaning S) (how : Ended) (start now : Story) (target : Target S) → MayEnd m how start now target → goes_on how ≡ true → is_open target.end ≡ false
closed_at_end m ended.Done start now target (why, closed, kept, left) goes = closed
closed_at_end m ended.LostByRead start now target (fails, front, (before, ran, kept, rest, is), left) goes = closed_by_loss m target (before, ran, kept, is)
closed_at_end m ended.LostByWrite start now target (fails, is-lost) goes = closed_by_loss m target is-lost
closed_at_end m (ended.Refused number) start now target (front, is-lost, left) goes = closed_by_loss m target is-lost
closed_at_end m ended.NoMemory start now target may goes = cc
closed_at_end m ended.TurnLimit start now target may goes = cc

-- by whether the machine lived
closed_by : {S : Type 0} (m : Meaning S) (rounds : ℕ) (old new : Target S) (how : Ended) (lived : Bool) → old.moment.state.alive ≡ lived → is_open old.end ≡ false → IsSession m rounds old how new
    → goes_on how ≡ true → is_open new.end ≡ false
closed_by m rounds old new how true lived closed session goes = closed_at_end m how _ _ new (session.run lived).may_end goes
closed_by m rounds old new how false dead closed session goes = rw ((session.dead dead).1) closed

pub closed_behind : {S : Type 0} (m : Meaning S) (rounds : ℕ) (old new : Target S) (how : Ended) → is_open old.end ≡ false → IsSession m rounds old how new → goes_on how ≡ true → is_open new.end ≡ false
closed_behind m rounds old new how closed session goes = closed_by m rounds old new how old.moment.state.alive refl closed session goes
