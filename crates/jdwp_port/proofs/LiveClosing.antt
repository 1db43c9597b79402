-- Behind which live sessions the target is closed.
use Rattle.std.proofs.Common.{◌≡◌, ℕ, Bool, true, false, refl}
use Rattle.jdwp_end.specs.Ends.{is_open}
use Rattle.jdwp_machine.specs.Meanings.{Meaning}
use Rattle.jdwp_target.specs.Targets.{Target}
use Rattle.jdwp_end.specs.declared.pipes.ended.Ended.{Ended}
use Rattle.jdwp_port.specs.Served.{goes_on}
use Rattle.jdwp_port.proofs.Closing.{closed_at_end}
use Rattle.jdwp_port.specs.LiveServed.{IsLiveSession}

-- by whether the machine lived
closed_by : {S : Type 0} (m : Meaning S) (rounds : ℕ) (old new : Target S) (how : Ended) (lived : Bool) → old.moment.state.alive ≡ lived → is_open old.end ≡ false
    → IsLiveSession m rounds old how new → goes_on how ≡ true → is_open new.end ≡ false
closed_by m rounds old new how true lived closed session goes = closed_at_end m how _ _ new (session.run lived).may_end goes
closed_by m rounds old new how false dead closed session goes = rw ((session.dead dead).1) closed

pub closed_behind : {S : Type 0} (m : Meaning S) (rounds : ℕ) (old new : Target S) (how : Ended) → is_open old.end ≡ false → IsLiveSession m rounds old how new → goes_on how ≡ true
    → is_open new.end ≡ false
closed_behind m rounds old new how closed session goes = closed_by m rounds old new how old.moment.state.alive refl closed session goes
