use Rattle.std.proofs.Common.{refl}
use Rattle.jdwp_script_machine.proofs.happening.threw.Goals as goal

pub returns : goal.returns
returns c =
    let place = rw c.in-Some.is at c.in_ok-place.ensures in
    let object = rw c.deref.ensures.value at c.in-Some-with_id.ensures in
    rw (← place, ← object, c.tagged.ensures, c.caught_at.ensures, c.in_ok-reached.ensures) refl
