use Rattle.std.proofs.Common.{refl}
use Rattle.jdwp_script_machine.proofs.sites.site_in.Goals as goal

pub returns : goal.returns
returns c =
    let class = rw c.deref.ensures.value at c.in_ok-class.ensures in
    let method = rw c.deref-2.ensures.value at c.in_ok-method.ensures in
    rw (← class, ← method) refl
