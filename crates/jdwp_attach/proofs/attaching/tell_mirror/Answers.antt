use Rattle.std.proofs.Common.{refl}
use Rattle.std.specs.String.{string_bytes}
use Rattle.jdwp_attach.specs.declared.plans.plan_line.PlanLine.TheVariants as line
use Rattle.jdwp_attach.proofs.Ending.{line-memory, mirror-part}
use Rattle.jdwp_attach.proofs.attaching.tell_mirror.Goals as goal

pub returns-clause-ends : goal.returns-clause-ends
returns-clause-ends g c = λ pipe left.
    mirror-part pipe (g.W.Pipe.story c.args.out.now) (g.W.Pipe.story c.write_all.new.pipe) c.args.debugger.now c.lose.new.self left (string_bytes c.in-Ok.text) c.in-Ok.ensures
    (rw c.as_bytes.ensures.value at c.if-write_all.ensures.fails refl) c.lose.ensures.lost

pub returns-in_default-clause-ends : goal.returns-in_default-clause-ends
returns-in_default-clause-ends g c = λ pipe left.
    line-memory line.Mirror pipe (g.W.Pipe.story c.args.out.now) c.args.debugger.now left tt
