use Rattle.std.proofs.Common.{◌∙◌, ap, refl}
use Rattle.jdwp_debugger.specs.Debuggers.{Debugger, lost_debugger, with_taken}
use Rattle.jdwp_attach.proofs.Counting.{begun-counts, counts-kept}
use Rattle.jdwp_attach.proofs.Ending.{hello-ends, hello-goes}
use Rattle.jdwp_attach.proofs.attaching.write_hello.Goals as goal

pub returns-then-not-write_out-clause-ends : goal.returns-then-not-write_out-clause-ends
returns-then-not-write_out-clause-ends g c = λ plan out left.
    let fails = c.if-not-write_out.ensures.fails refl in
    hello-ends plan (g.P.Pipe.story c.args.pipe.now) out c.args.debugger.now c.lose.new.self left (g.P.Pipe.story c.write_out.new.pipe) fails.0 c.requires fails.2 fails.3
    (c.lose.ensures.lost ∙ ap (λ (x : Debugger). lost_debugger x) fails.1)

pub returns-clause-goes : goal.returns-clause-goes
returns-clause-goes g c = λ plan out left.
    let w = c.if-not-write_out.ensures.all refl in
    hello-goes plan (g.P.Pipe.story c.args.pipe.now) out c.args.debugger.now c.write_out.new.end left (g.P.Pipe.story c.write_out.new.pipe) c.requires w.0 w.1

pub returns-clause-counts : goal.returns-clause-counts
returns-clause-counts g c = λ left most.
    let w = c.if-not-write_out.ensures.all refl in
    rw w.0 (counts-kept 0 left c.args.debugger.now (with_taken c.args.debugger.now.end.outgoing c.args.debugger.now) (record { limit = refl; handled = refl; phase = refl; parked = refl; sizes = refl })
    (begun-counts left c.args.debugger.now most c.requires))
