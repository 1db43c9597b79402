use Rattle.std.proofs.lemmas.Grind.{common_steps}
use Rattle.std.proofs.lemmas.List.{append-nil}
use Rattle.std.proofs.Common.{◌∙◌, ◌++◌, ◌∷◌, [], inl, sym, ap, refl, arith}
use Rattle.jdwp_debugger.specs.Debuggers.{Debugger, lost_debugger, with_taken}
use Rattle.jdwp_attach.proofs.Counting.{asked-keeps, counts-kept}
use Rattle.jdwp_attach.proofs.Ending.{asked-in-order, line-memory, loses-ends, reads-takes, refused-ends, unread-ends}
use Rattle.jdwp_attach.proofs.Moves.{asked-moves, asked-open, asked-passes, begins-line, moved-goes, written-none}
use Rattle.jdwp_attach.specs.OwnCounts.{Line}
use Rattle.jdwp_attach.proofs.Reached.{are-line, reach-asked}
use Rattle.jdwp_attach.proofs.RefusedLines.{lost-tells, memory-tells, refused-tells, unread-tells}
use Rattle.jdwp_attach.proofs.Stages.{asks-append, one-asked, stands-asked}
use Rattle.jdwp_attach.proofs.asking.ask_line.Goals as goal

pub returns-in-Err-NoMemory-clause-ends : goal.returns-in-Err-NoMemory-clause-ends
returns-in-Err-NoMemory-clause-ends g c = λ out line asks-it.
    line-memory line (g.P.Pipe.story c.args.pipe.now) out c.args.debugger.now c.args.run.now.left
    (reads-takes line c.args.set c.args.number c.args.bytes.now c.in-Some.sizes c.args.debugger.now asks-it (sym c.sizes.ensures ∙ c.in-Some.is) (c.in-Err-NoMemory.ensures.memory c.in-Err-NoMemory.field-0-is))

pub returns-in-Err-BadData-clause-ends : goal.returns-in-Err-BadData-clause-ends
returns-in-Err-BadData-clause-ends g c = λ out line asks-it.
    unread-ends line (g.P.Pipe.story c.args.pipe.now) out c.args.debugger.now c.end_refused.new.debugger c.args.run.now.left c.args.run.now.left c.args.set c.args.number c.args.bytes.now c.in-Some.sizes c.end_refused.result asks-it
    (sym c.sizes.ensures ∙ c.in-Some.is) (c.in-Err-BadData.ensures.err c.in-Err-BadData.field-0-is) c.end_refused.ensures

pub returns-in-Err-clause-ends : goal.returns-in-Err-clause-ends
returns-in-Err-clause-ends g c = λ out line asks-it.
    refused-ends line (g.P.Pipe.story c.args.pipe.now) out c.args.debugger.now c.ask.new.self c.end_refused-in-Err.new.debugger c.args.run.now.left c.args.run.now.left c.args.set c.args.number c.args.bytes.now c.in-Some.sizes c.in-Ok.command
    c.in-Err.refused c.end_refused-in-Err.result asks-it (sym c.sizes.ensures ∙ c.in-Some.is) c.in-Ok.ensures.ok c.in-Err.ensures.err c.end_refused-in-Err.ensures

pub returns-then-not-write_out-clause-ends : goal.returns-then-not-write_out-clause-ends
returns-then-not-write_out-clause-ends g c = λ out line asks-it done rest base k.
    let old = c.args.debugger.now in
    let mid = c.ask.new.self in
    let s = g.P.Pipe.story c.args.pipe.now in
    let s' = g.P.Pipe.story c.write_out.new.pipe in
    let asked = c.in_default-ask.ensures.ok.2 in
    let fails = c.if-not-write_out.ensures.fails refl in
    let in-order = asked-in-order done rest line base s out old mid c.args.run.now.left c.args.set c.args.number c.args.bytes.now c.in-Some.sizes c.in-Ok.command asks-it
    (sym c.sizes.ensures ∙ c.in-Some.is) c.in-Ok.ensures.ok c.in_default-ask.ensures.ok.0 asked k in
    loses-ends (done ++ line ∷ rest) done base s out old mid c.args.run.now.left c.args.run.now.left c.args.run.now.left 0 1 s' out c.lose.new.self [] k.told (begins-line done rest line) k
    (asked-moves c.in-Ok.command old mid asked) (k.steps, k.are, reach-asked (done ++ line ∷ rest) base.debugger k.steps k.told old mid c.in-Ok.command k.reached k.ready.0 c.in_default-ask.ensures.ok.0 asked) (sym (append-nil k.told)) in-order
    (record {
      taken = fails.0;
      is = c.lose.ensures.lost ∙ ap (λ (x : Debugger). lost_debugger x) fails.1;
      left = refl;
      fails = inl (fails.2, fails.3, refl);
    })

pub returns-clause-goes : goal.returns-clause-goes
returns-clause-goes g c = λ out line asks-it done rest base k.
    let old = c.args.debugger.now in
    let mid = c.ask.new.self in
    let s = g.P.Pipe.story c.args.pipe.now in
    let asked = c.in_default-ask.ensures.ok.2 in
    let w = c.if-not-write_out.ensures.all refl in
    let one = one-asked line c.args.set c.args.number c.args.bytes.now asks-it in
    let stands = stands-asked k.steps line base.debugger old mid c.args.set c.args.number c.args.bytes.now c.in-Some.sizes c.in-Ok.command asks-it
    (sym c.sizes.ensures ∙ c.in-Some.is) c.in-Ok.ensures.ok asked k.stands in
    moved-goes (done ++ line ∷ rest) done (done ++ line ∷ []) base s out old mid c.args.run.now.left c.args.run.now.left 0 1 (g.P.Pipe.story c.write_out.new.pipe) out c.write_out.new.end [] (k.told ++ []) k (k.steps ++ Line line ∷ [])
    (asked-moves c.in-Ok.command old mid asked) (are-line base.debugger.order done k.steps line k.are)
    (asked-passes (done ++ line ∷ rest) k.steps line base.debugger old mid k.told c.in-Ok.command c.args.set c.args.number c.args.bytes.now asks-it k.ready.0 c.in_default-ask.ensures.ok.0 asked k.asked k.reached) refl stands
    (asked-open c.in-Ok.command old mid asked c.requires.ready.0) (omega (arith, asks-append k.steps (Line line), one)) (omega arith) w.0 w.1 (sym (written-none out))

pub returns-clause-ready : goal.returns-clause-ready
returns-clause-ready g c =
    grind (arith, common_steps)

pub returns-clause-counts : goal.returns-clause-counts
returns-clause-counts g c =
    let w = c.if-not-write_out.ensures.all refl in
    rw w.0 (counts-kept c.args.run.now.composites c.args.run.now.left c.args.debugger.now (with_taken c.ask.new.self.end.outgoing c.ask.new.self) (asked-keeps c.in-Ok.command c.args.debugger.now c.ask.new.self c.in_default-ask.ensures.ok.2)
    c.requires.counts)

pub returns-in-Err-NoMemory-clause-tells : goal.returns-in-Err-NoMemory-clause-tells
returns-in-Err-NoMemory-clause-tells g c = λ out line asks-it. memory-tells line _ _

pub returns-in-Err-BadData-clause-tells : goal.returns-in-Err-BadData-clause-tells
returns-in-Err-BadData-clause-tells g c = λ out line asks-it.
    unread-tells line (g.P.Pipe.story c.args.pipe.now) out c.args.debugger.now c.end_refused.new.debugger c.args.run.now.left c.args.set c.args.number c.args.bytes.now c.in-Some.sizes c.end_refused.result asks-it
    (sym c.sizes.ensures ∙ c.in-Some.is) (c.in-Err-BadData.ensures.err c.in-Err-BadData.field-0-is) c.end_refused.ensures

pub returns-in-Err-clause-tells : goal.returns-in-Err-clause-tells
returns-in-Err-clause-tells g c = λ out line asks-it.
    refused-tells line (g.P.Pipe.story c.args.pipe.now) out c.args.debugger.now c.ask.new.self c.end_refused-in-Err.new.debugger c.args.run.now.left c.args.set c.args.number c.args.bytes.now c.in-Some.sizes c.in-Ok.command
    c.in-Err.refused c.end_refused-in-Err.result asks-it (sym c.sizes.ensures ∙ c.in-Some.is) c.in-Ok.ensures.ok c.in-Err.ensures.err c.end_refused-in-Err.ensures

pub returns-then-not-write_out-clause-tells : goal.returns-then-not-write_out-clause-tells
returns-then-not-write_out-clause-tells g c = λ out line asks-it. lost-tells line _ _
