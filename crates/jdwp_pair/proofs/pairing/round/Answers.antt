use Rattle.std.proofs.Common.{◌≡◌, ◌||◌, inl, inr, is_some, ap, subst, refl, sym, ◌∙◌, rules}
use Rattle.jdwp_debugger.specs.Debuggers.{Debugger}
use Rattle.jdwp_pair.specs.declared.run.Run.{Run}
use Rattle.jdwp_pair.specs.Calls.{at}
use Rattle.jdwp_pair.proofs.Keeping.{machine-aside}
use Rattle.jdwp_pair.proofs.Leading.{ends-behind, leads-moved, machine-moves, moving-ends}
use Rattle.jdwp_pair.proofs.pairing.round.Goals as goal

pub returns-in-Err-clause-ends : goal.returns-in-Err-clause-ends
returns-in-Err-clause-ends g c = inl c.in-Err.ensures.ends

pub returns-in-Err-run_machine-clause-ends : goal.returns-in-Err-run_machine-clause-ends
returns-in-Err-run_machine-clause-ends g c =
    let named = at c.next_line.new.link c.next_line.new.run (g.W.Pipe.story c.next_line.new.out) in
    inr (c.in-Ok.carried, named, c.in-Ok.ensures.takes, moving-ends g.M.Machine.meaning c.in-Err-run_machine.ended named c.run_machine.new.link c.in-Err-run_machine.ensures.ends)

pub returns-in-Err-run_debugger-clause-ends : goal.returns-in-Err-run_debugger-clause-ends
returns-in-Err-run_debugger-clause-ends g c =
    let m = g.M.Machine.meaning in
    let story = g.W.Pipe.story in
    let named = at c.next_line.new.link c.next_line.new.run (story c.next_line.new.out) in
    let moves = machine-moves m c.next_line.new.link c.run_machine.new.link c.in-Ok-run_machine.moved c.in-Ok-run_machine.ensures.runs in
    inr (
      c.in-Ok.carried,
      named,
      c.in-Ok.ensures.takes,
      ends-behind m c.in-Err-run_debugger.ended named (at c.run_machine.new.link c.next_line.new.run (story c.next_line.new.out)) c.run_debugger.new.link (story c.run_debugger.new.out)
          (leads-moved m named c.run_machine.new.link moves) c.in-Err-run_debugger.ensures.ends,
    )

pub returns-then-moved-clause-round : goal.returns-then-moved-clause-round
returns-then-moved-clause-round g c =
    let out = g.W.Pipe.story c.run_debugger.new.out in
    record {
      taken = c.in-Ok.carried;
      named = at c.next_line.new.link c.next_line.new.run (g.W.Pipe.story c.next_line.new.out);
      takes = c.in-Ok.ensures.takes;
      moved = c.in-Ok-run_machine.moved;
      stepped = c.run_machine.new.link;
      machine = c.in-Ok-run_machine.ensures.runs;
      handled = c.in-Ok-run_debugger.read;
      last = at c.run_debugger.new.link c.run_debugger.new.run out;
      debugger = c.in-Ok-run_debugger.ensures.runs;
      whether = search rules;
      left =
          ap (λ (r : Run). at c.run_debugger.new.link r out)
          (subst (λ (d : Debugger). c.begin_where_known.new.run ≡ record c.run_debugger.new.run { begun = c.run_debugger.new.run.begun || is_some d.sizes }) c.debugger.ensures c.begin_where_known.ensures);
    }

pub returns-else-moved-clause-round : goal.returns-else-moved-clause-round
returns-else-moved-clause-round g c =
    let out = g.W.Pipe.story c.run_debugger.new.out in
    record {
      taken = c.in-Ok.carried;
      named = at c.next_line.new.link c.next_line.new.run (g.W.Pipe.story c.next_line.new.out);
      takes = c.in-Ok.ensures.takes;
      moved = c.in-Ok-run_machine.moved;
      stepped = c.run_machine.new.link;
      machine = c.in-Ok-run_machine.ensures.runs;
      handled = c.in-Ok-run_debugger.read;
      last = at c.run_debugger.new.link c.run_debugger.new.run out;
      debugger = c.in-Ok-run_debugger.ensures.runs;
      whether = search rules;
      left =
          ap (λ (r : Run). at c.run_debugger.new.link r out)
          (subst (λ (d : Debugger). c.begin_where_known.new.run ≡ record c.run_debugger.new.run { begun = c.run_debugger.new.run.begun || is_some d.sizes }) c.debugger.ensures c.begin_where_known.ensures);
    }

pub run_debugger-requires-clause-followed : goal.run_debugger-requires-clause-followed
run_debugger-requires-clause-followed g c =
    machine-aside g.M.Machine.meaning c.next_line.new.link c.run_machine.new.link c.in-Ok-run_machine.moved c.in-Ok-run_machine.ensures.runs c.next_line.new.run.order c.next_line.new.run.follower c.in-Ok.ensures.followed
