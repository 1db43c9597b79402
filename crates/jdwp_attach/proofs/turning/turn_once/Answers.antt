use Rattle.std.proofs.Common.{◌≡◌, ◌∙◌, ◌-◌, ◌+◌, ◌++◌, ℕ, List, [], Ok, ap, refl, subst, arith, rules}
use Rattle.jdwp_end.specs.Ends.{front_of}
use Rattle.jdwp_debugger.specs.Debuggers.{with_fed, with_taken}
use Rattle.jdwp_debugger.specs.DebuggerTurns.{read_meaning}
use Rattle.jdwp_end.specs.Story.{with_written}
use Rattle.jdwp_attach.specs.OwnCounts.{AsksDue, due_behind}
use Rattle.jdwp_attach.specs.PlanAsks.{asks}
use Rattle.jdwp_attach.specs.PlanWaits.{Counts, composites_of}
use Rattle.jdwp_attach.specs.Runs.{Finishes, at}
use Rattle.jdwp_attach.specs.Telling.{lines_of}
use Rattle.jdwp_attach.proofs.Counting.{counts-fit, counts-kept, counts-later, counts-turned, due-keeps}
use Rattle.jdwp_attach.proofs.Ending.{count-wants, limit-ends, moved-ends, printed-so, read-ends, turn-ends}
use Rattle.jdwp_attach.proofs.Moves.{due-closed, due-lines, due-moves, due-opens, due-sizes, if-err, moved-goes, on-ok, read-goes, taken-ready}
use Rattle.jdwp_attach.proofs.Reached.{are-turned, reach-turned}
use Rattle.jdwp_attach.proofs.RefusedLines.{failed-by-turn, read-by-turn, told-by-turn}
use Rattle.jdwp_attach.proofs.Stages.{asks-both, puts-due, stands-due, turned-puts, turned-stands}
use Rattle.jdwp_attach.proofs.Turned.{due-puts-none, nothing-More, read-Whole}
use Rattle.jdwp_attach.proofs.turning.turn_once.Goals as goal

pub returns-then-run-eq0-clause-ends : goal.returns-then-run-eq0-clause-ends
returns-then-run-eq0-clause-ends g c =
    limit-ends (g.P.Pipe.story c.args.pipe.now) (g.W.Pipe.story c.args.out.now) c.args.debugger.now c.args.run.now.left (omega (arith, c.if-run-eq0.true))

pub returns-in-Err-clause-ends : goal.returns-in-Err-clause-ends
returns-in-Err-clause-ends g c =
    turn-ends (g.P.Pipe.story c.args.pipe.now) (g.W.Pipe.story c.args.out.now) c.args.debugger.now c.turn.new.self c.end_failed.new.debugger c.args.run.now.left (c.args.run.now.left - 1) c.in-Err.fault c.end_failed.result
    c.in-Err.ensures.turns c.end_failed.ensures

pub flush_and_read-requires : goal.flush_and_read-requires
flush_and_read-requires g c =
    let more = nothing-More (front_of c.args.debugger.now.end) c.args.debugger.now c.turn.new.self (rw c.in-Nothing.is at c.in-Ok.ensures.turns) in
    rw more.1 (c.session.ensures.room more.0 c.requires.ready.0 (c.session.ensures.flows c.requires.ready.1))

pub returns-in-Nothing-clause-goes : goal.returns-in-Nothing-clause-goes
returns-in-Nothing-clause-goes g c =
    let more = nothing-More (front_of c.args.debugger.now.end) c.args.debugger.now c.turn.new.self (rw c.in-Nothing.is at c.in-Ok.ensures.turns) in
    on-ok c.flush_and_read.result (λ m plan done base awaits k.
    read-goes plan done base (g.P.Pipe.story c.args.pipe.now) (g.W.Pipe.story c.args.out.now) c.args.debugger.now c.turn.new.self c.flush_and_read.new.debugger c.args.run.now.left (c.args.run.now.left - 1)
    (g.P.Pipe.story c.flush_and_read.new.pipe) k awaits (rw c.in-Nothing.is at c.in-Ok.ensures.turns) more.1 m (omega (arith, c.if-run-eq0.false))) c.flush_and_read.ensures.goes

pub returns-in-Nothing-clause-ready : goal.returns-in-Nothing-clause-ready
returns-in-Nothing-clause-ready g c =
    let more = nothing-More (front_of c.args.debugger.now.end) c.args.debugger.now c.turn.new.self (rw c.in-Nothing.is at c.in-Ok.ensures.turns) in
    on-ok c.flush_and_read.result (λ m. rw (m.1, more.1) c.requires.ready) c.flush_and_read.ensures.goes

pub returns-in-Nothing-clause-ends : goal.returns-in-Nothing-clause-ends
returns-in-Nothing-clause-ends g c =
    let more = nothing-More (front_of c.args.debugger.now.end) c.args.debugger.now c.turn.new.self (rw c.in-Nothing.is at c.in-Ok.ensures.turns) in
    if-err c.flush_and_read.result (λ ended h.
    read-ends (g.P.Pipe.story c.args.pipe.now) (g.P.Pipe.story c.flush_and_read.new.pipe) (g.W.Pipe.story c.args.out.now) c.args.debugger.now c.turn.new.self c.flush_and_read.new.debugger c.args.run.now.left (c.args.run.now.left - 1)
    ended (rw c.in-Nothing.is at c.in-Ok.ensures.turns) more.0 more.1 h) c.flush_and_read.ensures.ends

pub overflow_add-run : goal.overflow_add-run
overflow_add-run g c =
    let fits = counts-fit (front_of c.args.debugger.now.end) c.args.run.now.composites c.args.run.now.left c.args.debugger.now c.turn.new.self c.in-Ok.turn (omega (arith, c.if-run-eq0.false)) c.in-Ok.ensures.turns c.requires.counts in
    omega (arith, fits, c.composites_in.ensures)

pub returns : goal.returns
returns g c =
    let old = c.args.debugger.now in
    let mid = c.turn.new.self in
    let asked = c.ask_due_count.new.debugger in
    let new = c.tell.new.debugger in
    let s = g.P.Pipe.story c.args.pipe.now in
    let o = g.W.Pipe.story c.args.out.now in
    let s' = g.P.Pipe.story c.tell.new.pipe in
    let o' = g.W.Pipe.story c.tell.new.out in
    let r = c.in-Ok.turn in
    let turned = c.in-Ok.ensures.turns in
    let some = c.in_default.not-Nothing in
    let reads = read-Whole (front_of old.end) old mid r turned some in
    let text = lines_of (Ok r) mid in
    let due = due_behind (Ok r) mid in
    let own = c.in_default-ask_due_count.ensures.ok.0 in
    let asks-it : AsksDue due mid asked own = c.in_default-ask_due_count.ensures.ok.1 in
    let moves = due-moves due old mid asked own 1 reads.moves asks-it in
    let same : lines_of (Ok r) asked ≡ text = due-lines due mid asked own r asks-it in
    record {
      goes = on-ok c.tell.result (λ h plan done base awaits k.
          moved-goes plan done done base s o old asked c.args.run.now.left c.tell.new.run.left 1 (asks own) s' o' new text (k.told ++ text) k (k.steps ++ own) moves
          (are-turned plan done base.debugger k.steps own k.told old mid asked r k.are k.reached turned asks-it)
          (reach-turned plan done base.debugger k.steps own k.told old mid asked (Ok r) k.are k.reached awaits turned asks-it) refl
          (stands-due due k.steps own base.debugger mid asked asks-it
          (turned-stands (front_of old.end) k.steps base.debugger old mid r refl turned some (due-opens due mid asked own asks-it h.0) k.stands)) h.0 (asks-both k.steps own)
          (omega (arith, h.1.left, c.if-run-eq0.false)) h.1.debugger h.1.pipe (h.1.out ∙ ap (λ (x : List ℕ). with_written x o) same)) c.tell.ensures.goes;
      ready = on-ok c.tell.result (λ h. taken-ready asked new h.0 h.1.debugger) c.tell.ensures.goes;
      known = on-ok c.tell.result (λ h known. rw (h.1.debugger, due-sizes due mid asked own asks-it) (reads.known known (due-opens due mid asked own asks-it h.0))) c.tell.ensures.goes;
      left = on-ok c.tell.result (λ h. omega (arith, h.1.left, c.if-run-eq0.false)) c.tell.ensures.goes;
      counts = on-ok c.tell.result (λ h.
          let left : ℕ = c.args.run.now.left - 1 in
          let more : ℕ = c.args.run.now.composites + composites_of (read_meaning r) in
          let spent : c.args.run.now.left ≡ left + 1 = omega (arith, c.if-run-eq0.false) in
          let counts : Counts more left mid =
          counts-turned (front_of old.end) c.args.run.now.composites left old mid r refl c.session.ensures.bytes turned some (due-opens due mid asked own asks-it h.0)
          (subst (λ (n : ℕ). Counts c.args.run.now.composites n old) spent c.requires.counts)
          in
          let same : c.tell.new.run.composites ≡ more = omega (arith, c.tell.ensures.counts, c.composites_in.ensures) in
          rw (same, h.1.left, h.1.debugger) (counts-kept more left mid (with_taken asked.end.outgoing asked) (due-keeps due mid asked own asks-it) counts)) c.tell.ensures.goes;
      by_turn = if-err c.tell.result (λ ended h. told-by-turn ended _ _ _ h) c.tell.ensures.ends;
      ends = if-err c.tell.result (λ ended h plan done base begins awaits k.
          let reached = reach-turned plan done base.debugger k.steps own k.told old mid asked (Ok r) k.are k.reached awaits turned asks-it in
          let are = are-turned plan done base.debugger k.steps own k.told old mid asked r k.are k.reached turned asks-it in
          moved-ends plan done base s o old asked c.args.run.now.left (c.args.run.now.left - 1) c.tell.new.run.left 1 (asks own) s' o' new ended text (k.told ++ text) begins k moves
          (k.steps ++ own, are, reached) refl (
            done,
            begins,
            (
              record { steps = k.steps ++ own; are = are; told = k.told ++ text; debugger = asked; reached = reached },
              (
                omega (arith, moves.tickets_are, k.asked, asks-both k.steps own),
                puts-due due k.steps own base.debugger mid asked asks-it (λ opened. turned-stands (front_of old.end) k.steps base.debugger old mid r refl turned some opened k.stands)
                    (turned-puts (front_of old.end) k.steps base.debugger old mid r refl turned some k.stands),
              ),
            ),
          )
          (λ closed.
          let nothing = due-closed due mid asked own asks-it closed in
          rw nothing (old, r, mid, (done, k.told, (k.steps, k.are, k.reached)), turned, reads.closes (rw nothing at closed), refl))
          (λ some. record { done = done; begins = begins; old = old; read = r; mid = mid; own = own; new = asked; told = k.told; reached = (k.steps, k.are, k.reached); awaits = awaits; turned = turned; asks = asks-it; some = some; is = refl; printed = printed-so base.out o k.told k.printed })
          (subst (λ (x : List ℕ). Finishes ended x (at s o asked (c.args.run.now.left - 1)) (at s' o' new c.tell.new.run.left)) same h)) c.tell.ensures.ends;
    }

-- memory was wanting for the count that was due
pub returns-in-Err-ask_due_count-clause-ends : goal.returns-in-Err-ask_due_count-clause-ends
returns-in-Err-ask_due_count-clause-ends g c = λ plan done base begins awaits k.
    let old = c.args.debugger.now in
    let mid = c.turn.new.self in
    let r = c.in-Ok.turn in
    let turned = c.in-Ok.ensures.turns in
    let reads = read-Whole (front_of old.end) old mid r turned c.in_default.not-Nothing in
    let due = c.in-Err-ask_due_count.ensures.due in
    rw c.in-Err-ask_due_count.ensures.err
    (count-wants plan done base (g.P.Pipe.story c.args.pipe.now) (g.W.Pipe.story c.args.out.now) old mid c.args.run.now.left r begins awaits turned due reads.moves (due-puts-none old mid r turned due) k)

pub returns-in-Err-clause-by_turn : goal.returns-in-Err-clause-by_turn
returns-in-Err-clause-by_turn g c = failed-by-turn c.in-Err.fault c.turn.new.self c.end_failed.new.debugger c.end_failed.result c.end_failed.ensures

pub returns-in-Nothing-clause-by_turn : goal.returns-in-Nothing-clause-by_turn
returns-in-Nothing-clause-by_turn g c = if-err c.flush_and_read.result (λ ended h. read-by-turn ended _ _ _ _ h) c.flush_and_read.ensures.ends

pub returns-in-Nothing-clause-left : goal.returns-in-Nothing-clause-left
returns-in-Nothing-clause-left g c =
    search rules

pub returns-in-Nothing-clause-counts : goal.returns-in-Nothing-clause-counts
returns-in-Nothing-clause-counts g c =
    let more = nothing-More (front_of c.args.debugger.now.end) c.args.debugger.now c.turn.new.self (rw c.in-Nothing.is at c.in-Ok.ensures.turns) in
    on-ok c.flush_and_read.result (λ m. rw (m.1, more.1)
    (counts-kept c.args.run.now.composites (c.args.run.now.left - 1) c.args.debugger.now (with_fed m.0 (record c.args.debugger.now { last = [] })) (record { limit = refl; handled = refl; phase = refl; parked = refl; sizes = refl })
    (counts-later c.args.run.now.composites c.args.run.now.left (c.args.run.now.left - 1) c.args.debugger.now (omega arith) c.requires.counts)))
    c.flush_and_read.ensures.goes
