use Rattle.std.proofs.Common.{◌++◌, ◌∷◌, inl, refl, rules}
use Rattle.jdwp_attach.specs.Runs.{at}
use Rattle.jdwp_attach.proofs.Ending.{is-of-pair, pair-ends}
use Rattle.jdwp_attach.proofs.Moves.{begins-line, if-err, line-goes, next-is, on-both, on-ok, on-three, silent-goes}
use Rattle.jdwp_attach.specs.declared.plans.plan_line.PlanLine.TheVariants as line
use Rattle.jdwp_attach.proofs.RefusedLines.{err-both, pair-tells, turns-tell}
use Rattle.jdwp_attach.proofs.attaching.carry_out.Goals as goal

pub returns-in-Ask-clause-goes : goal.returns-in-Ask-clause-goes
returns-in-Ask-clause-goes g c =
    on-ok c.ask_line.result (λ f. f (g.W.Pipe.story c.args.out.now) c.args.line.now (rw c.in-Ask.is (refl, refl, search rules))) c.ask_line.ensures.goes

pub returns-in-Ask-clause-ends : goal.returns-in-Ask-clause-ends
returns-in-Ask-clause-ends g c =
    if-err c.ask_line.result (λ ended f. f (g.W.Pipe.story c.args.out.now) c.args.line.now (rw c.in-Ask.is (refl, refl, search rules))) c.ask_line.ensures.ends

pub returns-in-Answers-clause-goes : goal.returns-in-Answers-clause-goes
returns-in-Answers-clause-goes g c =
    on-three c.until_answered.result (λ f known answered done rest base k.
    silent-goes (done ++ c.args.line.now ∷ rest) done c.args.line.now base _ _ _ _ (rw c.in-Answers.is refl) known (rw c.in-Answers.is answered) (rw c.in-Answers.is refl)
    (f (done ++ c.args.line.now ∷ rest) done base (inl (next-is c.args.line.now line.Answers done rest c.in-Answers.is)) k)) c.until_answered.ensures.goes c.until_answered.ensures.known c.until_answered.ensures.answered

pub returns-in-Answers-clause-ends : goal.returns-in-Answers-clause-ends
returns-in-Answers-clause-ends g c =
    if-err c.until_answered.result (λ ended f done rest base k. f (done ++ c.args.line.now ∷ rest) done base (begins-line done rest c.args.line.now) (inl (next-is c.args.line.now line.Answers done rest c.in-Answers.is)) k) c.until_answered.ensures.ends

pub returns-in-Events-clause-goes : goal.returns-in-Events-clause-goes
returns-in-Events-clause-goes g c =
    on-three c.until_events.result (λ f known handled done rest base k.
    silent-goes (done ++ c.args.line.now ∷ rest) done c.args.line.now base _ _ _ _ (rw c.in-Events.is refl) known (rw c.in-Events.is handled) (rw c.in-Events.is refl)
    (f (done ++ c.args.line.now ∷ rest) done base (next-is c.args.line.now (line.Events c.in-Events.count) done rest c.in-Events.is) k)) c.until_events.ensures.goes c.until_events.ensures.known c.until_events.ensures.handled

pub returns-in-Events-clause-ends : goal.returns-in-Events-clause-ends
returns-in-Events-clause-ends g c =
    if-err c.until_events.result (λ ended f done rest base k. f (done ++ c.args.line.now ∷ rest) done base (begins-line done rest c.args.line.now) (next-is c.args.line.now (line.Events c.in-Events.count) done rest c.in-Events.is) k) c.until_events.ensures.ends

pub returns-in-Mirror-clause-goes : goal.returns-in-Mirror-clause-goes
returns-in-Mirror-clause-goes g c =
    on-both c.tell_mirror.result (λ m kept done rest base k. rw kept
    (line-goes (done ++ c.args.line.now ∷ rest) done c.args.line.now base (g.P.Pipe.story c.args.pipe.now) (g.W.Pipe.story c.args.out.now) (g.W.Pipe.story c.tell_mirror.new.out) c.args.debugger.now c.args.run.now.left m.0
    (rw c.in-Mirror.is refl) c.requires.known (rw c.in-Mirror.is tt) (rw c.in-Mirror.is m.1) m.2 k)) c.tell_mirror.ensures.goes c.tell_mirror.ensures.kept

pub returns-in-Mirror-clause-ends : goal.returns-in-Mirror-clause-ends
returns-in-Mirror-clause-ends g c =
    rw c.in-Mirror.is (if-err c.tell_mirror.result (λ ended f. f (g.P.Pipe.story c.args.pipe.now) c.args.run.now.left) c.tell_mirror.ensures.ends)

pub returns-in-Ask-clause-tells : goal.returns-in-Ask-clause-tells
returns-in-Ask-clause-tells g c =
    if-err c.ask_line.result (λ ended f. f (g.W.Pipe.story c.args.out.now) c.args.line.now (rw c.in-Ask.is (refl, refl, search rules))) c.ask_line.ensures.tells

pub returns-in-Answers-clause-tells : goal.returns-in-Answers-clause-tells
returns-in-Answers-clause-tells g c =
    err-both c.until_answered.result (λ ended by f.
    turns-tell c.args.line.now _ (at (g.P.Pipe.story c.until_answered.new.pipe) (g.W.Pipe.story c.until_answered.new.out) c.until_answered.new.debugger c.until_answered.new.run.left) ended (λ place. rw c.in-Answers.is refl) by (λ done rest base k. f (done ++ c.args.line.now ∷ rest) done base (begins-line done rest c.args.line.now) (inl (next-is c.args.line.now line.Answers done rest c.in-Answers.is)) k)) c.until_answered.ensures.by_turn c.until_answered.ensures.ends

pub returns-in-Events-clause-tells : goal.returns-in-Events-clause-tells
returns-in-Events-clause-tells g c =
    err-both c.until_events.result (λ ended by f.
    turns-tell c.args.line.now _ (at (g.P.Pipe.story c.until_events.new.pipe) (g.W.Pipe.story c.until_events.new.out) c.until_events.new.debugger c.until_events.new.run.left) ended (λ place. rw c.in-Events.is refl) by (λ done rest base k. f (done ++ c.args.line.now ∷ rest) done base (begins-line done rest c.args.line.now) (next-is c.args.line.now (line.Events c.in-Events.count) done rest c.in-Events.is) k)) c.until_events.ensures.by_turn c.until_events.ensures.ends

pub returns-in-Mirror-clause-tells : goal.returns-in-Mirror-clause-tells
returns-in-Mirror-clause-tells g c =
    rw c.in-Mirror.is (err-both c.tell_mirror.result (λ ended by f. turns-tell line.Mirror _ (at (g.P.Pipe.story c.args.pipe.now) (g.W.Pipe.story c.tell_mirror.new.out) c.tell_mirror.new.debugger c.args.run.now.left) ended (λ place. refl) by (f (g.P.Pipe.story c.args.pipe.now) c.args.run.now.left)) c.tell_mirror.ensures.by_turn c.tell_mirror.ensures.ends)

pub returns-in-LoseTarget-clause-ends : goal.returns-in-LoseTarget-clause-ends
returns-in-LoseTarget-clause-ends g c =
    pair-ends c.args.line.now (g.P.Pipe.story c.args.pipe.now) (g.W.Pipe.story c.args.out.now) c.args.debugger.now c.lose.new.self c.args.run.now.left c.args.run.now.left
    (is-of-pair c.args.line.now c.in-LoseTarget.is) c.requires.known c.lose.ensures.lost

pub returns-in-LoseTarget-clause-tells : goal.returns-in-LoseTarget-clause-tells
returns-in-LoseTarget-clause-tells g c =
    pair-tells c.args.line.now (g.P.Pipe.story c.args.pipe.now) (g.W.Pipe.story c.args.out.now) c.args.debugger.now c.lose.new.self c.args.run.now.left
    (is-of-pair c.args.line.now c.in-LoseTarget.is) c.requires.known c.lose.ensures.lost
