use Rattle.std.proofs.Common.{◌≡◌, refl, rules}
use Rattle.jdwp_end.specs.Story.{flushed}
use Rattle.jdwp_engine.specs.Sessions.{CantFlush}
use Rattle.jdwp_engine.proofs.Rounding.{flushed-last}
use Rattle.jdwp_engine.proofs.Runs.{flush-ends, flushed-ends, flushed-goes}
use Rattle.jdwp_engine.proofs.serving.flush_and_go.Goals as goal

pub returns-then-not-flush_all-clause-ends : goal.returns-then-not-flush_all-clause-ends
returns-then-not-flush_all-clause-ends g c =
    let fails = c.if-not-flush_all.ensures.fails refl in
    rw c.lose.ensures.lost (flush-ends g.M.Machine.meaning (g.P.Pipe.story c.args.pipe.now) (g.P.Pipe.story c.flush_all.new.pipe) c.args.target.now c.session.ensures.ran fails)

pub step_or_read-requires-clause-left : goal.step_or_read-requires-clause-left
step_or_read-requires-clause-left g c =
    let left : g.P.Pipe.story c.flush_all.new.pipe ≡ flushed (g.P.Pipe.story c.args.pipe.now) = c.if-not-flush_all.ensures.all (search rules) in
    rw left refl

pub returns-then-not-flush_all-clause-last : goal.returns-then-not-flush_all-clause-last
returns-then-not-flush_all-clause-last g c = CantFlush c.requires.asks (c.if-not-flush_all.ensures.fails refl) c.lose.ensures.lost

pub returns-then-deferred-gt0-clause-goes : goal.returns-then-deferred-gt0-clause-goes
returns-then-deferred-gt0-clause-goes g c = λ e.
    let left : g.P.Pipe.story c.flush_all.new.pipe ≡ flushed (g.P.Pipe.story c.args.pipe.now) = c.if-not-flush_all.ensures.all (search rules) in
    flushed-goes (g.P.Pipe.story c.args.pipe.now) (g.P.Pipe.story c.flush_all.new.pipe) (g.P.Pipe.story c.release_and_go.new.pipe) c.args.target.now c.release_and_go.new.target
    left (c.release_and_go.ensures.goes e)

pub returns-then-deferred-gt0-clause-ends : goal.returns-then-deferred-gt0-clause-ends
returns-then-deferred-gt0-clause-ends g c =
    let left : g.P.Pipe.story c.flush_all.new.pipe ≡ flushed (g.P.Pipe.story c.args.pipe.now) = c.if-not-flush_all.ensures.all (search rules) in
    flushed-ends g.M.Machine.meaning (g.P.Pipe.story c.args.pipe.now) (g.P.Pipe.story c.flush_all.new.pipe) (g.P.Pipe.story c.release_and_go.new.pipe) c.args.target.now c.release_and_go.new.target
    c.release_and_go.result left c.release_and_go.ensures.ends

pub returns-then-deferred-gt0-clause-round : goal.returns-then-deferred-gt0-clause-round
returns-then-deferred-gt0-clause-round g c = λ e.
    c.release_and_go.ensures.round e (g.P.Pipe.story c.args.pipe.now) (c.if-not-flush_all.ensures.all (search rules))

pub returns-then-deferred-gt0-clause-last : goal.returns-then-deferred-gt0-clause-last
returns-then-deferred-gt0-clause-last g c =
    let left : g.P.Pipe.story c.flush_all.new.pipe ≡ flushed (g.P.Pipe.story c.args.pipe.now) = c.if-not-flush_all.ensures.all (search rules) in
    flushed-last g.M.Machine.meaning c.args.target.now c.release_and_go.new.target (g.P.Pipe.story c.args.pipe.now) (g.P.Pipe.story c.flush_all.new.pipe) (g.P.Pipe.story c.release_and_go.new.pipe)
    c.release_and_go.result left c.release_and_go.ensures.last

pub returns-else-deferred-gt0-clause-goes : goal.returns-else-deferred-gt0-clause-goes
returns-else-deferred-gt0-clause-goes g c = λ e.
    let left : g.P.Pipe.story c.flush_all.new.pipe ≡ flushed (g.P.Pipe.story c.args.pipe.now) = c.if-not-flush_all.ensures.all (search rules) in
    flushed-goes (g.P.Pipe.story c.args.pipe.now) (g.P.Pipe.story c.flush_all.new.pipe) (g.P.Pipe.story c.step_or_read.new.pipe) c.args.target.now c.step_or_read.new.target
    left (c.step_or_read.ensures.goes e)

pub returns-else-deferred-gt0-clause-ends : goal.returns-else-deferred-gt0-clause-ends
returns-else-deferred-gt0-clause-ends g c =
    let left : g.P.Pipe.story c.flush_all.new.pipe ≡ flushed (g.P.Pipe.story c.args.pipe.now) = c.if-not-flush_all.ensures.all (search rules) in
    flushed-ends g.M.Machine.meaning (g.P.Pipe.story c.args.pipe.now) (g.P.Pipe.story c.flush_all.new.pipe) (g.P.Pipe.story c.step_or_read.new.pipe) c.args.target.now c.step_or_read.new.target
    c.step_or_read.result left c.step_or_read.ensures.ends

pub returns-else-deferred-gt0-clause-round : goal.returns-else-deferred-gt0-clause-round
returns-else-deferred-gt0-clause-round g c = λ e.
    c.step_or_read.ensures.round e (g.P.Pipe.story c.args.pipe.now) (c.if-not-flush_all.ensures.all (search rules))

pub returns-else-deferred-gt0-clause-last : goal.returns-else-deferred-gt0-clause-last
returns-else-deferred-gt0-clause-last g c =
    let left : g.P.Pipe.story c.flush_all.new.pipe ≡ flushed (g.P.Pipe.story c.args.pipe.now) = c.if-not-flush_all.ensures.all (search rules) in
    flushed-last g.M.Machine.meaning c.args.target.now c.step_or_read.new.target (g.P.Pipe.story c.args.pipe.now) (g.P.Pipe.story c.flush_all.new.pipe) (g.P.Pipe.story c.step_or_read.new.pipe)
    c.step_or_read.result left c.step_or_read.ensures.last
