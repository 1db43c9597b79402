use Rattle.std.proofs.Common.{◌≡◌, ap, refl, rules}
use Rattle.jdwp_engine.proofs.Runs.{flush-ends, flushed-goes}
use Rattle.jdwp_engine.specs.LiveStory.{LiveStory, flushed}
use Rattle.jdwp_engine.specs.LiveRounds.{CantFlush}
use Rattle.jdwp_engine.proofs.Living.{flushed-over}
use Rattle.jdwp_engine.proofs.LiveRounding.{behind-last}
use Rattle.jdwp_engine.proofs.live.flush_and_go.Goals as goal

pub returns-then-not-flush_all-clause-ends : goal.returns-then-not-flush_all-clause-ends
returns-then-not-flush_all-clause-ends g c =
    let fails = c.if-not-flush_all.ensures.fails refl in
    rw c.lose.ensures.lost
    (flush-ends g.M.Machine.meaning (g.P.LivePipe.story c.args.pipe.now).through (g.P.LivePipe.story c.flush_all.new.pipe).through c.args.target.now c.session.ensures.ran fails.0)

pub read_or_step-requires-clause-left : goal.read_or_step-requires-clause-left
read_or_step-requires-clause-left g c =
    let left : g.P.LivePipe.story c.flush_all.new.pipe ≡ flushed (g.P.LivePipe.story c.args.pipe.now) = c.if-not-flush_all.ensures.all (search rules) in
    rw left refl

pub returns-then-not-flush_all-clause-last : goal.returns-then-not-flush_all-clause-last
returns-then-not-flush_all-clause-last g c = CantFlush c.requires.asks (c.if-not-flush_all.ensures.fails refl) c.lose.ensures.lost

pub returns-then-deferred-gt0-clause-goes : goal.returns-then-deferred-gt0-clause-goes
returns-then-deferred-gt0-clause-goes g c = λ e.
    let left : g.P.LivePipe.story c.flush_all.new.pipe ≡ flushed (g.P.LivePipe.story c.args.pipe.now) = c.if-not-flush_all.ensures.all (search rules) in
    flushed-goes (g.P.LivePipe.story c.args.pipe.now).through (g.P.LivePipe.story c.flush_all.new.pipe).through (g.P.LivePipe.story c.release_and_go.new.pipe).through
    c.args.target.now c.release_and_go.new.target (ap (λ (s : LiveStory). s.through) left) (c.release_and_go.ensures.goes e)

pub returns-then-deferred-gt0-clause-ends : goal.returns-then-deferred-gt0-clause-ends
returns-then-deferred-gt0-clause-ends g c =
    let left : g.P.LivePipe.story c.flush_all.new.pipe ≡ flushed (g.P.LivePipe.story c.args.pipe.now) = c.if-not-flush_all.ensures.all (search rules) in
    flushed-over g.M.Machine.meaning (g.P.LivePipe.story c.args.pipe.now).through (g.P.LivePipe.story c.flush_all.new.pipe).through (g.P.LivePipe.story c.release_and_go.new.pipe).through
    c.args.target.now c.release_and_go.new.target c.release_and_go.result (ap (λ (s : LiveStory). s.through) left) c.release_and_go.ensures.ends

pub returns-then-deferred-gt0-clause-round : goal.returns-then-deferred-gt0-clause-round
returns-then-deferred-gt0-clause-round g c = λ e.
    c.release_and_go.ensures.round e (g.P.LivePipe.story c.args.pipe.now) (c.if-not-flush_all.ensures.all (search rules))

pub returns-then-deferred-gt0-clause-last : goal.returns-then-deferred-gt0-clause-last
returns-then-deferred-gt0-clause-last g c =
    let left : g.P.LivePipe.story c.flush_all.new.pipe ≡ flushed (g.P.LivePipe.story c.args.pipe.now) = c.if-not-flush_all.ensures.all (search rules) in
    behind-last g.M.Machine.meaning c.args.target.now c.release_and_go.new.target (g.P.LivePipe.story c.args.pipe.now) (g.P.LivePipe.story c.flush_all.new.pipe) (g.P.LivePipe.story c.release_and_go.new.pipe)
    c.release_and_go.result left c.release_and_go.ensures.last

pub returns-else-deferred-gt0-clause-goes : goal.returns-else-deferred-gt0-clause-goes
returns-else-deferred-gt0-clause-goes g c = λ e.
    let left : g.P.LivePipe.story c.flush_all.new.pipe ≡ flushed (g.P.LivePipe.story c.args.pipe.now) = c.if-not-flush_all.ensures.all (search rules) in
    flushed-goes (g.P.LivePipe.story c.args.pipe.now).through (g.P.LivePipe.story c.flush_all.new.pipe).through (g.P.LivePipe.story c.read_or_step.new.pipe).through
    c.args.target.now c.read_or_step.new.target (ap (λ (s : LiveStory). s.through) left) (c.read_or_step.ensures.goes e)

pub returns-else-deferred-gt0-clause-ends : goal.returns-else-deferred-gt0-clause-ends
returns-else-deferred-gt0-clause-ends g c =
    let left : g.P.LivePipe.story c.flush_all.new.pipe ≡ flushed (g.P.LivePipe.story c.args.pipe.now) = c.if-not-flush_all.ensures.all (search rules) in
    flushed-over g.M.Machine.meaning (g.P.LivePipe.story c.args.pipe.now).through (g.P.LivePipe.story c.flush_all.new.pipe).through (g.P.LivePipe.story c.read_or_step.new.pipe).through
    c.args.target.now c.read_or_step.new.target c.read_or_step.result (ap (λ (s : LiveStory). s.through) left) c.read_or_step.ensures.ends

pub returns-else-deferred-gt0-clause-round : goal.returns-else-deferred-gt0-clause-round
returns-else-deferred-gt0-clause-round g c = λ e.
    c.read_or_step.ensures.round e (g.P.LivePipe.story c.args.pipe.now) (c.if-not-flush_all.ensures.all (search rules))

pub returns-else-deferred-gt0-clause-last : goal.returns-else-deferred-gt0-clause-last
returns-else-deferred-gt0-clause-last g c =
    let left : g.P.LivePipe.story c.flush_all.new.pipe ≡ flushed (g.P.LivePipe.story c.args.pipe.now) = c.if-not-flush_all.ensures.all (search rules) in
    behind-last g.M.Machine.meaning c.args.target.now c.read_or_step.new.target (g.P.LivePipe.story c.args.pipe.now) (g.P.LivePipe.story c.flush_all.new.pipe) (g.P.LivePipe.story c.read_or_step.new.pipe)
    c.read_or_step.result left c.read_or_step.ensures.last
