use Rattle.std.proofs.Common.{◌≡◌, ◌∙◌, [], Some, ap, refl, sym}
use Rattle.jdwp_target.specs.Deeds.{acts_in}
use Rattle.jdwp_target.specs.Standings.{handled}
use Rattle.jdwp_target.specs.Targets.{Target}
use Rattle.jdwp_engine.specs.declared.pipes.pipe.Patience.TheVariants.{Step}
use Rattle.jdwp_engine.specs.LiveStory.{LiveStory, with_read}
use Rattle.jdwp_engine.proofs.Established.{established-where, greeted-at}
use Rattle.jdwp_engine.proofs.Living.{nothing-on, nothing-over, read-on, read-over}
use Rattle.jdwp_engine.proofs.LiveRounding.{behind-nothing, reads-first, reads-last}
use Rattle.jdwp_engine.proofs.live.read_or_step.Goals as goal

pub returns-in-Some-clause-goes : goal.returns-in-Some-clause-goes
returns-in-Some-clause-goes g c = λ e.
    read-on c.patience_at.result (g.P.LivePipe.story c.args.pipe.now) (g.P.LivePipe.story c.read_and_go.new.pipe) c.args.target.now c.args.target.now c.read_and_go.new.target
    refl (c.read_and_go.ensures.goes (c.in-Some.is ∙ ap Some e))

pub returns-in-Some-clause-ends : goal.returns-in-Some-clause-ends
returns-in-Some-clause-ends g c =
    read-over g.M.Machine.meaning c.patience_at.result (g.P.LivePipe.story c.args.pipe.now) (g.P.LivePipe.story c.read_and_go.new.pipe) c.args.target.now c.args.target.now c.read_and_go.new.target
    c.in-Some.next c.session.ensures.ran c.requires.is_open c.requires.flows c.requires.asks c.requires.none refl c.in-Some.ensures.ends

pub returns-in-Some-clause-turns : goal.returns-in-Some-clause-turns
returns-in-Some-clause-turns g c = λ e.
    ap (λ (t : Target g.row.M.Denot). t.end.session.turns) (c.read_and_go.ensures.goes (c.in-Some.is ∙ ap Some e)).2

pub returns-in-Some-clause-round : goal.returns-in-Some-clause-round
returns-in-Some-clause-round g c = λ e before left.
    let ran = c.session.ensures.ran in
    let session = established-where c.args.target.now.end (handled (acts_in ran.deeds)) c.args.greeted ran.carries c.requires.is_open c.requires.greeted in
    let reads = rw c.patience_at.ensures at c.read_and_go.ensures.goes in
    reads-first g.M.Machine.meaning c.args.target.now c.read_and_go.new.target (g.P.LivePipe.story c.args.pipe.now) (g.P.LivePipe.story c.read_and_go.new.pipe) c.args.greeted
    (c.requires.asks, c.requires.none) session (reads (c.in-Some.is ∙ ap Some e)) before left

pub returns-in-Some-clause-last : goal.returns-in-Some-clause-last
returns-in-Some-clause-last g c =
    let ran = c.session.ensures.ran in
    let session = established-where c.args.target.now.end (handled (acts_in ran.deeds)) c.args.greeted ran.carries c.requires.is_open c.requires.greeted in
    let ends = rw c.patience_at.ensures at c.in-Some.ensures.ends in
    reads-last g.M.Machine.meaning c.args.target.now c.read_and_go.new.target (g.P.LivePipe.story c.args.pipe.now) (g.P.LivePipe.story c.read_and_go.new.pipe) c.args.greeted c.in-Some.next
    (c.requires.asks, c.requires.none) session ends

pub step_or_wait-requires-clause-is_open : goal.step_or_wait-requires-clause-is_open
step_or_wait-requires-clause-is_open g c = rw (c.read_and_go.ensures.nothing c.in-None.is).1 c.requires.is_open

pub step_or_wait-requires-clause-established : goal.step_or_wait-requires-clause-established
step_or_wait-requires-clause-established g c =
    let ran = c.session.ensures.ran in
    let session = established-where c.args.target.now.end (handled (acts_in ran.deeds)) c.args.greeted ran.carries c.requires.is_open c.requires.greeted in
    let nothing = c.read_and_go.ensures.nothing c.in-None.is in
    let greeted = greeted-at c.args.greeted (sym c.patience_at.ensures ∙ nothing.0) in
    rw nothing.1 (session ∙ greeted)

pub step_or_wait-requires-clause-asks : goal.step_or_wait-requires-clause-asks
step_or_wait-requires-clause-asks g c = rw (c.read_and_go.ensures.nothing c.in-None.is).1 c.requires.asks

pub step_or_wait-requires-clause-flows : goal.step_or_wait-requires-clause-flows
step_or_wait-requires-clause-flows g c = rw (c.read_and_go.ensures.nothing c.in-None.is).1 c.requires.flows

pub step_or_wait-requires-clause-room : goal.step_or_wait-requires-clause-room
step_or_wait-requires-clause-room g c = rw (c.read_and_go.ensures.nothing c.in-None.is).1 c.requires.room

pub step_or_wait-requires-clause-none : goal.step_or_wait-requires-clause-none
step_or_wait-requires-clause-none g c = rw (c.read_and_go.ensures.nothing c.in-None.is).1 c.requires.none

pub step_or_wait-requires-clause-left : goal.step_or_wait-requires-clause-left
step_or_wait-requires-clause-left g c = rw (c.read_and_go.ensures.nothing c.in-None.is).2 c.requires.left

pub returns-in-None-clause-goes : goal.returns-in-None-clause-goes
returns-in-None-clause-goes g c = λ e.
    let nothing = c.read_and_go.ensures.nothing c.in-None.is in
    let goes = c.step_or_wait.ensures.goes e in
    nothing-on (g.P.LivePipe.story c.args.pipe.now).through (g.P.LivePipe.story c.read_and_go.new.pipe).through (g.P.LivePipe.story c.step_or_wait.new.pipe).through
    c.args.target.now c.step_or_wait.new.target (ap (λ (s : LiveStory). s.through) nothing.2) (rw nothing.1 at goes)

pub returns-in-None-clause-ends : goal.returns-in-None-clause-ends
returns-in-None-clause-ends g c =
    let nothing = c.read_and_go.ensures.nothing c.in-None.is in
    let ends = c.step_or_wait.ensures.ends in
    nothing-over g.M.Machine.meaning (g.P.LivePipe.story c.args.pipe.now).through (g.P.LivePipe.story c.read_and_go.new.pipe).through (g.P.LivePipe.story c.step_or_wait.new.pipe).through
    c.args.target.now c.step_or_wait.new.target c.step_or_wait.result (ap (λ (s : LiveStory). s.through) nothing.2) (rw nothing.1 at ends)

pub returns-in-None-clause-turns : goal.returns-in-None-clause-turns
returns-in-None-clause-turns g c = λ e.
    let nothing = c.read_and_go.ensures.nothing c.in-None.is in
    c.step_or_wait.ensures.turns e ∙ ap (λ (t : Target g.row.M.Denot). t.end.session.turns) nothing.1

pub returns-in-None-clause-round : goal.returns-in-None-clause-round
returns-in-None-clause-round g c = λ e before left.
    let nothing = c.read_and_go.ensures.nothing c.in-None.is in
    let at : g.P.LivePipe.story c.read_and_go.new.pipe ≡ with_read Step [] (g.P.LivePipe.story c.args.pipe.now) = rw nothing.0 at nothing.2 in
    let round = c.step_or_wait.ensures.round e before (at ∙ ap (λ (s : LiveStory). with_read Step [] s) left) in
    rw nothing.1 at round

pub returns-in-None-clause-last : goal.returns-in-None-clause-last
returns-in-None-clause-last g c =
    let nothing = c.read_and_go.ensures.nothing c.in-None.is in
    let at : g.P.LivePipe.story c.read_and_go.new.pipe ≡ with_read Step [] (g.P.LivePipe.story c.args.pipe.now) = rw nothing.0 at nothing.2 in
    let last = c.step_or_wait.ensures.last in
    behind-nothing g.M.Machine.meaning c.args.target.now c.step_or_wait.new.target (g.P.LivePipe.story c.args.pipe.now) (g.P.LivePipe.story c.read_and_go.new.pipe) (g.P.LivePipe.story c.step_or_wait.new.pipe)
    c.step_or_wait.result at (rw nothing.1 at last)
