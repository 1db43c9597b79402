use Rattle.std.proofs.Common.{◌∙◌, ◌-◌, Ok, ap, length}
use Rattle.jdwp_target.specs.Targets.{Target}
use Rattle.jdwp_engine.specs.Sessions.{ReleasesNewest}
use Rattle.jdwp_engine.proofs.Runs.{newest-released, some-deferred, unreleased-ends}
use Rattle.jdwp_engine.proofs.Turns.{released-none}
use Rattle.jdwp_engine.specs.LiveRounds.{WantsToRelease, Writes}
use Rattle.jdwp_engine.proofs.Living.{release-on, release-over}
use Rattle.jdwp_engine.proofs.LiveRounding.{release-last, released-newest}
use Rattle.jdwp_engine.proofs.live.release_and_go.Goals as goal

pub returns-in-Ok-clause-goes : goal.returns-in-Ok-clause-goes
returns-in-Ok-clause-goes g c = λ e.
    let m = g.M.Machine.meaning in
    let old = c.args.target.now in
    let released : ReleasesNewest m old (Ok c.in-Ok.field-0) c.release.new.self = (c.requires.waits, rw c.deferred-newest.ensures.count at c.in-Ok.ensures.releases) in
    let is = newest-released m old c.release.new.self c.in-Ok.field-0 c.session.ensures.few c.requires.flows released in
    release-on m (g.P.LivePipe.story c.args.pipe.now) (g.P.LivePipe.story c.write_and_go.new.pipe) old c.release.new.self c.write_and_go.new.target (length old.deferred - 1)
    c.closes_for_a_reason.ensures c.requires.is_open c.session.ensures.few is (c.write_and_go.ensures.goes e)

pub returns-in-Ok-clause-ends : goal.returns-in-Ok-clause-ends
returns-in-Ok-clause-ends g c =
    let m = g.M.Machine.meaning in
    let old = c.args.target.now in
    let w = c.write_and_go.ensures in
    let released : ReleasesNewest m old (Ok c.in-Ok.field-0) c.release.new.self = (c.requires.waits, rw c.deferred-newest.ensures.count at c.in-Ok.ensures.releases) in
    let is = newest-released m old c.release.new.self c.in-Ok.field-0 c.session.ensures.few c.requires.flows released in
    release-over m (g.P.LivePipe.story c.args.pipe.now) (g.P.LivePipe.story c.write_and_go.new.pipe) old c.release.new.self c.write_and_go.new.target (length old.deferred - 1) c.write_and_go.result
    c.closes_for_a_reason.ensures c.requires.is_open c.session.ensures.few is w.ends w.done w.fails

pub returns-in-Ok-clause-turns : goal.returns-in-Ok-clause-turns
returns-in-Ok-clause-turns g c = λ e.
    let m = g.M.Machine.meaning in
    let old = c.args.target.now in
    let released : ReleasesNewest m old (Ok c.in-Ok.field-0) c.release.new.self = (c.requires.waits, rw c.deferred-newest.ensures.count at c.in-Ok.ensures.releases) in
    let is = newest-released m old c.release.new.self c.in-Ok.field-0 c.session.ensures.few c.requires.flows released in
    ap (λ (t : Target g.row.M.Denot). t.end.session.turns) (c.write_and_go.ensures.goes e).1.0 ∙ ap (λ (t : Target g.row.M.Denot). t.end.session.turns) is

pub returns-in-Ok-clause-round : goal.returns-in-Ok-clause-round
returns-in-Ok-clause-round g c = λ e before left.
    let m = g.M.Machine.meaning in
    let old = c.args.target.now in
    let on = c.write_and_go.ensures.goes e in
    let released : ReleasesNewest m old (Ok c.in-Ok.field-0) c.release.new.self = (c.requires.waits, rw c.deferred-newest.ensures.count at c.in-Ok.ensures.releases) in
    Writes c.release.new.self (g.P.LivePipe.story c.args.pipe.now) (released-newest m old c.release.new.self before (g.P.LivePipe.story c.args.pipe.now) c.in-Ok.field-0 c.requires.asks released
    (rw c.deferred-newest.ensures.count at (c.in-Ok.ensures.encoded), rw c.deferred-newest.ensures.count at (c.in-Ok.ensures.packets)) left) on.0 on.1

pub returns-in-Ok-clause-last : goal.returns-in-Ok-clause-last
returns-in-Ok-clause-last g c =
    let m = g.M.Machine.meaning in
    let old = c.args.target.now in
    let w = c.write_and_go.ensures in
    let released : ReleasesNewest m old (Ok c.in-Ok.field-0) c.release.new.self = (c.requires.waits, rw c.deferred-newest.ensures.count at c.in-Ok.ensures.releases) in
    release-last m old c.release.new.self c.write_and_go.new.target (g.P.LivePipe.story c.args.pipe.now) (g.P.LivePipe.story c.write_and_go.new.pipe) c.write_and_go.result c.in-Ok.field-0
    c.requires.asks released (rw c.deferred-newest.ensures.count at (c.in-Ok.ensures.encoded), rw c.deferred-newest.ensures.count at (c.in-Ok.ensures.packets)) w.ends w.done w.fails

pub returns-in-Err-clause-ends : goal.returns-in-Err-clause-ends
returns-in-Err-clause-ends g c =
    let m = g.M.Machine.meaning in
    let old = c.args.target.now in
    let none = released-none m _ old c.release.new.self _ c.in-Err.field-0 c.in-Err.ensures.releases in
    unreleased-ends m (g.P.LivePipe.story c.args.pipe.now).through old c.release.new.self (some-deferred old c.requires.waits) none.1

pub returns-in-Err-clause-last : goal.returns-in-Err-clause-last
returns-in-Err-clause-last g c = λ before left.
    let m = g.M.Machine.meaning in
    let old = c.args.target.now in
    let none = released-none m _ old c.release.new.self _ c.in-Err.field-0 c.in-Err.ensures.releases in
    let wants = rw (c.deferred-newest.ensures.count, none.0) at c.in-Err.ensures.releases in
    WantsToRelease c.requires.asks (c.requires.waits, wants) left
