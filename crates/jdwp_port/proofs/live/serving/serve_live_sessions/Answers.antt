use Rattle.std.proofs.Common.{rules, of_calls, ◌≡◌, Some, None}
use Rattle.jdwp_port.specs.LiveServed.{end_in, notice_in}
use Rattle.jdwp_port.proofs.LiveOnward.{none_yet, one_more, the_last, told_one, told_none, goes_onward}
use Rattle.jdwp_port.proofs.live.serving.serve_live_sessions.Goals as goal
use Rattle.jdwp_port.proofs.live.serving.serve_live_sessions.Goals.{in-Some, in_default}

pub returns-then-not-lives-clause-serves : goal.returns-then-not-lives-clause-serves
returns-then-not-lives-clause-serves g c = (c.args.tell, (none_yet _ _, search rules))

pub loop-init : goal.loop-init
loop-init g c = record { callable = c.requires.callable; served = none_yet _ _; lives = search rules; closed = c.requires.closed; listens = search rules }

pub returns-in-Some-end_in-clause-serves : goal.returns-in-Some-end_in-clause-serves
returns-in-Some-end_in-clause-serves g c =
    let i = c.loop.invariant in
    let ends : end_in c.in-Ok.happened ≡ Some c.in-Some-end_in.ended = search rules in
    elim c.match-notice_in.branch [
      | in-Some w ↦
          let tells : notice_in c.in-Ok.happened ≡ Some w.in-Some.notice = search rules in
          (c.match-notice_in.tell, the_last _ _ _ _ _ _ _ c.in-Ok.happened _ i.served i.lives i.closed c.in-Ok.ensures.happens c.lose.ensures.lost ends (told_one (λ f notice h. goal.F-step g f notice tt h) _ _ _ c.in-Ok.happened _ tells w.tell.ensures w.tell-is))
      | in_default w ↦
          let tells : notice_in c.in-Ok.happened ≡ None = search rules in
          (c.match-notice_in.tell, the_last _ _ _ _ _ _ _ c.in-Ok.happened _ i.served i.lives i.closed c.in-Ok.ensures.happens c.lose.ensures.lost ends (told_none (λ f notice h. goal.F-step g f notice tt h) _ _ c.in-Ok.happened tells w.tell-is))
    ]

pub returns-then-not-lives-2-clause-serves : goal.returns-then-not-lives-2-clause-serves
returns-then-not-lives-2-clause-serves g c =
    let i = c.loop.invariant in
    let ends : end_in c.in-Ok.happened ≡ None = search rules in
    elim c.match-notice_in.branch [
      | in-Some w ↦
          let tells : notice_in c.in-Ok.happened ≡ Some w.in-Some.notice = search rules in
          (c.match-notice_in.tell, (one_more _ _ _ _ _ _ c.in-Ok.happened i.served i.lives i.closed c.in-Ok.ensures.happens ends (told_one (λ f notice h. goal.F-step g f notice tt h) _ _ _ c.in-Ok.happened _ tells w.tell.ensures w.tell-is), search rules))
      | in_default w ↦
          let tells : notice_in c.in-Ok.happened ≡ None = search rules in
          (c.match-notice_in.tell, (one_more _ _ _ _ _ _ c.in-Ok.happened i.served i.lives i.closed c.in-Ok.ensures.happens ends (told_none (λ f notice h. goal.F-step g f notice tt h) _ _ c.in-Ok.happened tells w.tell-is), search rules))
    ]

pub loop-preserved : goal.loop-preserved
loop-preserved g c =
    let i = c.loop.invariant in
    let ends : end_in c.in-Ok.happened ≡ None = search rules in
    elim c.match-notice_in.branch [
      | in-Some w ↦
          let tells : notice_in c.in-Ok.happened ≡ Some w.in-Some.notice = search rules in
          record {
            callable = search of_calls;
            served = one_more _ _ _ _ _ _ c.in-Ok.happened i.served i.lives i.closed c.in-Ok.ensures.happens ends (told_one (λ f notice h. goal.F-step g f notice tt h) _ _ _ c.in-Ok.happened _ tells w.tell.ensures w.tell-is);
            lives = search rules;
            closed = c.in-Ok.ensures.closed (goes_onward c.in-Ok.happened ends);
            listens = c.in-Ok.ensures.listens;
          }
      | in_default w ↦
          let tells : notice_in c.in-Ok.happened ≡ None = search rules in
          record {
            callable = search rules;
            served = one_more _ _ _ _ _ _ c.in-Ok.happened i.served i.lives i.closed c.in-Ok.ensures.happens ends (told_none (λ f notice h. goal.F-step g f notice tt h) _ _ c.in-Ok.happened tells w.tell-is);
            lives = search rules;
            closed = c.in-Ok.ensures.closed (goes_onward c.in-Ok.happened ends);
            listens = c.in-Ok.ensures.listens;
          }
    ]
