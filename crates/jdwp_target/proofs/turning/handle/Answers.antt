use Rattle.jdwp_debuggee.specs.Askings.{action_meaning}
use Rattle.jdwp_target.specs.declared.turning.Done.{Done}
use Rattle.jdwp_target.proofs.AnswersEncoded.{carried-encoded, refused-encoded}
use Rattle.jdwp_target.proofs.RightTurns.{closes-by, done-carried, done-refused}
use Rattle.jdwp_target.proofs.turning.handle.Goals as goal

pub returns-in-Refuses-clause-ok : goal.returns-in-Refuses-clause-ok
returns-in-Refuses-clause-ok g c = λ set number body read.
    rw c.refused.ensures (done-refused g.M.Machine.meaning c.args.debuggee.now _ set number body c.in-Refuses.error (rw c.in-Refuses.is at read))

pub returns-in_ok-sent-in-Carries-clause-ok : goal.returns-in_ok-sent-in-Carries-clause-ok
returns-in_ok-sent-in-Carries-clause-ok g c = λ set number body read.
    let done : Done = record { sent = c.in_ok-sent-in-Carries.sent; dies = c.kills-dies.result; closes = c.closes-closes.result } in
    let closes = closes-by (action_meaning c.in-Carries.action) c.closes-closes.result c.closes-closes.ensures.dispose c.closes-closes.ensures.exit c.closes-closes.ensures.other in
    done-carried g.M.Machine.meaning c.args.debuggee.now c.carry_out.new.self set number body c.in-Carries.action done
    (rw c.in-Carries.is at read) (record { dies = c.kills-dies.ensures; closes = closes }) c.requires c.in_ok-sent-in-Carries.ensures.ok

pub returns-in-Refuses-clause-encoded : goal.returns-in-Refuses-clause-encoded
returns-in-Refuses-clause-encoded g c = λ set number body read.
    let old = c.args.debuggee.now in
    refused-encoded g.M.Machine.meaning old.settings old.moment (g.M.Machine.meaning.sizes old.moment.machine) set number body c.in-Refuses.error
    (rw c.in-Refuses.is at read)

pub returns-in_ok-sent-in-Carries-clause-encoded : goal.returns-in_ok-sent-in-Carries-clause-encoded
returns-in_ok-sent-in-Carries-clause-encoded g c = λ set number body read.
    let old = c.args.debuggee.now in
    carried-encoded g.M.Machine.meaning old.settings old.moment (g.M.Machine.meaning.sizes old.moment.machine) set number body c.in-Carries.action
    (rw c.in-Carries.is at read) c.requires c.in_ok-sent-in-Carries.ensures.encoded c.own_answers.ensures
