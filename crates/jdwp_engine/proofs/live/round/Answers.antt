use Rattle.std.proofs.Common.{◌<◌, arith, refl, sym}
use Rattle.std.proofs.lemmas.Bool.{lt-ltb}
use Rattle.jdwp_end.specs.Ends.{front_of}
use Rattle.jdwp_engine.proofs.Runs.{fault-next-ends, memory-next-ends}
use Rattle.jdwp_engine.proofs.Turns.{handled-Whole, nothing-More}
use Rattle.jdwp_engine.specs.LiveRounds.{Faults, Turns, WantsToTurn, Writes}
use Rattle.jdwp_engine.proofs.Living.{message-on, message-over}
use Rattle.jdwp_engine.proofs.LiveRounding.{writes-last}
use Rattle.jdwp_engine.proofs.live.round.Goals as goal

pub returns-in-Err-Frame-clause-ends : goal.returns-in-Err-Frame-clause-ends
returns-in-Err-Frame-clause-ends g c =
    let turned = rw c.in-Err-Frame.field-0-is at c.in-Err-Frame.ensures.turns in (
      λ h. cc,
      fault-next-ends g.M.Machine.meaning (g.P.LivePipe.story c.args.pipe.now).through c.args.target.now c.turn.new.self c.in-Err-Frame.fault c.number.result
          c.session.ensures.ran c.requires.is_open turned c.number.ensures,
    )

pub returns-in-Err-NoMemory-clause-ends : goal.returns-in-Err-NoMemory-clause-ends
returns-in-Err-NoMemory-clause-ends g c =
    let turned = rw c.in-Err-NoMemory.field-0-is at c.in-Err-NoMemory.ensures.turns in
    (λ h. cc, memory-next-ends g.M.Machine.meaning (g.P.LivePipe.story c.args.pipe.now).through c.args.target.now c.turn.new.self c.session.ensures.ran c.requires.is_open turned)

pub returns-in_default-clause-goes : goal.returns-in_default-clause-goes
returns-in_default-clause-goes g c = λ e.
    message-on g.M.Machine.meaning (g.P.LivePipe.story c.args.pipe.now) (g.P.LivePipe.story c.write_and_go.new.pipe) c.args.target.now c.turn.new.self c.write_and_go.new.target
    c.in-Ok.turn c.closes_for_a_reason.ensures c.requires.is_open c.session.ensures.bytes c.session.ensures.ran c.in-Ok.ensures.turns c.in_default.not-Nothing (c.write_and_go.ensures.goes e)

pub returns-in_default-clause-ends : goal.returns-in_default-clause-ends
returns-in_default-clause-ends g c =
    let w = c.write_and_go.ensures in
    message-over g.M.Machine.meaning (g.P.LivePipe.story c.args.pipe.now) (g.P.LivePipe.story c.write_and_go.new.pipe) c.args.target.now c.turn.new.self c.write_and_go.new.target
    c.in-Ok.turn c.write_and_go.result c.closes_for_a_reason.ensures c.requires.is_open c.session.ensures.bytes c.session.ensures.ran c.in-Ok.ensures.turns c.in_default.not-Nothing w.ends w.done w.fails

pub returns-in_default-clause-greeted : goal.returns-in_default-clause-greeted
returns-in_default-clause-greeted g c = λ e.
    let w = handled-Whole g.M.Machine.meaning (front_of c.args.target.now.end) c.args.target.now c.turn.new.self c.in-Ok.turn c.in-Ok.ensures.turns c.in_default.not-Nothing in
    let on = c.write_and_go.ensures.goes e in
    let some : 0 < c.write_and_go.new.target.end.session.turns = rw (on.1.0, w.3) (omega arith) in
    sym (lt-ltb 0 c.write_and_go.new.target.end.session.turns some)

pub flush_and_go-requires-clause-asks : goal.flush_and_go-requires-clause-asks
flush_and_go-requires-clause-asks g c =
    let more = nothing-More g.M.Machine.meaning (front_of c.args.target.now.end) c.args.target.now c.turn.new.self (rw c.in-Nothing.is at c.in-Ok.ensures.turns) in
    rw more.1 more.0

pub flush_and_go-requires-clause-room : goal.flush_and_go-requires-clause-room
flush_and_go-requires-clause-room g c =
    let more = nothing-More g.M.Machine.meaning (front_of c.args.target.now.end) c.args.target.now c.turn.new.self (rw c.in-Nothing.is at c.in-Ok.ensures.turns) in
    rw more.1 (c.session.ensures.room more.0 c.requires.is_open (c.session.ensures.flows c.requires.idle))

pub returns-in-Nothing-clause-goes : goal.returns-in-Nothing-clause-goes
returns-in-Nothing-clause-goes g c = λ e.
    let more = nothing-More g.M.Machine.meaning (front_of c.args.target.now.end) c.args.target.now c.turn.new.self (rw c.in-Nothing.is at c.in-Ok.ensures.turns) in
    let goes = c.flush_and_go.ensures.goes e in
    rw more.1 at goes

pub returns-in-Nothing-clause-greeted : goal.returns-in-Nothing-clause-greeted
returns-in-Nothing-clause-greeted g c = λ e.
    let more = nothing-More g.M.Machine.meaning (front_of c.args.target.now.end) c.args.target.now c.turn.new.self (rw c.in-Nothing.is at c.in-Ok.ensures.turns) in
    let same = c.flush_and_go.ensures.turns e in
    rw (same, more.1) c.requires.greeted

pub returns-in-Err-Frame-clause-last : goal.returns-in-Err-Frame-clause-last
returns-in-Err-Frame-clause-last g c =
    let turned = rw c.in-Err-Frame.field-0-is at c.in-Err-Frame.ensures.turns in
    rw c.number.ensures (Faults c.in-Err-Frame.fault turned refl)

pub returns-in-Err-NoMemory-clause-last : goal.returns-in-Err-NoMemory-clause-last
returns-in-Err-NoMemory-clause-last g c = WantsToTurn (rw c.in-Err-NoMemory.field-0-is at c.in-Err-NoMemory.ensures.turns) refl

pub returns-in_default-clause-round : goal.returns-in_default-clause-round
returns-in_default-clause-round g c = λ e.
    let on = c.write_and_go.ensures.goes e in
    Writes c.turn.new.self (g.P.LivePipe.story c.args.pipe.now) (Turns c.in-Ok.turn c.turn.new.self c.in_default.not-Nothing c.in-Ok.ensures.turns (c.in-Ok.ensures.encoded, c.in-Ok.ensures.packets)) on.0 on.1

pub returns-in_default-clause-last : goal.returns-in_default-clause-last
returns-in_default-clause-last g c =
    let w = c.write_and_go.ensures in
    writes-last g.M.Machine.meaning c.args.target.now c.turn.new.self c.write_and_go.new.target (g.P.LivePipe.story c.args.pipe.now) (g.P.LivePipe.story c.args.pipe.now) (g.P.LivePipe.story c.write_and_go.new.pipe)
    c.write_and_go.result (Turns c.in-Ok.turn c.turn.new.self c.in_default.not-Nothing c.in-Ok.ensures.turns (c.in-Ok.ensures.encoded, c.in-Ok.ensures.packets)) w.ends w.done w.fails

pub returns-in-Nothing-clause-round : goal.returns-in-Nothing-clause-round
returns-in-Nothing-clause-round g c = λ e.
    let more = nothing-More g.M.Machine.meaning (front_of c.args.target.now.end) c.args.target.now c.turn.new.self (rw c.in-Nothing.is at c.in-Ok.ensures.turns) in
    let on = c.flush_and_go.ensures.round e in
    rw more.1 at on

pub returns-in-Nothing-clause-last : goal.returns-in-Nothing-clause-last
returns-in-Nothing-clause-last g c =
    let more = nothing-More g.M.Machine.meaning (front_of c.args.target.now.end) c.args.target.now c.turn.new.self (rw c.in-Nothing.is at c.in-Ok.ensures.turns) in
    let on = c.flush_and_go.ensures.last in
    rw more.1 at on
