use Rattle.std.proofs.Common.{◌≡◌, Bool, true, false, subst, sym, refl, rules}
use Rattle.jdwp_debugger.specs.declared.order.Order.{Order}
use Rattle.jdwp_pair.specs.Calls.{at}
use Rattle.jdwp_pair.specs.Followers.{Followed}
use Rattle.jdwp_pair.specs.Rounds.{ReadsWhatComes}
use Rattle.jdwp_pair.proofs.Keeping.{counting-ends}
use Rattle.jdwp_pair.proofs.Leading.{reads-lead}
use Rattle.jdwp_pair.proofs.parts.turn_debugger.Goals as goal

pub returns-then-not-handled-clause-turns : goal.returns-then-not-handled-clause-turns
returns-then-not-handled-clause-turns g c =
    let story = g.W.Pipe.story in
    let none : c.in-Ok.turned.handled ≡ false = search rules in
    let read = at c.read_turn.new.link c.read_turn.new.run (story c.read_turn.new.out) in
    (read, subst (λ (b : Bool). ReadsWhatComes g.M.Machine.meaning (at c.args.link.now c.args.run.now (story c.args.out.now)) b read) none c.in-Ok.ensures.turns, refl)

pub returns-then-not-handled-clause-followed : goal.returns-then-not-handled-clause-followed
returns-then-not-handled-clause-followed g c =
    subst (λ (o : Order). Followed g.M.Machine.meaning o c.read_turn.new.link c.read_turn.new.run.follower) (sym c.read_turn.ensures.order) (c.in-Ok.ensures.follows c.args.run.now.order c.requires.followed)

pub returns-in-Ok-ask_due-clause-turns : goal.returns-in-Ok-ask_due-clause-turns
returns-in-Ok-ask_due-clause-turns g c =
    let m = g.M.Machine.meaning in
    let story = g.W.Pipe.story in
    let some : c.in-Ok.turned.handled ≡ true = search rules in
    let read = at c.read_turn.new.link c.read_turn.new.run (story c.read_turn.new.out) in
    let followed = subst (λ (o : Order). Followed m o c.read_turn.new.link c.read_turn.new.run.follower) (sym c.read_turn.ensures.order) (c.in-Ok.ensures.follows c.args.run.now.order c.requires.followed) in (
      read,
      subst (λ (b : Bool). ReadsWhatComes m (at c.args.link.now c.args.run.now (story c.args.out.now)) b read) some c.in-Ok.ensures.turns,
      (c.ask_due.new.link, c.in-Ok-ask_due.ensures.counts c.read_turn.new.run.order followed, refl),
    )

pub returns-in-Ok-ask_due-clause-followed : goal.returns-in-Ok-ask_due-clause-followed
returns-in-Ok-ask_due-clause-followed g c =
    let m = g.M.Machine.meaning in
    let followed = subst (λ (o : Order). Followed m o c.read_turn.new.link c.read_turn.new.run.follower) (sym c.read_turn.ensures.order) (c.in-Ok.ensures.follows c.args.run.now.order c.requires.followed) in
    c.in-Ok-ask_due.ensures.follows c.read_turn.new.run.order followed

pub returns-in-Err-ask_due-clause-ends : goal.returns-in-Err-ask_due-clause-ends
returns-in-Err-ask_due-clause-ends g c =
    let m = g.M.Machine.meaning in
    let story = g.W.Pipe.story in
    let old = at c.args.link.now c.args.run.now (story c.args.out.now) in
    let read = at c.read_turn.new.link c.read_turn.new.run (story c.read_turn.new.out) in
    let followed = subst (λ (o : Order). Followed m o c.read_turn.new.link c.read_turn.new.run.follower) (sym c.read_turn.ensures.order) (c.in-Ok.ensures.follows c.args.run.now.order c.requires.followed) in
    counting-ends m old read c.ask_due.new.link (reads-lead m old read c.in-Ok.turned.handled c.in-Ok.ensures.turns) (c.in-Err-ask_due.ensures.stops c.read_turn.new.run.order followed)
