use Rattle.jdwp_pair.proofs.Keeping.{begins-none, begins-open, begins-too}
use Rattle.jdwp_pair.proofs.following.attach_too.Goals as goal

pub returns-then-before : goal.returns-then-before
returns-then-before c = begins-open c.args.before c.args.behind c.args.debugger.now c.if-before.true

pub returns-then-not-behind : goal.returns-then-not-behind
returns-then-not-behind c = begins-none c.args.before c.args.behind c.args.debugger.now c.if-before.false c.if-not-behind.true

pub returns : goal.returns
returns c = begins-too c.args.before c.args.behind c.args.debugger.now c.begin_anew.new.debugger c.if-before.false c.if-not-behind.false c.begin_anew.ensures
