use Rattle.std.proofs.Common.{◌≡◌, ◌∙◌, ap, ◌++◌, [], ◌∷◌, sym, subst, false, None}
use Rattle.jdwp_action.specs.Actions.{Command}
use Rattle.jdwp_debugger.specs.Debuggers.{Debugger}
use Rattle.jdwp_debugger.specs.DebuggerTurns.{LearnedAll, command_at, command_of, reports}
use Rattle.jdwp_debugger.specs.Orders.{LearnedIn, has_bad_in, none_known}
use Rattle.jdwp_mirror.specs.KnownThreads.{count_in}
use Rattle.jdwp_mirror.specs.Messages.{Reply}
use Rattle.jdwp_mirror.specs.Mirrors.{Mirror, empty_mirror}
use Rattle.jdwp_debugger.proofs.Ordering.{may-learn}
use Rattle.jdwp_debugger.proofs.TurningLemmas.{learned-then}
use Rattle.jdwp_debugger.proofs.debugger.Debugger.learn_packets.Goals as goal

pub returns-clause-ok : goal.returns-clause-ok
returns-clause-ok c =
    let cs = c.args.composites.now in
    let ps = c.args.self.now.pending in
    let place = c.args.place in
    let command = c.at.result.1.now.command in
    let order = c.self.inside.order in
    let answer = c.args.answer.now in
    let middle = c.learn_each.new.mirror in
    let asked : command ≡ command_at place ps = sym (ap command_of c.at.ensures) ∙ ap (λ (d : Debugger). command_at place d.pending) c.self.view_is in
    let waited = subst (λ (m : Mirror). (has_bad_in order (count_in m.threads) (reports cs) ≡ false) × LearnedAll order m (reports cs) middle) c.new-mirror.ensures c.in_ok-learn_each.ensures.ok in
    let last = subst (λ (q : Command). LearnedIn order middle (Reply None q answer) c.learn_reply.new.mirror) asked (c.in_ok-learn_reply.ensures.ok None) in
    subst (λ (d : Debugger). (has_bad_in d.order none_known (reports cs) ≡ false) × LearnedAll d.order empty_mirror (reports cs ++ Reply None (command_at place ps) answer ∷ []) c.learn_reply.new.mirror) c.self.view_is
    (waited.0, learned-then order (reports cs) (Reply None (command_at place ps) answer) empty_mirror middle c.learn_reply.new.mirror waited.1 last)

pub learn_reply-requires : goal.learn_reply-requires
learn_reply-requires c =
    let cs = c.args.composites.now in
    let order = c.self.inside.order in
    let middle = c.learn_each.new.mirror in
    let waited = subst (λ (m : Mirror). (has_bad_in order (count_in m.threads) (reports cs) ≡ false) × LearnedAll order m (reports cs) middle) c.new-mirror.ensures c.in_ok-learn_each.ensures.ok in
    may-learn order (reports cs) middle waited.1
