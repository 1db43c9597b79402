use Rattle.std.proofs.Common.{sym, subst}
use Rattle.jdwp_layout.specs.declared.answer.Answer.{Answer}
use Rattle.jdwp_layout.specs.declared.answer.Answer.TheVariants.{Error}
use Rattle.jdwp_mirror.specs.Messages.{Reply}
use Rattle.jdwp_mirror.specs.Mirrors.{Mirror, Learned}
use Rattle.jdwp_mirror.specs.KnownThreads.{AreSound}
use Rattle.jdwp_mirror.proofs.Learning.{learned-by_error, learned-by_data}
use Rattle.jdwp_mirror.proofs.mirror.Mirror.learn_reply.Goals as goal

pub returns-in-Error-clause-ok : goal.returns-in-Error-clause-ok
returns-in-Error-clause-ok c = λ ticket.
    let sound = subst (λ (m : Mirror). AreSound m.threads) c.self.view_is c.are_sound.ensures in
    let learned = learned-by_error ticket c.args.command.now c.in-Error.error c.args.self.now sound in
    subst (λ (a : Answer). Learned c.args.self.now (Reply ticket c.args.command.now a) c.learn_error.new.self) (sym c.in-Error.is)
    (subst (λ (m : Mirror). Learned c.args.self.now (Reply ticket c.args.command.now (Error c.in-Error.error)) m) (sym c.learn_error.ensures) learned)

pub returns-in_ok-learn_data-in-Data-clause-ok : goal.returns-in_ok-learn_data-in-Data-clause-ok
returns-in_ok-learn_data-in-Data-clause-ok c = λ ticket.
    let sound = subst (λ (m : Mirror). AreSound m.threads) c.self.view_is c.are_sound.ensures in
    subst (λ (a : Answer). Learned c.args.self.now (Reply ticket c.args.command.now a) c.learn_data.new.self) (sym c.in-Data.is)
    (learned-by_data ticket c.args.command.now c.in-Data.reply c.args.self.now _ sound c.in_ok-learn_data-in-Data.ensures.threads c.in_ok-learn_data-in-Data.ensures.requests)
