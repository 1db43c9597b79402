use Rattle.std.proofs.Common.{rules, IfErr, IfOk, List, inr, refl, subst, sym}
use Rattle.jdwp_layout.specs.Meanings.{DatumMeaning}
use Rattle.jdwp_layout.specs.declared.answer.Answer.{Answer}
use Rattle.jdwp_layout.specs.declared.answer.Answer.TheVariants.{Data as Carries}
use Rattle.jdwp_answer.specs.Shaped.{Converted, HasItems}
use Rattle.jdwp_client.specs.Clients.{AsksFor}
use Rattle.jdwp_client.specs.declared.errors.ReplyError.{ReplyError}
use Rattle.jdwp_client.specs.Replies.{FailsToAskFor}
use Rattle.jdwp_client.proofs.client.Client.ask_for.Goals as goal
use Rattle.jdwp_client.proofs.client.Client.ask_for.Goals.{in-Ok-Some, in-Ok-None, in-Err-of_data}

pub returns-in-Ok-Error-clause-err : goal.returns-in-Ok-Error-clause-err
returns-in-Ok-Error-clause-err g c =
    subst (λ (a : Answer). AsksFor g.P.Pipe.story c.args.command c.args.self.now a c.ask.new.self) c.in-Ok-Error.field-0-is c.in-Ok-Error.ensures.ok

pub returns-clause-ok : goal.returns-clause-ok
returns-clause-ok g c =
    let asked = subst (λ (a : Answer). AsksFor g.P.Pipe.story c.args.command c.args.self.now a c.ask.new.self) c.in-Ok-Data.field-0-is c.in-Ok-Data.ensures.ok in
    elim c.match-of_data.branch [
      | in-Ok-Some w ↦
          (let says = subst (Converted g.R.Reply.says (HasItems g.R.Reply.shape) c.in-Ok-Data.carried) w.in-Ok-Some.field-0-is w.in-Ok-Some.ensures in
          let told = subst (λ (xs : List DatumMeaning). AsksFor g.P.Pipe.story c.args.command c.args.self.now (Carries xs) c.ask.new.self) (sym says) asked in
          subst (λ r. IfOk r (λ reply. AsksFor g.P.Pipe.story c.args.command c.args.self.now (Carries (g.R.Reply.says reply)) c.ask.new.self)) (sym w.result-is) told)
      | in-Ok-None w ↦ search rules
      | in-Err-of_data w ↦ search rules
    ]

pub returns-clause-err : goal.returns-clause-err
returns-clause-err g c =
    let asked = subst (λ (a : Answer). AsksFor g.P.Pipe.story c.args.command c.args.self.now a c.ask.new.self) c.in-Ok-Data.field-0-is c.in-Ok-Data.ensures.ok in
    let fails = λ (e : ReplyError). FailsToAskFor g.P.Pipe.story (HasItems g.R.Reply.shape) c.args.command c.args.self.now e c.ask.new.self in
    elim c.match-of_data.branch [
      | in-Ok-Some w ↦ search rules
      | in-Ok-None w ↦
          (let others = subst (Converted g.R.Reply.says (HasItems g.R.Reply.shape) c.in-Ok-Data.carried) w.in-Ok-None.field-0-is w.in-Ok-None.ensures in
          subst (λ r. IfErr r fails) (sym w.result-is) (c.in-Ok-Data.carried, asked, others))
      | in-Err-of_data w ↦
          subst (λ r. IfErr r fails) (sym w.result-is) (inr (refl, (c.in-Ok-Data.carried, asked, tt)))
    ]
