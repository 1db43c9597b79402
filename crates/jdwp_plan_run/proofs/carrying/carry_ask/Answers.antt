use Rattle.std.specs.Prelude.{string_bytes}
use Rattle.std.specs.Option.{option_map}
use Rattle.jdwp_plan_run.specs.RunsKept.{running}
use Rattle.jdwp_plan_run.proofs.RunLaws.{ask-stops, asked, if-err, on-ok, print-stops-ask}
use Rattle.jdwp_plan_run.proofs.carrying.carry_ask.Goals as goal

pub returns-in-Ok-clause-ok : goal.returns-in-Ok-clause-ok
returns-in-Ok-clause-ok g c =
    on-ok c.tell_answer.result
    (λ h. asked g.P.Pipe.story c.args.set c.args.number (option_map string_bytes c.args.text.now) c.in-Ok.answer c.args.client.now c.answer_to.new.client c.args.run.now c.tell_answer.new.run
    (g.W.Pipe.story c.args.out.now) (g.W.Pipe.story c.tell_answer.new.out) c.in-Ok.ensures.ok h) c.tell_answer.ensures.ok

pub returns-in-Ok-clause-err : goal.returns-in-Ok-clause-err
returns-in-Ok-clause-err g c =
    if-err c.tell_answer.result
    (λ s h. print-stops-ask g.P.Pipe.story c.args.set c.args.number (option_map string_bytes c.args.text.now)
    (running c.args.client.now c.args.run.now (g.W.Pipe.story c.args.out.now)) s c.answer_to.new.client h) c.tell_answer.ensures.err

pub returns-in-Err-clause-err : goal.returns-in-Err-clause-err
returns-in-Err-clause-err g c =
    ask-stops g.P.Pipe.story c.args.set c.args.number (option_map string_bytes c.args.text.now) (running c.args.client.now c.args.run.now (g.W.Pipe.story c.args.out.now)) c.in-Err.stop
    c.answer_to.new.client c.in-Err.ensures.err
