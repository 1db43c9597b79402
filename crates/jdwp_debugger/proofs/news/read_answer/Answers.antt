use Rattle.std.proofs.Common.{◌∙◌, sym, rules}
use Rattle.jdwp_debugger.specs.declared.faults.DebuggerFault.TheVariants as code
use Rattle.jdwp_debugger.specs.News.{Fails, answer_by, required, unless_bad}
use Rattle.jdwp_debugger.proofs.NewsLemmas.{fails-unless_bad, refused-if_bad, read-if_good}
use Rattle.jdwp_debugger.proofs.news.read_answer.Goals as goal

pub returns-in_err-answer-clause-value : goal.returns-in_err-answer-clause-value
returns-in_err-answer-clause-value c =
    let command = c.args.command.now in
    let found = answer_by c.args.order c.args.sizes.now command c.args.error c.args.bytes.now in
    let h : Fails c.in_err-answer.field-0.0 (required code.BadReply (unless_bad command found)) = fails-unless_bad _ command found c.in_err-answer.ensures.value in
    search rules

pub returns-then-is_bad_answer-clause-value : goal.returns-then-is_bad_answer-clause-value
returns-then-is_bad_answer-clause-value c =
    refused-if_bad c.args.command.now (answer_by c.args.order c.args.sizes.now c.args.command.now c.args.error c.args.bytes.now) _ c.in_ok-answer.ensures.value (sym c.is_bad_answer.ensures ∙ c.if-is_bad_answer.true)

pub returns-clause-value : goal.returns-clause-value
returns-clause-value c =
    read-if_good c.args.command.now (answer_by c.args.order c.args.sizes.now c.args.command.now c.args.error c.args.bytes.now) _ c.in_ok-answer.ensures.value (sym c.is_bad_answer.ensures ∙ c.if-is_bad_answer.false)
