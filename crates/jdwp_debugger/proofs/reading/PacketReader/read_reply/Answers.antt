use Rattle.std.proofs.Common.{◌≡◌, ◌∙◌, ap, sym, subst, rules, slice_get, Option, Some, Result, Ok}
use Rattle.jdwp_wire.specs.Widths.{Widths}
use Rattle.jdwp_debugger.specs.declared.faults.DebuggerFault.TheVariants as code
use Rattle.jdwp_debugger.specs.declared.faults.DebuggerFault.{DebuggerFault}
use Rattle.jdwp_debugger.specs.Debuggers.{Asked}
use Rattle.jdwp_debugger.specs.DebuggerTurns.{news_meaning, reading}
use Rattle.jdwp_debugger.specs.PendingKept.{asked_of}
use Rattle.jdwp_debugger.specs.News.{Fails, News, Tells, answer_by, reply_to, required, unless_bad}
use Rattle.jdwp_debugger.proofs.NewsLemmas.{fails-answer, says-answer}
use Rattle.jdwp_debugger.proofs.reading.PacketReader.read_reply.Goals as goal

pub returns-in_err-answer-clause-value : goal.returns-in_err-answer-clause-value
returns-in_err-answer-clause-value c =
    let asked = asked_of (c.at.result.0, c.at.result.1.now) in
    let ps = c.args.self.now.pending.now in
    let place = c.args.place in
    let f = c.in_err-answer.field-0.0 in
    let there : slice_get ps place ≡ Some asked = c.at.ensures in
    let failed = subst (λ (w : Widths). Fails f (required code.BadReply (unless_bad asked.command (answer_by c.args.self.now.order w asked.command c.args.error c.args.bytes.now)))) c.widths.ensures c.in_err-answer.ensures.value in
    let h : Fails f (reply_to (reading c.args.self.now) c.args.error c.args.bytes.now place (slice_get ps place)) =
    subst (λ (found : Option Asked). Fails f (reply_to (reading c.args.self.now) c.args.error c.args.bytes.now place found)) (sym there) (fails-answer f c.args.self.now.parked.now place asked.ticket _ failed) in
    search rules

pub returns-clause-value : goal.returns-clause-value
returns-clause-value c =
    let asked = asked_of (c.at.result.0, c.at.result.1.now) in
    let ps = c.args.self.now.pending.now in
    let place = c.args.place in
    let there : slice_get ps place ≡ Some asked = c.at.ensures in
    let found = subst (λ (w : Widths). required code.BadReply (unless_bad asked.command (answer_by c.args.self.now.order w asked.command c.args.error c.args.bytes.now)) ≡ Ok c.in_ok-answer.answer) c.widths.ensures c.in_ok-answer.ensures.value in
    let said = ap (reply_to (reading c.args.self.now) c.args.error c.args.bytes.now place) there ∙ says-answer c.args.self.now.parked.now place asked.ticket _ c.in_ok-answer.answer found in
    subst (λ (s : Result News DebuggerFault). Tells news_meaning c.read_ticketed.result s) (sym said) c.read_ticketed.ensures.value
