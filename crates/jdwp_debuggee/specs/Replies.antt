-- What the code's replies say.
use Rattle.jdwp_layout.specs.declared.answer.Answer.{Answer}
use Rattle.jdwp_layout.specs.declared.answer.Answer.TheVariants.{Error}
use Rattle.jdwp_action.specs.AnswerPackets.{sizes_answer}
use Rattle.jdwp_debuggee.specs.Answers.{done, int_answer, status_answer}
use Rattle.jdwp_debuggee.specs.declared.reply.Reply.{Reply}
use Rattle.jdwp_debuggee.specs.declared.reply.Reply.TheVariants as reply

abbrev pub reply_meaning : Reply → Answer
reply_meaning reply.Done = done
reply_meaning (reply.Number n) = int_answer n
reply_meaning (reply.Status count) = status_answer count
reply_meaning (reply.Sizes sizes) = sizes_answer sizes
reply_meaning (reply.Refused error) = Error error
