use Rattle.std.proofs.Common.{◌≡◌, false, subst}
use Rattle.jdwp_action.specs.Actions.{Command, action_of}
use Rattle.jdwp_debuggee.specs.Debuggees.{Debuggee}
use Rattle.jdwp_debuggee.specs.Effects.{carried}
use Rattle.jdwp_action.specs.AnswerPackets.{EncodesAnswer}
use Rattle.jdwp_debuggee.specs.Sending.{is_question}
use Rattle.jdwp_debuggee.proofs.Encoded.{own-encoded}
use Rattle.jdwp_debuggee.proofs.debuggee.Debuggee.own_answers.Goals as goal

pub returns : goal.returns
returns g c =
    let m = g.M.Machine.meaning in
    subst (λ (x : Debuggee g.row.M.Denot). (asked : Command) → is_question (action_of asked) ≡ false
    → EncodesAnswer (m.sizes x.moment.machine) asked.set asked.number (carried m x.settings x.moment asked (action_of asked)).answer) c.self.view_is
    (λ asked own. own-encoded m g.met.M.Machine.lawful _ c.self.invariant asked own)
