use Rattle.std.proofs.Common.{◌∙◌, sym}
use Rattle.jdwp_draw.proofs.StreamLemmas.{debugger_next, debugger_none, target_next, target_none}
use Rattle.jdwp_draw.proofs.streams.Streams.next_shown.Goals.{in-Debugger+in_ok-next-in-Debugger, in-Target+in_ok-next-in-Target}
use Rattle.jdwp_draw.proofs.streams.Streams.next_shown.Goals as goal

pub returns-in_default : goal.returns-in_default
returns-in_default c =
    let line = c.args.line.now in
    let sender = c.sender_of-sender.result in
    elim c.match-sender.branch [
      | in-Debugger+in_ok-next-in-Debugger w ↦
          debugger_none line sender c.args.self.now c.match-sender.self _ _ c.sender_of-sender.ensures w.in-Debugger.is w.in_ok-next-in-Debugger.ensures (sym w.next-is ∙ c.in_default.is)
      | in-Target+in_ok-next-in-Target w ↦ target_none line sender c.args.self.now c.match-sender.self _ _ c.sender_of-sender.ensures w.in-Target.is w.in_ok-next-in-Target.ensures (sym w.next-is ∙ c.in_default.is)
    ]

pub returns : goal.returns
returns c =
    let line = c.args.line.now in
    let sender = c.sender_of-sender.result in
    let same = c.in_ok-line.ensures.ok in
    elim c.match-sender.branch [
      | in-Debugger+in_ok-next-in-Debugger w ↦
          debugger_next line _ sender c.args.self.now c.match-sender.self _ _ c.in-Some.message c.sender_of-sender.ensures w.in-Debugger.is w.in_ok-next-in-Debugger.ensures (sym w.next-is ∙ c.in-Some.is) w.self-is same
      | in-Target+in_ok-next-in-Target w ↦
          target_next line _ sender c.args.self.now c.match-sender.self _ _ c.in-Some.message c.sender_of-sender.ensures w.in-Target.is w.in_ok-next-in-Target.ensures (sym w.next-is ∙ c.in-Some.is) w.self-is same
    ]
