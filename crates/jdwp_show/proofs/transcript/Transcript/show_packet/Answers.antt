use Rattle.std.proofs.Common.{◌++◌, ap, ◌∙◌, Option, List, codes}
use Rattle.jdwp_layout.specs.Shapes.{ItemShape}
use Rattle.jdwp_show.specs.MessageLines.{body_fault, body_text}
use Rattle.jdwp_show.proofs.SoundLemmas.{command_sound, reply_sound_by}
use Rattle.jdwp_show.proofs.TextLemmas.{joined_two, grows_as}
use Rattle.jdwp_show.proofs.transcript.Transcript.show_packet.Goals as goal

pub show_body-requires : goal.show_body-requires
show_body-requires c =
    let body = c.args.packet.now.body.now in
    ap (λ (l : Option (List ItemShape)). body_fault c.args.terms.sizes l body) c.request_layout.ensures ∙ command_sound c.args.terms c.args.waits c.args.sender c.args.packet.now.header body c.in-Command.set c.in-Command.number c.requires c.in-Command.is

pub show_body-requires-in-Some : goal.show_body-requires-in-Some
show_body-requires-in-Some c =
    let body = c.args.packet.now.body.now in
    ap (λ (l : Option (List ItemShape)). body_fault c.args.terms.sizes l body) c.reply_layout.ensures ∙ reply_sound_by c.args.terms c.in-Some.command c.args.sender c.args.packet.now.header body c.in-Reply.error (rw c.in-Some.is at c.requires) c.in-Reply.is

pub returns-in-Command : goal.returns-in-Command
returns-in-Command c =
    let body = c.args.packet.now.body.now in
    let data_there = ap (λ (l : Option (List ItemShape)). body_text c.args.terms.sizes l body ++ codes "\n") c.request_layout.ensures in
    rw c.in-Command.is (joined_two _ (codes "\n") c.push_command_start.ensures (grows_as data_there c.show_body.ensures))

pub returns-in-Some : goal.returns-in-Some
returns-in-Some c =
    let body = c.args.packet.now.body.now in
    let data_there = ap (λ (l : Option (List ItemShape)). body_text c.args.terms.sizes l body ++ codes "\n") c.reply_layout.ensures in
    rw (c.in-Reply.is, c.in-Some.is) (joined_two _ (codes "\n") c.push_reply_start.ensures (grows_as data_there c.show_body-in-Some.ensures))
