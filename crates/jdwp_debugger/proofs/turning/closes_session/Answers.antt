use Rattle.std.proofs.Common.{◌∙◌, ap, sym}
use Rattle.jdwp_mirror.specs.Mirror.{ends_reply}
use Rattle.jdwp_debugger.proofs.TurningLemmas.{disposes}
use Rattle.jdwp_debugger.proofs.turning.closes_session.Goals as goal

pub returns-in-Data : goal.returns-in-Data
returns-in-Data c = λ ticket.
    let command = c.args.command.now in
    c.is_of_dispose.ensures ∙ disposes command ∙ ap (ends_reply command) (sym c.in-Data.is)
