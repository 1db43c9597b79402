use Rattle.std.proofs.Common.{append_assoc, codes}
use Rattle.jdwp_show.specs.MessageLines.{mark}
use Rattle.jdwp_show.proofs.TextLemmas.{joined, grows_as}
use Rattle.jdwp_show.proofs.message_text.push_hello.Goals as goal

pub returns : goal.returns
returns c = grows_as (append_assoc (mark c.args.sender) (codes " ") _) (joined c.push_mark.ensures c.push_str.ensures.grows)
