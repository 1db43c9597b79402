use Rattle.std.proofs.Common.{rules}
use Rattle.jdwp_draw.specs.Messages.{messages_of}
use Rattle.jdwp_draw.specs.Told.{widths_told}
use Rattle.jdwp_draw.proofs.Follows.{all_shown, first_of_shown}
use Rattle.jdwp_draw.proofs.picture.Picture.read.Goals as goal

pub returns-clause-whole : goal.returns-clause-whole
returns-clause-whole c = all_shown (widths_told (messages_of c.args.text.now)) c.args.text.now _ (search rules)

pub returns-clause-lines : goal.returns-clause-lines
returns-clause-lines c = first_of_shown (widths_told (messages_of c.args.text.now)) c.args.text.now _ (search rules)
