use Rattle.std.proofs.Common.{rules}
use Rattle.jdwp_show.proofs.data_text.push_type_tag.Goals as goal

pub returns : goal.returns
returns c = search rules
