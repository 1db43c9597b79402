use Rattle.jdwp_show.proofs.TextLemmas.{all_raw}
use Rattle.jdwp_show.proofs.data_text.push_raw.Goals as goal

pub returns : goal.returns
returns c = all_raw c.args.bytes.now (cc) c.push_str.ensures.grows c.push_hex.ensures
