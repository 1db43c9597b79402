use Rattle.std.proofs.Common.{sym, ap, ◌∙◌}
use Rattle.std.specs.List.{list_all}
use Rattle.jdwp_show.specs.DataText.{is_plain}
use Rattle.jdwp_show.proofs.TextLemmas.{grows_as, plain_text}
use Rattle.jdwp_show.proofs.data_text.push_characters.Goals as goal

pub returns-then-are_plain : goal.returns-then-are_plain
returns-then-are_plain c = grows_as (plain_text c.args.string.now c.utf8.string (ap (list_all is_plain) (sym c.as_bytes.ensures.value) ∙ sym c.are_plain.ensures ∙ c.if-are_plain.true)) c.push_str.ensures.grows
