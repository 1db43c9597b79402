use Rattle.std.proofs.Common.{sym, ◌∙◌, map-id}
use Rattle.std.proofs.lemmas.Iterator.{YieldsList-from_chars}
use Rattle.std.proofs.lemmas.Iterator.Consumers.{YieldsList-end}
use Rattle.jdwp_show.proofs.TextLemmas.{grows_none, more_quoted, all_quoted}
use Rattle.jdwp_show.proofs.data_text.push_each_character.Goals as goal

pub loop-c-init : goal.loop-c-init
loop-c-init c = grows_none _

pub loop-c-preserved : goal.loop-c-preserved
loop-c-preserved c = more_quoted c.loop-c.yielded c.in-Some.c c.loop-c.invariant c.push_in_quotes.ensures

pub returns : goal.returns
returns c =
    let end = YieldsList-end (YieldsList-from_chars c.args.string.now c.utf8.string cc) c.loop-c.yielded _ c.loop-c.yielded_by _ _ c.in-None.is c.next.ensures.steps in
    all_quoted _ _ (sym (map-id c.loop-c.yielded) ∙ end.0) c.loop-c.invariant
