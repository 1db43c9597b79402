use Rattle.std.proofs.Common.{arith, List, ap}
use Rattle.std.proofs.lemmas.List.{take_all}
use Rattle.jdwp_value.specs.declared.value.Value.{Value}
use Rattle.jdwp_show.specs.DataText.{listed, element_text}
use Rattle.jdwp_show.proofs.TextLemmas.{grows_none, grows_as, grown, listed_more}
use Rattle.jdwp_show.proofs.data_text.push_elements.Goals as goal

pub loop-index-init : goal.loop-index-init
loop-index-init c = grows_none _

pub loop-index-preserved : goal.loop-index-preserved
loop-index-preserved c = grown (listed_more element_text c.args.elements.now c.loop-index.index _ (omega arith)) c.loop-index.invariant c.push_separator.ensures c.push_element.ensures

pub returns : goal.returns
returns c = grows_as (ap (λ (l : List Value). listed element_text l) (take_all c.loop-index.index c.args.elements.now (omega arith))) c.loop-index.invariant
