use Rattle.std.proofs.Common.{◌∙◌, ap}
use Rattle.jdwp_answer.specs.Shaped.{booleans}
use Rattle.jdwp_answer.proofs.Truths.{listed-all}
use Rattle.jdwp_answer.proofs.capabilities.CapabilitiesRecord.of_fields.Goals as goal

pub returns : goal.returns
returns c =
    let truths = c.in_ok-can_watch_field_modification in
    ap booleans (listed-all truths.field-0 7 truths.ensures.many) ∙ truths.ensures.value
