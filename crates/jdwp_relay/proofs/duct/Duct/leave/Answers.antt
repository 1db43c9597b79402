use Rattle.std.proofs.Common.{◌≤◌, ◌-◌, ◌∙◌, drop, length, ap, arith}
use Rattle.jdwp_relay.specs.Passages.{Passage, with_waiting}
use Rattle.jdwp_relay.proofs.Pieces.{length-span, passage_of, span_left}
use Rattle.jdwp_relay.proofs.duct.Duct.leave.Goals as goal

pub returns : goal.returns
returns c =
    let d = c.self.inside in
    let many = length-span d.from d.to d.bytes.items (omega arith) (omega arith) in
    let fits : c.args.count ≤ d.to - d.from = omega (arith, many, ap (λ (p : Passage). length p.waiting) c.self.view_is, c.requires) in
    ap (passage_of d.sender d.stage) (span_left d.from d.to c.args.count d.bytes.items fits) ∙ ap (λ (p : Passage). with_waiting (drop c.args.count p.waiting) p) c.self.view_is
