use Rattle.std.proofs.Common.{rules, ◌≡◌, inl, inr, length, take, arith}
use Rattle.std.proofs.lemmas.List.{take_all}
use Rattle.std.specs.Io.KnownBytes.{Appends}
use Rattle.jdwp_program.specs.Listening.{listening_line}
use Rattle.jdwp_program.specs.Printing.{AppendsPart}
use Rattle.jdwp_program.proofs.Telling.{line_alone}
use Rattle.jdwp_program.proofs.listening.tell_listening.Goals as goal

pub returns-in-Ok-clause-leaves : goal.returns-in-Ok-clause-leaves
returns-in-Ok-clause-leaves g c =
    let text = c.as_bytes.result.now in
    let full : c.print.result.0 ≡ length text = search rules in
    let whole : take c.print.result.0 text ≡ text = take_all c.print.result.0 text (omega (arith, full)) in
    let is : text ≡ listening_line c.args.port = search rules in
    let all = rw (is) at (rw (whole) at c.print.ensures.appends) in
    λ status. inr (inr (inr (inl (line_alone c.args.port status _ _ (inl all)))))

pub returns-clause-tells : goal.returns-clause-tells
returns-clause-tells g c = (c.print.result.0, search rules, search rules)

pub returns-clause-leaves : goal.returns-clause-leaves
returns-clause-leaves g c =
    let part : AppendsPart (g.O.Write.contents c.args.out.now) (g.O.Write.contents c.print.new.out) (listening_line c.args.port) = (c.print.result.0, search rules, search rules) in
    inr (inr (inr (inl (line_alone c.args.port 2 _ _ (inr (omega arith, (part.0, part.2)))))))
