use Rattle.std.proofs.Common.{Option, rules, subst}
use Rattle.jdwp_wire.specs.Widths.{Widths}
use Rattle.jdwp_debugger.specs.News.{Fails, sizes_say}
use Rattle.jdwp_mirror.specs.Widths.{widths_in}
use Rattle.jdwp_debugger.proofs.NewsLemmas.{fails-waiting}
use Rattle.jdwp_debugger.proofs.reading.PacketReader.read_sizes.Goals as goal

pub returns-in_err-composites-clause-value : goal.returns-in_err-composites-clause-value
returns-in_err-composites-clause-value c =
    let f = c.in_err-composites.field-0.0 in
    let parked = c.args.self.now.parked.now in
    let waits = fails-waiting f c.args.place c.args.answer c.in-Some.sizes _ c.in_err-composites.ensures in
    let h : Fails f (sizes_say parked c.args.place c.args.answer (widths_in c.args.answer)) =
    subst (λ (v : Option Widths). Fails f (sizes_say parked c.args.place c.args.answer v)) c.in-Some.ensures waits in
    search rules
