use Rattle.std.proofs.Common.{◌≡◌, sym, ◌∙◌, ap}
use Rattle.milunovesk.specs.Mirror.KnownThreads.{count_in}
use Rattle.milunovesk_uses.proofs.link.shown_count.Goals as goal

pub returns : goal.returns
returns g c =
    let link = c.session.ensures.stands in
    let shows = c.session.ensures.mirror link.world link.stands in
    let counted : c.count.result ≡ count_in c.args.link.now.debugger.mirror.threads c.args.thread.0 = c.count.ensures ∙ ap (λ m. count_in m.threads c.args.thread.0) (c.mirror.ensures ∙ ap (λ d. d.mirror) c.debugger.ensures) in
    (link.world, link.stands, (λ shown had then is seen lived. shows.counts c.args.thread.0 shown had then (sym counted ∙ is) seen lived))
