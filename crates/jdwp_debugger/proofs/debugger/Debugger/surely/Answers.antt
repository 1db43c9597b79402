use Rattle.std.proofs.Common.{◌≡◌, ◌∙◌, ◌+◌, ◌-◌, Option, ap, sym}
use Rattle.jdwp_apart.specs.Watch.{all_lower}
use Rattle.jdwp_watch.specs.Ledgers.{Account, bound_at}
use Rattle.jdwp_debugger.specs.Debuggers.{Debugger}
use Rattle.jdwp_debugger.specs.FollowingKept.{all_lowered, commands_in, following, following_of, invoked_in}
use Rattle.jdwp_debugger.specs.Holding.{surely}
use Rattle.jdwp_debugger.specs.News.{widths_by}
use Rattle.jdwp_debugger.proofs.Followed.{all-lowered}
use Rattle.jdwp_debugger.proofs.debugger.Debugger.surely.Goals as goal

pub returns-in-Some : goal.returns-in-Some
returns-in-Some c =
    let s = c.self.inside in
    let t = c.args.thread.0 in
    let w = widths_by s.sizes in
    let low : c.lowered.result ≡ all_lower (commands_in w s.pending) t + invoked_in w s.pending t =
    c.lowered.ensures ∙ ((λ j. all_lowered (c.widths_by.ensures j) s.pending t) ∙ all-lowered w s.pending t) in
    let value : c.saturating_sub.result ≡ bound_at c.in-Some.kept t - (all_lower (commands_in w s.pending) t + invoked_in w s.pending t) =
    c.saturating_sub.ensures ∙ (λ j. c.bound.ensures j - low j) in
    value ∙ (ap (λ (l : Option Account). surely (following_of l s.sizes s.pending) t) (sym c.in-Some.is) ∙ ap (λ (d : Debugger). surely (following d) t) c.self.view_is)
