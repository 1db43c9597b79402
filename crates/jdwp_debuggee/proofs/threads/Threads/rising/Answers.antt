use Rattle.std.proofs.Common.{◌≡◌, ◌∙◌, ap, sym, subst, List, ℕ}
use Rattle.std.specs.Prelude.{IfOk}
use Rattle.jdwp_debuggee.specs.Answers.{rising}
use Rattle.jdwp_debuggee.specs.Entries.{ids_of}
use Rattle.jdwp_debuggee.specs.declared.threads.ThreadEntry.{ThreadEntry}
use Rattle.jdwp_debuggee.proofs.EntryLists.{ids-threads}
use Rattle.jdwp_debuggee.proofs.threads.Threads.rising.Goals as goal

pub returns : goal.returns
returns c =
    let i = c.self.inside in
    let same = ap (λ (l : List ThreadEntry). ids_of l) c.deref.ensures.value ∙ sym (ids-threads i.entries.items i.counts.counts) in
    rw (← c.self.view_is) (subst (λ (l : List ℕ). IfOk c.rising_ids.result (λ ids. ids.items ≡ rising l)) same c.rising_ids.ensures)
