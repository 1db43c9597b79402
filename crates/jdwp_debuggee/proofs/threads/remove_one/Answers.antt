use Rattle.std.proofs.Common.{◌∙◌, ap, arith, length, sym, List, ℕ}
use Rattle.std.specs.List.{filter, remove}
use Rattle.std.proofs.lemmas.List.Edits.{length-remove}
use Rattle.levels.specs.Counts.{Counts}
use Rattle.jdwp_debuggee.specs.Entries.{threads_of}
use Rattle.jdwp_debuggee.specs.State.{is_other}
use Rattle.jdwp_debuggee.specs.declared.threads.ThreadEntry.{ThreadEntry}
use Rattle.jdwp_debuggee.proofs.EntryLists.{found-none, found-others, found-within, none-left}
use Rattle.jdwp_debuggee.proofs.threads.remove_one.Goals as goal

pub remove-requires : goal.remove-requires
remove-requires c =
    let found = rw c.deref.ensures.value at c.in-Some.ensures in
    let inside = found-within c.args.thread.0 c.in-Some.place c.loop-place.entries.items found in
    omega (arith, inside, c.loop-place.entries.ok.0)

pub loop-place-preserved : goal.loop-place-preserved
loop-place-preserved c =
    let es = c.loop-place.entries.items in
    let ns = c.loop-place.counts.counts in
    let p = c.in-Some.place in
    let same = c.loop-place.invariant.same in
    let found = rw c.deref.ensures.value at c.in-Some.ensures in
    let inside = found-within c.args.thread.0 p es found in
    let items = c.remove.ensures.items in
    let counts = ap (λ (x : Counts). x.counts) c.remove-in-Some.ensures in
    let fewer = ap (λ (l : List ThreadEntry). length l) items in
    let lower = ap (λ (l : List ℕ). length l) counts in
    let one = length-remove es p inside in
    let other = length-remove ns p (omega arith) in
    record {
      same = omega (arith, same, fewer, lower, one, other);
      others = ap (λ (l : List ThreadEntry). filter (is_other c.args.thread.0) (threads_of l c.remove-in-Some.new.self.counts)) items
          ∙ (ap (λ (l : List ℕ). filter (is_other c.args.thread.0) (threads_of (remove es p) l)) counts
          ∙ (found-others c.args.thread.0 p es ns same found ∙ c.loop-place.invariant.others));
      visits = ap (λ (x : Counts). x.visits) c.remove-in-Some.ensures ∙ c.loop-place.invariant.visits;
    }

pub returns-clause-list : goal.returns-clause-list
returns-clause-list c =
    let es = c.loop-place.entries.items in
    let found = rw c.deref.ensures.value at c.find.ensures in
    let none = none-left c.find.result c.in_default.not-Some in
    sym (found-none c.args.thread.0 es c.loop-place.counts.counts (sym none ∙ found)) ∙ c.loop-place.invariant.others
