use Rattle.std.proofs.Common.{◌∙◌, List, sym, subst, arith}
use Rattle.jdwp_judge.specs.Heard.{Kept, item_of}
use Rattle.jdwp_judge.specs.Standing.{kept_in}
use Rattle.jdwp_judge.proofs.SameLaws.{none_of}
use Rattle.jdwp_judge.proofs.BacklogLaws.{next_with, next_fits}
use Rattle.jdwp_judge.proofs.TellingLaws.{Telling, telling_none, telling_more, telling_stops}
use Rattle.jdwp_judge.proofs.backlog.Backlog.tell.Goals as goal

pub loop-entry-init : goal.loop-entry-init
loop-entry-init c = rw c.deref-rest.ensures.value (record { fits = c.args.self.now.fits; telling = telling_none c.args.terms.now (kept_in c.args.self.now) c.args.lines.now })

pub returns-then-is_some : goal.returns-then-is_some
returns-then-is_some c =
    let same = c.deref-entry-items.ensures.value in
    let next = next_with c.args.self.now.entries.items c.loop-entry.entry-index _ c.loop-entry.rest.now c.split_at.result.0.now c.split_at.result.1.now (omega arith) (rw same at c.split_at.ensures.front) (rw same at c.split_at.ensures.back) in
    let telling = subst (λ (left : List Kept). Telling c.args.terms.now (kept_in c.args.self.now) left c.args.lines.now c.loop-entry.lines) next c.loop-entry.invariant.telling in
    telling_stops c.args.terms.now (kept_in c.args.self.now) _ _ (item_of c.with.result) c.tell-fault.result _ _ _ telling (rw same at c.with.ensures) (rw same at c.tell-fault.ensures.fault) (rw same at c.tell-fault.ensures.line) (sym c.is_some.ensures ∙ c.if-is_some.true)

pub loop-entry-preserved : goal.loop-entry-preserved
loop-entry-preserved c =
    let same = c.deref-entry-items.ensures.value in
    let next = next_with c.args.self.now.entries.items c.loop-entry.entry-index _ c.loop-entry.rest.now c.split_at.result.0.now c.split_at.result.1.now (omega arith) (rw same at c.split_at.ensures.front) (rw same at c.split_at.ensures.back) in
    let telling = subst (λ (left : List Kept). Telling c.args.terms.now (kept_in c.args.self.now) left c.args.lines.now c.loop-entry.lines) next c.loop-entry.invariant.telling in
    record {
      fits = next_fits c.args.self.now.entries.items c.loop-entry.entry-index _ c.loop-entry.rest.now c.split_at.result.1.now (omega arith) c.loop-entry.invariant.fits (rw same at c.split_at.ensures.back);
      telling = telling_more c.args.terms.now (kept_in c.args.self.now) _ _ (item_of c.with.result) c.tell-fault.result _ _ _ telling (rw same at c.with.ensures) (rw same at c.tell-fault.ensures.fault) (rw same at c.tell-fault.ensures.line)
          (none_of c.tell-fault.result (sym c.is_some.ensures ∙ c.if-is_some.false));
    }
