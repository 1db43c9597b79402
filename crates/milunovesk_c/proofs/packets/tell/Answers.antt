use Rattle.std.proofs.Common.{◌∙◌, ◌+◌, ◌<◌, ℕ, List, drop, length, sym, ap, arith}
use Rattle.std.proofs.lemmas.List.{take_more_set, drop-set-lt, drop-drop}
use Rattle.milunovesk_c.proofs.Standing.{StandFrom-snoc}
use Rattle.milunovesk_c.proofs.packets.tell.Goals as goal

pub loop-count-preserved : goal.loop-count-preserved
loop-count-preserved c =
    let at = c.loop-count.count in
    let slots = c.loop-count.places in
    let p = c.loop-count.used in
    let there : at < length slots = omega (arith, c.loop-count.auto.places, c.loop-count-test.true) in
    record {
      used = c.in-Some.ensures.within;
      told = rw (take_more_set slots at p there) (StandFrom-snoc _ _ _ _ _ c.loop-count.invariant.told (sym c.in-Some.ensures.told));
      kept = drop-set-lt (at + 1) slots at p (omega arith)
          ∙ (sym (drop-drop 1 at slots) ∙ (ap (λ (l : List ℕ). drop 1 l) c.loop-count.invariant.kept ∙ drop-drop 1 at c.args.places.now));
    }
