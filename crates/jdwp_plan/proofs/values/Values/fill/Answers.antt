use Rattle.std.proofs.Common.{◌∙◌, sym, arith}
use Rattle.std.proofs.lemmas.Grind.{common_steps}
use Rattle.jdwp_plan.proofs.FillingLaws.{slice_step}
use Rattle.jdwp_plan.proofs.values.Values.fill.Goals as goal

pub loop-rest-preserved-then-has : goal.loop-rest-preserved-then-has
loop-rest-preserved-then-has c = record {
  short = grind (arith, common_steps);
  so_far = rw c.in_ok-extend_from_slice.ensures.items
      (slice_step c.args.self.now c.loop-rest.place _ c.loop-rest.rest.now _ c.loop-rest.out.items c.in-Some.value.now _ _ _ _ (grind (arith, common_steps))
      (sym c.has.ensures ∙ c.if-has.true) c.name_length-length.ensures.value c.name_length-length.ensures.within c.split_at.ensures.front
      (sym (rw c.in-Some.is at c.get.ensures)) c.split_at.ensures.back c.loop-rest.invariant.so_far);
}
