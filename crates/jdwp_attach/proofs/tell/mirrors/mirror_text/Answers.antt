use Rattle.std.proofs.Common.{ℕ, ℤ, List, subst, rules, arith}
use Rattle.std.proofs.lemmas.Grind.{common_steps}
use Rattle.std.specs.List.Sorted.{IsPermutation}
use Rattle.std.proofs.lemmas.List.Sorted.{answers_always}
use Rattle.jdwp_mirror.specs.declared.threads.Known.{Known}
use Rattle.jdwp_attach.proofs.tell.mirrors.mirror_text.Goals as goal

pub returns : goal.returns
returns c =
    record {
      threads = c.sort_by_key.new.self.items;
      all_threads = subst (λ (xs : List Known). IsPermutation xs c.sort_by_key.new.self.items) c.in_ok-threads.ensures c.sort_by_key.ensures.permutation;
      rising_threads = c.in_ok-sort_by_key.ensures.sorted (λ (t : Known). t.id.0) (answers_always _ _ _ (λ f a r g h. search rules));
      requests = c.sort_by_key-2.new.self.items;
      all_requests = subst (λ (xs : List (ℤ × ℕ × ℕ)). IsPermutation xs c.sort_by_key-2.new.self.items) c.in_ok-requests.ensures c.sort_by_key-2.ensures.permutation;
      rising_requests = c.in_ok-sort_by_key-2.ensures.sorted (λ (r : ℤ × ℕ × ℕ). r.0) (answers_always _ _ _ (λ f a r g h. search rules));
      is = grind (arith, common_steps);
    }
