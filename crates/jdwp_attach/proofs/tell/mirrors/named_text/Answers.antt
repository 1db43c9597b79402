use Rattle.std.proofs.Common.{ℕ, ℤ, List, subst, rules, arith}
use Rattle.std.proofs.lemmas.Grind.{common_steps}
use Rattle.std.specs.List.Sorted.{IsPermutation}
use Rattle.std.proofs.lemmas.List.Sorted.{answers_always}
use Rattle.jdwp_attach.proofs.tell.mirrors.named_text.Goals as goal

pub returns : goal.returns
returns c =
    let named = c.in_ok-put_named.ensures in
    record {
      threads = named.threads;
      all_threads = named.all;
      rising_threads = named.rising;
      requests = c.sort_by_key.new.self.items;
      all_requests = subst (λ (xs : List (ℤ × ℕ × ℕ)). IsPermutation xs c.sort_by_key.new.self.items) (rw c.mirror.ensures at c.in_ok-requests.ensures) c.sort_by_key.ensures.permutation;
      rising_requests = c.in_ok-sort_by_key.ensures.sorted (λ (r : ℤ × ℕ × ℕ). r.0) (answers_always _ _ _ (λ f a r g h. search rules));
      is = grind (arith, common_steps, named.is);
    }
