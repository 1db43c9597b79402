-- One more that runs.
use Rattle.std.proofs.Common.{inl, inr, ◌≡◌, ℕ, ◌<◌, ◌≤◌, ◌^◌, ltb, false, List, [], ◌∷◌, ◌++◌, length, refl, ◌∙◌, sym, ap, subst, arith, ◌+◌}
use Rattle.std.proofs.lemmas.List.{get_or_append_left, get_or_push, length_push}
use Rattle.std.proofs.lemmas.Bool.{cases_lt}
use Rattle.std.proofs.lemmas.Bool.Decides.{nat_tests}
use Rattle.levels.specs.declared.entries.Entry.{Entry}
use Rattle.levels.specs.declared.order.Rank.{Rank}
use Rattle.levels.specs.Counts.{count_most}
use Rattle.levels.specs.Levels.{IsAt, IsRight, above, entry_at, rank_at, no_entry, no_rank, last_entry, last_rank}

pub added-right : (b s : ℕ) (es : List Entry) (rs : List Rank) → IsRight b es rs s → length rs + 1 < 2 ^ 32
    → IsRight b (es ++ last_entry (length rs) ∷ []) (rs ++ last_rank (length rs) ∷ []) s
added-right b s es rs i few =
    let l = i.linked in let f = i.falling in let w = l.within in let same = l.same in
    let n = length rs in
    let es1 = es ++ last_entry n ∷ [] in
    let rs1 = rs ++ last_rank n ∷ [] in
    let les = length_push es (last_entry n) in
    let lrs = length_push rs (last_rank n) in
    let old_rank : (p : ℕ) → p < n → rank_at rs1 p ≡ rank_at rs p = λ p h. get_or_append_left rs (last_rank n ∷ []) no_rank p h in
    let old_entry : (j : ℕ) → j < length es → entry_at es1 j ≡ entry_at es j = λ j h. get_or_append_left es (last_entry n ∷ []) no_entry j h in
    let new_rank : rank_at rs1 n ≡ last_rank n = get_or_push rs (last_rank n) no_rank n refl in
    let new_entry : entry_at es1 n ≡ last_entry n = get_or_push es (last_entry n) no_entry n (sym same) in
    record {
      linked = record {
        same = lrs ∙ ap (λ (k : ℕ). k + 1) same ∙ sym les;
        within = omega arith;
        placed = λ p h1. elim (cases_lt p n) [
          | inl h ↦
              let at = l.placed p h in
              let k = (rank_at rs p).place in
              let e = old_entry k at.inside in
              let inside = at.inside in
              subst (λ (x : Rank). IsAt es1 x p s) (sym (old_rank p h)) (record {
                inside = omega arith;
                back = ap (λ (x : Entry). x.rank) e ∙ at.back;
                is = ap (λ (x : Entry). x.is_suspended) e ∙ at.is;
                height = ap (λ (x : Entry). x.level) e ∙ at.height;
              })
          | inr h ↦
              let at : p ≡ n = omega arith in
              let no : false ≡ ltb n s = grind (arith, nat_tests) in
              subst (λ (q : ℕ). IsAt es1 (rank_at rs1 q) q s) (sym at) (subst (λ (x : Rank). IsAt es1 x n s) (sym new_rank) (record {
                inside = omega arith;
                back = ap (λ (x : Entry). x.rank) new_entry;
                is = ap (λ (x : Entry). x.is_suspended) new_entry ∙ no;
                height = ap (λ (x : Entry). x.level) new_entry;
              }))
        ];
        ranked = λ j h1. elim (cases_lt j (length es)) [
          | inl h ↦
              let r = l.ranked j h in
              let low = r.0 in
              subst (λ (x : Entry). (x.rank < length rs1) × ((rank_at rs1 x.rank).place ≡ j)) (sym (old_entry j h)) (omega arith, ap (λ (x : Rank). x.place) (old_rank (entry_at es j).rank r.0) ∙ r.1)
          | inr h ↦
              let at : j ≡ n = omega arith in
              subst (λ (q : ℕ). ((entry_at es1 q).rank < length rs1) × ((rank_at rs1 (entry_at es1 q).rank).place ≡ q)) (sym at)
              (subst (λ (x : Entry). (x.rank < length rs1) × ((rank_at rs1 x.rank).place ≡ n)) (sym new_entry) (omega arith, ap (λ (x : Rank). x.place) new_rank))
        ];
      };
      falling = record {
        falls = λ p q pq qs. subst (λ (x : Rank). above b x.level ≤ above b (rank_at rs1 p).level) (sym (old_rank q (omega arith))) (subst (λ (x : Rank). above b (rank_at rs q).level ≤ above b x.level) (sym (old_rank p (omega arith))) (f.falls p q pq qs));
        positive = λ p h. subst (λ (x : Rank). 1 ≤ above b x.level) (sym (old_rank p (omega arith))) (f.positive p h);
        most = λ p h. subst (λ (x : Rank). above b x.level ≤ count_most) (sym (old_rank p (omega arith))) (f.most p h);
        levels = λ p h. subst (λ (x : Rank). x.level < 2 ^ 64) (sym (old_rank p (omega arith))) (f.levels p h);
      };
      few = omega arith;
      based = i.based;
    }
