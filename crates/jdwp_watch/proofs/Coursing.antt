-- What moves in a row make of a number.
use Rattle.std.proofs.Common.{inl, inr, ◌≡◌, ℕ, ◌+◌, ◌-◌, ◌≤◌, ◌<◌, Bool, true, false, List, ◌++◌, ◌∙◌, ap, sym, subst, Option, Some, if◌then◌else◌, arith}
use Rattle.std.specs.Prelude.{nat_le, IfSome}
use Rattle.std.proofs.lemmas.Bool.{cases_lt}
use Rattle.std.proofs.lemmas.Bool.Decides.{nat_tests}
use Rattle.std.proofs.lemmas.List.Sums.{fold-append}
use Rattle.jdwp_watch.specs.declared.bound.Bound.{Bound}
use Rattle.jdwp_watch.specs.declared.course.Counting.{Counting}
use Rattle.jdwp_watch.specs.declared.course.Course.{Course}
use Rattle.jdwp_watch.specs.declared.standing.Change.{Change}
use Rattle.jdwp_watch.specs.Courses.{FallsTo, IsCourse, IsOn, led, moved_by, ran}

-- ---- one number

abbrev pub with_value : ℕ → ℕ → Bound
with_value n base = record { value = n; base = base }

kept : (c : Course) (b : Bound) → c.depth ≤ b.value → led c b ≡ with_value ((b.value - c.depth) + c.rise) b.base
kept c b le =
    let yes : nat_le c.depth b.value ≡ true = grind (arith, nat_tests) in
    ap (λ (t : Bool). if t then with_value ((b.value - c.depth) + c.rise) b.base else c.fallen) yes

falls : (c : Course) (b : Bound) → b.value < c.depth → led c b ≡ c.fallen
falls c b lt =
    let no : nat_le c.depth b.value ≡ false = grind (arith, nat_tests) in
    ap (λ (t : Bool). if t then with_value ((b.value - c.depth) + c.rise) b.base else c.fallen) no

-- ---- two in a row

ran-append : (k : Counting) (cs ds : List Change) (b : Bound) → ran k (cs ++ ds) b ≡ ran k ds (ran k cs b)
ran-append k cs ds b = fold-append (moved_by k) b cs ds

some-same : (k : Counting) (ds : List Change) (from : Bound) (fallen : Option Bound) (after : Bound) → fallen ≡ Some after → IfSome fallen (λ x. x ≡ ran k ds from) → after ≡ ran k ds from
some-same k ds from fallen after e h = subst (λ (o : Option Bound). IfSome o (λ x. x ≡ ran k ds from)) e h

pub runs-both : (k : Counting) (cs ds : List Change) (first next both : Course) (deeper : ℕ) (fallen : Option Bound)
    → first.least ≤ both.least → next.least ≤ both.least → both.greatest ≤ first.greatest → both.greatest ≤ next.greatest
    → both.most ≤ first.most → both.most + first.rise ≤ next.most
    → deeper ≡ next.depth - first.rise → both.depth ≡ first.depth + deeper → both.rise ≡ (first.rise - next.depth) + next.rise
    → FallsTo first next deeper fallen both.fallen
    → IsCourse k cs first → IsCourse k ds next → IfSome fallen (λ after. after ≡ ran k ds first.fallen)
    → IsCourse k (cs ++ ds) both
runs-both k cs ds first next both deeper fallen l1 l2 g1 g2 m1 m2 is_deeper depth rise to one two beyond = record {
  leads = λ b on.
      let least = on.least in
      let greatest = on.greatest in
      let most = on.most in
      let on_first : IsOn first b = record { least = omega arith; greatest = omega arith; most = omega arith } in
      let ran_first : led first b ≡ ran k cs b = one.leads b on_first in
      elim (cases_lt b.value first.depth) [
        | inl low ↦
            let below : b.value < both.depth = omega arith in
            let deep : 0 < first.depth = omega arith in
            falls both b below ∙ (some-same k ds first.fallen fallen both.fallen (to.early deep) beyond
            ∙ (ap (ran k ds) (sym (falls first b low) ∙ ran_first) ∙ sym (ran-append k cs ds b)))
        | inr high ↦
            let w = with_value ((b.value - first.depth) + first.rise) b.base in
            let on_next : IsOn next w = record { least = omega arith; greatest = omega arith; most = omega arith } in
            let rest : led next w ≡ ran k (cs ++ ds) b = two.leads w on_next ∙ (ap (ran k ds) (sym (kept first b high) ∙ ran_first) ∙ sym (ran-append k cs ds b)) in
            elim (cases_lt w.value next.depth) [
              | inl low ↦
                  let below : b.value < both.depth = omega arith in
                  let deep : 0 < deeper = omega arith in
                  falls both b below ∙ (to.late deep ∙ (sym (falls next w low) ∙ rest))
              | inr above ↦
                  let enough : both.depth ≤ b.value = omega arith in
                  let same : (b.value - both.depth) + both.rise ≡ (w.value - next.depth) + next.rise = omega arith in
                  kept both b enough ∙ (ap (λ (n : ℕ). with_value n b.base) same ∙ (sym (kept next w above) ∙ rest))
            ]
      ];
}
