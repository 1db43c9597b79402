-- What moves in a row make of what is known of a thread.
use Rattle.std.proofs.Common.{◌≡◌, ℕ, List, [], ◌∷◌, ◌++◌, refl, ◌∙◌, ap, sym, Option, Some, None, arith}
use Rattle.std.specs.Prelude.{IfSome}
use Rattle.std.specs.List.{fold}
use Rattle.std.proofs.lemmas.Bool.Decides.{nat_tests}
use Rattle.std.proofs.lemmas.List.Sums.{fold-append}
use Rattle.jdwp_watch.specs.declared.bound.Bound.{Bound}
use Rattle.jdwp_watch.specs.declared.course.Counting.{Counting}
use Rattle.jdwp_watch.specs.declared.course.Counting.TheVariants.{Invocations}
use Rattle.jdwp_watch.specs.declared.course.Course.{Course}
use Rattle.jdwp_watch.specs.declared.drift.Drift.{Drift}
use Rattle.jdwp_watch.specs.declared.standing.Change.{Change}
use Rattle.jdwp_watch.specs.declared.standing.Change.TheVariants.{Keep, Replied, Reported, Invoked, Returned}
use Rattle.jdwp_watch.specs.declared.standing.Knows.{Knows}
use Rattle.jdwp_watch.specs.declared.standing.Standing.{Standing}
use Rattle.jdwp_watch.specs.Tables.{changed_by}
use Rattle.jdwp_watch.specs.Courses.{IsCourse, moved, moved_by, ran}
use Rattle.jdwp_watch.specs.Drifts.{Counts, Follows, standing_by, waiting}

-- the number of invocations keeps no base
moved-waiting : (c : Change) (n : ℕ) → moved Invocations c (waiting n) ≡ waiting ((moved Invocations c (waiting n)).value)
moved-waiting Keep n = refl
moved-waiting (Replied ticket d) n = refl
moved-waiting (Reported after stops named) n = refl
moved-waiting Invoked n = refl
moved-waiting Returned n = grind (arith, nat_tests)

ran-waiting : (cs : List Change) (n : ℕ) → ran Invocations cs (waiting n) ≡ waiting ((ran Invocations cs (waiting n)).value)
ran-waiting [] n = refl
ran-waiting (c ∷ cs) n =
    let m = (moved Invocations c (waiting n)).value in
    let first : ran Invocations cs (moved Invocations c (waiting n)) ≡ ran Invocations cs (waiting m) = ap (ran Invocations cs) (moved-waiting c n) in
    first ∙ (ran-waiting cs m ∙ ap (λ (b : Bound). waiting b.value) (sym first))

abbrev pub standing_of : Bound → Bound → Knows → ℕ → Standing
standing_of told recounted knows invoked = record { told = told; recounted = recounted; knows = knows; invoked = invoked }

pub same-standing : (t u r q : Bound) (k : Knows) (n m : ℕ) → t ≡ u → r ≡ q → n ≡ m → standing_of t r k n ≡ standing_of u q k m
same-standing t u r q k n m et er en = ap (λ (x : Bound). standing_of x r k n) et ∙ (ap (λ (x : Bound). standing_of u x k n) er ∙ ap (λ (x : ℕ). standing_of u q k x) en)

standing-append : (k : Counting) (cs ds : List Change) (s : Standing) → standing_by k ds (standing_by k cs s) ≡ standing_by k (cs ++ ds) s
standing-append k cs ds s =
    let more = λ (j : Counting) (b : Bound). sym (fold-append (moved_by j) b cs ds) in
    let n = (ran Invocations cs (waiting s.invoked)).value in
    same-standing (ran k ds (ran k cs s.told)) (ran k (cs ++ ds) s.told) (ran k ds (ran k cs s.recounted)) (ran k (cs ++ ds) s.recounted) s.knows
    ((ran Invocations ds (waiting n)).value) ((ran Invocations (cs ++ ds) (waiting s.invoked)).value) (more k s.told) (more k s.recounted)
    (ap (λ (b : Bound). (ran Invocations ds b).value) (sym (ran-waiting cs s.invoked)) ∙ ap (λ (b : Bound). b.value) (more Invocations (waiting s.invoked)))

pub counts-both : (cs ds : List Change) (d e : Drift) (s : Standing) (k : Counting) → Follows cs d → Follows ds e → Counts d.span s.knows k → Counts e.span s.knows k
    → fold changed_by s (cs ++ ds) ≡ standing_by k (cs ++ ds) s
counts-both cs ds d e s k one two first second =
    fold-append changed_by s cs ds ∙ (ap (λ (x : Standing). fold changed_by x ds) (one.counts s k first)
    ∙ (two.counts (standing_by k cs s) k second ∙ standing-append k cs ds s))

-- what is told of a number
pub told-of-both : (k : Counting) (cs ds : List Change) (d e : Drift) (o : Option Course) → IfSome o (λ both. (first second : List Change) → Follows first d → Follows second e → IsCourse k (first ++ second) both)
    → Follows cs d → Follows ds e → IfSome o (IsCourse k (cs ++ ds))
told-of-both k cs ds d e None h one two = tt
told-of-both k cs ds d e (Some both) h one two = h cs ds one two
