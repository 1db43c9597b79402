-- What lines expect.
use Rattle.std.proofs.Common.{◌≡◌, ℕ, Bool, List, Result, Ok, Err, inr, subst}
use Rattle.std.specs.Prelude.{OnOk}
use Rattle.jdwp_debugger.specs.Debuggers.{Debugger}
use Rattle.jdwp_plan.specs.Filling.{filled}
use Rattle.jdwp_plan_run.specs.declared.stop.Stop.{Stop}
use Rattle.jdwp_plan_run.specs.Asking.{FillStops}
use Rattle.jdwp_plan_run.specs.Expecting.{HeldStops, IsHeldSo, IsNamedSo, IsSame, NamedStops, SameStops}

pub on-ok : {A E P Q : Type 0} (r : Result A E) → (P → Q) → OnOk r P → OnOk r Q
on-ok (Ok a) f p = f p
on-ok (Err e) f p = p

pub fill-stops : (values : List (List ℕ × List ℕ)) (passed text : List ℕ) (s : Stop) → passed ≡ text → FillStops values passed s → FillStops values text s
fill-stops values passed text s same h = subst (λ (t : List ℕ). FillStops values t s) same h

-- the text that was passed is that of the line, and the bytes that were passed on are those that were filled
pub held-so : (values : List (List ℕ × List ℕ)) (d : Debugger) (passed text full on : List ℕ) (held : Bool) → passed ≡ text → on ≡ full → filled values passed ≡ Ok full → IsNamedSo d on held
    → IsHeldSo values d text held
held-so values d passed text full on held same also fills h =
    (full, subst (λ (t : List ℕ). filled values t ≡ Ok full) same fills, subst (λ (t : List ℕ). IsNamedSo d t held) also h)

pub held-stops : (values : List (List ℕ × List ℕ)) (d : Debugger) (passed text full on : List ℕ) (held : Bool) (s : Stop) → passed ≡ text → on ≡ full → filled values passed ≡ Ok full
    → NamedStops d on held s → HeldStops values d text held s
held-stops values d passed text full on held s same also fills h =
    inr (full, subst (λ (t : List ℕ). filled values t ≡ Ok full) same fills, subst (λ (t : List ℕ). NamedStops d t held s) also h)

-- the same of texts that were passed
pub same-so : (values : List (List ℕ × List ℕ)) (on found passed text : List ℕ) → on ≡ found → passed ≡ text → IsSame values on passed → IsSame values found text
same-so values on found passed text also same h = subst (λ (t : List ℕ). IsSame values t text) also (subst (λ (t : List ℕ). IsSame values on t) same h)

pub same-stops : (values : List (List ℕ × List ℕ)) (on found passed text : List ℕ) (s : Stop) → on ≡ found → passed ≡ text → SameStops values on passed s → SameStops values found text s
same-stops values on found passed text s also same h = subst (λ (t : List ℕ). SameStops values t text s) also (subst (λ (t : List ℕ). SameStops values on t s) same h)
