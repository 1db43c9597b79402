use Rattle.std.proofs.Common.{◌≡◌, ◌≢◌, ◌≤◌, ◌⊎◌, ℕ, List, Option, None, Result, Ok, Err, IfOk, IfErr, inl, inr, true, false, refl, sym, subst, arith}
use Rattle.std.specs.Io.KnownBytes.{Appends}
use Rattle.jdwp_show.specs.declared.capture_fault.CaptureFault.{CaptureFault}
use Rattle.jdwp_show.specs.declared.table.Table.{Table}
use Rattle.jdwp_show.specs.declared.table.Table.TheVariants.{Standard}
use Rattle.jdwp_program.specs.declared.captures.Told.{Told}
use Rattle.jdwp_program.specs.declared.captures.Told.TheVariants.{Faultless, Faulty, Unread}
use Rattle.jdwp_program.specs.declared.fault.Fault.{Fault}
use Rattle.jdwp_program.specs.Captures.{Tells}
use Rattle.jdwp_program.specs.Outputs.{IsTextOf, Leaves, LeavesCaptureTold}
use Rattle.jdwp_program.specs.Statuses.{status_of_fault, status_of_told}

-- what was told whole was printed whole
printed : (fault : Option (ℕ × CaptureFault)) (text : List ℕ) (old new : Option (List ℕ)) (told : Told) → told ≢ Unread → Tells fault text old new (Ok told) → Appends old new text
printed fault text old new Faultless whole tells = tells.1
printed fault text old new Faulty whole tells = tells.1
printed fault text old new Unread whole tells = absurd (whole refl)

at-most-one : (n : ℕ) → n ≡ 1 → n ≤ 1
at-most-one n is = omega arith

-- behind what was told of the capture of a recording its fault may come
pub behind : (table : Table) (capture text : List ℕ) (fault : Option (ℕ × CaptureFault)) (old new : Option (List ℕ)) (told : Told) (result : Result Told Fault) → IsTextOf table capture text ⊎ (text ≡ capture) → Tells fault text old new (Ok told)
    → Leaves (status_of_told told) old new
    → IfOk result (λ same. same ≡ told) → IfErr result (λ f. (status_of_fault f ≡ 1) × (told ≢ Unread)) → LeavesCaptureTold result old new
behind table capture text fault old new told (Ok same) is tells leaves ok err = subst (λ (t : Told). Leaves (status_of_told t) old new) (sym ok) leaves
behind table capture text fault old new told (Err f) is tells leaves ok err =
    inr (inr (inr (inr (inl (table, capture, text, is, inl (at-most-one (status_of_fault f) err.0, printed fault text old new told err.1 tells))))))

-- the same of the capture itself
pub left : (capture : List ℕ) (old new : Option (List ℕ)) (told : Told) → Tells None capture old new (Ok told) → Leaves (status_of_told told) old new
left capture old new Faultless tells = inr (inr (inr (inr (inl (Standard, capture, capture, inr refl, inl (omega arith, tells.1))))))
left capture old new Faulty tells = absurd (let e : false ≡ true = tells.0 in cc)
left capture old new Unread tells = inr (inr (inr (inr (inl (Standard, capture, capture, inr refl, inr (refl, tells))))))
