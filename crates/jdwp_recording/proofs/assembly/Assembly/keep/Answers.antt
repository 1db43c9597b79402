use Rattle.std.proofs.Common.{◌≡◌, ◌≤◌, ◌++◌, ◌∷◌, [], None, Some, length, ap, sym, ◌∙◌, refl, arith}
use Rattle.jdwp_recording.specs.declared.assembly.Piece.{Piece}
use Rattle.jdwp_recording.proofs.AssemblyLaws.{keeps, keeps_other}
use Rattle.jdwp_recording.proofs.assembly.Assembly.keep.Goals as goal
use Rattle.jdwp_recording.proofs.assembly.Assembly.keep.Goals.{in-Some-2, in-None}

pub returns-in-Some-clause-kept : goal.returns-in-Some-clause-kept
returns-in-Some-clause-kept c = λ parts bytes st.
    let longer = c.if-kept-piece.true in
    keeps_other parts bytes c.args.self.now c.args.self.now c.args.piece c.in-Some.kept.now refl (sym c.in-Some.ensures.value) (omega arith) st

pub returns-in-Ok-clause-kept : goal.returns-in-Ok-clause-kept
returns-in-Ok-clause-kept c =
    let updates = c.in-Ok.ensures.updates in
    elim c.match-get.branch [
      | in-Some-2 w ↦ λ parts bytes st. keeps parts bytes c.args.self.now _ c.args.piece _ updates.0 refl refl refl (λ k e.
          let shorter = w.if-kept-piece.false in
          let one : Some w.in-Some.kept.now ≡ Some k = w.in-Some.ensures.value ∙ e in
          let same : w.in-Some.kept.now ≡ k = cc in
          let long = ap (λ (x : Piece). length x.bytes.now) same in
          omega arith) st
      | in-None w ↦ λ parts bytes st. keeps parts bytes c.args.self.now _ c.args.piece _ updates.0 refl refl refl (λ k e.
          let one : None ≡ Some k = w.in-None.ensures.value ∙ e in
          cc) st
    ]
