use Rattle.std.proofs.Common.{◌≡◌, ◌++◌, ◌∷◌, [], subst, sym}
use Rattle.std.proofs.lemmas.List.{append-nil}
use Rattle.jdwp_recording.specs.Assemblies.{Stands, part_of}
use Rattle.jdwp_recording.proofs.AssemblyLaws.{joins}
use Rattle.jdwp_recording.proofs.assembly.Assembly.come.Goals as goal

pub returns-then-piece-self : goal.returns-then-piece-self
returns-then-piece-self c = λ parts bytes st.
    joins parts bytes c.join.result.now c.args.self.now c.join.new.self c.args.piece
    (record { place = c.if-piece-self.true; fresh_is = c.join.ensures.fresh; known = c.join.ensures.known }) c.join.ensures.ahead st

pub returns : goal.returns
returns c = λ parts bytes st.
    subst (λ b. Stands (parts ++ part_of c.args.piece ∷ []) b c.keep.new.self) (sym (append-nil bytes)) (c.in_ok-keep.ensures.kept parts bytes st)
