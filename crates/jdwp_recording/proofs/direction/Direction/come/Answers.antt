use Rattle.std.proofs.Common.{◌≡◌, ◌≤◌, ◌+◌, ◌^◌, ◌++◌, ◌∷◌, [], sym, ap, subst, arith}
use Rattle.std.proofs.lemmas.List.{append-nil}
use Rattle.jdwp_recording.specs.Assemblies.{Stands, part_of}
use Rattle.jdwp_recording.specs.Directions.{Knows}
use Rattle.jdwp_recording.specs.declared.sequence.Mark.{Mark}
use Rattle.jdwp_recording.proofs.DirectionLaws.{came, came_not, still_knows}
use Rattle.jdwp_recording.proofs.direction.Direction.come.Goals as goal

pub returns-then-is_empty-clause-without : goal.returns-then-is_empty-clause-without
returns-then-is_empty-clause-without c = λ empty first before bytes knows.
    subst (λ b. Knows first before b c.note_end.new.self) (sym (append-nil bytes))
    (still_knows first before bytes c.args.self.now c.note_end.new.self c.note_end.ensures.assembly c.note_end.ensures.mark knows)

pub returns-in_default-clause-data : goal.returns-in_default-clause-data
returns-in_default-clause-data c = λ some first before bytes knows.
    subst (λ b. Knows first (before ++ c.args.segment.now ∷ []) b c.note_end.new.self) (sym (append-nil bytes))
    (came_not first before bytes c.args.self.now c.note_end.new.self c.args.segment.now c.place_near-found.result c.place_near-found.ensures
    (λ place at fits. let far = c.in_default.ensures.none place at in omega (arith, far)) knows)

pub returns-clause-data : goal.returns-clause-data
returns-clause-data c = λ some first before bytes knows.
    came first before bytes c.in_ok-fresh.fresh.now c.args.self.now c.note_cut.new.self c.args.segment.now c.in-Some.piece c.place_near-found.result c.place_near-found.ensures
    c.in-Some.ensures.place c.in-Some.ensures.bytes
    (λ parts known st. subst (Stands (parts ++ part_of c.in-Some.piece ∷ []) (known ++ c.in_ok-fresh.fresh.now)) (sym c.note_cut.ensures.assembly)
    (c.in_ok-fresh.ensures parts known (subst (Stands parts known) (sym c.note_end.ensures.assembly) st)))
    (ap (λ (m : Mark). m.place) c.note_cut.ensures.mark) (ap (λ (m : Mark). m.sequence) c.note_cut.ensures.mark) knows
