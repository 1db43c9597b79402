use Rattle.std.proofs.Common.{ap, length, take}
use Rattle.jdwp_end.specs.Story.{Story}
use Rattle.jdwp_partner.proofs.Laws.{moved-dropped}
use Rattle.jdwp_partner.proofs.keeping.drop_all.Goals as goal

pub returns-clause-moved : goal.returns-clause-moved
returns-clause-moved g c =
    moved-dropped (take (length c.args.bytes.now) c.args.bytes.now) c.args.target.now c.args.through.now c.note_write.new.self c.requires.over
    (ap (λ (s : Story). s.written) c.note_write.ensures) (ap (λ (s : Story). s.read) c.note_write.ensures) c.requires.moved
