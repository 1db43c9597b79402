use Rattle.std.proofs.Common.{ap, refl, take}
use Rattle.jdwp_end.specs.Story.{Story}
use Rattle.jdwp_partner.proofs.Laws.{moved-taken}
use Rattle.jdwp_partner.proofs.keeping.read_from.Goals as goal

pub returns-clause-session : goal.returns-clause-session
returns-clause-session g c = rw c.take_from-count.ensures.taken (record { settings = refl; began = refl })

pub returns-clause-moved : goal.returns-clause-moved
returns-clause-moved g c =
    rw c.take_from-count.ensures.taken
    (moved-taken (take c.take_from-count.result c.take_from-count.new.buffer) c.args.target.now c.args.through.now c.note_read.new.self
    (ap (λ (s : Story). s.read) c.note_read.ensures) (ap (λ (s : Story). s.written) c.note_read.ensures) c.requires)
