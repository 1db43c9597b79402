use Rattle.std.proofs.Common.{ap, refl, take}
use Rattle.jdwp_end.specs.Story.{Story}
use Rattle.jdwp_partner.proofs.Laws.{moved-fed}
use Rattle.jdwp_partner.proofs.keeping.feed_to.Goals as goal

pub returns-clause-session : goal.returns-clause-session
returns-clause-session g c = rw c.feed-count.ensures.fed (record { settings = refl; began = refl })

pub returns-clause-moved : goal.returns-clause-moved
returns-clause-moved g c =
    rw c.feed-count.ensures.fed
    (moved-fed (take c.feed-count.result c.args.bytes.now) c.args.target.now c.args.through.now c.note_write.new.self c.requires.opened
    (ap (λ (s : Story). s.written) c.note_write.ensures) (ap (λ (s : Story). s.read) c.note_write.ensures) c.requires.moved)
