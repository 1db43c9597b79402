use Rattle.jdwp_partner.proofs.partner.PartnerPipe.flush.Goals as goal

pub invariant_of-self : goal.invariant_of-self
invariant_of-self g c = (
  c.self.invariant.0,
  c.self.invariant.1,
  record {
    settings = c.self.invariant.2.settings;
    began = c.self.invariant.2.began;
    moved = rw c.note_flush.ensures (record { fed = c.self.invariant.2.moved.fed; all = c.self.invariant.2.moved.all; read = c.self.invariant.2.moved.read });
    stands = c.self.invariant.2.stands;
  },
)
