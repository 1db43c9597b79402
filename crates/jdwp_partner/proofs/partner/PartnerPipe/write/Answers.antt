use Rattle.std.proofs.Common.{◌∙◌}
use Rattle.jdwp_partner.proofs.partner.PartnerPipe.write.Goals as goal

pub write_to-count-requires : goal.write_to-count-requires
write_to-count-requires g c = rw c.deref_mut.ensures.value c.self.invariant.2.moved

pub invariant_of-self : goal.invariant_of-self
invariant_of-self g c =
    let session = rw c.deref_mut.ensures.value at c.write_to-count.ensures.session in (
      c.self.invariant.0,
      c.self.invariant.1,
      record {
        settings = session.settings ∙ c.self.invariant.2.settings;
        began = session.began ∙ c.self.invariant.2.began;
        moved = c.write_to-count.ensures.moved;
        stands = tt;
      },
    )
