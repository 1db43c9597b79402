use Rattle.jdwp_partner.proofs.partner.Partner.session.Goals as goal

pub returns : goal.returns
returns g c = rw (← c.self.view_is) (rw c.deref.ensures at c.session.ensures.ran, c.self.invariant)
