use Rattle.std.proofs.Common.{◌∙◌}
use Rattle.jdwp_partner.proofs.Laws.{moved-kept, stands-taken}
use Rattle.jdwp_partner.proofs.partner.PartnerPipe.read.Goals as goal

pub wait_for-self-inside-requires : goal.wait_for-self-inside-requires
wait_for-self-inside-requires g c = rw c.deref_mut.ensures.value c.self.invariant.2.stands

pub read_from-count-requires : goal.read_from-count-requires
read_from-count-requires g c =
    rw c.deref_mut-2.ensures.value (moved-kept c.wait_for-self-inside.ensures.keeps c.wait_for-self-inside.ensures.opened (rw c.deref_mut.ensures.value c.self.invariant.2.moved))

pub invariant_of-self : goal.invariant_of-self
invariant_of-self g c =
    let keeps = rw c.deref_mut.ensures.value at c.wait_for-self-inside.ensures.keeps in
    let session = rw c.deref_mut-2.ensures.value at c.read_from-count.ensures.session in
    let none = rw c.deref_mut-2.ensures.value at c.read_from-count.ensures.none in (
      c.self.invariant.0,
      c.self.invariant.1,
      record {
        settings = session.settings ∙ (keeps.settings ∙ c.self.invariant.2.settings);
        began = session.began ∙ (keeps.began ∙ c.self.invariant.2.began);
        moved = c.read_from-count.ensures.moved;
        stands = stands-taken g.M.Machine.meaning c.wait_for-self-inside.result c.wait_for-self-inside.new.rounds c.wait_for-self-inside.new.target _ none c.wait_for-self-inside.ensures.stands;
      },
    )
