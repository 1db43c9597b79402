use Rattle.std.proofs.Common.{[], refl}
use Rattle.jdwp_partner.proofs.partner.Partner.new.Goals as goal

pub invariant_of-result : goal.invariant_of-result
invariant_of-result g c = (
  c.in_ok-target.target.value,
  rw (c.new-opened.ensures, c.deref.ensures) at c.push.ensures,
  record {
    settings = refl;
    began = refl;
    moved = rw (c.in_ok-target.ensures, c.new.ensures) (record { fed = ([], refl); all = λ now. refl; read = refl });
    stands = tt;
  },
)
