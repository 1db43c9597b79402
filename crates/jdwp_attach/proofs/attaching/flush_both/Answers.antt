use Rattle.std.proofs.Common.{true, false, refl}
use Rattle.jdwp_attach.proofs.LastFlush.{by-flush}
use Rattle.jdwp_attach.proofs.attaching.flush_both.Goals as goal

pub returns-then-left-clause-fails : goal.returns-then-left-clause-fails
returns-then-left-clause-fails g c = λ e.
    record { left = true; printed = false; fails = refl; pipe_flushes = c.flush_all-left.ensures.all c.if-left.true; out_flushes = c.flush_all-printed.ensures.fails e }

pub returns-else-left-clause-fails : goal.returns-else-left-clause-fails
returns-else-left-clause-fails g c = λ e.
    record {
      left = false;
      printed = c.flush_all-printed.result;
      fails = refl;
      pipe_flushes = c.flush_all-left.ensures.fails c.if-left.false;
      out_flushes = by-flush c.flush_all-printed.result _ _ c.flush_all-printed.ensures.all c.flush_all-printed.ensures.fails;
    }
