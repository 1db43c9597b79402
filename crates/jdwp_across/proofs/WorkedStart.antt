-- two programs whose limits differ
use Rattle.std.proofs.Common.{[], refl}
use Rattle.std.proofs.lemmas.Bool.{leb-true}
use Rattle.jdwp_wire.specs.Handshake.{handshake_bytes}
use Rattle.jdwp_target.specs.Targets as targets
use Rattle.jdwp_debugger.specs.Debuggers as debuggers
use Rattle.jdwp_model.specs.Headline.{MayBegin}
use Rattle.jdwp_model.specs.WorkedMachine.{Small, settings, small, small_opening}
use Rattle.jdwp_across.specs.Merges.{More, Start}
use Rattle.jdwp_across.specs.OwnLimits.{programs_within}
use Rattle.jdwp_across.specs.Programs.{Connects, Programs}
use Rattle.jdwp_across.specs.WorkedLimits.{StartsAsWorked, roomy}
use Rattle.jdwp_across.proofs.WorkedMerges.{starts}

abbrev first : Programs Small
first = programs_within small settings roomy small_opening 1

abbrev begun : Programs Small
begun = record { target = targets.opened_target first.target; debugger = debuggers.attached first.debugger }

pub starts-as-worked : MayBegin small settings small_opening → StartsAsWorked
starts-as-worked begins = record {
  start = record {
    start = starts begins;
    limits_fit = record {
      packet_least = leb-true _ _ refl;
      packet_most = leb-true _ _ refl;
      live_is = (leb-true _ _ refl, leb-true _ _ refl);
      requests_is = (leb-true _ _ refl, leb-true _ _ refl);
      pending_is = (leb-true _ _ refl, leb-true _ _ refl);
      composite_fits = leb-true _ _ refl;
    };
    packet = leb-true _ _ refl;
  };
  connects = (begun, More [] Connects first begun Start (refl, refl, refl, refl) (record { to_target = (handshake_bytes, refl); to_debugger = ([], refl) }), refl);
  fits = (tt, (leb-true _ _ refl, tt));
}
