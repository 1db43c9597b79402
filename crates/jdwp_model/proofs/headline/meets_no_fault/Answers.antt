use Rattle.jdwp_model.specs.Faultless.{NoPacketIsRefused, NoCallIsRefused, FewWait}
use Rattle.jdwp_model.proofs.Faultless.{always_whole, no_packet_is_refused, no_call_is_refused, few_wait}
use Rattle.jdwp_model.proofs.headline.meets_no_fault.Goals as goal

pub returns : goal.returns
returns g c =
    let m = g.M.Machine.meaning in
    let rests = c.rests_on_laws.ensures in
    record {
      debugger = always_whole m rests NoPacketIsRefused (no_packet_is_refused m);
      target = always_whole m rests NoCallIsRefused (no_call_is_refused m);
      waiting = always_whole m rests FewWait (few_wait m);
    }
