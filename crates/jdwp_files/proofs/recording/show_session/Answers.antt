use Rattle.std.proofs.Common.{[], ◌++◌}
use Rattle.jdwp_relay.specs.declared.relay.RelayFault.TheVariants as relay
use Rattle.jdwp_show.specs.declared.table.Table.TheVariants.{Standard}
use Rattle.jdwp_files.proofs.Recordings.{live_broken}
use Rattle.jdwp_files.proofs.recording.show_session.Goals as goal

pub turns-init : goal.turns-init
turns-init g c = ([], c.under-show.ensures _)

pub turns-preserved : goal.turns-preserved
turns-preserved g c = (c.turns.invariant.0 ++ c.fresh.result.now, c.feed-show.ensures Standard c.turns.invariant.0 _ c.turns.invariant.1)

pub returns-in-Err : goal.returns-in-Err
returns-in-Err g c = rw c.from.ensures (live_broken c.in-Err.fault c.broken_off.result _ c.turns.invariant.0 _ _ c.broken_off.ensures c.turns.invariant.1)

pub returns-then-not-goes_on : goal.returns-then-not-goes_on
returns-then-not-goes_on g c =
    c.end_show.ensures (c.turns.invariant.0 ++ c.fresh.result.now) _ (c.feed-show.ensures Standard c.turns.invariant.0 _ c.turns.invariant.1)

pub returns : goal.returns
returns g c = rw c.from-3.ensures (live_broken (relay.Waiting c.from-2.result) c.broken_off-2.result _ c.turns.invariant.0 _ _ c.broken_off-2.ensures c.turns.invariant.1)
