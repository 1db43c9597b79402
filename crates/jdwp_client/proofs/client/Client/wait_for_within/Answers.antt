use Rattle.std.proofs.Common.{subst, w32}
use Rattle.std.specs.Prelude.{ℤ}
use Rattle.std.proofs.lemmas.Int.{to_z-of_z}
use Rattle.jdwp_client.specs.declared.errors.Awaited.TheVariants as awaited
use Rattle.jdwp_client.specs.Clients.{GivesEvent, Stops, lacks_event}
use Rattle.jdwp_client.specs.Errors.{IsToldOf}
use Rattle.jdwp_client.specs.Keeping.{has_request}
use Rattle.jdwp_client.proofs.client.Client.wait_for_within.Goals as goal

pub returns-in-Ok-clause-ok : goal.returns-in-Ok-clause-ok
returns-in-Ok-clause-ok g c =
    let first = c.begin_limit.new.self in
    let last = c.wait_for.new.self in
    let same = to_z-of_z w32 c.args.request c.ranges.request in
    record {
      first = first;
      last = last;
      begins = c.begin_limit.ensures;
      does = subst (λ (r : ℤ). GivesEvent g.P.Pipe.story (has_request r) first c.in-Ok.event last) same c.in-Ok.ensures.ok;
      ends = c.end_limit.ensures;
    }

pub returns-in-Err-clause-err : goal.returns-in-Err-clause-err
returns-in-Err-clause-err g c =
    let first = c.begin_limit.new.self in
    let last = c.wait_for.new.self in
    let e = c.in-Err.error in
    let same = to_z-of_z w32 c.args.request c.ranges.request in (
      e,
      subst (λ (r : ℤ). IsToldOf (awaited.EventOf r) e c.fail_within.result) same c.fail_within.ensures.told,
      record {
        first = first;
        last = last;
        begins = c.begin_limit.ensures;
        does = subst (λ (r : ℤ). Stops g.P.Pipe.story (lacks_event (has_request r)) first e last) same c.in-Err.ensures.err;
        ends = c.fail_within.ensures.left;
      },
    )
