use Rattle.std.proofs.Common.{refl, string_bytes, true, false}
use Rattle.std.specs.Option.{option_map}
use Rattle.jdwp_plan_run.specs.Expecting.{ItemStops}
use Rattle.jdwp_plan_run.specs.RunsKept.{telling}
use Rattle.jdwp_plan_run.specs.Tellings.{PrintStops}
use Rattle.jdwp_plan_run.proofs.RunLaws.{both-err, bound-ok, held-err, held-ok, told-err, told-ok}
use Rattle.jdwp_plan_run.proofs.carrying.carry_out.Goals as goal

pub returns-in-Let-clause-ok : goal.returns-in-Let-clause-ok
returns-in-Let-clause-ok g c =
    rw c.in-Let.is
    (bound-ok c.bind.result c.as_str.result.now (string_bytes c.in-Let.name) c.in-Let.path c.args.run.now c.bind.new.run c.args.client.now (g.W.Pipe.story c.args.out.now) c.as_str.ensures.value
    c.bind.ensures.ok)

pub returns-in-Let-clause-err : goal.returns-in-Let-clause-err
returns-in-Let-clause-err g c = rw c.in-Let.is (both-err (ItemStops c.in-Let.path (option_map telling c.args.run.now.told)) c.bind.result refl c.bind.ensures.err)

pub returns-in-Expect-clause-ok : goal.returns-in-Expect-clause-ok
returns-in-Expect-clause-ok g c =
    rw c.in-Expect.is
    (told-ok c.expect.result c.args.run.now.values (option_map telling c.args.run.now.told) c.as_str-in-Expect.result.now (string_bytes c.in-Expect.text) c.as_str-in-Expect.ensures.value refl
    c.expect.ensures.ok)

pub returns-in-Expect-clause-err : goal.returns-in-Expect-clause-err
returns-in-Expect-clause-err g c =
    rw c.in-Expect.is
    (told-err c.expect.result c.args.run.now.values (option_map telling c.args.run.now.told) c.as_str-in-Expect.result.now (string_bytes c.in-Expect.text) c.as_str-in-Expect.ensures.value refl
    c.expect.ensures.err)

pub returns-in-ExpectHeld-clause-ok : goal.returns-in-ExpectHeld-clause-ok
returns-in-ExpectHeld-clause-ok g c =
    rw c.in-ExpectHeld.is
    (held-ok c.expect_held.result c.args.run.now.values c.debugger.result.now c.args.client.now.debugger c.as_str-in-ExpectHeld.result.now (string_bytes c.in-ExpectHeld.text) true
    c.debugger.ensures c.as_str-in-ExpectHeld.ensures.value refl c.expect_held.ensures.ok)

pub returns-in-ExpectHeld-clause-err : goal.returns-in-ExpectHeld-clause-err
returns-in-ExpectHeld-clause-err g c =
    rw c.in-ExpectHeld.is
    (held-err c.expect_held.result c.args.run.now.values c.debugger.result.now c.args.client.now.debugger c.as_str-in-ExpectHeld.result.now (string_bytes c.in-ExpectHeld.text) true
    c.debugger.ensures c.as_str-in-ExpectHeld.ensures.value refl c.expect_held.ensures.err)

pub returns-in-ExpectFree-clause-ok : goal.returns-in-ExpectFree-clause-ok
returns-in-ExpectFree-clause-ok g c =
    rw c.in-ExpectFree.is
    (held-ok c.expect_held-in-ExpectFree.result c.args.run.now.values c.debugger-in-ExpectFree.result.now c.args.client.now.debugger c.as_str-in-ExpectFree.result.now
    (string_bytes c.in-ExpectFree.text) false c.debugger-in-ExpectFree.ensures c.as_str-in-ExpectFree.ensures.value refl c.expect_held-in-ExpectFree.ensures.ok)

pub returns-in-ExpectFree-clause-err : goal.returns-in-ExpectFree-clause-err
returns-in-ExpectFree-clause-err g c =
    rw c.in-ExpectFree.is
    (held-err c.expect_held-in-ExpectFree.result c.args.run.now.values c.debugger-in-ExpectFree.result.now c.args.client.now.debugger c.as_str-in-ExpectFree.result.now
    (string_bytes c.in-ExpectFree.text) false c.debugger-in-ExpectFree.ensures c.as_str-in-ExpectFree.ensures.value refl c.expect_held-in-ExpectFree.ensures.err)

pub returns-in-Mirror-clause-err : goal.returns-in-Mirror-clause-err
returns-in-Mirror-clause-err g c = rw c.in-Mirror.is (both-err PrintStops c.tell_known.result refl c.tell_known.ensures.err)
