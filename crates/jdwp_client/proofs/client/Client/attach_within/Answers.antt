use Rattle.jdwp_client.proofs.client.Client.attach_within.Goals as goal

pub returns-in-Ok-clause-ok : goal.returns-in-Ok-clause-ok
returns-in-Ok-clause-ok g c =
    record { first = c.begin_limit.new.self; last = c.attach.new.self; begins = c.begin_limit.ensures; does = c.in-Ok.ensures.ok; ends = c.end_limit.ensures }

pub returns-in-Err-clause-err : goal.returns-in-Err-clause-err
returns-in-Err-clause-err g c = (
  c.in-Err.error,
  c.fail_within.ensures.told,
  record { first = c.begin_limit.new.self; last = c.attach.new.self; begins = c.begin_limit.ensures; does = c.in-Err.ensures.err; ends = c.fail_within.ensures.left },
)
