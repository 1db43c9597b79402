-- What every debugger keeps inside.
use Rattle.std.specs.Prelude.{◌≡◌, ◌≤◌, [], None, Some, length, true}
use Rattle.jdwp_wire.specs.Limits.{AreLimits}
use Rattle.jdwp_wire.specs.Widths.{Widths}
use Rattle.jdwp_end.specs.declared.phase.Phase.TheVariants.{AwaitingHandshake}
use Rattle.jdwp_end.specs.Ends.{is_open}
use Rattle.jdwp_debugger.specs.declared.debugger.Debugger.TheInside.{Inside}
use Rattle.jdwp_debugger.specs.Debuggers.{AreDistinct, AreOwn, Begins, Debugger, IsSizesAlone}
use Rattle.jdwp_debugger.specs.declared.order.Order.TheVariants.{One}
use Rattle.jdwp_debugger.specs.FollowingKept.{IsAtFirst, IsCounted}
use Rattle.jdwp_debugger.specs.News.{widths_by}
use Rattle.jdwp_debugger.specs.Runs.{Ran}
use Rattle.jdwp_mirror.specs.Faults.{PARKED_MOST}
use Rattle.jdwp_mirror.specs.Mirrors.{empty_mirror}

abbrev pub view_of : Inside → Debugger
view_of d =
    record {
      order = d.order;
      end = d.end;
      mirror = d.mirror;
      sizes = d.sizes;
      parked = d.parked.items;
      pending = d.pending;
      next_id = d.next_id;
      tickets = d.tickets;
      last = d.last;
      ledger = d.ledger;
    }

-- The limits are some that there may be; no more commands wait for replies than they allow, and no more composites for the widths of ids
-- than may; no two commands wait under one id, and without a ticket only IDSizes; nothing waits before the target's handshake, and IDSizes
-- alone until the widths of ids are known, up to when nothing is learned and from when on no composite waits; where packets come in the order of
-- the acts there is no ledger, and else it counts the commands that wait, and nothing was read in it before the widths of ids; and the run of
-- the session is as it should be.
pub record IsRightDebugger (d : Inside) : Type 0 where
  pub limits : AreLimits d.end.limits.packet d.end.limits.live d.end.limits.requests d.end.limits.pending
  pub few : length d.pending ≤ d.end.limits.pending
  pub few_parked : length d.parked.items ≤ PARKED_MOST
  pub distinct : AreDistinct d.pending
  pub own : AreOwn d.pending
  pub begins : d.end.phase ≡ AwaitingHandshake → Begins (view_of d)
  pub alone : is_open d.end ≡ true → d.sizes ≡ None → IsSizesAlone d.pending
  pub unlearned : d.sizes ≡ None → d.mirror ≡ empty_mirror
  pub unparked : (w : Widths) → d.sizes ≡ Some w → d.parked.items ≡ []
  pub unfollowed : d.order ≡ One → d.ledger ≡ None
  pub counted : IsCounted d.ledger (widths_by d.sizes) d.pending
  pub at_first : is_open d.end ≡ true → d.sizes ≡ None → IsAtFirst d.order d.ledger (widths_by d.sizes) d.pending
  pub ran : Ran (view_of d)
