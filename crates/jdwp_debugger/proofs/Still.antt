-- What a debugger keeps inside is kept where what is seen of it stays the same; and what cannot be.
use Rattle.std.proofs.Common.{◌≡◌, ◌≢◌, ℕ, ◌<◌, ◌≤◌, ◌++◌, [], ◌∷◌, List, None, Some, arith, length, subst, true}
use Rattle.std.proofs.lemmas.List.{length-append}
use Rattle.jdwp_wire.specs.Limits.{AreLimits}
use Rattle.jdwp_wire.specs.Widths.{Widths}
use Rattle.jdwp_end.specs.declared.phase.Phase.TheVariants.{AwaitingHandshake, Closed, Established}
use Rattle.jdwp_end.specs.Ends.{is_open}
use Rattle.jdwp_debugger.specs.declared.debugger.Debugger.TheInside.{Inside}
use Rattle.jdwp_debugger.specs.Debuggers.{AreDistinct, AreOwn, Asked, Begins, Debugger, IsSizesAlone}
use Rattle.jdwp_debugger.specs.DebuggersKept.{IsRightDebugger, view_of}
use Rattle.jdwp_debugger.specs.declared.order.Order.TheVariants.{One}
use Rattle.jdwp_debugger.specs.FollowingKept.{IsAtFirst, IsCounted}
use Rattle.jdwp_debugger.specs.News.{widths_by}
use Rattle.jdwp_debugger.specs.Runs.{Ran}
use Rattle.jdwp_mirror.specs.Faults.{PARKED_MOST}
use Rattle.jdwp_mirror.specs.Mirrors.{empty_mirror}

pub still : (d e : Inside) → view_of d ≡ view_of e → IsRightDebugger d → IsRightDebugger e
still d e same kept =
    record {
      limits = subst (λ (v : Debugger). AreLimits v.end.limits.packet v.end.limits.live v.end.limits.requests v.end.limits.pending) same kept.limits;
      few = subst (λ (v : Debugger). length v.pending ≤ v.end.limits.pending) same kept.few;
      few_parked = subst (λ (v : Debugger). length v.parked ≤ PARKED_MOST) same kept.few_parked;
      distinct = subst (λ (v : Debugger). AreDistinct v.pending) same kept.distinct;
      own = subst (λ (v : Debugger). AreOwn v.pending) same kept.own;
      begins = subst (λ (v : Debugger). v.end.phase ≡ AwaitingHandshake → Begins v) same kept.begins;
      alone = subst (λ (v : Debugger). is_open v.end ≡ true → v.sizes ≡ None → IsSizesAlone v.pending) same kept.alone;
      unlearned = subst (λ (v : Debugger). v.sizes ≡ None → v.mirror ≡ empty_mirror) same kept.unlearned;
      unparked = subst (λ (v : Debugger). (w : Widths) → v.sizes ≡ Some w → v.parked ≡ []) same kept.unparked;
      unfollowed = subst (λ (v : Debugger). v.order ≡ One → v.ledger ≡ None) same kept.unfollowed;
      counted = subst (λ (v : Debugger). IsCounted v.ledger (widths_by v.sizes) v.pending) same kept.counted;
      at_first = subst (λ (v : Debugger). is_open v.end ≡ true → v.sizes ≡ None → IsAtFirst v.order v.ledger (widths_by v.sizes) v.pending) same kept.at_first;
      ran = subst Ran same kept.ran;
    }

-- ---- what cannot be

pub some-not : {X : Type 0} (x : X) → Some x ≢ None
some-not x e = cc

pub established : Established ≢ AwaitingHandshake
established e = cc

pub closed : Closed ≢ AwaitingHandshake
closed e = cc

-- ---- how many wait

pub few-more : (ps : List Asked) (p : Asked) (most : ℕ) → length ps < most → length (ps ++ p ∷ []) ≤ most
few-more ps p most room = omega (arith, room, length-append ps (p ∷ []))
