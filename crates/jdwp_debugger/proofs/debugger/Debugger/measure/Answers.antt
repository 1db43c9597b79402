use Rattle.std.proofs.Common.{◌≡◌, ◌∙◌, ◌++◌, Bool, List, [], ◌∷◌, None, false, Result, Ok, Err, ap, refl, subst, sym, rules}
use Rattle.std.specs.List.{list_any}
use Rattle.jdwp_wire.specs.Streams.{Packet}
use Rattle.jdwp_debugger.specs.FollowingKept.{IsFirstOf}
use Rattle.jdwp_debugger.specs.News.{Measures}
use Rattle.jdwp_mirror.specs.Mirror.{ends}
use Rattle.jdwp_event.specs.Composites.{CompositeMeaning}
use Rattle.jdwp_debugger.specs.declared.faults.DebuggerFault.{DebuggerFault}
use Rattle.jdwp_debugger.specs.declared.turning.Read.{Read}
use Rattle.jdwp_debugger.specs.declared.turning.Read.TheVariants as read
use Rattle.jdwp_debugger.specs.DebuggerTurns.{EntersAt, FailsOnly, IsSaid, LearnedAll, TellsSizes, bad_where, command_at, measured_where, reports, with_ledger, with_sizes}
use Rattle.jdwp_debugger.specs.Orders.{has_bad_in, none_known}
use Rattle.jdwp_mirror.specs.Messages.{Reply}
use Rattle.jdwp_mirror.specs.Mirrors.{empty_mirror}
use Rattle.jdwp_debugger.proofs.SaidPackets.{measures-bare, measures-within}
use Rattle.jdwp_debugger.proofs.TurningLemmas.{fails-measuring}
use Rattle.jdwp_debugger.proofs.debugger.Debugger.measure.Goals as goal

pub returns : goal.returns
returns c = λ body front.
    let old = c.args.self.now in
    let new = c.fail.new.self in
    let fault = c.in-Err.fault in
    let cs = c.args.composites.items in
    let bad = subst (λ (xs : List CompositeMeaning). FailsOnly fault (has_bad_in old.order none_known (reports xs))) c.deref.ensures.value c.in-Err.ensures.err in
    let failed = fails-measuring fault old new c.args.place c.args.answer c.args.sizes cs bad c.fail.ensures.left in
    subst (λ (r : Result Read DebuggerFault). EntersAt c.args.packet.0 body c.args.packet.1 (Measures c.args.place c.args.answer c.args.sizes cs) old r new) (sym c.fail.ensures.fault) failed

pub learn_waited-requires-clause-place : goal.learn_waited-requires-clause-place
learn_waited-requires-clause-place c = measures-within c.args.self.now c.args.packet.0 c.args.packet.1 c.args.place c.args.answer c.args.sizes c.args.composites.items c.requires.said

pub learn_waited-requires-clause-bare : goal.learn_waited-requires-clause-bare
learn_waited-requires-clause-bare c = measures-bare c.args.self.now c.args.packet.0 c.args.packet.1 c.args.place c.args.answer c.args.sizes c.args.composites.items c.requires.said

pub take_sizes-requires-clause-told : goal.take_sizes-requires-clause-told
take_sizes-requires-clause-told c =
    let old = c.args.self.now in
    let mirror = c.in-Ok.learned.mirror in
    let ledger = c.in-Ok.learned.ledger in
    let learned =
    subst (λ (cs : List CompositeMeaning). (has_bad_in old.order none_known (reports cs) ≡ false) × LearnedAll old.order empty_mirror (reports cs ++ Reply None (command_at c.args.place old.pending) c.args.answer ∷ []) mirror) c.deref.ensures.value
    c.in-Ok.ensures.ok in
    let followed = subst (λ (cs : List CompositeMeaning). IsFirstOf old.order c.args.answer cs ledger) c.deref.ensures.value c.in-Ok.ensures.followed in
    record { answer = c.args.answer; composites = c.args.composites.items; said = c.requires.said; unrefused = ap bad_where learned.0; learned = learned.1; followed = followed }

pub returns-in-Ok : goal.returns-in-Ok
returns-in-Ok c = λ body front.
    let old = c.args.self.now in
    let place = c.args.place in
    let header = c.args.packet.0 in
    let used = c.args.packet.1 in
    let w = c.args.sizes in
    let answer = c.args.answer in
    let cs = c.args.composites.items in
    let mirror = c.in-Ok.learned.mirror in
    let ledger = c.in-Ok.learned.ledger in
    let new = c.take_sizes.new.self in
    let learned =
    subst (λ (xs : List CompositeMeaning). (has_bad_in old.order none_known (reports xs) ≡ false) × LearnedAll old.order empty_mirror (reports xs ++ Reply None (command_at place old.pending) answer ∷ []) mirror) c.deref.ensures.value
    c.in-Ok.ensures.ok in
    let begun = subst (λ (xs : List CompositeMeaning). IsFirstOf old.order answer xs ledger) c.deref.ensures.value c.in-Ok.ensures.followed in
    let told : TellsSizes old header used place w mirror ledger =
    record { answer = answer; composites = cs; said = c.requires.said; unrefused = ap bad_where learned.0; learned = learned.1; followed = begun } in
    let left = with_ledger ledger (with_sizes (Packet header body) used header place mirror w old) in
    let goes = c.take_sizes.ensures.followed told in
    let closes : c.has_death-closes.result ≡ list_any ends (reports cs) = search rules in
    let is : new ≡ measured_where (list_any ends (reports cs)) w left = c.take_sizes.ensures.left body front ∙ ap (λ (b : Bool). measured_where b w left) closes in
    (ap bad_where learned.0, (refl, (mirror, learned.1, ledger, goes, is)))
