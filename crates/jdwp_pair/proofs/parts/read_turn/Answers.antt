use Rattle.std.proofs.Common.{◌≡◌, ◌+◌, true, false, List, inr, refl, subst, sym, ap, ◌∙◌, rules}
use Rattle.jdwp_debugger.specs.Debuggers.{Debugger}
use Rattle.jdwp_link.specs.declared.events.Outcome.{Outcome}
use Rattle.jdwp_end.specs.Story.{with_written}
use Rattle.jdwp_pair.specs.Calls.{at}
use Rattle.jdwp_pair.specs.Events.{counted, seen_in}
use Rattle.jdwp_pair.specs.Telling.{FailsToTell, turn_text}
use Rattle.jdwp_pair.proofs.Leading.{come-to-debugger-moves, leads-moved, moving-ends, read-so, telling-ends, turning-ends}
use Rattle.jdwp_pair.proofs.Keeping.{keeps-both, keeps-idle, keeps-turned}
use Rattle.jdwp_pair.proofs.parts.read_turn.Goals as goal

pub returns-in-Err-clause-ends : goal.returns-in-Err-clause-ends
returns-in-Err-clause-ends g c =
    moving-ends g.M.Machine.meaning c.in-Err.ended (at c.args.link.now c.args.run.now (g.W.Pipe.story c.args.out.now)) c.deliver_to_debugger.new.link c.in-Err.ensures.ends

pub returns-in-Err-happen-clause-ends : goal.returns-in-Err-happen-clause-ends
returns-in-Err-happen-clause-ends g c =
    let m = g.M.Machine.meaning in
    let fed = c.deliver_to_debugger.new.link in
    turning-ends m c.in-Err-happen.ended (at c.args.link.now c.args.run.now (g.W.Pipe.story c.args.out.now)) fed c.happen.new.link (come-to-debugger-moves m c.args.link.now fed c.in-Ok.ensures.comes) c.in-Err-happen.ensures.ends

pub returns-then-not-did-clause-turns : goal.returns-then-not-did-clause-turns
returns-then-not-did-clause-turns g c = (c.deliver_to_debugger.new.link, c.in-Ok.ensures.comes, ((c.in-Ok-happen.outcomes.items, c.in-Ok-happen.ensures.ok), search rules, refl))

pub returns-in-Err-tell_turn-clause-ends : goal.returns-in-Err-tell_turn-clause-ends
returns-in-Err-tell_turn-clause-ends g c =
    let m = g.M.Machine.meaning in
    let fed = c.deliver_to_debugger.new.link in
    let before = g.W.Pipe.story c.args.out.now in
    let after = g.W.Pipe.story c.tell_turn.new.out in
    let told = c.in-Ok-happen.outcomes.items in
    telling-ends m c.in-Err-tell_turn.ended (at c.args.link.now c.args.run.now before) fed c.happen.new.link told after (come-to-debugger-moves m c.args.link.now fed c.in-Ok.ensures.comes) c.in-Ok-happen.ensures.ok
    (subst (λ (d : Debugger). FailsToTell (turn_text d told) c.in-Err-tell_turn.ended before after) c.debugger-2.ensures
    (subst (λ (os : List Outcome). FailsToTell (turn_text c.debugger-2.result.now os) c.in-Err-tell_turn.ended before after) c.deref.ensures.value c.in-Err-tell_turn.ensures.ends))

pub returns-then-not-is_open-clause-ends : goal.returns-then-not-is_open-clause-ends
returns-then-not-is_open-clause-ends g c =
    let m = g.M.Machine.meaning in
    let fed = c.deliver_to_debugger.new.link in
    let before = g.W.Pipe.story c.args.out.now in
    let after = g.W.Pipe.story c.tell_turn.new.out in
    let told = c.in-Ok-happen.outcomes.items in (
      at fed c.args.run.now before,
      leads-moved m (at c.args.link.now c.args.run.now before) fed (come-to-debugger-moves m c.args.link.now fed c.in-Ok.ensures.comes),
      (
        search rules,
        (
          told,
          c.in-Ok-happen.ensures.ok,
          search rules,
          subst (λ (d : Debugger). after ≡ with_written (turn_text d told) before) c.debugger-2.ensures
              (subst (λ (os : List Outcome). after ≡ with_written (turn_text c.debugger-2.result.now os) before) c.deref.ensures.value c.in-Ok-tell_turn.ensures.tells),
        ),
      ),
    )

pub returns-clause-turns : goal.returns-clause-turns
returns-clause-turns g c =
    let fed = c.deliver_to_debugger.new.link in
    let before = g.W.Pipe.story c.args.out.now in
    let after = g.W.Pipe.story c.tell_turn.new.out in
    let told = c.in-Ok-happen.outcomes.items in (
      fed,
      c.in-Ok.ensures.comes,
      (
        told,
        c.in-Ok-happen.ensures.ok,
        search rules,
        read-so told c.happen.new.link (at fed c.args.run.now before) c.saturating_add-run.result after
            (c.saturating_add-run.ensures ∙ ap (λ n. counted (c.args.run.now.composites + n)) (subst (λ (os : List Outcome). c.seen_in.result ≡ seen_in os) c.deref-2.ensures.value c.seen_in.ensures))
            (subst (λ (d : Debugger). after ≡ with_written (turn_text d told) before) c.debugger-2.ensures
            (subst (λ (os : List Outcome). after ≡ with_written (turn_text c.debugger-2.result.now os) before) c.deref.ensures.value c.in-Ok-tell_turn.ensures.tells)),
      ),
    )

pub returns-in-Err-turn_too-clause-ends : goal.returns-in-Err-turn_too-clause-ends
returns-in-Err-turn_too-clause-ends g c =
    let m = g.M.Machine.meaning in
    let fed = c.deliver_to_debugger.new.link in
    let before = g.W.Pipe.story c.args.out.now in
    let old = at c.args.link.now c.args.run.now before in
    (at fed c.args.run.now before, leads-moved m old fed (come-to-debugger-moves m c.args.link.now fed c.in-Ok.ensures.comes), (inr (c.in-Ok-happen.outcomes.items, c.in-Ok-happen.ensures.ok), refl))

pub returns-then-not-did-clause-follows : goal.returns-then-not-did-clause-follows
returns-then-not-did-clause-follows g c =
    let m = g.M.Machine.meaning in
    let fed = c.deliver_to_debugger.new.link in
    let f = c.deliver_to_debugger.new.follower in
    let none : c.happen.new.link.did ≡ false = search rules in
    keeps-both m c.args.link.now fed c.happen.new.link c.args.run.now.follower f f c.in-Ok.ensures.follows (keeps-idle m fed c.happen.new.link c.in-Ok-happen.outcomes.items f c.in-Ok-happen.ensures.ok none)

pub returns-clause-follows : goal.returns-clause-follows
returns-clause-follows g c =
    let m = g.M.Machine.meaning in
    let fed = c.deliver_to_debugger.new.link in
    let f = c.deliver_to_debugger.new.follower in
    let h = c.turn_too.new.follower in
    let some : c.happen.new.link.did ≡ true = search rules in
    keeps-both m c.args.link.now fed c.happen.new.link c.args.run.now.follower f h c.in-Ok.ensures.follows
    (keeps-turned m fed c.happen.new.link c.in-Ok-happen.outcomes.items f h c.in-Ok-happen.ensures.ok some c.in-Ok-turn_too.ensures)
