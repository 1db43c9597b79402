use Rattle.std.proofs.Common.{◌≡◌, ◌∙◌, ◌⊎◌, ℕ, length, drop, true, Option, Some, None, is_some, inl, inr, ap, subst, sym, arith}
use Rattle.std.proofs.lemmas.List.{length-drop}
use Rattle.jdwp_show.specs.declared.capture_fault.CaptureFault.{CaptureFault}
use Rattle.jdwp_judge.specs.Coming.{IsNext}
use Rattle.jdwp_judge.proofs.ComingLaws.{taking_none, taking_more, taking_end, taking_stops}
use Rattle.jdwp_judge.proofs.hearing.hear_all.Goals as goal
use Rattle.jdwp_judge.proofs.hearing.hear_all.Goals.{then-used-eq0-via-then-used-eq0, then-used-eq0-via-else-used-eq0+then-is_some}

pub loop-found-init : goal.loop-found-init
loop-found-init c = record {
  within = omega arith;
  taking = λ table items sent follows coming. taking_none table c.args.piece c.args.sender items sent c.args.bytes.now c.args.rulings.now c.args.coming.now c.come.new.self _ follows coming c.in_ok-come.ensures.bytes c.come.ensures.handshaken;
}

pub loop-found-preserved : goal.loop-found-preserved
loop-found-preserved c =
    let old = c.loop-found.coming in
    let left = drop c.loop-found.taken old.bytes.items in
    let next : IsNext old.handshaken left (Some (c.in-Some.found, c.in-Some.used)) = rw c.in-Some.is at c.next_found.ensures in
    let kept : length c.begin.new.self.bytes.items ≡ length old.bytes.items = ap (λ (v : _). length v.items) c.begin.ensures.bytes in
    record {
      within = (let short = next.2 in omega (arith, short, kept, length-drop c.loop-found.taken old.bytes.items, c.loop-found.invariant.within));
      taking = λ table items sent follows coming.
          taking_more table c.args.piece c.args.sender items sent c.args.bytes.now c.loop-found.rulings c.hear.new.self old c.begin.new.self c.loop-found.taken c.in-Some.used c.in-Some.found _ _ _
          (c.loop-found.invariant.taking table items sent follows coming) next (λ all f. c.in_ok-hear.ensures table all f) c.if-used-eq0.false c.begin.ensures.bytes c.begin.ensures.handshaken;
    }

pub returns-then-used-eq0 : goal.returns-then-used-eq0
returns-then-used-eq0 c = λ table items sent follows coming.
    let old = c.loop-found.coming in
    let left = drop c.loop-found.taken old.bytes.items in
    let next : IsNext old.handshaken left (Some (c.in-Some.found, c.in-Some.used)) = rw c.in-Some.is at c.next_found.ensures in
    let why : (c.in-Some.used ≡ 0) ⊎ (is_some c.hear.new.self.fault ≡ true) = elim c.then-used-eq0.branch [
      | then-used-eq0-via-then-used-eq0 w ↦ inl w.if-used-eq0.true
      | then-used-eq0-via-else-used-eq0+then-is_some w ↦ inr (subst (λ (o : Option (ℕ × CaptureFault)). is_some o ≡ true) w.fault.ensures (sym w.is_some.ensures ∙ w.if-is_some.true))
    ] in
    taking_stops table c.args.piece c.args.sender items sent c.args.bytes.now c.loop-found.rulings c.hear.new.self old old c.loop-found.taken c.in-Some.used c.in-Some.found _ _ _
    (c.loop-found.invariant.taking table items sent follows coming) next (λ all f. c.in_ok-hear.ensures table all f) why

pub returns : goal.returns
returns c = λ table items sent follows coming.
    let none : IsNext c.loop-found.coming.handshaken (drop c.loop-found.taken c.loop-found.coming.bytes.items) None = rw c.in_default.is at c.next_found.ensures in
    taking_end table c.args.piece c.args.sender items sent c.args.bytes.now c.loop-found.rulings c.loop-found.coming c.take.new.self c.loop-found.taken _ _ (c.loop-found.invariant.taking table items sent follows coming) none c.loop-found.invariant.within c.take.ensures.bytes
    c.take.ensures.handshaken
