use Rattle.std.proofs.Common.{rules, arith, ◌≡◌, ◌∙◌, ◌≤◌, ◌++◌, ℕ, List, length, take, drop, sym, ap}
use Rattle.std.proofs.lemmas.List.{length-take, take_at}
use Rattle.jdwp_end.specs.Ends.{End, with_taken}
use Rattle.jdwp_end.specs.Kept.{view_of}
use Rattle.jdwp_end.specs.Sessions.{Session}
use Rattle.jdwp_end.proofs.end.End.take.Goals as goal

pub returns-clause-bytes : goal.returns-clause-bytes
returns-clause-bytes c = search rules

pub returns-clause-taken : goal.returns-clause-taken
returns-clause-taken c =
    let s = c.self.inside in
    let items = s.outgoing.items in
    let n = c.take_into-count.result in
    let few : n ≤ length items = omega (arith, c.take_into-count.ensures.count) in
    let size : length (take n items) ≡ n = omega (arith, length-take n items, few) in
    let left : c.take_into-count.new.ring.items ≡ drop n items = search rules in
    let told : take n c.take_into-count.new.out ≡ take n items = ap (λ (zs : List ℕ). take n zs) c.take_into-count.ensures.read ∙ take_at (take n items) (drop n c.args.out.now) n size in
    let noted : c.take.new.self ≡ record s.session { taken = s.session.taken ++ take n items } = search (rules, told) in
    ap (λ (zs : List ℕ). record (view_of s) { outgoing = zs; session = c.take.new.self }) left
    ∙ ap (λ (x : Session). record (view_of s) { outgoing = drop n items; session = x }) noted
    ∙ ap (λ (m : ℕ). record (view_of s) { outgoing = drop m items; session = record s.session { taken = s.session.taken ++ take n items } }) (sym size)
    ∙ ap (λ (e : End). with_taken (take n e.outgoing) e) c.self.view_is
