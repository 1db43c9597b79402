use Rattle.std.proofs.Common.{◌≡◌, ℕ, ◌==◌, true, false, not, Option, Some, None, refl, ap}
use Rattle.std.proofs.lemmas.Bool.{eqb-true, eq-eqb}
use Rattle.jdwp_debuggee.specs.State.{count_of, at_limit}
use Rattle.jdwp_debuggee.specs.Steps.{is_zero}
use Rattle.jdwp_debuggee.proofs.Small.{and-left, and-right, is-not-true}
use Rattle.jdwp_debuggee.proofs.ThreadLists.{below-limit}
use Rattle.jdwp_debuggee.proofs.laws.steps_where_it_runs.Goals as goal

zero-count : (c : Option ℕ) → is_zero c ≡ true → c ≡ Some 0
zero-count None h = absurd (cc)
zero-count (Some n) h = ap Some (eqb-true n 0 h)

pub returns : goal.returns
returns g c settings now t h =
    let a = and-right now.state.handshaken _ h in
    let b = and-right now.state.alive _ a in
    let d = and-right (not now.state.held) _ b in
    let e = and-right (is_zero (count_of now.state t)) _ d in
    record {
      greeted = and-left now.state.handshaken _ h;
      alive = and-left now.state.alive _ a;
      not_held = is-not-true now.state.held (and-left (not now.state.held) _ b);
      count = zero-count (count_of now.state t) (and-left (is_zero (count_of now.state t)) _ d);
      none_at_limit = λ u x.
          let y : (settings.count_limit == settings.count_limit) ≡ false = below-limit settings.count_limit now.state.threads u settings.count_limit (is-not-true (at_limit settings.count_limit now.state) (and-left (not (at_limit settings.count_limit now.state)) _ e)) x in
          let z : (settings.count_limit == settings.count_limit) ≡ true = eq-eqb settings.count_limit settings.count_limit refl in
          absurd (cc);
    }
