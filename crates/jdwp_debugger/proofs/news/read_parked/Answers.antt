use Rattle.std.proofs.lemmas.Grind.{common_steps}
use Rattle.std.proofs.Common.{◌≡◌, ℕ, ◌+◌, ◌<◌, ◌∙◌, List, ◌++◌, [], ◌∷◌, Option, length, drop, sym, subst, ap, rules, arith, Ok}
use Rattle.std.specs.Option.{option_map}
use Rattle.jdwp_event.specs.Composites.{CompositeMeaning}
use Rattle.jdwp_debugger.specs.declared.faults.DebuggerFault.TheVariants as code
use Rattle.jdwp_debugger.specs.Debuggers.{Parked}
use Rattle.jdwp_debugger.specs.News.{Fails, composite_in, composites_in, required, with_first}
use Rattle.jdwp_debugger.proofs.NewsLemmas.{at-next, behind, fails-first, read-first}
use Rattle.jdwp_debugger.proofs.news.read_parked.Goals as goal

pub returns-in_err-composite : goal.returns-in_err-composite
returns-in_err-composite c =
    let ps = c.args.parked.now in
    let w = c.args.sizes.now in
    let i = c.loop-waiting.waiting-index in
    let done = c.loop-waiting.composites.items in
    let p = c.waiting-item.result in
    let in_range : i < length ps = omega arith in
    let body : p.body ≡ c.deref.result.now = ap (λ (q : Parked). q.body) (sym c.waiting.view_is) ∙ sym c.deref.ensures.value in
    let all : composites_in w ps ≡ option_map (behind done) (with_first (composite_in w p.body) (composites_in w (drop (i + 1) ps))) =
    c.loop-waiting.invariant ∙ ap (option_map (behind done)) (at-next w ps i p in_range c.waiting-item.is) in
    let first = subst (λ (bytes : List ℕ). Fails c.in_err-composite.field-0.0 (required code.BadEvent (composite_in w bytes))) (sym body) c.in_err-composite.ensures in
    let h : Fails c.in_err-composite.field-0.0 (required code.BadEvent (composites_in w ps)) =
    subst (λ (found : Option (List CompositeMeaning)). Fails c.in_err-composite.field-0.0 (required code.BadEvent found)) (sym all) (fails-first _ done _ _ first) in
    search rules

pub loop-waiting-preserved : goal.loop-waiting-preserved
loop-waiting-preserved c =
    let ps = c.args.parked.now in
    let w = c.args.sizes.now in
    let i = c.loop-waiting.waiting-index in
    let done = c.loop-waiting.composites.items in
    let p = c.waiting-item.result in
    let in_range : i < length ps = omega arith in
    let body : p.body ≡ c.deref.result.now = ap (λ (q : Parked). q.body) (sym c.waiting.view_is) ∙ sym c.deref.ensures.value in
    let all : composites_in w ps ≡ option_map (behind done) (with_first (composite_in w p.body) (composites_in w (drop (i + 1) ps))) =
    c.loop-waiting.invariant ∙ ap (option_map (behind done)) (at-next w ps i p in_range c.waiting-item.is) in
    let first : required code.BadEvent (composite_in w p.body) ≡ Ok c.in_ok-composite.composite = ap (λ (bytes : List ℕ). required code.BadEvent (composite_in w bytes)) body ∙ c.in_ok-composite.ensures in
    let grown : c.push.new.self.items ≡ done ++ c.in_ok-composite.composite ∷ [] = search rules in
    all ∙ read-first done (composite_in w p.body) (composites_in w (drop (i + 1) ps)) c.in_ok-composite.composite first ∙ ap (λ (cs : List CompositeMeaning). option_map (behind cs) (composites_in w (drop (i + 1) ps))) (sym grown)

pub returns : goal.returns
returns c = grind (arith, common_steps)
