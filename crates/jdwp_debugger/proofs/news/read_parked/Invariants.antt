use Rattle.std.proofs.Common.{◌≡◌, ◌++◌, List, drop}
use Rattle.std.specs.Option.{option_map}
use Rattle.jdwp_event.specs.Composites.{CompositeMeaning}
use Rattle.jdwp_debugger.specs.News.{composites_in}
use Rattle.jdwp_debugger.proofs.news.read_parked.Given as goal

abbrev pub invariant-loop-waiting : goal.invariant-loop-waiting
invariant-loop-waiting l =
    composites_in l.sizes l.parked ≡ option_map (λ (cs : List CompositeMeaning). l.composites.items ++ cs) (composites_in l.sizes (drop l.waiting-index l.parked))
