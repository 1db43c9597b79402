use Rattle.std.proofs.Common.{rules, ◌≡◌, false, true, refl}
use Rattle.jdwp_end.specs.Ends.{is_paused}
use Rattle.jdwp_debuggee.specs.StepParts.{is_still}
use Rattle.jdwp_debuggee.specs.StillLaws.{none-steps}
use Rattle.jdwp_target.proofs.target.Target.is_still.Goals as goal

pub returns-else-is_paused-clause-frozen : goal.returns-else-is_paused-clause-frozen
returns-else-is_paused-clause-frozen g c = λ h t.
    let paused : is_paused c.args.self.now.end ≡ false = search rules in
    let still : is_still c.args.self.now.settings c.args.self.now.moment.state ≡ true = search rules in
    let none = none-steps g.M.Machine.meaning c.args.self.now.settings c.args.self.now.moment t still in
    rw (paused, none) refl
