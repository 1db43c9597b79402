use Rattle.std.proofs.Common.{ℕ, List, subst}
use Rattle.jdwp_debuggee.specs.Answering.{read_as}
use Rattle.jdwp_debuggee.specs.Wants.{MayWantAsRead}
use Rattle.jdwp_target.specs.TurnParts.{IsCarriedOut}
use Rattle.jdwp_target.proofs.DeferredTurns.{err-also, ok-also}
use Rattle.jdwp_target.proofs.turning.handle_front.Goals as goal

pub data_in_place-requires : goal.data_in_place-requires
data_in_place-requires g c = c.requires.packet

pub data_joined-body-requires : goal.data_joined-body-requires
data_joined-body-requires g c = c.requires.packet

pub returns-in-Some-clause-ok : goal.returns-in-Some-clause-ok
returns-in-Some-clause-ok g c = ok-also c.handle_command.result _ _
    (λ done did header body front. subst (λ (bytes : List ℕ). IsCarriedOut g.M.Machine.meaning c.args.debuggee.now c.handle_command.new.debuggee c.args.command.0 c.args.command.1 bytes done) (c.in-Some.ensures header body front) did)
    c.handle_command.ensures.ok

pub returns-in-Some-clause-wants : goal.returns-in-Some-clause-wants
returns-in-Some-clause-wants g c = err-also c.handle_command.result _ _
    (λ wanted wants header body front. subst (λ (bytes : List ℕ). MayWantAsRead g.M.Machine.meaning c.args.debuggee.now.settings c.args.debuggee.now.moment (read_as c.args.debuggee.now.settings.profile c.args.sizes.now c.args.command.0 c.args.command.1 bytes)) (c.in-Some.ensures header body front) wants)
    c.handle_command.ensures.wants

pub returns-in-None-clause-ok : goal.returns-in-None-clause-ok
returns-in-None-clause-ok g c = ok-also c.handle_command-in-None.result _ _
    (λ done did header body front. subst (λ (bytes : List ℕ). IsCarriedOut g.M.Machine.meaning c.args.debuggee.now c.handle_command-in-None.new.debuggee c.args.command.0 c.args.command.1 bytes done) (c.data_joined-body.ensures.body header body front) did)
    c.handle_command-in-None.ensures.ok

pub returns-in-None-clause-wants : goal.returns-in-None-clause-wants
returns-in-None-clause-wants g c = err-also c.handle_command-in-None.result _ _
    (λ wanted wants header body front. subst (λ (bytes : List ℕ). MayWantAsRead g.M.Machine.meaning c.args.debuggee.now.settings c.args.debuggee.now.moment (read_as c.args.debuggee.now.settings.profile c.args.sizes.now c.args.command.0 c.args.command.1 bytes)) (c.data_joined-body.ensures.body header body front) wants)
    c.handle_command-in-None.ensures.wants

pub returns-in-None-clause-same : goal.returns-in-None-clause-same
returns-in-None-clause-same g c = c.data_joined-body.follows.holds-at-none
