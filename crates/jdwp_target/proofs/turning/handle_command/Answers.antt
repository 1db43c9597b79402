use Rattle.std.proofs.Common.{◌≡◌, false, subst}
use Rattle.jdwp_wire.specs.Widths.{Widths}
use Rattle.jdwp_debuggee.specs.Answering.{read_as}
use Rattle.jdwp_debuggee.specs.Askings.{asked_meaning, asks}
use Rattle.jdwp_debuggee.specs.Sending.{is_short_asked}
use Rattle.jdwp_debuggee.specs.Wants.{MayWantAsked}
use Rattle.jdwp_target.proofs.AnswersEncoded.{carried-out, wants-both}
use Rattle.jdwp_target.proofs.RefusedUnread.{wants-carried}
use Rattle.jdwp_target.proofs.RightTurns.{wants-long}
use Rattle.jdwp_target.proofs.turning.handle_command.Goals as goal

pub returns-clause-ok : goal.returns-clause-ok
returns-clause-ok g c =
    let asked = c.in-Ok.asked in
    let value = subst (λ (x : Widths). asked_meaning asked ≡ asks (read_as c.args.debuggee.now.settings.profile x c.args.set c.args.number c.args.body.now)) c.requires.widths (rw c.profile.ensures at c.in-Ok.ensures.value) in
    carried-out g.M.Machine.meaning c.args.debuggee.now c.handle.new.debuggee c.args.set c.args.number c.args.body.now asked c.handle.result value c.handle.ensures.ok c.handle.ensures.encoded

pub returns-clause-wants : goal.returns-clause-wants
returns-clause-wants g c =
    let asked = c.in-Ok.asked in
    let old = c.args.debuggee.now in
    wants-both c.handle.result (is_short_asked (asked_meaning asked) ≡ false) (MayWantAsked g.M.Machine.meaning old.settings old.moment (asked_meaning asked)) _ c.handle.ensures.memory c.handle.ensures.wants
    (λ short wants. wants-carried g.M.Machine.meaning old.settings old.moment c.args.sizes.now c.args.set c.args.number c.args.body.now asked (rw c.profile.ensures at c.in-Ok.ensures.value)
    (wants-long c.args.set c.args.number asked c.in-Ok.ensures.short short) wants)
