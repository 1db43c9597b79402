use Rattle.jdwp_target.proofs.RefusedUnread.{refused-unread, wants-unread}
use Rattle.std.proofs.Common.{◌≡◌, None, rules}
use Rattle.jdwp_target.proofs.turning.refuse_unread.Goals as goal

pub returns-in-Some-clause-ok : goal.returns-in-Some-clause-ok
returns-in-Some-clause-ok g c =
    refused-unread g.M.Machine.meaning c.args.debuggee.now c.args.sizes.now c.args.set c.args.number c.args.body.now c.in-Some.error c.refused.result c.requires.widths c.requires.long c.requires.reads
    c.in-Some.ensures.effect c.in-Some.ensures.code c.refused.ensures

pub returns-in-None-clause-wants : goal.returns-in-None-clause-wants
returns-in-None-clause-wants g c =
    let none : c.own_refusal.result ≡ None = search rules in
    wants-unread g.M.Machine.meaning c.args.debuggee.now.settings c.args.debuggee.now.moment c.args.sizes.now c.args.set c.args.number c.args.body.now c.requires.long c.requires.reads
    (rw none at c.own_refusal.ensures.value)
