use Rattle.std.proofs.Common.{◌≡◌, Ok, Err, ap}
use Rattle.jdwp_layout.specs.Meanings.{meanings}
use Rattle.jdwp_layout.specs.Shapes.{shape}
use Rattle.jdwp_debuggee.specs.Invoking.{data_in}
use Rattle.jdwp_debuggee.proofs.Invoked.{unread-encoded, unread-reads, unread-sent}
use Rattle.jdwp_debuggee.proofs.Wanting.{if-err}
use Rattle.jdwp_debuggee.proofs.debuggee.Debuggee.ask_invocation.Goals as goal

pub returns-in-Ok-clause-value : goal.returns-in-Ok-clause-value
returns-in-Ok-clause-value g c =
    let found : data_in c.args.sizes.now (shape c.args.layout.now) c.args.query.now.content ≡ Ok (meanings c.in-Ok.items.items) = rw c.bytes_of.ensures at c.in-Ok.ensures.value in
    rw (← c.requires, found, ← c.new-content.ensures, ← c.invoking_thread-thread.ensures) (rw (← c.requires) at c.invoke.ensures.value)

pub returns-in-Ok-clause-encoded : goal.returns-in-Ok-clause-encoded
returns-in-Ok-clause-encoded g c =
    let found : data_in c.args.sizes.now (shape c.args.layout.now) c.args.query.now.content ≡ Ok (meanings c.in-Ok.items.items) = rw c.bytes_of.ensures at c.in-Ok.ensures.value in
    rw (← c.requires, found, ← c.new-content.ensures, ← c.invoking_thread-thread.ensures) (rw (← c.requires) at c.invoke.ensures.encoded)

pub returns-in-Ok-clause-memory : goal.returns-in-Ok-clause-memory
returns-in-Ok-clause-memory g c =
    let found : data_in c.args.sizes.now (shape c.args.layout.now) c.args.query.now.content ≡ Ok (meanings c.in-Ok.items.items) = rw c.bytes_of.ensures at c.in-Ok.ensures.value in
    if-err _ c.invoke.result (rw (← c.requires) (meanings c.in-Ok.items.items, found))

pub returns-in-Err-clause-value : goal.returns-in-Err-clause-value
returns-in-Err-clause-value g c =
    let fails = rw (c.requires, c.bytes_of.ensures) at c.in-Err.ensures.value in
    unread-sent g.M.Machine.meaning c.args.self.now.settings c.args.self.now.moment _ c.args.query.now _ c.unreadable.result c.unreadable.ensures.value (c.unreadable.ensures.found _ fails)

pub returns-in-Err-clause-encoded : goal.returns-in-Err-clause-encoded
returns-in-Err-clause-encoded g c =
    let fails = rw (c.requires, c.bytes_of.ensures) at c.in-Err.ensures.value in
    unread-encoded g.M.Machine.meaning c.args.self.now.settings c.args.self.now.moment _ c.args.query.now.set c.args.query.now.number c.args.query.now _ c.unreadable.result (c.unreadable.ensures.found _ fails)

pub returns-in-Err-clause-memory : goal.returns-in-Err-clause-memory
returns-in-Err-clause-memory g c =
    rw (← c.requires, ← c.bytes_of.ensures)
    (unread-reads c.args.sizes.now (shape c.args.layout.now) c.bytes_of.result.now c.in-Err.fault c.unreadable.result (λ is. c.in-Err.ensures.hides (ap Err is)) c.unreadable.ensures.memory)
