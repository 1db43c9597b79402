use Rattle.std.proofs.Common.{◌≡◌, ◌∙◌, Some, None, rules}
use Rattle.jdwp_layout.specs.Shapes.{shape}
use Rattle.jdwp_machine.specs.Meanings.{numbers}
use Rattle.jdwp_debuggee.specs.ReadParts.{answered_request}
use Rattle.jdwp_debuggee.specs.State.{State}
use Rattle.jdwp_debuggee.proofs.OwnRefusals.{refuses-none, refuses-thread, refuses-unread}
use Rattle.jdwp_debuggee.proofs.debuggee.Debuggee.refusal_about_thread.Goals as goal

pub returns-in_err-layout-clause-value : goal.returns-in_err-layout-clause-value
returns-in_err-layout-clause-value g c = λ command begins read long.
    let none : answered_request c.args.self.now.settings.profile c.args.set c.args.number ≡ None = search rules in
    refuses-unread c.args.self.now.settings.profile c.args.sizes.now c.args.set c.args.number c.args.bytes.now command _ begins none read

pub returns-in_err-thread-clause-value : goal.returns-in_err-thread-clause-value
returns-in_err-thread-clause-value g c = λ command begins read long.
    let layout : answered_request c.args.self.now.settings.profile c.args.set c.args.number ≡ Some (shape c.in_ok-layout.layout) = search rules in
    let none : c.object_of.result ≡ None = search rules in
    let told : c.from_residual-in_err-thread.result ≡ None = search rules in
    told ∙ refuses-none c.args.self.now.settings.profile c.args.self.now.settings c.args.self.now.moment.state c.args.sizes.now c.args.set c.args.number c.args.bytes.now _ command begins layout (rw none at c.object_of.ensures) read

pub returns-clause-value : goal.returns-clause-value
returns-clause-value g c =
    let d = c.self.inside in
    let state : State = record {
      threads = d.threads.list;
      requests = d.requests;
      held = d.held;
      handshaken = d.handshaken;
      alive = d.alive;
      next_request = d.next_request;
      next_packet = d.next_packet;
      stopped = numbers d.stopped.items;
    } in
    rw (← c.self.view_is) (λ command begins read long.
    let told : answered_request c.args.self.now.settings.profile c.args.set c.args.number ≡ Some (shape c.in_ok-layout.layout) = search rules in
    let layout : answered_request d.settings.profile c.args.set c.args.number ≡ Some (shape c.in_ok-layout.layout) = rw (← c.self.view_is) at told in
    let some : c.object_of.result ≡ Some c.in_ok-thread.thread = search rules in
    let counted = rw (c.asks_of_frames.ensures, c.count.ensures) at c.refusal_by_count.ensures.value in
    counted ∙ refuses-thread d.settings.profile d.settings state c.args.sizes.now c.args.set c.args.number c.args.bytes.now _ c.in_ok-thread.thread.0 command begins long layout (rw some at c.object_of.ensures) read)
