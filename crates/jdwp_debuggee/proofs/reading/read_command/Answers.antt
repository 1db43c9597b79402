use Rattle.std.proofs.Common.{◌≡◌, Some, None, Err, ap, rules}
use Rattle.jdwp_layout.specs.Reads.{data_at}
use Rattle.jdwp_layout.specs.Shapes.{shape}
use Rattle.jdwp_debuggee.specs.Askings.{asking}
use Rattle.jdwp_debuggee.specs.ReadParts.{answered_request}
use Rattle.jdwp_debuggee.proofs.Read.{asks_content, asks_refused}
use Rattle.jdwp_debuggee.proofs.Wanting.{if-err, read-encoded, read-whole}
use Rattle.jdwp_debuggee.proofs.reading.read_command.Goals as goal

pub returns-in_ok-action-in-Ok-clause-value : goal.returns-in_ok-action-in-Ok-clause-value
returns-in_ok-action-in-Ok-clause-value c =
    let layout : answered_request c.args.profile c.args.set c.args.number ≡ Some (shape c.in-Some-request_of.layout) = search rules in
    asks_content c.args.profile c.args.sizes.now c.args.set c.args.number c.args.bytes.now _ _ (asking c.in_ok-action-in-Ok.action) layout c.in-Ok.ensures.value (rw c.new.ensures at c.in_ok-action-in-Ok.ensures.value)

pub returns-in-Err-clause-value : goal.returns-in-Err-clause-value
returns-in-Err-clause-value c =
    let layout : answered_request c.args.profile c.args.set c.args.number ≡ Some (shape c.in-Some-request_of.layout) = search rules in
    asks_refused c.args.profile c.args.sizes.now c.args.set c.args.number c.args.bytes.now _ _ layout
    (c.refused.ensures.value c.args.set c.args.number (data_at c.args.sizes.now (shape c.in-Some-request_of.layout) c.args.bytes.now) c.in-Err.ensures.value)

pub returns-in_err-action-in-Ok-clause-reads : goal.returns-in_err-action-in-Ok-clause-reads
returns-in_err-action-in-Ok-clause-reads c =
    let layout : answered_request c.args.profile c.args.set c.args.number ≡ Some (shape c.in-Some-request_of.layout) = search rules in
    if-err _ c.from_residual.result (read-whole c.args.profile c.args.sizes.now c.args.set c.args.number c.args.bytes.now _ _ layout c.in-Ok.ensures.value (rw c.new.ensures at c.in_err-action-in-Ok.ensures.memory))

pub returns-in-Err-clause-reads : goal.returns-in-Err-clause-reads
returns-in-Err-clause-reads c =
    let layout : answered_request c.args.profile c.args.set c.args.number ≡ Some (shape c.in-Some-request_of.layout) = search rules in
    read-encoded c.args.profile c.args.sizes.now c.args.set c.args.number c.args.bytes.now _ c.in-Err.fault c.refused.result layout (λ is. c.in-Err.ensures.hides (ap Err is)) (λ is. c.in-Err.ensures.memory (ap Err is)) c.refused.ensures.memory

-- a command that is not answered is not read
pub returns-in_default-request_of-clause-value : goal.returns-in_default-request_of-clause-value
returns-in_default-request_of-clause-value c =
    let none : answered_request c.args.profile c.args.set c.args.number ≡ None = search rules in
    c.unread.ensures.value c.args.sizes.now none

pub returns-in_default-request_of-clause-reads : goal.returns-in_default-request_of-clause-reads
returns-in_default-request_of-clause-reads c =
    let none : answered_request c.args.profile c.args.set c.args.number ≡ None = search rules in
    c.unread.ensures.reads c.args.sizes.now none
