use Rattle.std.proofs.Common.{ℕ, List, Result, Ok, Err, ap, subst}
use Rattle.jdwp_wire.specs.declared.packet.Header.{Header}
use Rattle.jdwp_debugger.specs.declared.faults.DebuggerFault.{DebuggerFault}
use Rattle.jdwp_debugger.specs.declared.faults.DebuggerFault.TheVariants as code
use Rattle.jdwp_debugger.specs.declared.reading.News as declared
use Rattle.std.specs.Prelude.{IfOk}
use Rattle.std.specs.Result.{IsErrOf}
use Rattle.jdwp_debugger.specs.DebuggerTurns.{MayWantMemory, ReadsPacket, WantsMemory, news_meaning, reading}
use Rattle.jdwp_debugger.specs.News.{Reading, Tells, says}
use Rattle.jdwp_debugger.proofs.reading.PacketReader.read_front.Goals as goal

-- what was read of the data that are lent is read of the packet
read-so : (r : Reading) (header : Header) (body : List ℕ) (result : Result declared.News DebuggerFault) → Tells news_meaning result (says r header.id header.kind body)
    → (IsErrOf result code.NoMemory → MayWantMemory header.kind) → IfOk result (λ n. WantsMemory (news_meaning n) → MayWantMemory header.kind) → ReadsPacket r header body result
read-so r header body (Ok news) said memory wants = (said, wants)
read-so r header body (Err fault) said memory wants = (said, λ e. memory (ap Err e))

pub data_in_place-requires : goal.data_in_place-requires
data_in_place-requires c = (c.args.header, c.requires.0, c.requires.1)

pub data_joined-body-requires : goal.data_joined-body-requires
data_joined-body-requires c = (c.args.header, c.requires.0, c.requires.1)

pub returns-in-Some-clause-read : goal.returns-in-Some-clause-read
returns-in-Some-clause-read c = λ body front.
    let r = reading c.args.self.now in
    let read = read-so r c.args.header c.in-Some.body.now c.read_packet.result c.read_packet.ensures.value c.read_packet.ensures.memory c.read_packet.ensures.wants in
    subst (λ (bytes : List ℕ). ReadsPacket r c.args.header bytes c.read_packet.result) (c.in-Some.ensures c.args.header body front) read

pub returns-in-None-clause-read : goal.returns-in-None-clause-read
returns-in-None-clause-read c = λ body front.
    let r = reading c.args.self.now in
    let ensures = c.read_packet-in-None.ensures in
    let read = read-so r c.args.header c.data_joined-body.result.now c.read_packet-in-None.result ensures.value ensures.memory ensures.wants in
    subst (λ (bytes : List ℕ). ReadsPacket r c.args.header bytes c.read_packet-in-None.result) (c.data_joined-body.ensures.body c.args.header body front) read

pub returns-in-None-clause-same : goal.returns-in-None-clause-same
returns-in-None-clause-same c = c.data_joined-body.follows.holds-at-none
