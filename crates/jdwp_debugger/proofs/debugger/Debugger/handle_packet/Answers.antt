use Rattle.std.proofs.Common.{◌≡◌, ◌∙◌, ℕ, List, Option, Ok, Err, Result, ap, subst, sym}
use Rattle.jdwp_wire.specs.Bytes.{IsBytes}
use Rattle.jdwp_wire.specs.Streams.{Packet, Whole}
use Rattle.jdwp_wire.specs.Widths.{Widths}
use Rattle.jdwp_wire.specs.declared.packet.Header.{Header}
use Rattle.jdwp_end.specs.Ends.{End, front_of}
use Rattle.jdwp_debugger.specs.declared.debugger.Debugger.TheInside.{Inside}
use Rattle.jdwp_debugger.specs.declared.faults.DebuggerFault.{DebuggerFault}
use Rattle.jdwp_debugger.specs.declared.order.Order.{Order}
use Rattle.jdwp_debugger.specs.declared.reading.News as declared
use Rattle.jdwp_debugger.specs.declared.turning.Read.{Read}
use Rattle.jdwp_debugger.specs.Debuggers.{Asked, Debugger, Parked}
use Rattle.jdwp_debugger.specs.DebuggersKept.{view_of}
use Rattle.jdwp_debugger.specs.DebuggerTurns.{EntersAt, FailsTo, HandlesAt, IsSaid, ReadsPacket, news_meaning, reading_of}
use Rattle.jdwp_debugger.specs.News.{Reading}
use Rattle.jdwp_debugger.proofs.TurningLemmas.{fails, handles}
use Rattle.jdwp_debugger.proofs.debugger.Debugger.handle_packet.Goals as goal

abbrev known : Order → Option Widths → List Parked → List Asked → Reading
known order sizes parked pending = record { order = order; sizes = sizes; parked = parked; pending = pending }

-- what packets are read by is what the debugger has
read-by : (s : Inside) (d : Debugger) (parked : List Parked) → parked ≡ s.parked.items → view_of s ≡ d → known s.order s.sizes parked s.pending ≡ reading_of d
read-by s d parked waits is = ap (λ (ps : List Parked). known s.order s.sizes ps s.pending) waits ∙ ap reading_of is

-- a debugger whose end was read is as it was
as-it-was : (s : Inside) (d : Debugger) (end : End) → end ≡ s.end → view_of s ≡ d → record (view_of s) { end = end } ≡ d
as-it-was s d end same is = ap (λ (e : End). record (view_of s) { end = e }) same ∙ is

-- what was read is what is said of the packet in front
said-so : (d : Debugger) (header : Header) (body : List ℕ) (used : ℕ) (news : declared.News) → front_of d.end ≡ Whole (Packet header body) used → ReadsPacket (reading_of d) header body (Ok news)
    → IsSaid d header used (news_meaning news)
said-so d header body used news here (said, wants) = record { body = body; front = here; said = said }

entered-so : (old new : Debugger) (header : Header) (body : List ℕ) (used : ℕ) (news : declared.News) (result : Result Read DebuggerFault) → ReadsPacket (reading_of old) header body (Ok news)
    → EntersAt header body used (news_meaning news) old result new → HandlesAt (Packet header body) used old result new
entered-so old new header body used news result (said, wants) entered = handles header body used old new (news_meaning news) result said wants entered

failed-so : (old new : Debugger) (header : Header) (body : List ℕ) (used : ℕ) (fault : DebuggerFault) (result : Result Read DebuggerFault) → ReadsPacket (reading_of old) header body (Err fault)
    → result ≡ Err fault → FailsTo fault old new → HandlesAt (Packet header body) used old result new
failed-so old new header body used fault result (said, memory) is left =
    subst (λ (r : Result Read DebuggerFault). HandlesAt (Packet header body) used old r new) (sym is) (fails header body old new fault said memory left)

pub read_front-requires : goal.read_front-requires
read_front-requires c = (c.requires.front.0, ap (λ (d : Debugger). front_of d.end) c.self.view_is ∙ c.requires.front.1)

pub enter-requires-clause-said : goal.enter-requires-clause-said
enter-requires-clause-said c =
    let old = c.args.self.now in
    let header = c.args.header in
    let body = c.requires.front.0 in
    let used = c.args.used in
    let here : front_of c.self.inside.end ≡ Whole (Packet header body) used = ap (λ (d : Debugger). front_of d.end) c.self.view_is ∙ c.requires.front.1 in
    let is = read-by c.self.inside old c.deref.result.now c.deref.ensures.value c.self.view_is in
    let now = as-it-was c.self.inside old c.read_front.new.end c.read_front.ensures.same c.self.view_is in
    let read = subst (λ (r : Reading). ReadsPacket r header body (Ok c.in-Ok.news)) is (c.in-Ok.ensures.read body here) in
    subst (λ (d : Debugger). IsSaid d header used (news_meaning c.in-Ok.news)) (sym now) (said-so old header body used c.in-Ok.news c.requires.front.1 read)

pub enter-requires-clause-bytes : goal.enter-requires-clause-bytes
enter-requires-clause-bytes c =
    let now = as-it-was c.self.inside c.args.self.now c.read_front.new.end c.read_front.ensures.same c.self.view_is in
    subst (λ (d : Debugger). IsBytes d.end.incoming) (sym now) c.requires.bytes

pub returns-in-Ok : goal.returns-in-Ok
returns-in-Ok c = λ body e.
    let old = c.args.self.now in
    let header = c.args.header in
    let used = c.args.used in
    let here : front_of c.self.inside.end ≡ Whole (Packet header body) used = ap (λ (d : Debugger). front_of d.end) c.self.view_is ∙ e in
    let is = read-by c.self.inside old c.deref.result.now c.deref.ensures.value c.self.view_is in
    let now = as-it-was c.self.inside old c.read_front.new.end c.read_front.ensures.same c.self.view_is in
    let read = subst (λ (r : Reading). ReadsPacket r header body (Ok c.in-Ok.news)) is (c.in-Ok.ensures.read body here) in
    let entered = subst (λ (d : Debugger). (content : List ℕ) → front_of d.end ≡ Whole (Packet header content) used → EntersAt header content used (news_meaning c.in-Ok.news) d c.enter.result c.enter.new.self) now c.enter.ensures in
    entered-so old c.enter.new.self header body used c.in-Ok.news c.enter.result read (entered body e)

pub returns-in-Err : goal.returns-in-Err
returns-in-Err c = λ body e.
    let old = c.args.self.now in
    let header = c.args.header in
    let used = c.args.used in
    let here : front_of c.self.inside.end ≡ Whole (Packet header body) used = ap (λ (d : Debugger). front_of d.end) c.self.view_is ∙ e in
    let is = read-by c.self.inside old c.deref.result.now c.deref.ensures.value c.self.view_is in
    let now = as-it-was c.self.inside old c.read_front.new.end c.read_front.ensures.same c.self.view_is in
    let read = subst (λ (r : Reading). ReadsPacket r header body (Err c.in-Err.fault)) is (c.in-Err.ensures.read body here) in
    failed-so old c.fail.new.self header body used c.in-Err.fault c.fail.result read c.fail.ensures.fault
    (subst (λ (d : Debugger). FailsTo c.in-Err.fault d c.fail.new.self) now c.fail.ensures.left)
