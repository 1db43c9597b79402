use Rattle.std.proofs.Common.{◌≡◌, ◌∙◌, ◌<◌, ◌≤◌, ◌++◌, [], ◌∷◌, List, Option, Some, ap, sym, subst, length, arith}
use Rattle.std.specs.Prelude.{remove}
use Rattle.jdwp_wire.specs.Bytes.{IsBytes}
use Rattle.jdwp_wire.specs.Streams.{Packet}
use Rattle.jdwp_end.specs.Ends.{End, front_of, with_handled}
use Rattle.jdwp_mirror.specs.Faults.{PARKED_MOST}
use Rattle.jdwp_debugger.specs.Debuggers.{AreDistinct, AreOwn, Asked, Debugger, Parked}
use Rattle.jdwp_debugger.specs.DebuggersKept.{view_of}
use Rattle.jdwp_debugger.specs.DebuggerTurns.{GoesOnBy, IsSaid, TellsSizes, heads_of, measured_where, reading_of, reply_head, with_ledger, with_sizes}
use Rattle.jdwp_debugger.specs.Histories.{reading_after}
use Rattle.jdwp_debugger.specs.News.{Measures, Reading}
use Rattle.jdwp_debugger.specs.Runs.{HasRun}
use Rattle.jdwp_mirror.specs.Messages.{id_sizes}
use Rattle.jdwp_debugger.proofs.Keeping.{distinct-left, few-left, own-left}
use Rattle.jdwp_apart.specs.Following.{Following}
use Rattle.jdwp_debugger.specs.FollowingKept.{IsCounted, IsFirstOf, following_of}
use Rattle.jdwp_debugger.proofs.Followed.{first-none, sizes-follow}
use Rattle.jdwp_debugger.proofs.SaidPackets.{measures-bare, measures-first-time, measures-within, said-open, said-ran}
use Rattle.jdwp_debugger.proofs.Still.{established, some-not}
use Rattle.jdwp_debugger.proofs.debugger.Debugger.take_sizes.Goals as goal

pub take_off-requires : goal.take_off-requires
take_off-requires c = (Packet c.args.packet.0 c.requires.told.said.body, ap (λ (d : Debugger). front_of d.end) c.self.view_is ∙ c.requires.told.said.front)

pub remove-requires : goal.remove-requires
remove-requires c =
    let s = c.self.inside in
    let answer = c.requires.told.answer in
    let cs = c.requires.told.composites in
    let said = subst (λ (d : Debugger). IsSaid d c.args.packet.0 c.args.packet.1 (Measures c.args.place answer c.args.sizes cs)) (sym c.self.view_is) c.requires.told.said in
    let within : c.args.place < length s.pending = measures-within (view_of s) c.args.packet.0 c.args.packet.1 c.args.place answer c.args.sizes cs said in
    within

pub set_sizes-requires : goal.set_sizes-requires
set_sizes-requires c = subst (λ (ps : List Parked). length ps ≤ PARKED_MOST) (sym c.deref.ensures.value) c.self.invariant.few_parked

pub invariant_of-self : goal.invariant_of-self
invariant_of-self c =
    let s = c.self.inside in
    let kept = c.self.invariant in
    let header = c.args.packet.0 in
    let used = c.args.packet.1 in
    let place = c.args.place in
    let w = c.args.sizes in
    let ps = s.pending in
    let told : TellsSizes (view_of s) header used place w c.args.learned.mirror c.args.learned.ledger = subst (λ (d : Debugger). TellsSizes d header used place w c.args.learned.mirror c.args.learned.ledger) (sym c.self.view_is) c.requires.told in
    let answer = told.answer in
    let cs = told.composites in
    let news = Measures place answer w cs in
    let said : IsSaid (view_of s) header used news = told.said in
    let bytes : IsBytes s.end.incoming = subst (λ (d : Debugger). IsBytes d.end.incoming) (sym c.self.view_is) c.requires.bytes in
    let end : End = with_handled (Packet header said.body) used s.end in
    let read : c.take_off.new.self ≡ end = c.take_off.ensures (Packet header said.body) said.front in
    let left : c.remove.new.self ≡ remove ps place = c.remove.ensures in
    let within : place < length ps = measures-within (view_of s) header used place answer w cs said in
    let now : Reading = record { order = s.order; sizes = Some w; parked = c.clear.new.self.items; pending = c.remove.new.self } in
    let settled : now ≡ reading_after header news (reading_of (view_of s)) = (λ j. record { order = s.order; sizes = Some w; parked = c.clear.ensures.items j; pending = left j }) in
    let unknown = measures-first-time (view_of s) header used place answer w cs bytes said kept.ran in
    let bare = measures-bare (view_of s) header used place answer w cs said in
    let opened = said-open (view_of s) header used news bytes said in
    let follows = sizes-follow s.order s.ledger c.args.learned.ledger s.sizes w ps place bare.0 answer cs (kept.alone opened unknown) bare.1 (kept.at_first opened unknown) told.followed in
    let few_parked : length c.clear.new.self.items ≤ PARKED_MOST = subst (λ (ps : List Parked). length ps ≤ PARKED_MOST) (sym c.clear.ensures.items) (omega arith) in
    rw read
    (record {
      limits = kept.limits;
      few = subst (λ (qs : List Asked). length qs ≤ s.end.limits.pending) (sym left) (few-left ps place s.end.limits.pending within kept.few);
      few_parked = few_parked;
      distinct = subst AreDistinct (sym left) (distinct-left ps place within kept.distinct);
      own = subst AreOwn (sym left) (own-left ps place kept.own);
      begins = λ e. absurd (established e);
      alone = λ opened none. absurd (some-not w none);
      unlearned = λ none. absurd (some-not w none);
      unparked = λ v known. c.clear.ensures.items;
      unfollowed = λ one. first-none s.order answer cs c.args.learned.ledger one told.followed;
      counted = subst (IsCounted c.args.learned.ledger w) (sym left) follows.1;
      at_first = λ opened none. absurd (some-not w none);
      ran = subst (λ (r : Reading). HasRun s.order end s.tickets r c.args.learned.mirror (following_of c.args.learned.ledger (Some w) c.remove.new.self)) (sym settled)
          (subst (λ (f : Option Following). HasRun s.order end s.tickets (reading_after header news (reading_of (view_of s))) c.args.learned.mirror f) (sym (ap (following_of c.args.learned.ledger (Some w)) left ∙ follows.0))
          (said-ran (view_of s) header used news c.args.learned.mirror bytes said told.unrefused told.learned kept.ran));
    })

pub returns-clause-left : goal.returns-clause-left
returns-clause-left c = λ content front.
    let s = c.self.inside in
    let header = c.args.packet.0 in
    let used = c.args.packet.1 in
    let place = c.args.place in
    let w = c.args.sizes in
    let front_here = ap (λ (d : Debugger). front_of d.end) c.self.view_is ∙ front in
    let taken : c.take_off.new.self ≡ with_handled (Packet header content) used s.end = c.take_off.ensures (Packet header content) front_here in
    let left : c.remove.new.self ≡ remove s.pending place = c.remove.ensures in
    let last : c.set_sizes.new.self ≡ heads_of s.parked.items ++ reply_head header id_sizes ∷ [] = c.set_sizes.ensures ∙ ap (λ (ps : List Parked). heads_of ps ++ reply_head header id_sizes ∷ []) c.deref.ensures.value in
    let at : Debugger → Debugger = λ d. with_ledger c.args.learned.ledger (with_sizes (Packet header content) used header place c.args.learned.mirror w d) in
    let whole : record (view_of s) {
      end = c.take_off.new.self;
      mirror = c.args.learned.mirror;
      sizes = Some w;
      parked = c.clear.new.self.items;
      pending = c.remove.new.self;
      last = c.set_sizes.new.self;
      ledger = c.args.learned.ledger;
    } ≡ at (view_of s) = (λ j. record (view_of s) {
      end = taken j;
      mirror = c.args.learned.mirror;
      sizes = Some w;
      parked = c.clear.ensures.items j;
      pending = left j;
      last = last j;
      ledger = c.args.learned.ledger;
    }) in
    c.close_measured.ensures ∙ ap (measured_where c.args.closes w) (whole ∙ ap at c.self.view_is)

pub returns-clause-followed : goal.returns-clause-followed
returns-clause-followed c = λ told.
    let s = c.self.inside in
    let kept = c.self.invariant in
    let header = c.args.packet.0 in
    let used = c.args.packet.1 in
    let place = c.args.place in
    let w = c.args.sizes in
    let answer = told.answer in
    let cs = told.composites in
    let said = subst (λ (d : Debugger). IsSaid d header used (Measures place answer w cs)) (sym c.self.view_is) told.said in
    let first = subst (λ (d : Debugger). IsFirstOf d.order answer cs c.args.learned.ledger) (sym c.self.view_is) told.followed in
    let bytes : IsBytes s.end.incoming = subst (λ (d : Debugger). IsBytes d.end.incoming) (sym c.self.view_is) c.requires.bytes in
    let unknown = measures-first-time (view_of s) header used place answer w cs bytes said kept.ran in
    let bare = measures-bare (view_of s) header used place answer w cs said in
    let opened = said-open (view_of s) header used (Measures place answer w cs) bytes said in
    let follows = sizes-follow s.order s.ledger c.args.learned.ledger s.sizes w s.pending place bare.0 answer cs (kept.alone opened unknown) bare.1 (kept.at_first opened unknown) first in
    subst (λ (d : Debugger). GoesOnBy (Measures place answer w cs) d c.args.learned.ledger) c.self.view_is follows.0
