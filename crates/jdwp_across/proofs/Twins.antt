-- a debugger of a target whose replies and composites come apart does what one does that takes packets in the order of the acts, but for what it
-- learns
use Rattle.std.proofs.Common.{◌≡◌, ℕ, inl, inr, Bool, true, false, cond, Option, Some, None, List, [], ◌∷◌, ◌++◌, Ok, refl, sym, ◌∙◌, ap, subst}
use Rattle.std.specs.Prelude.{fold, remove}
use Rattle.std.specs.List.{list_any}
use Rattle.jdwp_wire.specs.Streams as streams
use Rattle.jdwp_wire.specs.Streams.{More, NextMessage, Whole}
use Rattle.jdwp_wire.specs.Widths.{Widths}
use Rattle.jdwp_wire.specs.declared.packet.Header.{Header}
use Rattle.jdwp_end.specs.Ends.{front_of, is_open}
use Rattle.jdwp_event.specs.Composites.{CompositeMeaning}
use Rattle.jdwp_machine.specs.Meanings.{Meaning}
use Rattle.jdwp_action.specs.Actions.{Command}
use Rattle.jdwp_apart.specs.Following.{answered_to, reported_to}
use Rattle.jdwp_debuggee.specs.Settings.{Settings}
use Rattle.jdwp_mirror.specs.KnownThreads.{AreSound}
use Rattle.jdwp_mirror.specs.Messages.{Message, Reply, Report}
use Rattle.jdwp_mirror.specs.Mirror.{ends}
use Rattle.jdwp_mirror.specs.Mirrors.{Mirror, empty_mirror}
use Rattle.jdwp_watch.specs.Ledgers.{Account, put_of}
use Rattle.jdwp_debugger.proofs.Followed.{put-none}
use Rattle.jdwp_debugger.specs.Asking.{HasAsked, asked, refusal_by}
use Rattle.jdwp_debugger.specs.Debuggers.{Debugger}
use Rattle.jdwp_debugger.specs.DebuggerTurns as turns
use Rattle.jdwp_debugger.specs.DebuggerTurns.{Enters, Told, closed_where, measured_where, read_meaning, refusal_by as news_refused}
use Rattle.jdwp_debugger.specs.News.{Answers, Happens, Measures, News, Waits, widths_by}
use Rattle.jdwp_debugger.specs.declared.asking.Refused.TheVariants as refused
use Rattle.jdwp_debugger.specs.declared.heads.Head.TheVariants as head
use Rattle.jdwp_debugger.specs.declared.order.Order.TheVariants.{One}
use Rattle.jdwp_debugger.specs.declared.turning.Read.{Read}
use Rattle.jdwp_link.specs.EventParts.{is_left}
use Rattle.jdwp_link.specs.Laws.{HoldsOfWorlds, Laws}
use Rattle.jdwp_link.proofs.Unrefused.{IsUnrefused}
use Rattle.jdwp_model.specs.World.{World, opening}
use Rattle.jdwp_across.specs.Acting.{both}
use Rattle.jdwp_across.specs.Apart.{programs_apart}
use Rattle.jdwp_across.specs.Headline.{MayStart}
use Rattle.jdwp_across.specs.Merges.{Agrees}
use Rattle.jdwp_across.specs.Programs.{Act, ComesToDebugger, ComesToTarget, Connects, DebuggerAsks, DebuggerLoses, DebuggerNumbers, DebuggerTurns, Does, LeavesDebugger, LeavesTarget, Programs, TargetDefers, TargetLoses, TargetReleases, TargetSteps, TargetTurns, lost_with, settled}
use Rattle.jdwp_across.proofs.Fronts.{SaysSo, has-front}
use Rattle.jdwp_across.proofs.Keeping.{act-keeps}
use Rattle.jdwp_across.proofs.Learns.{learns-answer, learns-report, learns-waited, sound-none}
use Rattle.jdwp_across.proofs.Standing.{Standing}
use Rattle.jdwp_across.proofs.Theorems.{leads-on, opening-stands}

-- as one that takes packets in the order of the acts, and learned this
abbrev pub as_one : Mirror → Debugger → Debugger
as_one mirror d = record d { order = One; mirror = mirror; ledger = None }

abbrev pub twin : {S : Type 0} → Mirror → Programs S → Programs S
twin mirror v = both v.target (as_one mirror v.debugger)

-- ---- as the session ends or goes on

abbrev unless : Bool → Mirror → Mirror
unless b mirror = cond b empty_mirror mirror

sound-unless : (b : Bool) (mirror : Mirror) → AreSound mirror.threads → AreSound (unless b mirror).threads
sound-unless true mirror s = sound-none
sound-unless false mirror s = s

one-closed : (b : Bool) (mirror : Mirror) (d : Debugger) → as_one (unless b mirror) (closed_where b d) ≡ closed_where b (as_one mirror d)
one-closed true mirror d = refl
one-closed false mirror d = refl

one-measured : (b : Bool) (w : Widths) (mirror : Mirror) (d : Debugger) → as_one (unless b mirror) (measured_where b w d) ≡ measured_where b w (as_one mirror d)
one-measured true w mirror d = refl
one-measured false w mirror d = refl

one-settled : (b : Bool) (mirror : Mirror) (d : Debugger) → as_one (unless b mirror) (settled b d) ≡ settled b (as_one mirror d)
one-settled true mirror d = refl
one-settled false mirror d = refl

one-lost : (b : Bool) (mirror : Mirror) (d : Debugger) → lost_with b d ≡ lost_with b (as_one mirror d)
one-lost true mirror d = refl
one-lost false mirror d = refl

-- ---- a turn

-- nothing is followed
pub fold-none : (cs : List CompositeMeaning) → fold reported_to None cs ≡ None
fold-none [] = refl
fold-none (c ∷ cs) = fold-none cs

record EntersOne (header : Header) (body : List ℕ) (used : ℕ) (news : News) (d : Debugger) (t : Told) (after : Debugger) (mirror : Mirror) : Type 0 where
  new : Mirror
  sound : AreSound new.threads
  entered : Enters (streams.Packet header body) used header news (as_one mirror d) t (as_one new after)

enters-one : (header : Header) (body : List ℕ) (used : ℕ) (news : News) (d : Debugger) (t : Told) (after : Debugger) (mirror : Mirror) → AreSound mirror.threads → Enters (streams.Packet header body) used header news d t after → EntersOne header body used news d t after mirror
enters-one header body used (Waits bytes) d t after mirror sound (told, is) = record { new = mirror; sound = sound; entered = (told, ap (as_one mirror) is) }
enters-one header body used (Happens c) d t after mirror sound (told, (learned, learns, ledger, follows, is)) =
    let l = learns-report mirror c sound in
    let b = ends (Report c) in
    let base = record (turns.with_read (streams.Packet header body) used (head.Composite header ∷ []) d) { mirror = learned; ledger = ledger } in
    record {
      new = unless b l.mirror;
      sound = sound-unless b l.mirror l.sound;
      entered = (told, (l.mirror, l.learned, None, refl, ap (as_one (unless b l.mirror)) is ∙ one-closed b l.mirror base));
    }
enters-one header body used (Answers place ticket answer) d t after mirror sound (told, (learned, learns, ledger, follows, is)) =
    let c = turns.command_at place d.pending in
    let l = learns-answer mirror (Some ticket) c answer sound in
    let b = ends (Reply (Some ticket) c answer) in
    let base = record (turns.with_read (streams.Packet header body) used (turns.reply_head header c ∷ []) d) { mirror = learned; pending = remove d.pending place; ledger = ledger } in
    record {
      new = unless b l.mirror;
      sound = sound-unless b l.mirror l.sound;
      entered = (told, (l.mirror, l.learned, None, refl, ap (as_one (unless b l.mirror)) is ∙ one-closed b l.mirror base));
    }
enters-one header body used (Measures place answer w cs) d t after mirror sound (told, (learned, learns, ledger, follows, is)) =
    let c = turns.command_at place d.pending in
    let l = learns-waited empty_mirror cs None c answer sound-none in
    let b = list_any ends (turns.reports cs) in
    let base = turns.with_ledger ledger (turns.with_sizes (streams.Packet header body) used header place learned w d) in
    record {
      new = unless b l.mirror;
      sound = sound-unless b l.mirror l.sound;
      entered = (told, (l.mirror, l.learned, None, ap (λ f. answered_to (widths_by d.sizes) (turns.is_next place d.pending) c answer f) (sym (fold-none cs)), ap (as_one (unless b l.mirror)) is ∙ one-measured b w l.mirror base));
    }

-- the same turn
pub record TurnsOne (f : NextMessage) (d : Debugger) (r : Read) (after : Debugger) (mirror : Mirror) : Type 0 where
  pub new : Mirror
  pub sound : AreSound new.threads
  pub so : turns.TurnsAt f (as_one mirror d) (Ok r) (as_one new after)

handles-one : {S : Type 0} (x : World S) (message : Message) (sent : streams.Message) (used : ℕ) (d : Debugger) (r : Read) (after : Debugger) (mirror : Mirror) → AreSound mirror.threads
    → SaysSo x (as_one mirror d) message sent → IsUnrefused (as_one mirror d) sent → turns.HandlesAt sent used d (Ok r) after → TurnsOne (Whole sent used) d r after mirror
handles-one x message streams.Handshake used d r after mirror sound so free (told, none, is) = record { new = mirror; sound = sound; so = (told, none, ap (as_one mirror) is) }
handles-one x message (streams.Packet header body) used d r after mirror sound (news, said, so) free h =
    let same : Ok h.news ≡ Ok news = sym h.said ∙ said d.order in
    let e : h.news ≡ news = cc in
    let one = enters-one header body used news d (read_meaning r) after mirror sound (subst (λ n. Enters (streams.Packet header body) used header n d (read_meaning r) after) e h.entered) in
    record { new = one.new; sound = one.sound; so = record { news = news; said = said One; unrefused = sym (ap (news_refused One mirror) (said One)) ∙ free; entered = one.entered } }

more-one : (d : Debugger) (r : Read) (after : Debugger) (mirror : Mirror) → AreSound mirror.threads → turns.TurnsAt More d (Ok r) after → TurnsOne More d r after mirror
more-one d r after mirror sound (told, is) = record { new = mirror; sound = sound; so = (told, ap (as_one mirror) is) }

pub turns-one : {S : Type 0} (m : Meaning S) (settings : Settings) (w : Widths) (first : World S) (acts : List Act) (old : Programs S) (mirror : Mirror) (r : Read) (after : Debugger) → Laws m → AreSound mirror.threads → Standing m settings w first acts (twin mirror old)
    → turns.TurnsAt (front_of old.debugger.end) old.debugger (Ok r) after → TurnsOne (front_of old.debugger.end) old.debugger r after mirror
turns-one m settings w first acts old mirror r after laws sound b so =
    let d = old.debugger in
    elim (has-front m settings w first acts (twin mirror old) laws b) [
      | inl more ↦ subst (λ f. TurnsOne f d r after mirror) (sym more) (more-one d r after mirror sound (subst (λ f. turns.TurnsAt f d (Ok r) after) more so))
      | inr h ↦ subst (λ f. TurnsOne f d r after mirror) (sym h.front)
          (handles-one b.world h.packet.0 _ _ d r after mirror sound h.says h.unrefused (subst (λ f. turns.TurnsAt f d (Ok r) after) h.front so))
    ]

-- ---- a command

refuses-by : (o : Option Widths) (mirror : Mirror) (d : Debugger) (c : Command) → refusal_by o d c ≡ None → refusal_by o (as_one mirror d) c ≡ None
refuses-by None mirror d c h = h
refuses-by (Some w) mirror d c h = h

refuses-one : (b : Bool) (mirror : Mirror) (d : Debugger) (c : Command) → cond b (refusal_by d.sizes d c) (Some refused.Closed) ≡ None → cond b (refusal_by d.sizes (as_one mirror d) c) (Some refused.Closed) ≡ None
refuses-one true mirror d c h = refuses-by d.sizes mirror d c h
refuses-one false mirror d c h = h

asks-one : (mirror : Mirror) (d new : Debugger) (c : Command) → HasAsked c d new → HasAsked c (as_one mirror d) (as_one mirror new)
asks-one mirror d new c h = record {
  established = h.established;
  widths = h.widths;
  known = h.known;
  id = h.id;
  next = h.next;
  encoded = h.encoded;
  sendable = h.sendable;
  is = ap (as_one mirror) h.is ∙ ap (λ (l : Option Account). record (as_one mirror (asked h.widths h.id c d)) { ledger = l }) (sym (put-none (put_of c) None refl));
}

-- ---- each act

-- the twins do the same
record LeadsOne {S : Type 0} (m : Meaning S) (act : Act) (old new : Programs S) (mirror : Mirror) : Type 0 where
  after : Mirror
  sound : AreSound after.threads
  does : Does m act (twin mirror old) (twin after new)

leads-one : {S : Type 0} (m : Meaning S) (settings : Settings) (w : Widths) (first : World S) (acts : List Act) (act : Act) (old new : Programs S) (mirror : Mirror) → Laws m → AreSound mirror.threads → Standing m settings w first acts (twin mirror old) → Does m act old new → LeadsOne m act old new mirror
leads-one m settings w first acts Connects old new mirror laws sound b (shut, unheard, lives, is) = record { after = empty_mirror; sound = sound-none; does = (shut, unheard, lives, ap (twin empty_mirror) is) }
leads-one m settings w first acts (ComesToTarget bytes) old new mirror laws sound b is = record { after = mirror; sound = sound; does = ap (twin mirror) is }
leads-one m settings w first acts (LeavesTarget bytes) old new mirror laws sound b is = record { after = mirror; sound = sound; does = ap (twin mirror) is }
leads-one m settings w first acts (TargetTurns turn) old new mirror laws sound b (so, encoded, sends, same) = record { after = mirror; sound = sound; does = (so, encoded, sends, ap (as_one mirror) same) }
leads-one m settings w first acts (TargetReleases place turn) old new mirror laws sound b (so, encoded, sends, same) = record { after = mirror; sound = sound; does = (so, encoded, sends, ap (as_one mirror) same) }
leads-one m settings w first acts (TargetSteps t stepped) old new mirror laws sound b (so, encoded, sends, same) = record { after = mirror; sound = sound; does = (so, encoded, sends, ap (as_one mirror) same) }
leads-one m settings w first acts (TargetDefers deferring) old new mirror laws sound b is = record { after = mirror; sound = sound; does = ap (twin mirror) is }
leads-one m settings w first acts TargetLoses old new mirror laws sound b is = record { after = mirror; sound = sound; does = ap (twin mirror) is }
leads-one m settings w first acts (ComesToDebugger bytes) old new mirror laws sound b is = record { after = mirror; sound = sound; does = ap (twin mirror) is }
leads-one m settings w first acts (LeavesDebugger bytes) old new mirror laws sound b is = record { after = mirror; sound = sound; does = ap (twin mirror) is }
leads-one m settings w first acts (DebuggerAsks c ticket) old new mirror laws sound b (free, given, asked, same) = record {
  after = mirror;
  sound = sound;
  does = (refuses-one (is_open old.debugger.end) mirror old.debugger c free, given, asks-one mirror old.debugger new.debugger c asked, same);
}
leads-one m settings w first acts (DebuggerNumbers id) old new mirror laws sound b (small, is) = record { after = mirror; sound = sound; does = (small, ap (twin mirror) is) }
leads-one m settings w first acts (DebuggerTurns r lost) old new mirror laws sound b (after, so, gone, is) =
    let t = turns-one m settings w first acts old mirror r after laws sound b so in
    let left = is_left after in
    record {
      after = unless left t.new;
      sound = sound-unless left t.new t.sound;
      does = (as_one t.new after, t.so, gone ∙ one-lost left t.new after, ap (twin (unless left t.new)) is ∙ ap (both old.target) (one-settled left t.new after));
    }
leads-one m settings w first acts (DebuggerLoses lost) old new mirror laws sound b (gone, is) = record { after = empty_mirror; sound = sound-none; does = (gone, ap (twin empty_mirror) is) }

-- ---- every merge

-- the twins stand for a world
pub record Stands {S : Type 0} (m : Meaning S) (settings : Settings) (w : Widths) (first : World S) (acts : List Act) (v : Programs S) : Type 0 where
  pub mirror : Mirror
  pub sound : AreSound mirror.threads
  pub standing : Standing m settings w first acts (twin mirror v)

pub first-stands : {S : Type 0} (m : Meaning S) → HoldsOfWorlds m → (settings : Settings) (s : S) (id : ℕ) → MayStart m settings s id → Stands m settings (m.sizes s) (opening m s) [] (programs_apart m settings s id)
first-stands m worlds settings s id may = record { mirror = empty_mirror; sound = sound-none; standing = opening-stands m worlds settings s id may }

pub stands-on : {S : Type 0} (m : Meaning S) (settings : Settings) (w : Widths) (first : World S) (acts : List Act) (act : Act) (old new : Programs S) → Laws m → Stands m settings w first acts old → Does m act old new → Agrees new → Stands m settings w first (acts ++ act ∷ []) new
stands-on m settings w first acts act old new laws h does agrees =
    let l = leads-one m settings w first acts act old new h.mirror laws h.sound h.standing does in
    let agree : Agrees (twin l.after new) = record { to_target = agrees.to_target; to_debugger = agrees.to_debugger } in
    let on = leads-on m settings w first acts act (twin h.mirror old) (twin l.after new) laws h.standing agree l.does in
    record {
      mirror = l.after;
      sound = l.sound;
      standing = record { onward = h.standing.onward; world = on.world; stands = on.stands; keeps = act-keeps m act (twin h.mirror old) (twin l.after new) l.does h.standing.keeps; agrees = agree };
    }
