-- what every debugger keeps, whatever is asked of it and whatever comes
use Rattle.std.proofs.Common.{◌≡◌, ◌<◌, ◌^◌, ℕ, ◌+◌, Bool, true, false, cond, Some, None, List, [], ◌∷◌, ◌++◌, Ok, refl, sym, ◌∙◌, ap, subst}
use Rattle.std.specs.List.{list_any}
use Rattle.std.proofs.lemmas.Bool.{ltb-true}
use Rattle.std.proofs.lemmas.Nat.{mod_below}
use Rattle.jdwp_wire.specs.Limits.{AreLimits, Limits}
use Rattle.jdwp_wire.specs.Streams as streams
use Rattle.jdwp_wire.specs.Streams.{Fault, More, NextMessage, Whole}
use Rattle.jdwp_wire.specs.Widths.{Widths}
use Rattle.jdwp_wire.specs.declared.packet.Header.{Header}
use Rattle.jdwp_end.specs.declared.phase.Phase.{Phase}
use Rattle.jdwp_end.specs.declared.phase.Phase.TheVariants.{AwaitingHandshake, Closed, Established}
use Rattle.jdwp_end.specs.Ends.{front_of, is_open, is_open_phase, is_paused, next_at}
use Rattle.jdwp_machine.specs.Meanings.{Meaning}
use Rattle.jdwp_action.specs.Actions.{Command}
use Rattle.jdwp_mirror.specs.Messages.{Reply, Report, id_sizes}
use Rattle.jdwp_mirror.specs.Mirror.{ends}
use Rattle.jdwp_mirror.specs.Mirrors.{empty_mirror}
use Rattle.jdwp_debugger.specs.Asking.{HasAsked, is_outstanding}
use Rattle.jdwp_debugger.specs.Debuggers as debuggers
use Rattle.jdwp_debugger.specs.Debuggers.{AreDistinct, AreOwn, Asked, Begins, Debugger, IsSizesAlone, new_debugger}
use Rattle.jdwp_debugger.specs.DebuggerTurns as turns
use Rattle.jdwp_debugger.specs.DebuggerTurns.{Enters, IsSaid, Told, closed_where, measured_where, read_meaning}
use Rattle.jdwp_debugger.specs.News.{Answers, Happens, Measures, News, Waits}
use Rattle.jdwp_debugger.specs.declared.turning.Read.{Read}
use Rattle.jdwp_debugger.proofs.Keeping.{distinct-left, distinct-more, distinct-none, own-left, own-more}
use Rattle.jdwp_debugger.proofs.SaidPackets.{answers-within, known-before, knows, measures-within, parks-unknown}
use Rattle.jdwp_link.specs.EventParts.{is_left}
use Rattle.jdwp_across.specs.Programs.{Act, ComesToDebugger, ComesToTarget, Connects, DebuggerAsks, DebuggerLoses, DebuggerNumbers, DebuggerTurns, Does, LeavesDebugger, LeavesTarget, Programs, TargetDefers, TargetLoses, TargetReleases, TargetSteps, TargetTurns, settled}

-- what a link rests on of its debugger, but for how much waits to leave
pub record Keeps (d : Debugger) : Type 0 where
  pub limits : AreLimits d.end.limits.packet d.end.limits.live d.end.limits.requests d.end.limits.pending
  pub distinct : AreDistinct d.pending
  pub own : AreOwn d.pending
  pub begins : d.end.phase ≡ AwaitingHandshake → Begins d
  pub alone : is_open d.end ≡ true → d.sizes ≡ None → IsSizesAlone d.pending
  pub unlearned : d.sizes ≡ None → d.mirror ≡ empty_mirror
  pub unparked : (w : Widths) → d.sizes ≡ Some w → d.parked ≡ []
  pub id : d.next_id < 2 ^ 32

pub new-keeps : (limits : Limits) (id : ℕ) → AreLimits limits.packet limits.live limits.requests limits.pending → id < 2 ^ 32 → Keeps (new_debugger limits id)
new-keeps limits id are small = record {
  limits = are;
  distinct = distinct-none;
  own = tt;
  begins = λ h. absurd (cc);
  alone = λ o e. absurd (cc);
  unlearned = λ h. refl;
  unparked = λ w h. refl;
  id = small;
}

pub attached-keeps : (d : Debugger) → Keeps d → Keeps (debuggers.attached d)
attached-keeps d k = record {
  limits = k.limits;
  distinct = distinct-none;
  own = tt;
  begins = λ h. (refl, refl, refl);
  alone = λ o e. tt;
  unlearned = λ h. refl;
  unparked = λ w h. refl;
  id = k.id;
}

-- bytes come, or leave
fed-keeps : (bytes : List ℕ) (d : Debugger) → Keeps d → Keeps (debuggers.with_fed bytes d)
fed-keeps bytes d k = record { limits = k.limits; distinct = k.distinct; own = k.own; begins = λ h. k.begins h; alone = λ o e. k.alone o e; unlearned = k.unlearned; unparked = k.unparked; id = k.id }

taken-keeps : (bytes : List ℕ) (d : Debugger) → Keeps d → Keeps (debuggers.with_taken bytes d)
taken-keeps bytes d k = record { limits = k.limits; distinct = k.distinct; own = k.own; begins = λ h. k.begins h; alone = λ o e. k.alone o e; unlearned = k.unlearned; unparked = k.unparked; id = k.id }

numbered-keeps : (id : ℕ) (d : Debugger) → id < 2 ^ 32 → Keeps d → Keeps (record d { next_id = id })
numbered-keeps id d small k = record { limits = k.limits; distinct = k.distinct; own = k.own; begins = λ h. k.begins h; alone = λ o e. k.alone o e; unlearned = k.unlearned; unparked = k.unparked; id = small }

lost-keeps : (d : Debugger) → Keeps d → Keeps (debuggers.lost_debugger d)
lost-keeps d k = record {
  limits = k.limits;
  distinct = distinct-none;
  own = tt;
  begins = λ h. absurd (cc);
  alone = λ o e. absurd (cc);
  unlearned = λ h. refl;
  unparked = λ w h. refl;
  id = k.id;
}

settled-keeps : (b : Bool) (d : Debugger) → Keeps d → Keeps (settled b d)
settled-keeps true d k = lost-keeps d k
settled-keeps false d k = k

-- an id of four bytes
some-ids : 0 < 2 ^ 32
some-ids = ltb-true 0 (2 ^ 32) refl

asked-keeps : (c : Command) (d new : Debugger) → HasAsked c d new → Keeps d → Keeps new
asked-keeps c d new h k =
    let p : Asked = record { id = h.id; ticket = Some (record { 0 = d.tickets + 1 }); command = c } in
    subst Keeps (sym h.is)
    (record {
      limits = k.limits;
      distinct = distinct-more d.pending p k.distinct h.next.free;
      own = own-more d.pending p (λ none. absurd (cc)) k.own;
      begins = λ e. let other = sym h.established ∙ e in absurd (cc);
      alone = λ o e. let other = sym h.known ∙ e in absurd (cc);
      unlearned = λ e. let other = sym h.known ∙ e in absurd (cc);
      unparked = k.unparked;
      id = mod_below (h.id + 1) (2 ^ 32) some-ids;
    })

-- ---- a turn

-- where a message stands in front the end is open
open-at : (paused : Bool) (limit : ℕ) (phase : Phase) (bytes : List ℕ) (message : streams.Message) (used : ℕ) → cond paused More (next_at limit phase bytes) ≡ Whole message used → is_open_phase phase ≡ true
open-at true limit phase bytes message used h = absurd (cc)
open-at false limit Closed bytes message used h = absurd (cc)
open-at false limit AwaitingHandshake bytes message used h = refl
open-at false limit Established bytes message used h = refl

greeted-keeps : (used : ℕ) (d : Debugger) → d.pending ≡ [] → Keeps d → Keeps (turns.greeted used d)
greeted-keeps used d none k =
    let p : Asked = record { id = d.next_id; ticket = None; command = id_sizes } in
    record {
      limits = k.limits;
      distinct = distinct-more d.pending p k.distinct (ap (λ (ps : List Asked). is_outstanding ps d.next_id) none);
      own = own-more d.pending p (λ e. refl) k.own;
      begins = λ h. absurd (cc);
      alone = λ o e. subst IsSizesAlone (sym (ap (λ (ps : List Asked). ps ++ p ∷ []) none)) (refl, refl);
      unlearned = k.unlearned;
      unparked = k.unparked;
      id = mod_below (d.next_id + 1) (2 ^ 32) some-ids;
    }

-- the session may end behind a packet
closed-keeps : (b : Bool) (d : Debugger) → Keeps d → Keeps (closed_where b d)
closed-keeps true d k = record {
  limits = k.limits;
  distinct = k.distinct;
  own = k.own;
  begins = λ h. absurd (cc);
  alone = λ o e. absurd (cc);
  unlearned = λ h. refl;
  unparked = λ w h. refl;
  id = k.id;
}
closed-keeps false d k = k

measured-keeps : (b : Bool) (w : Widths) (d : Debugger) → Keeps d → Keeps (measured_where b w d)
measured-keeps true w d k = record {
  limits = k.limits;
  distinct = k.distinct;
  own = k.own;
  begins = λ h. absurd (cc);
  alone = λ o e. absurd (cc);
  unlearned = λ h. absurd (cc);
  unparked = λ v h. refl;
  id = k.id;
}
measured-keeps false w d k = k

-- what a packet leaves, by what it says
enters-keeps : (header : Header) (body : List ℕ) (used : ℕ) (d : Debugger) (t : Told) (after : Debugger) (news : News) → is_open d.end ≡ true → IsSaid d header used news → Enters (streams.Packet header body) used header news d t after
    → Keeps d → Keeps after
enters-keeps header body used d t after (Waits bytes) o said (told, is) k =
    let none = parks-unknown d header used bytes said in
    subst Keeps (sym is)
    (record {
      limits = k.limits;
      distinct = k.distinct;
      own = k.own;
      begins = λ h. absurd (cc);
      alone = λ unshut e. k.alone o none;
      unlearned = k.unlearned;
      unparked = λ w h. let other = sym none ∙ h in absurd (cc);
      id = k.id;
    })
enters-keeps header body used d t after (Happens c) o said (told, (mirror, learned, ledger, follows, is)) k =
    subst Keeps (sym is) (closed-keeps (ends (Report c)) _
    (record {
      limits = k.limits;
      distinct = k.distinct;
      own = k.own;
      begins = λ h. absurd (cc);
      alone = λ unshut none. absurd (knows d header used c said none);
      unlearned = λ none. absurd (knows d header used c said none);
      unparked = k.unparked;
      id = k.id;
    }))
enters-keeps header body used d t after (Answers place ticket answer) o said (told, (mirror, learned, ledger, follows, is)) k =
    subst Keeps (sym is) (closed-keeps (ends (Reply (Some ticket) (turns.command_at place d.pending) answer)) _
    (record {
      limits = k.limits;
      distinct = distinct-left d.pending place (answers-within d header used place ticket answer said) k.distinct;
      own = own-left d.pending place k.own;
      begins = λ h. absurd (cc);
      alone = λ unshut none. absurd (known-before d header used place ticket answer said (k.alone o none));
      unlearned = λ none. absurd (known-before d header used place ticket answer said (k.alone o none));
      unparked = k.unparked;
      id = k.id;
    }))
enters-keeps header body used d t after (Measures place answer w cs) o said (told, (mirror, learned, ledger, follows, is)) k =
    subst Keeps (sym is) (measured-keeps (list_any ends (turns.reports cs)) w _
    (record {
      limits = k.limits;
      distinct = distinct-left d.pending place (measures-within d header used place answer w cs said) k.distinct;
      own = own-left d.pending place k.own;
      begins = λ h. absurd (cc);
      alone = λ unshut h. absurd (cc);
      unlearned = λ h. absurd (cc);
      unparked = λ v h. refl;
      id = k.id;
    }))

handled-keeps : (message : streams.Message) (used : ℕ) (d : Debugger) (r : Read) (after : Debugger) → front_of d.end ≡ Whole message used → turns.HandlesAt message used d (Ok r) after → Keeps d → Keeps after
handled-keeps streams.Handshake used d r after front (told, none, is) k = subst Keeps (sym is) (greeted-keeps used d none k)
handled-keeps (streams.Packet header body) used d r after front h k =
    enters-keeps header body used d (read_meaning r) after h.news (open-at (is_paused d.end) d.end.limits.packet d.end.phase d.end.incoming (streams.Packet header body) used front) (record { body = body; front = front; said = h.said }) h.entered k

pub turn-keeps : (f : NextMessage) (d : Debugger) (r : Read) (after : Debugger) → front_of d.end ≡ f → turns.TurnsAt f d (Ok r) after → Keeps d → Keeps after
turn-keeps (Whole message used) d r after front h k = handled-keeps message used d r after front h k
turn-keeps More d r after front (told, is) k =
    subst Keeps (sym is) (record { limits = k.limits; distinct = k.distinct; own = k.own; begins = λ h. k.begins h; alone = λ o e. k.alone o e; unlearned = k.unlearned; unparked = k.unparked; id = k.id })
turn-keeps (Fault fault) d r after front (told, is) k = absurd (cc)

-- what came is refused
pub refused-keeps : (d : Debugger) → Keeps d → Keeps (turns.refused d)
refused-keeps d k = record {
  limits = k.limits;
  distinct = k.distinct;
  own = k.own;
  begins = λ h. absurd (cc);
  alone = λ o e. absurd (cc);
  unlearned = λ h. refl;
  unparked = λ w h. refl;
  id = k.id;
}

-- ---- an act

same-keeps : {S : Type 0} (old new : Programs S) → new.debugger ≡ old.debugger → Keeps old.debugger → Keeps new.debugger
same-keeps old new same k = subst Keeps (sym same) k

pub act-keeps : {S : Type 0} (m : Meaning S) (act : Act) (old new : Programs S) → Does m act old new → Keeps old.debugger → Keeps new.debugger
act-keeps m Connects old new (shut, unheard, lives, is) k = subst (λ v. Keeps v.debugger) (sym is) (attached-keeps old.debugger k)
act-keeps m (ComesToTarget bytes) old new is k = subst (λ v. Keeps v.debugger) (sym is) k
act-keeps m (LeavesTarget bytes) old new is k = subst (λ v. Keeps v.debugger) (sym is) k
act-keeps m (TargetTurns turn) old new (so, encoded, sends, same) k = same-keeps old new same k
act-keeps m (TargetReleases place turn) old new (so, encoded, sends, same) k = same-keeps old new same k
act-keeps m (TargetSteps t stepped) old new (so, encoded, sends, same) k = same-keeps old new same k
act-keeps m (TargetDefers deferring) old new is k = subst (λ v. Keeps v.debugger) (sym is) k
act-keeps m TargetLoses old new is k = subst (λ v. Keeps v.debugger) (sym is) k
act-keeps m (ComesToDebugger bytes) old new is k = subst (λ v. Keeps v.debugger) (sym is) (fed-keeps bytes old.debugger k)
act-keeps m (LeavesDebugger bytes) old new is k = subst (λ v. Keeps v.debugger) (sym is) (taken-keeps bytes old.debugger k)
act-keeps m (DebuggerAsks c ticket) old new (free-to-ask, given, h, same) k = asked-keeps c old.debugger new.debugger h k
act-keeps m (DebuggerNumbers id) old new (small, is) k = subst (λ v. Keeps v.debugger) (sym is) (numbered-keeps id old.debugger small k)
act-keeps m (DebuggerTurns r lost) old new (after, so, gone, is) k = subst (λ v. Keeps v.debugger) (sym is) (settled-keeps (is_left after) after (turn-keeps (front_of old.debugger.end) old.debugger r after refl so k))
act-keeps m (DebuggerLoses lost) old new (gone, is) k = subst (λ v. Keeps v.debugger) (sym is) (lost-keeps old.debugger k)
