-- a debugger that is closed, or that read nothing, knows nobody
use Rattle.std.proofs.Common.{◌≡◌, ℕ, Bool, true, false, List, [], ◌∷◌, ◌++◌, remove, Some, Ok, refl, sym, ◌∙◌, ap, subst}
use Rattle.std.specs.List.{list_any}
use Rattle.jdwp_wire.specs.Streams as streams
use Rattle.jdwp_wire.specs.Streams.{Fault, More, NextMessage, Whole}
use Rattle.jdwp_wire.specs.Widths.{Widths}
use Rattle.jdwp_wire.specs.declared.packet.Header.{Header}
use Rattle.jdwp_end.specs.Ends.{End, front_of, is_open, is_open_phase}
use Rattle.jdwp_machine.specs.Meanings.{Meaning}
use Rattle.jdwp_mirror.specs.Messages.{Reply, Report}
use Rattle.jdwp_mirror.specs.Mirror.{ends}
use Rattle.jdwp_mirror.specs.Mirrors.{empty_mirror}
use Rattle.jdwp_target.specs.Targets.{Target}
use Rattle.jdwp_debugger.specs.Debuggers.{Debugger, with_fed}
use Rattle.jdwp_debugger.specs.DebuggerTurns as turns
use Rattle.jdwp_debugger.specs.DebuggerTurns.{Enters, HandlesAt, Told, TurnsAt, closed_where, measured_where, read_meaning}
use Rattle.jdwp_debugger.specs.News.{Answers, Happens, Measures, News, Waits}
use Rattle.jdwp_debugger.specs.declared.turning.Read.{Read}
use Rattle.jdwp_link.specs.EventParts.{is_left}
use Rattle.jdwp_across.specs.Merges as merging
use Rattle.jdwp_across.specs.Merges.{Merged, Start}
use Rattle.jdwp_across.specs.Programs.{Act, ComesToDebugger, ComesToTarget, Connects, DebuggerAsks, DebuggerLoses, DebuggerNumbers, DebuggerTurns, Does, LeavesDebugger, LeavesTarget, Programs, TargetDefers, TargetLoses, TargetReleases, TargetSteps, TargetTurns, settled}
use Rattle.jdwp_across.specs.Acting.{DebuggerRuns, Move, both, is_of_debugger, last_of}
use Rattle.jdwp_across.specs.Meeting.{NothingCame}
use Rattle.jdwp_across.proofs.Turning.{none-turns}

-- ---- one that is closed

pub Forgets : Debugger → Type 0
Forgets d = is_open d.end ≡ false → d.mirror ≡ empty_mirror

pub none-forgets : (d : Debugger) → d.mirror ≡ empty_mirror → Forgets d
unfolding Forgets
none-forgets d none shut = none

pub forgets-shut : (d : Debugger) → Forgets d → is_open d.end ≡ false → d.mirror ≡ empty_mirror
unfolding Forgets
forgets-shut d h shut = h shut

open-forgets : (d : Debugger) → is_open d.end ≡ true → Forgets d
unfolding Forgets
open-forgets d opened shut = absurd (let both = sym opened ∙ shut in cc)

closed-forgets : (b : Bool) (d : Debugger) → is_open d.end ≡ true → Forgets (closed_where b d)
unfolding Forgets
closed-forgets true d opened shut = refl
closed-forgets false d opened shut = absurd (let both = sym opened ∙ shut in cc)

measured-forgets : (b : Bool) (w : Widths) (d : Debugger) → is_open d.end ≡ true → Forgets (measured_where b w d)
unfolding Forgets
measured-forgets true w d opened shut = refl
measured-forgets false w d opened shut = absurd (let both = sym opened ∙ shut in cc)

settled-forgets : (b : Bool) (d : Debugger) → Forgets d → Forgets (settled b d)
unfolding Forgets
settled-forgets true d h shut = refl
settled-forgets false d h shut = h shut

enters-forgets : (message : streams.Message) (used : ℕ) (header : Header) (news : News) (old new : Debugger) (told : Told) → Enters message used header news old told new → Forgets new
enters-forgets message used header (Waits bytes) old new told (tells, is) = subst Forgets (sym is) (open-forgets _ refl)
enters-forgets message used header (Happens c) old new told (tells, (mirror, learned, ledger, follows, is)) =
    let mid = record (turns.with_read message used _ old) { mirror = mirror; ledger = ledger } in
    subst Forgets (sym is) (closed-forgets (ends (Report c)) mid refl)
enters-forgets message used header (Answers place ticket answer) old new told (tells, (mirror, learned, ledger, follows, is)) =
    let mid = record (turns.with_read message used _ old) { mirror = mirror; pending = remove old.pending place; ledger = ledger } in
    subst Forgets (sym is) (closed-forgets (ends (Reply (Some ticket) (turns.command_at place old.pending) answer)) mid refl)
enters-forgets message used header (Measures place answer w cs) old new told (tells, (mirror, learned, ledger, follows, is)) =
    let mid = turns.with_ledger ledger (turns.with_sizes message used header place mirror w old) in
    subst Forgets (sym is) (measured-forgets (list_any ends (turns.reports cs)) w mid refl)

handles-forgets : (message : streams.Message) (used : ℕ) (old new : Debugger) (r : Read) → HandlesAt message used old (Ok r) new → Forgets new
handles-forgets streams.Handshake used old new r h = subst Forgets (sym h.2) (open-forgets (turns.greeted used old) refl)
handles-forgets (streams.Packet header body) used old new r h = enters-forgets (streams.Packet header body) used header h.news old new (read_meaning r) h.entered

pub turn-forgets : (next : NextMessage) (old new : Debugger) (r : Read) → TurnsAt next old (Ok r) new → Forgets old → Forgets new
unfolding Forgets
turn-forgets (Whole message used) old new r h before shut = handles-forgets message used old new r h shut
turn-forgets More old new r h before shut = subst (λ (d : Debugger). is_open d.end ≡ false → d.mirror ≡ empty_mirror) (sym h.1) before shut
turn-forgets (Fault fault) old new r h before shut = absurd (let e = h.0 in cc)

pub same-forgets : (old new : Debugger) → new.end.phase ≡ old.end.phase → new.mirror ≡ old.mirror → Forgets old → Forgets new
unfolding Forgets
same-forgets old new phase mirror h shut = mirror ∙ h (ap (λ p. is_open_phase p) (sym phase) ∙ shut)

pub act-forgets : {S : Type 0} (m : Meaning S) (act : Act) (old new : Programs S) → Does m act old new → Forgets old.debugger → Forgets new.debugger
unfolding Forgets
act-forgets m Connects old new (shut, unheard, lives, is) h = subst (λ v. Forgets v.debugger) (sym is) (λ closed. refl)
act-forgets m (ComesToTarget bytes) old new is h = subst (λ v. Forgets v.debugger) (sym is) h
act-forgets m (LeavesTarget bytes) old new is h = subst (λ v. Forgets v.debugger) (sym is) h
act-forgets m (TargetTurns turn) old new (so, encoded, sends, same) h = subst Forgets (sym same) h
act-forgets m (TargetReleases place turn) old new (so, encoded, sends, same) h = subst Forgets (sym same) h
act-forgets m (TargetSteps t stepped) old new (so, encoded, sends, same) h = subst Forgets (sym same) h
act-forgets m (TargetDefers deferring) old new is h = subst (λ v. Forgets v.debugger) (sym is) h
act-forgets m TargetLoses old new is h = subst (λ v. Forgets v.debugger) (sym is) h
act-forgets m (ComesToDebugger bytes) old new is h = subst (λ v. Forgets v.debugger) (sym is) h
act-forgets m (LeavesDebugger bytes) old new is h = subst (λ v. Forgets v.debugger) (sym is) h
act-forgets m (DebuggerAsks c ticket) old new (free, given, asked, same) h = subst Forgets (sym asked.is) h
act-forgets m (DebuggerNumbers id) old new (small, is) h = subst (λ v. Forgets v.debugger) (sym is) h
act-forgets m (DebuggerTurns r lost) old new (after, so, gone, is) h =
    subst (λ v. Forgets v.debugger) (sym is) (settled-forgets (is_left after) after (turn-forgets (front_of old.debugger.end) old.debugger after r so h))
act-forgets m (DebuggerLoses lost) old new (gone, is) h = subst (λ v. Forgets v.debugger) (sym is) (λ closed. refl)

merged-forgets : {S : Type 0} (m : Meaning S) (first : Programs S) (acts : List Act) (v : Programs S) → Forgets first.debugger → Merged m first acts v → Forgets v.debugger
merged-forgets m first acts v h Start = h
merged-forgets m first acts v h (merging.More before act old new merged does agrees) = act-forgets m act old new does (merged-forgets m first before old h merged)

pub shut-knows-nobody : {S : Type 0} (m : Meaning S) (first : Programs S) (acts : List Act) (v : Programs S) → (is_open first.debugger.end ≡ false → first.debugger.mirror ≡ empty_mirror) → Merged m first acts v → is_open v.debugger.end ≡ false
    → v.debugger.mirror ≡ empty_mirror
unfolding Forgets
shut-knows-nobody m first acts v h merged shut = merged-forgets m first acts v h merged shut

-- ---- one that read nothing

record Unheard (d : Debugger) : Type 0 where
  incoming : d.end.incoming ≡ []
  mirror : d.mirror ≡ empty_mirror

none-behind : (a b : List ℕ) → a ++ b ≡ [] → b ≡ []
none-behind [] b h = h
none-behind (x ∷ a) b h = absurd (cc)

fed-unheard : (old new : Debugger) (bytes : List ℕ) → new ≡ with_fed bytes old → new.end.session.fed ≡ [] → Unheard old → Unheard new
fed-unheard old new bytes is unfed h =
    let none : bytes ≡ [] = none-behind old.end.session.fed bytes (sym (ap (λ (d : Debugger). d.end.session.fed) is) ∙ unfed) in
    record {
      incoming = ap (λ (d : Debugger). d.end.incoming) is ∙ (ap (λ x. x ++ bytes) h.incoming ∙ none);
      mirror = ap (λ (d : Debugger). d.mirror) is ∙ h.mirror;
    }

settled-unheard : (b : Bool) (d : Debugger) → Unheard d → Unheard (settled b d)
settled-unheard true d h = record { incoming = refl; mirror = refl }
settled-unheard false d h = h

turn-unheard : (old new : Debugger) (r : Read) → front_of old.end ≡ More → TurnsAt (front_of old.end) old (Ok r) new → Unheard old → Unheard new
turn-unheard old new r none so h = subst Unheard (sym (none-turns (front_of old.end) old new r none so).1) (record { incoming = h.incoming; mirror = h.mirror })

act-unheard : {S : Type 0} (m : Meaning S) → ((end : End) → end.incoming ≡ [] → front_of end ≡ More) → (act : Act) (t : Target S) (old new : Debugger) → is_of_debugger act ≡ true → Does m act (both t old) (both t new)
    → new.end.session.fed ≡ [] → Unheard old → Unheard new
act-unheard m finds Connects t old new own does unfed h = absurd (cc)
act-unheard m finds (ComesToTarget bytes) t old new own does unfed h = absurd (cc)
act-unheard m finds (LeavesTarget bytes) t old new own does unfed h = absurd (cc)
act-unheard m finds (TargetTurns turn) t old new own does unfed h = absurd (cc)
act-unheard m finds (TargetReleases place turn) t old new own does unfed h = absurd (cc)
act-unheard m finds (TargetSteps thread stepped) t old new own does unfed h = absurd (cc)
act-unheard m finds (TargetDefers deferring) t old new own does unfed h = absurd (cc)
act-unheard m finds TargetLoses t old new own does unfed h = absurd (cc)
act-unheard m finds (ComesToDebugger bytes) t old new own is unfed h = fed-unheard old new bytes (ap (λ v. v.debugger) is) unfed h
act-unheard m finds (LeavesDebugger bytes) t old new own is unfed h = subst (λ v. Unheard v.debugger) (sym is) (record { incoming = h.incoming; mirror = h.mirror })
act-unheard m finds (DebuggerAsks c ticket) t old new own (free, given, asked, same) unfed h = subst Unheard (sym asked.is) (record { incoming = h.incoming; mirror = h.mirror })
act-unheard m finds (DebuggerNumbers id) t old new own (small, is) unfed h = subst (λ v. Unheard v.debugger) (sym is) (record { incoming = h.incoming; mirror = h.mirror })
act-unheard m finds (DebuggerTurns r lost) t old new own (after, so, gone, is) unfed h =
    subst (λ v. Unheard v.debugger) (sym is) (settled-unheard (is_left after) after (turn-unheard old after r (finds old.end h.incoming) so h))
act-unheard m finds (DebuggerLoses lost) t old new own (gone, is) unfed h = subst (λ v. Unheard v.debugger) (sym is) (record { incoming = refl; mirror = refl })

runs-unheard : {S : Type 0} (m : Meaning S) → ((end : End) → end.incoming ≡ [] → front_of end ≡ More) → (t : Target S) (first last : Debugger) (ds rest : List (Move Debugger)) → DebuggerRuns m first (ds ++ rest) last
    → NothingCame (λ (d : Debugger). d.end) ds → Unheard first → Unheard (last_of first ds)
runs-unheard m finds t first last [] rest runs none h = h
runs-unheard m finds t first last (move ∷ ds) rest runs none h =
    runs-unheard m finds t move.behind last ds rest runs.1 none.1 (act-unheard m finds move.act t first move.behind runs.0.0 (runs.0.1 t) none.0 h)

pub unheard-knows-nobody : {S : Type 0} (m : Meaning S) → ((end : End) → end.incoming ≡ [] → front_of end ≡ More) → (t : Target S) (first last : Debugger) (ds rest : List (Move Debugger)) → first.end.incoming ≡ [] → first.mirror ≡ empty_mirror
    → DebuggerRuns m first (ds ++ rest) last → NothingCame (λ (d : Debugger). d.end) ds → (last_of first ds).mirror ≡ empty_mirror
unheard-knows-nobody m finds t first last ds rest incoming mirror runs none = (runs-unheard m finds t first last ds rest runs none (record { incoming = incoming; mirror = mirror })).mirror
