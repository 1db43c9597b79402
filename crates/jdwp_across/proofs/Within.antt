-- acts of two programs with limits of their own are acts of two that have the same, but for what waits to leave
use Rattle.std.specs.Prelude.{◌⊎◌}
use Rattle.std.proofs.Common.{◌≡◌, ◌≤◌, ◌<◌, ℕ, inl, inr, Bool, true, false, not, cond, Some, None, List, [], ◌∷◌, ◌++◌, Ok, Err, refl, sym, ◌∙◌, ap, subst, arith}
use Rattle.jdwp_wire.specs.Limits.{AreLimits, Limits}
use Rattle.jdwp_wire.specs.Streams as streams
use Rattle.jdwp_wire.specs.Streams.{More}
use Rattle.jdwp_wire.specs.Widths.{Widths}
use Rattle.jdwp_wire.specs.declared.frame.FrameFault.{FrameFault}
use Rattle.jdwp_end.specs.Ends.{front_of, is_open_phase, is_paused, next_at}
use Rattle.jdwp_machine.specs.Meanings.{Meaning}
use Rattle.jdwp_action.specs.Actions.{Command}
use Rattle.jdwp_action.specs.CommandPackets.{packet_length}
use Rattle.jdwp_debuggee.specs.Settings.{Settings}
use Rattle.jdwp_target.specs.Targets as targets
use Rattle.jdwp_target.specs.Targets.{Target}
use Rattle.jdwp_target.specs.Turns.{deferred_at, is_frozen}
use Rattle.jdwp_debugger.specs.Asking.{HasAsked, refusal_of_ask}
use Rattle.jdwp_debugger.specs.Debuggers as debuggers
use Rattle.jdwp_debugger.specs.Debuggers.{Debugger}
use Rattle.jdwp_debugger.specs.DebuggerTurns as turns
use Rattle.jdwp_debugger.specs.DebuggerTurns.{read_meaning}
use Rattle.jdwp_debugger.specs.declared.faults.DebuggerFault.{DebuggerFault}
use Rattle.jdwp_debugger.specs.declared.faults.DebuggerFault.TheVariants as code
use Rattle.jdwp_debugger.specs.declared.pending.Ticket.{Ticket}
use Rattle.jdwp_debugger.specs.declared.turning.Read.{Read}
use Rattle.jdwp_model.specs.Events
use Rattle.jdwp_model.specs.Given.{TellsWhatWasGiven}
use Rattle.jdwp_model.specs.Tickets.{SettlesOnce}
use Rattle.jdwp_model.specs.World.{World, is_closed, opening}
use Rattle.jdwp_link.specs.EventParts.{is_left, lost_of, outcomes_of, told_did}
use Rattle.jdwp_link.specs.Laws.{Laws}
use Rattle.jdwp_link.specs.Stands.{widths_where}
use Rattle.jdwp_link.specs.Told.{told_outcomes}
use Rattle.jdwp_link.proofs.Settling.{none-left}
use Rattle.jdwp_link.proofs.Turning.{front-paused}
use Rattle.jdwp_across.specs.Acting.{both}
use Rattle.jdwp_across.specs.Headline.{MayStart}
use Rattle.jdwp_across.specs.Merges.{Agrees, Merged}
use Rattle.jdwp_across.specs.Merges as merging
use Rattle.jdwp_across.specs.OwnLimits.{AllFit, AreTaken, Fits, HoldsWithinOwnLimits, MayRelyOnWithin, MayStartWithin, between, debugger_within, programs_within, settings_between, target_within, within}
use Rattle.jdwp_across.specs.Programs.{Act, ComesToDebugger, ComesToTarget, Connects, DebuggerAsks, DebuggerLoses, DebuggerNumbers, DebuggerTurns, Does, LeavesDebugger, LeavesTarget, Programs, TargetDefers, TargetLoses, TargetReleases, TargetSteps, TargetTurns, lost_with, settled, where_did}
use Rattle.jdwp_across.specs.Standing.{joined}
use Rattle.jdwp_across.proofs.DebuggerActs.{none-read, stays-another}
use Rattle.jdwp_across.proofs.Flowing.{AsksAlike, asks-alike, drained, drains-lost, drains-settled, fails-alike, flowing, flows, flows-lost, flows-settled, settled-limits, turn-limits}
use Rattle.jdwp_across.proofs.Keeping.{Keeps, act-keeps, new-keeps}
use Rattle.jdwp_across.proofs.LongerPackets.{next-same}
use Rattle.jdwp_across.proofs.OtherPending.{encodes-released, encodes-step, encodes-within, releases-within, sends-released, sends-step, sends-within, steps-within, turns-within, wants-memory}
use Rattle.jdwp_across.proofs.Refusals.{debugger-fails}
use Rattle.jdwp_across.proofs.Standing.{Standing, Stands, either, sized, unpaused}
use Rattle.jdwp_across.proofs.Onward.{SettlesFrom, TellsFrom, opening-settles, opening-tells}
use Rattle.jdwp_across.proofs.Theorems.{leads-on, opening-stands, relies-on}

-- the two within the limits of the session, the debugger's bytes gone as soon as they are put
abbrev pub twin : {S : Type 0} → Settings → Limits → Programs S → Programs S
twin settings limits v = both (target_within limits v.target) (flowing (between settings.limits limits) v.debugger)

-- ---- what waits to leave says nothing

stands-drained : {S : Type 0} (m : Meaning S) (settings : Settings) (w : Widths) (first : World S) (acts : List Act) (t : Target S) (d : Debugger) → Stands m settings w first acts (both t d) → Stands m settings w first acts (both t (drained d))
stands-drained m settings w first acts t d h = record { world = h.world; stands = record { reached = h.stands.reached; parts = h.stands.parts } }

pub agrees-twin : {S : Type 0} (settings : Settings) (limits : Limits) (v : Programs S) → Agrees v → Agrees (twin settings limits v)
agrees-twin settings limits v a = record { to_target = a.to_target; to_debugger = a.to_debugger }

-- Programs that are the twin of others, but for what waits to leave.
pub record IsTwin {S : Type 0} (settings : Settings) (limits : Limits) (v u : Programs S) : Type 0 where
  pub target : u.target ≡ target_within limits v.target
  pub debugger : drained u.debugger ≡ flowing (between settings.limits limits) v.debugger

agrees-as : {S : Type 0} (settings : Settings) (limits : Limits) (v u : Programs S) → IsTwin settings limits v u → Agrees v → Agrees u
agrees-as settings limits v u is a =
    let q = agrees-twin settings limits v a in
    let p = subst (λ t. Agrees (both t (flowing (between settings.limits limits) v.debugger))) (sym is.target) q in
    let o = subst (λ d. Agrees (both u.target d)) (sym is.debugger) p in
    record { to_target = o.to_target; to_debugger = o.to_debugger }

pub stands-as : {S : Type 0} (m : Meaning S) (settings : Settings) (limits : Limits) (w : Widths) (first : World S) (acts : List Act) (v u : Programs S) → IsTwin settings limits v u → Stands m (settings_between settings limits) w first acts u
    → Stands m (settings_between settings limits) w first acts (twin settings limits v)
stands-as m settings limits w first acts v u is h =
    let q = stands-drained m (settings_between settings limits) w first acts u.target u.debugger h in
    let p = subst (λ d. Stands m (settings_between settings limits) w first acts (both u.target d)) is.debugger q in
    subst (λ t. Stands m (settings_between settings limits) w first acts (both t (flowing (between settings.limits limits) v.debugger))) is.target p

-- an act of the twin that leads where the act led
leads-as : {S : Type 0} (m : Meaning S) (settings : Settings) (limits : Limits) (w : Widths) (first : World S) (acts : List Act) (act : Act) (old new u : Programs S) → Laws m → Standing m (settings_between settings limits) w first acts (twin settings limits old)
    → Agrees new → Does m act (twin settings limits old) u → IsTwin settings limits new u → Stands m (settings_between settings limits) w first (acts ++ act ∷ []) (twin settings limits new)
leads-as m settings limits w first acts act old new u laws h agrees does is =
    stands-as m settings limits w first (acts ++ act ∷ []) new u is
    (leads-on m (settings_between settings limits) w first acts act (twin settings limits old) u laws h (agrees-as settings limits new u is agrees) does)

-- ---- a turn of the debugger

-- what stands in front of the twin
front-flows : (limits : Limits) (d : Debugger) → 0 < limits.packet → front_of (flowing limits d).end ≡ next_at limits.packet d.end.phase d.end.incoming
front-flows limits d some = ap (λ b. cond b More (next_at limits.packet d.end.phase d.end.incoming)) (unpaused limits.packet some)

-- The same stands in front of one that takes longer packets, since no fault does.
front-alike : {S : Type 0} (m : Meaning S) (settings : Settings) (limits : Limits) (w : Widths) (first : World S) (acts : List Act) (old : Programs S) → Laws m → Standing m (settings_between settings limits) w first acts (twin settings limits old)
    → settings.limits.packet ≤ old.debugger.end.limits.packet → is_paused old.debugger.end ≡ false → front_of old.debugger.end ≡ front_of (flowing (between settings.limits limits) old.debugger).end
front-alike m settings limits w first acts old laws h le p =
    let d = old.debugger in
    let other = flowing (between settings.limits limits) d in
    let size = sized m (settings_between settings limits) w first acts (twin settings limits old) h in
    let flows-front = front-flows (between settings.limits limits) d size.some in
    let none : (fault : FrameFault) → next_at settings.limits.packet d.end.phase d.end.incoming ≡ streams.Fault fault → ⊥ = λ fault e.
    let fails = debugger-fails m (settings_between settings limits) w first acts (twin settings limits old) (code.Frame fault) (turns.refused other) laws h (subst (λ f. turns.TurnsAt f other (Err (code.Frame fault)) (turns.refused other)) (sym (flows-front ∙ e)) (refl, refl)) in
    let no : code.Frame fault ≡ code.NoMemory = fails.0 in absurd (cc) in
    ap (λ b. cond b More (next_at d.end.limits.packet d.end.phase d.end.incoming)) p
    ∙ (next-same d.end.phase settings.limits.packet d.end.limits.packet d.end.incoming le none ∙ sym flows-front)

turns-paused : {S : Type 0} (m : Meaning S) (settings : Settings) (limits : Limits) (w : Widths) (first : World S) (acts : List Act) (old new : Programs S) (r : Read) (lost : List Ticket) (after : Debugger)
    → Standing m (settings_between settings limits) w first acts (twin settings limits old) → is_paused old.debugger.end ≡ true → turns.TurnsAt (front_of old.debugger.end) old.debugger (Ok r) after → lost ≡ lost_with (is_left after) after
    → new ≡ record old { debugger = settled (is_left after) after } → Stands m (settings_between settings limits) w first (acts ++ DebuggerTurns r lost ∷ []) (twin settings limits new)
turns-paused m settings limits w first acts old new r lost after h p so gone is =
    let d = old.debugger in
    let other = twin settings limits old in
    let x = h.world in
    let (told, same) = subst (λ f. turns.TurnsAt f d (Ok r) after) (front-paused d.end p) so in
    let nothing = none-read r told in
    let unleft : is_left d ≡ false = none-left m (settings_between settings limits) w (joined other.target other.debugger) x (is_closed x.debugger) h.stands.parts refl in
    let kept : is_left after ≡ false = ap is_left same ∙ unleft in
    let left : settled (is_left after) after ≡ record d { last = [] } = ap (λ q. settled q after) kept ∙ same in
    let none : lost ≡ [] = gone ∙ ap (λ q. lost_with q after) kept in
    stays-another m (settings_between settings limits) w first acts other (twin settings limits new) (DebuggerTurns r lost) [] d.next_id h
    (ap (λ q. where_did (told_did (read_meaning q)) Events.DebuggerTurn) nothing)
    (ap (λ q. told_outcomes (outcomes_of (read_meaning q)) ++ lost_of lost) nothing ∙ ap lost_of none)
    (ap (λ v. target_within limits v.target) is)
    (ap (λ v. flowing (between settings.limits limits) v.debugger) is ∙ ap (flowing (between settings.limits limits)) left)

turns-flowing : {S : Type 0} (m : Meaning S) (settings : Settings) (limits : Limits) (w : Widths) (first : World S) (acts : List Act) (old new : Programs S) (r : Read) (lost : List Ticket) (after : Debugger)
    → Laws m → Standing m (settings_between settings limits) w first acts (twin settings limits old) → Agrees new → settings.limits.packet ≤ old.debugger.end.limits.packet → is_paused old.debugger.end ≡ false
    → turns.TurnsAt (front_of old.debugger.end) old.debugger (Ok r) after → lost ≡ lost_with (is_left after) after
    → new ≡ record old { debugger = settled (is_left after) after } → Stands m (settings_between settings limits) w first (acts ++ DebuggerTurns r lost ∷ []) (twin settings limits new)
turns-flowing m settings limits w first acts old new r lost after laws h agrees le p so gone is =
    let d = old.debugger in
    let l = between settings.limits limits in
    let front = front_of (flowing l d).end in
    let also = subst (λ f. turns.TurnsAt f d (Ok r) after) (front-alike m settings limits w first acts old laws h le p) so in
    let f = flows l front d r after also in
    let u = both (target_within limits old.target) (settled (is_left f.twin) f.twin) in
    let lost_too : lost ≡ lost_with (is_left f.twin) f.twin =
    gone ∙ (sym (flows-lost l (is_left after) after) ∙ (sym (ap (λ v. lost_with (is_left v) v) f.same) ∙ drains-lost (is_left f.twin) f.twin)) in
    let settles : drained (settled (is_left f.twin) f.twin) ≡ flowing l (settled (is_left after) after) =
    drains-settled (is_left f.twin) f.twin ∙ (ap (λ v. settled (is_left v) v) f.same ∙ sym (flows-settled l (is_left after) after)) in
    leads-as m settings limits w first acts (DebuggerTurns r lost) old new u laws h agrees (f.twin, f.so, lost_too, refl)
    (record { target = ap (λ v. target_within limits v.target) (sym is); debugger = settles ∙ ap (λ v. flowing l v.debugger) (sym is) })

-- ---- a command

-- the widths that the debugger knows are the target's
known-widths : (b : Bool) (v w : Widths) → widths_where w b ≡ Some v → w ≡ v
known-widths true v w e = cc
known-widths false v w e = absurd (cc)

asks-fitting : {S : Type 0} (m : Meaning S) (settings : Settings) (limits : Limits) (w : Widths) (first : World S) (acts : List Act) (old new : Programs S) (c : Command) → Standing m (settings_between settings limits) w first acts (twin settings limits old)
    → old.debugger.end.limits ≡ limits → (limits.packet ≤ settings.limits.packet) ⊎ (packet_length w c ≤ settings.limits.packet) → HasAsked c old.debugger new.debugger → refusal_of_ask old.debugger c ≡ None → AsksAlike (between settings.limits limits) c old.debugger new.debugger
asks-fitting m settings limits w first acts old new c h own fits asked free =
    let size = sized m (settings_between settings limits) w first acts (twin settings limits old) h in
    let parts = h.stands.parts in
    let opened : is_closed h.world.debugger ≡ false = ap (λ p. not (is_open_phase p)) (sym parts.debugger.phase ∙ asked.established) in
    let known = known-widths h.world.ready asked.widths w (sym (parts.debugger.opened opened).sizes ∙ asked.known) in
    let few : packet_length asked.widths c ≤ settings.limits.packet = elim fits [
      | inl le ↦ let most = subst (λ l. packet_length asked.widths c ≤ l.packet) own asked.sendable.within_limit in omega (le, most, arith)
      | inr h ↦ subst (λ v. packet_length v c ≤ settings.limits.packet) known h
    ] in
    asks-alike (between settings.limits limits) c old.debugger new.debugger (sym (ap (λ l. l.pending) own)) (unpaused settings.limits.packet size.some) asked few free

-- ---- each act

leads-within : {S : Type 0} (m : Meaning S) (settings : Settings) (limits : Limits) (w : Widths) (first : World S) (acts : List Act) (act : Act) (old new : Programs S) → Laws m → Standing m (settings_between settings limits) w first acts (twin settings limits old)
    → settings.limits.packet ≤ limits.packet → old.debugger.end.limits ≡ limits → (limits.packet ≤ settings.limits.packet) ⊎ Fits w settings.limits.packet act → Agrees new → Does m act old new → Stands m (settings_between settings limits) w first (acts ++ act ∷ []) (twin settings limits new)
leads-within m settings limits w first acts Connects old new laws h le own fits agrees (shut, unheard, lives, is) =
    leads-as m settings limits w first acts Connects old new (both (targets.opened_target (target_within limits old.target)) (debuggers.attached (flowing (between settings.limits limits) old.debugger))) laws h agrees (shut, unheard, lives, refl)
    (record { target = ap (λ v. target_within limits v.target) (sym is); debugger = ap (λ v. flowing (between settings.limits limits) v.debugger) (sym is) })
leads-within m settings limits w first acts (ComesToTarget bytes) old new laws h le own fits agrees is =
    leads-as m settings limits w first acts (ComesToTarget bytes) old new (record (twin settings limits old) { target = targets.with_fed bytes (target_within limits old.target) }) laws h agrees refl
    (record { target = ap (λ v. target_within limits v.target) (sym is); debugger = ap (λ v. flowing (between settings.limits limits) v.debugger) (sym is) })
leads-within m settings limits w first acts (LeavesTarget bytes) old new laws h le own fits agrees is =
    leads-as m settings limits w first acts (LeavesTarget bytes) old new (record (twin settings limits old) { target = targets.with_taken bytes (target_within limits old.target) }) laws h agrees refl
    (record { target = ap (λ v. target_within limits v.target) (sym is); debugger = ap (λ v. flowing (between settings.limits limits) v.debugger) (sym is) })
leads-within m settings limits w first acts (TargetTurns turn) old new laws h le own fits agrees (so, encoded, sends, same) =
    let front = front_of old.target.end in
    leads-as m settings limits w first acts (TargetTurns turn) old new (both (target_within limits new.target) (flowing (between settings.limits limits) old.debugger)) laws h agrees
    (turns-within m limits front old.target new.target turn so, encodes-within m limits front old.target encoded, sends-within m limits front old.target sends, refl)
    (record { target = refl; debugger = ap (flowing (between settings.limits limits)) (sym same) })
leads-within m settings limits w first acts (TargetReleases place turn) old new laws h le own fits agrees (so, encoded, sends, same) =
    let found = deferred_at place old.target in
    leads-as m settings limits w first acts (TargetReleases place turn) old new (both (target_within limits new.target) (flowing (between settings.limits limits) old.debugger)) laws h agrees
    (releases-within m limits place found old.target new.target turn so, encodes-released m limits found old.target encoded, sends-released m limits place found old.target sends, refl)
    (record { target = refl; debugger = ap (flowing (between settings.limits limits)) (sym same) })
leads-within m settings limits w first acts (TargetSteps t stepped) old new laws h le own fits agrees (so, encoded, sends, same) =
    let frozen = is_frozen m t old.target in
    leads-as m settings limits w first acts (TargetSteps t stepped) old new (both (target_within limits new.target) (flowing (between settings.limits limits) old.debugger)) laws h agrees
    (steps-within m limits t old.target new.target stepped frozen so, encodes-step m limits t old.target frozen encoded, sends-step m limits t old.target frozen sends, refl)
    (record { target = refl; debugger = ap (flowing (between settings.limits limits)) (sym same) })
leads-within m settings limits w first acts (TargetDefers deferring) old new laws h le own fits agrees is =
    leads-as m settings limits w first acts (TargetDefers deferring) old new (record (twin settings limits old) { target = targets.with_deferring deferring (target_within limits old.target) }) laws h agrees refl
    (record { target = ap (λ v. target_within limits v.target) (sym is); debugger = ap (λ v. flowing (between settings.limits limits) v.debugger) (sym is) })
leads-within m settings limits w first acts TargetLoses old new laws h le own fits agrees is =
    leads-as m settings limits w first acts TargetLoses old new (record (twin settings limits old) { target = targets.lost_target (target_within limits old.target) }) laws h agrees refl
    (record { target = ap (λ v. target_within limits v.target) (sym is); debugger = ap (λ v. flowing (between settings.limits limits) v.debugger) (sym is) })
leads-within m settings limits w first acts (ComesToDebugger bytes) old new laws h le own fits agrees is =
    leads-as m settings limits w first acts (ComesToDebugger bytes) old new (record (twin settings limits old) { debugger = debuggers.with_fed bytes (flowing (between settings.limits limits) old.debugger) }) laws h agrees refl
    (record { target = ap (λ v. target_within limits v.target) (sym is); debugger = ap (λ v. flowing (between settings.limits limits) v.debugger) (sym is) })
leads-within m settings limits w first acts (LeavesDebugger bytes) old new laws h le own fits agrees is =
    leads-as m settings limits w first acts (LeavesDebugger bytes) old new (record (twin settings limits old) { debugger = debuggers.with_taken bytes (flowing (between settings.limits limits) old.debugger) }) laws h agrees refl
    (record { target = ap (λ v. target_within limits v.target) (sym is); debugger = ap (λ v. flowing (between settings.limits limits) v.debugger) (sym is) })
leads-within m settings limits w first acts (DebuggerAsks c ticket) old new laws h le own fits agrees (free, given, asked, same) =
    let alike = asks-fitting m settings limits w first acts old new c h own fits asked free in
    leads-as m settings limits w first acts (DebuggerAsks c ticket) old new (both (target_within limits old.target) alike.twin) laws h agrees (alike.unrefused, given, alike.done, refl)
    (record { target = ap (target_within limits) (sym same); debugger = alike.same })
leads-within m settings limits w first acts (DebuggerNumbers id) old new laws h le own fits agrees (small, is) =
    leads-as m settings limits w first acts (DebuggerNumbers id) old new (record (twin settings limits old) { debugger = record (flowing (between settings.limits limits) old.debugger) { next_id = id } }) laws h agrees (small, refl)
    (record { target = ap (λ v. target_within limits v.target) (sym is); debugger = ap (λ v. flowing (between settings.limits limits) v.debugger) (sym is) })
leads-within m settings limits w first acts (DebuggerTurns r lost) old new laws h le own fits agrees (after, so, gone, is) =
    either (is_paused old.debugger.end) (Stands m (settings_between settings limits) w first (acts ++ DebuggerTurns r lost ∷ []) (twin settings limits new))
    (λ p. turns-paused m settings limits w first acts old new r lost after h p so gone is)
    (λ p. turns-flowing m settings limits w first acts old new r lost after laws h agrees (subst (λ l. settings.limits.packet ≤ l.packet) (sym own) le) p so gone is)
leads-within m settings limits w first acts (DebuggerLoses lost) old new laws h le own fits agrees (gone, is) =
    leads-as m settings limits w first acts (DebuggerLoses lost) old new (record (twin settings limits old) { debugger = debuggers.lost_debugger (flowing (between settings.limits limits) old.debugger) }) laws h agrees (gone, refl)
    (record { target = ap (λ v. target_within limits v.target) (sym is); debugger = ap (λ v. flowing (between settings.limits limits) v.debugger) (sym is) })

-- ---- the debugger's own limits

pub act-limits : {S : Type 0} (m : Meaning S) (act : Act) (old new : Programs S) → Does m act old new → new.debugger.end.limits ≡ old.debugger.end.limits
act-limits m Connects old new (shut, unheard, lives, is) = ap (λ v. v.debugger.end.limits) is
act-limits m (ComesToTarget bytes) old new is = ap (λ v. v.debugger.end.limits) is
act-limits m (LeavesTarget bytes) old new is = ap (λ v. v.debugger.end.limits) is
act-limits m (TargetTurns turn) old new (so, encoded, sends, same) = ap (λ d. d.end.limits) same
act-limits m (TargetReleases place turn) old new (so, encoded, sends, same) = ap (λ d. d.end.limits) same
act-limits m (TargetSteps t stepped) old new (so, encoded, sends, same) = ap (λ d. d.end.limits) same
act-limits m (TargetDefers deferring) old new is = ap (λ v. v.debugger.end.limits) is
act-limits m TargetLoses old new is = ap (λ v. v.debugger.end.limits) is
act-limits m (ComesToDebugger bytes) old new is = ap (λ v. v.debugger.end.limits) is
act-limits m (LeavesDebugger bytes) old new is = ap (λ v. v.debugger.end.limits) is
act-limits m (DebuggerAsks c ticket) old new (free, given, asked, same) = ap (λ d. d.end.limits) asked.is
act-limits m (DebuggerNumbers id) old new (small, is) = ap (λ v. v.debugger.end.limits) is
act-limits m (DebuggerTurns r lost) old new (after, so, gone, is) = ap (λ v. v.debugger.end.limits) is ∙ (settled-limits (is_left after) after ∙ turn-limits (front_of old.debugger.end) old.debugger r after so)
act-limits m (DebuggerLoses lost) old new (gone, is) = ap (λ v. v.debugger.end.limits) is

-- what every debugger keeps, it keeps within other limits
pub keeps-within : (limits : Limits) (d : Debugger) → AreLimits limits.packet limits.live limits.requests limits.pending → Keeps d → Keeps (debugger_within limits d)
keeps-within limits d are k = record { limits = are; distinct = k.distinct; own = k.own; begins = λ e. k.begins e; alone = λ o e. k.alone o e; unlearned = k.unlearned; unparked = k.unparked; id = k.id }

pub keeps-flowing : (limits : Limits) (d : Debugger) → AreLimits limits.packet limits.live limits.requests limits.pending → Keeps d → Keeps (flowing limits d)
keeps-flowing limits d are k = record { limits = are; distinct = k.distinct; own = k.own; begins = λ e. k.begins e; alone = λ o e. k.alone o e; unlearned = k.unlearned; unparked = k.unparked; id = k.id }

-- ---- every merge

pub are-between : (settings : Settings) (limits : Limits) → AreLimits settings.limits.packet settings.limits.live settings.limits.requests settings.limits.pending → AreLimits limits.packet limits.live limits.requests limits.pending
    → AreLimits settings.limits.packet settings.limits.live settings.limits.requests limits.pending
are-between settings limits target debugger = record {
  packet_least = target.packet_least;
  packet_most = target.packet_most;
  live_is = target.live_is;
  requests_is = target.requests_is;
  pending_is = debugger.pending_is;
  composite_fits = target.composite_fits;
}

may-start : {S : Type 0} (m : Meaning S) (settings : Settings) (limits : Limits) (s : S) (id : ℕ) → MayStartWithin m settings limits s id → MayStart m (settings_between settings limits) s id
may-start m settings limits s id h = record {
  begins = record { state = h.start.begins.state; lives = h.start.begins.lives; limit_least = h.start.begins.limit_least; limit_most = h.start.begins.limit_most };
  limits = are-between settings limits h.start.limits h.limits_fit;
  id_fits = h.start.id_fits;
}

fits-front : (w : Widths) (packet : ℕ) (acts : List Act) (act : Act) → AllFit w packet (acts ++ act ∷ []) → AllFit w packet acts × Fits w packet act
fits-front w packet [] act fits = (tt, fits.0)
fits-front w packet (a ∷ acts) act fits = let rest = fits-front w packet acts act fits.1 in ((fits.0, rest.0), rest.1)

taken-front : (w : Widths) (target debugger : Limits) (acts : List Act) (act : Act) → AreTaken w target debugger (acts ++ act ∷ []) → AreTaken w target debugger acts × ((debugger.packet ≤ target.packet) ⊎ Fits w target.packet act)
taken-front w target debugger acts act (inl le) = (inl le, inl le)
taken-front w target debugger acts act (inr fits) = let split = fits-front w target.packet acts act fits in (inr split.0, inr split.1)

-- limits that there may be, where whatever packet the target sends is one that the debugger takes
pub record AreFit (settings : Settings) (limits : Limits) : Type 0 where
  pub target : AreLimits settings.limits.packet settings.limits.live settings.limits.requests settings.limits.pending
  pub debugger : AreLimits limits.packet limits.live limits.requests limits.pending
  pub packet : settings.limits.packet ≤ limits.packet

-- both stand for a world as twins, and the debugger is as its own limits say
pub record Stays {S : Type 0} (m : Meaning S) (settings : Settings) (limits : Limits) (w : Widths) (first : World S) (acts : List Act) (v : Programs S) : Type 0 where
  pub standing : Standing m (settings_between settings limits) w first acts (twin settings limits v)
  pub keeps : Keeps v.debugger
  pub own : v.debugger.end.limits ≡ limits

pub stays-on : {S : Type 0} (m : Meaning S) (settings : Settings) (limits : Limits) (w : Widths) (first : World S) (began : Programs S) (acts : List Act) (v : Programs S) → Laws m → AreFit settings limits → AreTaken w settings.limits limits acts
    → Stays m settings limits w first [] began → Merged m began acts v → Stays m settings limits w first acts v
stays-on m settings limits w first began acts v laws fit taken b merging.Start = b
stays-on m settings limits w first began acts v laws fit taken b (merging.More before act old new merged does agrees) =
    let all = taken-front w settings.limits limits before act taken in
    let h = stays-on m settings limits w first began before old laws fit all.0 b merged in
    let after = leads-within m settings limits w first before act old new laws h.standing fit.packet h.own all.1 agrees does in
    let keeps = act-keeps m act old new does h.keeps in
    record {
      standing = record {
        onward = h.standing.onward;
        world = after.world;
        stands = after.stands;
        keeps = keeps-flowing (between settings.limits limits) new.debugger (are-between settings limits fit.target fit.debugger) keeps;
        agrees = agrees-twin settings limits new agrees;
      };
      keeps = keeps;
      own = act-limits m act old new does ∙ h.own;
    }

-- ---- what holds

stands-within : {S : Type 0} (m : Meaning S) (settings : Settings) (limits : Limits) (w : Widths) (first : World S) (acts : List Act) (v : Programs S) → AreFit settings limits → Stays m settings limits w first acts v
    → Standing m (settings_between settings limits) w first acts (within settings limits v)
stands-within m settings limits w first acts v fit h = record {
  onward = h.standing.onward;
  world = h.standing.world;
  stands = record { reached = h.standing.stands.reached; parts = h.standing.stands.parts };
  keeps = keeps-within (between settings.limits limits) v.debugger (are-between settings limits fit.target fit.debugger) h.keeps;
  agrees = record { to_target = h.standing.agrees.to_target; to_debugger = h.standing.agrees.to_debugger };
}

-- the debugger refuses nothing within its own limits
own-paused : (d after : Debugger) (fault : DebuggerFault) → is_paused d.end ≡ true → turns.TurnsAt (front_of d.end) d (Err fault) after → (fault ≡ code.NoMemory) × (after ≡ d)
own-paused d after fault p so = let (told, same) = subst (λ f. turns.TurnsAt f d (Err fault) after) (front-paused d.end p) so in absurd (cc)

pub relies-within : {S : Type 0} (m : Meaning S) → Laws m → (settings : Settings) (limits : Limits) (first : World S) (acts : List Act) (v : Programs S) → AreFit settings limits → SettlesFrom m (settings_between settings limits) first
    → TellsFrom m (settings_between settings limits) first → Stays m settings limits (m.sizes first.now.machine) first acts v → MayRelyOnWithin m settings limits first acts v
relies-within m laws settings limits first acts v fit once given h =
    let w = m.sizes first.now.machine in
    let relies = relies-on m laws (settings_between settings limits) first acts (within settings limits v) once given (stands-within m settings limits w first acts v fit h) in
    record {
      relies = relies;
      reads = record {
        target = λ fault after so. wants-memory m limits (front_of v.target.end) v.target after fault (λ u alike. (relies.reads.target fault u alike).0) so;
        debugger = λ fault after so.
            either (is_paused v.debugger.end) ((fault ≡ code.NoMemory) × (after ≡ v.debugger))
            (λ p. own-paused v.debugger after fault p so)
            (λ p.
            let d = v.debugger in
            let l = between settings.limits limits in
            let front = front-alike m settings limits w first acts v laws h.standing (subst (λ n. settings.limits.packet ≤ n.packet) (sym h.own) fit.packet) p in
            let alike = fails-alike l (front_of (flowing l d).end) d fault after (subst (λ f. turns.TurnsAt f d (Err fault) after) front so) in
            let none = debugger-fails m (settings_between settings limits) w first acts (twin settings limits v) fault alike.twin laws h.standing alike.so in
            (none.0, alike.kept none.0));
      };
      suspends = λ t held alive unlost none unresumed. relies.held.suspended t held (record { alive = alive; not_lost = unlost; no_dispose = none }) unresumed;
    }

pub holds-within : {S : Type 0} (m : Meaning S) → Laws m → SettlesOnce m → TellsWhatWasGiven m → HoldsWithinOwnLimits m
holds-within m laws once given settings limits s id acts v may taken merged =
    let start = may-start m settings limits s id may in
    let fit : AreFit settings limits = record { target = may.start.limits; debugger = may.limits_fit; packet = may.packet } in
    let b : Stays m settings limits (m.sizes s) (opening m s) [] (programs_within m settings limits s id) =
    record { standing = opening-stands m laws.worlds (settings_between settings limits) s id start; keeps = new-keeps limits id may.limits_fit may.start.id_fits; own = refl } in
    relies-within m laws settings limits (opening m s) acts v fit (opening-settles m once (settings_between settings limits) s start.begins) (opening-tells m given (settings_between settings limits) s)
    (stays-on m settings limits (m.sizes s) (opening m s) (programs_within m settings limits s id) acts v laws fit taken b merged)
