-- the target acts: it changes the debuggee, and sends messages
use Rattle.std.proofs.Common.{◌≡◌, ℕ, Bool, true, false, cond, inl, inr, List, [], ◌++◌, refl, sym, ◌∙◌, ap, subst}
use Rattle.std.proofs.lemmas.List.{append_assoc}
use Rattle.std.specs.List.{AllByRecursion}
use Rattle.jdwp_wire.specs.Streams.{Message, AreSendable, stream}
use Rattle.jdwp_wire.specs.Widths.{Widths}
use Rattle.jdwp_end.specs.Ends.{End, is_established_phase}
use Rattle.jdwp_machine.specs.Meanings.{Meaning}
use Rattle.jdwp_debuggee.specs.Settings.{Settings}
use Rattle.jdwp_target.specs.Deeds.{FullStanding, behind_reaction}
use Rattle.jdwp_target.specs.Standings.{Reaction}
use Rattle.jdwp_target.specs.Targets.{Target, with_performance}
use Rattle.jdwp_model.specs.World.{is_closed, World}
use Rattle.jdwp_link.specs.Links.{Link, way_to_target, way_to_debugger}
use Rattle.jdwp_link.specs.Stands.{AreCut, Parts}
use Rattle.jdwp_link.specs.Wires.{CallWire, PacketWire, Waiting, IsAmong, calls_sent, deferred_sent, packets_sent, without_ids, replied, asked, IsMessage, AreCalls, AreDeferred}
use Rattle.jdwp_link.proofs.Sizes.{without-append}
use Rattle.jdwp_link.proofs.Wired.{all-append, among-back, among-either, among-front, awaits-replied, cut-sent, packets-can}

-- What a reaction of the target makes of a world: these messages are sent, which mean what they say and reply to these commands; and what is
-- deferred stays so in an established session alone.
pub record Acted {S : Type 0} (m : Meaning S) (w : Widths) (x : World S) (r : Reaction S) (done : List Waiting) (y : World S) : Type 0 where
  pub more : List (PacketWire S)
  pub sends : packets_sent w more ≡ r.sends
  pub mean : AllByRecursion (λ (p : PacketWire S). IsMessage w p.1.0) more
  pub replies : replied more ≡ done
  pub sizes : m.sizes r.after.moment.machine ≡ w
  pub same : record x { now = r.after.moment; target = r.after.phase; to_debugger = x.to_debugger ++ without_ids more; deferred = cond (is_established_phase r.after.phase) x.deferred [] } ≡ y

-- ---- what stays deferred

kept-ids : (b : Bool) (kept : List Waiting) → without_ids (cond b kept []) ≡ cond b (without_ids kept) []
kept-ids true kept = refl
kept-ids false kept = refl

kept-sent : (b : Bool) (w : Widths) (kept : List Waiting) (messages : List Message) → deferred_sent w kept ≡ messages → deferred_sent w (cond b kept []) ≡ cond b messages []
kept-sent true w kept messages e = e
kept-sent false w kept messages e = refl

kept-deferred : (b : Bool) (w : Widths) (kept : List Waiting) → AreDeferred w kept → AreDeferred w (cond b kept [])
kept-deferred true w kept h = h
kept-deferred false w kept h = tt

-- where less stays deferred, less is anywhere
kept-among : (b : Bool) (p : Waiting) (done kept rest : List Waiting) → IsAmong p (done ++ (cond b kept [] ++ rest)) → IsAmong p (done ++ (kept ++ rest))
kept-among true p done kept rest h = h
kept-among false p done kept rest h = elim (among-either p done rest h) [
  | inl a ↦ among-front p done (kept ++ rest) a
  | inr a ↦ among-back p done (kept ++ rest) (among-back p kept rest a)
]

-- ---- all of it

-- A target that reacts, from an end that has so many bytes left of these calls, where these commands are deferred.
pub acts-parts : {S : Type 0} (m : Meaning S) (settings : Settings) (w : Widths) (l : Link S) (x y : World S) (did : Bool) (r : Reaction S) (now : FullStanding S) (answered : List Message) (end : End) (v : Target S) (at : ℕ) (calls : List CallWire) (kept done : List Waiting)
    → (s : Parts m settings w l x) → v.settings ≡ settings → end.limits ≡ settings.limits → end.session.lost ≡ x.lost → end.outgoing ≡ l.target.end.outgoing
    → AreCalls w settings.limits.packet calls → AreSendable settings.limits.packet r.sends
    → AreCut at (stream (calls_sent w calls)) (way_to_target l) (with_performance (behind_reaction now answered r) end v).end (is_closed r.after.phase)
    → deferred_sent w kept ≡ now.deferred → AreDeferred w kept → now.deferring ≡ x.deferring
    → ((p : Waiting) → IsAmong p (done ++ (kept ++ asked calls)) → IsAmong p (s.deferred.wires ++ asked s.to.wires))
    → Acted m w (record x { to_target = without_ids calls; at_target = at; deferred = without_ids kept }) r done y
    → Parts m settings w (record l { target = with_performance (behind_reaction now answered r) end v; did = did }) y
acts-parts m settings w l x y did r now answered end v at calls kept done s same limits lost out can sends cut messages deferred deferring e a =
    let put : way_to_debugger (record l { target = with_performance (behind_reaction now answered r) end v }) ≡ way_to_debugger l ++ stream (packets_sent w a.more) =
    ap (λ o. l.to_debugger ++ (o ++ stream r.sends)) out ∙ (sym (append_assoc l.to_debugger l.target.end.outgoing (stream r.sends)) ∙ ap (λ b. way_to_debugger l ++ stream b) (sym a.sends)) in
    let b = is_established_phase r.after.phase in
    subst (λ z. Parts m settings w (record l { target = with_performance (behind_reaction now answered r) end v; did = did }) z) a.same
    (record {
      target = record { same_settings = same; limits = limits; sizes = a.sizes; now = refl; phase = refl; lost = lost; deferring = deferring };
      debugger = record {
        order = s.debugger.order;
        limits = s.debugger.limits;
        phase = s.debugger.phase;
        tickets = s.debugger.tickets;
        mirror = s.debugger.mirror;
        opened = λ o. let d = s.debugger.opened o in record { sizes = d.sizes; parked = d.parked; pending = d.pending; ticketed = d.ticketed };
        none_waits = s.debugger.none_waits;
      };
      to = record { wires = calls; calls = refl; sent = can; cut = cut; kept = s.to.kept };
      deferred = record { wires = cond b kept []; commands = kept-ids b kept; messages = kept-sent b w kept now.deferred messages; sent = kept-deferred b w kept deferred };
      from = record {
        wires = s.from.wires ++ a.more;
        packets = without-append s.from.wires a.more ∙ ap (λ ps. ps ++ without_ids a.more) s.from.packets;
        sent = all-append _ s.from.wires a.more s.from.sent (packets-can w settings.limits.packet a.more (subst (AreSendable settings.limits.packet) (sym a.sends) sends) a.mean);
        cut = cut-sent w s.from.wires a.more x.at_debugger (way_to_debugger l) _ l.debugger.end l.debugger.end (is_closed x.debugger) refl put s.from.cut;
        kept = s.from.kept;
        awaits = λ o. awaits-replied l.debugger.pending s.from.wires a.more s.deferred.wires (cond b kept []) s.to.wires calls done a.replies
            (λ p h. e p (kept-among b p done kept (asked calls) h)) (s.from.awaits o);
      };
    })
