-- which message stands in front of a debugger
use Rattle.std.proofs.Common.{◌≡◌, ◌≤◌, ◌<◌, ◌^◌, ℕ, zero, suc, ◌⊎◌, inl, inr, Bool, true, false, ◌&&◌, not, cond, Some, None, List, [], ◌∷◌, ◌++◌, length, take, refl, sym, ◌∙◌, ap, subst}
use Rattle.std.specs.Prelude.{nat_lt, nat_le}
use Rattle.std.proofs.lemmas.Bool.{cases_lt, lt-ltb, le-ltb}
use Rattle.jdwp_wire.specs.Streams as streams
use Rattle.jdwp_wire.specs.Streams.{Whole, More, front_of_cut, stream}
use Rattle.jdwp_wire.specs.Widths.{Widths}
use Rattle.jdwp_end.specs.declared.phase.Phase.{Phase}
use Rattle.jdwp_end.specs.declared.phase.Phase.TheVariants.{Closed, AwaitingHandshake, Established}
use Rattle.jdwp_end.specs.Ends.{End, front_of, is_established_phase, is_paused}
use Rattle.jdwp_machine.specs.Meanings.{Meaning}
use Rattle.jdwp_debuggee.specs.Settings.{Settings}
use Rattle.jdwp_mirror.specs.Faults.{Reader, fault_after_greeting, fault_before_greeting, fault_of}
use Rattle.jdwp_mirror.specs.Messages.{Message, Handshake, Reply, Report}
use Rattle.jdwp_model.specs.Next.{debugger_front, reader, whole_packet}
use Rattle.jdwp_model.specs.World as world
use Rattle.jdwp_model.specs.World.{is_closed, Packet, World}
use Rattle.jdwp_model.specs.Measures.{measured, message_size}
use Rattle.jdwp_link.specs.Laws.{FindsMessages}
use Rattle.jdwp_link.specs.Links.{Link, way_to_debugger}
use Rattle.jdwp_link.specs.Stands.{AreCut, Parts}
use Rattle.jdwp_link.specs.Wires.{PacketWire, ArePackets, message_sent, packets_sent, without_ids}
use Rattle.jdwp_link.proofs.Delivering.{way-target}
use Rattle.jdwp_link.proofs.Reached.{Known}
use Rattle.jdwp_link.proofs.Sizes.{message-length}
use Rattle.jdwp_link.proofs.Stepping.{not-paused}
use Rattle.jdwp_link.proofs.Turning.{cut-short, cut-whole, front-closed, front-paused, turn-free, turn-none, turn-paused}

-- no message is handled
pub record IsStill {S : Type 0} (settings : Settings) (w : Widths) (end : End) (x : World S) : Type 0 where
  pub front : front_of end ≡ More
  pub none : debugger_front settings (measured w settings.limits) x ≡ None

-- this one is, under its id, and it is not refused
pub record HasMessage {S : Type 0} (settings : Settings) (w : Widths) (end : End) (x : World S) (wires : List (PacketWire S)) : Type 0 where
  pub id : ℕ
  pub packet : Packet S
  pub rest : List (PacketWire S)
  pub first : wires ≡ (id, packet) ∷ rest
  pub front : front_of end ≡ Whole (message_sent w id packet.0) (message_size w packet.0)
  pub some : debugger_front settings (measured w settings.limits) x ≡ Some (packet, without_ids rest)
  pub came : message_size w packet.0 ≤ x.at_debugger
  pub opened : is_closed x.debugger ≡ false
  pub fair : fault_of (reader x) packet.0 ≡ None

-- ---- in which phase a message is read

abbrev pub is_read_in : Phase → Message → Bool
is_read_in AwaitingHandshake Handshake = true
is_read_in Established (Reply k c answer) = true
is_read_in Established (Report c) = true
is_read_in phase message = false

judged : (r : Reader) (message : Message) (b : Bool) → r.greeted ≡ b → fault_of r message ≡ cond b (fault_after_greeting r message) (fault_before_greeting message)
judged r message b e = ap (λ g. cond g (fault_after_greeting r message) (fault_before_greeting message)) e

pub fair-place : (r : Reader) (phase : Phase) (message : Message) → r.greeted ≡ is_established_phase phase → is_closed phase ≡ false → fault_of r message ≡ None → is_read_in phase message ≡ true
fair-place r Closed message e o fair = absurd (cc)
fair-place r AwaitingHandshake Handshake e o fair = refl
fair-place r AwaitingHandshake (Reply k c answer) e o fair = let f = judged r (Reply k c answer) false e in absurd (cc)
fair-place r AwaitingHandshake (Report c) e o fair = let f = judged r (Report c) false e in absurd (cc)
fair-place r Established Handshake e o fair = let f = judged r Handshake true e in absurd (cc)
fair-place r Established (Reply k c answer) e o fair = refl
fair-place r Established (Report c) e o fair = refl

message-front : {S : Type 0} (w : Widths) (limit : ℕ) (end : End) (n id : ℕ) (phase : Phase) (p : Packet S) (rest : List (PacketWire S)) (message : Message) → FindsMessages → p.0 ≡ message → end.limits.packet ≡ limit → limit < 2 ^ 32 → end.phase ≡ phase
    → is_read_in phase message ≡ true → is_paused end ≡ false → ArePackets w limit ((id, p) ∷ rest) → end.incoming ≡ take n (stream (packets_sent w ((id, p) ∷ rest))) → front_of end ≡ front_of_cut n (message_sent w id message)
message-front w limit end n id AwaitingHandshake p rest Handshake finds same most small e place free can came =
    let lt : end.limits.packet < 2 ^ 32 = subst (λ k. k < 2 ^ 32) (sym most) small in
    finds.handshake end n (packets_sent w rest) e free lt (came ∙ ap (λ x. take n (stream (message_sent w id x ∷ packets_sent w rest))) same)
message-front w limit end n id Established p rest (Reply k c answer) finds same most small e place free can came =
    let lt : end.limits.packet < 2 ^ 32 = subst (λ k. k < 2 ^ 32) (sym most) small in
    finds.packet end n _ _ (packets_sent w rest) e free lt
    (subst (λ most-bytes. streams.IsSendable most-bytes (message_sent w id (Reply k c answer))) (sym most) (subst (λ x. streams.IsSendable limit (message_sent w id x)) same can.0.0))
    (came ∙ ap (λ x. take n (stream (message_sent w id x ∷ packets_sent w rest))) same)
message-front w limit end n id Established p rest (Report c) finds same most small e place free can came =
    let lt : end.limits.packet < 2 ^ 32 = subst (λ k. k < 2 ^ 32) (sym most) small in
    finds.packet end n _ _ (packets_sent w rest) e free lt
    (subst (λ k. streams.IsSendable k (message_sent w id (Report c))) (sym most) (subst (λ x. streams.IsSendable limit (message_sent w id x)) same can.0.0))
    (came ∙ ap (λ x. take n (stream (message_sent w id x ∷ packets_sent w rest))) same)
message-front w limit end n id phase p rest message finds same most small e place free can came = absurd (cc)

-- ---- a pause

pub flows-debugger : {S : Type 0} (m : Meaning S) (settings : Settings) (w : Widths) (l : Link S) (x : World S) → FindsMessages → Parts m settings w l x → is_closed x.debugger ≡ false
    → nat_lt (world.way_to_target (measured w settings.limits) x) settings.limits.packet ≡ not (is_paused l.debugger.end)
flows-debugger m settings w l x finds s o =
    let way : length l.debugger.end.outgoing ≡ world.way_to_target (measured w settings.limits) x =
    ap (λ b. length (b ++ l.debugger.end.outgoing)) (sym (s.to.kept o)) ∙ way-target m settings w l x finds s in
    ap (λ n. nat_lt n settings.limits.packet) (sym way) ∙ (not-paused (length l.debugger.end.outgoing) settings.limits.packet ∙ ap (λ n. not (nat_le n.packet (length l.debugger.end.outgoing))) (sym s.debugger.limits))

-- ---- all of it

front-by : {S : Type 0} (settings : Settings) (w : Widths) (x : World S) (b : Bool) → (not (is_closed x.debugger) && nat_lt (world.way_to_target (measured w settings.limits) x) settings.limits.packet) ≡ b
    → debugger_front settings (measured w settings.limits) x ≡ cond b (whole_packet (measured w settings.limits) x.at_debugger x.to_debugger) None
front-by settings w x b e = ap (λ c. cond c (whole_packet (measured w settings.limits) x.at_debugger x.to_debugger) None) e

front-open : {S : Type 0} (settings : Settings) (w : Widths) (end : End) (x : World S) (wires : List (PacketWire S)) (way : List ℕ) → FindsMessages → settings.limits.packet < 2 ^ 32 → end.limits ≡ settings.limits → end.phase ≡ x.debugger
    → is_closed x.debugger ≡ false → is_paused end ≡ false → nat_lt (world.way_to_target (measured w settings.limits) x) settings.limits.packet ≡ true
    → without_ids wires ≡ x.to_debugger → ArePackets w settings.limits.packet wires → AreCut x.at_debugger (stream (packets_sent w wires)) way end (is_closed x.debugger)
    → ((p : Packet S) (rest : List (Packet S)) → x.to_debugger ≡ p ∷ rest → fault_of (reader x) p.0 ≡ None)
    → IsStill settings w end x ⊎ HasMessage settings w end x wires
front-open settings w end x [] way finds small limits e o free flows packets can cut fair =
    let none : end.incoming ≡ [] = cut.there o ∙ elim x.at_debugger as (λ n. let none : List ℕ = [] in take n none ≡ none) [ zero ↦ refl | suc n ↦ refl ] in
    inl (record {
      front = finds.nothing end none;
      none = front-by settings w x true (turn-free (is_closed x.debugger) _ o flows) ∙ ap (λ c. whole_packet (measured w settings.limits) x.at_debugger c) (sym packets);
    })
front-open settings w end x ((id, p) ∷ rest) way finds small limits e o free flows packets can cut fair =
    let judge = fair p (without_ids rest) (sym packets) in
    let here = fair-place (reader x) x.debugger p.0 refl o judge in
    let found = message-front w settings.limits.packet end x.at_debugger id x.debugger p rest p.0 finds refl (ap (λ k. k.packet) limits) small e here free can (cut.there o) in
    let whole : debugger_front settings (measured w settings.limits) x ≡ cond (nat_lt x.at_debugger (message_size w p.0)) None (Some (p, without_ids rest)) =
    front-by settings w x true (turn-free (is_closed x.debugger) _ o flows) ∙ ap (λ c. whole_packet (measured w settings.limits) x.at_debugger c) (sym packets) in
    elim (cases_lt x.at_debugger (message_size w p.0)) [
      | inl lt ↦ inl (record {
        front = found ∙ cut-short x.at_debugger (message_sent w id p.0) (message_size w p.0) (message-length finds w id p.0) lt;
        none = whole ∙ ap (λ b. cond b None (Some (p, without_ids rest))) (lt-ltb x.at_debugger (message_size w p.0) lt);
      })
      | inr le ↦ inr (record {
        id = id;
        packet = p;
        rest = rest;
        first = refl;
        front = found ∙ cut-whole x.at_debugger (message_sent w id p.0) (message_size w p.0) (message-length finds w id p.0) le;
        some = whole ∙ ap (λ b. cond b None (Some (p, without_ids rest))) (le-ltb x.at_debugger (message_size w p.0) le);
        came = le;
        opened = o;
        fair = judge;
      })
    ]

front-cases : {S : Type 0} (m : Meaning S) (settings : Settings) (w : Widths) (l : Link S) (x : World S) (closed paused : Bool) → FindsMessages → settings.limits.packet < 2 ^ 32 → Known m settings x → (s : Parts m settings w l x)
    → is_closed x.debugger ≡ closed → is_paused l.debugger.end ≡ paused → IsStill settings w l.debugger.end x ⊎ HasMessage settings w l.debugger.end x s.from.wires
front-cases m settings w l x true paused finds small k s c p = inl (record {
  front = front-closed l.debugger.end x.debugger s.debugger.phase c;
  none = front-by settings w x false (turn-none (is_closed x.debugger) _ c);
})
front-cases m settings w l x false true finds small k s o p = inl (record {
  front = front-paused l.debugger.end p;
  none = front-by settings w x false (turn-paused (is_closed x.debugger) _ (flows-debugger m settings w l x finds s o ∙ ap not p));
})
front-cases m settings w l x false false finds small k s o p =
    front-open settings w l.debugger.end x s.from.wires (way_to_debugger l) finds small s.debugger.limits s.debugger.phase o p (flows-debugger m settings w l x finds s o ∙ ap not p) s.from.packets s.from.sent s.from.cut
    (λ q rest e. k.packet q rest o e)

pub debugger-has : {S : Type 0} (m : Meaning S) (settings : Settings) (w : Widths) (l : Link S) (x : World S) → FindsMessages → settings.limits.packet < 2 ^ 32 → Known m settings x → (s : Parts m settings w l x)
    → IsStill settings w l.debugger.end x ⊎ HasMessage settings w l.debugger.end x s.from.wires
debugger-has m settings w l x finds small k s = front-cases m settings w l x (is_closed x.debugger) (is_paused l.debugger.end) finds small k s refl refl
