-- what a debugger's mirror learns, packet by packet
use Rattle.std.proofs.Common.{◌≡◌, ℕ, false, ◌||◌, ◌&&◌, None, List, [], ◌∷◌, ◌++◌, sym, ◌∙◌, ap, subst}
use Rattle.jdwp_mirror.specs.Faults.{is_bad_event}
use Rattle.jdwp_mirror.specs.KnownThreads.{count_in, is_held_in}
use Rattle.jdwp_mirror.specs.Messages.{Handshake}
use Rattle.jdwp_mirror.specs.Mirror.{learned, held_after, is_positive, requests_after}
use Rattle.jdwp_mirror.specs.Mirrors.{Mirror, Learned, empty_mirror}
use Rattle.jdwp_debugger.specs.declared.order.Order.TheVariants.{One}
use Rattle.jdwp_debugger.specs.DebuggerTurns.{LearnedAll}
use Rattle.jdwp_event.specs.Composites.{CompositeMeaning}
use Rattle.jdwp_model.specs.Next.{entered, messages_of}
use Rattle.jdwp_model.specs.Seen.{mirror_count, mirror_held}
use Rattle.jdwp_model.specs.World.{Packet}
use Rattle.jdwp_link.specs.Stands.{IsMirror}

pub learned-one : {S : Type 0} (old new : Mirror) (p : Packet S) (read : List (Packet S)) → IsMirror old read → Learned old p.0 new → IsMirror new (p ∷ read)
learned-one old new p read i l = record {
  counts = λ t. l.counts t ∙ ap (learned p.0 t) (i.counts t);
  held = λ t. l.held t ∙ (ap (λ b. held_after p.0 t b (count_in new.threads t)) (i.held t) ∙ ap (held_after p.0 t (mirror_held read t)) (l.counts t ∙ ap (learned p.0 t) (i.counts t)));
  requests = l.requests ∙ ap (requests_after p.0) i.requests;
}

-- packets that enter, and one behind them
pub learned-all : {S : Type 0} (old new : Mirror) (ps : List (Packet S)) (p : Packet S) (read : List (Packet S)) → IsMirror old read → LearnedAll One old (messages_of ps ++ p.0 ∷ []) new → IsMirror new (p ∷ entered ps read)
learned-all old new [] p read i l = subst (λ m. IsMirror m (p ∷ read)) (sym l.2) (learned-one old l.0 p read i l.1)
learned-all old new (q ∷ ps) p read i l = learned-all l.0 new ps p (q ∷ read) (learned-one old l.0 q read i l.1) l.2

-- a handshake teaches nothing, where nothing was learned
pub learned-none : {S : Type 0} (old : Mirror) (a : Packet S) (read : List (Packet S)) → a.0 ≡ Handshake → old ≡ empty_mirror → IsMirror old read → IsMirror old (a ∷ read)
learned-none old (Handshake, a) read h e i =
    let none : (t : ℕ) → mirror_count read t ≡ None = (λ t. sym (i.counts t) ∙ ap (λ m. count_in m.threads t) e) in
    record {
      counts = i.counts;
      held = λ t. ap (λ m. is_held_in m.threads t) e ∙ sym (ap (λ c. is_positive c && (false || mirror_held read t)) (none t));
      requests = i.requests;
    }
learned-none old (message, a) read h e i = absurd (cc)

-- what is learned before the widths of ids are known is learned from nothing
pub mirror-empty : {S : Type 0} (old : Mirror) (read : List (Packet S)) → old ≡ empty_mirror → IsMirror old read → IsMirror empty_mirror read
mirror-empty old read e i = subst (λ m. IsMirror m read) e i

-- judged by the mirror as by the packets
pub same-judged : {S : Type 0} (m : Mirror) (read : List (Packet S)) (c : CompositeMeaning) → IsMirror m read → is_bad_event (count_in m.threads) c ≡ is_bad_event (mirror_count read) c
same-judged m read c i = let e : count_in m.threads ≡ mirror_count read = (λ k t. i.counts t k) in ap (λ f. is_bad_event f c) e
