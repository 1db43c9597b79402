-- A debugger's mirror as contracts see it, and what a packet leaves of it.
use Rattle.std.specs.Prelude.{◌≡◌, ℕ, List, []}
use Rattle.jdwp_mirror.specs.declared.threads.Known.{Known}
use Rattle.jdwp_mirror.specs.KnownThreads.{KeepsOrder, count_in, is_held_in}
use Rattle.jdwp_mirror.specs.Messages.{Message}
use Rattle.jdwp_mirror.specs.Mirror.{Kept, learned, held_after, requests_after}

-- The threads that it knows, in the order in which they became known, each once; and its event requests, the last one asked last.
pub record Mirror : Type 0 where
  pub threads : List Known
  pub requests : List Kept

abbrev pub empty_mirror : Mirror
empty_mirror = record { threads = []; requests = [] }

-- What was learned from a packet, thread by thread; and in which order these stand.
pub record Learned (old : Mirror) (message : Message) (new : Mirror) : Type 0 where
  pub counts : (t : ℕ) → count_in new.threads t ≡ learned message t (count_in old.threads t)
  pub held : (t : ℕ) → is_held_in new.threads t ≡ held_after message t (is_held_in old.threads t) (count_in new.threads t)
  pub order : KeepsOrder old.threads new.threads
  pub requests : new.requests ≡ requests_after message old.requests
