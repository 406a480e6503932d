use Rattle.std.proofs.Common.{◌≡◌, ◌∷◌, List, ℕ, ap, length, min, take, Option, Vec, ◌∙◌, arith}
use Rattle.std.specs.declared.alloc.Global.{Global}
use Rattle.memory_objects.proofs.TakenLemmas.{taken_datagram}
use Rattle.memory_network.specs.MemPeer.{event_in}
use Rattle.memory_network.proofs.mem_peer.give.Goals as goal

pub returns-in-Some-clause-taken : goal.returns-in-Some-clause-taken
returns-in-Some-clause-taken c rest =
    let bytes : List ℕ = c.in-Some.datagram.items in
    let least : c.min-len.result ≡ min (length bytes) 4096 = omega
    (arith, ap length c.deref.ensures.value, c.deref.ensures.len, c.len.ensures, c.min-len.ensures) in record {
      datagram = bytes;
      first = ap (λ (event : Option (Vec ℕ Global)). event_in event ∷ rest) c.in-Some.is;
      bytes = taken_datagram bytes _ _ _ least
          (c.copy_from_slice.ensures.after ∙ ap (λ (all : List ℕ). take c.min-len.result all) c.deref.ensures.value);
      count = omega (arith, least);
    }
