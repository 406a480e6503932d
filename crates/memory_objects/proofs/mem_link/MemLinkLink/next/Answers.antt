use Rattle.std.proofs.Common.{◌≡◌, List, ℕ, ap, length, min, take, Some, Vec, refl, ◌∙◌, arith}
use Rattle.std.specs.List.{slice_get}
use Rattle.std.specs.declared.alloc.Global.{Global}
use Rattle.std.proofs.lemmas.Option.{slice_get_read}
use Rattle.memory_objects.specs.InMemory.{datagram_in}
use Rattle.memory_objects.proofs.TakenLemmas.{taken_datagram, taken_first}
use Rattle.memory_objects.proofs.mem_link.MemLinkLink.next.Goals as goal

pub returns-clause-taken : goal.returns-clause-taken
returns-clause-taken c =
    let datagram : Vec ℕ Global × ℕ = c.index-datagram.result.now in
    let items : List (Vec ℕ Global × ℕ) = c.args.self.now.datagrams.items in
    let there : slice_get items c.args.self.now.taken ≡ Some datagram =
    slice_get_read items (length items) c.args.self.now.taken datagram refl
    (omega (arith, c.args.self.now.datagrams.ok.0)) c.index-datagram.ensures in
    let least : c.min-len.result ≡ min (length datagram.0.items) 4096 =
    omega (arith, ap length c.deref.ensures.value, c.deref.ensures.len, c.len-2.ensures, c.min-len.ensures) in (
      datagram_in datagram,
      taken_first datagram_in items _ datagram there,
      taken_datagram datagram.0.items _ _ _ least
          (c.copy_from_slice.ensures.after
          ∙ ap (λ (bytes : List ℕ). take c.min-len.result bytes) c.deref.ensures.value),
      omega (arith, least),
      refl,
    )
