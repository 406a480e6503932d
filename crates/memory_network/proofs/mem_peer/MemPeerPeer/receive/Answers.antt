use Rattle.std.proofs.Common.{◌≡◌, ◌+◌, List, ℕ, length, drop, Option, Some, Vec, refl, sym, subst, arith}
use Rattle.std.specs.List.{slice_get}
use Rattle.std.specs.declared.alloc.Global.{Global}
use Rattle.std.proofs.lemmas.Option.{slice_get_read}
use Rattle.memory_objects.proofs.TakenLemmas.{taken_first}
use Rattle.network.specs.Events.{Event, TakesEvent}
use Rattle.memory_network.specs.MemPeer.{event_in, events_of}
use Rattle.memory_network.proofs.mem_peer.MemPeerPeer.receive.Goals as goal

pub returns-clause-taken : goal.returns-clause-taken
returns-clause-taken c =
    let items : List (Option (Vec ℕ Global)) = c.args.self.now.events.items in
    let at : ℕ = c.args.self.now.taken in
    let there : slice_get items at ≡ Some c.index.result.now =
    slice_get_read items (length items) at c.index.result.now refl (omega (arith, c.args.self.now.events.ok.0))
    c.index.ensures in
    subst
    (λ (left : List Event). TakesEvent c.give-got.result c.give-got.new.buf left (drop (at + 1) (events_of items)))
    (sym (taken_first event_in items at c.index.result.now there))
    (c.give-got.ensures.taken (drop (at + 1) (events_of items)))
