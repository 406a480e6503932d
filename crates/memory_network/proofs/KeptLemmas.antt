-- The connections in memory, once one of them was accepted, changed or closed.
use Rattle.std.proofs.Common.{◌≡◌, ◌<◌, ◌≤◌, ℕ, ◌+◌, Bool, false, true, IsTrue, List, [], ◌∷◌, ◌++◌, length, get_or}
use Rattle.std.proofs.Common.{map, set, drop, take, cond, Option, Some, refl, sym, ap, ◌∙◌, arith, inl, inr, length-set}
use Rattle.std.proofs.Common.{get_or-set_same}
use Rattle.std.specs.List.{slice_get}
use Rattle.std.specs.Option.{option_map, option_to_list}
use Rattle.std.proofs.Math.Nat.{add-zero}
use Rattle.std.proofs.Math.Seq.{map-set_same}
use Rattle.std.proofs.lemmas.Bool.{false≢true}
use Rattle.std.proofs.lemmas.List.{length-map, map-set, take-set, take_more}
use Rattle.std.proofs.lemmas.Option.{slice_get-map, slice_get_cases, slice_get_read}
use Rattle.memory_objects.proofs.TakenLemmas.{taken_first}
use Rattle.network.specs.Connections.{Arrival, ChangesCurrent, Connection, ConnsSeen}
use Rattle.memory_network.specs.KeptConnection.{arrival_in, connection_in}
use Rattle.memory_network.specs.MemConns.{accepted_count, current_of, listened_of, mem_conns_seen}
use Rattle.memory_network.specs.declared.kept_connection.KeptConnection.{KeptConnection}
use Rattle.memory_network.specs.declared.mem_conns.MemConns.{MemConns}

slice_get-set : {X : Type 0} (items : List X) (place : ℕ) (new : X) → place < length items
    → slice_get (set items place new) place ≡ Some new
slice_get-set items place new within =
    slice_get_read (set items place new) (length items) place new (sym (length-set items place new)) within
    (sym (get_or-set_same items place new new within))

-- the front of a list and what stands behind it
take_then : {X : Type 0} (items : List X) (place : ℕ) → place < length items
    → take (place + 1) items ≡ take place items ++ option_to_list (slice_get items place)
take_then items place within =
    elim (slice_get_cases items place).1 [
      | inl there ↦ take_more items place there.0 within
          ∙ ap (λ (first : _). take place items ++ first ∷ []) there.3
          ∙ ap (λ (found : _). take place items ++ option_to_list found) (sym there.2)
      | inr past ↦ absurd (omega (arith, within, past.0))
    ]

-- a connection as it comes, by what is seen of it later
abbrev pub comes : Connection → Arrival
comes connection = record { moment = connection.moment; bytes = connection.bytes }

-- the connections come as they did, where one of them was changed that does
pub arrivals-changed : (kept : List KeptConnection) (place : ℕ) (old new : KeptConnection) → old ≡ get_or kept place old
    → arrival_in new ≡ arrival_in old → map arrival_in (set kept place new) ≡ map arrival_in kept
arrivals-changed kept place old new there same =
    map-set_same arrival_in kept place new old (same ∙ ap (λ (one : KeptConnection). arrival_in one) there)

-- the closed ones are as they were, where the one behind them was changed
pub closed-changed : (kept : List KeptConnection) (closed : ℕ) (new : KeptConnection)
    → take closed (map connection_in (set kept closed new)) ≡ take closed (map connection_in kept)
closed-changed kept closed new =
    ap (λ (all : List Connection). take closed all) (map-set connection_in kept closed new)
    ∙ take-set (map connection_in kept) closed (connection_in new)

-- where one is open, it stands among the connections
stands : (closed count : ℕ) (is_open : Bool) → IsTrue is_open → closed + cond is_open 1 0 ≤ count → closed < count
stands closed count false so within = absurd (false≢true so)
stands closed count true so within = omega (arith, within)

at_place : (kept : List KeptConnection) (place : ℕ) (one : KeptConnection) → slice_get kept place ≡ Some one
    → slice_get (map connection_in kept) place ≡ Some (connection_in one)
at_place kept place one there =
    slice_get-map connection_in kept place
    ∙ ap (λ (found : Option KeptConnection). option_map connection_in found) there

-- the open one
pub current_is : (kept : List KeptConnection) (closed : ℕ) (is_open : Bool) (one : KeptConnection) → IsTrue is_open
    → closed + cond is_open 1 0 ≤ length kept → one ≡ get_or kept closed one
    → current_of kept closed is_open ≡ Some (connection_in one)
current_is kept closed false one so within there = absurd (false≢true so)
current_is kept closed true one so within there =
    at_place kept closed one
    (slice_get_read kept (length kept) closed one refl (stands closed (length kept) true so within) there)

-- the open one, once it was put in the place of another one
pub current-put : (kept : List KeptConnection) (closed : ℕ) (is_open : Bool) (new : KeptConnection) → IsTrue is_open
    → closed + cond is_open 1 0 ≤ length kept
    → current_of (set kept closed new) closed is_open ≡ Some (connection_in new)
current-put kept closed false new so within = absurd (false≢true so)
current-put kept closed true new so within =
    at_place (set kept closed new) closed new
    (slice_get-set kept closed new (stands closed (length kept) true so within))

-- the open one, once it was changed
pub current-changed : (change : Connection → Connection) (kept : List KeptConnection) (closed : ℕ) (is_open : Bool)
    (old new : KeptConnection) → IsTrue is_open → closed + cond is_open 1 0 ≤ length kept → old ≡ get_or kept closed old
    → connection_in new ≡ change (connection_in old)
    → current_of (set kept closed new) closed is_open ≡ option_map change (current_of kept closed is_open)
current-changed change kept closed is_open old new so within there changed =
    current-put kept closed is_open new so within
    ∙ ap (λ (one : Connection). Some one) changed
    ∙ ap (λ (current : Option Connection). option_map change current)
    (sym (current_is kept closed is_open old so within there))

-- what is left, once the first of it was accepted
pub left-accepted : (kept : List KeptConnection) (closed : ℕ) (is_open : Bool) (old new : KeptConnection)
    → is_open ≡ false → closed < length kept → old ≡ get_or kept closed old → arrival_in new ≡ arrival_in old
    → drop (closed + cond is_open 1 0) (map arrival_in kept)
    ≡ arrival_in old ∷ drop (closed + 1) (map arrival_in (set kept closed new))
left-accepted kept closed true old new none within there same = absurd (false≢true (sym none))
left-accepted kept closed false old new none within there same =
    ap (λ (count : ℕ). drop count (map arrival_in kept)) (add-zero closed)
    ∙ taken_first arrival_in kept closed old (slice_get_read kept (length kept) closed old refl within there)
    ∙ ap (λ (arrivals : List Arrival). arrival_in old ∷ drop (closed + 1) arrivals)
    (sym (arrivals-changed kept closed old new there same))

-- the closed ones, once the open one was closed
pub closed-more : (kept : List KeptConnection) (closed : ℕ) (is_open : Bool) → IsTrue is_open
    → closed + cond is_open 1 0 ≤ length kept
    → take (closed + 1) (map connection_in kept)
    ≡ take closed (map connection_in kept) ++ option_to_list (current_of kept closed is_open)
closed-more kept closed false so within = absurd (false≢true so)
closed-more kept closed true so within =
    take_then (map connection_in kept) closed (omega (arith, within, length-map kept connection_in))

-- what is seen, once another connection was put in the place of the open one, and there are so many faults of
-- connections
abbrev pub seen_with : MemConns → KeptConnection → (faults : ℕ) → ConnsSeen
seen_with conns new faults =
    let kept = set conns.connections.items conns.closed new in record {
      left = drop (accepted_count conns) (map arrival_in kept);
      current = current_of kept conns.closed conns.is_open;
      closed = take conns.closed (map connection_in kept);
      listened = listened_of conns (map arrival_in kept);
      listener_faults = conns.listener_faults;
      connection_faults = faults;
    }

-- a change of the open one changes no other
pub changes_current-with : (conns : MemConns) (old new : KeptConnection) (faults : ℕ)
    → old ≡ get_or conns.connections.items conns.closed old → arrival_in new ≡ arrival_in old
    → conns.connection_faults ≤ faults → ChangesCurrent (mem_conns_seen conns) (seen_with conns new faults)
changes_current-with conns old new faults there same later =
    let arrivals = arrivals-changed conns.connections.items conns.closed old new there same in record {
      left = ap (λ (all : List Arrival). drop (accepted_count conns) all) arrivals;
      closed = closed-changed conns.connections.items conns.closed new;
      listened = ap (λ (all : List Arrival). listened_of conns all) arrivals;
      listener_faults = refl;
      later = later;
    }
