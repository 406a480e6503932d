-- What is seen of connections in memory.
use Rattle.std.specs.Prelude.{◌≡◌, ◌≤◌, ℕ, ◌+◌, Bool, false, true, List, [], ◌++◌, length, map, drop, take, Option}
use Rattle.std.specs.Prelude.{None, Some, is_some, unwrap_or, if◌then◌else◌, refl}
use Rattle.std.specs.List.{slice_get}
use Rattle.std.specs.Option.{option_map, option_to_list}
use Rattle.std.proofs.Common.{sym, ap, arith, inl, inr}
use Rattle.std.proofs.lemmas.List.{length-map}
use Rattle.std.proofs.lemmas.Option.{slice_get_cases}
use Rattle.memory_objects.specs.InMemory.{Plan, plan_in}
use Rattle.network.specs.Connections.{Arrival, Connection, ConnsSeen, Listen, Listened}
use Rattle.memory_network.specs.KeptConnection.{arrival_in, connection_in}
use Rattle.memory_network.specs.declared.kept_connection.KeptConnection.{KeptConnection}
use Rattle.memory_network.specs.declared.mem_conns.LastListen.{LastListen}
use Rattle.memory_network.specs.declared.mem_conns.MemConns.{MemConns}

-- how many of the connections were accepted: the closed ones, and the open one where one is
abbrev pub accepted_count : MemConns → ℕ
accepted_count conns = conns.closed + (if conns.is_open then 1 else 0)

-- the open one of these connections, which stands behind the closed ones
abbrev pub current_of : List KeptConnection → (closed : ℕ) → (is_open : Bool) → Option Connection
current_of connections closed is_open = if is_open then slice_get (map connection_in connections) closed else None

-- the last beginning to listen, kept as its port and as how many of these connections had been accepted before
abbrev pub last_listen : List Arrival → Option LastListen → Option Listen
last_listen arrivals None = None
last_listen arrivals (Some kept) = Some (record { port = kept.port; left = drop kept.accepted arrivals })

-- how it listened, where these are the connections
abbrev pub listened_of : MemConns → List Arrival → Listened
listened_of conns arrivals = record { times = conns.listens; last = last_listen arrivals conns.last }

-- the port of a beginning to listen
abbrev pub listen_port : Option Listen → Option ℕ
listen_port None = None
listen_port (Some listen) = Some listen.port

-- what is seen of connections in memory: those that were not yet accepted are left
abbrev pub mem_conns_seen : MemConns → ConnsSeen
mem_conns_seen conns = record {
  left = drop (accepted_count conns) (map arrival_in conns.connections.items);
  current = current_of conns.connections.items conns.closed conns.is_open;
  closed = take conns.closed (map connection_in conns.connections.items);
  listened = listened_of conns (map arrival_in conns.connections.items);
  listener_faults = conns.listener_faults;
  connection_faults = conns.connection_faults;
}

-- the plan of connections in memory
abbrev pub mem_conns_plan : MemConns → Plan
mem_conns_plan conns = plan_in conns.failures

-- how many connections there are
abbrev pub connection_count : ConnsSeen → ℕ
connection_count seen = length seen.closed + length (option_to_list seen.current) + length seen.left

-- what was written on the connection at a place, in the order in which they come: nothing on those that are left
abbrev pub written_at : ConnsSeen → (place : ℕ) → List ℕ
written_at seen place =
    unwrap_or (option_map (λ (connection : Connection). connection.written)
    (slice_get (seen.closed ++ option_to_list seen.current) place)) []

-- the open one is told exactly where one is open
pub told_where_open : (connections : List KeptConnection) (closed : ℕ) (is_open : Bool)
    → closed + (if is_open then 1 else 0) ≤ length connections
    → is_open ≡ is_some (current_of connections closed is_open)
told_where_open connections closed false within = refl
told_where_open connections closed true within =
    elim (slice_get_cases (map connection_in connections) closed).1 [
      | inl there ↦ sym (ap (λ (current : Option Connection). is_some current) there.2)
      | inr past ↦ absurd (omega (arith, within, past.0, length-map connections connection_in))
    ]
