-- What is seen of one connection in memory.
use Rattle.std.specs.Prelude.{ℕ, List, map, Vec}
use Rattle.std.specs.declared.alloc.Global.{Global}
use Rattle.network.specs.Connections.{Arrival, Connection}
use Rattle.memory_network.specs.declared.kept_connection.KeptConnection.{KeptConnection}

-- the connection as it comes
abbrev pub arrival_in : KeptConnection → Arrival
arrival_in kept = record { moment = kept.moment; bytes = kept.bytes.items }

-- the connection once it was accepted
abbrev pub connection_in : KeptConnection → Connection
connection_in kept = record {
  moment = kept.moment;
  bytes = kept.bytes.items;
  taken = kept.taken;
  written = kept.written.items;
  read_failed = kept.read_failed;
  write_failed = kept.write_failed;
}

-- connections as they were given, each as its moment and its bytes
abbrev pub arrivals_of : List (ℕ × Vec ℕ Global) → List Arrival
arrivals_of given = map (λ (one : ℕ × Vec ℕ Global). record { moment = one.0; bytes = one.1.items }) given
