-- What is seen of a peer in memory.
use Rattle.std.specs.Prelude.{ℕ, List, map, drop, Option, None, Some, Vec}
use Rattle.std.specs.Option.{option_map}
use Rattle.std.specs.declared.alloc.Global.{Global}
use Rattle.memory_objects.specs.InMemory.{Plan, plan_in}
use Rattle.network.specs.Events.{Event, PeerSeen, PeerStart}
use Rattle.memory_network.specs.declared.mem_peer.LastStart.{LastStart}
use Rattle.memory_network.specs.declared.mem_peer.MemPeer.{MemPeer}

-- an event as it was given: a datagram, or a quiet
abbrev pub event_in : Option (Vec ℕ Global) → Event
event_in given = option_map (λ (datagram : Vec ℕ Global). datagram.items) given

-- events as they were given
abbrev pub events_of : List (Option (Vec ℕ Global)) → List Event
events_of given = map event_in given

-- datagrams that were sent, as lists of bytes
abbrev pub sent_in : List (Vec ℕ Global) → List (List ℕ)
sent_in sent = map (λ (datagram : Vec ℕ Global). datagram.items) sent

-- the last start of a peer, kept as its port and as how many datagrams were sent and how many of these events were
-- taken before
abbrev pub last_start : List Event → Option LastStart → Option PeerStart
last_start events None = None
last_start events (Some kept) = Some (record { port = kept.port; sent = kept.sent; left = drop kept.taken events })

-- the port of a start
abbrev pub port_of : Option PeerStart → Option ℕ
port_of None = None
port_of (Some start) = Some start.port

-- what is seen of a peer in memory: the events that were not yet taken are left
abbrev pub mem_peer_seen : MemPeer → PeerSeen
mem_peer_seen peer = record {
  left = drop peer.taken (events_of peer.events.items);
  sent = sent_in peer.sent.items;
  started = record { times = peer.starts; last = last_start (events_of peer.events.items) peer.last };
  faults = peer.failures.faults;
}

-- the plan of a peer in memory
abbrev pub mem_peer_plan : MemPeer → Plan
mem_peer_plan peer = plan_in peer.failures
