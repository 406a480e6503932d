-- What is seen of the objects in memory.
use Rattle.std.specs.Prelude.{ℕ, List, map, drop, Option, None, Some, Vec}
use Rattle.std.specs.declared.alloc.Global.{Global}
use Rattle.memory_objects.specs.MemStore.{file_named}
use Rattle.memory_objects.specs.NameSet.{names_in}
use Rattle.outside.specs.Seen.{Datagram, LinkSeen, SinkSeen, SourceSeen, Start, StoreSeen}
use Rattle.memory_objects.specs.declared.failures.Failures.{Failures}
use Rattle.memory_objects.specs.declared.mem_link.MemLink.{MemLink}
use Rattle.memory_objects.specs.declared.mem_sink.MemSink.{MemSink}
use Rattle.memory_objects.specs.declared.mem_source.MemSource.{MemSource}
use Rattle.memory_objects.specs.declared.mem_store.MemStore.{MemStore}

-- Which calls of an object in memory are to fail, by their numbers from 1, and how many calls there were, up to the
-- last value of a counter of 64 bits.
pub record Plan : Type 0 where
  pub failing : List ℕ
  pub calls : ℕ

-- the plan of an object's failures
abbrev pub plan_in : Failures → Plan
plan_in failures = record { failing = failures.failing.items; calls = failures.calls }

-- a plan of which no call was made yet
abbrev pub new_plan : List ℕ → Plan
new_plan failing = record { failing = failing; calls = 0 }

-- what is seen of a store in memory
abbrev pub mem_store_seen : MemStore → StoreSeen
mem_store_seen store = record {
  files = file_named store.files.entries.items;
  unsynced = names_in store.unsynced.names.items;
  faults = store.failures.faults;
  reads = store.reads;
  writes = store.writes;
}

-- the plan of a store in memory
abbrev pub mem_store_plan : MemStore → Plan
mem_store_plan store = plan_in store.failures

-- what is seen of a sink in memory
abbrev pub mem_sink_seen : MemSink → SinkSeen
mem_sink_seen sink = record { written = sink.bytes.items; faults = sink.failures.faults }

-- the plan of a sink in memory
abbrev pub mem_sink_plan : MemSink → Plan
mem_sink_plan sink = plan_in sink.failures

-- what is seen of a source in memory: what was not yet taken is left
abbrev pub mem_source_seen : MemSource → SourceSeen
mem_source_seen source = record { left = drop source.at source.bytes.items; faults = source.failures.faults }

-- the plan of a source in memory
abbrev pub mem_source_plan : MemSource → Plan
mem_source_plan source = plan_in source.failures

-- a datagram as it was given, with its moment
abbrev pub datagram_in : Vec ℕ Global × ℕ → Datagram
datagram_in given = record { bytes = given.0.items; moment = given.1 }

-- datagrams as they were given
abbrev pub datagrams_of : List (Vec ℕ Global × ℕ) → List Datagram
datagrams_of given = map datagram_in given

-- answers as lists of bytes
abbrev pub answers_in : List (Vec ℕ Global) → List (List ℕ)
answers_in answers = map (λ (answer : Vec ℕ Global). answer.items) answers

-- the last start of a link, kept as its port and as how many of these datagrams were taken before it
abbrev pub last_start : List Datagram → Option (ℕ × ℕ) → Option Start
last_start datagrams None = None
last_start datagrams (Some kept) = Some (record { port = kept.0; left = drop kept.1 datagrams })

-- the port of a start
abbrev pub port_of : Option Start → Option ℕ
port_of None = None
port_of (Some start) = Some start.port

-- what is seen of a link in memory: the datagrams that were not yet taken are left
abbrev pub mem_link_seen : MemLink → LinkSeen
mem_link_seen link = record {
  left = drop link.taken (datagrams_of link.datagrams.items);
  answers = answers_in link.answers.items;
  started = record { times = link.starts; last = last_start (datagrams_of link.datagrams.items) link.last };
  faults = link.failures.faults;
}

-- the plan of a link in memory
abbrev pub mem_link_plan : MemLink → Plan
mem_link_plan link = plan_in link.failures
