use Rattle.std.proofs.Common.{◌≡◌, map}
use Rattle.memory_network.specs.KeptConnection.{arrival_in, arrivals_of}
use Rattle.memory_network.proofs.mem_conns.keep_all.Given as goal

abbrev pub invariant-loop-moment : goal.invariant-loop-moment
invariant-loop-moment l = map arrival_in l.kept.items ≡ arrivals_of l.yielded
