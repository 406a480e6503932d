-- No connection is open between two exchanges.
use Rattle.std.proofs.Common.{◌≡◌, false}
use Rattle.std.specs.Prelude.{is_some}
use Rattle.tests_of_system.proofs.tcp.all_go.Given as goal

abbrev pub invariant-loop-exchange : goal.invariant-loop-exchange
invariant-loop-exchange g l = is_some l.conns.current ≡ false
