use Rattle.std.proofs.Common.{◌≡◌, ◌++◌, take}
use Rattle.rquota_xdr.specs.Reply.{bytes_of}
use Rattle.quota_client.proofs.call_writer.push_units.Given as goal

abbrev pub invariant-loop-unit : goal.invariant-loop-unit
invariant-loop-unit l = l.call.items ≡ l.initial.call.items ++ bytes_of (take l.unit-index l.units)
