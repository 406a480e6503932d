use Rattle.std.proofs.Common.{◌≡◌, ◌++◌, ◌*◌, take, drop}
use Rattle.rquota_xdr.specs.Reply.{bytes_of}
use Rattle.rquota_xdr.proofs.units.put_units.Given as goal

abbrev pub invariant-loop-place : goal.invariant-loop-place
invariant-loop-place l = l.bytes ≡ bytes_of (take l.place l.units) ++ drop (4 * l.place) l.initial.bytes
