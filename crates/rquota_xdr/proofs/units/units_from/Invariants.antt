use Rattle.std.proofs.Common.{◌≡◌}
use Rattle.arrayvec.specs.ArrayVec.{array_vec_len}
use Rattle.rquota_xdr.specs.Units.{units_from}
use Rattle.rquota_xdr.proofs.units.units_from.Given as goal

abbrev pub invariant-loop-place : goal.invariant-loop-place
invariant-loop-place g l = record {
  read : l.units.items ≡ units_from l.bytes l.at l.place;
  len : array_vec_len l.units ≡ l.place;
}
