use Rattle.std.specs.Prelude.{◌^◌}
use Rattle.quota_types.proofs.DigitsLemmas.{IsReadBelow}
use Rattle.id_names.proofs.line.read_id.Given as goal

abbrev pub invariant-loop-digit : goal.invariant-loop-digit
invariant-loop-digit l = IsReadBelow (2 ^ 32) l.field l.digit-index l.id
