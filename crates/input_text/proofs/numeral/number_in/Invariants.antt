use Rattle.std.specs.Prelude.{◌^◌}
use Rattle.quota_types.proofs.DigitsLemmas.{IsReadBelow}
use Rattle.input_text.proofs.numeral.number_in.Given as goal

abbrev pub invariant-loop-digit : goal.invariant-loop-digit
invariant-loop-digit l = IsReadBelow (2 ^ 64) l.word l.digit-index l.number
