use Rattle.std.proofs.Common.{◌≡◌, take}
use Rattle.option_words.specs.Given.{exports_given}
use Rattle.stream_words.proofs.copies.copy_exports.Given as goal

abbrev pub invariant-loop-export : goal.invariant-loop-export
invariant-loop-export l = l.list.items ≡ exports_given (take l.export-index l.exports)
