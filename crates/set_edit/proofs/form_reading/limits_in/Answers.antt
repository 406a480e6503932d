use Rattle.std.proofs.Common.{sym, arith}
use Rattle.input_text.specs.Words.{words_of}
use Rattle.set_edit.proofs.FormReadingLemmas.{limits_in-other}
use Rattle.set_edit.proofs.form_reading.limits_in.Goals as goal

pub returns-in_err-words : goal.returns-in_err-words
returns-in_err-words c =
    let many = c.in_err-words.ensures in
    rw c.from_residual.ensures
    (sym (limits_in-other c.args.file.now (words_of c.args.line.now) (λ seven. omega (arith, seven, many))))
