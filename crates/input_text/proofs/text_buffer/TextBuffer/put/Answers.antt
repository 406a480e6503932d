use Rattle.std.proofs.lemmas.Result.{err_from_is_err_and, on_err_weaker}
use Rattle.outside.proofs.TextLemmas.{appends_at_flush, appends_at_write}
use Rattle.input_text.proofs.text_buffer.TextBuffer.put.Goals as goal

pub returns-in_err-flush-clause-fault : goal.returns-in_err-flush-clause-fault
returns-in_err-flush-clause-fault g c =
    let p = err_from_is_err_and c.from_residual.result c.from_residual.ensures.1 in
    rw p.1
    (λ told start before gathered. appends_at_flush start before _ _ _ _ gathered (c.in_err-flush.ensures.fault told))

pub returns-clause-fault : goal.returns-clause-fault
returns-clause-fault g c =
    on_err_weaker c.write.result
    (λ fault told start before gathered.
    appends_at_write start before _ _ _ _ _ gathered (c.in_ok-flush.ensures.ok told)
    (fault told))
    c.write.ensures.fault
