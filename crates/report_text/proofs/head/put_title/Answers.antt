use Rattle.std.proofs.Common.{◌++◌, codes, refl, append_assoc, arith}
use Rattle.std.proofs.lemmas.Result.{err_from_is_err_and, on_err_weaker, on_ok_weaker}
use Rattle.report_text.proofs.GatherLemmas.{gathers_then, writes_more, writes_then}
use Rattle.report_text.proofs.head.put_title.Goals as goal

pub returns-in_err-put-clause-fault : goal.returns-in_err-put-clause-fault
returns-in_err-put-clause-fault g c =
    let p = err_from_is_err_and c.from_residual.result c.from_residual.ensures.1 in
    rw p.1
    (writes_more _ _ _ _ _ (c.args.title.now ++ codes "\n") _ c.in_err-put.ensures.fault (grind (arith, append_assoc)))

pub returns-in_err-put-2-clause-fault : goal.returns-in_err-put-2-clause-fault
returns-in_err-put-2-clause-fault g c =
    let p = err_from_is_err_and c.from_residual-in_err-put-2.result c.from_residual-in_err-put-2.ensures.1 in
    rw p.1 (writes_more _ _ _ _ _ (codes "\n") _
    (writes_then _ _ _ _ _ _ _ _ _ c.in_ok-put.ensures.ok c.in_err-put-2.ensures.fault refl) cc)

pub returns-clause-ok : goal.returns-clause-ok
returns-clause-ok g c =
    on_ok_weaker c.put-3.result
    (λ ok. gathers_then _ _ _ _ _ _ _ _ _ _
    (gathers_then _ _ _ _ _ _ _ _ _ _ c.in_ok-put.ensures.ok c.in_ok-put-2.ensures.ok refl)
    ok cc)
    c.put-3.ensures.ok

pub returns-clause-fault : goal.returns-clause-fault
returns-clause-fault g c =
    on_err_weaker c.put-3.result
    (λ fault. writes_then _ _ _ _ _ _ _ _ _
    (gathers_then _ _ _ _ _ _ _ _ _ _ c.in_ok-put.ensures.ok c.in_ok-put-2.ensures.ok refl)
    fault cc)
    c.put-3.ensures.fault
