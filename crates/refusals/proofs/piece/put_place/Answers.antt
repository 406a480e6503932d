use Rattle.std.specs.Prelude.{codes}
use Rattle.std.specs.List.{concat}
use Rattle.std.proofs.lemmas.Result.{err_from_is_err_and, on_ok_weaker, on_err_weaker}
use Rattle.refusals.specs.Line.{line_text}
use Rattle.refusals.proofs.PieceLemmas.{gathered_row, prefix_first, prefix_row}
use Rattle.refusals.proofs.piece.put_place.Goals as goal

pub returns-in_err-put_line-clause-fault : goal.returns-in_err-put_line-clause-fault
returns-in_err-put_line-clause-fault g c =
    let p = err_from_is_err_and c.from_residual.result c.from_residual.ensures.1 in
    rw p.1 (λ told start before gathered.
    prefix_first start before (concat (line_text (codes "line ") c.args.place.line))
    (concat (line_text (codes "input line ") c.args.place.input_line)) _
    (c.in_err-put_line.ensures.fault told start before gathered))

pub returns-clause-fault : goal.returns-clause-fault
returns-clause-fault g c =
    on_err_weaker c.put_line-2.result
    (λ part told start before gathered.
    prefix_row start before (concat (line_text (codes "line ") c.args.place.line))
    (concat (line_text (codes "input line ") c.args.place.input_line)) _
    (part told start _ (c.in_ok-put_line.ensures.ok told start before gathered)))
    c.put_line-2.ensures.fault

pub returns-clause-ok : goal.returns-clause-ok
returns-clause-ok g c =
    on_ok_weaker c.put_line-2.result
    (λ put told start before gathered.
    gathered_row start before (concat (line_text (codes "line ") c.args.place.line))
    (concat (line_text (codes "input line ") c.args.place.input_line)) _ _
    (put told start _ (c.in_ok-put_line.ensures.ok told start before gathered)))
    c.put_line-2.ensures.ok
