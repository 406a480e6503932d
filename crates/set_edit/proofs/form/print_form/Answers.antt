use Rattle.std.proofs.Common.{List, ℕ, ◌++◌, ap, subst, ◌∙◌}
use Rattle.std.proofs.lemmas.Result.{on_err_weaker, on_ok_weaker}
use Rattle.outside.specs.Text.{AppendsPrefix}
use Rattle.set_edit.proofs.FormLemmas.{form_of-pieces}
use Rattle.set_edit.proofs.form.print_form.Goals as goal

pub returns-clause-ok : goal.returns-clause-ok
returns-clause-ok g c =
    let a = c.args in
    let whole = form_of-pieces a.kind a.name.now a.id a.file.now a.rec.now _ _ _ _ _ c.pieces-pieces.ensures
    c.name_front.ensures (c.as_slice.ensures.value ∙ c.middle-middle.ensures) c.as_bytes.ensures.value
    (c.as_slice-2.ensures.value ∙ c.columns-columns.ensures) in
    on_ok_weaker c.write_pieces.result
    (λ ok told. ok told ∙ ap (λ (text : List ℕ). (g.O.Sink.seen c.args.sink.now).written ++ text) whole)
    c.write_pieces.ensures.ok

pub returns-clause-fault : goal.returns-clause-fault
returns-clause-fault g c =
    let a = c.args in
    let whole = form_of-pieces a.kind a.name.now a.id a.file.now a.rec.now _ _ _ _ _ c.pieces-pieces.ensures
    c.name_front.ensures (c.as_slice.ensures.value ∙ c.middle-middle.ensures) c.as_bytes.ensures.value
    (c.as_slice-2.ensures.value ∙ c.columns-columns.ensures) in
    on_err_weaker c.write_pieces.result
    (λ fault told. subst
    (AppendsPrefix (g.O.Sink.seen c.args.sink.now).written (g.O.Sink.seen c.write_pieces.new.sink).written)
    whole (fault told))
    c.write_pieces.ensures.fault
