use Rattle.std.proofs.Common.{ℕ, ap, subst, sym, ◌∙◌, arith}
use Rattle.std.proofs.lemmas.Result.{err_from_is_err_and}
use Rattle.set_edit.specs.FormReading.{no_more_words}
use Rattle.set_edit.specs.FormFaults.{IsFormFault, form_lines}
use Rattle.set_edit.proofs.FormReadingLemmas.{fault-then, form_read-start, step_on}
use Rattle.set_edit.proofs.form_reading.read_form.Goals as goal

pub returns-in_err-read_title-clause-refused : goal.returns-in_err-read_title-clause-refused
returns-in_err-read_title-clause-refused g c =
    let p = err_from_is_err_and c.from_residual.result c.from_residual.ensures.1 in
    let a = c.args in
    let left = (g.I.Source.seen a.source.now).left in
    rw (p.1, p.2)
    (fault-then _ _ _ _ _ _ _ (omega arith)
    (λ told. (_, form_read-start a.kind a.name.now a.id a.file.now left c.new-reader.result c.new-reader.ensures))
    c.in_err-read_title.ensures.refused)

pub returns-in_err-read_heading-clause-refused : goal.returns-in_err-read_heading-clause-refused
returns-in_err-read_heading-clause-refused g c =
    let p =
    err_from_is_err_and c.from_residual-in_err-read_heading.result c.from_residual-in_err-read_heading.ensures.1 in
    let a = c.args in
    let left = (g.I.Source.seen a.source.now).left in
    rw (p.1, p.2)
    (fault-then _ _ _ _ _ _ _ c.in_ok-read_title.ensures.later
    (λ told. (
      _,
      step_on _ _ _ _ (form_read-start a.kind a.name.now a.id a.file.now left c.new-reader.result c.new-reader.ensures)
          (c.in_ok-read_title.ensures.behind told),
    ))
    c.in_err-read_heading.ensures.refused)

pub returns-in_err-limits-clause-refused : goal.returns-in_err-limits-clause-refused
returns-in_err-limits-clause-refused g c =
    let p = err_from_is_err_and c.from_residual-in_err-limits.result c.from_residual-in_err-limits.ensures.1 in
    let a = c.args in
    let left = (g.I.Source.seen a.source.now).left in
    rw (p.1, p.2)
    (fault-then _ _ _ _ _ _ _ (omega (arith, c.in_ok-read_title.ensures.later, c.in_ok-read_heading.ensures.later))
    (λ told. (
      _,
      step_on _ _ _ _
          (step_on _ _ _ _
          (form_read-start a.kind a.name.now a.id a.file.now left c.new-reader.result c.new-reader.ensures)
          (c.in_ok-read_title.ensures.behind told))
          (c.in_ok-read_heading.ensures.behind told),
    ))
    c.in_err-limits.ensures.refused)

pub returns-in_err-read_end-clause-refused : goal.returns-in_err-read_end-clause-refused
returns-in_err-read_end-clause-refused g c =
    let p = err_from_is_err_and c.from_residual-in_err-read_end.result c.from_residual-in_err-read_end.ensures.1 in
    let a = c.args in
    let left = (g.I.Source.seen a.source.now).left in
    let end = form_lines c.read_limits.new.reader (g.I.Source.seen c.read_limits.new.source).left in
    rw (p.1, p.2)
    (fault-then _ _ _ _ _ _ _
    (omega (arith, c.in_ok-read_title.ensures.later, c.in_ok-read_heading.ensures.later, c.in_ok-limits.ensures.later))
    (λ told. (
      _,
      step_on _ _ _ _
          (step_on _ _ _ _
          (step_on _ _ _ _
          (form_read-start a.kind a.name.now a.id a.file.now left c.new-reader.result c.new-reader.ensures)
          (c.in_ok-read_title.ensures.behind told))
          (c.in_ok-read_heading.ensures.behind told))
          (c.in_ok-limits.ensures.limits told),
    ))
    (subst
    (λ (number : ℕ). IsFormFault (g.I.Source.seen c.read_limits.new.source).faults
    (g.I.Source.seen c.read_end.new.source).faults g.I.Source.tells (no_more_words number end)
    c.in_err-read_end.field-0.0)
    c.in_ok-limits.ensures.number c.in_err-read_end.ensures.refused))

pub returns-clause-limits : goal.returns-clause-limits
returns-clause-limits g c told =
    let a = c.args in
    let left = (g.I.Source.seen a.source.now).left in
    let end = form_lines c.read_limits.new.reader (g.I.Source.seen c.read_limits.new.source).left in
    step_on _ _ _ _
    (step_on _ _ _ _
    (step_on _ _ _ _
    (step_on _ _ _ _ (form_read-start a.kind a.name.now a.id a.file.now left c.new-reader.result c.new-reader.ensures)
    (c.in_ok-read_title.ensures.behind told))
    (c.in_ok-read_heading.ensures.behind told))
    (c.in_ok-limits.ensures.limits told))
    (ap (λ (number : ℕ). no_more_words number end) (sym c.in_ok-limits.ensures.number)
    ∙ c.in_ok-read_end.ensures.end told)
