use Rattle.id_names.proofs.LineLemmas.{more_than_two}
use Rattle.id_names.proofs.line.project_fields.Goals as goal

pub returns-in-Some-clause-other : goal.returns-in-Some-clause-other
returns-in-Some-clause-other c =
    more_than_two c.args.line.now c.in_ok-name.name.now c.in_ok-name.id.now c.in-Some.field-0.0.now
    c.in-Some.field-0.1.now
    c.in_ok-name.ensures.parts c.in-Some.ensures.parts
