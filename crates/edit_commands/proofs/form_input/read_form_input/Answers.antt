use Rattle.edit_commands.proofs.form_input.read_form_input.Goals as goal

pub returns-in-Ok-clause-behind : goal.returns-in-Ok-clause-behind
returns-in-Ok-clause-behind g c = λ told. g.met.I.Source.keeps_behind _ _ _ c.in-Ok.ensures.keeps told

pub returns-in-Err-clause-behind : goal.returns-in-Err-clause-behind
returns-in-Err-clause-behind g c = λ told. g.met.I.Source.keeps_behind _ _ _ c.in-Err.ensures.keeps told
