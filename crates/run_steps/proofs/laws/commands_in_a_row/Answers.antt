use Rattle.run_steps.proofs.InARowLemmas.{row_begun, row_ends, row_only_begun, row_only_refused, row_refused, row_sure}
use Rattle.run_steps.proofs.laws.commands_in_a_row.Goals as goal

pub returns-clause-begun : goal.returns-clause-begun
returns-clause-begun c first next others old middle now acts done hand ends begun =
    row_begun first next others old acts middle done hand now ends begun

pub returns-clause-only_begun : goal.returns-clause-only_begun
returns-clause-only_begun c list old now done hand begun = row_only_begun list old done hand now begun

pub returns-clause-ends : goal.returns-clause-ends
returns-clause-ends c first others old middle new acts more refusal ends by =
    row_ends first others old acts middle more new refusal ends by

pub returns-clause-refused : goal.returns-clause-refused
returns-clause-refused c first one others old middle new acts own refusal ends by =
    row_refused first one others old acts middle own new refusal ends by

pub returns-clause-only_refused : goal.returns-clause-only_refused
returns-clause-only_refused c list old new acts refusal ends = row_only_refused list old acts new refusal ends

pub returns-clause-sure : goal.returns-clause-sure
returns-clause-sure c first others old sure later = row_sure first others old sure later
