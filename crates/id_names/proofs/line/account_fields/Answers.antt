use Rattle.std.proofs.Common.{arith}
use Rattle.id_names.proofs.LineLemmas.{length-fields_of}
use Rattle.id_names.proofs.line.account_fields.Goals as goal

pub returns-then-count-fields_in-clause-as_many : goal.returns-then-count-fields_in-clause-as_many
returns-then-count-fields_in-clause-as_many c =
    let fields = length-fields_of c.args.line.now c.in_ok-name.name.now c.in_ok-name.behind.now
    c.in_ok-_password._password.now c.in_ok-_password.behind.now c.in_ok-id.id.now c.in_ok-id.behind.now
    c.in_ok-name.ensures.parts c.in_ok-_password.ensures.parts c.in_ok-id.ensures.parts in
    let counted = c.count.ensures in
    let wanted = c.fields_in.ensures in
    omega arith

pub returns-else-count-fields_in-clause-other : goal.returns-else-count-fields_in-clause-other
returns-else-count-fields_in-clause-other c = λ as_many.
    let fields = length-fields_of c.args.line.now c.in_ok-name.name.now c.in_ok-name.behind.now
    c.in_ok-_password._password.now c.in_ok-_password.behind.now c.in_ok-id.id.now c.in_ok-id.behind.now
    c.in_ok-name.ensures.parts c.in_ok-_password.ensures.parts c.in_ok-id.ensures.parts in
    let counted = c.count.ensures in
    let wanted = c.fields_in.ensures in
    omega arith
