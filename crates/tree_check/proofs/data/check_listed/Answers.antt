use Rattle.std.proofs.Common.{refl}
use Rattle.tree_check.proofs.DataLemmas.{listed}
use Rattle.tree_check.proofs.data.check_listed.Goals as goal

pub returns-in-Some-clause-refused : goal.returns-in-Some-clause-refused
returns-in-Some-clause-refused c = rw c.damage_at.ensures (λ numbers is are. record {
  defect = (rw c.as_slice.ensures.value at c.in-Some.ensures) c.args.blocks numbers are is.marked.inside;
  no_id = refl;
})

pub returns-in-Some-first_missing-clause-refused : goal.returns-in-Some-first_missing-clause-refused
returns-in-Some-first_missing-clause-refused c =
    rw c.damage_at-in-Some-first_missing.ensures (λ numbers is are. record {
      defect = c.in-Some-first_missing.ensures numbers _ are is.marked;
      no_id = refl;
    })

pub returns-clause-listed : goal.returns-clause-listed
returns-clause-listed c = λ numbers is are.
    listed c.args.blocks c.args.room.now.flags.items c.args.walk.now.met.flags.items numbers _ _ are is.marked
    ((rw c.as_slice.ensures.value at c.in_default.ensures) c.args.blocks numbers are is.marked.inside)
    (c.in_default-first_missing.ensures numbers _ are is.marked)
    (rw c.as_slice-2.ensures.value at c.in_default-first_bad_previous.ensures)
