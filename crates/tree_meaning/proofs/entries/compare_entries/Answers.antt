use Rattle.std.proofs.Common.{◌≡◌, ℕ, List, length, ap, arith}
use Rattle.quota_types.specs.Times.{times}
use Rattle.tree_meaning.specs.Entries.{used_ids}
use Rattle.tree_meaning.proofs.entries.compare_entries.Goals as goal

pub returns-then-is_full_of-clause-entries : goal.returns-then-is_full_of-clause-entries
returns-then-is_full_of-clause-entries c =
    let used : List ℕ = used_ids c.args.format c.args.block.now in
    let same : used ≡ c.args.ids.now = c.if-is_full_of.ensures.ids in
    let alike : (id : ℕ) → times used id ≡ times c.args.ids.now id = λ id. ap (λ (xs : List ℕ). times xs id) same in
    record {
      count = omega (arith, ap length same, c.if-stated-ids.true, c.from-stated.ensures);
      one = λ id leads. omega (arith, c.if-ascends.ensures id, alike id, leads);
      none = λ id stray. omega (arith, alike id, stray);
    }
