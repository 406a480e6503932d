use Rattle.std.proofs.Common.{nat_lt, rules}
use Rattle.std.proofs.lemmas.List.Sorted.{answers_always}
use Rattle.quota_types.specs.declared.record.Entry.{Entry}
use Rattle.big_endian_files.proofs.SortedLemmas.{ascends_as_told}
use Rattle.big_endian_files.proofs.reading.ascends.Goals as goal

pub returns-clause-yes : goal.returns-clause-yes
returns-clause-yes c =
    (ascends_as_told c.is_sorted_by.result c.args.entries.now
    (c.is_sorted_by.ensures.cases (λ (x y : Entry). nat_lt x.id y.id)
    (answers_always _ _ _ (λ f a r g h. search rules)))).0

pub returns-clause-no : goal.returns-clause-no
returns-clause-no c =
    (ascends_as_told c.is_sorted_by.result c.args.entries.now
    (c.is_sorted_by.ensures.cases (λ (x y : Entry). nat_lt x.id y.id)
    (answers_always _ _ _ (λ f a r g h. search rules)))).1
