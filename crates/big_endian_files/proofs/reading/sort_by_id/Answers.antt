use Rattle.std.proofs.Common.{List, subst, sym, rules}
use Rattle.std.specs.List.Sorted.{IsStrictlyIncreasing}
use Rattle.quota_value.specs.Listed.{ids_of}
use Rattle.std.proofs.lemmas.List.Sorted.{IsNonDecreasingBy-from_sort_by_key}
use Rattle.quota_types.specs.declared.record.Entry.{Entry}
use Rattle.big_endian_files.proofs.SortedLemmas.{sorted_ascends}
use Rattle.big_endian_files.proofs.reading.sort_by_id.Goals as goal

pub returns-then-not-ascends-clause-refused : goal.returns-then-not-ascends-clause-refused
returns-then-not-ascends-clause-refused c = (
  tt,
  λ distinct. c.if-not-ascends.ensures.no
      (subst (λ (es : List Entry). IsStrictlyIncreasing (ids_of es)) (sym c.as_slice.ensures.value)
      (sorted_ascends c.args.entries.now.items c.sort_by_key.new.self.items c.sort_by_key.ensures.permutation
      (IsNonDecreasingBy-from_sort_by_key (λ (e : Entry). e.id) _ c.in_ok-sort_by_key.ensures.sorted
      (λ a r q k. search rules)) distinct)),
)
