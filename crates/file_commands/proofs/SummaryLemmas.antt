-- The line on a file, from its entries in a list.
use Rattle.std.proofs.Common.{◌≡◌, ◌+◌, ℕ, List, [], ◌∷◌, length, sum_by, refl, sym, ap, ◌∙◌}
use Rattle.std.specs.FinMap.{entries}
use Rattle.std.specs.List.Sorted.{IsStrictlyIncreasing}
use Rattle.std.proofs.lemmas.List.{length-map}
use Rattle.std.proofs.lemmas.List.Sums.{sum_by-cons}
use Rattle.quota_types.specs.declared.record.Entry.{Entry}
use Rattle.quota_types.specs.declared.record.Rec.{Rec}
use Rattle.quota_value.specs.Listed.{ids_of, records_of}
use Rattle.quota_value.proofs.ListedLemmas.{pairs_of}
use Rattle.convert.proofs.ValueLemmas.{pairs_listed}
use Rattle.file_commands.specs.Generate.{sum_over}

sum_pairs : (count : Rec → ℕ) (list : List Entry)
    → sum_by (λ (pair : ℕ × Rec). count pair.1) (pairs_of list) ≡ sum_by (λ (entry : Entry). count entry.rec) list
sum_pairs count [] = refl
sum_pairs count (entry ∷ list) =
    sum_by-cons (λ (pair : ℕ × Rec). count pair.1) (entry.id, entry.rec) (pairs_of list)
    ∙ ap (λ n. count entry.rec + n) (sum_pairs count list)
    ∙ sym (sum_by-cons (λ (e : Entry). count e.rec) entry list)

pub sum_listed : (count : Rec → ℕ) (list : List Entry) → IsStrictlyIncreasing (ids_of list)
    → sum_over count (records_of list) ≡ sum_by (λ (entry : Entry). count entry.rec) list
sum_listed count list ascends =
    ap (λ (pairs : List (ℕ × Rec)). sum_by (λ (pair : ℕ × Rec). count pair.1) pairs) (pairs_listed list ascends)
    ∙ sum_pairs count list

pub length_listed : (list : List Entry) → IsStrictlyIncreasing (ids_of list)
    → length (entries (records_of list)) ≡ length list
length_listed list ascends =
    ap length (pairs_listed list ascends) ∙ length-map list (λ (entry : Entry). (entry.id, entry.rec))
