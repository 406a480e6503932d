-- The records that have been read, in order.
use Rattle.std.proofs.Common.{◌≡◌, ℕ, ◌+◌, ◌^◌, ◌<◌, ◌≤◌, List, [], ◌∷◌, ◌++◌, length, get_or, Option, Some, None, sym}
use Rattle.std.proofs.Common.{ap, ◌∙◌, inl, inr, arith}
use Rattle.std.proofs.Math.Seq.{get_or-append_seam}
use Rattle.std.proofs.lemmas.Bool.{cases_lt}
use Rattle.std.proofs.lemmas.List.{append-nil, append_assoc, get_or_append_left, length-append, map-append}
use Rattle.std.specs.Cmp.{nat_cmp_total}
use Rattle.std.specs.FinMap.{entries, from_entries, get-entries, get-from_entries, nat_cmp-IsAntisymmetric, same_map}
use Rattle.std.specs.List.Sorted.{IsStrictlyIncreasing}
use Rattle.std.specs.Ordering.{nat_cmp}
use Rattle.quota_types.specs.declared.record.Entry.{Entry}
use Rattle.quota_types.specs.declared.record.Rec.{Rec}
use Rattle.quota_value.specs.Listed.{records_of}
use Rattle.quota_types.specs.Ids.{IsAfter}
use Rattle.quota_value.specs.QuotaValue.{Records}
use Rattle.quota_value.specs.NextRecord.{IsNextAfter}
use Rattle.quota_value.proofs.EntriesLemmas.{entries_after, entries_after-all, entries_after-end, entries_after-next}
use Rattle.quota_value.proofs.EntriesLemmas.{ids_after}
use Rattle.quota_value.proofs.ListedLemmas.{pairs_of}

-- the entries that were read, and those that come after, are all
pub record IsReadUpTo (records : Records) (after : Option ℕ) (list : List Entry) : Type 0 where
  pub whole : pairs_of list ++ entries_after after (entries records) ≡ entries records

pub read_none : (records : Records) → IsReadUpTo records None []
read_none records = record { whole = entries_after-all (entries records) }

pub read_more : (records : Records) (after : Option ℕ) (list : List Entry) (entry : Entry)
    → IsReadUpTo records after list → IsNextAfter after records (Some entry)
    → IsReadUpTo records (Some entry.id) (list ++ entry ∷ [])
read_more records after list entry read next = record {
  whole =
      ap (λ (es : List (ℕ × Rec)). es ++ entries_after (Some entry.id) (entries records))
      (map-append (λ (e : Entry). (e.id, e.rec)) list (entry ∷ []))
      ∙ append_assoc (pairs_of list) ((entry.id, entry.rec) ∷ []) (entries_after (Some entry.id) (entries records))
      ∙ ap (λ (es : List (ℕ × Rec)). pairs_of list ++ es) (sym (entries_after-next after records entry next))
      ∙ read.whole;
}

-- the map of all entries of a map is the map
from_its_entries : (records : Records) → from_entries {R = nat_cmp} (entries records) ≡ records
from_its_entries records =
    same_map nat_cmp_total nat_cmp-IsAntisymmetric _ records
    (λ id. get-from_entries nat_cmp_total (entries records) id ∙ sym (get-entries records id))

pub read_whole : (records : Records) (after : Option ℕ) (list : List Entry) → IsReadUpTo records after list
    → IsNextAfter after records None → records_of list ≡ records
read_whole records after list read none =
    let all : pairs_of list ≡ entries records =
    sym (append-nil (pairs_of list))
    ∙ ap (λ (es : List (ℕ × Rec)). pairs_of list ++ es) (sym (entries_after-end after records none)) ∙ read.whole in
    ap (from_entries {R = nat_cmp}) all ∙ from_its_entries records

-- an identifier that has been read, where those up to one have
abbrev pub IsReached : Option ℕ → ℕ → Type 0
IsReached None id = ⊥
IsReached (Some last) id = id ≤ last

-- the identifiers ascend, and none is past the last one that was read
pub record AscendTo (after : Option ℕ) (ids : List ℕ) : Type 0 where
  pub ascends : IsStrictlyIncreasing ids
  pub reached : (k : ℕ) → k < length ids → IsReached after (get_or ids k 0)

pub ascend_none : AscendTo None []
ascend_none = record { ascends = λ k lt. absurd (omega arith); reached = λ k lt. absurd (omega arith) }

-- what has been reached is below what comes after
below_next : (after : Option ℕ) (id next : ℕ) → IsReached after id → IsAfter after next → id < next
below_next None id next reached is = absurd reached
below_next (Some last) id next reached is = omega arith

pub ascend_more : (after : Option ℕ) (ids : List ℕ) (next : ℕ) → AscendTo after ids → IsAfter after next
    → AscendTo (Some next) (ids ++ next ∷ [])
ascend_more after ids next to is =
    let long : length (ids ++ next ∷ []) ≡ length ids + 1 = omega (arith, length-append ids (next ∷ [])) in
    let early : (k : ℕ) → k < length ids → get_or (ids ++ next ∷ []) k 0 ≡ get_or ids k 0 =
    λ k lt. get_or_append_left ids (next ∷ []) 0 k lt in
    let last : (k : ℕ) → k ≡ length ids → get_or (ids ++ next ∷ []) k 0 ≡ next =
    λ k e. ap (λ (n : ℕ). get_or (ids ++ next ∷ []) n 0) e ∙ get_or-append_seam ids next [] 0 in
    let below : (k : ℕ) → k < length ids → get_or ids k 0 < next =
    λ k lt. below_next after (get_or ids k 0) next (to.reached k lt) is in
    record {
      ascends = λ k lt. elim (cases_lt (k + 1) (length ids)) [
        | inl within ↦ omega (arith, early k (omega arith), early (k + 1) within, to.ascends k within)
        | inr end ↦ omega (arith, early k (omega arith), last (k + 1) (omega arith), below k (omega arith))
      ];
      reached = λ k lt. elim (cases_lt k (length ids)) [
        | inl within ↦ omega (arith, early k within, below k within)
        | inr end ↦ omega (arith, last k (omega arith))
      ];
    }

-- an entry that comes after those that were read leaves room for no more than the identifiers behind it
pub more_few : (after : Option ℕ) (id count more : ℕ) → count + ids_after after ≤ 2 ^ 32 → IsAfter after id
    → id < 2 ^ 32 → more ≡ count + 1 → more + ids_after (Some id) ≤ 2 ^ 32
more_few None id count more few is narrow one = omega arith
more_few (Some last) id count more few is narrow one = omega arith
