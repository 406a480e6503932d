-- How much the users of a listing that is made use at most.
use Rattle.std.proofs.Common.{◌≡◌, ℕ, ◌*◌, ◌^◌, ◌<◌, ◌≤◌, Bool, cond, List, [], ◌∷◌, length, map, Option, Some, None}
use Rattle.std.proofs.Common.{refl, sym, ap, subst, ◌∙◌, inl, inr, arith, sum_by}
use Rattle.std.specs.Prelude.{All, IfSome, filter, not, ◌==◌}
use Rattle.std.specs.Cmp.{nat_cmp_total, unsigned_tied}
use Rattle.std.specs.FinMap.{find, get, get-from_entries}
use Rattle.std.specs.List.{AllByRecursion, enumerate_from, filter_map}
use Rattle.std.specs.Ordering.{nat_cmp}
use Rattle.std.proofs.lemmas.Bool.Decides.{eqb_tells}
use Rattle.std.proofs.lemmas.List.Elements.{All-filter, All-from_recursion, All-weaker, recursion_from_All}
use Rattle.std.proofs.lemmas.List.Filters.{length-filter_both}
use Rattle.std.proofs.lemmas.List.FromFn.{length-enumerate_from}
use Rattle.std.proofs.lemmas.List.Sums.{sum_by-le}
use Rattle.quota_types.specs.declared.file_kind.Kind.TheVariants.{User}
use Rattle.quota_types.proofs.ListLemmas.{length-filter_map, AllByRecursion-weaker}
use Rattle.inode_scan.specs.declared.used.Used.{Used}
use Rattle.inode_scan.specs.Generated.{generated_lines}
use Rattle.inode_scan.specs.Listing.{Counted, counted_line, counted_lines, first_lines, is_first, owned, owner_of}
use Rattle.inode_scan.specs.Listing.{usage_of, used_in}
use Rattle.inode_scan.proofs.MadeListingLemmas.{IsSmall, Made, all_counted, all_lines, generated_usage, length-lines}
use Rattle.inode_scan.proofs.MadeListingLemmas.{row_small}

-- a line that counts says no more than this much
abbrev Small : Counted → Type 0
Small line = IsSmall line.row

fewer_kept : {X : Type 0} (p : X → Bool) (xs : List X) → length (filter p xs) ≤ length xs
fewer_kept p xs = omega (arith, length-filter_both p (λ x. not (p x)) (λ x. refl) xs)

-- what a user of such a listing uses fits 64 bits, and there are 5,000 of them at most
pub record IsSmallUser (id : ℕ) (used : Used) : Type 0 where
  pub low : 1000 ≤ id
  pub high : id < 6000
  pub space : used.space < 2 ^ 64
  pub inodes : used.inodes < 2 ^ 64

used_small : (lines : List Counted) (most id : ℕ) → All Small lines → length lines ≤ most → most < 2 ^ 32 → 1000 ≤ id
    → id < 6000 → IsSmallUser id (used_in lines)
used_small lines most id all few below low high =
    let sum : sum_by (λ (line : Counted). line.row.blocks) lines ≤ length lines * 504 =
    sum_by-le (λ (line : Counted). line.row.blocks) 504 lines
    (All-weaker Small (λ (line : Counted). line.row.blocks ≤ 504) (λ line small. small.blocks) lines all) in
    record { low = low; high = high; space = omega arith; inodes = omega arith }

found_small : (id : ℕ) (made : ℕ → Used) (lines : List Counted) → AllByRecursion Small lines
    → IfSome (find nat_cmp id (map (λ (first : Counted). (first.row.owner, made first.row.owner)) lines))
    (λ used. (1000 ≤ id) × (id < 6000) × (used ≡ made id))
found_small id made [] all = tt
found_small id made (line ∷ lines) all =
    let rest : Option Used =
    find nat_cmp id (map (λ (first : Counted). (first.row.owner, made first.row.owner)) lines) in
    let Is : Bool → Type 0 =
    λ b. IfSome (cond b (Some (made line.row.owner)) rest) (λ used. (1000 ≤ id) × (id < 6000) × (used ≡ made id)) in
    elim (eqb_tells id line.row.owner) [
      | inl own ↦ subst Is (sym (unsigned_tied id line.row.owner ∙ own.0))
          (omega (arith, own.1, all.0.low), omega (arith, own.1, all.0.high), ap made (sym own.1))
      | inr other ↦ subst Is (sym (unsigned_tied id line.row.owner ∙ other.0)) (found_small id made lines all.1)
    ]

pub generated_small : (seed count id : ℕ) → count < 2 ^ 32
    → IfSome (get (generated_usage seed count) id) (IsSmallUser id)
unfolding generated_usage usage_of first_lines counted_lines
generated_small seed count id few =
    let lines : List (List ℕ) = generated_lines seed 0 count in
    let numbered : List (ℕ × List ℕ) = enumerate_from 1 lines in
    let counted : List Counted = filter_map (counted_line None) numbered in
    let small : AllByRecursion Small counted =
    AllByRecursion-weaker (Made seed count) Small counted (λ line made. row_small seed count line.row made)
    (all_counted seed count 1 lines few (all_lines seed 0 count count (omega arith))) in
    let firsts : List Counted = filter (is_first counted) counted in
    let all : All Small firsts = All-filter (is_first counted) Small counted (All-from_recursion Small counted small) in
    let short : length firsts ≤ count =
    omega (
      arith,
      fewer_kept (is_first counted) counted,
      length-filter_map (counted_line None) numbered,
      length-enumerate_from 1 lines,
      length-lines seed 0 count,
    ) in
    let made : ℕ → Used = λ k. used_in (owned User firsts k) in
    let pairs : List (ℕ × Used) = map (λ (first : Counted). (first.row.owner, made first.row.owner)) firsts in
    subst (λ (o : Option Used). IfSome o (IsSmallUser id)) (sym (get-from_entries nat_cmp_total pairs id))
    (by made (λ low high. owned_small firsts low high short all) (find nat_cmp id pairs)
    (found_small id made firsts (recursion_from_All Small firsts all)))
  where
    owned_small : (firsts : List Counted) → 1000 ≤ id → id < 6000 → length firsts ≤ count → All Small firsts
        → IsSmallUser id (used_in (owned User firsts id))
    owned_small firsts low high short all =
        let is_owned : Counted → Bool = λ line. owner_of User line.row == id in
        used_small (filter is_owned firsts) count id (All-filter is_owned Small firsts all)
        (omega (arith, fewer_kept is_owned firsts, short)) few low high

    by : (made : ℕ → Used) → (1000 ≤ id → id < 6000 → IsSmallUser id (made id)) → (o : Option Used)
        → IfSome o (λ used. (1000 ≤ id) × (id < 6000) × (used ≡ made id)) → IfSome o (IsSmallUser id)
    by made small None found = tt
    by made small (Some used) found = subst (IsSmallUser id) (sym found.2) (small found.0 found.1)
