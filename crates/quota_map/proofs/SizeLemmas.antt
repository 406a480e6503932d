-- How many blocks a file of a value needs.
use Rattle.std.proofs.Common.{ℕ, ◌/◌, ◌^◌, ◌≤◌, Bool, List, [], ◌∷◌, length, map, refl, arith, ◌<◌}
use Rattle.std.specs.Prelude.{◌==◌, not}
use Rattle.std.proofs.lemmas.List.{length-map}
use Rattle.std.proofs.lemmas.List.Filters.{length-filter_both}
use Rattle.quota_types.specs.declared.file_kind.Format.TheVariants.{V2R0, V2R1}
use Rattle.quota_map.specs.View.{most_blocks}
use Rattle.tree_build.specs.Size.{beginnings, blocks_needed, each_once}
use Rattle.quota_types.specs.Format.{IsTreeFormat}
use Rattle.quota_types.specs.declared.file_kind.Format.{Format}

few_once : (numbers : List ℕ) → length (each_once numbers) ≤ length numbers
few_once [] = omega arith
few_once (number ∷ numbers) =
    let apart : ℕ → Bool = λ other. not (other == number) in
    omega (arith, few_once numbers, length-filter_both apart (λ x. not (apart x)) (λ x. refl) (each_once numbers))

few_beginnings : (left_out : ℕ) (ids : List ℕ) → beginnings left_out ids ≤ length ids
few_beginnings left_out ids =
    omega (arith, few_once (map (λ id. id / 256 ^ left_out) ids), length-map ids (λ (id : ℕ). id / 256 ^ left_out))

-- a vfsv1 file of few identifiers has room for them
pub few_blocks : (ids : List ℕ) → length ids ≤ 5000 → blocks_needed V2R1 ids ≤ most_blocks
few_blocks ids few = omega (arith, few_beginnings 3 ids, few_beginnings 2 ids, few_beginnings 1 ids)

-- a flat file needs no blocks
pub no_flat_blocks : (format : Format) (ids : List ℕ) (most : ℕ) → most < blocks_needed format ids → IsTreeFormat format
no_flat_blocks V2R0 ids most passes = refl
no_flat_blocks V2R1 ids most passes = refl
no_flat_blocks _ ids most passes = absurd (omega (arith, passes))
