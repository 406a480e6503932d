-- How far the records of lines reach in a flat file.
use Rattle.std.proofs.Common.{◌≡◌, ℕ, ◌+◌, ◌<◌, ◌≤◌, max, inl, inr, List, length, get_or, sym, subst, arith}
use Rattle.std.specs.Prelude.{All}
use Rattle.std.specs.List.{AllWithin}
use Rattle.std.proofs.lemmas.Bool.{cases_lt}
use Rattle.std.proofs.lemmas.List.{get_or_default}
use Rattle.quota_types.specs.declared.file_kind.Format.{Format}
use Rattle.batch_commands.specs.Batch.{record_end}
use Rattle.batch_commands.specs.declared.batch_line.LineEdit.{LineEdit}

-- with one line more they are within the greater of two numbers
pub reach_more : (format : Format) (lines : List LineEdit) (at most more end : ℕ) (line : LineEdit) → at < length lines
    → end ≡ record_end format (get_or lines at line).id → more ≡ max most end
    → AllWithin (λ (other : LineEdit). record_end format other.id ≤ most) lines 0 at
    → AllWithin (λ (other : LineEdit). record_end format other.id ≤ more) lines 0 (at + 1)
reach_more format lines at most more end line low is greater held = λ k other from upto. elim (cases_lt k at) [
  | inl before ↦
      let old : record_end format (get_or lines k other).id ≤ most = held k other from before in
      omega (arith, old, greater)
  | inr late ↦
      let same : at ≡ k = omega (arith, late, upto) in
      let here : get_or lines at other ≡ get_or lines at line = get_or_default lines at other line low in
      subst (λ (n : ℕ). record_end format (get_or lines n other).id ≤ more) same
      (subst (λ (one : LineEdit). record_end format one.id ≤ more) (sym here) (omega (arith, is, greater)))
]

-- which is the least one
pub reach_least : (format : Format) (lines : List LineEdit) (at most more end room : ℕ) (line : LineEdit)
    → at < length lines → end ≡ record_end format (get_or lines at line).id → more ≡ max most end
    → most ≤ room → All (λ (other : LineEdit). record_end format other.id ≤ room) lines → more ≤ room
reach_least format lines at most more end room line low is greater few all =
    let here : record_end format (get_or lines at line).id ≤ room = all at line low in
    omega (arith, is, greater, few, here)
