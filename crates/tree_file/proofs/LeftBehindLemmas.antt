-- What a change that failed leaves as it was: every byte that the whole change would have left.
use Rattle.std.proofs.Common.{◌≡◌, ℕ, ◌*◌, ◌/◌, ◌%◌, ◌≤◌, List, length, inl, inr, subst, ◌∙◌, arith}
use Rattle.std.specs.Prelude.{max}
use Rattle.quota_types.specs.Bytes.{byte_at}
use Rattle.quota_types.specs.KeptBytes.{KeepsOutside}
use Rattle.quota_types.specs.declared.record.Grace.{Grace}
use Rattle.entry_codec.specs.Header.{header_of}
use Rattle.tree_change.specs.Behind.{KeepsBehind}
use Rattle.tree_change.proofs.BehindLemmas.{same_byte}
use Rattle.tree_file.specs.TreeChange.{IsGraced, IsTorn, PutsInPlace, RemovesInPlace}

module _ (before made left : List ℕ) (torn : IsTorn before made left) where
  -- a byte that the change would have left
  left_byte : (at : ℕ) → byte_at made at ≡ byte_at before at → byte_at left at ≡ byte_at before at
  left_byte at same = elim (torn.each (at / 1024)) [
    | inl kept ↦ same_byte before left at (at / 1024) (at % 1024) (omega arith) (omega arith) kept
    | inr changed ↦ same_byte made left at (at / 1024) (at % 1024) (omega arith) (omega arith) changed ∙ same
  ]

  left_outside : (from to : ℕ) → KeepsOutside from to before made → KeepsOutside from to before left
  left_outside from to keeps = record {
    before = λ at low. left_byte at (keeps.before at low);
    behind = λ at past. left_byte at (keeps.behind at past);
  }

  pub left_of_put : (id : ℕ) → PutsInPlace id before made
      → KeepsBehind (header_of before).blocks (header_of made).blocks before left
  left_of_put id puts = record {
    at_least = puts.at_least;
    behind = left_outside 0 (1024 * (header_of made).blocks) puts.behind;
    longer = torn.others.longer;
    within = omega (arith, torn.shorter, puts.long);
  }

  pub left_of_removed : (id : ℕ) → RemovesInPlace id before made
      → KeepsOutside 0 (1024 * (header_of before).blocks) before left × (length left ≡ length before)
  left_of_removed id removes = (
    left_outside 0 (1024 * (header_of before).blocks)
        (subst (λ (blocks : ℕ). KeepsOutside 0 (1024 * blocks) before made) removes.blocks removes.behind),
    omega (arith, torn.others.longer, torn.shorter, removes.long),
  )

  pub left_of_graced : (grace : Grace) → IsGraced grace before made
      → KeepsOutside 8 16 before left × (length before ≤ length left) × (length left ≤ max 1024 (length before))
  left_of_graced grace graced =
      (left_outside 8 16 graced.others, torn.others.longer, omega (arith, torn.shorter, graced.long))
