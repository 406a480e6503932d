-- The words of the blocks on a way: where one stands, and which ones stay.
use Rattle.std.proofs.Common.{◌≡◌, ◌≢◌, ℕ, suc, ◌*◌, ◌<◌}
use Rattle.std.proofs.Common.{List, [], ◌∷◌, length, get_or}
use Rattle.std.proofs.Common.{replicate, ap, ◌∙◌, inl, inr}
use Rattle.std.proofs.Common.{arith}
use Rattle.std.proofs.lemmas.Bool.{cases_lt}
use Rattle.std.proofs.lemmas.List.{get_or-replicate}
use Rattle.quota_types.specs.Bytes.{number_at}
use Rattle.quota_types.specs.Times.{StandsIn}
use Rattle.quota_types.proofs.TimesLemmas.{stands_cons}
use Rattle.file_blocks.specs.Block.{block_of, word_at}
use Rattle.quota_types.proofs.BytesLemmas.{number_at-zeros, number_same}
use Rattle.quota_pages.specs.Used.{HasWord}
use Rattle.quota_radix.specs.Way.{digit_on_way}

pub place_of : (xs : List ℕ) (n : ℕ) → StandsIn xs n → (k : ℕ) × (k < length xs) × (get_or xs k 0 ≡ n)
place_of [] n stands = absurd (omega arith)
place_of (x ∷ xs) n stands = elim (stands_cons x xs n stands) [
  | inl same ↦ (0, omega arith, same)
  | inr later ↦ let rest = place_of xs n later in (suc rest.0, omega (arith, rest.1), rest.2)
]

pub is_digit : (id gone : ℕ) → digit_on_way id gone < 256
unfolding digit_on_way
is_digit id gone = omega arith

pub zeros : (file : List ℕ) (block digit : ℕ) → block_of file block ≡ replicate 1024 0 → digit < 256
    → word_at file block digit ≡ 0
zeros file block digit blank low =
    ap (λ (bytes : List ℕ). number_at 4 bytes (4 * digit)) blank
    ∙ number_at-zeros 4 (4 * digit) (replicate 1024 0) (λ k above below. get_or-replicate 1024 k 0 0 (omega arith))

-- another reference of a block in which one was written
pub other_word : (old new : List ℕ) (block digit other value : ℕ) → other ≢ digit
    → HasWord block (4 * digit) value old new
    → word_at new block other ≡ word_at old block other
other_word old new block digit other value differs word =
    number_same 4 (4 * other) (block_of new block) (block_of old block) (λ k from to. elim (cases_lt other digit) [
      | inl low ↦ word.others.before k (omega (arith, low, to))
      | inr high ↦ word.others.behind k (omega (arith, high, differs, from))
    ])
