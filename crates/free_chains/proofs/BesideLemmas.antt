-- What is written of links leaves all other bytes of each block.
use Rattle.std.proofs.Common.{◌≡◌, ◌≢◌, ℕ, ◌+◌, ◌≤◌, List, [], ◌∷◌, sym, subst, ap, ◌∙◌, inl, inr, arith}
use Rattle.std.proofs.lemmas.Bool.Decides.{eqb_tells}
use Rattle.quota_types.specs.Bytes.{byte_at}
use Rattle.quota_types.specs.Times.{times}
use Rattle.file_blocks.specs.Block.{block_of}
use Rattle.quota_types.specs.KeptBytes.{KeepsOutside}
use Rattle.quota_pages.specs.Used.{HasWord}
use Rattle.quota_pages.specs.KeptBlocks.{KeepsBlocksBut}
use Rattle.free_chains.specs.Links.{ChangesLinksAlone, HasLinks, led_to}
use Rattle.free_chains.proofs.EntryListLemmas.{not_led_to}
use Rattle.free_chains.proofs.SpliceLemmas.{none_of_one}

-- a block that is the same has all its bytes
same_outside : (from to : ℕ) (old new : List ℕ) → new ≡ old → KeepsOutside from to old new
same_outside from to old new same = record {
  before = λ at early. ap (λ (block : List ℕ). byte_at block at) same;
  behind = λ at late. ap (λ (block : List ℕ). byte_at block at) same;
}

-- a word of the first eight bytes
word_outside : (number at value : ℕ) (old new : List ℕ) → at + 4 ≤ 8 → HasWord number at value old new
    → KeepsOutside 0 8 (block_of old number) (block_of new number)
word_outside number at value old new early word = record {
  before = λ place none. absurd (omega (arith, none));
  behind = λ place late. word.others.behind place (omega (arith, late, early));
}

pub beside_same : (old new : List ℕ) → new ≡ old → ChangesLinksAlone old new
beside_same old new same =
    λ block.
    same_outside 0 8 (block_of old block) (block_of new block) (ap (λ (file : List ℕ). block_of file block) same)

pub beside_then : (old between new : List ℕ) → ChangesLinksAlone old between → ChangesLinksAlone between new
    → ChangesLinksAlone old new
beside_then old between new first second = λ block. record {
  before = λ at none. absurd (omega (arith, none));
  behind = λ at late. (second block).behind at late ∙ (first block).behind at late;
}

-- one of the links of the block to which a link leads, where it leads to one
pub beside_link : (link at value : ℕ) (old new : List ℕ) → at + 4 ≤ 8 → (link ≢ 0 → HasWord link at value old new)
    → KeepsBlocksBut (led_to link) old new → ChangesLinksAlone old new
beside_link link at value old new early word keeps = λ block. elim (eqb_tells block link) [
  | inr other ↦
      same_outside 0 8 (block_of old block) (block_of new block) (keeps.others block (not_led_to link block other.1))
  | inl same ↦ elim (eqb_tells link 0) [
    | inr some ↦ subst (λ (number : ℕ). KeepsOutside 0 8 (block_of old number) (block_of new number)) (sym same.1)
        (word_outside link at value old new early (word some.1))
    | inl none ↦
        same_outside 0 8 (block_of old block) (block_of new block) (keeps.others block (no_block link block none.1))
  ]
]
  where
    no_block : (link block : ℕ) → link ≡ 0 → times (led_to link) block ≡ 0
    no_block link block none = ap (λ (number : ℕ). times (led_to number) block) none

-- both links of a block
pub beside_links : (number behind before : ℕ) (old new : List ℕ) → HasLinks number behind before old new
    → KeepsBlocksBut (number ∷ []) old new → ChangesLinksAlone old new
beside_links number behind before old new links keeps = λ block. elim (eqb_tells block number) [
  | inl same ↦ subst (λ (n : ℕ). KeepsOutside 0 8 (block_of old n) (block_of new n)) (sym same.1) links.others
  | inr other ↦
      same_outside 0 8 (block_of old block) (block_of new block) (keeps.others block (none_of_one number block other.1))
]

-- a block enters a list: one link of the old first block, and its own links
pub beside_enters : (zero one two three : List ℕ) (first block : ℕ) → one ≡ zero
    → (first ≢ 0 → HasWord first 4 block one two) → KeepsBlocksBut (led_to first) one two
    → HasLinks block first 0 two three → KeepsBlocksBut (block ∷ []) two three → ChangesLinksAlone zero three
beside_enters zero one two three first block same word keeps links keeps' =
    beside_then zero one three (beside_same zero one same)
    (beside_then one two three (beside_link first 4 block one two (omega arith) word keeps)
    (beside_links block first 0 two three links keeps'))

-- a block leaves a list: a link of the block behind it, one of the block before it, and its own links
pub beside_unlinks : (zero one two three four : List ℕ) (block next previous : ℕ) → one ≡ zero
    → (next ≢ 0 → HasWord next 4 previous one two) → KeepsBlocksBut (led_to next) one two
    → (previous ≢ 0 → HasWord previous 0 next two three) → KeepsBlocksBut (led_to previous) two three
    → HasLinks block 0 0 three four → KeepsBlocksBut (block ∷ []) three four → ChangesLinksAlone zero four
beside_unlinks zero one two three four block next previous same behind keeps before keeps' links keeps'' =
    beside_then zero one four (beside_same zero one same)
    (beside_then one two four (beside_link next 4 previous one two (omega arith) behind keeps)
    (beside_then two three four (beside_link previous 0 next two three (omega arith) before keeps')
    (beside_links block 0 0 three four links keeps'')))
