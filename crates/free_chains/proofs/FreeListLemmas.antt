-- The list of free blocks once a block was taken from it or put before it.
use Rattle.std.proofs.Common.{◌≡◌, ◌≢◌, ℕ, List, [], ◌∷◌, replicate, refl, sym, ap, subst, ◌∙◌, inl, inr, arith}
use Rattle.std.proofs.lemmas.Bool.{cases_lt}
use Rattle.std.proofs.lemmas.List.{get_or-replicate, get_or_past, length-replicate}
use Rattle.quota_types.specs.Bytes.{byte_at}
use Rattle.quota_types.specs.Times.{times}
use Rattle.quota_types.proofs.TimesLemmas.{times-cons-same}
use Rattle.file_blocks.specs.Block.{block_of, next_of}
use Rattle.file_blocks.proofs.LeadsLemmas.{leads_within}
use Rattle.quota_pages.specs.Used.{HasWord}
use Rattle.quota_pages.specs.KeptBlocks.{KeepsBlocksBut}
use Rattle.free_chains.specs.Chain.{IsChain}
use Rattle.free_chains.specs.FreeList.{GivesBlock, LosesFirst, TakesBlock}
use Rattle.free_chains.specs.declared.heads.Heads.{Heads}
use Rattle.free_chains.proofs.SpliceLemmas.{chain-none, chain-put, chain-rest, chain-stays, first_is_head, goes_linked}
use Rattle.free_chains.proofs.SpliceLemmas.{none_of_one, other_than}

-- a list whose head is 0 is empty
none_free : (file : List ℕ) (blocks head : ℕ) (chain : List ℕ) → head ≡ 0
    → IsChain file blocks head chain 0 → chain ≡ []
none_free file blocks head [] none c = refl
none_free file blocks head (block ∷ rest) none c =
    let first : block ≡ head = first_is_head file blocks head block rest 0 c in
    let within = leads_within blocks block (c.inside block (omega (arith, times-cons-same block rest))) in
    absurd (omega (arith, first, none, within))

pub takes_new : (old new : List ℕ) (heads now : Heads) (block : ℕ) → heads.free ≡ 0 → now.free ≡ 0
    → block_of new block ≡ replicate 1024 0 → TakesBlock old new heads now block
takes_new old new heads now block none stays blank = record {
  blank = blank;
  link = λ some. absurd (some none);
  chain = λ chain c. inl (
    none_free old heads.blocks heads.free chain none c,
    subst (λ (head : ℕ). IsChain new now.blocks head [] 0) (sym stays) (chain-none new now.blocks),
  );
}

-- the list without its first block, which alone changed
rest_stays : (old new : List ℕ) (blocks head block : ℕ) (rest : List ℕ) → KeepsBlocksBut (head ∷ []) old new
    → IsChain old blocks head (block ∷ rest) 0 → IsChain new blocks (next_of old head) rest 0
rest_stays old new blocks head block rest keeps c =
    let first : block ≡ head = first_is_head old blocks head block rest 0 c in
    let none : times rest head ≡ 0 =
    omega (arith, c.distinct block, times-cons-same block rest, ap (times rest) first) in
    subst (λ (at : ℕ). IsChain new blocks (next_of old at) rest 0) first
    (chain-stays (head ∷ []) old new blocks (next_of old block) rest 0 keeps
    (λ number stands. none_of_one head number (other_than rest head number none stands))
    (chain-rest old blocks head block rest c))

loses_first : (old new : List ℕ) (heads now : Heads) (chain : List ℕ) → heads.free ≢ 0 → now.blocks ≡ heads.blocks
    → now.free ≡ next_of old heads.free → KeepsBlocksBut (heads.free ∷ []) old new
    → IsChain old heads.blocks heads.free chain 0 → LosesFirst new now heads.free chain
loses_first old new heads now [] some blocks link keeps c =
    absurd (some (sym (goes_linked (next_of old) heads.free [] 0 c.linked)))
loses_first old new heads now (block ∷ rest) some blocks link keeps c = inr (
  rest,
  ap (λ (x : ℕ). x ∷ rest) (first_is_head old heads.blocks heads.free block rest 0 c),
  subst (λ (count : ℕ). IsChain new count now.free rest 0) (sym blocks)
      (subst (λ (head : ℕ). IsChain new heads.blocks head rest 0) (sym link)
      (rest_stays old new heads.blocks heads.free block rest keeps c)),
)

pub takes_listed : (old between new : List ℕ) (heads now : Heads) → heads.free ≢ 0 → now.blocks ≡ heads.blocks
    → now.free ≡ next_of old heads.free → between ≡ old → KeepsBlocksBut (heads.free ∷ []) between new
    → block_of new heads.free ≡ replicate 1024 0 → TakesBlock old new heads now heads.free
takes_listed old between new heads now some blocks link same keeps blank = record {
  blank = blank;
  link = λ given. link;
  chain = λ chain c. loses_first old new heads now chain some blocks link
      (subst (λ (file : List ℕ). KeepsBlocksBut (heads.free ∷ []) file new) same keeps) c;
}

zeros : (count at : ℕ) → byte_at (replicate count 0) at ≡ 0
zeros count at = elim (cases_lt at count) [
  | inl low ↦ get_or-replicate count at 0 0 low
  | inr high ↦ get_or_past (replicate count 0) at 0 (omega (arith, high, length-replicate {A = ℕ} count 0))
]

pub gives : (old between new : List ℕ) (heads : Heads) (block : ℕ) → KeepsBlocksBut (block ∷ []) old new
    → block_of between block ≡ replicate 1024 0 → HasWord block 0 heads.free between new
    → GivesBlock old new heads block
gives old between new heads block keeps blank word = record {
  link = word.is;
  blank = λ at late. word.others.behind at late ∙ ap (λ (bytes : List ℕ). byte_at bytes at) blank ∙ zeros 1024 at;
  chain = λ chain end c none leads_there.
      chain-put new heads.blocks heads.free chain end block
      (chain-stays (block ∷ []) old new heads.blocks heads.free chain end keeps
      (λ number stands. none_of_one block number (other_than chain block number none stands)) c)
      word.is none leads_there;
}
