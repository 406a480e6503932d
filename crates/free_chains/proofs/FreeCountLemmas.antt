-- The list of free blocks, counted block by block.
use Rattle.std.proofs.Common.{◌≡◌, ◌≢◌, subst, ℕ, ◌<◌, ◌≤◌, false, IsTrue, List, [], ◌∷◌, ◌++◌, length, map, sym, ap}
use Rattle.std.proofs.Common.{◌∙◌, ◌⊎◌, inl, inr, arith, length-append}
use Rattle.std.specs.Prelude.{◌==◌}
use Rattle.std.specs.List.{list_any}
use Rattle.quota_types.specs.Times.{StandsIn, times}
use Rattle.quota_types.proofs.TimesLemmas.{times-list_any}
use Rattle.file_blocks.specs.Block.{leads, next_of}
use Rattle.file_blocks.proofs.LeadsLemmas.{leads_from}
use Rattle.free_chains.specs.Chain.{IsChain}
use Rattle.free_chains.specs.FreeList.{CountsFree, EndsBefore}
use Rattle.free_chains.specs.declared.heads.Heads.{Heads}
use Rattle.free_chains.proofs.ChainLemmas.{chain_goes_on, distinct_with, goes_on_by_one, inside_with, one_chain}

-- The blocks that were met are the list of a head as far as the number to which the last of them leads.
pub record IsBegun (file : List ℕ) (blocks head : ℕ) (met : List ℕ) (at : ℕ) : Type 0 where
  pub linked : met ++ at ∷ [] ≡ head ∷ map (next_of file) met
  pub inside : (number : ℕ) → StandsIn met number → IsTrue (leads blocks number)
  pub distinct : (number : ℕ) → times met number ≤ 1

pub begun_more : (file : List ℕ) (blocks head : ℕ) (met : List ℕ) (at : ℕ) → IsBegun file blocks head met at
    → IsTrue (leads blocks at) → times met at ≡ 0 → IsBegun file blocks head (met ++ at ∷ []) (next_of file at)
begun_more file blocks head met at begun leads_there new = record {
  linked = goes_on_by_one (next_of file) head at met begun.linked;
  inside = inside_with blocks at met begun.inside leads_there;
  distinct = distinct_with at met begun.distinct new;
}

-- a list that ends is the one that was met
met_all : (file : List ℕ) (blocks head : ℕ) (met : List ℕ) (at : ℕ) → IsBegun file blocks head met at
    → (at ≡ 0) ⊎ (blocks ≤ at) ⊎ StandsIn met at → IsChain file blocks head met at
met_all file blocks head met at begun stops =
    record { linked = begun.linked; inside = begun.inside; distinct = begun.distinct; stops = stops }

pub counts_ended : (file : List ℕ) (heads : Heads) (most count : ℕ) (met : List ℕ) (at : ℕ)
    → IsBegun file heads.blocks heads.free met at → (at ≡ 0) ⊎ StandsIn met at → at < heads.blocks → length met ≡ count
    → count < most → CountsFree file heads most count
counts_ended file heads most count met at begun stops low long fewer =
    let whole = met_all file heads.blocks heads.free met at begun
    (elim stops [ inl none ↦ inl none | inr again ↦ inr (inr again) ]) in
    record {
      is = λ chain end c.
          let same = one_chain file heads.blocks heads.free chain end met at c whole in
          omega (arith, ap length same.0, long, fewer);
      inside = λ chain end c less.
          let same = one_chain file heads.blocks heads.free chain end met at c whole in
          omega (arith, same.1, low);
    }

pub counts_most : (file : List ℕ) (heads : Heads) (most : ℕ) (met : List ℕ) (at : ℕ)
    → IsBegun file heads.blocks heads.free met at → length met ≡ most → CountsFree file heads most most
counts_most file heads most met at begun long =
    let whole = chain_goes_on file heads.blocks heads.free met at begun.linked begun.inside begun.distinct in
    let enough : (chain : List ℕ) (end : ℕ) → IsChain file heads.blocks heads.free chain end → most ≤ length chain =
    λ chain end c.
    let same = one_chain file heads.blocks heads.free chain end (met ++ whole.0) whole.1 c whole.2 in
    omega (arith, ap length same.0, length-append met whole.0, long) in
    record {
      is = λ chain end c. omega (arith, enough chain end c);
      inside = λ chain end c less. absurd (omega (arith, less, enough chain end c));
    }

pub ends_before : (file : List ℕ) (heads : Heads) (most : ℕ) (met : List ℕ) (at : ℕ)
    → IsBegun file heads.blocks heads.free met at → heads.blocks ≤ at → length met < most
    → EndsBefore file heads most at
ends_before file heads most met at begun out fewer =
    let whole = met_all file heads.blocks heads.free met at begun (inr (inl out)) in
    record {
      few = λ chain end c. let same = one_chain file heads.blocks heads.free chain end met at c whole in
          omega (arith, ap length same.0, fewer);
      at = λ chain end c. (one_chain file heads.blocks heads.free chain end met at c whole).1;
    }

-- one more block was met, and read
pub begun_step : (old between : List ℕ) (blocks head : ℕ) (met pushed : List ℕ) (at next : ℕ)
    → IsBegun old blocks head met at → at ≢ 0 → at < blocks → list_any (λ other. other == at) met ≡ false
    → pushed ≡ met ++ at ∷ [] → between ≡ old → next ≡ next_of between at → IsBegun old blocks head pushed next
begun_step old between blocks head met pushed at next begun some low new pushes same link =
    let more : IsBegun old blocks head (met ++ at ∷ []) (next_of old at) =
    begun_more old blocks head met at begun (leads_from blocks at (omega (arith, some)) low)
    (times-list_any met at new) in
    subst (λ (xs : List ℕ). IsBegun old blocks head xs next) (sym pushes)
    (subst (λ (k : ℕ). IsBegun old blocks head (met ++ at ∷ []) k)
    (sym (link ∙ ap (λ (file : List ℕ). next_of file at) same)) more)
