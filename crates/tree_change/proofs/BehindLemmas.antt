-- Blocks of a file that change leave what lies behind the last one.
use Rattle.std.proofs.Common.{◌≡◌, ℕ, ◌+◌, ◌*◌, ◌/◌, ◌%◌, ◌<◌, ◌≤◌, List, inl, inr, refl, sym, ap, ◌∙◌, arith}
use Rattle.std.proofs.lemmas.Bool.{cases_eq, cases_lt}
use Rattle.quota_types.specs.Bytes.{byte_at}
use Rattle.quota_types.specs.Times.{StandsIn, times}
use Rattle.file_blocks.specs.Block.{block_of}
use Rattle.file_blocks.proofs.WordLemmas.{byte_at-block_of}
use Rattle.quota_pages.specs.KeptBlocks.{KeepsBlocksBut}
use Rattle.free_chains.specs.FreeList.{TakesHead}
use Rattle.free_chains.specs.declared.heads.Heads.{Heads}
use Rattle.tree_change.specs.Behind.{KeepsBehind}

-- a byte is as before where its block is
pub same_byte : (old new : List ℕ) (at number place : ℕ) → place < 1024 → at ≡ 1024 * number + place
    → block_of new number ≡ block_of old number → byte_at new at ≡ byte_at old at
same_byte old new at number place low is same =
    ap (byte_at new) is
    ∙ sym (byte_at-block_of new number place low)
    ∙ ap (λ (block : List ℕ). byte_at block place) same
    ∙ byte_at-block_of old number place low
    ∙ ap (byte_at old) (sym is)

-- some blocks changed, each of which is one of the file then
pub behind_of : (numbers : List ℕ) (was now : ℕ) (old new : List ℕ) → was ≤ now
    → ((number : ℕ) → StandsIn numbers number → number < now) → KeepsBlocksBut numbers old new
    → KeepsBehind was now old new
behind_of numbers was now old new more inside keeps = record {
  at_least = more;
  behind = record {
    before = λ at none. absurd (omega (arith, none));
    behind = λ at past.
        let number : ℕ = at / 1024 in
        same_byte old new at number (at % 1024) (omega arith) (omega arith)
        (keeps.others number (elim (cases_lt 0 (times numbers number)) [
          | inl changed ↦ absurd (let low : number < now = inside number changed in omega (arith, past, low))
          | inr other ↦ omega (arith, other)
        ]));
  };
  longer = keeps.longer;
  within = keeps.within now inside;
}

-- one change after another
pub behind_then : (was middle now : ℕ) (old between new : List ℕ) → KeepsBehind was middle old between
    → KeepsBehind middle now between new → KeepsBehind was now old new
behind_then was middle now old between new first second = record {
  at_least = omega (arith, first.at_least, second.at_least);
  behind = record {
    before = λ at none. absurd (omega (arith, none));
    behind = λ at past. second.behind.behind at past ∙ first.behind.behind at (omega (arith, past, second.at_least));
  };
  longer = omega (arith, first.longer, second.longer);
  within = omega (arith, first.within, second.within, second.at_least);
}

-- nothing changed
pub behind_none : (blocks : ℕ) (file : List ℕ) → KeepsBehind blocks blocks file file
behind_none blocks file = record {
  at_least = omega arith;
  behind = record { before = λ at low. refl; behind = λ at past. refl };
  longer = omega arith;
  within = omega arith;
}

-- a block that was taken is one of the file then, which has no fewer
pub taken_low : (heads now : Heads) (block : ℕ) → TakesHead heads now block
    → (heads.blocks ≤ now.blocks) × (block < now.blocks)
taken_low heads now block head = elim (cases_eq heads.free 0) [
  | inl none ↦
      (omega (arith, (head.none none).blocks), omega (arith, (head.none none).blocks, (head.none none).block_is))
  | inr some ↦ (
    omega (arith, (head.some some).blocks),
    omega (arith, (head.some some).blocks, (head.some some).block_is, (head.some some).inside),
  )
]
