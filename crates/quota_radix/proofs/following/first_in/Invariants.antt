use Rattle.std.proofs.Common.{◌≡◌, ℕ, List, ◌<◌, ◌≤◌}
use Rattle.file_blocks.specs.Block.{block_of, word_at}
use Rattle.quota_radix.specs.Descent.{later_steps, path_from}
use Rattle.quota_radix.proofs.following.first_in.Given as goal

abbrev pub invariant-loop-digit : goal.invariant-loop-digit
invariant-loop-digit l = record {
  later : (file : List ℕ) → l.block ≡ block_of file l.path.block
      → path_from 0 (later_steps file l.blocks l.path l.digit) ≡ path_from 0 (later_steps file l.blocks l.path l.first);
  some : l.first < l.digit → 0 < l.blocks;
  zeros : (file : List ℕ) → l.block ≡ block_of file l.path.block → (digit : ℕ) → l.first ≤ digit → digit < l.digit
      → word_at file l.path.block digit ≡ 0;
}
