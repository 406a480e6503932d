use Rattle.std.proofs.Common.{◌≡◌, ℕ, ◌<◌, ◌≤◌, IsTrue, true, List, [], length, get_or, take}
use Rattle.std.specs.Prelude.{All}
use Rattle.quota_types.specs.Kept.{IsKept}
use Rattle.quota_types.specs.declared.file_kind.Format.TheVariants.{V2R0}
use Rattle.quota_types.specs.declared.record.Entry.{Entry}
use Rattle.quota_value.specs.Listed.{ids_of}
use Rattle.outside.specs.Frame.{OnlyReads}
use Rattle.file_blocks.specs.Block.{file_of}
use Rattle.file_blocks.specs.BlockSet.{AreFlagsOf}
use Rattle.quota_radix.specs.Levels.{AreWithin}
use Rattle.quota_radix.specs.Tree.{numbers_of}
use Rattle.big_endian_files.specs.ReadBig.{AreReadUpTo, HoldsBlock, records_at, records_in}
use Rattle.big_endian_files.proofs.records.read_records.Given as goal

abbrev pub invariant-loop-leaf : goal.invariant-loop-leaf
invariant-loop-leaf g l =
    let S = g.S.Store in
    record {
      ids : ids_of l.entries.items ≡ numbers_of (take l.leaf-index l.leaves);
      records : IsTrue S.tells
          → records_in l.entries.items
          ≡ records_at (file_of (S.seen l.fn.store).files l.name) (take l.leaf-index l.leaves);
      kept : All (λ (entry : Entry). IsKept V2R0 entry.id entry.rec) l.entries.items;
      holds : IsTrue S.tells → HoldsBlock (file_of (S.seen l.fn.store).files l.name) l.data;
      past : (j : ℕ) → l.leaf-index ≤ j → j < length l.leaves
          → l.data.number ≤ (get_or l.leaves j (record { number = 0; block = 0 })).block;
      read : (blocks : ℕ) (numbers : List ℕ) → AreFlagsOf blocks l.fn.met.flags.items numbers
          → AreWithin blocks 4294967296 l.leaves
          → AreReadUpTo blocks l.met.flags.items numbers l.data.number (S.seen l.fn.store).reads (S.seen l.store).reads;
      leaves : OnlyReads true l.name (S.seen l.fn.store) (S.seen l.store);
      commits : S.commits [] l.fn.store l.store;
    }
