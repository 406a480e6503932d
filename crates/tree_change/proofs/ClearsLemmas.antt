-- What a change of one entry of a block leaves of the block, once it states how many entries it uses.
use Rattle.std.proofs.Common.{◌≡◌, ℕ, ◌<◌, true, List, [], ◌∷◌, length, sym, ap, subst, ◌∙◌, arith}
use Rattle.std.specs.Prelude.{IsSome}
use Rattle.quota_types.specs.Bytes.{number_at}
use Rattle.quota_types.specs.KeptBytes.{KeepsOutside}
use Rattle.quota_types.specs.declared.file_kind.Format.{Format}
use Rattle.file_blocks.specs.Block.{block_of}
use Rattle.entry_codec.specs.Entry.{entries_per_block, is_unused}
use Rattle.quota_pages.specs.Overlay.{with_block}
use Rattle.quota_pages.specs.KeptBlocks.{KeepsBlocksBut}
use Rattle.quota_pages.proofs.BlockLemmas.{block_of-with_block_same, whole_block-same}
use Rattle.tree_meaning.specs.Entries.{entry_bytes, stated_count, used_ids}
use Rattle.tree_meaning.specs.EntryRecords.{record_by}
use Rattle.tree_meaning.specs.EntryPlaces.{ClearsEntry, HasSameEntries, KeepsOtherEntries, KeepsOutsideEntry}
use Rattle.tree_meaning.proofs.EntryPlaceLemmas.{before_entries, ids_kept, outside_entry}
use Rattle.block_changes.specs.EntryChanges.{LosesEntry}
use Rattle.tree_change.specs.Clears.{IsCleared}
use Rattle.tree_change.specs.declared.clearing.Cleared.{Cleared}

-- a block states its count where that was taken of it and is written before its entries
pub stated_now : (format : Format) (count : ℕ) (old new : List ℕ) → length old ≡ 1024 → length new ≡ 1024
    → number_at 2 new 8 ≡ count → count ≡ length (used_ids format old)
    → KeepsOutside 8 10 old new → number_at 2 new 8 ≡ length (used_ids format new)
stated_now format count old new was now written is keeps =
    written ∙ is
    ∙ sym (ap length (ids_kept format old new (before_entries format 8 10 old new (omega arith) (now ∙ sym was) keeps)))

-- the bytes of one entry of a block changed
pub others_stay : (format : Format) (place : ℕ) (old new : List ℕ) → length old ≡ 1024 → length new ≡ 1024
    → place < entries_per_block format → KeepsOutsideEntry format place old new
    → KeepsOtherEntries format place old new
others_stay format place old new was now low keeps =
    record { low = low; others = λ at within other. outside_entry format place at old new (now ∙ sym was) keeps other }

module _ (format : Format) (place : ℕ) (old middle new : List ℕ) (was : length old ≡ 1024)
    (between : length middle ≡ 1024) (now : length new ≡ 1024)
    (low : place < entries_per_block format) (entry : KeepsOutsideEntry format place old middle)
    (count : KeepsOutside 8 10 middle new) where
  same_entries : HasSameEntries format middle new
  same_entries = before_entries format 8 10 middle new (omega arith) (now ∙ sym between) count

  others : KeepsOtherEntries format place old new
  others =
      let first = others_stay format place old middle was between low entry in
      record { low = low; others = λ at within other. same_entries at within ∙ first.others at within other }

  -- an entry was cleared, and then that number written
  pub clears : (id : ℕ) → IsSome (record_by format old id place) → is_unused (entry_bytes format middle place) ≡ true
      → ClearsEntry format place id old new
  clears id used is = record { others = others; was = used; is = ap is_unused (same_entries place low) ∙ is }

-- a block that was lent for writing is as it was left
pub left_as : (number : ℕ) (bytes old new : List ℕ) → length bytes ≡ 1024 → new ≡ with_block old number bytes
    → block_of new number ≡ bytes
left_as number bytes old new long laid =
    ap (λ (file : List ℕ). block_of file number) laid ∙ block_of-with_block_same old number bytes
    ∙ whole_block-same bytes long

module _ (format : Format) (number : ℕ) (block bytes old new : List ℕ) (long : length bytes ≡ 1024)
    (is : block ≡ block_of old number)
    (laid : new ≡ with_block old number bytes) (keeps : KeepsBlocksBut (number ∷ []) old new) where
  now_is : bytes ≡ block_of new number
  now_is = sym (left_as number bytes old new long laid)

  stated_there : number_at 2 bytes 8 ≡ length (used_ids format bytes)
      → stated_count new number ≡ length (used_ids format (block_of new number))
  stated_there stated = subst (λ (b : List ℕ). number_at 2 b 8 ≡ length (used_ids format b)) now_is stated

  kept_there : (from to : ℕ) → KeepsOutside from to block bytes
      → KeepsOutside from to (block_of old number) (block_of new number)
  kept_there from to keep =
      subst (λ (b : List ℕ). KeepsOutside from to b (block_of new number)) is
      (subst (λ (b : List ℕ). KeepsOutside from to block b) now_is keep)

  -- an entry was cleared in a block that was lent
  pub loses : (place id : ℕ) → ClearsEntry format place id block bytes
      → number_at 2 bytes 8 ≡ length (used_ids format bytes) → KeepsOutside 8 1024 block bytes
      → LosesEntry format number place id old new
  loses place id clears stated links = record {
    clears = subst (λ (b : List ℕ). ClearsEntry format place id b (block_of new number)) is
        (subst (λ (b : List ℕ). ClearsEntry format place id block b) now_is clears);
    stated = stated_there stated;
    links = kept_there 8 1024 links;
    keeps = keeps;
  }

  pub cleared_so : (cleared : Cleared) → IsCleared format block bytes cleared
      → IsCleared format (block_of old number) (block_of new number) cleared
  cleared_so cleared left =
      subst (λ (b : List ℕ). IsCleared format b (block_of new number) cleared) is
      (subst (λ (b : List ℕ). IsCleared format block b cleared) now_is left)
