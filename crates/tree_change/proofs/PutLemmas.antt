-- An entry that is put in a data block, and what that makes of the file.
use Rattle.std.proofs.Common.{Bool, true, ◌≡◌, ℕ, ◌<◌, List, [], ◌∷◌, length, Some, sym, ap, subst, ◌∙◌, arith}
use Rattle.std.specs.Prelude.{IsSome}
use Rattle.std.proofs.lemmas.List.{get_or_past}
use Rattle.quota_types.specs.Bytes.{number_at}
use Rattle.quota_types.specs.KeptBytes.{KeepsOutside}
use Rattle.quota_types.specs.declared.file_kind.Format.{Format}
use Rattle.quota_types.specs.declared.record.Entry.{Entry}
use Rattle.entry_codec.specs.Entry.{entries_per_block, is_unused}
use Rattle.file_blocks.specs.Block.{block_of}
use Rattle.quota_pages.specs.Overlay.{with_block}
use Rattle.quota_pages.specs.KeptBlocks.{KeepsBlocksBut}
use Rattle.quota_pages.proofs.BlockLemmas.{block_of-with_block_same, whole_block-same}
use Rattle.tree_meaning.specs.Entries.{entry_bytes, entry_of, has_unused, used_ids}
use Rattle.tree_meaning.specs.EntryRecords.{record_by}
use Rattle.tree_meaning.specs.EntryPlaces.{HasSameEntries, KeepsOutsideEntry}
use Rattle.tree_meaning.proofs.EntryPlaceLemmas.{before_entries, ids_kept, outside_entry}
use Rattle.block_changes.specs.EntryChanges.{RewritesEntry, WritesEntry}
use Rattle.tree_change.specs.Put.{PutsCounted, PutsOver}

-- An entry was put at a place, and the number of used ones was written.
pub puts_counted : (format : Format) (place : ℕ) (entry : Entry) (old between new : List ℕ) → length old ≡ 1024
    → length between ≡ 1024 → length new ≡ 1024 → place < entries_per_block format
    → entry_of format (entry_bytes format between place) ≡ Some entry → KeepsOutsideEntry format place old between
    → KeepsOutside 8 10 between new → number_at 2 new 8 ≡ length (used_ids format between)
    → PutsCounted format place entry old new
puts_counted format place entry old between new long_old long_between long_new low is puts counts stated =
    let same : HasSameEntries format between new =
    before_entries format 8 10 between new (omega arith) (long_new ∙ sym long_between) counts in
    record {
      others = record {
        low = low;
        others = λ at within other.
            same at within ∙ outside_entry format place at old between (long_between ∙ sym long_old) puts other;
      };
      is = ap (entry_of format) (same place low) ∙ is;
      stated = stated ∙ ap {B = ℕ} length (sym (ids_kept format between new same));
      links = record {
        before = λ at early. counts.before at early ∙ puts.before at (omega (arith, early));
        behind = λ at late. get_or_past new at 0 (omega (arith, long_new, late))
            ∙ sym (get_or_past old at 0 (omega (arith, long_old, late)));
      };
    }

-- A block of a file was left with an entry more.
pub writes_laid : (format : Format) (block place : ℕ) (entry : Entry) (bytes was old new : List ℕ)
    → was ≡ block_of old block → length bytes ≡ 1024 → new ≡ with_block old block bytes
    → KeepsBlocksBut (block ∷ []) old new → PutsCounted format place entry was bytes
    → is_unused (entry_bytes format (block_of old block) place) ≡ true → WritesEntry format block place entry old new
writes_laid format block place entry bytes was old new was_is long laid keeps puts unused =
    let now : block_of new block ≡ bytes = ap (λ (file : List ℕ). block_of file block) laid
    ∙ block_of-with_block_same old block bytes ∙ whole_block-same bytes long in
    let there : PutsCounted format place entry (block_of old block) (block_of new block) =
    subst (λ (b : List ℕ). PutsCounted format place entry (block_of old block) b) (sym now)
    (subst (λ (b : List ℕ). PutsCounted format place entry b bytes) was_is puts) in
    record {
      puts = record { others = there.others; was = unused; is = there.is };
      stated = there.stated;
      links = there.links;
      keeps = keeps;
    }

-- Whether the block has room is said of the bytes that were left in it.
pub room_laid : (format : Format) (block : ℕ) (bytes old new : List ℕ) (room : Bool) → length bytes ≡ 1024
    → new ≡ with_block old block bytes → room ≡ has_unused format bytes → room ≡ has_unused format (block_of new block)
room_laid format block bytes old new room long laid is =
    is ∙ ap (has_unused format)
    (sym (ap (λ (file : List ℕ). block_of file block) laid ∙ block_of-with_block_same old block bytes
    ∙ whole_block-same bytes long))

-- An entry was put over another one.
pub puts_over : (format : Format) (place : ℕ) (entry : Entry) (old new : List ℕ) → length old ≡ 1024 → length new ≡ 1024
    → place < entries_per_block format
    → entry_of format (entry_bytes format new place) ≡ Some entry → KeepsOutsideEntry format place old new
    → PutsOver format place entry old new
puts_over format place entry old new long_old long_new low is puts = record {
  others = record {
    low = low;
    others = λ at within other. outside_entry format place at old new (long_new ∙ sym long_old) puts other;
  };
  is = is;
  head = record {
    before = λ at early. puts.before at (omega (arith, early));
    behind = λ at late. get_or_past new at 0 (omega (arith, long_new, late))
        ∙ sym (get_or_past old at 0 (omega (arith, long_old, late)));
  };
}

-- A block of a file was left with another entry in place of one.
pub rewrites_laid : (format : Format) (block place : ℕ) (entry : Entry) (bytes was old new : List ℕ)
    → was ≡ block_of old block → length bytes ≡ 1024 → new ≡ with_block old block bytes
    → KeepsBlocksBut (block ∷ []) old new → PutsOver format place entry was bytes
    → IsSome (record_by format (block_of old block) entry.id place) → RewritesEntry format block place entry old new
rewrites_laid format block place entry bytes was old new was_is long laid keeps puts used =
    let now : block_of new block ≡ bytes = ap (λ (file : List ℕ). block_of file block) laid
    ∙ block_of-with_block_same old block bytes ∙ whole_block-same bytes long in
    let there : PutsOver format place entry (block_of old block) (block_of new block) =
    subst (λ (b : List ℕ). PutsOver format place entry (block_of old block) b) (sym now)
    (subst (λ (b : List ℕ). PutsOver format place entry b bytes) was_is puts) in
    record {
      overwrites = record { others = there.others; was = used; is = there.is };
      head = there.head;
      keeps = keeps;
    }
