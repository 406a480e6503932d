-- The entries of a data block. Source: the kernel's `fs/quota/quota_tree.c` (entries fill a data block behind its
-- header of 16 bytes; one of zeros is unused).
use Rattle.std.specs.Prelude.{ℕ, ◌+◌, ◌*◌, Bool, if◌then◌else◌, List, [], ◌∷◌, take, drop, Option, Some, None}
use Rattle.std.specs.List.{filter_map, flat_map, list_any, range_with_len}
use Rattle.file_blocks.specs.Block.{block_of}
use Rattle.byte_order.specs.declared.order.Order.{Order}
use Rattle.byte_order.specs.declared.order.Order.TheVariants.{Little}
use Rattle.byte_order.specs.Number.{number_in}
use Rattle.quota_types.specs.Format.{record_size}
use Rattle.quota_types.specs.Kept.{without_marker}
use Rattle.quota_types.specs.declared.file_kind.Format.{Format}
use Rattle.quota_types.specs.declared.file_kind.Format.TheVariants.{V1, V1R32, V2R0, V2R1}
use Rattle.quota_types.specs.declared.record.Entry.{Entry}
use Rattle.quota_types.specs.declared.record.Rec.{Rec}
use Rattle.entry_codec.specs.Entry.{entries_per_block, is_unused, stored_id, stored_id_in, stored_v2r0_in}
use Rattle.entry_codec.specs.Entry.{stored_v2r1_in}

-- the bytes of an entry of a block, by its place among the entries
abbrev pub entry_bytes : Format → List ℕ → ℕ → List ℕ
entry_bytes format block place = take (record_size format) (drop (16 + record_size format * place) block)

-- the record of an entry of a file that is read in an order, as it is stored; a flat file has no entries
abbrev pub stored_record_in : Order → Format → List ℕ → Rec
stored_record_in order V1 bytes = stored_v2r0_in order bytes
stored_record_in order V1R32 bytes = stored_v2r0_in order bytes
stored_record_in order V2R0 bytes = stored_v2r0_in order bytes
stored_record_in order V2R1 bytes = stored_v2r1_in order bytes

-- the identifier and the record of an entry of a file that is read in an order, or none where it is unused
abbrev pub entry_in : Order → Format → List ℕ → Option Entry
entry_in order format bytes =
    if is_unused bytes then None
    else Some (record {
      id = stored_id_in order bytes;
      rec = without_marker (stored_id_in order bytes) (stored_record_in order format bytes);
    })

-- the entries of a block that are used, in order, in a file that is read in a byte order
unfoldable pub entries_in : Order → Format → List ℕ → List Entry
entries_in order format block =
    filter_map (λ place. entry_in order format (entry_bytes format block place))
    (range_with_len 0 (entries_per_block format))

-- the same of a little-endian file
abbrev pub stored_record : Format → List ℕ → Rec
stored_record format bytes = stored_record_in Little format bytes

abbrev pub entry_of : Format → List ℕ → Option Entry
entry_of format bytes = entry_in Little format bytes

abbrev pub used_entries : Format → List ℕ → List Entry
used_entries format block = entries_in Little format block

-- the identifier that an entry stores, or none where it is unused
abbrev pub id_in : Format → List ℕ → List ℕ
id_in format bytes = if is_unused bytes then [] else stored_id bytes ∷ []

-- the identifiers of the entries of a block that are used, in order
unfoldable pub used_ids : Format → List ℕ → List ℕ
used_ids format block =
    flat_map (λ place. id_in format (entry_bytes format block place)) (range_with_len 0 (entries_per_block format))

-- the number of used entries that a data block of a file that is read in an order states
abbrev pub stated_in : Order → List ℕ → ℕ → ℕ
stated_in order file number = number_in order 2 (block_of file number) 8

-- the same of a little-endian file
abbrev pub stated_count : List ℕ → ℕ → ℕ
stated_count file number = stated_in Little file number

-- some entry of a block is unused
unfoldable pub has_unused : Format → List ℕ → Bool
has_unused format block =
    list_any (λ place. is_unused (entry_bytes format block place)) (range_with_len 0 (entries_per_block format))
