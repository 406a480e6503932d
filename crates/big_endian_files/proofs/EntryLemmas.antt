-- The record of the first entry of a block that an identifier uses.
use Rattle.std.proofs.Common.{◌≡◌, ◌≢◌, ℕ, ◌+◌, ◌-◌, ◌<◌, Bool, cond, ◌==◌, List, find, Option, Some, None}
use Rattle.std.proofs.Common.{option_and_then}
use Rattle.std.proofs.Common.{option_map, refl, sym, ap, ◌∙◌, suc, arith, eq-eqb, ne_eqb}
use Rattle.std.specs.List.{filter_map, range_with_len}
use Rattle.std.specs.Option.{option_or}
use Rattle.quota_types.specs.declared.file_kind.Format.TheVariants.{V2R0}
use Rattle.quota_types.specs.declared.record.Entry.{Entry}
use Rattle.quota_types.specs.declared.record.Rec.{Rec}
use Rattle.byte_order.specs.declared.order.Order.TheVariants.{Big}
use Rattle.entry_codec.specs.Spelling.{IsEntryIn}
use Rattle.tree_meaning.specs.Entries.{entries_in, entry_bytes, entry_in}
use Rattle.tree_meaning.specs.EntryRecords.{used_by}
use Rattle.tree_meaning.specs.TreeFile.{record_read}
use Rattle.tree_meaning.proofs.RecordLemmas.{found_or_later, used_is}

-- the record of an entry at a place that an identifier uses
abbrev pub record_at : List ℕ → ℕ → ℕ → Option Rec
record_at block id place = option_and_then (used_by id) (entry_in Big V2R0 (entry_bytes V2R0 block place))

-- an entry of the identifier
pub of_it : (block bytes : List ℕ) (id other place : ℕ) (rec : Rec) → bytes ≡ entry_bytes V2R0 block place
    → IsEntryIn Big V2R0 bytes other rec → other ≡ id → Some rec ≡ record_at block id place
of_it block bytes id other place rec is entry same =
    sym (ap (λ (b : List ℕ). option_and_then (used_by id) (entry_in Big V2R0 b)) (sym is)
    ∙ ap (option_and_then (used_by id)) (used_is Big V2R0 bytes other rec entry).1
    ∙ ap (λ (b : Bool). cond b (Some rec) None) (eq-eqb other id same))

-- and one of another
pub of_another : (block bytes : List ℕ) (id other place : ℕ) (rec : Rec) → bytes ≡ entry_bytes V2R0 block place
    → IsEntryIn Big V2R0 bytes other rec → other ≢ id → None ≡ record_at block id place
of_another block bytes id other place rec is entry apart =
    sym (ap (λ (b : List ℕ). option_and_then (used_by id) (entry_in Big V2R0 b)) (sym is)
    ∙ ap (option_and_then (used_by id)) (used_is Big V2R0 bytes other rec entry).1
    ∙ ap (λ (b : Bool). cond b (Some rec) None) (ne_eqb other id apart))

-- the record among this many entries from a place on
abbrev record_among : List ℕ → ℕ → ℕ → ℕ → Option Rec
record_among block id place count =
    option_map (λ (entry : Entry). entry.rec)
    (find (λ (entry : Entry). entry.id == id)
    (filter_map (λ place. entry_in Big V2R0 (entry_bytes V2R0 block place)) (range_with_len place count)))

-- the record of the first entry from a place on that an identifier uses
abbrev pub record_from : List ℕ → ℕ → ℕ → Option Rec
record_from block id place = record_among block id place (21 - place)

pub from_first : (block : List ℕ) (id : ℕ) → record_read Big V2R0 block id ≡ record_from block id 0
unfolding entries_in
from_first block id = refl

pub from_next : (block : List ℕ) (id place : ℕ) → place < 21
    → record_from block id place ≡ option_or (record_at block id place) (record_from block id (place + 1))
from_next block id place low =
    let more : 21 - place ≡ suc (21 - (place + 1)) = omega arith in
    ap (record_among block id place) more
    ∙ found_or_later id (entry_in Big V2R0 (entry_bytes V2R0 block place))
    (filter_map (λ at. entry_in Big V2R0 (entry_bytes V2R0 block at)) (range_with_len (place + 1) (21 - (place + 1))))
