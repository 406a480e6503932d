-- Why a record is not put into an opened tree file, for lack of room, and how many blocks are written where it is.
use Rattle.std.proofs.Common.{◌≡◌, ℕ, ◌+◌, ◌^◌, ◌<◌, ◌≤◌, Bool, IsTrue, List, Option, None, Some, refl, sym, ap, subst}
use Rattle.std.proofs.Common.{◌∙◌}
use Rattle.std.specs.Prelude.{IsSome}
use Rattle.std.specs.FinMap.{get}
use Rattle.quota_types.specs.declared.record.Rec.{Rec}
use Rattle.outside.specs.Seen.{StoreSeen}
use Rattle.file_blocks.specs.Block.{bytes_of}
use Rattle.entry_codec.specs.Header.{header_of}
use Rattle.entry_codec.specs.Spelling.{AreOf}
use Rattle.entry_codec.specs.declared.header.Header.{Header}
use Rattle.opened_file.specs.Changes.{LacksRoomFor}
use Rattle.opened_file.specs.FileChange.{Put, changed_value}
use Rattle.opened_file.specs.ValueEdits.{edit_by}
use Rattle.quota_value.specs.QuotaValue.{QuotaValue}
use Rattle.opened_file.specs.declared.file_use.FileUse.{FileUse}
use Rattle.tree_meaning.specs.TreeHeads.{heads_of}
use Rattle.tree_meaning.specs.Ids.{ids_in}
use Rattle.tree_meaning.specs.TreeFile.{TreeStandsFor}
use Rattle.tree_file.specs.Opened.{HoldsTree}
use Rattle.tree_file.specs.BlocksWanted.{blocks_wanted}
use Rattle.tree_change.specs.BlocksWanted.{blocks_with}
use Rattle.tree_file.specs.TreeCalls.{blocks_put, tree_at, tree_laws}
use Rattle.tree_file.specs.declared.coming.Coming.{Coming}
use Rattle.tree_file.proofs.HeldLemmas.{held_file, held_header, there_bytes}
use Rattle.tree_file.proofs.RoomLemmas.{wanted_put}

-- a file that is full lacks the room for each value that is held
pub put_lacks : (id : ℕ) (rec : Rec) (tells : Bool) (limit : ℕ) (name : List ℕ) (before : StoreSeen) (opened : FileUse)
    (header : Header) (coming : Coming) (blocks most : ℕ) → id < 2 ^ 32
    → (most ≡ limit) × (limit < blocks)
    × (IsTrue tells → AreOf header (header_of (bytes_of (before.files name))) → (value : QuotaValue)
    → TreeStandsFor (bytes_of (before.files name)) value
    → blocks ≡ blocks_with (bytes_of (before.files name)) (heads_of (header_of (bytes_of (before.files name)))) id)
    → LacksRoomFor (edit_by (Put id rec)) (tree_laws tells) (tree_at tells name opened header coming limit before)
    blocks most × ((most ≡ limit) × (most < blocks))
put_lacks id rec tells limit name before opened header coming blocks most small full =
    let passes : most < blocks = subst (λ (n : ℕ). n < blocks) (sym full.0) full.1 in (
      (
        refl,
        λ value holds.
            let of = held_header tells (before.files name) header coming limit value holds in
            let stands = held_file tells (before.files name) header coming limit value holds in
            record {
              needs = full.2 holds.told of value stands
                  ∙ sym (wanted_put (bytes_of (before.files name)) value id rec small stands)
                  ∙ ap (λ (file : Option (List ℕ)).
                  blocks_wanted value.format file (ids_in (changed_value (Put id rec) value).records))
                  (ap (λ (bytes : List ℕ). Some bytes) (there_bytes (before.files name) holds.file holds.there)
                  ∙ sym holds.there);
              may = full.0;
              passes = passes;
            },
      ),
      (full.0, passes),
    )

few_put : (before now : ℕ) (found : Option Rec) → (IsSome found → now ≤ before + 1) → now ≤ before + 12
    → now ≤ before + blocks_put found
few_put before now None known few = few
few_put before now (Some rec) known few = known refl

-- where the identifier has a record, that is written over
pub put_few : (id : ℕ) (tells : Bool) (name : List ℕ) (before now : StoreSeen) (header : Header)
    (coming : Coming) (limit : ℕ)
    → (IsTrue tells → AreOf header (header_of (bytes_of (before.files name))) → (value : QuotaValue)
    → TreeStandsFor (bytes_of (before.files name)) value
    → IsSome (get value.records id) → now.writes ≤ before.writes + 1)
    → now.writes ≤ before.writes + 12
    → (value : QuotaValue) → HoldsTree tells (before.files name) header coming limit value
    → now.writes ≤ before.writes + blocks_put (get value.records id)
put_few id tells name before now header coming limit known few value holds =
    few_put before.writes now.writes (get value.records id)
    (known holds.told (held_header tells (before.files name) header coming limit value holds) value
    (held_file tells (before.files name) header coming limit value holds)) few
