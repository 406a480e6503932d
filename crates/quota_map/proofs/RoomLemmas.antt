-- Whether an opened file of any format has room for a value.
use Rattle.std.proofs.Common.{◌≡◌, ℕ, List, Option, Bool, refl, sym, ap, subst, ◌∙◌, arith, ◌+◌, ◌*◌, ◌<◌, ◌≤◌, true}
use Rattle.std.proofs.Common.{false, if◌then◌else◌, length, None, Some, IsTrue, Ok}
use Rattle.std.proofs.lemmas.Bool.{false≢true}
use Rattle.std.specs.Prelude.{◌==◌, ◌-◌, find, nat_lt}
use Rattle.quota_value.specs.QuotaValue.{QuotaValue}
use Rattle.quota_map.specs.Asked.{AnyTree, Asked, InFormat}
use Rattle.quota_map.specs.View.{IsView, asks_tree, most_blocks, fresh_seen}
use Rattle.quota_map.specs.Size.{blocks_after}
use Rattle.quota_types.specs.Format.{is_flat}
use Rattle.quota_types.specs.declared.file_kind.Format.{Format}
use Rattle.quota_types.specs.declared.file_kind.Kind.{Kind}
use Rattle.quota_types.specs.declared.file_kind.Format.TheVariants.{V2R0, V2R1}
use Rattle.opened_file.specs.FileSeen.{FileSeen}
use Rattle.outside.specs.World.{World}
use Rattle.tree_file.specs.Opened.{LacksRoom}
use Rattle.tree_file.specs.BlocksWanted.{blocks_wanted, blocks_with_new, has_no_leaf, tree_blocks_wanted}
use Rattle.tree_meaning.specs.Ids.{ids_in}
use Rattle.quota_map.specs.AnyFile.{HoldsAny, any_seen}
use Rattle.quota_map.specs.declared.any_file.AnyFile.{AnyFile}
use Rattle.quota_map.specs.declared.any_file.AnyFile.TheVariants.{V1 as FlatFile, Tree as TreeFile}
use Rattle.quota_map.proofs.SeenLemmas.{tree_limit}
use Rattle.entry_codec.specs.Header.{header_of}
use Rattle.free_chains.specs.declared.heads.Heads.{Heads}
use Rattle.quota_radix.specs.OnWay.{blocks_on_way}
use Rattle.tree_meaning.specs.TreeHeads.{heads_of}
use Rattle.tree_meaning.specs.TreeFile.{TreeStandsFor}
use Rattle.tree_change.specs.BlocksWanted.{blocks_taken}

-- this file would have the first number of blocks with an edited value, and may have only the second
abbrev pub IsLacking : Option (List ℕ) → QuotaValue → ℕ → ℕ → Type 0
IsLacking file new blocks limit = (blocks ≡ blocks_after file new) × (limit ≡ most_blocks) × (most_blocks < blocks)

-- an opened file has no room for a value
abbrev pub HasNoRoom : AnyFile → Option (List ℕ) → QuotaValue → ℕ → ℕ → Type 0
HasNoRoom file bytes value blocks limit = LacksRoom (any_seen file) bytes value blocks limit

-- a flat file needs no blocks
pub flat_blocks : (bytes : Option (List ℕ)) (new : QuotaValue) (format : Format) → new.format ≡ format
    → is_flat format ≡ true → blocks_after bytes new ≡ 0
flat_blocks bytes new format is flat = no_blocks new.format bytes (ids_in new.records) (ap is_flat is ∙ flat)
  where
    no_blocks : (format : Format) (bytes : Option (List ℕ)) (ids : List ℕ) → is_flat format ≡ true
        → blocks_wanted format bytes ids ≡ 0
    no_blocks V2R0 bytes ids flat = absurd (false≢true flat)
    no_blocks V2R1 bytes ids flat = absurd (false≢true flat)
    no_blocks _ bytes ids flat = refl

-- what an opened file that has no room tells of the value, whatever bytes are in its place
pub lacking : (tells : Bool) (files : World) (file : AnyFile) (bytes : Option (List ℕ)) (value new : QuotaValue)
    (name : List ℕ) (format : Format) (blocks limit : ℕ) → any_seen file ≡ fresh_seen name format
    → HoldsAny tells files file value → new.format ≡ value.format → HasNoRoom file bytes new blocks limit
    → IsLacking bytes new blocks limit
lacking tells files (FlatFile file) bytes value new name format blocks limit seen held same lacks =
    absurd (omega (
      arith,
      lacks.passes,
      lacks.needs,
      flat_blocks bytes new value.format same (ap is_flat held.stands.format ∙ file.flat),
    ))
lacking tells files (TreeFile file) bytes value new name format blocks limit seen held same lacks =
    let most = lacks.may ∙ tree_limit tells _ _ _ file.limit value format (ap (λ (s : FileSeen). s.limit) seen) held in
    (lacks.needs, most, subst (λ (l : ℕ). l < blocks) most lacks.passes)

-- an opened file has no room for a value with which it would have more than the most blocks
pub lacks_most : (tells : Bool) (files : World) (file : AnyFile) (bytes : Option (List ℕ)) (value new : QuotaValue)
    (name : List ℕ) (format : Format) → any_seen file ≡ fresh_seen name format
    → HoldsAny tells files file value → new.format ≡ value.format → most_blocks < blocks_after bytes new
    → HasNoRoom file bytes new (blocks_after bytes new) most_blocks
lacks_most tells files (FlatFile file) bytes value new name format seen held same more =
    absurd (omega (arith, more, flat_blocks bytes new value.format same (ap is_flat held.stands.format ∙ file.flat)))
lacks_most tells files (TreeFile file) bytes value new name format seen held same more = record {
  needs = refl;
  may = sym (tree_limit tells _ _ _ file.limit value format (ap (λ (s : FileSeen). s.limit) seen) held);
  passes = more;
}

-- where nothing is taken, or no more than five
few_if : (test : Bool) (count : ℕ) → count ≤ 5 → (if test then 0 else count) ≤ 5
few_if true count few = omega arith
few_if false count few = few

one_if : (test : Bool) → (if test then 1 else 0) ≤ 1
one_if true = omega arith
one_if false = omega arith

taken_few : (file : List ℕ) (heads : Heads) (id : ℕ) → blocks_taken file heads id ≤ 5
taken_few file heads id =
    let way : List ℕ = blocks_on_way file heads.blocks id in
    let one = one_if (heads.first == 0) in
    few_if (nat_lt 4 (length way)) ((4 - length way) + (if heads.first == 0 then 1 else 0)) (omega (arith, one))

with_few : (file : List ℕ) (heads : Heads) (id : Option ℕ) → blocks_with_new file heads id ≤ heads.blocks + 5
with_few file heads None = omega arith
with_few file heads (Some id) =
    let few = taken_few file heads id in
    omega (arith, few)

tree_few : (format : Format) (file ids : List ℕ)
    → tree_blocks_wanted format (Some file) ids ≤ (header_of file).blocks + 5
unfolding tree_blocks_wanted
tree_few format file ids =
    with_few file (heads_of (header_of file)) (find (has_no_leaf file (header_of file).blocks) ids)

wanted_few : (format : Format) (file ids : List ℕ) → blocks_wanted format (Some file) ids ≤ (header_of file).blocks + 5
wanted_few V2R0 file ids = tree_few V2R0 file ids
wanted_few V2R1 file ids = tree_few V2R1 file ids
wanted_few _ file ids = omega arith

-- a tree file with so many blocks is long
tree_long : (file : List ℕ) (value : QuotaValue) (blocks limit wanted : ℕ) → TreeStandsFor file value
    → wanted ≤ (header_of file).blocks + 5 → blocks ≡ wanted → limit ≡ most_blocks → limit < blocks
    → 1024 * most_blocks ≤ length file + 4096
tree_long file value blocks limit wanted stands few needs allowed passes =
    let many : 2 < (header_of file).blocks = omega (arith, few, needs, allowed, passes) in
    let long = stands.sound.long many in
    omega (arith, long, few, needs, allowed, passes)

-- a tree file that would have more blocks than the most with an edited value is long
pub tree_full : (kind : Kind) (asked : Asked) (file : List ℕ) (value new : QuotaValue) (blocks limit : ℕ)
    → IsTrue (asks_tree asked) → IsView (Some file) kind asked (Ok value)
    → blocks ≡ blocks_after (Some file) new → limit ≡ most_blocks → limit < blocks
    → 1024 * most_blocks ≤ length file + 4096
tree_full kind AnyTree file value new blocks limit tree seen needs allowed passes =
    tree_long file value blocks limit _ seen.0.1 (wanted_few new.format file (ids_in new.records)) needs allowed passes
tree_full kind (InFormat V2R0) file value new blocks limit tree seen needs allowed passes =
    tree_long file value blocks limit _ seen.0.1 (wanted_few new.format file (ids_in new.records)) needs allowed passes
tree_full kind (InFormat V2R1) file value new blocks limit tree seen needs allowed passes =
    tree_long file value blocks limit _ seen.0.1 (wanted_few new.format file (ids_in new.records)) needs allowed passes
tree_full kind (InFormat _) file value new blocks limit tree seen needs allowed passes = absurd (false≢true tree)
