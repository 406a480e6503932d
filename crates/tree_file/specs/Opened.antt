-- What an opened tree file holds, and what is seen of it.
use Rattle.std.specs.Prelude.{◌≡◌, ℕ, ◌<◌, ◌≤◌, Bool, IsTrue, List, Option, Some, ⊤}
use Rattle.opened_file.specs.FileSeen.{FileSeen}
use Rattle.quota_value.specs.QuotaValue.{QuotaValue}
use Rattle.opened_file.specs.declared.quota_file.FileFault.{FileFault}
use Rattle.opened_file.specs.declared.quota_file.FileFault.TheVariants.{Store, Damage, Full, Memory}
use Rattle.entry_codec.specs.Header.{header_of}
use Rattle.entry_codec.specs.Spelling.{AreOf}
use Rattle.entry_codec.specs.declared.header.Header.{Header}
use Rattle.file_blocks.specs.Block.{bytes_of}
use Rattle.free_chains.specs.declared.heads.Heads.{Heads}
use Rattle.quota_types.specs.Damage.{NamesItsId}
use Rattle.quota_types.specs.declared.damage.Damage.{Damage as Damaged}
use Rattle.tree_meaning.specs.Defect.{IsTreeDefect}
use Rattle.tree_meaning.specs.Ids.{ids_in}
use Rattle.tree_meaning.specs.TreeFile.{TreeStandsFor}
use Rattle.tree_file.specs.Coming.{HoldsComing}
use Rattle.tree_file.specs.BlocksWanted.{blocks_wanted}
use Rattle.tree_file.specs.declared.coming.Coming.{Coming}

-- The store tells its files, the named file stands for the value and has no more blocks than it may have, the header
-- that is kept is the file's, and the answers that are kept are those that come next.
pub record HoldsTree (tells : Bool) (named : Option (List ℕ)) (header : Header) (coming : Coming) (limit : ℕ)
    (value : QuotaValue) : Type 0 where
  pub told : IsTrue tells
  pub file : List ℕ
  pub there : named ≡ Some file
  pub stands : TreeStandsFor file value
  pub few : (header_of file).blocks ≤ limit
  pub same : AreOf header (header_of file)
  pub next : HoldsComing value.records coming

-- A file, as it is, has no room for a value: it needs `blocks` blocks and may have only `limit`.
pub record LacksRoom (seen : FileSeen) (file : Option (List ℕ)) (value : QuotaValue) (blocks limit : ℕ) : Type 0 where
  pub needs : blocks ≡ blocks_wanted value.format file (ids_in value.records)
  pub may : limit ≡ seen.limit
  pub passes : limit < blocks

-- The faults that a call on an opened tree file may answer, whatever the store tells: a damage names an identifier only
-- where its kind does, and memory never runs out.
abbrev pub MayRefuse : FileFault → Type 0
MayRefuse Store = ⊤
MayRefuse (Damage damage) = NamesItsId damage.kind damage.id
MayRefuse (Full _ _) = ⊤
MayRefuse Memory = ⊥

-- A damage is one of the named file, where the store tells that and it has the header that is kept.
abbrev pub IsNamedDefect : Bool → (named : Option (List ℕ)) → Header → Damaged → Type 0
IsNamedDefect tells named header damage =
    IsTrue tells → AreOf header (header_of (bytes_of named))
    → IsTreeDefect header.format (bytes_of named) (header_of (bytes_of named)) damage

-- a header with other heads
abbrev pub with_heads : Header → Heads → Header
with_heads header heads = record header { blocks = heads.blocks; free = heads.free; first = heads.first }
