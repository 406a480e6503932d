-- The entries that come next in an opened tree file, as they were found beside the one that was answered last.
use Rattle.std.specs.Prelude.{◌≡◌, ℕ, ◌^◌, ◌<◌, true, List, [], ◌∷◌, drop, Some, ⊤}
use Rattle.std.proofs.Props.{props}
use Rattle.quota_types.specs.Kept.{IsKept}
use Rattle.quota_types.specs.declared.file_kind.Format.{Format}
use Rattle.quota_types.specs.declared.record.Entry.{Entry}
use Rattle.quota_types.specs.declared.record.Rec.{Rec}
use Rattle.file_blocks.specs.Block.{block_of, leads}
use Rattle.quota_value.specs.QuotaValue.{QuotaValue, Records}
use Rattle.quota_value.specs.NextRecord.{IsNextAfter}
use Rattle.entry_codec.specs.Header.{header_of}
use Rattle.entry_codec.specs.Spelling.{AreOf}
use Rattle.entry_codec.specs.declared.header.Header.{Header}
use Rattle.quota_radix.specs.OnWay.{block_led_to}
use Rattle.tree_meaning.specs.TreeFile.{TreeStandsFor}
use Rattle.tree_file.specs.declared.coming.Coming.{Coming}

-- an identifier with its record, as an entry
abbrev pub entry_by : ℕ × Rec → Entry
entry_by found = record { id = found.0; rec = found.1 }

-- each entry is the next one after the one before it, and the first of them the next one after an identifier
abbrev pub AreNext : Records → ℕ → List (ℕ × Rec) → Type 0
AreNext records after [] = ⊤
AreNext records after (found ∷ rest) =
    IsNextAfter (Some after) records (Some (entry_by found)) × AreNext records found.0 rest

-- each identifier comes after the one before it and has 32 bits, and the format keeps its record
abbrev pub AreFit : Format → ℕ → List (ℕ × Rec) → Type 0
AreFit format after [] = ⊤
AreFit format after (found ∷ rest) =
    (after < found.0) × (found.0 < 2 ^ 32) × IsKept format found.0 found.1 × AreFit format found.0 rest

-- what was found and was not taken yet
abbrev pub left_of : Coming → List (ℕ × Rec)
left_of coming = drop coming.taken coming.found.items

-- what is left are the entries of these records that come after the one that was answered last, one after another
abbrev pub HoldsComing : Records → Coming → Type 0
HoldsComing records coming = AreNext records coming.after (left_of coming)

-- what is left ascends from the identifier that was answered last, and the format keeps it
abbrev pub FitsComing : Format → Coming → Type 0
FitsComing format coming = AreFit format coming.after (left_of coming)

-- A number of this many digits leads down the tree of a file to a block with these bytes.
pub record LeadsTo (file : List ℕ) (blocks digits number : ℕ) (bytes : List ℕ) : Type 0 where
  pub block : ℕ
  pub led : block_led_to file blocks digits number ≡ Some block
  pub is : bytes ≡ block_of file block

-- A file of a format stands for a value, and has two blocks: one of the lowest level of its tree, to which a number of
-- three digits leads, and one that its references may name as a data block.
pub record StandsBy (format : Format) (lowest data_block : List ℕ) (number block : ℕ)
    (value : QuotaValue) : Type 0 where
  pub file : List ℕ
  pub header : Header
  pub of : AreOf header (header_of file)
  pub format_is : header.format ≡ format
  pub stands : TreeStandsFor file value
  pub leads_there : LeadsTo file header.blocks 3 number lowest
  pub data_is : data_block ≡ block_of file block
  pub inside : leads header.blocks block ≡ true

are_fit_is_a_fact : (format : Format) (after : ℕ) (list : List (ℕ × Rec)) → IsProp (AreFit format after list)
are_fit_is_a_fact format after [] = Prim.hlevel props
are_fit_is_a_fact format after (found ∷ rest) = Prim.hlevel (props, are_fit_is_a_fact format found.0 rest)

-- that what is left fits is a fact, and no more than that
pub fits_is_a_fact : (format : Format) (coming : Coming) → IsProp (FitsComing format coming)
fits_is_a_fact format coming = are_fit_is_a_fact format coming.after (left_of coming)
