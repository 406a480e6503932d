-- Why a conversion was refused, and what one made.
use Rattle.std.proofs.Common.{◌≡◌, ℕ, ◌≤◌, Bool, IsTrue, List, [], ◌++◌, length, Option, None, Some, Ok, refl, sym, ap}
use Rattle.std.proofs.Common.{subst, ◌∙◌}
use Rattle.std.specs.List.{slice_get}
use Rattle.std.specs.List.Sorted.{IsStrictlyIncreasing}
use Rattle.std.specs.Option.{option_map, option_to_list}
use Rattle.std.proofs.lemmas.Option.{none-some}
use Rattle.quota_types.specs.declared.field.NoRoom.{NoRoom as NoRoomFor}
use Rattle.quota_types.specs.declared.file_kind.Format.{Format}
use Rattle.quota_types.specs.declared.file_kind.Format.TheVariants.{V1, V1R32, V2R0, V2R1}
use Rattle.quota_types.specs.declared.record.Entry.{Entry}
use Rattle.quota_types.specs.declared.record.Grace.{Grace}
use Rattle.quota_value.specs.Listed.{ids_of, value_of}
use Rattle.quota_value.specs.QuotaValue.{QuotaValue}
use Rattle.outside.specs.Seen.{StoreSeen}
use Rattle.outside.specs.World.{World}
use Rattle.opened_file.specs.declared.quota_file.FileFault.{FileFault}
use Rattle.opened_file.specs.declared.quota_file.FileFault.TheVariants.{Store as CallFailed, Damage as Damaged, Full}
use Rattle.opened_file.specs.declared.quota_file.FileFault.TheVariants.{Memory as NoMemory}
use Rattle.opened_file.specs.declared.quota_file.OpenFault.{OpenFault}
use Rattle.opened_file.specs.declared.quota_file.OpenFault.TheVariants.{Store, NoFile, TooLarge, Memory, NotQuota}
use Rattle.opened_file.specs.declared.quota_file.OpenFault.TheVariants.{WrongKind, UnknownVersion, BadBlockCount}
use Rattle.opened_file.specs.declared.quota_file.OpenFault.TheVariants.{FormatMismatch, Damage}
use Rattle.opened_file.specs.declared.replacement.ReplaceFault.{ReplaceFault}
use Rattle.opened_file.specs.declared.replacement.ReplaceFault.TheVariants.{Store as MakingFailed, Full as NoBlocks}
use Rattle.opened_file.specs.declared.replacement.ReplaceFault.TheVariants.{Memory as NoMemoryToMake}
use Rattle.outside.proofs.CountLemmas.{Rose-since}
use Rattle.quota_map.specs.Asked.{InFormat}
use Rattle.quota_map.specs.Size.{blocks_needed, ids_in}
use Rattle.quota_map.specs.Replacing.{IsReplaceFileFault, IsReplacedBy, built_size, flags_in}
use Rattle.quota_map.specs.View.{IsOpenFault, IsView, most_blocks}
use Rattle.convert.specs.Conversion.{grace_no_room}
use Rattle.convert.specs.Convert.{AskedConversion, HasNoTarget, IsConvertFault, IsConverted, IsMade, IsMadeOf}
use Rattle.convert.specs.Convert.{IsNotMade, IsUnfit, UnlessFaultOfStore}
use Rattle.convert.specs.Source.{HasRead, IsReadingFault, IsSourceFault}
use Rattle.convert.specs.Listing.{kept_list, list_without_room}
use Rattle.convert.specs.declared.convert_fault.ConvertFault.{ConvertFault}
use Rattle.convert.specs.declared.convert_fault.ConvertFault.TheVariants.{SameName, TargetExists, Open, File, NoRoom}
use Rattle.convert.specs.declared.convert_fault.ConvertFault.TheVariants.{Replace}
use Rattle.convert.proofs.ValueLemmas.{converted_listed, ids_listed, refused_listed}
use Rattle.quota_map.proofs.OpeningLemmas.{open_since}

-- Counts that rose later.

reading_since : (before between now : ℕ) (tells : Bool) (format : Format) (fault : FileFault) → before ≤ between
    → IsReadingFault between now tells format fault → IsReadingFault before now tells format fault
reading_since before between now tells format CallFailed later cause = Rose-since before between now later cause
reading_since before between now tells format (Damaged damage) later cause = cause
reading_since before between now tells format (Full blocks limit) later cause = cause
reading_since before between now tells format NoMemory later cause = cause

-- The refusals.

-- what holds in every case
with_store : (P : Type 0) (fault : OpenFault) → P → UnlessFaultOfStore fault P
with_store P Store is = tt
with_store P NoFile is = is
with_store P (TooLarge number most) is = is
with_store P Memory is = is
with_store P NotQuota is = is
with_store P WrongKind is = is
with_store P UnknownVersion is = is
with_store P BadBlockCount is = is
with_store P (FormatMismatch found) is = is
with_store P (Damage damage) is = is

-- the file was not opened, or not read
pub source_refused : (tells : Bool) (asked : AskedConversion) (old between new : StoreSeen) (fault : ConvertFault)
    → HasNoTarget tells asked old.files → between.files ≡ old.files → old.faults ≤ between.faults
    → IsSourceFault between.faults new.faults tells (between.files asked.from) asked.kind asked.old fault
    → IsConvertFault tells asked old new fault
source_refused tells asked old between new SameName free same later cause = absurd cause
source_refused tells asked old between new TargetExists free same later cause = absurd cause
source_refused tells asked old between new (Open fault) free same later cause = record {
  apart = free.apart;
  absent = with_store (IsTrue tells → old.files asked.to ≡ None) fault free.absent;
  cause =
      open_since old.faults between.faults new.faults tells (old.files asked.from) asked.kind asked.old fault later
      (subst (λ (files : World). IsOpenFault between.faults new.faults tells (files asked.from) asked.kind
      (InFormat asked.old) fault) same cause);
}
source_refused tells asked old between new (File fault) free same later cause =
    (free, reading_since old.faults between.faults new.faults tells asked.old fault later cause)
source_refused tells asked old between new (NoRoom out) free same later cause = absurd cause
source_refused tells asked old between new (Replace fault) free same later cause = absurd cause

-- the new file was not made
replace_since : (before between now needed limit : ℕ) (fault : ReplaceFault) → before ≤ between
    → IsReplaceFileFault between now needed limit fault → IsReplaceFileFault before now needed limit fault
replace_since before between now needed limit MakingFailed later cause =
    (Rose-since before between now later cause.0, cause.1)
replace_since before between now needed limit (NoBlocks blocks most) later cause = cause
replace_since before between now needed limit NoMemoryToMake later cause = cause

-- What was made.

-- there is no file of a name whose length is not told
pub absent_of : (found : Option ℕ) (named : Option (List ℕ)) → found ≡ None
    → found ≡ option_map length named → named ≡ None
absent_of found None none is = refl
absent_of found (Some file) none is = absurd (none-some (length file) (sym none ∙ is))

-- a value of no flags, whatever the format
no_flags : (format : Format) → flags_in format 0 ≡ 0
no_flags V1 = refl
no_flags V1R32 = refl
no_flags V2R0 = refl
no_flags V2R1 = refl

module _ (tells : Bool) (asked : AskedConversion) (old between : StoreSeen) (grace : Grace) (flags : ℕ)
    (list : List Entry) (same : between.files ≡ old.files)
    (read : HasRead tells (between.files asked.from) asked.kind asked.old
    (value_of asked.kind asked.old grace flags list)) (ascends : IsStrictlyIncreasing (ids_of list)) where
  read_before : HasRead tells (old.files asked.from) asked.kind asked.old
      (value_of asked.kind asked.old grace flags list)
  read_before =
      subst (λ (files : World).
      HasRead tells (files asked.from) asked.kind asked.old (value_of asked.kind asked.old grace flags list)) same read

  pub unfit_of : (out : NoRoomFor) → HasNoTarget tells asked old.files
      → slice_get (option_to_list (grace_no_room asked.new grace) ++ list_without_room asked.new list) 0 ≡ Some out
      → IsUnfit tells asked old.files out
  unfit_of out free first = record {
    free = free;
    value = value_of asked.kind asked.old grace flags list;
    read = read_before;
    refused = refused_listed asked.new asked.old asked.kind grace flags list out ascends first;
  }

  pub converted_of : (entries : List Entry)
      → option_to_list (grace_no_room asked.new grace) ++ list_without_room asked.new list ≡ []
      → entries ≡ kept_list asked.new list
      → IsConverted tells asked old.files (value_of asked.kind asked.new grace 0 entries)
  converted_of entries fits kept = record {
    value = value_of asked.kind asked.old grace flags list;
    read = read_before;
    converts =
        converted_listed asked.new asked.old asked.kind grace flags list ascends fits
        ∙ ap (λ (l : List Entry). Ok (value_of asked.kind asked.new grace 0 l)) (sym kept);
  }

module _ (tells : Bool) (asked : AskedConversion) (old between new : StoreSeen) (grace : Grace) (entries : List Entry)
    (free : HasNoTarget tells asked old.files)
    (converts : IsConverted tells asked old.files (value_of asked.kind asked.new grace 0 entries))
    (ascends : IsStrictlyIncreasing (ids_of entries)) where
  abbrev made : QuotaValue
  made = value_of asked.kind asked.new grace 0 entries

  listed : ids_in made.records ≡ ids_of entries
  listed = ids_listed entries ascends

  pub not_made_of : (fault : ReplaceFault) → old.faults ≤ between.faults
      → IsReplaceFileFault between.faults new.faults (blocks_needed asked.new (ids_of entries)) asked.limit fault
      → IsNotMade tells asked old new fault
  not_made_of fault later cause = record {
    free = free;
    made = made;
    converts = converts;
    cause =
        subst (λ (ids : List ℕ).
        IsReplaceFileFault old.faults new.faults (blocks_needed asked.new ids) asked.limit fault) (sym listed)
        (replace_since old.faults between.faults new.faults (blocks_needed asked.new (ids_of entries)) asked.limit
        fault later cause);
  }

  pub made_of : between.files ≡ old.files → blocks_needed asked.new (ids_of entries) ≤ asked.limit
      → (IsTrue tells → IsReplacedBy asked.to (value_of asked.kind asked.new grace (flags_in asked.new 0) entries)
      (ids_of entries) (built_size asked.new (ids_of entries)) between.files new.files)
      → (IsTrue tells → asked.limit ≤ most_blocks
      → IsView (new.files asked.to) asked.kind (InFormat asked.new)
      (Ok (value_of asked.kind asked.new grace (flags_in asked.new 0) entries)))
      → IsMade tells asked old new
  made_of same few replaced seen = record {
    free = free;
    made = made;
    converts = converts;
    few = subst (λ (ids : List ℕ). blocks_needed asked.new ids ≤ asked.limit) (sym listed) few;
    replaced = λ told.
        subst
        (λ (ids : List ℕ). IsReplacedBy asked.to made ids (built_size asked.new ids) old.files new.files) (sym listed)
        (subst (λ (files : World).
        IsReplacedBy asked.to made (ids_of entries) (built_size asked.new (ids_of entries)) files new.files) same
        (subst (λ (f : ℕ). IsReplacedBy asked.to (value_of asked.kind asked.new grace f entries) (ids_of entries)
        (built_size asked.new (ids_of entries)) between.files new.files)
        (no_flags asked.new) (replaced told)));
    seen = λ told most.
        subst (λ (f : ℕ). IsView (new.files asked.to) asked.kind (InFormat asked.new)
        (Ok (value_of asked.kind asked.new grace f entries))) (no_flags asked.new) (seen told most);
  }

  -- the bytes of a file that was committed
  pub committed_of : (bytes : List ℕ) → blocks_needed asked.new (ids_of entries) ≤ asked.limit
      → (asked.limit ≤ most_blocks
      → IsView (Some bytes) asked.kind (InFormat asked.new)
      (Ok (value_of asked.kind asked.new grace (flags_in asked.new 0) entries)))
      → IsMadeOf tells asked old.files bytes
  committed_of bytes few seen = record {
    free = free;
    made = made;
    converts = converts;
    few = subst (λ (ids : List ℕ). blocks_needed asked.new ids ≤ asked.limit) (sym listed) few;
    seen = λ most. subst
        (λ (f : ℕ). IsView (Some bytes) asked.kind (InFormat asked.new)
        (Ok (value_of asked.kind asked.new grace f entries))) (no_flags asked.new) (seen most);
  }
