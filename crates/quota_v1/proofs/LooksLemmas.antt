-- Look-ups in an opened flat file, and changes of it that read a record first.
use Rattle.std.proofs.Common.{◌≡◌, ℕ, ◌+◌, ◌≤◌, Bool, true, false, IsTrue, List, length, None, Option, Some, Ok, Err}
use Rattle.std.proofs.Common.{refl, sym, ap, subst, ◌∙◌, arith}
use Rattle.std.specs.Prelude.{not}
use Rattle.outside.specs.Frame.{OnlyReads}
use Rattle.outside.specs.Seen.{StoreSeen}
use Rattle.outside.specs.World.{World}
use Rattle.quota_types.specs.declared.file_kind.Format.{Format}
use Rattle.quota_types.specs.declared.record.Grace.{Grace}
use Rattle.opened_file.specs.Changes.{Changes}
use Rattle.opened_file.specs.FileChange.{Remove}
use Rattle.opened_file.specs.FileUse.{seen_in}
use Rattle.opened_file.specs.LooksUp.{LooksUp}
use Rattle.opened_file.specs.QuotaFile.{CountsRefusal, IfDamage, IsLookupFault, is_store_fault}
use Rattle.quota_value.specs.QuotaValue.{QuotaValue}
use Rattle.opened_file.specs.declared.file_use.FileUse.{FileUse}
use Rattle.opened_file.specs.declared.quota_file.FileFault.{FileFault}
use Rattle.opened_file.specs.declared.quota_file.FileFault.TheVariants.{Store, Damage, Full, Memory}
use Rattle.opened_file.proofs.ChangesLemmas.{changes-idle, changes-refused, changes-unwritten}
use Rattle.quota_v1.specs.FlatCalls.{MayRefuse}
use Rattle.quota_v1.specs.FlatFile.{flat_record}
use Rattle.quota_v1.specs.Opened.{HoldsFlat, IsNamedDefect, flat_at, flat_laws}
use Rattle.quota_v1.specs.Slot.{IsRecordFault}
use Rattle.quota_v1.specs.Window.{HoldsWindow}
use Rattle.quota_v1.specs.declared.window.Window.{Window}
use Rattle.quota_v1.proofs.MakesLemmas.{value_absent}
use Rattle.quota_v1.proofs.RecordLemmas.{stands_absent}

-- a window that knows nothing holds
pub forgotten : (format : Format) (window : Window) (file : List ℕ) → window.known ≡ false
    → HoldsWindow format file window
forgotten format window file none known = absurd (let no : true ≡ false = sym known ∙ none in cc)

module _ (tells : Bool) (old new : StoreSeen) (name : List ℕ) (opened : FileUse) (layout : Format) (len : ℕ)
    (times : Grace) (window window' : Window)
    (on : (value : QuotaValue) (held : HoldsFlat tells (old.files name) layout len times window value)
    → HoldsWindow layout held.file window') where
  -- what was held is held where nothing was written
  pub still_held : new.files ≡ old.files → (value : QuotaValue)
      → HoldsFlat tells (old.files name) layout len times window value
      → HoldsFlat tells (new.files name) layout len times window' value
  still_held same value held = record {
    told = held.told;
    file = held.file;
    there = ap (λ (files : World). files name) same ∙ held.there;
    few = held.few;
    stands = held.stands;
    agrees = record {
      long = held.agrees.long;
      block_time = held.agrees.block_time;
      inode_time = held.agrees.inode_time;
      next = on value held;
    };
  }

  -- a look-up was done
  pub looks_done : {T : Type 0} (found : T) (most : ℕ) → OnlyReads true name old new → new.reads ≤ old.reads + most
      → LooksUp {T = T} Some (flat_laws tells) (flat_at tells old name opened layout len times window)
      (flat_at tells new name opened layout len times window') most (Ok found)
  looks_done found most read few = record {
    refused = tt;
    may = tt;
    stays = still_held read.files;
    leaves = read;
    same = refl;
    counted = tt;
    reads = few;
  }

  -- it was refused, and the refusal was counted
  pub looks_failed : {T : Type 0} (opened' : FileUse) (fault fault' : FileFault) (most : ℕ) → fault' ≡ fault
      → OnlyReads false name old new → new.reads ≤ old.reads + most
      → IsLookupFault old.faults new.faults (HoldsFlat tells (old.files name) layout len times window) fault
      → MayRefuse fault
      → ((any : List ℕ) (format : Format) (limit : ℕ)
      → CountsRefusal true (seen_in opened any format limit) (seen_in opened' any format limit))
      → LooksUp {T = T} Some (flat_laws tells) (flat_at tells old name opened layout len times window)
      (flat_at tells new name opened' layout len times window') most (Err fault')
  looks_failed {T} opened' fault fault' most is read few refused may counted =
      subst (λ (f : FileFault). LooksUp {T = T} Some (flat_laws tells)
      (flat_at tells old name opened layout len times window) (flat_at tells new name opened' layout len times window')
      most (Err f)) (sym is)
      (record {
        refused = refused;
        may = may;
        stays = still_held read.files;
        leaves = read;
        same = tt;
        counted = counted name layout 0;
        reads = few;
      })

  -- a removal of no record
  pub removes_none : (id : ℕ) (told : Unit {0}) → OnlyReads true name old new → new.reads ≤ old.reads + 1
      → (IsTrue tells → (file : List ℕ) → old.files name ≡ Some file → length file ≡ len
      → None ≡ flat_record layout file id)
      → Changes (Remove id) (flat_laws tells) (flat_at tells old name opened layout len times window)
      (flat_at tells new name opened layout len times window') (Ok told)
  removes_none id told read few none =
      changes-idle (Remove id) (flat_laws tells) (flat_at tells old name opened layout len times window)
      (flat_at tells new name opened layout len times window') told
      (λ value held.
      value_absent layout held.file value id (none held.told held.file held.there (sym held.agrees.long)) held.stands)
      (λ value held. record {
        told = held.told;
        file = held.file;
        there = ap (λ (files : World). files name) read.files ∙ held.there;
        few = held.few;
        stands = stands_absent layout held.file value id held.stands
            (sym (none held.told held.file held.there (sym held.agrees.long)));
        agrees = record {
          long = held.agrees.long;
          block_time = held.agrees.block_time;
          inode_time = held.agrees.inode_time;
          next = on value held;
        };
      })
      read refl (record { reads = few; writes = omega (arith, read.writes) })

module _ (tells : Bool) (old new : StoreSeen) (name : List ℕ) (layout : Format) (len : ℕ) (times : Grace)
    (window : Window) where
  -- a record that could not be read is not one of a file that is held
  pub record_fault : (fault : FileFault)
      → IsRecordFault old.faults new.faults (λ damage. IsNamedDefect tells (old.files name) layout damage) fault
      → IsLookupFault old.faults new.faults (HoldsFlat tells (old.files name) layout len times window) fault
  record_fault Store refused = refused
  record_fault (Damage damage) refused = λ value held.
      (subst (λ (n : Option (List ℕ)). IsNamedDefect tells n layout damage) held.there refused held.told).cut
      held.stands.whole
  record_fault (Full blocks limit) refused = refused
  record_fault Memory refused = refused

  pub record_damage : (fault : FileFault)
      → IsRecordFault old.faults new.faults (λ damage. IsNamedDefect tells (old.files name) layout damage) fault
      → IfDamage fault (IsNamedDefect tells (old.files name) layout)
  record_damage Store refused = tt
  record_damage (Damage damage) refused = refused
  record_damage (Full blocks limit) refused = tt
  record_damage Memory refused = tt

-- a removal that was refused before anything was written
pub removes_refused : (tells : Bool) (old new : StoreSeen) (name : List ℕ) (opened opened' : FileUse) (layout : Format)
    (len : ℕ) (times : Grace) (window window' : Window) (id : ℕ) (fault fault' : FileFault)
    → ((value : QuotaValue) (held : HoldsFlat tells (old.files name) layout len times window value)
    → HoldsWindow layout held.file window')
    → fault' ≡ fault → OnlyReads false name old new → new.reads ≤ old.reads + 1
    → IsRecordFault old.faults new.faults (λ damage. IsNamedDefect tells (old.files name) layout damage) fault
    → MayRefuse fault
    → ((any : List ℕ) (format : Format) (limit : ℕ)
    → CountsRefusal (not (is_store_fault fault)) (seen_in opened any format limit) (seen_in opened' any format limit))
    → Changes (Remove id) (flat_laws tells) (flat_at tells old name opened layout len times window)
    (flat_at tells new name opened' layout len times window') (Err fault')
removes_refused tells old new name opened opened' layout len times window window' id Store fault' on is read few
    refused may counted =
    subst (λ (f : FileFault). Changes (Remove id) (flat_laws tells)
    (flat_at tells old name opened layout len times window) (flat_at tells new name opened' layout len times window')
    (Err f)) (sym is)
    (changes-unwritten (Remove id) (flat_laws tells) (flat_at tells old name opened layout len times window)
    (flat_at tells new name opened' layout len times window')
    refused tt (counted name layout 0) read (record { reads = few; writes = omega (arith, read.writes) }))
removes_refused tells old new name opened opened' layout len times window window' id (Damage damage) fault' on is read
    few refused may counted =
    let none = record_fault tells old new name layout len times window (Damage damage) refused in
    subst (λ (f : FileFault). Changes (Remove id) (flat_laws tells)
    (flat_at tells old name opened layout len times window) (flat_at tells new name opened' layout len times window')
    (Err f)) (sym is)
    (changes-refused (Remove id) (flat_laws tells) (flat_at tells old name opened layout len times window)
    (flat_at tells new name opened' layout len times window') (Damage damage) refl
    none may tt (λ value held. absurd (none value held)) (counted name layout 0)
    (λ value held. absurd (none value held)) read
    (record { reads = few; writes = omega (arith, read.writes) }))
removes_refused tells old new name opened opened' layout len times window window' id (Full blocks limit) fault' on is
    read few refused may counted = absurd refused
removes_refused tells old new name opened opened' layout len times window window' id Memory fault' on is read few
    refused may counted = absurd refused
