-- A flat file of which one record was written for a change of it.
use Rattle.std.proofs.Common.{◌≡◌, ◌⊎◌, IsTrue, ℕ, ◌+◌, ◌≤◌, ◌%◌, max, None, Bool, true, false, List, [], length}
use Rattle.std.proofs.Common.{Option, Some, Ok, Err, inl, inr, refl, sym, ap, subst, ◌∙◌, arith}
use Rattle.std.specs.Prelude.{IsSomeAnd}
use Rattle.file_blocks.specs.Block.{bytes_of}
use Rattle.outside.specs.Seen.{StoreSeen}
use Rattle.outside.specs.World.{World}
use Rattle.outside.proofs.WorldLemmas.{with_file-at}
use Rattle.quota_types.specs.declared.file_kind.Format.{Format}
use Rattle.quota_types.specs.Format.{is_flat, record_size}
use Rattle.quota_types.specs.declared.record.Grace.{Grace}
use Rattle.quota_types.specs.declared.record.Rec.{Rec}
use Rattle.quota_types.specs.Kept.{IsKept}
use Rattle.quota_types.specs.Range.{grace_unfit}
use Rattle.quota_types.specs.Rec.{IsNull}
use Rattle.opened_file.specs.Changes.{Changes, FileAt}
use Rattle.opened_file.specs.FileChange.{FileChange, Put, Remove, SetGrace, changed_value}
use Rattle.opened_file.specs.ValueEdits.{has_nothing_to_do}
use Rattle.opened_file.specs.FileUse.{seen_in}
use Rattle.opened_file.specs.QuotaFile.{ChangesBlocks, CountsRefusal, StaysInPlace, WantsNoMemory}
use Rattle.quota_value.specs.QuotaValue.{QuotaValue}
use Rattle.opened_file.specs.declared.file_use.FileUse.{FileUse}
use Rattle.opened_file.specs.declared.quota_file.FileFault.{FileFault}
use Rattle.opened_file.specs.declared.quota_file.FileFault.TheVariants.{Store}
use Rattle.opened_file.proofs.ChangesLemmas.{IsWanted, changes-done, changes-torn}
use Rattle.quota_v1.specs.Change.{FitsFlat, FlatChanged, FlatGraced, WritesFlat}
use Rattle.quota_v1.specs.FlatCalls.{IsFlatChange}
use Rattle.quota_v1.specs.FlatFile.{FlatStandsFor, flat_record, unless_zeros}
use Rattle.quota_v1.specs.Opened.{AgreesFlat, HoldsFlat, flat_at, flat_laws}
use Rattle.quota_v1.specs.Slot.{ChangesFile, MakesOne, PutsRecord}
use Rattle.quota_v1.specs.declared.window.Window.{Window}
use Rattle.quota_v1.specs.Place.{flat_limit, record_start}
use Rattle.quota_v1.proofs.PlaceLemmas.{end_within, id_fits, start_of_first, start_of_next}
use Rattle.quota_v1.proofs.LooksLemmas.{forgotten}
use Rattle.quota_v1.proofs.MakesLemmas.{flat_graced, flat_put, flat_removed}

-- What was written is what the change makes of a file with which what was kept agreed, and what is kept then agrees
-- with it.
pub record IsRight (format : Format) (change : FileChange) (len : ℕ) (times : Grace) (window : Window)
    (before after : List ℕ) : Type 0 where
  pub change_of : IsFlatChange format change before after
  pub few : length after ≤ flat_limit format
  pub agrees : AgreesFlat format len times window after

-- the named file once it was made so
named_after : (so : (before after : List ℕ) → Type 0) (name : List ℕ) (old new : World)
    (made : MakesOne so name old new) → new name ≡ Some made.after
named_after so name old new made =
    ap (λ (files : World). files name) made.files ∙ with_file-at old name (Some made.after)

-- it is related so to the file that was there
made_of : (so : (before after : List ℕ) → Type 0) (name : List ℕ) (old new : World) (file : List ℕ)
    (made : MakesOne so name old new) → old name ≡ Some file → so file made.after
made_of so name old new file made is = subst (λ (n : Option (List ℕ)). so (bytes_of n) made.after) is made.made

-- no block of a file has changed that is as it was
few_same : (file : List ℕ) → ChangesBlocks 12 file file
few_same file = record {
  numbers = [];
  few = omega arith;
  others = λ number none. refl;
  longer = omega arith;
  within = λ blocks below. omega arith;
}

few_named : (so : (before after : List ℕ) → Type 0) (name : List ℕ) (old new : World) → MakesOne so name old new
    → ChangesBlocks 12 (bytes_of (old name)) (bytes_of (new name))
few_named so name old new made =
    subst (λ (n : Option (List ℕ)). ChangesBlocks 12 (bytes_of (old name)) (bytes_of n))
    (sym (named_after so name old new made)) made.few

few_unless : (so : (before after : List ℕ) → Type 0) (name : List ℕ) (old new : World)
    → (new ≡ old) ⊎ MakesOne so name old new → ChangesBlocks 12 (bytes_of (old name)) (bytes_of (new name))
few_unless so name old new (inl same) =
    subst (λ (files : World). ChangesBlocks 12 (bytes_of (old name)) (bytes_of (files name))) (sym same)
    (few_same (bytes_of (old name)))
few_unless so name old new (inr made) = few_named so name old new made

-- a change that was made in place
pub stays_done : {E : Type 0} (tells : Bool) (so : (before after : List ℕ) → Type 0) (name : List ℕ)
    (old new : StoreSeen) (told told' : Unit {0}) → ChangesFile {E = E} tells so name old new (Ok told)
    → StaysInPlace tells name old.files new.files (Ok told')
stays_done tells so name old new told told' changes = record {
  few = λ tell. few_named so name old.files new.files (changes.changed tell);
  others = changes.others;
  no_memory = tt;
}

pub stays_failed : {E : Type 0} (tells : Bool) (so : (before after : List ℕ) → Type 0) (name : List ℕ)
    (old new : StoreSeen) (cause : E) (fault : FileFault) → fault ≡ Store
    → ChangesFile tells so name old new (Err cause)
    → StaysInPlace tells name old.files new.files (Err fault)
stays_failed tells so name old new cause fault is changes = record {
  few = λ tell. few_unless so name old.files new.files (changes.torn tell);
  others = changes.others;
  no_memory = subst WantsNoMemory (sym is) tt;
}

module _ (change : FileChange) (tells : Bool) (so : (before after : List ℕ) → Type 0) (old new : StoreSeen)
    (name : List ℕ) (opened : FileUse) (layout : Format) (len len' : ℕ) (times times' : Grace)
    (window window' : Window) where
  abbrev before : FileAt
  before = flat_at tells old name opened layout len times window

  -- something is to be done at each value that is held
  abbrev pub IsBusy : Type 0
  IsBusy =
      (value : QuotaValue) → HoldsFlat tells (old.files name) layout len times window value
      → has_nothing_to_do change value ≡ false

  -- what is written is right at each value that is held
  abbrev pub WritesRight : Type 0
  WritesRight =
      (value : QuotaValue) (held : HoldsFlat tells (old.files name) layout len times window value) (after : List ℕ)
      → so held.file after → IsRight layout change len' times' window' held.file after

  right_of : WritesRight
      → (value : QuotaValue) (held : HoldsFlat tells (old.files name) layout len times window value)
      (made : MakesOne so name old.files new.files)
      → IsRight layout change len' times' window' held.file made.after
  right_of right value held made =
      right value held made.after (made_of so name old.files new.files held.file made held.there)

  makes_flat : WritesRight → (value : QuotaValue) → HoldsFlat tells (old.files name) layout len times window value
      → (made : MakesOne so name old.files new.files)
      → ((other : List ℕ) → ¬ (other ≡ name) → new.files other ≡ old.files other)
      → WritesFlat (FitsFlat layout (FlatChanged layout change)) name old.files new.files
  makes_flat right value held made others = record {
    named =
        subst (λ (n : Option (List ℕ)). IsSomeAnd n
        (λ before. IsSomeAnd (new.files name) (FitsFlat layout (FlatChanged layout change) before))) (sym held.there)
        (subst (λ (n : Option (List ℕ)). IsSomeAnd n (FitsFlat layout (FlatChanged layout change) held.file))
        (sym (named_after so name old.files new.files made))
        ((right_of right value held made).change_of.changed, (right_of right value held made).few));
    others = others;
  }

  wanted : IsBusy → IsWanted change (flat_laws tells) before
  wanted busy = record { busy = busy; room = λ needs value blocks limit held lacks. lacks }

  -- the named file, once it was made so, stands for the changed value
  pub flat_stands : WritesRight → (IsTrue tells → MakesOne so name old.files new.files) → (value : QuotaValue)
      → HoldsFlat tells (old.files name) layout len times window value
      → IsSomeAnd (new.files name) (λ bytes. FlatStandsFor layout bytes (changed_value change value))
  flat_stands right made value held =
      let after = made held.told in
      subst (λ (n : Option (List ℕ)). IsSomeAnd n (λ bytes. FlatStandsFor layout bytes (changed_value change value)))
      (sym (named_after so name old.files new.files after))
      ((right_of right value held after).change_of.stands value held.stands)

  -- it was done
  pub flat_done : {E : Type 0} (told told' : Unit {0}) → ChangesFile {E = E} tells so name old new (Ok told)
      → IsBusy → WritesRight
      → Changes change (flat_laws tells) before (flat_at tells new name opened layout len' times' window') (Ok told')
  flat_done told told' changes busy right =
      changes-done change (flat_laws tells) before (flat_at tells new name opened layout len' times' window')
      told' (wanted busy)
      (λ value held.
      let made = changes.changed held.told in
      let is = right_of right value held made in
      record {
        told = held.told;
        file = made.after;
        there = named_after so name old.files new.files made;
        few = is.few;
        stands = is.change_of.stands value held.stands;
        agrees = is.agrees;
      })
      (λ value held. makes_flat right value held (changes.changed held.told) changes.others)
      (λ value held. changes.writes)
      changes.synced refl changes.leaves (record { reads = changes.reads; writes = changes.writes })

  -- the store failed
  pub flat_torn : {E : Type 0} (opened' : FileUse) (cause : E) (fault : FileFault) (window'' : Window) → fault ≡ Store
      → ChangesFile tells so name old new (Err cause) → IsBusy → WritesRight
      → ((any : List ℕ) (format : Format) (limit : ℕ)
      → CountsRefusal false (seen_in opened any format limit) (seen_in opened' any format limit))
      → Changes change (flat_laws tells) before (flat_at tells new name opened' layout len times window'') (Err fault)
  flat_torn opened' cause fault window'' is changes busy right counted =
      subst (λ (f : FileFault). Changes change (flat_laws tells) before
      (flat_at tells new name opened' layout len times window'') (Err f)) (sym is)
      (changes-torn change (flat_laws tells) before (flat_at tells new name opened' layout len times window'')
      (wanted busy) changes.cause tt (counted name layout 0)
      (record {
        left = λ value held. elim (changes.torn held.told) [
          | inl same ↦ inl (ap (λ (files : World). files name) same)
          | inr made ↦ inr (record {
            after = new.files;
            made = makes_flat right value held made changes.others;
            stands =
                subst (λ (n : Option (List ℕ)). IsSomeAnd n
                (λ bytes. FlatStandsFor layout bytes (changed_value change value)))
                (sym (named_after so name old.files new.files made))
                ((right_of right value held made).change_of.stands value held.stands);
            left = inr refl;
          })
        ];
        between = λ told. inr (new.files name, inr refl);
      })
      changes.leaves (record { reads = changes.reads; writes = changes.writes }))

-- a record that is put is right
pub put_right : (format : Format) → is_flat format ≡ true
    → (id : ℕ) (rec : Rec) (len len' : ℕ) (times : Grace) (window window' : Window) (before after : List ℕ)
    → IsKept format id rec → ¬ IsNull rec
    → len' ≡ max len (record_start format (id + 1)) → window'.known ≡ false → length before ≤ flat_limit format
    → length before % record_size format ≡ 0 → AgreesFlat format len times window before
    → PutsRecord format id rec times before after → IsRight format (Put id rec) len' times window' before after
put_right format flat id rec len len' times window window' before after kept some long forgets few whole agrees puts =
    let is = flat_put format flat before after id rec times whole agrees.block_time agrees.inode_time puts some in
    record {
      change_of = is;
      few = omega (arith, puts.long, few, end_within format id (id_fits format flat id rec kept.fits));
      agrees = record {
        long = omega (arith, puts.long, long, agrees.long, start_of_next format id);
        block_time = is.changed.block_time ∙ agrees.block_time;
        inode_time = is.changed.inode_time ∙ agrees.inode_time;
        next = forgotten format window' after forgets;
      };
    }

-- a record of zeros that takes the place of one is right
pub remove_right : (format : Format) → is_flat format ≡ true
    → (id : ℕ) (rec found : Rec) (len : ℕ) (times : Grace) (window window' : Window) (before after : List ℕ)
    → unless_zeros rec ≡ None
    → Some found ≡ flat_record format before id → window'.known ≡ false → length before ≤ flat_limit format
    → length before % record_size format ≡ 0 → AgreesFlat format len times window before
    → PutsRecord format id rec times before after → IsRight format (Remove id) len times window' before after
remove_right format flat id rec found len times window window' before after none there forgets few whole agrees puts =
    let is = flat_removed format flat before after id rec times whole agrees.block_time agrees.inode_time puts
    found there none in
    record {
      change_of = is;
      few = omega (arith, is.changed.long, few);
      agrees = record {
        long = omega (arith, is.changed.long, agrees.long);
        block_time = is.changed.block_time ∙ agrees.block_time;
        inode_time = is.changed.inode_time ∙ agrees.inode_time;
        next = forgotten format window' after forgets;
      };
    }

-- and so are grace periods that are set
pub grace_right : (format : Format) → is_flat format ≡ true
    → (grace : Grace) (len len' : ℕ) (times : Grace) (window window' : Window) (before after : List ℕ)
    → grace_unfit format grace ≡ None
    → len' ≡ max len (record_size format) → window'.known ≡ false → length before ≤ flat_limit format
    → length before % record_size format ≡ 0 → AgreesFlat format len times window before
    → FlatGraced format grace before after → IsRight format (SetGrace grace) len' grace window' before after
grace_right format flat grace len len' times window window' before after fits long forgets few whole agrees graced =
    let first = start_of_first format in
    let next = start_of_next format 0 in
    record {
      change_of = flat_graced format flat before after grace whole graced fits;
      few = omega (arith, graced.long, few, next, end_within format 0 (omega arith));
      agrees = record {
        long = omega (arith, graced.long, long, agrees.long, first, next);
        block_time = graced.block_time;
        inode_time = graced.inode_time;
        next = forgotten format window' after forgets;
      };
    }
