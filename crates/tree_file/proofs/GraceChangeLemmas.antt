-- Grace periods that were set in an opened tree file: what the file is then, and what it is where that failed.
use Rattle.std.proofs.Common.{◌≡◌, ◌⊎◌, ℕ, ◌+◌, ◌≤◌, Bool, true, false, IsTrue, List, [], Option, Some, Result, Ok, Err}
use Rattle.std.proofs.Common.{OnOk, OnErr, inl, inr, refl, sym, ap, subst, ◌∙◌, arith}
use Rattle.std.specs.Prelude.{IsSomeAnd}
use Rattle.std.proofs.lemmas.Bool.{false≢true}
use Rattle.file_blocks.specs.Block.{bytes_of}
use Rattle.outside.specs.Count.{Rose}
use Rattle.outside.specs.ManyCalls.{IsSynced}
use Rattle.opened_file.specs.EditsOne.{EditsOne}
use Rattle.outside.specs.Seen.{StoreSeen}
use Rattle.outside.specs.World.{KeepsOthers, World}
use Rattle.outside.proofs.WorldLemmas.{KeepsOthers-with_file, with_file-at}
use Rattle.entry_codec.specs.Header.{header_of}
use Rattle.entry_codec.specs.declared.header.Header.{Header}
use Rattle.quota_types.specs.declared.record.Grace.{Grace}
use Rattle.opened_file.specs.Changes.{Changes, FileAt}
use Rattle.opened_file.specs.FileChange.{SetGrace}
use Rattle.opened_file.specs.ValueEdits.{IsLeft}
use Rattle.opened_file.specs.FileUse.{seen_in}
use Rattle.opened_file.specs.QuotaFile.{CountsRefusal}
use Rattle.quota_value.specs.QuotaValue.{QuotaValue, Records, with_grace}
use Rattle.opened_file.specs.declared.file_use.FileUse.{FileUse}
use Rattle.opened_file.specs.declared.quota_file.FileFault.{FileFault}
use Rattle.opened_file.specs.declared.quota_file.FileFault.TheVariants.{Store}
use Rattle.opened_file.proofs.ChangesLemmas.{IsWanted, changes-done, changes-torn}
use Rattle.quota_pages.specs.Flushed.{IsPartlyFlushed, flushed_files}
use Rattle.quota_pages.specs.Page.{IsClean, Page, is_lent, shown}
use Rattle.quota_pages.specs.Pages.{name_of, pages_of}
use Rattle.quota_pages.specs.Used.{IsKnown, file_under, shown_over}
use Rattle.quota_pages.specs.declared.page_buffer.Pages.{Pages}
use Rattle.quota_pages.proofs.PageLemmas.{IsClean-nil, shown-nil}
use Rattle.quota_pages.proofs.UsedLemmas.{same_file}
use Rattle.tree_meaning.specs.TreeFile.{TreeStandsFor}
use Rattle.tree_file.specs.Coming.{HoldsComing}
use Rattle.tree_file.specs.GraceChange.{GracesFile, IsGraceLeft}
use Rattle.tree_file.specs.Opened.{HoldsTree}
use Rattle.tree_file.specs.TreeChange.{IsGraced, MakesFew, TreeLeaves, WritesInPlace}
use Rattle.tree_file.specs.TreeCalls.{tree_at, tree_laws}
use Rattle.tree_file.specs.declared.coming.Coming.{Coming}
use Rattle.tree_file.proofs.GracedLemmas.{graced_header, graced_of, graced_stands}
use Rattle.tree_file.proofs.TornLemmas.{flushed_some, leaves_flushed, some_lent}

-- what follows where a call was done, and where it failed
pub ok_then : {T E P Q : Type 0} (result : Result T E) → (P → Q) → OnOk result P → OnOk result Q
ok_then (Ok value) then fact = then fact
ok_then (Err fault) then fact = tt

pub err_then : {T E P Q : Type 0} (result : Result T E) → (P → Q) → OnErr result P → OnErr result Q
err_then (Ok value) then fact = tt
err_then (Err fault) then fact = then fact

-- an empty buffer is known where the store tells its files
pub known_empty : (tells : Bool) (seen : StoreSeen) (buffer : Pages) → pages_of buffer ≡ [] → IsTrue tells
    → IsKnown tells seen buffer
known_empty tells seen buffer empty told = record {
  told = told;
  clean = subst (λ (pages : List Page). IsClean pages (file_under seen buffer)) (sym empty)
      (IsClean-nil (file_under seen buffer));
}

-- the first block was lent for writing, over an empty buffer, and the grace periods were set in what is shown
module _ (grace : Grace) (before between : StoreSeen) (old lent : Pages) (empty : pages_of old ≡ [])
    (name : name_of lent ≡ name_of old) (files : between.files ≡ before.files)
    (marked : is_lent (pages_of lent) 0 ≡ true)
    (graced : IsGraced grace (shown_over before old) (shown_over between lent)) where
  abbrev made : World
  made = flushed_files before.files (name_of old) (pages_of lent)

  same_made : flushed_files between.files (name_of lent) (pages_of lent) ≡ made
  same_made =
      ap (λ (f : World). flushed_files f (name_of lent) (pages_of lent)) files
      ∙ ap (λ (n : List ℕ). flushed_files before.files n (pages_of lent)) name

  graced_shown : IsGraced grace (file_under before old) (shown (pages_of lent) (file_under before old))
  graced_shown =
      subst (λ (file : List ℕ). IsGraced grace file (shown (pages_of lent) (file_under before old)))
      (ap (λ (pages : List Page). shown pages (file_under before old)) empty ∙ shown-nil (file_under before old))
      (subst (λ (file : List ℕ). IsGraced grace (shown_over before old) file)
      (ap (shown (pages_of lent)) (same_file before between old lent name files)) graced)

  graces_made : GracesFile grace (name_of old) before.files made
  graces_made = record {
    after = shown (pages_of lent) (file_under before old);
    files = flushed_some before.files (name_of old) (pages_of lent) (some_lent (pages_of lent) 0 marked);
    graced = graced_shown;
  }

  -- the file once that was flushed
  pub graces_flushed : (new : World) → new ≡ flushed_files between.files (name_of lent) (pages_of lent)
      → GracesFile grace (name_of old) before.files new
  graces_flushed new is = subst (GracesFile grace (name_of old) before.files) (sym (is ∙ same_made)) graces_made

  -- the file where a flush failed
  pub grace_left : (new : World) → IsPartlyFlushed (name_of lent) (pages_of lent) between.files new
      → IsGraceLeft grace (name_of old) before.files new
  grace_left new partly =
      inr (
        made,
        graces_made,
        subst
            (λ (n : List ℕ). TreeLeaves (before.files n) (flushed_files before.files n (pages_of lent) n) (new n)) name
            (leaves_flushed lent before.files new
            (subst (λ (f : World). IsPartlyFlushed (name_of lent) (pages_of lent) f new) files partly)),
      )

-- the bytes of the file, before and then
module _ (grace : Grace) (name : List ℕ) (old new : World) (file : List ℕ) (there : old name ≡ Some file)
    (graces : GracesFile grace name old new) where
  named : new name ≡ Some graces.after
  named = ap (λ (files : World). files name) graces.files ∙ with_file-at old name (Some graces.after)

  graced_file : IsGraced grace file graces.after
  graced_file = subst (λ (bytes : List ℕ). IsGraced grace bytes graces.after) (ap bytes_of there) graces.graced

  in_place : (limit : ℕ) → (header_of file).blocks ≤ limit
      → WritesInPlace (MakesFew limit (IsGraced grace)) name old new
  in_place limit few = record {
    named =
        subst (λ (before : Option (List ℕ)).
        IsSomeAnd before (λ bytes. IsSomeAnd (new name) (MakesFew limit (IsGraced grace) bytes))) (sym there)
        (subst (λ (after : Option (List ℕ)). IsSomeAnd after (MakesFew limit (IsGraced grace) file)) (sym named) (
          graced_file,
          subst (λ (blocks : ℕ). blocks ≤ limit) (sym (graced_header file graces.after graced_file.others).blocks) few,
        ));
    others = subst (KeepsOthers name old) (sym graces.files) (KeepsOthers-with_file old name (Some graces.after));
  }

  -- it stands for the value with these grace periods
  pub stands_graced : (value : QuotaValue) → TreeStandsFor file value
      → IsSomeAnd (new name) (λ bytes. TreeStandsFor bytes (with_grace value grace))
  stands_graced value stands =
      subst (λ (after : Option (List ℕ)). IsSomeAnd after (λ bytes. TreeStandsFor bytes (with_grace value grace)))
      (sym named) (graced_stands grace file graces.after value graced_file stands)

-- the opened file holds the value with these grace periods, and of the entries that come next none
pub holds_graced : (tells : Bool) (grace : Grace) (name : List ℕ) (old new : World) (header : Header)
    (coming none : Coming) (limit : ℕ) (value : QuotaValue)
    → (IsTrue tells → GracesFile grace name old new) → ((records : Records) → HoldsComing records none)
    → HoldsTree tells (old name) header coming limit value
    → HoldsTree tells (new name) (record header { grace = grace }) none limit (with_grace value grace)
holds_graced tells grace name old new header coming none limit value done nothing holds =
    let graces : GracesFile grace name old new = done holds.told in
    let graced : IsGraced grace holds.file graces.after =
    graced_file grace name old new holds.file holds.there graces in
    record {
      told = holds.told;
      file = graces.after;
      there = named grace name old new holds.file holds.there graces;
      stands = graced_stands grace holds.file graces.after value graced holds.stands;
      few = subst (λ (blocks : ℕ). blocks ≤ limit)
          (sym (graced_header holds.file graces.after graced.others).blocks) holds.few;
      same = graced_of grace holds.file graces.after header graced holds.same;
      next = nothing value.records;
    }

-- what was made of the files
pub makes_graced : (tells : Bool) (grace : Grace) (name : List ℕ) (old new : World) (header : Header) (coming : Coming)
    (limit : ℕ) (value : QuotaValue)
    → (IsTrue tells → GracesFile grace name old new) → HoldsTree tells (old name) header coming limit value
    → WritesInPlace (MakesFew limit (IsGraced grace)) name old new
makes_graced tells grace name old new header coming limit value done holds =
    in_place grace name old new holds.file holds.there (done holds.told) limit holds.few

-- what is left of the file where that failed
pub left_graced : (tells : Bool) (grace : Grace) (name : List ℕ) (old new : World) (header : Header) (coming : Coming)
    (limit : ℕ) (value : QuotaValue)
    → (IsTrue tells → IsGraceLeft grace name old new) → HoldsTree tells (old name) header coming limit value
    → (new name ≡ old name)
    ⊎ IsLeft (WritesInPlace (MakesFew limit (IsGraced grace)) name)
    (λ bytes. TreeStandsFor bytes (with_grace value grace)) TreeLeaves name old new
left_graced tells grace name old new header coming limit value torn holds =
    elim (torn holds.told) [
      | inl same ↦ inl same
      | inr left ↦ inr (record {
        after = left.0;
        made = in_place grace name old left.0 holds.file holds.there left.1 limit holds.few;
        stands = stands_graced grace name old left.0 holds.file holds.there left.1 value holds.stands;
        left = left.2;
      })
    ]

-- grace periods are set of every file that holds a value, and no file lacks room for them
wanted_grace : (tells : Bool) (grace : Grace) (old : FileAt) → IsWanted (SetGrace grace) (tree_laws tells) old
wanted_grace tells grace old = record { busy = λ value holds. refl; room = λ needs. absurd (false≢true needs) }

-- grace periods were set
pub changes_graced : (tells : Bool) (grace : Grace) (one other : List ℕ) (opened : FileUse) (header : Header)
    (coming none : Coming) (limit : ℕ) (before now : StoreSeen) (told : Unit {0}) → other ≡ one
    → (IsTrue tells → GracesFile grace one before.files now.files) → (IsTrue tells → IsSynced one before now)
    → EditsOne one before now
    → now.reads ≤ before.reads + 1 → now.writes ≤ before.writes + 1 → ((records : Records) → HoldsComing records none)
    → Changes (SetGrace grace) (tree_laws tells) (tree_at tells one opened header coming limit before)
    (tree_at tells other opened (record header { grace = grace }) none limit now) (Ok told)
changes_graced tells grace one other opened header coming none limit before now told name done synced leaves reads
    writes nothing =
    changes-done (SetGrace grace) (tree_laws tells) (tree_at tells one opened header coming limit before)
    (tree_at tells other opened (record header { grace = grace }) none limit now) told
    (wanted_grace tells grace (tree_at tells one opened header coming limit before))
    (λ value holds.
    subst (λ (n : List ℕ).
    HoldsTree tells (now.files n) (record header { grace = grace }) none limit (with_grace value grace)) (sym name)
    (holds_graced tells grace one before.files now.files header coming none limit value done nothing holds))
    (λ value holds. makes_graced tells grace one before.files now.files header coming limit value done holds)
    (λ value holds. writes)
    synced (ap (λ (n : List ℕ). seen_in opened n header.format limit) name) leaves
    (record { reads = omega (arith, reads); writes = omega (arith, writes) })

-- the store failed
pub changes_not_graced : (tells : Bool) (grace : Grace) (one other : List ℕ) (opened after : FileUse) (header : Header)
    (coming : Coming) (limit : ℕ) (before now : StoreSeen) (fault : FileFault) → fault ≡ Store → other ≡ one
    → (IsTrue tells → IsGraceLeft grace one before.files now.files) → Rose before.faults now.faults
    → EditsOne one before now
    → now.reads ≤ before.reads + 1 → now.writes ≤ before.writes + 1
    → ((name : List ℕ)
    → CountsRefusal false (seen_in opened name header.format limit) (seen_in after name header.format limit))
    → Changes (SetGrace grace) (tree_laws tells) (tree_at tells one opened header coming limit before)
    (tree_at tells other after header coming limit now) (Err fault)
changes_not_graced tells grace one other opened after header coming limit before now fault failed name torn rose leaves
    reads writes counted =
    subst (λ (f : FileFault). Changes (SetGrace grace) (tree_laws tells)
    (tree_at tells one opened header coming limit before) (tree_at tells other after header coming limit now) (Err f))
    (sym failed)
    (changes-torn (SetGrace grace) (tree_laws tells) (tree_at tells one opened header coming limit before)
    (tree_at tells other after header coming limit now)
    (wanted_grace tells grace (tree_at tells one opened header coming limit before)) rose tt
    (subst (λ (n : List ℕ). CountsRefusal false (seen_in opened one header.format limit)
    (seen_in after n header.format limit)) (sym name) (counted one))
    (record {
      left = λ value holds. left_graced tells grace one before.files now.files header coming limit value torn holds;
      between = λ told. elim (torn told) [
        | inl same ↦ inl same
        | inr left ↦ inr (left.0 one, left.2)
      ];
    })
    leaves
    (record { reads = omega (arith, reads); writes = omega (arith, writes) }))
