-- That a stop leaves the file of each name that is not unsynced as it is read.
use Rattle.std.specs.Prelude.{◌≡◌, ◌≢◌, ◌⊎◌, ℕ, Bool, true, false, List, [], ◌∷◌, take, Option, Some, None, is_some}
use Rattle.std.specs.Prelude.{refl}
use Rattle.std.proofs.Common.{inl, inr, sym, ap, subst, ◌∙◌}
use Rattle.std.proofs.lemmas.Bool.{cases_Bool, true≢false}
use Rattle.std.specs.Option.{option_map, option_map_or}
use Rattle.std.specs.Str.{bytes_eq}
use Rattle.std.specs.String.{string_bytes}
use Rattle.outside.specs.Unsynced.{AddsNone, UnsyncedNames, with_handed, with_name}
use Rattle.outside.specs.World.{KeepsOthers, World, with_file, with_new_name}
use Rattle.outside.proofs.UnsyncedLemmas.{with_name-at, with_name-others}
use Rattle.outside.proofs.WorldLemmas.{KeepsOthers-with_file, bytes_eq-same, bytes_eq-true, with_file-at}
use Rattle.outside.proofs.WorldLemmas.{with_new_name-others}
use Rattle.disk_in_memory.specs.Calls.{LeftAfter, MayMake, after_call, read_after}
use Rattle.disk_in_memory.specs.Images.{done}
use Rattle.disk_in_memory.specs.Unsynced.{handed_where, unsynced_after, unsynced_by}
use Rattle.disk_in_memory.specs.declared.disk_call.DiskCall.{DiskCall}
use Rattle.disk_in_memory.specs.declared.disk_call.DiskCall.TheVariants.{Write, Create, Cut, Sync, Rename}

-- where no file is read, none was there
abbrev NoneBefore : (read old : World) → Type 0
NoneBefore read old = (name : List ℕ) → read name ≡ None → old name ≡ None

-- the files of names that are not unsynced were there as they are read
abbrev KeptBefore : UnsyncedNames → (read old : World) → Type 0
KeptBefore names read old = (name : List ℕ) → names name ≡ false → old name ≡ read name

-- two names are the same or not
same_or : (one other : List ℕ) → (one ≡ other) ⊎ (one ≢ other)
same_or one other =
    elim (cases_Bool (bytes_eq one other)) [
      | inl e ↦ inl (bytes_eq-true one other e)
      | inr e ↦ inr (λ same. true≢false (sym (ap (λ (n : List ℕ). bytes_eq one n) (sym same) ∙ bytes_eq-same one) ∙ e))
    ]

-- a file is there or not
there_or : (file : Option (List ℕ)) → ((bytes : List ℕ) × (file ≡ Some bytes)) ⊎ (file ≡ None)
there_or (Some bytes) = inl (bytes, refl)
there_or None = inr refl

-- a file that is there is not absent
not_none : (bytes : List ℕ) → Some bytes ≡ None → ⊥
not_none bytes is = true≢false (ap (λ (f : Option (List ℕ)). is_some f) is)

-- what is cut and absent was absent
cut_none : (len : ℕ) (file : Option (List ℕ)) → option_map (take len) file ≡ None → file ≡ None
cut_none len None is = refl
cut_none len (Some bytes) is = absurd (not_none (take len bytes) is)

-- a file that was made is not absent
made_not_none : (files : World) (name bytes : List ℕ) → with_file files name (Some bytes) name ≡ None → ⊥
made_not_none files name bytes is = not_none bytes (sym (with_file-at files name (Some bytes)) ∙ is)

-- a rename of no file
new_name-none : (files : World) (from to : List ℕ) → files from ≡ None → with_new_name files from to ≡ files
new_name-none files from to is =
    ap (λ (f : Option (List ℕ)).
    option_map_or (λ (bytes : List ℕ). with_file (with_file files from None) to (Some bytes)) f files) is

-- a rename of a file that is there
new_name-some : (files : World) (from to bytes : List ℕ) → files from ≡ Some bytes
    → with_new_name files from to ≡ with_file (with_file files from None) to (Some bytes)
new_name-some files from to bytes is =
    ap (λ (f : Option (List ℕ)).
    option_map_or (λ (b : List ℕ). with_file (with_file files from None) to (Some b)) f files) is

-- what has the new name
new_name-to : (files : World) (from to bytes : List ℕ) → files from ≡ Some bytes
    → with_new_name files from to to ≡ Some bytes
new_name-to files from to bytes is =
    ap (λ (f : World). f to) (new_name-some files from to bytes is)
    ∙ with_file-at (with_file files from None) to (Some bytes)

-- no file has the old name
new_name-gone : (files : World) (from to : List ℕ) → from ≢ to → with_new_name files from to from ≡ None
new_name-gone files from to differ =
    elim (there_or (files from)) [
      | inl some ↦
          ap (λ (f : World). f from) (new_name-some files from to some.0 some.1)
          ∙ KeepsOthers-with_file (with_file files from None) to (Some some.0) from differ
          ∙ with_file-at files from None
      | inr none ↦ ap (λ (f : World). f from) (new_name-none files from to none) ∙ none
    ]

-- no file of a name is left by a change of one name's file, which leaves none of that name where none is read then
none_changed : (at name : List ℕ) (read after old new : World) → NoneBefore read old → KeepsOthers at read after
    → KeepsOthers at old new
    → (after at ≡ None → new at ≡ None) → after name ≡ None → new name ≡ None
none_changed at name read after old new before one two here none =
    elim (same_or name at) [
      | inl is ↦ subst (λ (n : List ℕ). after n ≡ None → new n ≡ None) (sym is) here none
      | inr differ ↦ two name differ ∙ before name (sym (one name differ) ∙ none)
    ]

-- the same of a rename
none_renamed : (from to name : List ℕ) (read old : World) → from ≢ to → NoneBefore read old
    → with_new_name read from to name ≡ None → with_new_name old from to name ≡ None
none_renamed from to name read old differ before none =
    elim (there_or (read from)) [
      | inl some ↦ elim (same_or name to) [
        | inl is ↦ absurd
            (not_none some.0
            (sym (new_name-to read from to some.0 some.1)
            ∙ subst (λ (n : List ℕ). with_new_name read from to n ≡ None) is none))
        | inr not_to ↦ elim (same_or name from) [
          | inl is ↦
              subst (λ (n : List ℕ). with_new_name old from to n ≡ None) (sym is) (new_name-gone old from to differ)
          | inr not_from ↦
              with_new_name-others old from to name not_from not_to
              ∙ before name (sym (with_new_name-others read from to name not_from not_to) ∙ none)
        ]
      ]
      | inr gone ↦
          ap (λ (f : World). f name) (new_name-none old from to (before from gone))
          ∙ before name (sym (ap (λ (f : World). f name) (new_name-none read from to gone)) ∙ none)
    ]

-- the same of each call
none_called : (call : DiskCall) (read old new : World) (name : List ℕ) → NoneBefore read old → MayMake call read old new
    → after_call call read name ≡ None → new name ≡ None
none_called (Write writing) read old new name before makes none =
    none_changed (string_bytes writing.name) name read (after_call (Write writing) read) old new before
    (done (Write writing) read).1 makes.1
    (λ is. absurd (made_not_none read (string_bytes writing.name) _ is)) none
none_called (Create text) read old new name before makes none =
    none_changed (string_bytes text) name read (after_call (Create text) read) old new before
    (done (Create text) read).1 makes.1
    (λ is. absurd (made_not_none read (string_bytes text) [] is)) none
none_called (Cut text len) read old new name before makes none =
    none_changed (string_bytes text) name read (after_call (Cut text len) read) old new before
    (done (Cut text len) read).1 makes.1
    (λ is. makes.0.absent (before (string_bytes text)
    (cut_none len (read (string_bytes text))
    (sym (with_file-at read (string_bytes text) (option_map (take len) (read (string_bytes text)))) ∙ is)))) none
none_called (Sync text) read old new name before makes none = ap (λ (f : World). f name) makes.0 ∙ before name none
none_called (Rename renaming) read old new name before makes none =
    ap (λ (f : World). f name) makes
    ∙ none_renamed (string_bytes renaming.from) (string_bytes renaming.to) name read old renaming.differ before none

-- a name that has no file as it is read has none in any image
none-left : (first : World) (calls : List DiskCall) (image : World) → LeftAfter first calls image
    → NoneBefore (read_after first calls) image
none-left first [] image is name none = ap (λ (f : World). f name) is ∙ none
none-left first (call ∷ earlier) image left name none =
    none_called call (read_after first earlier) left.0 image name (none-left first earlier left.0 left.1) left.2 none

-- a change of one name's file, which is unsynced then, keeps the files of the others
kept_changed : (at name : List ℕ) (names : UnsyncedNames) (read after old new : World) → KeptBefore names read old
    → KeepsOthers at read after → KeepsOthers at old new
    → with_name names at true name ≡ false → new name ≡ after name
kept_changed at name names read after old new kept one two off =
    elim (same_or name at) [
      | inl is ↦ absurd
          (true≢false
          (sym (with_name-at names at true) ∙ subst (λ (n : List ℕ). with_name names at true n ≡ false) is off))
      | inr differ ↦
          two name differ ∙ kept name (sym (with_name-others names at true name differ) ∙ off) ∙ sym (one name differ)
    ]

-- a rename keeps the files that are not unsynced then
kept_renamed : (from to name : List ℕ) (names : UnsyncedNames) (read old : World) → from ≢ to → NoneBefore read old
    → KeptBefore names read old
    → handed_where (is_some (read from)) names from to name ≡ false
    → with_new_name old from to name ≡ with_new_name read from to name
kept_renamed from to name names read old differ before kept off =
    elim (there_or (read from)) [
      | inl some ↦
          let handed : with_handed names from to name ≡ false =
          subst (λ (there : Bool). handed_where there names from to name ≡ false)
          (ap (λ (f : Option (List ℕ)). is_some f) some.1) off in
          elim (same_or name to) [
            | inl is ↦
                let synced : names from ≡ false =
                sym (with_name-at (with_name names from false) to (names from))
                ∙ subst (λ (n : List ℕ). with_handed names from to n ≡ false) is handed in
                subst (λ (n : List ℕ). with_new_name old from to n ≡ with_new_name read from to n) (sym is)
                (new_name-to old from to some.0 (kept from synced ∙ some.1)
                ∙ sym (new_name-to read from to some.0 some.1))
            | inr not_to ↦ elim (same_or name from) [
              | inl is ↦
                  subst (λ (n : List ℕ). with_new_name old from to n ≡ with_new_name read from to n) (sym is)
                  (new_name-gone old from to differ ∙ sym (new_name-gone read from to differ))
              | inr not_from ↦
                  with_new_name-others old from to name not_from not_to
                  ∙ kept name
                  (sym (with_name-others names from false name not_from)
                  ∙ sym (with_name-others (with_name names from false) to (names from) name not_to)
                  ∙ handed)
                  ∙ sym (with_new_name-others read from to name not_from not_to)
            ]
          ]
      | inr gone ↦
          ap (λ (f : World). f name) (new_name-none old from to (before from gone))
          ∙ kept name (subst (λ (there : Bool). handed_where there names from to name ≡ false)
          (ap (λ (f : Option (List ℕ)). is_some f) gone) off)
          ∙ sym (ap (λ (f : World). f name) (new_name-none read from to gone))
    ]

-- each call keeps the files that are not unsynced then
kept_called : (call : DiskCall) (names : UnsyncedNames) (read old new : World) (name : List ℕ) → NoneBefore read old
    → KeptBefore names read old → MayMake call read old new
    → unsynced_by call read names name ≡ false → new name ≡ after_call call read name
kept_called (Write writing) names read old new name before kept makes off =
    kept_changed (string_bytes writing.name) name names read (after_call (Write writing) read) old new kept
    (done (Write writing) read).1 makes.1 off
kept_called (Create text) names read old new name before kept makes off =
    kept_changed (string_bytes text) name names read (after_call (Create text) read) old new kept
    (done (Create text) read).1 makes.1 off
kept_called (Cut text len) names read old new name before kept makes off =
    kept_changed (string_bytes text) name names read (after_call (Cut text len) read) old new kept
    (done (Cut text len) read).1 makes.1 off
kept_called (Sync text) names read old new name before kept makes off =
    elim (same_or name (string_bytes text)) [
      | inl is ↦ subst (λ (n : List ℕ). new n ≡ read n) (sym is) makes.1
      | inr differ ↦ ap (λ (f : World). f name) makes.0
          ∙ kept name (sym (with_name-others names (string_bytes text) false name differ) ∙ off)
    ]
kept_called (Rename renaming) names read old new name before kept makes off =
    ap (λ (f : World). f name) makes
    ∙ kept_renamed (string_bytes renaming.from) (string_bytes renaming.to) name names read old
    renaming.differ before kept off

-- the file of a name that is not unsynced is in each image as it is read
kept-left : (first : World) (calls : List DiskCall) (image : World) → LeftAfter first calls image
    → KeptBefore (unsynced_after first calls) (read_after first calls) image
kept-left first [] image is name off = ap (λ (f : World). f name) is
kept-left first (call ∷ earlier) image left name off =
    kept_called call (unsynced_after first earlier) (read_after first earlier) left.0 image name
    (none-left first earlier left.0 left.1)
    (kept-left first earlier left.0 left.1) left.2 off

-- the same of a name that is not among names that name all that are unsynced
pub named-left : (first : World) (calls : List DiskCall) (names : UnsyncedNames) (image : World) (name : List ℕ)
    → AddsNone names (unsynced_after first calls)
    → LeftAfter first calls image → names name ≡ false → image name ≡ read_after first calls name
named-left first calls names image name named left off =
    elim (cases_Bool (unsynced_after first calls name)) [
      | inl on ↦ absurd (true≢false (sym (named name on) ∙ off))
      | inr synced ↦ kept-left first calls image left name synced
    ]
