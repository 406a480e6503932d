-- That a disk in memory leaves an image where it is stopped.
use Rattle.std.proofs.Common.{◌≡◌, ◌≢◌, ◌-◌, ◌/◌, ℕ, Bool, true, false, cond, inl, inr, List, [], ◌∷◌, length, Option}
use Rattle.std.proofs.Common.{Some, None, refl, sym, ap, ◌∙◌, subst, arith, length-take}
use Rattle.std.specs.Option.{option_map_or}
use Rattle.std.specs.String.{string_bytes}
use Rattle.std.proofs.lemmas.Bool.{cases_Bool, cond-false, cond-true, true≢false}
use Rattle.outside.specs.World.{World, with_file, with_new_name}
use Rattle.outside.proofs.WorldLemmas.{KeepsOthers-with_file, apart_names, bytes_eq-same, bytes_eq-true, same_world}
use Rattle.outside.proofs.WorldLemmas.{with_file-again, with_file-at, with_file-same, with_new_name-others}
use Rattle.std.specs.Str.{bytes_eq}
use Rattle.disk_in_memory.specs.Calls.{LeftAfter, MayMake, after_call, half_call, half_left, half_of, read_after}
use Rattle.disk_in_memory.specs.Images.{cuts-nothing, done, shortens-nothing, tears-written}
use Rattle.disk.specs.DiskCalls.{ChangesFile, CutShort, IsOutside, Shortened, Torn}
use Rattle.disk_in_memory.specs.declared.disk_call.DiskCall.{DiskCall}
use Rattle.disk_in_memory.specs.declared.disk_call.DiskCall.TheVariants.{Write, Create, Cut, Sync, Rename}

-- a change of one name's file, where the file of some name is as it is read before and after
changed : (Changes : Option (List ℕ) → Option (List ℕ) → Type 0) (name at : List ℕ) (read now old new : World)
    → ChangesFile Changes at read now → ChangesFile Changes at old new
    → ChangesFile Changes at (with_file old name (read name)) (with_file new name (now name))
changed Changes name at read now old new one two = (
  elim (cases_Bool (bytes_eq name at)) [
    | inl e ↦
        let is : name ≡ at = bytes_eq-true name at e in
        subst (λ (f : Option (List ℕ)). Changes f (with_file new name (now name) at))
        (sym (cond-true _ _ _ e ∙ ap read is))
        (subst (λ (f : Option (List ℕ)). Changes (read at) f) (sym (cond-true _ _ _ e ∙ ap now is)) one.0)
    | inr e ↦
        subst (λ (f : Option (List ℕ)). Changes f (with_file new name (now name) at)) (sym (cond-false _ _ _ e))
        (subst (λ (f : Option (List ℕ)). Changes (old at) f) (sym (cond-false _ _ _ e)) two.0)
  ],
  (λ other differ.
      elim (cases_Bool (bytes_eq name other)) [
        | inl e ↦ cond-true _ _ _ e ∙ one.1 name (λ same. differ (sym (bytes_eq-true name other e) ∙ same))
            ∙ sym (cond-true _ _ _ e)
        | inr e ↦ cond-false _ _ _ e ∙ two.1 other differ ∙ sym (cond-false _ _ _ e)
      ]),
)

-- the first of two files that is there
either : Option (List ℕ) → Option (List ℕ) → Option (List ℕ)
either (Some bytes) other = Some bytes
either None other = other

new_name-by : (files : World) (from to : List ℕ) (file : Option (List ℕ)) → files from ≡ file
    → option_map_or (λ (bytes : List ℕ). with_file (with_file files from None) to (Some bytes)) file files
    ≡ with_file (with_file files from None) to (either file (files to))
unfolding either
new_name-by files from to (Some bytes) is = refl
new_name-by files from to None is =
    sym (ap (λ (f : World). with_file f to (files to)) (with_file-same files from None is)
    ∙ with_file-same files to (files to) refl)

-- a file given another name, whether it is there or not
new_name-as : (files : World) (from to : List ℕ)
    → with_new_name files from to ≡ with_file (with_file files from None) to (either (files from) (files to))
new_name-as files from to = new_name-by files from to (files from) refl

-- no file has the old name then
new_name-from : (files : World) (from to : List ℕ) → from ≢ to → with_new_name files from to from ≡ None
new_name-from files from to differ =
    ap (λ (f : World). f from) (new_name-as files from to)
    ∙ KeepsOthers-with_file (with_file files from None) to (either (files from) (files to)) from differ
    ∙ with_file-at files from None

gone : (to from : Bool) (x b a z : Option (List ℕ))
    → cond to x (cond from None z) ≡ cond to x (cond from None (cond to b (cond from a z)))
gone true from x b a z = refl
gone false true x b a z = refl
gone false false x b a z = refl

swapped : (name to from : Bool) (r y z : Option (List ℕ)) → (name ≡ true → to ≡ true → ⊥)
    → (name ≡ true → from ≡ true → ⊥)
    → cond name r (cond to y (cond from None z)) ≡ cond to y (cond from None (cond name r z))
swapped true true from r y z one two = absurd (one refl refl)
swapped true false true r y z one two = absurd (two refl refl)
swapped true false false r y z one two = refl
swapped false to from r y z one two = refl

module _ (from to : List ℕ) (differ : from ≢ to) (read : World) where
  -- the file of the new name as it is read
  moved-to : (old new : World) → new ≡ with_new_name old from to
      → with_file new to (with_new_name read from to to)
      ≡ with_new_name (with_file (with_file old from (read from)) to (read to)) from to
  moved-to old new makes =
      let before : World = with_file (with_file old from (read from)) to (read to) in
      let x : Option (List ℕ) = either (read from) (read to) in
      let value : with_new_name read from to to ≡ x =
      ap (λ (f : World). f to) (new_name-as read from to) ∙ with_file-at (with_file read from None) to x in
      let at_from : before from ≡ read from = KeepsOthers-with_file (with_file old from (read from)) to (read to) from
      differ ∙ with_file-at old from (read from) in
      let at_to : before to ≡ read to = with_file-at (with_file old from (read from)) to (read to) in
      ap (λ (f : Option (List ℕ)). with_file new to f) value
      ∙ ap (λ (f : World). with_file f to x) (makes ∙ new_name-as old from to)
      ∙ with_file-again (with_file old from None) to (either (old from) (old to)) x
      ∙ same_world (with_file (with_file old from None) to x) (with_file (with_file before from None) to x)
      (λ other. gone (bytes_eq to other) (bytes_eq from other) x (read to) (read from) (old other))
      ∙ ap (λ (f : Option (List ℕ)). with_file (with_file before from None) to (either f (read to))) (sym at_from)
      ∙ ap (λ (f : Option (List ℕ)). with_file (with_file before from None) to (either (before from) f)) (sym at_to)
      ∙ sym (new_name-as before from to)

  -- no file of the old name
  moved-from : (old new : World) → new ≡ with_new_name old from to
      → with_file new from (with_new_name read from to from) ≡ with_new_name old from to
  moved-from old new makes =
      with_file-same new from (with_new_name read from to from)
      (ap (λ (f : World). f from) makes ∙ new_name-from old from to differ ∙ sym (new_name-from read from to differ))
      ∙ makes

  -- the file of another name
  moved-other : (name : List ℕ) (old new : World) → name ≢ from → name ≢ to → new ≡ with_new_name old from to
      → with_file new name (with_new_name read from to name) ≡ with_new_name (with_file old name (read name)) from to
  moved-other name old new not_from not_to makes =
      let before : World = with_file old name (read name) in
      let y : Option (List ℕ) = either (old from) (old to) in
      let at_from : before from ≡ old from =
      KeepsOthers-with_file old name (read name) from (λ same. not_from (sym same)) in
      let at_to : before to ≡ old to = KeepsOthers-with_file old name (read name) to (λ same. not_to (sym same)) in
      ap (λ (f : Option (List ℕ)). with_file new name f) (with_new_name-others read from to name not_from not_to)
      ∙ ap (λ (f : World). with_file f name (read name)) (makes ∙ new_name-as old from to)
      ∙ same_world (with_file (with_file (with_file old from None) to y) name (read name))
      (with_file (with_file before from None) to y)
      (λ other. swapped (bytes_eq name other) (bytes_eq to other) (bytes_eq from other) (read name) y (old other)
      (apart_names name to other not_to) (apart_names name from other not_from))
      ∙ ap (λ (f : Option (List ℕ)). with_file (with_file before from None) to (either f (old to))) (sym at_from)
      ∙ ap (λ (f : Option (List ℕ)). with_file (with_file before from None) to (either (before from) f)) (sym at_to)
      ∙ sym (new_name-as before from to)

  -- a rename, where what is left stays left with the file of any name as it is read
  moved : (Left : World → Type 0)
      → ((name : List ℕ) (image : World) → Left image → Left (with_file image name (read name)))
      → (name : List ℕ) (old new : World) → Left old → new ≡ with_new_name old from to
      → (before : World) × Left before
      × (with_file new name (with_new_name read from to name) ≡ with_new_name before from to)
  moved Left closed name old new left makes =
      let Moves : List ℕ → Type 0 = λ n. (before : World) × Left before
      × (with_file new n (with_new_name read from to n) ≡ with_new_name before from to) in
      elim (cases_Bool (bytes_eq name to)) [
        | inl e ↦ subst Moves (sym (bytes_eq-true name to e)) (
          with_file (with_file old from (read from)) to (read to),
          closed to (with_file old from (read from)) (closed from old left),
          moved-to old new makes,
        )
        | inr e ↦ elim (cases_Bool (bytes_eq name from)) [
          | inl f ↦ subst Moves (sym (bytes_eq-true name from f)) (old, left, moved-from old new makes)
          | inr f ↦ (
            with_file old name (read name),
            closed name old left,
            moved-other name old new (other_name name from f) (other_name name to e) makes,
          )
        ]
      ]
    where
      other_name : (one other : List ℕ) → bytes_eq one other ≡ false → one ≢ other
      other_name one other e same =
          true≢false (sym (ap (λ (n : List ℕ). bytes_eq one n) (sym same) ∙ bytes_eq-same one) ∙ e)

-- what is left of a call may have the file of any name as it is read
read_too : (call : DiskCall) (Left : World → Type 0) (read : World)
    → ((name : List ℕ) (image : World) → Left image → Left (with_file image name (read name)))
    → (name : List ℕ) (old new : World) → Left old → MayMake call read old new
    → (before : World) × Left before × MayMake call read before (with_file new name (after_call call read name))
read_too (Write writing) Left read closed name old new left makes = (
  with_file old name (read name),
  closed name old left,
  changed (Torn (IsOutside writing.at (length writing.bytes.items))) name (string_bytes writing.name) read
      (after_call (Write writing) read) old new (done (Write writing) read) makes,
)
read_too (Create text) Left read closed name old new left makes = (
  with_file old name (read name),
  closed name old left,
  changed (CutShort 0) name (string_bytes text) read (after_call (Create text) read) old new
      (done (Create text) read) makes,
)
read_too (Cut text len) Left read closed name old new left makes = (
  with_file old name (read name),
  closed name old left,
  changed (Shortened len) name (string_bytes text) read (after_call (Cut text len) read) old new
      (done (Cut text len) read) makes,
)
read_too (Sync text) Left read closed name old new left makes =
    let kept : with_file new name (read name) (string_bytes text) ≡ read (string_bytes text) =
    elim (cases_Bool (bytes_eq name (string_bytes text))) [
      | inl e ↦ cond-true _ _ _ e ∙ ap read (bytes_eq-true name (string_bytes text) e)
      | inr e ↦ cond-false _ _ _ e ∙ makes.1
    ] in (
      with_file old name (read name),
      closed name old left,
      (ap (λ (f : World). with_file f name (read name)) makes.0, kept),
    )
read_too (Rename renaming) Left read closed name old new left makes =
    moved (string_bytes renaming.from) (string_bytes renaming.to) renaming.differ read Left closed name
    old new left makes

-- an image with the file of any name as it is read is an image
as_read : (first : World) (calls : List DiskCall) (name : List ℕ) (image : World) → LeftAfter first calls image
    → LeftAfter first calls (with_file image name (read_after first calls name))
as_read first [] name image is =
    ap (λ (f : World). with_file f name (first name)) is ∙ with_file-same first name (first name) refl
as_read first (call ∷ earlier) name image left =
    read_too call (LeftAfter first earlier) (read_after first earlier)
    (λ n other was. as_read first earlier n other was) name left.0 image left.1 left.2

-- what is left of a call by half is an image
half_step : (call : DiskCall) (first : World) (earlier : List DiskCall) (files : World) → LeftAfter first earlier files
    → LeftAfter first (call ∷ earlier) (half_call call (read_after first earlier) files)
half_step (Write writing) first earlier files left = (
  files,
  left,
  tears-written files (string_bytes writing.name) writing.at (length writing.bytes.items) (half_of writing.bytes.items)
      (omega (arith, length-take (length writing.bytes.items - length writing.bytes.items / 2) writing.bytes.items)),
)
half_step (Create name) first earlier files left = (files, left, cuts-nothing files (string_bytes name) 0)
half_step (Cut name len) first earlier files left = (files, left, shortens-nothing files (string_bytes name) len)
half_step (Sync name) first earlier files left =
    let synced : World = with_file files (string_bytes name) (read_after first earlier (string_bytes name)) in (
      synced,
      as_read first earlier (string_bytes name) files left,
      (refl, with_file-at files (string_bytes name) (read_after first earlier (string_bytes name))),
    )
half_step (Rename renaming) first earlier files left = (files, left, refl)

-- what a disk in memory leaves where it is stopped is an image
pub half-left : (first : World) (calls : List DiskCall) → LeftAfter first calls (half_left first calls)
half-left first [] = refl
half-left first (call ∷ earlier) = half_step call first earlier (half_left first earlier) (half-left first earlier)
