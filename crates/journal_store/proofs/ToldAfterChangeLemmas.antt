-- What a journal tells after a change.
use Rattle.std.proofs.Common.{◌≡◌, ◌≢◌, inl, inr, ◌≤◌, ℕ, IsSome, refl, List, [], ◌∷◌, ◌++◌, length, Option, Some, None}
use Rattle.std.proofs.Common.{unwrap_or, option_map, sym, ap, ◌∙◌, arith}
use Rattle.std.specs.Option.{option_map_or}
use Rattle.std.specs.Str.{bytes_eq}
use Rattle.std.proofs.lemmas.Bool.{cases_Bool, cond-false, cond-true, false≢true}
use Rattle.outside.specs.World.{KeepsOthers, World, overwritten, with_bytes, with_file, with_new_name}
use Rattle.outside.proofs.WorldLemmas.{KeepsOthers-with_file, bytes_eq-true, with_file-at}
use Rattle.disk.specs.DiskSeen.{DiskSeen}
use Rattle.quota_types.specs.Bytes.{byte_at}
use Rattle.edit_journal.specs.Recovered.{IsRecovered}
use Rattle.edit_journal.specs.ByteRanges.{ByteRange, laid}
use Rattle.edit_journal.specs.Undo.{recovered}
use Rattle.edit_journal.specs.UndoName.{undo_name}
use Rattle.edit_journal.proofs.LaidBytesLemmas.{laid-more}
use Rattle.edit_journal.proofs.RecoveryCallLemmas.{recovered-unopened}
use Rattle.journal_store.specs.Kinds.{is_new, is_undo}
use Rattle.journal_store.specs.Told.{ranges_for, told_files}
use Rattle.journal_store.proofs.KindLemmas.{IsNew, IsPlain, undo-apart}
use Rattle.journal_store.proofs.LookLemmas.{told-ready}
use Rattle.journal_store.proofs.ToldLemmas.{differs, ranges_for-none, ranges_for-other, told-new, told-others}
use Rattle.journal_store.proofs.ToldLemmas.{told-plain}

-- where one file is this one, and all others stay
pub world-with : (one other : World) (name : List ℕ) (file : Option (List ℕ)) → KeepsOthers name one other
    → other name ≡ file → other ≡ with_file one name file
world-with one other name file keeps is = λ i n. by n i
  where
    by : (n : List ℕ) → other n ≡ with_file one name file n
    by n =
        elim (cases_Bool (bytes_eq name n)) [
          | inl same ↦ ap other (sym (bytes_eq-true name n same)) ∙ is ∙ sym (cond-true _ _ _ same)
          | inr apart ↦ keeps n (differs name n apart) ∙ sym (cond-false _ _ _ apart)
        ]

-- no ranges change nothing
pub laid_none : (file : Option (List ℕ)) → option_map (laid []) file ≡ file
laid_none None = refl
laid_none (Some file) = refl

-- a plain file of which no ranges are kept, beside a closed gate
pub shown-closed : (files : World) (held : List ℕ) (name : List ℕ) → IsPlain name
    → byte_at (unwrap_or (files (undo_name name)) []) 0 ≢ 1 → told_files files held [] name ≡ files name
shown-closed files held name plain closed =
    told-plain files held [] name plain.undo plain.new
    ∙ ap (λ (l : List ByteRange). option_map (laid l) (recovered (files name) (files (undo_name name))))
    (ranges_for-none held name)
    ∙ laid_none (recovered (files name) (files (undo_name name)))
    ∙ recovered-unopened (files name) (files (undo_name name)) closed

-- a plain file that is put in the place of another one, beside a closed gate
pub told-put : (files : World) (held name : List ℕ) (file : Option (List ℕ)) → IsPlain name
    → byte_at (unwrap_or (files (undo_name name)) []) 0 ≢ 1
    → told_files (with_file files name file) held [] ≡ with_file (told_files files held []) name file
told-put files held name file plain closed =
    let put : World = with_file files name file in
    let stays : put (undo_name name) ≡ files (undo_name name) =
    KeepsOthers-with_file files name file (undo_name name) (λ same. undo-apart name name plain.undo (sym same)) in
    world-with (told_files files held []) (told_files put held []) name file
    (told-others files put held held [] [] name plain (λ n one two three. KeepsOthers-with_file files name file n one)
    (λ n differ. refl))
    (shown-closed put held name plain
    (λ opened. closed (ap (λ (u : Option (List ℕ)). byte_at (unwrap_or u []) 0) (sym stays) ∙ opened))
    ∙ with_file-at files name file)

-- a file whose name is new that is put in the place of another one
pub told-put_new : (files : World) (held : List ℕ) (spans : List ByteRange) (name : List ℕ) (file : Option (List ℕ))
    → IsNew name → told_files (with_file files name file) held spans ≡ with_file (told_files files held spans) name file
told-put_new files held spans name file new =
    let put : World = with_file files name file in
    let others = KeepsOthers-with_file files name file in
    world-with (told_files files held spans) (told_files put held spans) name file
    (λ n differ.
    elim (cases_Bool (is_undo n)) [
      | inl is ↦ cond-true _ _ _ is ∙ sym (cond-true _ _ _ is)
      | inr undo ↦ elim (cases_Bool (is_new n)) [
        | inl is ↦ told-new put held spans n undo is ∙ others n differ ∙ sym (told-new files held spans n undo is)
        | inr is ↦
            told-plain put held spans n undo is
            ∙ ap (λ (f : Option (List ℕ)).
            option_map (laid (ranges_for held spans n)) (recovered f (put (undo_name n)))) (others n differ)
            ∙ ap (λ (u : Option (List ℕ)). option_map (laid (ranges_for held spans n)) (recovered (files n) u))
            (others (undo_name n) (λ same. undo-apart name n new.undo (sym same)))
            ∙ sym (told-plain files held spans n undo is)
      ]
    ])
    (told-new put held spans name new.undo new.new ∙ with_file-at files name file)

-- bytes that are written into a file whose name is new
pub told-written_new : (files : World) (held : List ℕ) (spans : List ByteRange) (name : List ℕ) (at : ℕ)
    (bytes : List ℕ) → IsNew name
    → told_files (with_bytes files name at bytes) held spans ≡ with_bytes (told_files files held spans) name at bytes
told-written_new files held spans name at bytes new =
    told-put_new files held spans name (Some (overwritten (unwrap_or (files name) []) at bytes)) new
    ∙ ap (λ (f : Option (List ℕ)). with_file (told_files files held spans) name
    (Some (overwritten (unwrap_or f []) at bytes))) (sym (told-new files held spans name new.undo new.new))

-- one range more, laid over a file
laid-kept : (file : Option (List ℕ)) (spans : List ByteRange) (at : ℕ) (bytes : List ℕ) → IsSome file → 1 ≤ length bytes
    → option_map (laid (spans ++ record { at = at; bytes = bytes } ∷ [])) file
    ≡ Some (overwritten (unwrap_or (option_map (laid spans) file) []) at bytes)
laid-kept None spans at bytes there some = absurd (false≢true there)
laid-kept (Some file) spans at [] there some = absurd (omega (arith, some))
laid-kept (Some file) spans at (byte ∷ rest) there some =
    ap (λ (f : List ℕ). Some f) (laid-more spans (record { at = at; bytes = byte ∷ rest }) file)

-- a range that is kept for the held file
pub told-kept : (disk : DiskSeen) (held : List ℕ) (spans : List ByteRange) (name : List ℕ) (at : ℕ) (bytes : List ℕ)
    → held ≡ name → IsPlain name → disk.images disk.files → IsRecovered name (undo_name name) (disk.files name) disk
    → IsSome (disk.files name) → 1 ≤ length bytes
    → told_files disk.files held (spans ++ record { at = at; bytes = bytes } ∷ [])
    ≡ with_bytes (told_files disk.files held spans) name at bytes
told-kept disk held spans name at bytes is plain now recovers there some =
    let more : List ByteRange = spans ++ record { at = at; bytes = bytes } ∷ [] in
    world-with (told_files disk.files held spans) (told_files disk.files held more) name
    (Some (overwritten (unwrap_or (told_files disk.files held spans name) []) at bytes))
    (told-others disk.files disk.files held held spans more name plain (λ n one two three. refl)
    (λ n differ. let apart : n ≢ held = λ same. differ (same ∙ is) in
    ranges_for-other held more n apart ∙ sym (ranges_for-other held spans n apart)))
    (told-ready disk held more name is plain now recovers
    ∙ laid-kept (disk.files name) spans at bytes there some
    ∙ ap (λ (f : Option (List ℕ)). Some (overwritten (unwrap_or f []) at bytes))
    (sym (told-ready disk held spans name is plain now recovers)))

-- a file that takes the place of a plain one
pub told-renamed : (files : World) (held from to : List ℕ) → IsNew from → IsPlain to
    → byte_at (unwrap_or (files (undo_name to)) []) 0 ≢ 1
    → told_files (with_new_name files from to) held [] ≡ with_new_name (told_files files held []) from to
told-renamed files held from to new plain closed =
    by (files from) ∙ ap
    (λ (f : Option (List ℕ)). option_map_or
    (λ (bytes : List ℕ). with_file (with_file (told_files files held []) from None) to (Some bytes)) f
    (told_files files held [])) (sym (told-new files held [] from new.undo new.new))
  where
    by : (file : Option (List ℕ))
        → told_files
        (option_map_or (λ (bytes : List ℕ). with_file (with_file files from None) to (Some bytes)) file files) held []
        ≡ option_map_or (λ (bytes : List ℕ). with_file (with_file (told_files files held []) from None) to (Some bytes))
        file (told_files files held [])
    by None = refl
    by (Some bytes) =
        let gone : World = with_file files from None in
        let stays : gone (undo_name to) ≡ files (undo_name to) =
        KeepsOthers-with_file files from None (undo_name to) (λ same. undo-apart from to new.undo (sym same)) in
        told-put gone held to (Some bytes) plain
        (λ opened. closed (ap (λ (u : Option (List ℕ)). byte_at (unwrap_or u []) 0) (sym stays) ∙ opened))
        ∙ ap (λ (w : World). with_file w to (Some bytes)) (told-put_new files held [] from None new)
