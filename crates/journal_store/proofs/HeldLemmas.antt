-- What is told of the held file, and of a file with a new name beside it, and what their calls leave.
use Rattle.std.proofs.Common.{◌≡◌, ◌≢◌, ◌≤◌, inl, inr, ◌⊎◌, ⊎_elim, ℕ, Bool, true, IsSome, refl, List, [], ◌∷◌, ◌++◌}
use Rattle.std.proofs.Common.{length, false, Option, Some, None, option_map, unwrap_or, sym, ap, ◌∙◌, subst, arith}
use Rattle.std.proofs.lemmas.Bool.{false≢true}
use Rattle.std.proofs.lemmas.List.{map-append}
use Rattle.outside.specs.Unsynced.{UnsyncedNames, with_handed, with_name}
use Rattle.outside.specs.World.{World, with_bytes, with_file, with_new_name}
use Rattle.disk.specs.DiskSeen.{ChangesNothing, DiskSeen, DiskFollows, IsDurable, Passes, TakesStep}
use Rattle.disk.specs.DiskCalls.{ChangesFile, MayBeRenamed}
use Rattle.disk.proofs.StopLemmas.{passes-nothing}
use Rattle.quota_types.specs.Bytes.{byte_at}
use Rattle.edit_journal.specs.Recovery.{IsSame}
use Rattle.edit_journal.specs.Recovered.{IsRecovered}
use Rattle.edit_journal.specs.ByteRanges.{ByteRange, laid, range_of, ranges_of}
use Rattle.edit_journal.specs.UndoName.{undo_name}
use Rattle.edit_journal.specs.declared.kept.KeptRange.{KeptRange}
use Rattle.journal_store.specs.Commits.{Commits}
use Rattle.journal_store.specs.Kinds.{kind_of}
use Rattle.journal_store.specs.Told.{told_files, told_names}
use Rattle.journal_store.specs.declared.kinds.NameKind.TheVariants.{Plain}
use Rattle.journal_store.proofs.ToldAfterChangeLemmas.{laid_none, told-kept, told-put, told-renamed, told-put_new}
use Rattle.journal_store.proofs.ToldAfterChangeLemmas.{told-written_new}
use Rattle.journal_store.proofs.CommitsLemmas.{commits_renamed}
use Rattle.journal_store.proofs.KindLemmas.{IsNew, IsPlain, is_plain, new-apart, undo-apart}
use Rattle.journal_store.proofs.LookLemmas.{told-ready}
use Rattle.journal_store.proofs.ReadyLemmas.{recovered-on}
use Rattle.journal_store.proofs.ToldLemmas.{told-new}
use Rattle.journal_store.proofs.NamesLemmas.{are_kept-none, are_kept-other, names-handed, names-kept, names-put}
use Rattle.journal_store.proofs.NamesLemmas.{names-told}

-- a name is held, and its file is recovered
pub record Stands (disk : DiskSeen) (held name : List ℕ) : Type 0 where
  pub is : held ≡ name
  pub kind : kind_of name ≡ Plain
  pub plain : IsPlain name
  pub now : disk.images disk.files
  pub ready : IsRecovered name (undo_name name) (disk.files name) disk

-- as a journal has it
pub stands : (disk : DiskSeen) (held name : List ℕ) → held ≡ name → kind_of held ≡ Plain → disk.images disk.files
    → IsRecovered held (undo_name held) (disk.files held) disk → Stands disk held name
stands disk held name is plain now ready = record {
  is = is;
  kind = ap kind_of (sym is) ∙ plain;
  plain = is_plain name (ap kind_of (sym is) ∙ plain);
  now = now;
  ready = subst (λ (n : List ℕ). IsRecovered n (undo_name n) (disk.files n) disk) is ready;
}

-- what is read of the held file, with the ranges that are kept for it laid over, is what is told
pub told-held : (disk : DiskSeen) (held name : List ℕ) (spans new_spans : List ByteRange) (told : World)
    → Stands disk held name → new_spans ≡ spans → told_files disk.files held spans ≡ told
    → option_map (laid new_spans) (disk.files name) ≡ told name
told-held disk held name spans new_spans told it same tells =
    ap (λ (l : List ByteRange). option_map (laid l) (disk.files name)) same
    ∙ sym (told-ready disk held spans name it.is it.plain it.now it.ready)
    ∙ ap (λ (w : World). w name) tells

-- what is read of a file with a new name is
pub told-beside : (disk : DiskSeen) (held name : List ℕ) (spans : List ByteRange) (told : World) → IsNew name
    → told_files disk.files held spans ≡ told → disk.files name ≡ told name
told-beside disk held name spans told new tells =
    sym (told-new disk.files held spans name new.undo new.new) ∙ ap (λ (w : World). w name) tells

-- a file that is held and waited for is recovered, and is the one that is told, where no ranges are kept
pub recovered-synced : (a b : DiskSeen) (held name : List ℕ) (spans : List ByteRange) (told : World)
    → Stands a held name → spans ≡ [] → told_files a.files held spans ≡ told → Passes IsSame a b
    → IsRecovered name (undo_name name) (told name) b
recovered-synced a b held name spans told it none tells looks =
    let is : b.files name ≡ told name =
    ap (λ (w : World). w name) looks.follows.read ∙ sym (laid_none (a.files name))
    ∙ told-held a held name spans [] told it (sym none) tells in
    subst (λ (f : Option (List ℕ)). IsRecovered name (undo_name name) f b) is
    (recovered-on name (undo_name name) IsSame a b
    (λ x y same. (ap (λ (w : World). w name) same, ap (λ (w : World). w (undo_name name)) same)) looks.follows it.ready)

-- it stays recovered, and there, where a call changes nothing
pub recovered-still : (held : List ℕ) (a b : DiskSeen) → ChangesNothing a b
    → IsRecovered held (undo_name held) (a.files held) a → IsRecovered held (undo_name held) (b.files held) b
recovered-still held a b still is =
    recovered-on held (undo_name held) IsSame a b
    (λ x y same. (ap (λ (w : World). w held) same, ap (λ (w : World). w (undo_name held)) same))
    (passes-nothing IsSame a b (λ files. refl) still).follows is

pub there-still : (held : List ℕ) (a b : DiskSeen) → ChangesNothing a b → IsSome (a.files held) → IsSome (b.files held)
there-still held a b still there = subst (λ (w : World). IsSome (w held)) (sym still.files) there

-- its gate is closed
pub closed-at : (disk : DiskSeen) (held name : List ℕ) → Stands disk held name
    → byte_at (unwrap_or (disk.files (undo_name name)) []) 0 ≢ 1
closed-at disk held name it = it.ready.closed disk.files it.now

-- the ranges once one more was kept
pub ranges-pushed : (items new : List KeptRange) (range : KeptRange) (at : ℕ) (bytes : List ℕ)
    → new ≡ items ++ range ∷ [] → range.at ≡ at → range.bytes.items ≡ bytes
    → ranges_of new ≡ ranges_of items ++ record { at = at; bytes = bytes } ∷ []
ranges-pushed items new range at bytes pushed here same =
    ap (λ (l : List KeptRange). ranges_of l) pushed
    ∙ map-append range_of items (range ∷ [])
    ∙ ap (λ (p : ℕ). ranges_of items ++ record { at = p; bytes = range.bytes.items } ∷ []) here
    ∙ ap (λ (b : List ℕ). ranges_of items ++ record { at = at; bytes = b } ∷ []) same

-- a range that is kept, after the disk was asked
pub kept-at : (a b : DiskSeen) (held name : List ℕ) (spans more : List ByteRange) (at : ℕ) (bytes : List ℕ)
    → Stands a held name → b.files ≡ a.files → IsSome (a.files name) → 1 ≤ length bytes
    → more ≡ spans ++ record { at = at; bytes = bytes } ∷ []
    → told_files b.files held more ≡ with_bytes (told_files a.files held spans) name at bytes
kept-at a b held name spans more at bytes it same there some pushed =
    ap (λ (f : World). told_files f held more) same
    ∙ ap (λ (l : List ByteRange). told_files a.files held l) pushed
    ∙ told-kept a held spans name at bytes it.is it.plain it.now it.ready there some

-- and its name, which is unsynced then
pub kept-names-at : (a b : DiskSeen) (held name : List ℕ) (spans more : List ByteRange) (span : ByteRange)
    → Stands a held name → b.unsynced ≡ a.unsynced → more ≡ spans ++ span ∷ []
    → told_names b.unsynced held more ≡ with_name (told_names a.unsynced held spans) name true
kept-names-at a b held name spans more span it same pushed =
    ap (λ (u : UnsyncedNames). told_names u held more) same
    ∙ ap (λ (l : List ByteRange). told_names a.unsynced held l) pushed
    ∙ names-kept a.unsynced held spans span name it.is it.plain.undo

-- a file that is made in the place of the held one
pub put-at : (a b : DiskSeen) (held name : List ℕ) (spans : List ByteRange) (file : Option (List ℕ))
    → Stands a held name → spans ≡ [] → b.files ≡ with_file a.files name file
    → told_files b.files held spans ≡ with_file (told_files a.files held spans) name file
put-at a b held name spans file it none made =
    ap (λ (l : List ByteRange). told_files b.files held l) none
    ∙ ap (λ (f : World). told_files f held []) made
    ∙ told-put a.files held name file it.plain (closed-at a held name it)
    ∙ ap (λ (l : List ByteRange). with_file (told_files a.files held l) name file) (sym none)

pub put-names-at : (a b : DiskSeen) (held name : List ℕ) (spans : List ByteRange) (is : Bool) → IsPlain name
    → spans ≡ [] → b.unsynced ≡ with_name a.unsynced name is
    → told_names b.unsynced held spans ≡ with_name (told_names a.unsynced held spans) name is
put-names-at a b held name spans is plain none made =
    ap (λ (l : List ByteRange). told_names b.unsynced held l) none
    ∙ ap (λ (u : UnsyncedNames). told_names u held []) made
    ∙ names-put a.unsynced held [] name is plain.undo (are_kept-none held name)
    ∙ ap (λ (l : List ByteRange). with_name (told_names a.unsynced held l) name is) (sym none)

-- no ranges
pub ranges-none : (items : List KeptRange) → length items ≡ 0 → ranges_of items ≡ []
ranges-none [] none = refl
ranges-none (range ∷ rest) none = absurd (omega (arith, none))

-- the same where the disk failed
pub fault-at : (a b : DiskSeen) (held name : List ℕ) (spans : List ByteRange) (file : Option (List ℕ))
    → Stands a held name → spans ≡ [] → (b.files ≡ a.files) ⊎ (b.files ≡ with_file a.files name file)
    → (told_files b.files held spans ≡ told_files a.files held spans)
    ⊎ (told_files b.files held spans ≡ with_file (told_files a.files held spans) name file)
fault-at a b held name spans file it none either =
    ⊎_elim (λ same. inl (ap (λ (f : World). told_files f held spans) same))
    (λ made. inr (put-at a b held name spans file it none made)) either

-- a file that takes the place of the held one
pub renamed-at : (a b : DiskSeen) (held from to : List ℕ) (spans : List ByteRange) → Stands a held to → IsNew from
    → spans ≡ [] → b.files ≡ with_new_name a.files from to
    → told_files b.files held spans ≡ with_new_name (told_files a.files held spans) from to
renamed-at a b held from to spans it new none renamed =
    ap (λ (l : List ByteRange). told_files b.files held l) none
    ∙ ap (λ (f : World). told_files f held []) renamed
    ∙ told-renamed a.files held from to new it.plain (closed-at a held to it)
    ∙ ap (λ (l : List ByteRange). with_new_name (told_files a.files held l) from to) (sym none)

-- and its name, which is handed over
pub handed-at : (a b : DiskSeen) (held from to : List ℕ) (spans : List ByteRange) → Stands a held to → IsNew from
    → spans ≡ [] → b.unsynced ≡ with_handed a.unsynced from to
    → told_names b.unsynced held spans ≡ with_handed (told_names a.unsynced held spans) from to
handed-at a b held from to spans it new none handed =
    ap (λ (l : List ByteRange). told_names b.unsynced held l) none
    ∙ ap (λ (u : UnsyncedNames). told_names u held []) handed
    ∙ names-handed a.unsynced held from to new.undo it.plain.undo
    ∙ ap (λ (l : List ByteRange). with_handed (told_names a.unsynced held l) from to) (sym none)

-- what the renaming of a file that is told to be synced commits
pub renames-held : (a b : DiskSeen) (held from to : List ℕ) (spans : List ByteRange) (told : World) → Stands a held to
    → IsNew from → told_files a.files held spans ≡ told → (a.unsynced from ≡ false → IsDurable from a)
    → TakesStep (MayBeRenamed from to) a b → told_names a.unsynced held spans from ≡ false
    → Commits (with_new_name told from to ∷ []) a b
renames-held a b held from to spans told it new same kept takes synced =
    subst (λ (w : World). Commits (with_new_name w from to ∷ []) a b) same
    (commits_renamed from to new it.plain (told_files a.files held spans) a b
    (told-new a.files held spans from new.undo new.new)
    (kept (sym (names-told a.unsynced held spans from new.undo
    (are_kept-other held spans from (λ is. new-apart to from it.plain.new new.new (is ∙ it.is)))) ∙ synced))
    it.ready.closed takes)

-- what is told of a file is there where the file is, and is not where it is not
pub told-there : (file told : Option (List ℕ)) (spans : List ByteRange) → IsSome file
    → option_map (laid spans) file ≡ told → IsSome told
told-there (Some file) told spans there is = subst (λ (f : Option (List ℕ)). IsSome f) is refl
told-there None told spans there is = absurd (false≢true there)

-- a file that was found is there
pub found-there : (file : Option (List ℕ)) (found : Option ℕ) → found ≡ option_map length file
    → IsSome found → IsSome file
found-there (Some file) found is there = refl
found-there None found is there = subst (λ (f : Option ℕ). IsSome f) is there

-- the held file stays
pub held-beside : (Changes : Option (List ℕ) → Option (List ℕ) → Type 0) (held name : List ℕ) (a b : World)
    → IsPlain held → IsNew name → ChangesFile Changes name a b → b held ≡ a held
held-beside Changes held name a b plain new step =
    step.1 held (λ same. new-apart held name plain.new new.new (sym same))

-- and is recovered as before
pub recovered-beside : (Changes : Option (List ℕ) → Option (List ℕ) → Type 0) (held name : List ℕ) (a b : DiskSeen)
    → IsPlain held → IsNew name → DiskFollows (ChangesFile Changes name) a b
    → IsRecovered held (undo_name held) (a.files held) a → IsRecovered held (undo_name held) (b.files held) b
recovered-beside Changes held name a b plain new follows is =
    recovered-on held (undo_name held) (ChangesFile Changes name) a b
    (λ x y step. (
      held-beside Changes held name x y plain new step,
      step.1 (undo_name held) (λ same. undo-apart name held new.undo (sym same)),
    )) follows is

-- bytes that are written into a file whose name is new
pub written-beside : (a b : World) (held name : List ℕ) (spans : List ByteRange) (at : ℕ) (bytes : List ℕ) → IsNew name
    → b ≡ with_bytes a name at bytes → told_files b held spans ≡ with_bytes (told_files a held spans) name at bytes
written-beside a b held name spans at bytes new written =
    ap (λ (f : World). told_files f held spans) written ∙ told-written_new a held spans name at bytes new

-- a file whose name is new, put in the place of another one
pub put-beside : (a b : World) (held name : List ℕ) (spans : List ByteRange) (file : Option (List ℕ)) → IsNew name
    → b ≡ with_file a name file → told_files b held spans ≡ with_file (told_files a held spans) name file
put-beside a b held name spans file new put =
    ap (λ (f : World). told_files f held spans) put ∙ told-put_new a held spans name file new

-- its name, made so on the disk
pub names-beside : (a b : UnsyncedNames) (held name : List ℕ) (spans : List ByteRange) (is : Bool) → IsPlain held
    → IsNew name → b ≡ with_name a name is → told_names b held spans ≡ with_name (told_names a held spans) name is
names-beside a b held name spans is plain new made =
    ap (λ (u : UnsyncedNames). told_names u held spans) made
    ∙ names-put a held spans name is new.undo (are_kept-other held spans name (new-apart held name plain.new new.new))

-- where no file changed
pub same_told : (held : List ℕ) (spans : List ByteRange) (a b : World) → b ≡ a
    → told_files b held spans ≡ told_files a held spans
same_told held spans a b same = ap (λ (f : World). told_files f held spans) same
