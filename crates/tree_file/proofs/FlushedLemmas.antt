-- A buffer of pages that was empty, was changed, and was then flushed: what the named file is, and what it is where
-- that failed.
use Rattle.std.proofs.Common.{◌≡◌, ℕ, ◌<◌, Bool, IsTrue, List, [], Some, inl, inr, refl, sym, ap, subst, ◌∙◌}
use Rattle.std.specs.Prelude.{IsSome}
use Rattle.std.proofs.lemmas.Bool.{cases_Bool}
use Rattle.file_blocks.specs.Block.{bytes_of}
use Rattle.free_chains.specs.declared.heads.Heads.{Heads}
use Rattle.outside.specs.Seen.{StoreSeen}
use Rattle.outside.specs.World.{KeepsOthers, World}
use Rattle.outside.proofs.WorldLemmas.{KeepsOthers-with_file, with_file-at}
use Rattle.quota_pages.specs.Flushed.{IsPartlyFlushed, flushed_files}
use Rattle.quota_pages.specs.Page.{Page, is_some_lent, shown}
use Rattle.quota_pages.specs.Pages.{name_of, pages_of}
use Rattle.quota_pages.specs.Used.{IsKnown, UsesPages, shown_over}
use Rattle.quota_pages.specs.declared.page_buffer.Pages.{Pages}
use Rattle.quota_pages.proofs.FlushLemmas.{bytes_flushed}
use Rattle.entry_codec.specs.Header.{header_of}
use Rattle.entry_codec.specs.Spelling.{AreOf}
use Rattle.entry_codec.specs.declared.header.Header.{Header}
use Rattle.quota_value.specs.QuotaValue.{QuotaValue}
use Rattle.tree_meaning.specs.TreeHeads.{heads_of}
use Rattle.tree_meaning.specs.TreeFile.{TreeStandsFor}
use Rattle.tree_change.specs.ChangeFault.{IsChangeFault}
use Rattle.tree_change.specs.declared.change_fault.ChangeFault.{ChangeFault}
use Rattle.tree_change.specs.declared.change_fault.ChangeFault.TheVariants.{Store, Damage as Damaged, Full}
use Rattle.tree_file.specs.InPlace.{IsLeftSo, IsNoFileOf, WritesSo}
use Rattle.tree_change.specs.BlocksWanted.{blocks_with}
use Rattle.tree_file.proofs.GraceChangeLemmas.{known_empty}
use Rattle.tree_file.specs.TreeChange.{TreeLeaves}
use Rattle.tree_file.proofs.LooksUpLemmas.{shown_empty}
use Rattle.tree_file.proofs.TornLemmas.{flushed_not, flushed_some, leaves_flushed}

-- a flush leaves all other files
others_flushed : (files : World) (name : List ℕ) (pages : List Page)
    → KeepsOthers name files (flushed_files files name pages)
others_flushed files name pages = elim (cases_Bool (is_some_lent pages)) [
  | inl some ↦ subst (KeepsOthers name files) (sym (flushed_some files name pages some))
      (KeepsOthers-with_file files name (Some (shown pages (bytes_of (files name)))))
  | inr none ↦ subst (KeepsOthers name files) (sym (flushed_not files name pages none)) (λ other apart. refl)
]

-- and a file that is there is there
there_flushed : (files : World) (name : List ℕ) (pages : List Page) → IsSome (files name)
    → IsSome (flushed_files files name pages name)
there_flushed files name pages there = elim (cases_Bool (is_some_lent pages)) [
  | inl some ↦
      subst IsSome (sym
      (ap (λ (f : World). f name) (flushed_some files name pages some)
      ∙ with_file-at files name (Some (shown pages (bytes_of (files name)))))) refl
  | inr none ↦ subst IsSome (sym (ap (λ (f : World). f name) (flushed_not files name pages none))) there
]

module _ (tells ok : Bool) (count : ℕ) (before between : StoreSeen) (old lent : Pages) (empty : pages_of old ≡ [])
    (uses : UsesPages tells ok count before between old lent) where
  abbrev made : World
  made = flushed_files before.files (name_of old) (pages_of lent)

  same_made : flushed_files between.files (name_of lent) (pages_of lent) ≡ made
  same_made =
      ap (λ (f : World). flushed_files f (name_of lent) (pages_of lent)) uses.leaves.files
      ∙ ap (λ (n : List ℕ). flushed_files before.files n (pages_of lent)) uses.name

  bytes_made : bytes_of (made (name_of old)) ≡ shown_over between lent
  bytes_made =
      bytes_flushed before.files (name_of old) (pages_of lent)
      ∙ ap (λ (f : World). shown (pages_of lent) (bytes_of (f (name_of old)))) (sym uses.leaves.files)
      ∙ ap (λ (n : List ℕ). shown (pages_of lent) (bytes_of (between.files n))) (sym uses.name)

  writes_made : (so : List ℕ → List ℕ → Type 0) → so (shown_over before old) (shown_over between lent)
      → WritesSo so (name_of old) before.files made
  writes_made so is = record {
    there = there_flushed before.files (name_of old) (pages_of lent);
    related = subst (λ (file : List ℕ). so file (bytes_of (made (name_of old)))) (sym (shown_empty before old empty))
        (subst (so (shown_over before old)) (sym bytes_made) is);
    others = others_flushed before.files (name_of old) (pages_of lent);
  }

  -- the file once it was flushed
  pub written : (so : List ℕ → List ℕ → Type 0) → so (shown_over before old) (shown_over between lent) → (new : World)
      → new ≡ flushed_files between.files (name_of lent) (pages_of lent)
      → WritesSo so (name_of old) before.files new
  written so is new same = subst (WritesSo so (name_of old) before.files) (sym (same ∙ same_made)) (writes_made so is)

  -- the file where a flush failed
  pub left_so : (so : Heads → List ℕ → List ℕ → Type 0) (heads : Heads)
      → so heads (shown_over before old) (shown_over between lent) → (new : World)
      → IsPartlyFlushed (name_of lent) (pages_of lent) between.files new → IsLeftSo so (name_of old) before.files new
  left_so so heads is new partly = record {
    heads = heads;
    after = made;
    made = writes_made (so heads) is;
    left =
        subst
        (λ (n : List ℕ). TreeLeaves (before.files n) (flushed_files before.files n (pages_of lent) n) (new n)) uses.name
        (leaves_flushed lent before.files new
        (subst (λ (f : World). IsPartlyFlushed (name_of lent) (pages_of lent) f new) uses.leaves.files partly));
  }

-- what a refusal says of what an empty buffer shows is said of the named file
module _ (tells : Bool) (before : StoreSeen) (old : Pages) (empty : pages_of old ≡ []) (header : Header) where
  abbrev named : List ℕ
  named = bytes_of (before.files (name_of old))

  -- a fact of what is shown, where that is known and has this header, is one of the named file, where the store tells
  -- it
  pub of_named : (fact : List ℕ → QuotaValue → Type 0)
      → (IsKnown tells before old → AreOf header (header_of (shown_over before old)) → (value : QuotaValue)
      → TreeStandsFor (shown_over before old) value → fact (shown_over before old) value)
      → IsTrue tells → AreOf header (header_of named) → (value : QuotaValue) → TreeStandsFor named value
      → fact named value
  of_named fact of_shown told =
      subst (λ (file : List ℕ). AreOf header (header_of file) → (value : QuotaValue) → TreeStandsFor file value
      → fact file value) (sym (shown_empty before old empty))
      (of_shown (known_empty tells before old empty told))

  pub refused_shown : (now limit id : ℕ) (fault : ChangeFault)
      → IsChangeFault before.faults now
      (IsKnown tells before old → AreOf header (header_of (shown_over before old)) → (value : QuotaValue)
      → ¬ TreeStandsFor (shown_over before old) value)
      (λ blocks most. (most ≡ limit) × (limit < blocks)
      × (IsKnown tells before old → AreOf header (header_of (shown_over before old)) → (value : QuotaValue)
      → TreeStandsFor (shown_over before old) value
      → blocks ≡ blocks_with (shown_over before old) (heads_of (header_of (shown_over before old))) id)) fault
      → IsChangeFault before.faults now (IsNoFileOf tells header named)
      (λ blocks most. (most ≡ limit) × (limit < blocks)
      × (IsTrue tells → AreOf header (header_of named) → (value : QuotaValue) → TreeStandsFor named value
      → blocks ≡ blocks_with named (heads_of (header_of named)) id)) fault
  refused_shown now limit id Store rose = rose
  refused_shown now limit id (Damaged damage) refused = (refused.0, of_named (λ file value. ⊥) refused.1)
  refused_shown now limit id (Full blocks most) full =
      (full.0, full.1, of_named (λ file value. blocks ≡ blocks_with file (heads_of (header_of file)) id) full.2)

  pub damaged_shown : (now : ℕ) (fault : ChangeFault)
      → IsChangeFault before.faults now
      (IsKnown tells before old → AreOf header (header_of (shown_over before old)) → (value : QuotaValue)
      → ¬ TreeStandsFor (shown_over before old) value) (λ _ _. ⊥) fault
      → IsChangeFault before.faults now (IsNoFileOf tells header named) (λ _ _. ⊥) fault
  damaged_shown now Store rose = rose
  damaged_shown now (Damaged damage) refused = (refused.0, of_named (λ file value. ⊥) refused.1)
  damaged_shown now (Full blocks most) full = full
