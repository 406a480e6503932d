-- Pages that are laid over a file over which the first of them lie already.
use Rattle.std.proofs.Common.{◌≡◌, ℕ, zero, suc, inl, inr, Bool, false, not, ◌&&◌, ◌||◌, IsTrue, List, [], ◌∷◌, get_or}
use Rattle.std.proofs.Common.{take, refl, sym, ap, subst, ◌∙◌}
use Rattle.std.specs.Prelude.{◌==◌, fold}
use Rattle.std.proofs.lemmas.Bool.{cases_Bool, cond-true, cond-false, or_parts, and_parts, not-true}
use Rattle.file_blocks.specs.Block.{bytes_of}
use Rattle.outside.specs.World.{World}
use Rattle.quota_pages.specs.Overlay.{with_block}
use Rattle.quota_pages.specs.Flushed.{IsPartlyFlushed}
use Rattle.quota_pages.specs.Page.{IsClean, Page, are_distinct, is_buffered, is_lent, shown, with_page}
use Rattle.quota_pages.specs.Pages.{name_of, pages_of}
use Rattle.quota_pages.specs.declared.page_buffer.Pages.{Pages}
use Rattle.quota_pages.proofs.BlockLemmas.{with_block-again}
use Rattle.quota_pages.proofs.FlushLemmas.{bytes_flushed}
use Rattle.quota_pages.proofs.PageLemmas.{block_of-shown_other, folded_swap, is_lent-at}

-- a page that is laid over a file twice
page_twice : (file : List ℕ) (page : Page) → with_page (with_page file page) page ≡ with_page file page
page_twice file page =
    elim (cases_Bool page.lent) [
      | inl lent ↦ cond-true _ _ _ lent
          ∙ ap (λ (f : List ℕ). with_block f page.number page.bytes) (cond-true _ _ _ lent)
          ∙ with_block-again file page.number page.bytes page.bytes
          ∙ sym (cond-true _ _ _ lent)
      | inr kept ↦ cond-false _ _ _ kept
    ]

-- a page of another number is laid over a file after pages, or before them
folded_page : (file : List ℕ) (pages : List Page) (page : Page) → is_buffered pages page.number ≡ false
    → fold with_page (with_page file page) pages ≡ with_page (fold with_page file pages) page
folded_page file pages page other =
    elim (cases_Bool page.lent) [
      | inl lent ↦ ap (λ (f : List ℕ). fold with_page f pages) (cond-true _ _ _ lent)
          ∙ folded_swap file pages page.number page.bytes other
          ∙ sym (cond-true _ _ _ lent)
      | inr kept ↦ ap (λ (f : List ℕ). fold with_page f pages) (cond-false _ _ _ kept) ∙ sym (cond-false _ _ _ kept)
    ]

-- a number that is not buffered is not buffered among the first pages
is_buffered-take : (pages : List Page) (count number : ℕ) → is_buffered pages number ≡ false
    → is_buffered (take count pages) number ≡ false
is_buffered-take pages zero number none = refl
is_buffered-take [] (suc count) number none = refl
is_buffered-take (page ∷ pages) (suc count) number none =
    let parts = or_parts (page.number == number) (is_buffered pages number) none in
    ap (λ (b : Bool). b || is_buffered (take count pages) number) parts.0 ∙ is_buffered-take pages count number parts.1

is_lent-take : (pages : List Page) (count number : ℕ) → is_lent pages number ≡ false
    → is_lent (take count pages) number ≡ false
is_lent-take pages zero number none = refl
is_lent-take [] (suc count) number none = refl
is_lent-take (page ∷ pages) (suc count) number none =
    let parts = or_parts (page.lent && page.number == number) (is_lent pages number) none in
    ap (λ (b : Bool). b || is_lent (take count pages) number) parts.0 ∙ is_lent-take pages count number parts.1

folded_again : (file : List ℕ) (pages : List Page) (count : ℕ) → IsTrue (are_distinct pages)
    → fold with_page (fold with_page file (take count pages)) pages ≡ fold with_page file pages
folded_again file pages zero distinct = refl
folded_again file [] (suc count) distinct = refl
folded_again file (page ∷ pages) (suc count) distinct =
    let parts = and_parts (not (is_buffered pages page.number)) (are_distinct pages) distinct in
    let first : List ℕ = with_page file page in
    let other : is_buffered (take count pages) page.number ≡ false =
    is_buffered-take pages count page.number (not-true _ parts.0) in
    ap (λ (f : List ℕ). fold with_page f pages)
    (sym (folded_page first (take count pages) page other)
    ∙ ap (λ (f : List ℕ). fold with_page f (take count pages)) (page_twice file page))
    ∙ folded_again first pages count parts.1

-- what pages show stays where the first of them were laid over the file
shown-again : (file : List ℕ) (pages : List Page) (count : ℕ) → IsTrue (are_distinct pages)
    → shown pages (shown (take count pages) file) ≡ shown pages file
unfolding shown
shown-again file pages count distinct = folded_again file pages count distinct

-- the pages that were not lent for writing stay the blocks of the file
clean-again : (file : List ℕ) (pages : List Page) (count : ℕ) → IsTrue (are_distinct pages) → IsClean pages file
    → IsClean pages (shown (take count pages) file)
unfolding IsClean
clean-again file pages count distinct clean = λ place d within kept.
    let number : ℕ = (get_or pages place d).number in
    let unlent : is_lent pages number ≡ false = is_lent-at pages place number d within refl distinct ∙ kept in
    clean place d within kept
    ∙ sym (block_of-shown_other file (take count pages) number (is_lent-take pages count number unlent))

-- the file of a buffer after a fault of a flush
file_left : (buffer : Pages) (old new : World) (partly : IsPartlyFlushed (name_of buffer) (pages_of buffer) old new)
    → bytes_of (new (name_of buffer)) ≡ shown (take partly.count (pages_of buffer)) (bytes_of (old (name_of buffer)))
file_left buffer old new partly =
    ap (λ (files : World). bytes_of (files (name_of buffer))) partly.files
    ∙ bytes_flushed old (name_of buffer) (take partly.count (pages_of buffer))

-- after a fault of a flush the buffer shows what it showed, and is as clean as it was
pub shown_left : (buffer : Pages) (old new : World) → IsPartlyFlushed (name_of buffer) (pages_of buffer) old new
    → shown (pages_of buffer) (bytes_of (new (name_of buffer)))
    ≡ shown (pages_of buffer) (bytes_of (old (name_of buffer)))
unfolding pages_of
shown_left buffer old new partly =
    ap (λ (file : List ℕ). shown (pages_of buffer) file) (file_left buffer old new partly)
    ∙ shown-again (bytes_of (old (name_of buffer))) (pages_of buffer) partly.count buffer.distinct

pub clean_left : (buffer : Pages) (old new : World) → IsPartlyFlushed (name_of buffer) (pages_of buffer) old new
    → IsClean (pages_of buffer) (bytes_of (old (name_of buffer)))
    → IsClean (pages_of buffer) (bytes_of (new (name_of buffer)))
unfolding pages_of
clean_left buffer old new partly clean =
    subst (λ (file : List ℕ). IsClean (pages_of buffer) file) (sym (file_left buffer old new partly))
    (clean-again (bytes_of (old (name_of buffer))) (pages_of buffer) partly.count buffer.distinct clean)
