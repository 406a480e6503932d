-- A file of which a flush wrote some blocks: each is the old or the new one.
use Rattle.std.proofs.Common.{◌≡◌, ℕ, ◌≤◌, arith, length, Bool, true, false, ◌&&◌, ◌||◌, List, [], ◌∷◌, take, drop}
use Rattle.std.proofs.Common.{Option, Some, inl, inr, sym, ap, subst, ◌∙◌, refl}
use Rattle.std.specs.Prelude.{◌==◌, IsSome, fold}
use Rattle.std.proofs.lemmas.Bool.{cases_Bool, cond-true, cond-false, false≢true}
use Rattle.std.proofs.lemmas.List.{take-append-drop}
use Rattle.std.proofs.lemmas.List.Folds.{list_any-append}
use Rattle.std.proofs.lemmas.List.Sums.{fold-append}
use Rattle.quota_types.specs.Times.{StandsIn}
use Rattle.file_blocks.specs.Block.{block_of, bytes_of}
use Rattle.outside.specs.Frame.{ChangesOne, OnlyReads}
use Rattle.outside.specs.Seen.{StoreSeen}
use Rattle.outside.specs.World.{World, with_file}
use Rattle.outside.proofs.WorldLemmas.{with_file-at}
use Rattle.opened_file.specs.EditsOne.{EditsOne, StaysUnlessWritten}
use Rattle.opened_file.specs.QuotaFile.{ChangesBlocks}
use Rattle.opened_file.proofs.EditsOneLemmas.{edits_one-after_read, edits_one-changed}
use Rattle.quota_pages.specs.Flushed.{IsPartlyFlushed, flushed_files}
use Rattle.quota_pages.specs.Page.{Page, is_lent, is_some_lent, lent_numbers, shown, with_page}
use Rattle.quota_pages.specs.Pages.{name_of, pages_of}
use Rattle.quota_pages.specs.KeptBlocks.{KeepsBlocksBut}
use Rattle.quota_pages.specs.declared.page_buffer.Pages.{Pages}
use Rattle.quota_pages.proofs.BufferLemmas.{block_left}
use Rattle.quota_pages.proofs.FlushLemmas.{bytes_flushed}
use Rattle.quota_pages.proofs.LengthLemmas.{shown-grows}
use Rattle.quota_pages.proofs.LentLemmas.{few_numbers, keeps_flushed, lent_of_stands, lent_stands}
use Rattle.quota_pages.proofs.UsedLemmas.{keeps_more}
use Rattle.tree_file.specs.TreeChange.{IsTorn, TreeLeaves}

-- where some page was lent for writing the named file is what was shown, and otherwise nothing has changed
pub flushed_some : (files : World) (name : List ℕ) (pages : List Page) → is_some_lent pages ≡ true
    → flushed_files files name pages ≡ with_file files name (Some (shown pages (bytes_of (files name))))
unfolding flushed_files
flushed_some files name pages some = cond-true _ _ _ some

pub flushed_not : (files : World) (name : List ℕ) (pages : List Page) → is_some_lent pages ≡ false
    → flushed_files files name pages ≡ files
unfolding flushed_files
flushed_not files name pages none = cond-false _ _ _ none

one_lent : (lent same rest some : Bool) → (rest ≡ true → some ≡ true) → ((lent && same) || rest) ≡ true
    → (lent || some) ≡ true
one_lent true same rest some passed is = refl
one_lent false same rest some passed is = passed is

-- where a block was lent for writing some page was
pub some_lent : (pages : List Page) (number : ℕ) → is_lent pages number ≡ true → is_some_lent pages ≡ true
some_lent [] number lent = absurd (false≢true lent)
some_lent (page ∷ pages) number lent =
    one_lent page.lent (page.number == number) (is_lent pages number) (is_some_lent pages) (some_lent pages number) lent

-- a block that was lent for writing among the first pages was among all
lent_in_part : (pages : List Page) (count number : ℕ) → is_lent (take count pages) number ≡ true
    → is_lent pages number ≡ true
lent_in_part pages count number lent =
    ap (λ (ps : List Page). is_lent ps number) (sym (take-append-drop count pages))
    ∙ list_any-append (λ (page : Page). page.lent && page.number == number) (take count pages) (drop count pages)
    ∙ ap (λ (b : Bool). b || is_lent (drop count pages) number) lent

stands_in_part : (pages : List Page) (count number : ℕ) → StandsIn (lent_numbers (take count pages)) number
    → StandsIn (lent_numbers pages) number
stands_in_part pages count number stands =
    lent_stands pages number (lent_in_part pages count number (lent_of_stands (take count pages) number stands))

-- what all pages show is no shorter than what the first ones do
grows_on : (pages : List Page) (count : ℕ) (file : List ℕ)
    → length (shown (take count pages) file) ≤ length (shown pages file)
unfolding shown
grows_on pages count file =
    let whole : fold with_page file pages ≡ fold with_page (fold with_page file (take count pages)) (drop count pages) =
    ap (fold with_page file) (sym (take-append-drop count pages))
    ∙ fold-append with_page file (take count pages) (drop count pages) in
    omega (arith, ap {B = ℕ} length whole, shown-grows (fold with_page file (take count pages)) (drop count pages))

-- of the blocks that were lent for writing each is the old or the new one, and all others stay
pub torn_flushed : (buffer : Pages) (old new : World) → IsPartlyFlushed (name_of buffer) (pages_of buffer) old new
    → IsTorn (bytes_of (old (name_of buffer)))
    (bytes_of (flushed_files old (name_of buffer) (pages_of buffer) (name_of buffer))) (bytes_of (new (name_of buffer)))
torn_flushed buffer old new partly =
    let name = name_of buffer in
    let pages = pages_of buffer in
    record {
      numbers = lent_numbers pages;
      few = few_numbers buffer;
      near = keeps_flushed old name pages;
      others =
          subst (λ (file : List ℕ). KeepsBlocksBut (lent_numbers pages) (bytes_of (old name)) file)
          (sym (ap (λ (files : World). bytes_of (files name)) partly.files))
          (keeps_more (lent_numbers pages) (stands_in_part pages partly.count)
          (keeps_flushed old name (take partly.count pages)));
      shorter = omega (
        arith,
        grows_on pages partly.count (bytes_of (old name)),
        ap {B = ℕ} length
            (ap (λ (files : World). bytes_of (files name)) partly.files
            ∙ bytes_flushed old name (take partly.count pages)),
        ap {B = ℕ} length (bytes_flushed old name pages),
      );
      each = λ number. elim (block_left buffer old new number partly) [
        | inl kept ↦ inl kept
        | inr shows ↦ inr (shows ∙ sym (ap (λ (file : List ℕ). block_of file number) (bytes_flushed old name pages)))
      ];
    }

some_file : (file : Option (List ℕ)) (bytes : List ℕ) → file ≡ Some bytes → IsSome file
some_file file bytes is = subst IsSome (sym is) refl

-- a flush that failed leaves the old file, or one that lies between it and the one that was shown
pub leaves_flushed : (buffer : Pages) (old new : World) → IsPartlyFlushed (name_of buffer) (pages_of buffer) old new
    → TreeLeaves (old (name_of buffer)) (flushed_files old (name_of buffer) (pages_of buffer) (name_of buffer))
    (new (name_of buffer))
leaves_flushed buffer old new partly =
    let name = name_of buffer in
    let part : List Page = take partly.count (pages_of buffer) in
    elim (cases_Bool (is_some_lent part)) [
      | inl some ↦ inr (
        some_file (new name) (shown part (bytes_of (old name)))
            (ap (λ (files : World). files name) (partly.files ∙ flushed_some old name part some)
            ∙ with_file-at old name (Some (shown part (bytes_of (old name))))),
        torn_flushed buffer old new partly,
      )
      | inr none ↦ inl (ap (λ (files : World). files name) (partly.files ∙ flushed_not old name part none))
    ]

-- blocks that have not changed but for a list of twelve at most
few_changed : (numbers before after : List ℕ) → length numbers ≤ 12 → KeepsBlocksBut numbers before after
    → ChangesBlocks 12 before after
few_changed numbers before after few keeps =
    record { numbers = numbers; few = few; others = keeps.others; longer = keeps.longer; within = keeps.within }

pub few_flushed : (buffer : Pages) (old new : World) → new ≡ flushed_files old (name_of buffer) (pages_of buffer)
    → ChangesBlocks 12 (bytes_of (old (name_of buffer))) (bytes_of (new (name_of buffer)))
few_flushed buffer old new is =
    few_changed (lent_numbers (pages_of buffer)) (bytes_of (old (name_of buffer))) (bytes_of (new (name_of buffer)))
    (few_numbers buffer)
    (subst (λ (files : World). KeepsBlocksBut (lent_numbers (pages_of buffer)) (bytes_of (old (name_of buffer)))
    (bytes_of (files (name_of buffer)))) (sym is)
    (keeps_flushed old (name_of buffer) (pages_of buffer)))

pub few_torn : (buffer : Pages) (old new : World) → IsPartlyFlushed (name_of buffer) (pages_of buffer) old new
    → ChangesBlocks 12 (bytes_of (old (name_of buffer))) (bytes_of (new (name_of buffer)))
few_torn buffer old new partly =
    let torn = torn_flushed buffer old new partly in
    few_changed torn.numbers (bytes_of (old (name_of buffer))) (bytes_of (new (name_of buffer))) torn.few torn.others

pub few_same : (name : List ℕ) (old new : World) → new ≡ old
    → ChangesBlocks 12 (bytes_of (old name)) (bytes_of (new name))
few_same name old new same = record {
  numbers = [];
  few = omega arith;
  others = λ number none. ap (λ (files : World). block_of (bytes_of (files name)) number) same;
  longer = let e = ap (λ (files : World). length (bytes_of (files name))) same in omega (arith, e);
  within = λ blocks below. let e = ap (λ (files : World). length (bytes_of (files name))) same in omega (arith, e);
}

-- a flush behind calls that only read is a change of one file
pub edits_flushed : {done : Bool} (name one : List ℕ) (before between now : StoreSeen) → one ≡ name
    → OnlyReads done name before between → ChangesOne one between now → StaysUnlessWritten between now
    → EditsOne name before now
edits_flushed name one before between now same read leaves written =
    edits_one-after_read name before between now read
    (edits_one-changed name between now (subst (λ (n : List ℕ). ChangesOne n between now) same leaves) written)
