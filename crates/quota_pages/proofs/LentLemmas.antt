-- The numbers of the pages that were lent for writing: no more are lent than were, and stand in a list.
use Rattle.std.proofs.Common.{◌≡◌, ℕ, ◌+◌, ◌-◌, ◌*◌, ◌<◌, ◌≤◌, Bool, true, false, cond, not, ◌&&◌, ◌||◌, IsTrue, List}
use Rattle.std.proofs.Common.{[], ◌∷◌, ◌++◌, length, refl, sym, ap, subst, ◌∙◌, inl, inr, arith, length-append}
use Rattle.std.specs.Prelude.{◌==◌}
use Rattle.std.proofs.lemmas.Bool.{cases_Bool, cases_lt, cond-false, cond_both, eqb-true, and_parts, not-true}
use Rattle.std.proofs.lemmas.Bool.{true≢false, false≢true}
use Rattle.std.proofs.lemmas.List.Sums.{sum_by-cons}
use Rattle.quota_types.specs.Times.{StandsIn, times}
use Rattle.quota_types.proofs.TimesLemmas.{length_of_times, times-append, times-cons}
use Rattle.quota_types.specs.Bytes.{byte_at}
use Rattle.file_blocks.specs.Block.{block_of, bytes_of}
use Rattle.outside.specs.Seen.{StoreSeen}
use Rattle.outside.specs.World.{World}
use Rattle.file_blocks.proofs.WordLemmas.{byte_at-block_of}
use Rattle.quota_pages.specs.Flushed.{flushed_files}
use Rattle.quota_pages.proofs.FlushLemmas.{bytes_flushed}
use Rattle.quota_pages.specs.Page.{Page, are_distinct, is_buffered, is_lent, lent_count, lent_numbers, shown}
use Rattle.quota_pages.specs.Pages.{pages_of}
use Rattle.quota_pages.specs.Used.{LendsSome}
use Rattle.quota_pages.specs.KeptBlocks.{KeepsBlocksBut}
use Rattle.quota_pages.specs.declared.page_buffer.Pages.{Pages}
use Rattle.quota_pages.proofs.BufferLemmas.{few_pages}
use Rattle.quota_pages.proofs.PageLemmas.{block_of-shown_other, is_lent-none}
use Rattle.quota_pages.proofs.LengthLemmas.{shown-ends, shown-grows}
use Rattle.quota_pages.proofs.UsedLemmas.{keeps_more}

pub length-lent_numbers : (pages : List Page) → length (lent_numbers pages) ≡ lent_count pages
length-lent_numbers [] = refl
length-lent_numbers (page ∷ pages) =
    one page.lent (lent_numbers pages) (lent_count pages) page.number (length-lent_numbers pages)
    ∙ sym (sum_by-cons (λ (p : Page). cond {A = ℕ} p.lent 1 0) page pages)
  where
    one : (lent : Bool) (numbers : List ℕ) (count number : ℕ) → length numbers ≡ count
        → length (cond lent (number ∷ numbers) numbers) ≡ cond lent 1 0 + count
    one true numbers count number is = omega (arith, is)
    one false numbers count number is = omega (arith, is)

-- a first page more, by whether it was lent, and whether it has the number
more_times : (lent same rest : Bool) (number other : ℕ) (numbers : List ℕ) → (number == other) ≡ same
    → (same ≡ true → rest ≡ false) → times numbers other ≡ cond rest 1 0
    → times (cond lent (number ∷ numbers) numbers) other ≡ cond ((lent && same) || rest) 1 0
more_times true true rest number other numbers is apart counts =
    times-cons number numbers other
    ∙ ap (λ (b : Bool). cond b 1 0 + times numbers other) is
    ∙ ap (λ (k : ℕ). 1 + k) (counts ∙ cond-false _ _ _ (apart refl))
more_times true false rest number other numbers is apart counts =
    times-cons number numbers other ∙ ap (λ (b : Bool). cond b 1 0 + times numbers other) is ∙ omega (arith, counts)
more_times false same rest number other numbers is apart counts = counts

times-lent_numbers : (pages : List Page) (number : ℕ) → IsTrue (are_distinct pages)
    → times (lent_numbers pages) number ≡ cond (is_lent pages number) 1 0
times-lent_numbers [] number distinct = refl
times-lent_numbers (page ∷ pages) number distinct =
    let parts = and_parts (not (is_buffered pages page.number)) (are_distinct pages) distinct in
    more_times page.lent (page.number == number) (is_lent pages number) page.number number (lent_numbers pages) refl
    (λ same.
    ap (is_lent pages) (sym (eqb-true page.number number same)) ∙ is_lent-none pages page.number (not-true _ parts.0))
    (times-lent_numbers pages number parts.1)

-- Where all but the numbers of a list are lent as they were, no more pages are lent than were, and stand in the list.
pub lent_count-among : (old new : List Page) (numbers : List ℕ) → IsTrue (are_distinct old) → IsTrue (are_distinct new)
    → ((number : ℕ) → times numbers number ≡ 0 → is_lent new number ≡ is_lent old number)
    → lent_count new ≤ lent_count old + length numbers
lent_count-among old new numbers was is same =
    let fewer : (number : ℕ) → times (lent_numbers new) number ≤ times (lent_numbers old ++ numbers) number = λ number.
    let now : times (lent_numbers new) number ≡ cond (is_lent new number) 1 0 = times-lent_numbers new number is in
    let before : times (lent_numbers old) number ≡ cond (is_lent old number) 1 0 = times-lent_numbers old number was in
    elim (cases_lt 0 (times numbers number)) [
      | inl stands ↦
          let one : cond {A = ℕ} (is_lent new number) 1 0 ≤ 1 =
          cond_both (is_lent new number) 1 0 (λ (k : ℕ). k ≤ 1) (λ lent. omega arith) (λ none. omega arith) in
          omega (arith, now, one, stands, times-append (lent_numbers old) numbers number)
      | inr none ↦
          let equal : cond {A = ℕ} (is_lent new number) 1 0 ≡ cond (is_lent old number) 1 0 =
          ap (λ (b : Bool). cond {A = ℕ} b 1 0) (same number (omega arith)) in
          omega (arith, now, before, equal, times-append (lent_numbers old) numbers number)
    ] in
    omega (
      arith,
      length_of_times (lent_numbers new) (lent_numbers old ++ numbers) fewer,
      length-append (lent_numbers old) numbers,
      length-lent_numbers new,
      length-lent_numbers old,
    )

-- What was lent for writing of some blocks was lent of any list that they stand in: a block that was lent twice counts
-- once.
pub lends_among : {tells ok : Bool} {count : ℕ} {numbers : List ℕ} {before now : StoreSeen} {old new : Pages}
    (more : List ℕ) → ((number : ℕ) → StandsIn numbers number → StandsIn more number)
    → LendsSome tells ok count numbers before now old new → LendsSome tells ok count more before now old new
unfolding pages_of
lends_among {numbers} {old} {new} more among lends =
    let lent : (number : ℕ) → times more number ≡ 0 → is_lent (pages_of new) number ≡ is_lent (pages_of old) number =
    λ number none.
    lends.lent number (none_of (times numbers number) (times more number) (among number) none) in
    record {
      name = lends.name;
      few = lends.few;
      stay = lends.stay;
      shows = λ file. keeps_more more among (lends.shows file);
      lent = lent;
      still_lent = lends.still_lent;
      lent_count = lent_count-among (pages_of old) (pages_of new) more old.distinct new.distinct lent;
      known = lends.known;
      leaves = lends.leaves;
      reads = lends.reads;
    }
  where
    none_of : (one other : ℕ) → (1 ≤ one → 1 ≤ other) → other ≡ 0 → one ≡ 0
    none_of one other among none = grind arith

-- a block that was lent for writing is buffered
pub buffered_if_lent : (pages : List Page) (number : ℕ) → is_lent pages number ≡ true → is_buffered pages number ≡ true
buffered_if_lent pages number lent =
    elim (cases_Bool (is_buffered pages number)) [
      | inl there ↦ there
      | inr none ↦ absurd (true≢false (sym lent ∙ is_lent-none pages number none))
    ]

-- its number stands among those of the pages that were lent
one_more_stands : (lent same rest : Bool) (number other : ℕ) (numbers : List ℕ) → (number == other) ≡ same
    → (rest ≡ true → StandsIn numbers other) → ((lent && same) || rest) ≡ true
    → StandsIn (cond lent (number ∷ numbers) numbers) other
one_more_stands true true rest number other numbers is stands passed =
    omega (arith, times-cons number numbers other, ap (λ (b : Bool). cond {A = ℕ} b 1 0) is)
one_more_stands true false rest number other numbers is stands passed =
    omega (arith, times-cons number numbers other, stands passed)
one_more_stands false same rest number other numbers is stands passed = stands passed

pub lent_stands : (pages : List Page) (number : ℕ) → is_lent pages number ≡ true → StandsIn (lent_numbers pages) number
lent_stands [] number lent = absurd (false≢true lent)
lent_stands (page ∷ pages) number lent =
    one_more_stands page.lent (page.number == number) (is_lent pages number) page.number number (lent_numbers pages)
    refl (lent_stands pages number) lent

-- and no other number does
no_more_stands : (lent same rest : Bool) (number other : ℕ) (numbers : List ℕ) → (number == other) ≡ same
    → (rest ≡ false → times numbers other ≡ 0) → ((lent && same) || rest) ≡ false
    → times (cond lent (number ∷ numbers) numbers) other ≡ 0
no_more_stands true true rest number other numbers is none failed = absurd (true≢false failed)
no_more_stands true false rest number other numbers is none failed =
    times-cons number numbers other ∙ ap (λ (b : Bool). cond b 1 0 + times numbers other) is
    ∙ omega (arith, none failed)
no_more_stands false same rest number other numbers is none failed = none failed

pub not_lent_stands_not : (pages : List Page) (number : ℕ) → is_lent pages number ≡ false
    → times (lent_numbers pages) number ≡ 0
not_lent_stands_not [] number none = refl
not_lent_stands_not (page ∷ pages) number none =
    no_more_stands page.lent (page.number == number) (is_lent pages number) page.number number (lent_numbers pages) refl
    (not_lent_stands_not pages number) none

pub lent_of_stands : (pages : List Page) (number : ℕ) → StandsIn (lent_numbers pages) number
    → is_lent pages number ≡ true
lent_of_stands pages number stands =
    elim (cases_Bool (is_lent pages number)) [
      | inl lent ↦ lent
      | inr none ↦ absurd (omega (arith, stands, not_lent_stands_not pages number none))
    ]

pub none_lent : (pages : List Page) (number : ℕ) → times (lent_numbers pages) number ≡ 0 → is_lent pages number ≡ false
none_lent pages number none =
    elim (cases_Bool (is_lent pages number)) [
      | inl lent ↦ absurd (omega (arith, none, lent_stands pages number lent))
      | inr kept ↦ kept
    ]

-- no more pages were lent than there are
pub few_lent : (pages : List Page) → lent_count pages ≤ length pages
few_lent [] = omega arith
few_lent (page ∷ pages) =
    omega (arith, few_lent pages, one page.lent, sum_by-cons (λ (p : Page). cond {A = ℕ} p.lent 1 0) page pages)
  where
    one : (lent : Bool) → cond {A = ℕ} lent 1 0 ≤ 1
    one true = omega arith
    one false = omega arith

-- at most twelve, and none twice
pub few_numbers : (buffer : Pages) → length (lent_numbers (pages_of buffer)) ≤ 12
few_numbers buffer = omega (arith, length-lent_numbers (pages_of buffer), few_lent (pages_of buffer), few_pages buffer)

pub distinct_numbers : (buffer : Pages) (number : ℕ) → times (lent_numbers (pages_of buffer)) number ≤ 1
unfolding pages_of
distinct_numbers buffer number =
    let count : times (lent_numbers (pages_of buffer)) number ≡ cond (is_lent (pages_of buffer) number) 1 0 =
    times-lent_numbers (pages_of buffer) number buffer.distinct in
    let one : cond {A = ℕ} (is_lent (pages_of buffer) number) 1 0 ≤ 1 =
    cond_both (is_lent (pages_of buffer) number) 1 0 (λ (k : ℕ). k ≤ 1) (λ lent. omega arith) (λ none. omega arith) in
    omega (arith, count, one)

-- what is shown differs from the file in blocks that were lent alone
pub keeps_but_lent : (pages : List Page) (file : List ℕ) → KeepsBlocksBut (lent_numbers pages) file (shown pages file)
keeps_but_lent pages file = record {
  others = λ number none. block_of-shown_other file pages number (none_lent pages number none);
  longer = shown-grows file pages;
  within = λ blocks below. elim (shown-ends file pages) [
    | inl same ↦ omega (arith, same)
    | inr (number, lent, is) ↦ let low : number < blocks = below number (lent_stands pages number lent) in
        omega (arith, is, low)
  ];
}

-- so the file after a flush, which is what was shown
pub keeps_flushed : (files : World) (name : List ℕ) (pages : List Page)
    → KeepsBlocksBut (lent_numbers pages) (bytes_of (files name)) (bytes_of (flushed_files files name pages name))
keeps_flushed files name pages =
    subst (λ (file : List ℕ). KeepsBlocksBut (lent_numbers pages) (bytes_of (files name)) file)
    (sym (bytes_flushed files name pages)) (keeps_but_lent pages (bytes_of (files name)))

byte_of_block : (old new : List ℕ) (number at place : ℕ) → block_of new number ≡ block_of old number → place < 1024
    → at ≡ 1024 * number + place → byte_at new at ≡ byte_at old at
byte_of_block old new number at place same low is =
    ap (byte_at new) is
    ∙ sym (byte_at-block_of new number place low)
    ∙ ap (λ (block : List ℕ). byte_at block place) same
    ∙ byte_at-block_of old number place low
    ∙ ap (byte_at old) (sym is)

pub byte_flushed : (files : World) (name : List ℕ) (pages : List Page) (number at : ℕ) → is_lent pages number ≡ false
    → 1024 * number ≤ at → at < 1024 * number + 1024
    → byte_at (bytes_of (flushed_files files name pages name)) at ≡ byte_at (bytes_of (files name)) at
byte_flushed files name pages number at none from low =
    byte_of_block (bytes_of (files name)) (bytes_of (flushed_files files name pages name)) number at
    (at - 1024 * number)
    ((keeps_flushed files name pages).others number (not_lent_stands_not pages number none)) (omega arith) (omega arith)
