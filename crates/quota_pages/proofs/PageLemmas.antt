-- What pages show over a file, one page after another.
use Rattle.std.proofs.Common.{◌≡◌, ◌≢◌, ℕ, zero, suc, ◌+◌, ◌<◌, ◌⊎◌, inl, inr, Bool, true, false, cond}
use Rattle.std.proofs.Common.{not, ◌&&◌, ◌||◌, IsTrue, List, [], ◌∷◌, ◌++◌, length, set, get_or, take, drop, refl, sym}
use Rattle.std.proofs.Common.{ap, ◌∙◌, arith, eq-eqb, length-append}
use Rattle.std.specs.Prelude.{◌==◌, All, fold}
use Rattle.std.proofs.Math.Bool.{and-false, and-true, or-false, or-true}
use Rattle.std.proofs.lemmas.Bool.{cases_Bool, cond-true, cond-false, true≢false, false≢true, eqb-true}
use Rattle.std.proofs.lemmas.Bool.{false_from_ne_true, or_parts, and_parts, not-true}
use Rattle.std.proofs.lemmas.List.{get_or_append_left, set-get_or, take-append-drop}
use Rattle.std.proofs.lemmas.List.Elements.{All-push, All-set}
use Rattle.std.proofs.lemmas.List.Folds.{list_any-append, list_any_at}
use Rattle.std.proofs.lemmas.List.Sums.{fold-append, sum_by-append, sum_by-set}
use Rattle.file_blocks.specs.Block.{block_of}
use Rattle.quota_pages.specs.Overlay.{whole_block, with_block}
use Rattle.quota_pages.specs.Page.{IsClean, Page, are_distinct, is_buffered, is_lent, lent_count, shown, with_page}
use Rattle.quota_pages.proofs.BlockLemmas.{block_of-with_block_other, block_of-with_block_same}
use Rattle.quota_pages.proofs.BlockLemmas.{whole_block-same, with_block-again, with_block-swap}

-- a page of a block that was lent for writing
abbrev pub lent_page : ℕ → List ℕ → Page
lent_page number bytes = record { number = number; bytes = bytes; lent = true }

-- two numbers that a test tells apart
differ : (one other : ℕ) → (one == other) ≡ false → other ≢ one
differ one other failed same = true≢false (sym (eq-eqb one other (sym same)) ∙ failed)

-- a page is laid over a file where a block of another number was, or the other way round
page_swap : (file : List ℕ) (page : Page) (number : ℕ) (bytes : List ℕ) → number ≢ page.number
    → with_page (with_block file number bytes) page ≡ with_block (with_page file page) number bytes
page_swap file page number bytes other =
    elim (cases_Bool page.lent) [
      | inl lent ↦
          cond-true _ _ _ lent ∙ with_block-swap file number page.number bytes page.bytes (λ same. other (sym same))
          ∙ ap (λ (f : List ℕ). with_block f number bytes) (sym (cond-true _ _ _ lent))
      | inr kept ↦ cond-false _ _ _ kept ∙ ap (λ (f : List ℕ). with_block f number bytes) (sym (cond-false _ _ _ kept))
    ]

pub folded_swap : (file : List ℕ) (pages : List Page) (number : ℕ) (bytes : List ℕ) → is_buffered pages number ≡ false
    → fold with_page (with_block file number bytes) pages ≡ with_block (fold with_page file pages) number bytes
folded_swap file [] number bytes other = refl
folded_swap file (page ∷ pages) number bytes other =
    let parts = or_parts (page.number == number) (is_buffered pages number) other in
    ap (λ (f : List ℕ). fold with_page f pages) (page_swap file page number bytes (differ page.number number parts.0))
    ∙ folded_swap (with_page file page) pages number bytes parts.1

-- the file with a page over it, and then a block of the page's number
page_again : (file : List ℕ) (page : Page) (number : ℕ) (bytes : List ℕ) → page.number ≡ number
    → with_block (with_page file page) number bytes ≡ with_block file number bytes
page_again file page number bytes is =
    elim (cases_Bool page.lent) [
      | inl lent ↦ ap (λ (f : List ℕ). with_block f number bytes)
          (cond-true _ _ _ lent ∙ ap (λ (n : ℕ). with_block file n page.bytes) is)
          ∙ with_block-again file number page.bytes bytes
      | inr kept ↦ ap (λ (f : List ℕ). with_block f number bytes) (cond-false _ _ _ kept)
    ]

folded_set : (file : List ℕ) (pages : List Page) (place number : ℕ) (bytes : List ℕ) (d : Page) → place < length pages
    → (get_or pages place d).number ≡ number → IsTrue (are_distinct pages)
    → fold with_page file (set pages place (lent_page number bytes))
    ≡ with_block (fold with_page file pages) number bytes
folded_set file [] place number bytes d within is distinct = absurd (omega arith)
folded_set file (page ∷ pages) zero number bytes d within is distinct =
    let parts = and_parts (not (is_buffered pages page.number)) (are_distinct pages) distinct in
    let other : is_buffered pages number ≡ false = ap (is_buffered pages) (sym is) ∙ not-true _ parts.0 in
    ap (λ (f : List ℕ). fold with_page f pages) (sym (page_again file page number bytes is))
    ∙ folded_swap (with_page file page) pages number bytes other
folded_set file (page ∷ pages) (suc place) number bytes d within is distinct =
    folded_set (with_page file page) pages place number bytes d (omega arith) is
    (and_parts (not (is_buffered pages page.number)) (are_distinct pages) distinct).1

-- pages of which one was lent and left with these bytes
pub shown-set : (file : List ℕ) (pages : List Page) (place number : ℕ) (bytes : List ℕ) (d : Page)
    → place < length pages → (get_or pages place d).number ≡ number → IsTrue (are_distinct pages)
    → shown (set pages place (lent_page number bytes)) file ≡ with_block (shown pages file) number bytes
unfolding shown
shown-set file pages place number bytes d within is distinct =
    folded_set file pages place number bytes d within is distinct

-- one more page
pub shown-push : (file : List ℕ) (pages : List Page) (page : Page)
    → shown (pages ++ page ∷ []) file ≡ with_page (shown pages file) page
unfolding shown
shown-push file pages page = fold-append with_page file pages (page ∷ [])

-- the block of a number that was not lent for writing
page_other : (file : List ℕ) (page : Page) (number : ℕ) → (page.lent && page.number == number) ≡ false
    → block_of (with_page file page) number ≡ block_of file number
page_other file page number other =
    elim (cases_Bool page.lent) [
      | inl lent ↦ ap (λ (f : List ℕ). block_of f number) (cond-true _ _ _ lent)
          ∙ block_of-with_block_other file page.number number page.bytes
          (differ page.number number (ap (λ (b : Bool). b && page.number == number) (sym lent) ∙ other))
      | inr kept ↦ ap (λ (f : List ℕ). block_of f number) (cond-false _ _ _ kept)
    ]

folded_other : (file : List ℕ) (pages : List Page) (number : ℕ) → is_lent pages number ≡ false
    → block_of (fold with_page file pages) number ≡ block_of file number
folded_other file [] number other = refl
folded_other file (page ∷ pages) number other =
    let parts = or_parts (page.lent && page.number == number) (is_lent pages number) other in
    folded_other (with_page file page) pages number parts.1 ∙ page_other file page number parts.0

pub block_of-shown_other : (file : List ℕ) (pages : List Page) (number : ℕ) → is_lent pages number ≡ false
    → block_of (shown pages file) number ≡ block_of file number
unfolding shown
block_of-shown_other file pages number other = folded_other file pages number other

-- the page of a place has a number that is buffered
pub is_buffered-at : (pages : List Page) (place number : ℕ) (d : Page) → place < length pages
    → (get_or pages place d).number ≡ number → is_buffered pages number ≡ true
is_buffered-at pages place number d within is =
    list_any_at (λ page. page.number == number) pages place d within (eq-eqb _ _ is)

-- a number that is not buffered was not lent for writing
pub is_lent-none : (pages : List Page) (number : ℕ) → is_buffered pages number ≡ false → is_lent pages number ≡ false
is_lent-none [] number none = refl
is_lent-none (page ∷ pages) number none =
    let parts = or_parts (page.number == number) (is_buffered pages number) none in
    ap (λ (b : Bool). (page.lent && b) || is_lent pages number) parts.0
    ∙ ap (λ (b : Bool). b || is_lent pages number) (and-false page.lent)
    ∙ is_lent-none pages number parts.1

-- the block of a place was lent for writing where its page is marked so
pub is_lent-at : (pages : List Page) (place number : ℕ) (d : Page) → place < length pages
    → (get_or pages place d).number ≡ number → IsTrue (are_distinct pages)
    → is_lent pages number ≡ (get_or pages place d).lent
is_lent-at [] place number d within is distinct = absurd (omega arith)
is_lent-at (page ∷ pages) zero number d within is distinct =
    let parts = and_parts (not (is_buffered pages page.number)) (are_distinct pages) distinct in
    let other : is_buffered pages number ≡ false = ap (is_buffered pages) (sym is) ∙ not-true _ parts.0 in
    ap (λ (b : Bool). (page.lent && b) || is_lent pages number) (eq-eqb _ _ is)
    ∙ ap (λ (b : Bool). (page.lent && true) || b) (is_lent-none pages number other)
    ∙ (or-false (page.lent && true) ∙ and-true page.lent)
is_lent-at (page ∷ pages) (suc place) number d within is distinct =
    let parts = and_parts (not (is_buffered pages page.number)) (are_distinct pages) distinct in
    let there : is_buffered pages number ≡ true = is_buffered-at pages place number d (omega arith) is in
    let apart : (page.number == number) ≡ false = false_from_ne_true _ (λ same.
    false≢true (sym (not-true _ parts.0) ∙ ap (is_buffered pages) (eqb-true _ _ same) ∙ there)) in
    ap (λ (b : Bool). (page.lent && b) || is_lent pages number) apart
    ∙ ap (λ (b : Bool). b || is_lent pages number) (and-false page.lent)
    ∙ is_lent-at pages place number d (omega arith) is parts.1

-- the block of a page that was lent for writing
pub shown_lent : (file : List ℕ) (pages : List Page) (place number : ℕ) (d : Page) → place < length pages
    → (get_or pages place d).number ≡ number → (get_or pages place d).lent ≡ true → IsTrue (are_distinct pages)
    → block_of (shown pages file) number ≡ whole_block (get_or pages place d).bytes
shown_lent file pages place number d within is lent distinct =
    let page : Page = get_or pages place d in
    let same : page ≡ lent_page number page.bytes =
    ap (λ (b : Bool). let p : Page = record { number = page.number; bytes = page.bytes; lent = b } in p) lent
    ∙ ap (λ (n : ℕ). lent_page n page.bytes) is in
    ap (λ (ps : List Page). block_of (shown ps file) number)
    (sym (set-get_or pages place d) ∙ ap (set pages place) same)
    ∙ ap (λ (f : List ℕ). block_of f number) (shown-set file pages place number page.bytes d within is distinct)
    ∙ block_of-with_block_same (shown pages file) number page.bytes

-- a page of a clean buffer is the block that is shown
pub shown-at : (file : List ℕ) (pages : List Page) (place number : ℕ) (d : Page) → place < length pages
    → (get_or pages place d).number ≡ number → IsTrue (are_distinct pages) → IsClean pages file
    → length (get_or pages place d).bytes ≡ 1024
    → (get_or pages place d).bytes ≡ block_of (shown pages file) number
unfolding IsClean
shown-at file pages place number d within is distinct clean long =
    elim (cases_Bool (get_or pages place d).lent) [
      | inl lent ↦ sym (shown_lent file pages place number d within is lent distinct ∙ whole_block-same _ long)
      | inr kept ↦ clean place d within kept
          ∙ ap (block_of file) is
          ∙ sym (block_of-shown_other file pages number (is_lent-at pages place number d within is distinct ∙ kept))
    ]

pub is_buffered-set : (pages : List Page) (place number : ℕ) (page : Page) (d : Page) → place < length pages
    → (get_or pages place d).number ≡ page.number → (other : ℕ)
    → is_buffered (set pages place page) other ≡ is_buffered pages other
is_buffered-set [] place number page d within is other = refl
is_buffered-set (first ∷ pages) zero number page d within is other =
    ap (λ (n : ℕ). (n == other) || is_buffered pages other) (sym is)
is_buffered-set (first ∷ pages) (suc place) number page d within is other =
    ap (λ (b : Bool). (first.number == other) || b) (is_buffered-set pages place number page d (omega arith) is other)

pub are_distinct-set : (pages : List Page) (place : ℕ) (page : Page) (d : Page) → place < length pages
    → (get_or pages place d).number ≡ page.number → are_distinct (set pages place page) ≡ are_distinct pages
are_distinct-set [] place page d within is = refl
are_distinct-set (first ∷ pages) zero page d within is =
    ap (λ (n : ℕ). not (is_buffered pages n) && are_distinct pages) (sym is)
are_distinct-set (first ∷ pages) (suc place) page d within is =
    ap (λ (b : Bool). not b && are_distinct (set pages place page))
    (is_buffered-set pages place 0 page d (omega arith) is first.number)
    ∙ ap (λ (b : Bool). not (is_buffered pages first.number) && b)
    (are_distinct-set pages place page d (omega arith) is)

lent_here : (lent same rest : Bool) → (same || rest) ≡ (((lent && same) || rest) || same)
lent_here lent true rest = sym (or-true ((lent && true) || rest))
lent_here lent false rest =
    ap (λ (b : Bool). b || rest) (sym (and-false lent)) ∙ sym (or-false ((lent && false) || rest))

lent_there : (first rest same : Bool) → (first || (rest || same)) ≡ ((first || rest) || same)
lent_there true rest same = refl
lent_there false rest same = refl

-- the blocks that were lent for writing, once one more was
pub is_lent-set : (pages : List Page) (place number : ℕ) (bytes : List ℕ) (d : Page) → place < length pages
    → (get_or pages place d).number ≡ number → (other : ℕ)
    → is_lent (set pages place (lent_page number bytes)) other ≡ (is_lent pages other || number == other)
is_lent-set [] place number bytes d within is other = absurd (omega arith)
is_lent-set (first ∷ pages) zero number bytes d within is other =
    lent_here first.lent (number == other) (is_lent pages other)
    ∙ ap (λ (n : ℕ). ((first.lent && n == other) || is_lent pages other) || number == other) (sym is)
is_lent-set (first ∷ pages) (suc place) number bytes d within is other =
    ap (λ (b : Bool). (first.lent && first.number == other) || b)
    (is_lent-set pages place number bytes d (omega arith) is other)
    ∙ lent_there (first.lent && first.number == other) (is_lent pages other) (number == other)

-- one more page, of a number that was not buffered
pub is_buffered-push : (pages : List Page) (page : Page) (other : ℕ)
    → is_buffered (pages ++ page ∷ []) other ≡ (is_buffered pages other || page.number == other)
is_buffered-push pages page other =
    list_any-append (λ p. p.number == other) pages (page ∷ [])
    ∙ ap (λ (b : Bool). is_buffered pages other || b) (or-false (page.number == other))

pub is_lent-push : (pages : List Page) (page : Page) (other : ℕ) → page.lent ≡ false
    → is_lent (pages ++ page ∷ []) other ≡ is_lent pages other
is_lent-push pages page other kept =
    list_any-append (λ p. p.lent && p.number == other) pages (page ∷ [])
    ∙ ap (λ (b : Bool). is_lent pages other || ((b && page.number == other) || false)) kept
    ∙ or-false (is_lent pages other)

pub are_distinct-push : (pages : List Page) (page : Page) → is_buffered pages page.number ≡ false
    → are_distinct (pages ++ page ∷ []) ≡ are_distinct pages
are_distinct-push [] page none = refl
are_distinct-push (first ∷ pages) page none =
    let parts = or_parts (first.number == page.number) (is_buffered pages page.number) none in
    let apart : (page.number == first.number) ≡ false =
    false_from_ne_true _ (λ same. true≢false (sym (eq-eqb _ _ (sym (eqb-true _ _ same))) ∙ parts.0)) in
    ap (λ (b : Bool). not b && are_distinct (pages ++ page ∷ []))
    (is_buffered-push pages page first.number ∙ ap (λ (b : Bool). is_buffered pages first.number || b) apart
    ∙ or-false (is_buffered pages first.number))
    ∙ ap (λ (b : Bool). not (is_buffered pages first.number) && b) (are_distinct-push pages page parts.1)

pub IsClean-push : (pages : List Page) (page : Page) (file : List ℕ) → page.bytes ≡ block_of file page.number
    → IsClean pages file → IsClean (pages ++ page ∷ []) file
unfolding IsClean
IsClean-push pages page file is clean =
    let P : Page → Type 0 = λ p. p.lent ≡ false → p.bytes ≡ block_of file p.number in
    All-push P pages page clean (λ kept. is)

pub IsClean-front : (pages : List Page) (page : Page) (file : List ℕ) → IsClean (pages ++ page ∷ []) file
    → IsClean pages file
unfolding IsClean
IsClean-front pages page file clean place d within kept =
    let same = get_or_append_left pages (page ∷ []) d place within in
    ap (λ (p : Page). p.bytes) (sym same)
    ∙ clean place d (omega (arith, within, length-append pages (page ∷ []))) (ap (λ (p : Page). p.lent) same ∙ kept)
    ∙ ap (λ (p : Page). block_of file p.number) same

-- a file with a block laid over it has that of each page, if it had those of the others
laid_page : (page : Page) (pages : List Page) (file : List ℕ) → is_buffered pages page.number ≡ false
    → length page.bytes ≡ 1024
    → ((place : ℕ) (d : Page) → place < length pages
    → (get_or pages place d).bytes ≡ block_of file (get_or pages place d).number)
    → (place : ℕ) (d : Page) → place < length (page ∷ pages)
    → (get_or (page ∷ pages) place d).bytes
    ≡ block_of (with_block file page.number page.bytes) (get_or (page ∷ pages) place d).number
laid_page page pages file none long rest zero d within =
    sym (block_of-with_block_same file page.number page.bytes ∙ whole_block-same page.bytes long)
laid_page page pages file none long rest (suc place) d within =
    let other : Page = get_or pages place d in
    let apart : other.number ≢ page.number =
    λ same. true≢false (sym (is_buffered-at pages place page.number d (omega arith) same) ∙ none) in
    rest place d (omega arith) ∙ sym (block_of-with_block_other file page.number other.number page.bytes apart)

laid_pages : (pages : List Page) → IsTrue (are_distinct pages)
    → ((place : ℕ) (d : Page) → place < length pages → length (get_or pages place d).bytes ≡ 1024)
    → (file : List ℕ)
    × ((place : ℕ) (d : Page) → place < length pages
    → (get_or pages place d).bytes ≡ block_of file (get_or pages place d).number)
laid_pages [] distinct long = ([], λ place d within. absurd (omega arith))
laid_pages (page ∷ pages) distinct long =
    let parts = and_parts (not (is_buffered pages page.number)) (are_distinct pages) distinct in
    let rest = laid_pages pages parts.1 (λ place d within. long (suc place) d (omega arith)) in (
      with_block rest.0 page.number page.bytes,
      laid_page page pages rest.0 (not-true _ parts.0) (long 0 page (omega arith)) rest.1,
    )

-- pages that differ, of whole blocks, are clean over some file
pub IsClean-some : (pages : List Page) → IsTrue (are_distinct pages) → All (λ page. length page.bytes ≡ 1024) pages
    → (file : List ℕ) × IsClean pages file
unfolding IsClean
IsClean-some pages distinct long =
    let laid = laid_pages pages distinct long in
    (laid.0, λ place d within kept. laid.1 place d within)

pub IsClean-set : (pages : List Page) (place number : ℕ) (bytes file : List ℕ) → IsClean pages file
    → IsClean (set pages place (lent_page number bytes)) file
unfolding IsClean
IsClean-set pages place number bytes file clean =
    let P : Page → Type 0 = λ p. p.lent ≡ false → p.bytes ≡ block_of file p.number in
    All-set P pages place (lent_page number bytes) (λ kept. absurd (true≢false kept)) clean

-- how many were lent for writing
pub lent_count-push : (pages : List Page) (page : Page) → page.lent ≡ false
    → lent_count (pages ++ page ∷ []) ≡ lent_count pages
lent_count-push pages page kept =
    let more = sum_by-append (λ (p : Page). cond {A = ℕ} p.lent 1 0) pages (page ∷ []) in
    let none : cond {A = ℕ} page.lent 1 0 ≡ 0 = cond-false _ _ _ kept in
    omega (arith, more, none)

counted_set : (lent : Bool) (new old : ℕ) → new + cond lent 1 0 ≡ old + 1 → new ≡ cond lent old (old + 1)
counted_set true new old more = omega (arith, more)
counted_set false new old more = omega (arith, more)

pub lent_count-set : (pages : List Page) (place number : ℕ) (bytes : List ℕ) (d : Page) → place < length pages
    → lent_count (set pages place (lent_page number bytes))
    ≡ cond (get_or pages place d).lent (lent_count pages) (lent_count pages + 1)
lent_count-set pages place number bytes d within =
    let count : Page → ℕ = λ p. cond {A = ℕ} p.lent 1 0 in
    let lent : Bool = (get_or pages place d).lent in
    counted_set lent _ _ (sum_by-set count pages place (lent_page number bytes) d within)

-- a block that was lent is buffered
lent_buffered : (pages : List Page) (number : ℕ) → is_lent pages number ≡ true → is_buffered pages number ≡ true
lent_buffered pages number lent =
    elim (cases_Bool (is_buffered pages number)) [
      | inl there ↦ there
      | inr none ↦ absurd (true≢false (sym lent ∙ is_lent-none pages number none))
    ]

-- a number that is buffered among the later pages is buffered
buffered_behind : (pages : List Page) (count number : ℕ) → is_buffered (drop count pages) number ≡ true
    → is_buffered pages number ≡ true
buffered_behind pages zero number there = there
buffered_behind [] (suc count) number there = there
buffered_behind (page ∷ pages) (suc count) number there =
    ap (λ (b : Bool). (page.number == number) || b) (buffered_behind pages count number there)
    ∙ or-true (page.number == number)

is_buffered-behind : (pages : List Page) (count number : ℕ) → is_lent (drop count pages) number ≡ true
    → is_buffered pages number ≡ true
is_buffered-behind pages count number lent =
    buffered_behind pages count number (lent_buffered (drop count pages) number lent)

-- pages behind which the block was not lent
shown_parts : (file : List ℕ) (pages : List Page) (count number : ℕ) → is_lent (drop count pages) number ≡ false
    → block_of (shown pages file) number ≡ block_of (shown (take count pages) file) number
unfolding shown
shown_parts file pages count number none =
    ap (λ (ps : List Page). block_of (fold with_page file ps) number) (sym (take-append-drop count pages))
    ∙ ap (λ (f : List ℕ). block_of f number) (fold-append with_page file (take count pages) (drop count pages))
    ∙ folded_other (fold with_page file (take count pages)) (drop count pages) number none

-- a page that was lent stands among the first pages or among the others, and not among both
lent_apart : (pages : List Page) (count number : ℕ) → IsTrue (are_distinct pages)
    → is_lent (drop count pages) number ≡ true → is_lent (take count pages) number ≡ false
lent_apart pages zero number distinct behind = refl
lent_apart [] (suc count) number distinct behind = refl
lent_apart (page ∷ pages) (suc count) number distinct behind =
    let parts = and_parts (not (is_buffered pages page.number)) (are_distinct pages) distinct in
    let apart : (page.number == number) ≡ false = false_from_ne_true _ (λ same.
    true≢false (sym (is_buffered-behind pages count page.number
    (ap (is_lent (drop count pages)) (eqb-true _ _ same) ∙ behind)) ∙ not-true _ parts.0)) in
    ap (λ (b : Bool). (page.lent && b) || is_lent (take count pages) number) apart
    ∙ ap (λ (b : Bool). b || is_lent (take count pages) number) (and-false page.lent)
    ∙ lent_apart pages count number parts.1 behind

-- after some of the pages were laid over a file each block is the file's, or the one that all of them show
pub block_of-shown_take : (file : List ℕ) (pages : List Page) (count number : ℕ) → IsTrue (are_distinct pages)
    → (block_of (shown (take count pages) file) number ≡ block_of file number)
    ⊎ (block_of (shown (take count pages) file) number ≡ block_of (shown pages file) number)
block_of-shown_take file pages count number distinct =
    elim (cases_Bool (is_lent (drop count pages) number)) [
      | inl behind ↦
          inl (block_of-shown_other file (take count pages) number (lent_apart pages count number distinct behind))
      | inr none ↦ inr (sym (shown_parts file pages count number none))
    ]

-- no pages show the file as it is, and are clean
pub shown-nil : (file : List ℕ) → shown [] file ≡ file
unfolding shown
shown-nil file = refl

pub IsClean-nil : (file : List ℕ) → IsClean [] file
unfolding IsClean
IsClean-nil file = λ place d within. absurd (omega arith)
