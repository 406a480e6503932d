-- How long a file is over which pages are laid.
use Rattle.std.proofs.Common.{◌≡◌, ℕ, ◌+◌, ◌-◌, ◌*◌, ◌≤◌, ◌⊎◌, inl, inr, Bool, true, false}
use Rattle.std.proofs.Common.{◌&&◌, ◌||◌, List, [], ◌∷◌, length, refl, sym}
use Rattle.std.proofs.Common.{ap, subst, ◌∙◌, arith, eq-eqb}
use Rattle.std.specs.Prelude.{◌==◌, fold}
use Rattle.std.proofs.Math.Bool.{or-true}
use Rattle.std.proofs.lemmas.Bool.{cases_Bool, cases_lt, cond-true, cond-false, false≢true, eqb-true}
use Rattle.std.proofs.lemmas.Bool.{and_parts}
use Rattle.quota_pages.specs.Overlay.{with_block}
use Rattle.quota_pages.specs.Page.{Page, is_lent, shown, with_page}
use Rattle.quota_pages.proofs.BlockLemmas.{length-with_block}

-- the length of a file with a page laid over it
page_grows : (file : List ℕ) (page : Page) → length file ≤ length (with_page file page)
page_grows file page =
    elim (cases_Bool page.lent) [
      | inl lent ↦ subst (λ (f : List ℕ). length file ≤ length f) (sym (cond-true _ _ _ lent))
          (omega (arith, length-with_block file page.number page.bytes))
      | inr kept ↦ subst (λ (f : List ℕ). length file ≤ length f) (sym (cond-false _ _ _ kept)) (omega arith)
    ]

folded_grows : (file : List ℕ) (pages : List Page) → length file ≤ length (fold with_page file pages)
folded_grows file [] = omega arith
folded_grows file (page ∷ pages) = omega (arith, page_grows file page, folded_grows (with_page file page) pages)

pub shown-grows : (file : List ℕ) (pages : List Page) → length file ≤ length (shown pages file)
unfolding shown
shown-grows file pages = folded_grows file pages

page_covers : (file : List ℕ) (page : Page) (number : ℕ) → (page.lent && page.number == number) ≡ true
    → 1024 * number + 1024 ≤ length (with_page file page)
page_covers file page number is =
    let parts = and_parts page.lent (page.number == number) is in
    subst (λ (f : List ℕ). 1024 * number + 1024 ≤ length f) (sym (cond-true _ _ _ parts.0))
    (omega (arith, eqb-true _ _ parts.1, length-with_block file page.number page.bytes))

one_of : (one other : Bool) → (one || other) ≡ true → (one ≡ true) ⊎ (other ≡ true)
one_of true other passed = inl refl
one_of false other passed = inr passed

folded_covers : (file : List ℕ) (pages : List Page) (number : ℕ) → is_lent pages number ≡ true
    → 1024 * number + 1024 ≤ length (fold with_page file pages)
folded_covers file [] number lent = absurd (false≢true lent)
folded_covers file (page ∷ pages) number lent =
    elim (one_of (page.lent && page.number == number) (is_lent pages number) lent) [
      | inl first ↦ omega (arith, page_covers file page number first, folded_grows (with_page file page) pages)
      | inr later ↦ folded_covers (with_page file page) pages number later
    ]

pub shown-covers : (file : List ℕ) (pages : List Page) (number : ℕ) → is_lent pages number ≡ true
    → 1024 * number + 1024 ≤ length (shown pages file)
unfolding shown
shown-covers file pages number lent = folded_covers file pages number lent

-- a length is the file's, or reaches to the end of a block that was lent
abbrev EndsAt : ℕ → ℕ → List Page → Type 0
EndsAt size old pages = (size ≡ old) ⊎ ((number : ℕ) × (is_lent pages number ≡ true) × (size ≡ 1024 * number + 1024))

page_ends : (file : List ℕ) (page : Page) (pages : List Page)
    → EndsAt (length (with_page file page)) (length file) (page ∷ pages)
page_ends file page pages =
    elim (cases_Bool page.lent) [
      | inl lent ↦
          let long : length (with_page file page)
          ≡ (1024 * page.number + 1024) + (length file - (1024 * page.number + 1024)) =
          ap length (let laid : with_page file page ≡ with_block file page.number page.bytes = cond-true _ _ _ lent in
          laid) ∙ length-with_block file page.number page.bytes in
          elim (cases_lt (length file) (1024 * page.number + 1024)) [
            | inl short ↦ inr (
              page.number,
              ap (λ (b : Bool). (b && page.number == page.number) || is_lent pages page.number) lent
                  ∙ ap (λ (b : Bool). b || is_lent pages page.number) (eq-eqb page.number page.number refl),
              omega arith,
            )
            | inr within ↦ inl (omega arith)
          ]
      | inr kept ↦ inl (ap length (let same : with_page file page ≡ file = cond-false _ _ _ kept in same))
    ]

later_ends : (size old : ℕ) (page : Page) (pages : List Page) → EndsAt size old pages → EndsAt size old (page ∷ pages)
later_ends size old page pages (inl same) = inl same
later_ends size old page pages (inr (number, lent, is)) =
    inr (
      number,
      ap (λ (b : Bool). (page.lent && page.number == number) || b) lent ∙ or-true (page.lent && page.number == number),
      is,
    )

folded_ends : (file : List ℕ) (pages : List Page) → EndsAt (length (fold with_page file pages)) (length file) pages
folded_ends file [] = inl refl
folded_ends file (page ∷ pages) =
    elim (folded_ends (with_page file page) pages) [
      | inl same ↦ subst (λ (n : ℕ). EndsAt n (length file) (page ∷ pages)) (sym same) (page_ends file page pages)
      | inr more ↦ later_ends (length (fold with_page (with_page file page) pages)) (length file) page pages (inr more)
    ]

pub shown-ends : (file : List ℕ) (pages : List Page)
    → (length (shown pages file) ≡ length file)
    ⊎ ((number : ℕ) × (is_lent pages number ≡ true) × (length (shown pages file) ≡ 1024 * number + 1024))
unfolding shown
shown-ends file pages = folded_ends file pages
