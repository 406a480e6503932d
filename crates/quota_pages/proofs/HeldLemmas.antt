-- Pages as heads beside blocks.
use Rattle.std.proofs.Common.{◌≡◌, ℕ, zero, suc, ◌+◌, ◌<◌, Bool, true, false, not, cond, ◌||◌, Option, Some, None, List}
use Rattle.std.proofs.Common.{[], ◌∷◌, ◌++◌, length, set, get_or, refl, sym, ap, ◌∙◌, arith, length-append}
use Rattle.std.specs.Prelude.{◌==◌, MatchOption}
use Rattle.std.specs.List.{position, position_or_len}
use Rattle.std.proofs.lemmas.Bool.{eqb-true}
use Rattle.std.proofs.lemmas.Bool.Decides.{nat_tests}
use Rattle.std.proofs.lemmas.List.{get_or_default}
use Rattle.std.proofs.lemmas.List.Quantifiers.{position-Some}
use Rattle.std.proofs.lemmas.List.Sums.{prefix_len-le-length}
use Rattle.quota_pages.specs.Held.{pages_in}
use Rattle.quota_pages.specs.Page.{Page, is_buffered}
use Rattle.quota_pages.specs.declared.held_blocks.PageHead.{PageHead}

-- a page that stands for none
abbrev pub no_page : Page
no_page = record { number = 0; bytes = []; lent = false }

-- a head with its block
abbrev pub page_of : PageHead → List ℕ → Page
page_of head block = record { number = head.number; bytes = block; lent = head.lent }

pub length-pages_in : (heads : List PageHead) (blocks : List (List ℕ)) → length heads ≡ length blocks
    → length (pages_in heads blocks) ≡ length heads
length-pages_in [] blocks same = refl
length-pages_in (head ∷ heads) [] same = absurd (omega arith)
length-pages_in (head ∷ heads) (block ∷ blocks) same = ap suc (length-pages_in heads blocks (omega arith))

pub pages_in-get_or : (heads : List PageHead) (blocks : List (List ℕ)) (place : ℕ) (d : Page) (h : PageHead)
    (b : List ℕ) → length heads ≡ length blocks → place < length heads
    → get_or (pages_in heads blocks) place d ≡ page_of (get_or heads place h) (get_or blocks place b)
pages_in-get_or [] blocks place d h b same within = absurd (omega arith)
pages_in-get_or (head ∷ heads) [] place d h b same within = absurd (omega arith)
pages_in-get_or (head ∷ heads) (block ∷ blocks) zero d h b same within = refl
pages_in-get_or (head ∷ heads) (block ∷ blocks) (suc place) d h b same within =
    pages_in-get_or heads blocks place d h b (omega arith) (omega arith)

pub pages_in-push : (heads : List PageHead) (blocks : List (List ℕ)) (head : PageHead) (block : List ℕ)
    → length heads ≡ length blocks
    → pages_in (heads ++ head ∷ []) (blocks ++ block ∷ []) ≡ pages_in heads blocks ++ page_of head block ∷ []
pages_in-push [] [] head block same = refl
pages_in-push [] (other ∷ blocks) head block same = absurd (omega arith)
pages_in-push (first ∷ heads) [] head block same = absurd (omega arith)
pages_in-push (first ∷ heads) (other ∷ blocks) head block same =
    ap (λ (pages : List Page). page_of first other ∷ pages) (pages_in-push heads blocks head block (omega arith))

pub pages_in-set : (heads : List PageHead) (blocks : List (List ℕ)) (place : ℕ) (head : PageHead) (block : List ℕ)
    → length heads ≡ length blocks
    → pages_in (set heads place head) (set blocks place block) ≡ set (pages_in heads blocks) place (page_of head block)
pages_in-set [] [] place head block same = refl
pages_in-set [] (other ∷ blocks) place head block same = absurd (omega arith)
pages_in-set (first ∷ heads) [] place head block same = absurd (omega arith)
pages_in-set (first ∷ heads) (other ∷ blocks) zero head block same = refl
pages_in-set (first ∷ heads) (other ∷ blocks) (suc place) head block same =
    ap (λ (pages : List Page). page_of first other ∷ pages) (pages_in-set heads blocks place head block (omega arith))

-- a head and its block, as they were read at a place
pub page_at : (heads : List PageHead) (blocks : List (List ℕ)) (place : ℕ) (head : PageHead) (block : List ℕ)
    → length heads ≡ length blocks → place < length heads
    → head ≡ get_or heads place head → block ≡ get_or blocks place block
    → (place < length (pages_in heads blocks)) × (page_of head block ≡ get_or (pages_in heads blocks) place no_page)
page_at heads blocks place head block same within is is_block = (
  omega (arith, within, length-pages_in heads blocks same),
  ap (λ (h : PageHead). page_of h block) is
      ∙ ap (λ (b : List ℕ). page_of (get_or heads place head) b) is_block
      ∙ sym (pages_in-get_or heads blocks place no_page head block same within),
)

none_first : (passes : Bool) (number : ℕ) (head : PageHead) (rest : ℕ) (heads : ℕ) → (head.number == number) ≡ passes
    → cond (not passes) (1 + rest) 0 ≡ suc heads → ((head.number == number) ≡ false) × (rest ≡ heads)
none_first true number head rest heads is none = absurd (omega arith)
none_first false number head rest heads is none = (is, omega arith)

-- where no head has a number its block is not buffered
none_buffered : (heads : List PageHead) (blocks : List (List ℕ)) (number : ℕ) → length heads ≡ length blocks
    → position_or_len (λ head. head.number == number) heads ≡ length heads
    → is_buffered (pages_in heads blocks) number ≡ false
none_buffered [] blocks number same none = refl
none_buffered (head ∷ heads) [] number same none = absurd (omega arith)
none_buffered (head ∷ heads) (block ∷ blocks) number same none =
    let first = none_first (head.number == number) number head (position_or_len (λ h. h.number == number) heads)
    (length heads) refl none in
    ap (λ (b : Bool). b || is_buffered (pages_in heads blocks) number) first.0
    ∙ none_buffered heads blocks number (omega arith) first.1

place-none : (heads : List PageHead) (number : ℕ) → position (λ head. head.number == number) heads ≡ None
    → length heads ≡ position_or_len (λ head. head.number == number) heads
place-none heads number none =
    let within = prefix_len-le-length (λ (head : PageHead). not (head.number == number)) heads in
    grind (arith, nat_tests)

-- what a search for a number among the heads tells
pub placed : (heads : List PageHead) (blocks : List (List ℕ)) (number : ℕ) (d : PageHead) (found : Option ℕ)
    → length heads ≡ length blocks → found ≡ position (λ head. head.number == number) heads
    → MatchOption found (is_buffered (pages_in heads blocks) number ≡ false)
    (λ place. (place < length heads) × ((get_or heads place d).number ≡ number))
placed heads blocks number d None same is =
    none_buffered heads blocks number same (sym (place-none heads number (sym is)))
placed heads blocks number d (Some place) same is =
    let at = position-Some (λ (head : PageHead). head.number == number) heads place d (sym is) in
    (at.0, eqb-true _ _ at.1)

-- a head and a block that were pushed
pub pushed_pages : (heads new_heads : List PageHead) (blocks new_blocks : List (List ℕ)) (head : PageHead)
    (block : List ℕ) → length heads ≡ length blocks → new_heads ≡ heads ++ head ∷ [] → new_blocks ≡ blocks ++ block ∷ []
    → pages_in new_heads new_blocks ≡ pages_in heads blocks ++ page_of head block ∷ []
pushed_pages heads new_heads blocks new_blocks head block same is are =
    ap (λ (h : List PageHead). pages_in h new_blocks) is
    ∙ ap (λ (b : List (List ℕ)). pages_in (heads ++ head ∷ []) b) are
    ∙ pages_in-push heads blocks head block same

pub pushed_beside : (heads new_heads : List PageHead) (blocks new_blocks : List (List ℕ)) (head : PageHead)
    (block : List ℕ) → length heads ≡ length blocks → new_heads ≡ heads ++ head ∷ [] → new_blocks ≡ blocks ++ block ∷ []
    → length new_heads ≡ length new_blocks
pushed_beside heads new_heads blocks new_blocks head block same is are =
    let one = ap length is ∙ length-append heads (head ∷ []) in
    let other = ap length are ∙ length-append blocks (block ∷ []) in
    omega (arith, one, other, same)

-- two reads of one place gave the same
pub same_read : (blocks : List (List ℕ)) (place : ℕ) (one other : List ℕ) → place < length blocks
    → one ≡ get_or blocks place one → other ≡ get_or blocks place other → one ≡ other
same_read blocks place one other within is are = is ∙ get_or_default blocks place one other within ∙ sym are
