-- What calls use of a buffer of pages, whatever they say of what is shown: no call, one call, and one after another.
use Rattle.std.proofs.Common.{◌≡◌, ℕ, ◌+◌, ◌<◌, ◌≤◌, Bool, true, ◌&&◌, List, [], ◌∷◌, ◌++◌, length, get_or, take, drop}
use Rattle.std.proofs.Common.{inl, inr, refl, ap, subst, ◌∙◌, arith}
use Rattle.std.proofs.lemmas.Bool.{cases_Bool}
use Rattle.std.proofs.lemmas.List.{take-append-drop, take_more}
use Rattle.quota_types.specs.Times.{StandsIn}
use Rattle.quota_types.proofs.TimesLemmas.{stands_right, times-cons-same}
use Rattle.outside.specs.Frame.{OnlyReads}
use Rattle.outside.specs.Seen.{StoreSeen}
use Rattle.outside.proofs.FrameLemmas.{only_reads-none}
use Rattle.quota_pages.specs.Page.{Page, is_buffered}
use Rattle.quota_pages.specs.Pages.{name_of}
use Rattle.quota_pages.specs.Used.{LendsSome, LooksAtSome, UsesPages, missing, missing_among}
use Rattle.quota_pages.specs.declared.page_buffer.Pages.{Pages}
use Rattle.quota_pages.proofs.UsedLemmas.{missing-absent, missing-stay, missing-there, only_reads-both}

-- what looked at pages used that many
pub uses_of_looks : {tells ok : Bool} {count : ℕ} {before now : StoreSeen} {old new : Pages}
    → LooksAtSome tells ok count before now old new → UsesPages tells ok count before now old new
uses_of_looks looks = record {
  name = looks.name;
  few = looks.few;
  stay = looks.stay;
  known = looks.known;
  leaves = looks.leaves;
  reads = looks.reads;
}

-- and so did what lent pages
pub uses_of_lends : {tells ok : Bool} {count : ℕ} {numbers : List ℕ} {before now : StoreSeen} {old new : Pages}
    → LendsSome tells ok count numbers before now old new → UsesPages tells ok count before now old new
uses_of_lends lends = record {
  name = lends.name;
  few = lends.few;
  stay = lends.stay;
  known = lends.known;
  leaves = lends.leaves;
  reads = lends.reads;
}

-- nothing was done
pub uses_none : {ok : Bool} (tells : Bool) (seen : StoreSeen) (buffer : Pages)
    → UsesPages tells ok 0 seen seen buffer buffer
uses_none tells seen buffer = record {
  name = refl;
  few = omega arith;
  stay = λ number there. there;
  known = λ known. known;
  leaves = only_reads-none (name_of buffer) seen;
  reads = omega arith;
}

-- two calls in a row
pub uses_both : {tells done ok : Bool} {one two : ℕ} {before between now : StoreSeen} {old middle new : Pages}
    → UsesPages tells done one before between old middle → UsesPages tells ok two between now middle new
    → UsesPages tells (done && ok) (one + two) before now old new
uses_both {done = done} {ok = ok} {before = before} {between = between} {now = now} {old = old} first second = record {
  name = second.name ∙ first.name;
  few = omega (arith, first.few, second.few);
  stay = λ number there. second.stay number (first.stay number there);
  known = λ known. second.known (first.known known);
  leaves = only_reads-both done ok (name_of old) before between now first.leaves
      (subst (λ (name : List ℕ). OnlyReads ok name between now) first.name second.leaves);
  reads = omega (arith, first.reads, second.reads);
}

pub uses_then : {tells ok : Bool} {one two : ℕ} {before between now : StoreSeen} {old middle new : Pages}
    → UsesPages tells true one before between old middle → UsesPages tells ok two between now middle new
    → UsesPages tells ok (one + two) before now old new
uses_then first second = uses_both first second

-- what was used is used of a greater count
pub uses_more : {tells ok : Bool} {few : ℕ} {before now : StoreSeen} {old new : Pages} (more : ℕ) → few ≤ more
    → UsesPages tells ok few before now old new → UsesPages tells ok more before now old new
uses_more more fewer uses = record {
  name = uses.name;
  few = omega (arith, uses.few, fewer);
  stay = uses.stay;
  known = uses.known;
  leaves = uses.leaves;
  reads = omega (arith, uses.reads, fewer);
}

-- a block of which none is missing is buffered
pub there-missing : (pages : List Page) (number : ℕ) → missing pages number ≡ 0 → is_buffered pages number ≡ true
there-missing pages number none = elim (cases_Bool (is_buffered pages number)) [
  | inl there ↦ there
  | inr absent ↦ absurd (omega (arith, none, missing-absent pages number absent))
]

-- how many of some blocks are missing: of none, and of one more
pub missing_among-nil : (pages : List Page) → missing_among pages [] ≡ 0
unfolding missing_among
missing_among-nil pages = refl

pub missing_among-cons : (pages : List Page) (number : ℕ) (numbers : List ℕ)
    → missing_among pages (number ∷ numbers) ≡ missing pages number + missing_among pages numbers
unfolding missing_among
missing_among-cons pages number numbers = refl

-- pages of which each stays buffered miss no more of some blocks
pub missing_among-stay : (old new : List Page) (numbers : List ℕ)
    → ((number : ℕ) → is_buffered old number ≡ true → is_buffered new number ≡ true)
    → missing_among new numbers ≤ missing_among old numbers
missing_among-stay old new [] stay = omega (arith, missing_among-nil old, missing_among-nil new)
missing_among-stay old new (number ∷ numbers) stay =
    omega (
      arith,
      missing_among-cons old number numbers,
      missing_among-cons new number numbers,
      missing-stay old new number (stay number),
      missing_among-stay old new numbers stay,
    )

stands_first : (number : ℕ) (numbers : List ℕ) → StandsIn (number ∷ numbers) number
stands_first number numbers = omega (arith, times-cons-same number numbers)

stands_later : (number : ℕ) (numbers : List ℕ) (other : ℕ) → StandsIn numbers other → StandsIn (number ∷ numbers) other
stands_later number numbers other stands = stands_right (number ∷ []) numbers other stands

-- and none where all are buffered
pub none_missing : (pages : List Page) (numbers : List ℕ)
    → ((number : ℕ) → StandsIn numbers number → is_buffered pages number ≡ true) → missing_among pages numbers ≡ 0
none_missing pages [] all = missing_among-nil pages
none_missing pages (number ∷ numbers) all =
    omega (
      arith,
      missing_among-cons pages number numbers,
      missing-there pages number (all number (stands_first number numbers)),
      none_missing pages numbers (λ other stands. all other (stands_later number numbers other stands)),
    )

-- of two lists the blocks of both
pub missing_among-append : (pages : List Page) (these those : List ℕ)
    → missing_among pages (these ++ those) ≡ missing_among pages these + missing_among pages those
missing_among-append pages [] those = omega (arith, missing_among-nil pages)
missing_among-append pages (number ∷ these) those =
    omega (
      arith,
      missing_among-cons pages number these,
      missing_among-cons pages number (these ++ those),
      missing_among-append pages these those,
    )

-- of the first blocks of a list, and one more
pub missing_among-take : (pages : List Page) (numbers : List ℕ) (place : ℕ) → place < length numbers
    → missing_among pages (take (place + 1) numbers)
    ≡ missing_among pages (take place numbers) + missing pages (get_or numbers place 0)
missing_among-take pages numbers place low =
    ap (missing_among pages) (take_more numbers place 0 low)
    ∙ missing_among-append pages (take place numbers) (get_or numbers place 0 ∷ [])
    ∙ omega (arith, missing_among-cons pages (get_or numbers place 0) [], missing_among-nil pages)

pub missing_among-take_few : (pages : List Page) (numbers : List ℕ) (place : ℕ)
    → missing_among pages (take place numbers) ≤ missing_among pages numbers
missing_among-take_few pages numbers place =
    omega (
      arith,
      ap (missing_among pages) (take-append-drop place numbers),
      missing_among-append pages (take place numbers) (drop place numbers),
    )
