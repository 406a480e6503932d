-- Pages that are written into a file, one after another.
use Rattle.std.proofs.Common.{◌≡◌, ◌⊎◌, ℕ, zero, suc, ◌+◌, ◌<◌, ◌≤◌, inl, inr, Bool, true, false, cond, ◌||◌, List, []}
use Rattle.std.proofs.Common.{◌∷◌, ◌++◌, length, get_or, take, drop, Option, Some, Result, Ok, Err, OnOk, OnErr, refl}
use Rattle.std.proofs.Common.{sym, ap, ◌*◌, ◌∙◌, arith, add-one}
use Rattle.std.specs.Prelude.{fold}
use Rattle.std.specs.Option.{unwrap_or}
use Rattle.std.proofs.Math.Bool.{or-false, or-true}
use Rattle.std.proofs.lemmas.Bool.{cases_Bool, cond-true, cond-false, false_from_ne_true, true≢false}
use Rattle.std.proofs.lemmas.List.{take-append-drop, take_more}
use Rattle.std.proofs.lemmas.List.Folds.{list_any-append, list_any_at}
use Rattle.std.proofs.lemmas.List.Sums.{sum_by-append, sum_by-cons}
use Rattle.file_blocks.specs.Block.{bytes_of}
use Rattle.outside.specs.Count.{Rose, counted}
use Rattle.outside.specs.Unsynced.{UnsyncedNames, with_name}
use Rattle.outside.specs.World.{World, overwritten, with_bytes, with_file}
use Rattle.outside.proofs.UnsyncedLemmas.{with_name-cond_of_cond}
use Rattle.outside.proofs.WorldLemmas.{with_file-again, with_file-at}
use Rattle.quota_pages.specs.Overlay.{whole_block, with_block}
use Rattle.quota_pages.specs.Flushed.{IsPartlyFlushed, counted_by, flushed_files, flushed_names}
use Rattle.quota_pages.specs.Page.{Page, is_some_lent, lent_count, shown, with_page}
use Rattle.quota_pages.proofs.BlockLemmas.{whole_block-same}
use Rattle.quota_pages.proofs.PageLemmas.{shown-push}

folded_none : (file : List ℕ) (pages : List Page) → is_some_lent pages ≡ false → fold with_page file pages ≡ file
folded_none file [] none = refl
folded_none file (page ∷ pages) none =
    elim (cases_Bool page.lent) [
      | inl lent ↦ absurd (true≢false (sym (ap (λ (b : Bool). b || is_some_lent pages) lent) ∙ none))
      | inr kept ↦ ap (λ (f : List ℕ). fold with_page f pages) (cond-false _ _ _ kept)
          ∙ folded_none file pages (sym (ap (λ (b : Bool). b || is_some_lent pages) kept) ∙ none)
    ]

-- pages of which none was lent for writing show the file as it is
pub shown-none : (file : List ℕ) (pages : List Page) → is_some_lent pages ≡ false → shown pages file ≡ file
unfolding shown
shown-none file pages none = folded_none file pages none

pub flushed-nil : (files : World) (name : List ℕ) → flushed_files files name [] ≡ files
unfolding flushed_files
flushed-nil files name = refl

pub flushed-kept : (files : World) (name : List ℕ) (page : Page) → page.lent ≡ false
    → flushed_files files name (page ∷ []) ≡ files
unfolding flushed_files
flushed-kept files name page kept =
    ap (λ (b : Bool).
    cond (b || false) (with_file files name (Some (shown (page ∷ []) (bytes_of (files name))))) files) kept

flushed_lent : (files : World) (name : List ℕ) (pages : List Page) → is_some_lent pages ≡ true
    → flushed_files files name pages ≡ with_file files name (Some (shown pages (bytes_of (files name))))
unfolding flushed_files
flushed_lent files name pages some = cond-true _ _ _ some

flushed_none : (files : World) (name : List ℕ) (pages : List Page) → is_some_lent pages ≡ false
    → flushed_files files name pages ≡ files
unfolding flushed_files
flushed_none files name pages none = cond-false _ _ _ none

-- the file of the name, as it is after pages were written
pub bytes_flushed : (files : World) (name : List ℕ) (pages : List Page)
    → bytes_of (flushed_files files name pages name) ≡ shown pages (bytes_of (files name))
bytes_flushed files name pages =
    elim (cases_Bool (is_some_lent pages)) [
      | inl some ↦ ap (λ (f : World). bytes_of (f name)) (flushed_lent files name pages some)
          ∙ ap (λ (file : Option (List ℕ)). unwrap_or file [])
          (with_file-at files name (Some (shown pages (bytes_of (files name)))))
      | inr none ↦ ap (λ (f : World). bytes_of (f name)) (flushed_none files name pages none)
          ∙ sym (shown-none (bytes_of (files name)) pages none)
    ]

-- a file that was written is written once more
flushed_over : (files : World) (name : List ℕ) (pages : List Page) (file : List ℕ)
    → with_file (flushed_files files name pages) name (Some file) ≡ with_file files name (Some file)
flushed_over files name pages file =
    elim (cases_Bool (is_some_lent pages)) [
      | inl some ↦ ap (λ (f : World). with_file f name (Some file)) (flushed_lent files name pages some)
          ∙ with_file-again files name (Some (shown pages (bytes_of (files name)))) (Some file)
      | inr none ↦ ap (λ (f : World). with_file f name (Some file)) (flushed_none files name pages none)
    ]

some_lent-push : (pages : List Page) (page : Page)
    → is_some_lent (pages ++ page ∷ []) ≡ (is_some_lent pages || page.lent)
some_lent-push pages page =
    list_any-append (λ p. p.lent) pages (page ∷ []) ∙ ap (λ (b : Bool). is_some_lent pages || b) (or-false page.lent)

shown_one : (file : List ℕ) (page : Page) → shown (page ∷ []) file ≡ with_page file page
unfolding shown
shown_one file page = refl

-- a page that was not lent for writing shows nothing of its own
kept_more : (files : World) (name : List ℕ) (pages : List Page) (page : Page) → page.lent ≡ false
    → is_some_lent (pages ++ page ∷ []) ≡ is_some_lent pages
    → flushed_files files name pages ≡ flushed_files files name (pages ++ page ∷ [])
unfolding flushed_files
kept_more files name pages page kept same =
    let shows : shown (pages ++ page ∷ []) (bytes_of (files name)) ≡ shown pages (bytes_of (files name)) =
    shown-push (bytes_of (files name)) pages page ∙ cond-false _ _ _ kept in
    ap (λ (b : Bool). cond b (with_file files name (Some (shown pages (bytes_of (files name))))) files) (sym same)
    ∙ ap
    (λ (file : List ℕ). cond (is_some_lent (pages ++ page ∷ [])) (with_file files name (Some file)) files) (sym shows)

-- the file that one more page shows
shown_more : (files : World) (name : List ℕ) (pages : List Page) (page : Page)
    → shown (page ∷ []) (bytes_of (flushed_files files name pages name))
    ≡ shown (pages ++ page ∷ []) (bytes_of (files name))
shown_more files name pages page =
    ap (shown (page ∷ [])) (bytes_flushed files name pages)
    ∙ shown_one (shown pages (bytes_of (files name))) page
    ∙ sym (shown-push (bytes_of (files name)) pages page)

-- one more page is written
pub flushed-push : (files : World) (name : List ℕ) (pages : List Page) (page : Page)
    → flushed_files (flushed_files files name pages) name (page ∷ []) ≡ flushed_files files name (pages ++ page ∷ [])
flushed-push files name pages page =
    let now : World = flushed_files files name pages in
    let some : is_some_lent (pages ++ page ∷ []) ≡ (is_some_lent pages || page.lent) = some_lent-push pages page in
    elim (cases_Bool page.lent) [
      | inl lent ↦ flushed_lent now name (page ∷ []) (ap (λ (b : Bool). b || false) lent)
          ∙ flushed_over files name pages (shown (page ∷ []) (bytes_of (now name)))
          ∙ ap (λ (file : List ℕ). with_file files name (Some file)) (shown_more files name pages page)
          ∙ sym (flushed_lent files name (pages ++ page ∷ [])
          (some ∙ ap (λ (b : Bool). is_some_lent pages || b) lent ∙ or-true (is_some_lent pages)))
      | inr kept ↦ flushed-kept now name page kept
          ∙ kept_more files name pages page kept
          (some ∙ ap (λ (b : Bool). is_some_lent pages || b) kept ∙ or-false (is_some_lent pages))
    ]

-- the pages up to one place more
pub flushed-more : (old now new : World) (name : List ℕ) (pages : List Page) (place : ℕ) (page d : Page)
    → place < length pages → page ≡ get_or pages place d
    → now ≡ flushed_files old name (take place pages) → new ≡ flushed_files now name (page ∷ [])
    → new ≡ flushed_files old name (take (place + 1) pages)
flushed-more old now new name pages place page d within is was wrote =
    wrote
    ∙ ap (λ (f : World). flushed_files f name (page ∷ [])) was
    ∙ flushed-push old name (take place pages) page
    ∙ ap (λ (p : Page). flushed_files old name (take place pages ++ p ∷ [])) is
    ∙ ap (λ (ps : List Page). flushed_files old name ps) (sym (take_more pages place d within))

-- a fault at a page
pub partly : (old now new : World) (name : List ℕ) (pages : List Page) (place : ℕ) (page d : Page)
    → place < length pages → page ≡ get_or pages place d
    → now ≡ flushed_files old name (take place pages) → (new ≡ now) ⊎ (new ≡ flushed_files now name (page ∷ []))
    → IsPartlyFlushed name pages old new
partly old now new name pages place page d within is was (inl same) = record { count = place; files = same ∙ was }
partly old now new name pages place page d within is was (inr wrote) =
    record { count = place + 1; files = flushed-more old now new name pages place page d within is was wrote }

counted_one : (writes count : ℕ) (lent : Bool)
    → cond lent (counted (counted_by writes count)) (counted_by writes count)
    ≡ counted_by writes (count + cond lent 1 0)
counted_one writes count true = ap (counted_by writes) (sym (add-one count))
counted_one writes count false = ap (counted_by writes) (let same : count ≡ count + 0 = omega arith in same)

-- one more page is counted
pub counted-more : (before now new : ℕ) (pages : List Page) (place : ℕ) (page d : Page) → place < length pages
    → page ≡ get_or pages place d
    → now ≡ counted_by before (lent_count (take place pages)) → new ≡ cond page.lent (counted now) now
    → new ≡ counted_by before (lent_count (take (place + 1) pages))
counted-more before now new pages place page d within is was counts =
    let one = sum_by-append (λ (p : Page). cond {A = ℕ} p.lent 1 0) (take place pages) (page ∷ []) in
    let more : lent_count (take place pages ++ page ∷ []) ≡ lent_count (take place pages) + cond page.lent 1 0 =
    omega (arith, one) in
    counts
    ∙ ap (λ (n : ℕ). cond page.lent (counted n) n) was
    ∙ counted_one before (lent_count (take place pages)) page.lent
    ∙ ap (counted_by before) (sym more)
    ∙ ap (λ (p : Page). counted_by before (lent_count (take place pages ++ p ∷ []))) is
    ∙ ap (λ (ps : List Page). counted_by before (lent_count ps)) (sym (take_more pages place d within))

-- a page that was lent for writing, written as bytes at its place
pub flushed-bytes : (files : World) (name : List ℕ) (number : ℕ) (lent : Bool) (block : List ℕ) (at : ℕ) → lent ≡ true
    → length block ≡ 1024 → at ≡ 1024 * number
    → with_bytes files name at block
    ≡ flushed_files files name (record { number = number; bytes = block; lent = lent } ∷ [])
unfolding flushed_files shown with_block
flushed-bytes files name number lent block at is long place =
    ap (λ (n : ℕ). with_bytes files name n block) place
    ∙ ap (λ (b : List ℕ). with_file files name (Some (overwritten (bytes_of (files name)) (1024 * number) b)))
    (sym (whole_block-same block long))
    ∙ ap (λ (b : Bool). cond (b || false)
    (with_file files name
    (Some (cond b (overwritten (bytes_of (files name)) (1024 * number) (whole_block block)) (bytes_of (files name)))))
    files) (sym is)

-- files that a call left are those that the page gives
pub on_ok : {A E : Type 0} (result : Result A E) (told : Type 0) (new written flushed : World)
    → OnOk result (told → new ≡ written) → written ≡ flushed → OnOk result (told → new ≡ flushed)
on_ok (Ok value) told new written flushed wrote same = λ t. wrote t ∙ same
on_ok (Err fault) told new written flushed wrote same = tt

pub either_flushed : {A E : Type 0} (result : Result A E) (told : Type 0) (new old written flushed : World)
    → OnErr result (told → (new ≡ old) ⊎ (new ≡ written)) → written ≡ flushed
    → OnErr result (told → (new ≡ old) ⊎ (new ≡ flushed))
either_flushed (Ok value) told new old written flushed wrote same = tt
either_flushed (Err fault) told new old written flushed wrote same =
    λ t. elim (wrote t) [ inl kept ↦ inl kept | inr is ↦ inr (is ∙ same) ]

-- what holds is so of a refusal too
pub on_err : {A E : Type 0} (result : Result A E) (P : Type 0) → P → OnErr result P
on_err (Ok value) P holds = tt
on_err (Err fault) P holds = holds

-- a page of which none was lent for writing was not
pub lent-none : (pages : List Page) (place : ℕ) (page d : Page) → is_some_lent pages ≡ false → place < length pages
    → page ≡ get_or pages place d → page.lent ≡ false
lent-none pages place page d none within is =
    false_from_ne_true _
    (λ lent. true≢false
    (sym (list_any_at (λ p. p.lent) pages place d within (ap (λ (p : Page). p.lent) (sym is) ∙ lent)) ∙ none))

pub names-nil : (names : UnsyncedNames) (name : List ℕ) → flushed_names names name [] ≡ names
unfolding flushed_names
names-nil names name = refl

named_again : (names : UnsyncedNames) (name : List ℕ) (some lent : Bool)
    → let now : UnsyncedNames =
    cond some (with_name names name true) names in
    cond lent (with_name now name true) now ≡ cond (some || lent) (with_name names name true) names
named_again names name true true = with_name-cond_of_cond names name true true
named_again names name true false = refl
named_again names name false true = refl
named_again names name false false = refl

-- the names that are unsynced after one more page
pub names-more : (old now new : UnsyncedNames) (name : List ℕ) (pages : List Page) (place : ℕ) (page d : Page)
    → place < length pages → page ≡ get_or pages place d
    → now ≡ flushed_names old name (take place pages) → new ≡ cond page.lent (with_name now name true) now
    → new ≡ flushed_names old name (take (place + 1) pages)
unfolding flushed_names
names-more old now new name pages place page d within is was wrote =
    wrote
    ∙ ap (λ (n : UnsyncedNames). cond page.lent (with_name n name true) n) was
    ∙ named_again old name (is_some_lent (take place pages)) page.lent
    ∙ ap (λ (b : Bool). cond b (with_name old name true) old) (sym (some_lent-push (take place pages) page))
    ∙ ap (λ (p : Page). flushed_names old name (take place pages ++ p ∷ [])) is
    ∙ ap (λ (ps : List Page). flushed_names old name ps) (sym (take_more pages place d within))

-- calls that were counted raise the count
counted_by-rises : (count more : ℕ) → Rose count (counted (counted_by count more))
counted_by-rises count zero = omega arith
counted_by-rises count (suc more) = omega (arith, counted_by-rises count more)

pub counted_once : (before now new more : ℕ) (lent : Bool) → lent ≡ true → now ≡ counted_by before more
    → new ≡ cond lent (counted now) now → Rose before new
counted_once before now new more lent is was counts =
    omega (
      arith,
      counted_by-rises before more,
      ap counted was,
      counts ∙ ap (λ (b : Bool). cond {A = ℕ} b (counted now) now) is,
    )

-- and so do as many as there are pages that were lent for writing, where some was
some_counted : (pages : List Page) → is_some_lent pages ≡ true → 1 ≤ lent_count pages
some_counted [] some = absurd (true≢false (sym some))
some_counted (page ∷ pages) some =
    let one = sum_by-cons (λ (p : Page). cond {A = ℕ} p.lent 1 0) page pages in
    elim (cases_Bool page.lent) [
      | inl lent ↦ omega (arith, one, ap (λ (b : Bool). cond {A = ℕ} b 1 0) lent)
      | inr kept ↦ omega (arith, one, some_counted pages (sym (ap (λ (b : Bool). b || is_some_lent pages) kept) ∙ some))
    ]

pub some_rose : (pages : List Page) (before : ℕ) → is_some_lent pages ≡ true
    → Rose before (counted_by before (lent_count pages))
some_rose pages before some = of_more (lent_count pages) (some_counted pages some)
  where
    of_more : (more : ℕ) → 1 ≤ more → Rose before (counted_by before more)
    of_more zero some = absurd (omega (arith, some))
    of_more (suc more) some = counted_by-rises before more

pub counted_by-most : (count more : ℕ) → counted_by count more ≤ count + more
counted_by-most count zero = omega arith
counted_by-most count (suc more) = omega (arith, counted_by-most count more)

lent_count-take : (pages : List Page) (place : ℕ) → lent_count (take place pages) ≤ lent_count pages
lent_count-take pages place =
    let both = sum_by-append (λ (p : Page). cond {A = ℕ} p.lent 1 0) (take place pages) (drop place pages) in
    let whole : lent_count (take place pages ++ drop place pages) ≡ lent_count pages =
    ap (λ (ps : List Page). lent_count ps) (take-append-drop place pages) in
    omega (arith, both, whole)

-- where one more page was tried no more writes were made than pages were lent
pub counted-most : (before new : ℕ) (pages : List Page) (place : ℕ)
    → new ≡ counted_by before (lent_count (take place pages)) → new ≤ before + lent_count pages
counted-most before new pages place counts =
    omega (arith, counts, counted_by-most before (lent_count (take place pages)), lent_count-take pages place)
