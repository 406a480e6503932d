-- What calls leave of a buffer of pages.
use Rattle.std.proofs.Common.{◌≡◌, ℕ, ◌+◌, ◌<◌, ◌≤◌, ◌≢◌, ◌⊎◌, inl, inr, take, Bool, true, false, cond, ◌||◌, IsTrue}
use Rattle.std.proofs.Common.{List, [], ◌∷◌, ◌++◌, length, set, get_or, refl, sym, ap, subst, ◌∙◌, arith, length-append}
use Rattle.std.specs.Prelude.{◌==◌}
use Rattle.std.specs.String.{string_bytes}
use Rattle.std.proofs.Math.Bool.{or-false}
use Rattle.std.proofs.lemmas.Bool.{cond-true, cond-false, eqb-true}
use Rattle.std.proofs.lemmas.List.{get_or_default, length-set}
use Rattle.outside.specs.World.{World}
use Rattle.file_blocks.specs.Block.{block_of, bytes_of}
use Rattle.quota_pages.specs.Overlay.{whole_block, with_block}
use Rattle.quota_pages.specs.Flushed.{IsPartlyFlushed}
use Rattle.quota_pages.specs.Held.{lent_head, pages_in, with_lent}
use Rattle.quota_pages.specs.Page.{IsClean, Page, are_distinct, is_buffered, is_lent, lent_count, shown}
use Rattle.quota_pages.specs.Pages.{HasAt, HoldsAsBuffered, Lent, LooksAt, name_of, pages_of}
use Rattle.quota_pages.specs.declared.held_blocks.PageHead.{PageHead}
use Rattle.quota_pages.specs.declared.held_blocks.Held.{Held}
use Rattle.quota_pages.specs.declared.page_buffer.Pages.{Pages}
use Rattle.quota_pages.proofs.BlockLemmas.{block_of-with_block_other, whole_block-same}
use Rattle.quota_pages.proofs.FlushLemmas.{bytes_flushed}
use Rattle.quota_pages.proofs.HeldLemmas.{length-pages_in, no_page, page_of, pushed_pages, pages_in-get_or}
use Rattle.quota_pages.proofs.HeldLemmas.{pages_in-set}
use Rattle.quota_pages.proofs.PageLemmas.{IsClean-front, IsClean-push, IsClean-set, are_distinct-push, are_distinct-set}
use Rattle.quota_pages.proofs.PageLemmas.{block_of-shown_take, is_buffered-at, is_buffered-push, is_buffered-set}
use Rattle.quota_pages.proofs.PageLemmas.{is_lent-at, is_lent-push, is_lent-set, lent_count-push, lent_count-set}
use Rattle.quota_pages.proofs.PageLemmas.{lent_page, shown_lent, shown-at, shown-push, shown-set}

-- a block that was buffered already
there_already : (there : Bool) (pages : List Page) (number other : ℕ) → (number == other) ≡ there
    → is_buffered pages number ≡ true → is_buffered pages other ≡ (is_buffered pages other || there)
there_already true pages number other same buffered =
    let is : is_buffered pages other ≡ true = ap (is_buffered pages) (sym (eqb-true number other same)) ∙ buffered in
    is ∙ ap (λ (b : Bool). b || true) (sym is)
there_already false pages number other same buffered = sym (or-false (is_buffered pages other))

pub looks_at-none : (tells : Bool) (file : List ℕ) (number : ℕ) (buffer : Pages)
    → is_buffered (pages_of buffer) number ≡ true → LooksAt tells file number buffer buffer
looks_at-none tells file number buffer there = record {
  brings = record {
    name = refl;
    buffered = λ other. there_already (number == other) (pages_of buffer) number other refl there;
    count = sym (cond-true _ _ _ there);
  };
  shows = λ other. refl;
  clean = λ told clean. clean;
  was_clean = λ other clean. clean;
  lent = λ other. refl;
  lent_count = refl;
}

-- a block that was read from the file
pub looks_at-read : (tells : Bool) (file : List ℕ) (number : ℕ) (block : List ℕ) (old new : Pages)
    → name_of new ≡ name_of old → is_buffered (pages_of old) number ≡ false
    → pages_of new ≡ pages_of old ++ record { number = number; bytes = block; lent = false } ∷ []
    → (IsTrue tells → block ≡ block_of file number) → LooksAt tells file number old new
looks_at-read tells file number block old new name none pages is =
    let page : Page = record { number = number; bytes = block; lent = false } in
    record {
      brings = record {
        name = name;
        buffered =
            λ other. ap (λ (ps : List Page). is_buffered ps other) pages ∙ is_buffered-push (pages_of old) page other;
        count = ap length pages ∙ length-append (pages_of old) (page ∷ []) ∙ sym (cond-false _ _ _ none);
      };
      shows = λ other. ap (λ (ps : List Page). shown ps other) pages ∙ shown-push other (pages_of old) page;
      clean = λ told clean. subst (λ (ps : List Page). IsClean ps file) (sym pages)
          (IsClean-push (pages_of old) page file (is told) clean);
      was_clean = λ other clean.
          IsClean-front (pages_of old) page other (subst (λ (ps : List Page). IsClean ps other) pages clean);
      lent = λ other. ap (λ (ps : List Page). is_lent ps other) pages ∙ is_lent-push (pages_of old) page other refl;
      lent_count = ap (λ (ps : List Page). lent_count ps) pages ∙ lent_count-push (pages_of old) page refl;
    }

-- a block that was looked at, lent for writing, and left with other bytes
pub lent-set : (tells : Bool) (file : List ℕ) (number place : ℕ) (bytes : List ℕ) (d : Page) (old between new : Pages)
    → LooksAt tells file number old between → name_of new ≡ name_of between
    → pages_of new ≡ set (pages_of between) place (lent_page number bytes) → place < length (pages_of between)
    → (get_or (pages_of between) place d).number ≡ number → IsTrue (are_distinct (pages_of between))
    → Lent tells file number bytes old new
lent-set tells file number place bytes d old between new looks name pages within is distinct =
    let page : Page = lent_page number bytes in
    let marked : is_lent (pages_of old) number ≡ (get_or (pages_of between) place d).lent =
    sym (looks.lent number) ∙ is_lent-at (pages_of between) place number d within is distinct in
    record {
      brings = record {
        name = name ∙ looks.brings.name;
        buffered = λ other. ap (λ (ps : List Page). is_buffered ps other) pages
            ∙ is_buffered-set (pages_of between) place number page d within is other ∙ looks.brings.buffered other;
        count = ap length pages ∙ length-set (pages_of between) place page ∙ looks.brings.count;
      };
      shows = λ other. ap (λ (ps : List Page). shown ps other) pages
          ∙ shown-set other (pages_of between) place number bytes d within is distinct
          ∙ ap (λ (f : List ℕ). with_block f number bytes) (looks.shows other);
      clean = λ told clean. subst (λ (ps : List Page). IsClean ps file) (sym pages)
          (IsClean-set (pages_of between) place number bytes file (looks.clean told clean));
      lent = λ other. ap (λ (ps : List Page). is_lent ps other) pages
          ∙ is_lent-set (pages_of between) place number bytes d within is other
          ∙ ap (λ (b : Bool). b || number == other) (looks.lent other);
      lent_count = ap (λ (ps : List Page). lent_count ps) pages
          ∙ lent_count-set (pages_of between) place number bytes d within
          ∙ ap (λ (n : ℕ). cond (get_or (pages_of between) place d).lent n (n + 1)) looks.lent_count
          ∙ ap (λ (b : Bool). cond b (lent_count (pages_of old)) (lent_count (pages_of old) + 1)) (sym marked);
    }

-- the number of the page at a place
number_at_place : (buffer : Pages) (place number : ℕ) → HasAt place number buffer
    → (place < length (pages_of buffer)) × ((get_or (pages_of buffer) place no_page).number ≡ number)
unfolding pages_of
number_at_place buffer place number has =
    let heads = buffer.held.heads.items in
    let blocks = buffer.held.blocks.items in
    let h : PageHead = record { number = number; lent = false } in
    let within : place < length (pages_in heads blocks) =
    omega (arith, has.within, length-pages_in heads blocks buffer.beside) in (
      within,
      ap (λ (p : Page). p.number) (pages_in-get_or heads blocks place no_page h [] buffer.beside has.within) ∙ has.is,
    )

-- how many pages there are
pub page_count : (buffer : Pages) → length (pages_of buffer) ≡ length buffer.held.heads.items
unfolding pages_of
page_count buffer = length-pages_in buffer.held.heads.items buffer.held.blocks.items buffer.beside

-- and that they are twelve at most
pub few_pages : (buffer : Pages) → length (pages_of buffer) ≤ 12
few_pages buffer = omega (arith, page_count buffer, buffer.few)

-- a head that was found at a place
pub has_at : (buffer : Pages) (place number : ℕ) (d : PageHead) → place < length buffer.held.heads.items
    → (get_or buffer.held.heads.items place d).number ≡ number → HasAt place number buffer
has_at buffer place number d within is = record {
  within = within;
  is = ap (λ (h : PageHead). h.number) (get_or_default buffer.held.heads.items place _ d within) ∙ is;
}

pub has_buffered : (buffer : Pages) (place number : ℕ) → HasAt place number buffer
    → is_buffered (pages_of buffer) number ≡ true
has_buffered buffer place number has =
    let at = number_at_place buffer place number has in is_buffered-at (pages_of buffer) place number no_page at.0 at.1

-- the pages of a buffer of which one block was lent
pages_in-lent : (between : Pages) (place number : ℕ) (bytes : List ℕ) → HasAt place number between → let held =
    with_lent between.held place bytes in
    pages_in held.heads.items held.blocks.items
    ≡ set (pages_in between.held.heads.items between.held.blocks.items) place (lent_page number bytes)
pages_in-lent between place number bytes has =
    let heads = between.held.heads.items in
    let blocks = between.held.blocks.items in
    let h : PageHead = record { number = 0; lent = true } in
    let named : (get_or heads place h).number ≡ number = ap (λ (x : PageHead). x.number)
    (get_or_default heads place h (record { number = number; lent = false }) has.within) ∙ has.is in
    pages_in-set heads blocks place (lent_head (get_or heads place h)) bytes between.beside
    ∙ ap (λ (n : ℕ). set (pages_in heads blocks) place (lent_page n bytes)) named

-- numbers stay distinct where a new one is pushed, and where a block is lent
pub pushed_distinct : (heads new_heads : List PageHead) (blocks new_blocks : List (List ℕ)) (head : PageHead)
    (block : List ℕ) → length heads ≡ length blocks → new_heads ≡ heads ++ head ∷ [] → new_blocks ≡ blocks ++ block ∷ []
    → is_buffered (pages_in heads blocks) head.number ≡ false → IsTrue (are_distinct (pages_in heads blocks))
    → IsTrue (are_distinct (pages_in new_heads new_blocks))
pushed_distinct heads new_heads blocks new_blocks head block same is are none distinct =
    subst IsTrue (sym
    (ap are_distinct (pushed_pages heads new_heads blocks new_blocks head block same is are)
    ∙ are_distinct-push (pages_in heads blocks) (page_of head block) none)) distinct

pub lent_beside : (between : Pages) (place : ℕ) (bytes : List ℕ) → let held =
    with_lent between.held place bytes in length held.heads.items ≡ length held.blocks.items
lent_beside between place bytes =
    let heads = between.held.heads.items in
    let h : PageHead = record { number = 0; lent = true } in
    length-set heads place (lent_head (get_or heads place h)) ∙ between.beside
    ∙ sym (length-set between.held.blocks.items place bytes)

pub lent_few : (between : Pages) (place : ℕ) (bytes : List ℕ)
    → length (with_lent between.held place bytes).heads.items ≤ 12
lent_few between place bytes =
    let heads = between.held.heads.items in
    let h : PageHead = record { number = 0; lent = true } in
    omega (arith, length-set heads place (lent_head (get_or heads place h)), between.few)

pub lent_distinct : (between : Pages) (place number : ℕ) (bytes : List ℕ) → HasAt place number between → let held =
    with_lent between.held place bytes in IsTrue (are_distinct (pages_in held.heads.items held.blocks.items))
unfolding pages_of
lent_distinct between place number bytes has =
    let at = number_at_place between place number has in
    subst IsTrue (sym
    (ap are_distinct (pages_in-lent between place number bytes has)
    ∙ are_distinct-set (pages_of between) place (lent_page number bytes) no_page at.0 at.1)) between.distinct

-- the bytes of the page at a place
bytes_at : (buffer : Pages) (place number : ℕ) (block : List ℕ) → HasAt place number buffer
    → block ≡ get_or buffer.held.blocks.items place block → (get_or (pages_of buffer) place no_page).bytes ≡ block
unfolding pages_of
bytes_at buffer place number block has is =
    let h : PageHead = record { number = number; lent = false } in
    ap (λ (p : Page). p.bytes)
    (pages_in-get_or buffer.held.heads.items buffer.held.blocks.items place no_page h block buffer.beside has.within)
    ∙ sym is

-- the block at a place is the one that is shown
pub looked_at : (tells : Bool) (file : List ℕ) (number place : ℕ) (block : List ℕ) (old new : Pages)
    → LooksAt tells file number old new → HasAt place number new
    → block ≡ get_or new.held.blocks.items place block → length block ≡ 1024 → IsTrue tells
    → IsClean (pages_of old) file → block ≡ block_of (shown (pages_of old) file) number
unfolding pages_of
looked_at tells file number place block old new looks has is long told clean =
    let at = number_at_place new place number has in
    let same = bytes_at new place number block has is in
    sym same
    ∙ shown-at file (pages_of new) place number no_page at.0 at.1 new.distinct (looks.clean told clean)
    (ap length same ∙ long)
    ∙ ap (λ (f : List ℕ). block_of f number) (looks.shows file)

-- and over each file over which the buffer is clean then
pub looked_at-held : (tells : Bool) (number place : ℕ) (block : List ℕ) (new : Pages) → HasAt place number new
    → block ≡ get_or new.held.blocks.items place block → length block ≡ 1024
    → HoldsAsBuffered new (λ shown. block ≡ block_of shown number)
looked_at-held tells number place block new has is long file clean =
    looked_at true file number place block new new
    (looks_at-none true file number new (has_buffered new place number has)) has is long refl clean

-- the block at a place, which was lent for writing, is the one that is shown over any file
pub looked_at-was_lent : (tells : Bool) (file : List ℕ) (number place : ℕ) (block : List ℕ) (old new : Pages)
    → LooksAt tells file number old new → HasAt place number new
    → block ≡ get_or new.held.blocks.items place block → length block ≡ 1024 → is_lent (pages_of old) number ≡ true
    → (other : List ℕ) → block ≡ block_of (shown (pages_of old) other) number
unfolding pages_of
looked_at-was_lent tells file number place block old new looks has is long lent other =
    let at = number_at_place new place number has in
    let same = bytes_at new place number block has is in
    let marked : (get_or (pages_of new) place no_page).lent ≡ true =
    sym (is_lent-at (pages_of new) place number no_page at.0 at.1 new.distinct) ∙ looks.lent number ∙ lent in
    sym (ap (λ (f : List ℕ). block_of f number) (sym (looks.shows other))
    ∙ shown_lent other (pages_of new) place number no_page at.0 at.1 marked new.distinct
    ∙ ap whole_block same
    ∙ whole_block-same block long)

pub lent_from : (tells : Bool) (file : List ℕ) (number place : ℕ) (bytes : List ℕ) (old between new : Pages)
    → LooksAt tells file number old between → HasAt place number between → new.name ≡ between.name
    → new.held ≡ with_lent between.held place bytes → Lent tells file number bytes old new
unfolding pages_of name_of
lent_from tells file number place bytes old between new looks has name is =
    let at = number_at_place between place number has in
    lent-set tells file number place bytes no_page old between new looks (ap string_bytes name)
    (ap (λ (held : Held). pages_in held.heads.items held.blocks.items) is
    ∙ pages_in-lent between place number bytes has) at.0 at.1 between.distinct

-- after a fault of a flush a block is the old one or the one that was shown
pub block_left : (buffer : Pages) (old new : World) (number : ℕ)
    → IsPartlyFlushed (name_of buffer) (pages_of buffer) old new
    → (block_of (bytes_of (new (name_of buffer))) number ≡ block_of (bytes_of (old (name_of buffer))) number)
    ⊎ (block_of (bytes_of (new (name_of buffer))) number
    ≡ block_of (shown (pages_of buffer) (bytes_of (old (name_of buffer)))) number)
unfolding pages_of
block_left buffer old new number partly =
    let name = name_of buffer in
    let left : block_of (bytes_of (new name)) number
    ≡ block_of (shown (take partly.count (pages_of buffer)) (bytes_of (old name))) number =
    ap (λ (files : World). block_of (bytes_of (files name)) number) partly.files
    ∙ ap (λ (file : List ℕ). block_of file number) (bytes_flushed old name (take partly.count (pages_of buffer))) in
    elim (block_of-shown_take (bytes_of (old name)) (pages_of buffer) partly.count number buffer.distinct) [
      | inl kept ↦ inl (left ∙ kept)
      | inr shows ↦ inr (left ∙ shows)
    ]

-- a block that is looked at after another one was lent and left with other bytes is as it was shown before
pub looked_at-lent : (tells : Bool) (files now : World) (number other : ℕ) (bytes block : List ℕ) (old lent : Pages)
    → Lent tells (bytes_of (files (name_of old))) number bytes old lent → now ≡ files → other ≢ number → IsTrue tells
    → IsClean (pages_of old) (bytes_of (files (name_of old)))
    → (IsTrue tells → IsClean (pages_of lent) (bytes_of (now (name_of lent)))
    → block ≡ block_of (shown (pages_of lent) (bytes_of (now (name_of lent)))) other)
    → block ≡ block_of (shown (pages_of old) (bytes_of (files (name_of old)))) other
looked_at-lent tells files now number other bytes block old lent lends kept differ told clean looked =
    let file : List ℕ = bytes_of (files (name_of old)) in
    let same : file ≡ bytes_of (now (name_of lent)) = ap (λ (name : List ℕ). bytes_of (files name))
    (sym lends.brings.name) ∙ ap (λ (f : World). bytes_of (f (name_of lent))) (sym kept) in
    looked told (subst (λ (f : List ℕ). IsClean (pages_of lent) f) same (lends.clean told clean))
    ∙ ap (λ (f : List ℕ). block_of (shown (pages_of lent) f) other) (sym same)
    ∙ ap (λ (f : List ℕ). block_of f other) (lends.shows file)
    ∙ block_of-with_block_other (shown (pages_of old) file) number other bytes differ
