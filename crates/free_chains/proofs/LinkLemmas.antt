-- Words that are written in turn, and the blocks that are lent for them.
use Rattle.std.proofs.Common.{◌≡◌, ◌≢◌, ℕ, ◌≤◌, Bool, true, List, [], ◌∷◌, ◌++◌, sym, subst, ◌∙◌, inl, inr, arith}
use Rattle.std.specs.Prelude.{◌==◌}
use Rattle.std.proofs.lemmas.Bool.{cond-true, cond-false}
use Rattle.std.proofs.lemmas.Bool.Decides.{eqb_tells}
use Rattle.quota_types.proofs.TimesLemmas.{stands_either, stands_left, stands_right, times-append}
use Rattle.file_blocks.specs.Block.{block_of}
use Rattle.outside.specs.Seen.{StoreSeen}
use Rattle.quota_types.specs.KeptBytes.{KeepsOutside}
use Rattle.quota_types.proofs.BytesLemmas.{number_same}
use Rattle.quota_pages.specs.Page.{Page, is_buffered}
use Rattle.quota_pages.specs.Pages.{pages_of}
use Rattle.quota_pages.specs.Used.{HasWord, LendsSome, LooksAtSome, missing}
use Rattle.quota_pages.specs.KeptBlocks.{KeepsBlocksBut}
use Rattle.quota_pages.specs.declared.page_buffer.Pages.{Pages}
use Rattle.quota_pages.proofs.LentLemmas.{lends_among}
use Rattle.quota_pages.proofs.UsedLemmas.{lends_more, lends_then, looks_then_lends, missing-few, missing-there}
use Rattle.quota_pages.proofs.UsedLemmas.{HasWord-earlier, HasWord-later}
use Rattle.free_chains.specs.Links.{HasLinks, led_to, missing_at}
use Rattle.free_chains.specs.EntryList.{AreApart, Unlinks}
use Rattle.free_chains.proofs.EntryListLemmas.{not_led_to}
use Rattle.free_chains.proofs.SpliceLemmas.{none_of_one}

-- both links were written, one after the other
pub has_links : (number behind before : ℕ) (old between new : List ℕ) → HasWord number 0 behind old between
    → HasWord number 4 before between new → HasLinks number behind before old new
has_links number behind before old between new first second = record {
  next = number_same 4 0 (block_of new number) (block_of between number)
      (λ at above below. second.others.before at (omega arith)) ∙ first.is;
  previous = second.is;
  others = record {
    before = λ at early. absurd (omega (arith, early));
    behind = λ at late. second.others.behind at (omega (arith, late)) ∙ first.others.behind at (omega (arith, late));
  };
}

-- both links were written in a block that was as before
pub links_earlier : (number behind before : ℕ) (old between new : List ℕ)
    → block_of between number ≡ block_of old number → HasLinks number behind before between new
    → HasLinks number behind before old new
links_earlier number behind before old between new same links = record {
  next = links.next;
  previous = links.previous;
  others = subst (λ (block : List ℕ). KeepsOutside 0 8 block (block_of new number)) same links.others;
}

-- a block to which a link does not lead stays, where the one changed to which it leads
stays_beside : (old new : List ℕ) (link number : ℕ) → KeepsBlocksBut (led_to link) old new → number ≢ link
    → block_of new number ≡ block_of old number
stays_beside old new link number keeps other = keeps.others number (not_led_to link number other)

stays_but_one : (old new : List ℕ) (block number : ℕ) → KeepsBlocksBut (block ∷ []) old new → number ≢ block
    → block_of new number ≡ block_of old number
stays_but_one old new block number keeps other = keeps.others number (none_of_one block number other)

-- the old first block of a list names the one before it, and then that has its links
pub enters_links : (zero one two three : List ℕ) (first block : ℕ) → one ≡ zero → KeepsBlocksBut (led_to first) one two
    → HasLinks block first 0 two three → block ≢ first → HasLinks block first 0 zero three
enters_links zero one two three first block same keeps links other =
    subst (λ (file : List ℕ). HasLinks block first 0 file three) same
    (links_earlier block first 0 one two three (stays_beside one two first block keeps other) links)

pub enters_behind : (zero one two three : List ℕ) (first block : ℕ) → one ≡ zero
    → (first ≢ 0 → HasWord first 4 block one two) → KeepsBlocksBut (block ∷ []) two three → block ≢ first → first ≢ 0
    → HasWord first 4 block zero three
enters_behind zero one two three first block same word keeps other some =
    subst (λ (file : List ℕ). HasWord first 4 block file three) same
    (HasWord-later first 4 block one two three (word some)
    (stays_but_one two three block first keeps (λ is. other (sym is))))

-- the blocks around a block name each other, and then its links are cleared
unlinks_in_turn : (one two three four : List ℕ) (block next previous : ℕ) → AreApart block next previous
    → (next ≢ 0 → HasWord next 4 previous one two) → KeepsBlocksBut (led_to next) one two
    → (previous ≢ 0 → HasWord previous 0 next two three) → KeepsBlocksBut (led_to previous) two three
    → HasLinks block 0 0 three four → KeepsBlocksBut (block ∷ []) three four → Unlinks one four block next previous
unlinks_in_turn one two three four block next previous apart behind keeps before keeps' cleared keeps'' = record {
  links = links_earlier block 0 0 one three four
      (stays_beside two three previous block keeps' (λ same. apart.previous_other (sym same))
      ∙ stays_beside one two next block keeps (λ same. apart.next_other (sym same))) cleared;
  before = λ some.
      HasWord-later previous 0 next one three four
      (HasWord-earlier previous 0 next one two three
      (stays_beside one two next previous keeps (λ same. apart.each_other (λ none. some (same ∙ none)) (sym same)))
      (before some))
      (stays_but_one three four block previous keeps'' apart.previous_other);
  behind = λ some.
      HasWord-later next 4 previous one three four
      (HasWord-later next 4 previous one two three (behind some)
      (stays_beside two three previous next keeps' (apart.each_other some)))
      (stays_but_one three four block next keeps'' apart.next_other);
}

pub unlinks : (zero one two three four : List ℕ) (block next previous : ℕ) → one ≡ zero → AreApart block next previous
    → (next ≢ 0 → HasWord next 4 previous one two) → KeepsBlocksBut (led_to next) one two
    → (previous ≢ 0 → HasWord previous 0 next two three) → KeepsBlocksBut (led_to previous) two three
    → HasLinks block 0 0 three four → KeepsBlocksBut (block ∷ []) three four → Unlinks zero four block next previous
unlinks zero one two three four block next previous same apart behind keeps before keeps' cleared keeps'' =
    subst (λ (file : List ℕ). Unlinks file four block next previous) same
    (unlinks_in_turn one two three four block next previous apart behind keeps before keeps' cleared keeps'')

-- how many blocks are missing to have the one buffered to which a link leads
missing_at-few : (pages : List Page) (number : ℕ) → missing_at pages number ≤ 1
missing_at-few pages number = elim (eqb_tells number 0) [
  | inl same ↦ omega (arith, cond-true (number == 0) 0 (missing pages number) same.0)
  | inr other ↦ omega (arith, cond-false (number == 0) 0 (missing pages number) other.0, missing-few pages number)
]

missing_at-there : (pages : List Page) (number : ℕ) → (number ≢ 0 → is_buffered pages number ≡ true)
    → missing_at pages number ≡ 0
missing_at-there pages number there = elim (eqb_tells number 0) [
  | inl same ↦ cond-true (number == 0) 0 (missing pages number) same.0
  | inr other ↦ cond-false (number == 0) 0 (missing pages number) other.0 ∙ missing-there pages number (there other.1)
]

-- a block was lent for writing twice, and was buffered the second time
pub lends_twice : {tells ok : Bool} {number : ℕ} {before between now : StoreSeen} {old middle new : Pages}
    → LendsSome tells true (missing (pages_of old) number) (number ∷ []) before between old middle
    → is_buffered (pages_of middle) number ≡ true
    → LendsSome tells ok (missing (pages_of middle) number) (number ∷ []) between now middle new
    → LendsSome tells ok (missing (pages_of old) number) (number ∷ []) before now old new
lends_twice {number} {old} {middle} first there second =
    lends_more (missing (pages_of old) number) (omega (arith, missing-there (pages_of middle) number there))
    (lends_among (number ∷ [])
    (λ other stands. elim (stands_either (number ∷ []) (number ∷ []) other stands) [ inl one ↦ one | inr two ↦ two ])
    (lends_then first second))

-- the blocks that are lent for writing where one is put before a list
pub enters_lends : {tells ok : Bool} (first block : ℕ) {zero one two three : StoreSeen} {a b c d : Pages}
    → LooksAtSome tells true (missing (pages_of a) block) zero one a b → is_buffered (pages_of b) block ≡ true
    → LendsSome tells true (missing_at (pages_of b) first) (led_to first) one two b c
    → LendsSome tells ok (missing (pages_of c) block) (block ∷ []) two three c d
    → LendsSome tells ok 2 (block ∷ led_to first) zero three a d
enters_lends first block {a} {b} {c} looks there behind links =
    lends_more 2 (omega (
      arith,
      missing-few (pages_of a) block,
      missing_at-few (pages_of b) first,
      missing-there (pages_of c) block (behind.stay block there),
    ))
    (lends_among (block ∷ led_to first)
    (λ number stands. elim (stands_either (led_to first) (block ∷ []) number stands) [
      | inl old ↦ stands_right (block ∷ []) (led_to first) number old
      | inr new ↦ stands_left (block ∷ []) (led_to first) number new
    ])
    (looks_then_lends looks (lends_then behind links)))

-- the blocks that are lent for writing where one is taken out between two
pub unlinks_lends : {tells ok : Bool} (block next previous : ℕ) {zero one two three four : StoreSeen}
    {a b c d e : Pages} → is_buffered (pages_of a) block ≡ true
    → LooksAtSome tells true (missing_at (pages_of a) previous) zero one a b
    → (previous ≢ 0 → is_buffered (pages_of b) previous ≡ true)
    → LendsSome tells true (missing_at (pages_of b) next) (led_to next) one two b c
    → LendsSome tells true (missing_at (pages_of c) previous) (led_to previous) two three c d
    → LendsSome tells ok (missing (pages_of d) block) (block ∷ []) three four d e
    → LendsSome tells ok 2 (block ∷ led_to previous ++ led_to next) zero four a e
unlinks_lends block next previous {a} {b} {c} {d} there looks brought behind before links =
    lends_more 2
    (omega (
      arith,
      missing_at-few (pages_of a) previous,
      missing_at-few (pages_of b) next,
      missing_at-there (pages_of c) previous (λ some. behind.stay previous (brought some)),
      missing-there (pages_of d) block (before.stay block (behind.stay block (looks.stay block there))),
    ))
    (lends_among (block ∷ led_to previous ++ led_to next)
    (λ number stands. omega (
      arith,
      stands,
      times-append (led_to next) (led_to previous ++ block ∷ []) number,
      times-append (led_to previous) (block ∷ []) number,
      times-append (block ∷ led_to previous) (led_to next) number,
      times-append (block ∷ []) (led_to previous) number,
    ))
    (looks_then_lends looks (lends_then behind (lends_then before links))))
