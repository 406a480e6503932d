-- Room for a block and for those to which its links lead.
use Rattle.std.proofs.Common.{◌≡◌, ◌≢◌, ℕ, zero, suc, ◌+◌, ◌<◌, ◌≤◌, ◌⊎◌, true, List, [], ◌∷◌, ◌++◌, length, inl, inr}
use Rattle.std.proofs.Common.{sym, ap, ◌∙◌, arith, length-append, ne_eqb}
use Rattle.std.specs.Prelude.{IsTrue}
use Rattle.std.proofs.lemmas.Bool.{cond-false}
use Rattle.file_blocks.specs.Block.{leads, next_of}
use Rattle.quota_types.specs.Times.{times}
use Rattle.quota_pages.specs.Page.{HasRoomFor, Page, is_buffered}
use Rattle.quota_pages.specs.Used.{HasRoomWithin, missing, missing_among}
use Rattle.quota_pages.proofs.RoomLemmas.{missing_among-few, missing_among-front, room-first, room-others}
use Rattle.quota_pages.proofs.UsedLemmas.{missing-few, room-missing}
use Rattle.quota_pages.proofs.UsesLemmas.{missing_among-append, missing_among-cons, missing_among-nil}
use Rattle.quota_pages.proofs.UsesLemmas.{missing_among-stay}
use Rattle.free_chains.specs.FreeList.{CountsWithin}
use Rattle.free_chains.specs.Links.{led_to, missing_at}
use Rattle.free_chains.specs.declared.heads.Heads.{Heads}
use Rattle.free_chains.proofs.ChainLemmas.{chain_goes_on}
use Rattle.free_chains.proofs.FreeCountLemmas.{IsBegun, begun_more}

-- a link that is not 0 leads to one block
led_some : (number : ℕ) → number ≢ 0 → led_to number ≡ number ∷ []
led_some number some = cond-false _ _ _ (ne_eqb number 0 some)

missing_some : (pages : List Page) (number : ℕ) → number ≢ 0 → missing_at pages number ≡ missing pages number
missing_some pages number some = cond-false _ _ _ (ne_eqb number 0 some)

led_one : (pages : List Page) (number : ℕ) → number ≢ 0 → missing_among pages (led_to number) ≡ missing pages number
led_one pages number some =
    ap (missing_among pages) (led_some number some)
    ∙ omega (arith, missing_among-cons pages number [], missing_among-nil pages)

-- a link misses the block to which it leads
pub led_missing : (pages : List Page) (number : ℕ) → missing_among pages (led_to number) ≡ missing_at pages number
led_missing pages zero = missing_among-nil pages
led_missing pages (suc n) =
    let some : suc n ≢ 0 = λ is. absurd (omega (arith, is)) in
    led_one pages (suc n) some ∙ sym (missing_some pages (suc n) some)

led_few : (number : ℕ) → length (led_to number) ≤ 1
led_few zero = omega arith
led_few (suc n) =
    let some : suc n ≢ 0 = λ is. absurd (omega (arith, is)) in
    omega (arith, ap (λ (xs : List ℕ). length xs) (led_some (suc n) some))

-- where a link has room, the block to which it leads has
pub led_room : (pages : List Page) (number : ℕ) → length pages + missing_among pages (led_to number) ≤ 12 → number ≢ 0
    → HasRoomFor pages number
led_room pages number room some = room-missing pages number (omega (arith, room, led_one pages number some))

-- the first of two links has room where both have
pub first_led : (pages : List Page) (one two : ℕ) → length pages + missing_among pages (led_to one ++ led_to two) ≤ 12
    → one ≢ 0 → HasRoomFor pages one
first_led pages one two room =
    led_room pages one (omega (arith, room, missing_among-append pages (led_to one) (led_to two)))

-- and the second one has, once the block was looked at to which the first one leads
pub second_led : (old new : List Page) (one two : ℕ)
    → ((other : ℕ) → is_buffered old other ≡ true → is_buffered new other ≡ true)
    → length new ≤ length old + missing_at old one
    → length old + missing_among old (led_to one ++ led_to two) ≤ 12 → two ≢ 0 → HasRoomFor new two
second_led old new one two stay few room =
    led_room new two (omega (
      arith,
      few,
      room,
      missing_among-append old (led_to one) (led_to two),
      led_missing old one,
      missing_among-stay old new (led_to two) stay,
    ))

-- a block of which the links are known, or for which and two more there is room, has room
pub beside_first : {K : Type 0} (pages : List Page) (block : ℕ) (others : List ℕ)
    → HasRoomWithin K pages 3 (block ∷ others) → HasRoomFor pages block
beside_first pages block others room = elim room [
  | inl many ↦ (λ absent. omega (arith, many))
  | inr exact ↦ room-first pages block others exact.1
]

-- and so have the blocks to which its links lead, once it was looked at
pub beside_others : {K : Type 0} (old new : List Page) (block one two : ℕ) (others : List ℕ)
    → HasRoomWithin K old 3 (block ∷ others) → (K → others ≡ led_to one ++ led_to two)
    → ((other : ℕ) → is_buffered old other ≡ true → is_buffered new other ≡ true)
    → length new ≤ length old + missing old block → length new + missing_among new (led_to one ++ led_to two) ≤ 12
beside_others old new block one two others room are stay few = elim room [
  | inl many ↦ omega (
    arith,
    many,
    few,
    missing-few old block,
    missing_among-few new (led_to one ++ led_to two),
    length-append (led_to one) (led_to two),
    led_few one,
    led_few two,
  )
  | inr exact ↦ omega (
    arith,
    room-others old new block others stay few exact.1,
    ap (λ (xs : List ℕ). missing_among new xs) (are exact.0),
  )
]

-- where there is room for two more blocks there is for a block and for that to which a link leads
pub enter_room : (pages : List Page) (block number : ℕ) → length pages + 2 ≤ 12
    → length pages + missing_among pages (block ∷ led_to number) ≤ 12
enter_room pages block number many =
    omega (arith, many, missing_among-few pages (block ∷ led_to number), led_few number)

-- there is room for one more block of the list of free blocks, where those that were met were looked at
pub counting_room : {K : Type 0} (file : List ℕ) (heads : Heads) (old now : List Page) (most : ℕ) (met : List ℕ)
    (at : ℕ) → (length old + most ≤ 12) ⊎ (K × CountsWithin file heads most old)
    → (K → IsBegun file heads.blocks heads.free met at) → IsTrue (leads heads.blocks at) → times met at ≡ 0
    → length met < most → length now ≤ length old + length met
    → length now ≤ length old + missing_among old met
    → ((other : ℕ) → is_buffered old other ≡ true → is_buffered now other ≡ true) → missing now at ≤ missing old at
    → HasRoomFor now at
counting_room file heads old now most met at room begun leads_there new fewer few some stay less = elim room [
  | inl many ↦ (λ absent. omega (arith, many, few, fewer))
  | inr exact ↦
      let more = begun_more file heads.blocks heads.free met at (begun exact.0) leads_there new in
      let whole = chain_goes_on file heads.blocks heads.free (met ++ at ∷ []) (next_of file at) more.linked more.inside
      more.distinct in
      room-missing now at (omega (
        arith,
        exact.1 _ _ whole.2,
        missing_among-front old (met ++ at ∷ []) whole.0 most (omega (arith, fewer, length-append met (at ∷ []))),
        missing_among-append old met (at ∷ []),
        missing_among-cons old at [],
        missing_among-nil old,
        some,
        less,
      ))
]
