-- Pages that a removal lends for writing, step by step.
use Rattle.std.proofs.Common.{◌≡◌, ◌⊎◌, ℕ, zero, suc, ◌-◌, ◌+◌, ◌≤◌, Bool, true, List, [], ◌∷◌, ◌++◌, length, get_or}
use Rattle.std.proofs.Common.{take, inl, inr, refl, ap, subst, ◌∙◌, arith, length-append}
use Rattle.std.specs.Prelude.{◌==◌}
use Rattle.std.proofs.lemmas.Bool.{cond_both}
use Rattle.quota_types.specs.Bytes.{number_at}
use Rattle.quota_types.specs.Times.{StandsIn, times}
use Rattle.quota_types.specs.KeptBytes.{KeepsOutside}
use Rattle.quota_types.proofs.BytesLemmas.{number_same}
use Rattle.std.proofs.lemmas.List.{length-take}
use Rattle.quota_types.proofs.TimesLemmas.{stands_either, times-append, times-cons}
use Rattle.file_blocks.specs.Block.{block_of, next_of, previous_of}
use Rattle.outside.specs.Seen.{StoreSeen}
use Rattle.quota_pages.specs.Page.{Page, lent_count}
use Rattle.quota_pages.specs.Pages.{pages_of}
use Rattle.quota_pages.specs.Used.{IsKnown, LendsSome, LooksAtSome, shown_over}
use Rattle.quota_pages.specs.declared.page_buffer.Pages.{Pages}
use Rattle.quota_pages.proofs.LentLemmas.{lends_among}
use Rattle.quota_pages.proofs.UsedLemmas.{lends_more, lends_then, looks_then_lends, shown_over-lends, shown_over-looks}
use Rattle.quota_radix.specs.Unlink.{lowest_blocks}
use Rattle.free_chains.specs.Links.{led_to}
use Rattle.free_chains.specs.EntryList.{TakesOut}
use Rattle.free_chains.specs.declared.heads.Heads.{Heads}
use Rattle.tree_change.specs.Beside.{AreBeside, LendsBeside, LendsForRemoval}

-- a link leads to no block but the one that it names
led_times : (link number : ℕ) → times (led_to link) number ≤ times (link ∷ []) number
led_times link number =
    cond_both (link == 0) [] (link ∷ []) (λ (xs : List ℕ). times xs number ≤ times (link ∷ []) number)
    (λ none. omega arith) (λ some. omega arith)

-- the blocks that were lent where one left the list, entered it, or did neither stand among it and two others
left_among : (block previous next number : ℕ) → StandsIn (block ∷ led_to previous ++ led_to next) number
    → StandsIn (block ∷ previous ∷ next ∷ []) number
left_among block previous next number stands =
    omega (
      arith,
      stands,
      times-cons block (led_to previous ++ led_to next) number,
      times-append (led_to previous) (led_to next) number,
      led_times previous number,
      led_times next number,
      times-cons block (previous ∷ next ∷ []) number,
      times-append (previous ∷ []) (next ∷ []) number,
    )

entered_among : (block first number : ℕ) → StandsIn (block ∷ led_to first) number
    → StandsIn (block ∷ 0 ∷ first ∷ []) number
entered_among block first number stands =
    omega (
      arith,
      stands,
      times-cons block (led_to first) number,
      led_times first number,
      times-cons block (0 ∷ first ∷ []) number,
      times-append (0 ∷ []) (first ∷ []) number,
    )

one_among : (block : ℕ) (rest : List ℕ) (number : ℕ) → StandsIn (block ∷ []) number → StandsIn (block ∷ rest) number
one_among block rest number stands = omega (arith, stands, times-append (block ∷ []) rest number)

again_among : (block : ℕ) (rest : List ℕ) (number : ℕ) → StandsIn ((block ∷ rest) ++ block ∷ []) number
    → StandsIn (block ∷ rest) number
again_among block rest number stands =
    omega (arith, stands, times-append (block ∷ rest) (block ∷ []) number, times-append (block ∷ []) rest number)

first_among : (block : ℕ) (rest : List ℕ) (number : ℕ) → StandsIn ((block ∷ []) ++ block ∷ rest) number
    → StandsIn (block ∷ rest) number
first_among block rest number stands =
    omega (arith, stands, times-append (block ∷ []) (block ∷ rest) number, times-append (block ∷ []) rest number)

header_among : (numbers rest : List ℕ) (number : ℕ) → StandsIn ((numbers ++ rest) ++ 0 ∷ []) number
    → StandsIn ((0 ∷ numbers) ++ rest) number
header_among numbers rest number stands =
    omega (
      arith,
      stands,
      times-append (numbers ++ rest) (0 ∷ []) number,
      times-append numbers rest number,
      times-append (0 ∷ numbers) rest number,
      times-append (0 ∷ []) numbers number,
    )

-- the blocks that were lent where a leaf was unlinked, and those that were given then, are of the tree on the way
four_times : (a b c d number : ℕ)
    → times (a ∷ b ∷ c ∷ d ∷ []) number
    ≡ times (a ∷ []) number + (times (b ∷ []) number + (times (c ∷ []) number + times (d ∷ []) number))
four_times a b c d number =
    omega (
      arith,
      times-append (a ∷ []) (b ∷ c ∷ d ∷ []) number,
      times-append (b ∷ []) (c ∷ d ∷ []) number,
      times-append (c ∷ []) (d ∷ []) number,
    )

lowest_among : (a b c d count number : ℕ) → count ≤ 3
    → StandsIn (take count (d ∷ c ∷ b ∷ [])) number ⊎ StandsIn (get_or (a ∷ b ∷ c ∷ d ∷ []) (3 - count) 0 ∷ []) number
    → StandsIn (a ∷ b ∷ c ∷ d ∷ []) number
lowest_among a b c d zero number few stands = elim stands [
  | inl none ↦ absurd (omega (arith, none))
  | inr one ↦ omega (arith, one, four_times a b c d number)
]
lowest_among a b c d (suc zero) number few stands = elim stands [
  | inl low ↦ omega (arith, low, four_times a b c d number)
  | inr one ↦ omega (arith, one, four_times a b c d number)
]
lowest_among a b c d (suc (suc zero)) number few stands = elim stands [
  | inl low ↦ omega (arith, low, four_times a b c d number, times-append (d ∷ []) (c ∷ []) number)
  | inr one ↦ omega (arith, one, four_times a b c d number)
]
lowest_among a b c d (suc (suc (suc zero))) number few stands = elim stands [
  | inl low ↦ omega (
    arith,
    low,
    four_times a b c d number,
    times-append (d ∷ []) (c ∷ b ∷ []) number,
    times-append (c ∷ []) (b ∷ []) number,
  )
  | inr one ↦ omega (arith, one, four_times a b c d number)
]
lowest_among a b c d (suc (suc (suc (suc count)))) number few stands = absurd (omega (arith, few))

pub unlinked_among : (way emptied : List ℕ) → length way ≡ 5
    → emptied ≡ lowest_blocks way (length emptied) → (number : ℕ)
    → StandsIn ((emptied ++ get_or way (3 - length emptied) 0 ∷ []) ++ emptied) number → StandsIn (take 4 way) number
unlinked_among [] emptied five are number stands = absurd (omega (arith, five))
unlinked_among (a ∷ []) emptied five are number stands = absurd (omega (arith, five))
unlinked_among (a ∷ b ∷ []) emptied five are number stands = absurd (omega (arith, five))
unlinked_among (a ∷ b ∷ c ∷ []) emptied five are number stands = absurd (omega (arith, five))
unlinked_among (a ∷ b ∷ c ∷ d ∷ []) emptied five are number stands = absurd (omega (arith, five))
unlinked_among (a ∷ b ∷ c ∷ d ∷ e ∷ f ∷ way) emptied five are number stands = absurd (omega (arith, five))
unlinked_among (a ∷ b ∷ c ∷ d ∷ e ∷ []) emptied five are number stands =
    let few : length emptied ≤ 3 =
    omega (arith, ap (λ (xs : List ℕ). length xs) are, length-take (length emptied) (d ∷ c ∷ b ∷ [])) in
    lowest_among a b c d (length emptied) number few
    (elim (stands_either (emptied ++ get_or (a ∷ b ∷ c ∷ d ∷ e ∷ []) (3 - length emptied) 0 ∷ []) emptied
    number stands) [
      | inl first ↦
          elim (stands_either emptied (get_or (a ∷ b ∷ c ∷ d ∷ e ∷ []) (3 - length emptied) 0 ∷ []) number first) [
            | inl among ↦ inl (subst (λ (xs : List ℕ). StandsIn xs number) are among)
            | inr one ↦
                inr
                (subst (λ (k : ℕ). StandsIn (k ∷ []) number) (within a b c d e (3 - length emptied) (omega arith)) one)
          ]
      | inr among ↦ inl (subst (λ (xs : List ℕ). StandsIn xs number) are among)
    ])
  where
    within : (a b c d e place : ℕ) → place ≤ 3
        → get_or (a ∷ b ∷ c ∷ d ∷ e ∷ []) place 0 ≡ get_or (a ∷ b ∷ c ∷ d ∷ []) place 0
    within a b c d e zero low = refl
    within a b c d e (suc zero) low = refl
    within a b c d e (suc (suc zero)) low = refl
    within a b c d e (suc (suc (suc zero))) low = refl
    within a b c d e (suc (suc (suc (suc place)))) low = absurd (omega (arith, low))

-- no page of an empty buffer is lent
pub none_lent : (pages : List Page) → pages ≡ [] → lent_count pages ≡ 0
none_lent pages none = ap (λ (ps : List Page). lent_count ps) none

module _ {tells : Bool} {before now : StoreSeen} {old new : Pages} (block first : ℕ) where
  -- a block left the list, and was given behind that
  pub beside_left : {heads next : Heads} → TakesOut tells block before now heads next old new
      → LendsBeside [] block first tells 3 before now old new
  beside_left took = record {
    next = took.next;
    previous = took.previous;
    which = λ known apart. inl (took.next_is known, took.previous_is known);
    lends = lends_among (block ∷ took.previous ∷ took.next ∷ []) (left_among block took.previous took.next) took.lends;
  }

  -- one entered it
  pub beside_entered : LendsSome tells true 2 (block ∷ led_to first) before now old new
      → LendsBeside [] block first tells 2 before now old new
  beside_entered lends = record {
    next = first;
    previous = 0;
    which = λ known apart. inr (refl, refl);
    lends = lends_among (block ∷ 0 ∷ first ∷ []) (entered_among block first) lends;
  }

  -- neither
  pub beside_none : LendsSome tells true 1 (block ∷ []) before now old new
      → LendsBeside [] block first tells 4 before now old new
  beside_none lends = record {
    next = first;
    previous = 0;
    which = λ known apart. inr (refl, refl);
    lends = lends_more 4 (omega arith) (lends_among (block ∷ 0 ∷ first ∷ []) (one_among block (0 ∷ first ∷ [])) lends);
  }

module _ {tells : Bool} {before between now : StoreSeen} {old middle new : Pages} (block first : ℕ) where
  pub beside_given : {count : ℕ} → count ≡ 0 → LendsBeside [] block first tells 3 before between old middle
      → LendsSome tells true count (block ∷ []) between now middle new
      → LendsBeside [] block first tells 3 before now old new
  beside_given none left gave = record {
    next = left.next;
    previous = left.previous;
    which = left.which;
    lends = lends_more 3 (omega (arith, none))
        (lends_among (block ∷ left.previous ∷ left.next ∷ []) (again_among block (left.previous ∷ left.next ∷ []))
        (lends_then left.lends gave));
  }

  -- the entry was cleared before
  pub beside_cleared : {count : ℕ} → count ≤ 3 → LendsSome tells true 1 (block ∷ []) before between old middle
      → (IsKnown tells before old
      → KeepsOutside 8 1024 (block_of (shown_over before old) block) (block_of (shown_over between middle) block))
      → LendsBeside [] block first tells count between now middle new
      → LendsBeside [] block first tells 4 before now old new
  beside_cleared few cleared links then = record {
    next = then.next;
    previous = then.previous;
    which = λ known apart.
        let keeps = links known in
        let next : next_of (shown_over between middle) block ≡ next_of (shown_over before old) block =
        number_same 4 0 (block_of (shown_over between middle) block) (block_of (shown_over before old) block)
        (λ at above below. keeps.before at (omega arith)) in
        let previous : previous_of (shown_over between middle) block ≡ previous_of (shown_over before old) block =
        number_same 4 4 (block_of (shown_over between middle) block) (block_of (shown_over before old) block)
        (λ at above below. keeps.before at (omega arith)) in
        elim (then.which (cleared.known known) refl) [
          | inl links ↦ inl (links.0 ∙ next, links.1 ∙ previous)
          | inr first ↦ inr first
        ];
    lends = lends_more 4 (omega (arith, few))
        (lends_among (block ∷ then.previous ∷ then.next ∷ []) (first_among block (then.previous ∷ then.next ∷ []))
        (lends_then cleared then.lends));
  }

  -- the leaf was unlinked before
  pub beside_unlinked : {numbers : List ℕ} {count : ℕ} {middle_first : ℕ} → count ≡ 0 → middle_first ≡ first
      → LendsSome tells true count numbers before between old middle
      → LendsBeside [] block middle_first tells 4 between now middle new
      → LendsBeside numbers block first tells 4 before now old new
  beside_unlinked {numbers} none same gone then = record {
    next = then.next;
    previous = then.previous;
    which = λ known apart.
        let stays : block_of (shown_over between middle) block ≡ block_of (shown_over before old) block =
        (shown_over-lends gone).others block apart in
        elim (then.which (gone.known known) refl) [
          | inl links ↦ inl (
            links.0 ∙ ap (λ (b : List ℕ). number_at 4 b 0) stays,
            links.1 ∙ ap (λ (b : List ℕ). number_at 4 b 4) stays,
          )
          | inr entered ↦ inr (entered.0 ∙ same, entered.1)
        ];
    lends = lends_more 4 (omega (arith, none)) (lends_then gone then.lends);
  }

  -- and the header was written last
  pub beside_headed : {numbers : List ℕ} → LendsBeside numbers block first tells 4 before between old middle
      → LendsSome tells true 1 (0 ∷ []) between now middle new
      → LendsBeside (0 ∷ numbers) block first tells 5 before now old new
  beside_headed {numbers} took wrote = record {
    next = took.next;
    previous = took.previous;
    which = λ known apart. took.which known (omega (arith, apart, times-append (0 ∷ []) numbers block));
    lends = lends_among ((0 ∷ numbers) ++ block ∷ took.previous ∷ took.next ∷ [])
        (header_among numbers (block ∷ took.previous ∷ took.next ∷ [])) (lends_then took.lends wrote);
  }

  -- after blocks were looked at
  pub beside_looked : {numbers : List ℕ} {count : ℕ} → count ≤ 4
      → LooksAtSome tells true count before between old middle
      → LendsBeside numbers block first tells 5 between now middle new
      → LendsBeside numbers block first tells 12 before now old new
  beside_looked few looks then = record {
    next = then.next;
    previous = then.previous;
    which = λ known apart. subst (λ (file : List ℕ). AreBeside block then.next then.previous file first)
        (shown_over-looks looks) (then.which (looks.known known) apart);
    lends = lends_more 12 (omega (arith, few)) (looks_then_lends looks then.lends);
  }

-- so eight pages are lent at most, of none
pub removal_few : {tells : Bool} {before now : StoreSeen} {old new : Pages} (id blocks first : ℕ)
    → lent_count (pages_of old) ≡ 0 → LendsForRemoval id blocks first tells before now old new
    → lent_count (pages_of new) ≤ 8
removal_few id blocks first none lends =
    omega (
      arith,
      none,
      lends.beside.lends.lent_count,
      length-append (take 4 lends.way) (get_or lends.way 4 0 ∷ lends.beside.previous ∷ lends.beside.next ∷ []),
      length-take 4 lends.way,
    )
