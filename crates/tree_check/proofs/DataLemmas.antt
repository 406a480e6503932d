-- The data blocks with room, and the list that is to have them.
use Rattle.std.proofs.Common.{add-one, below_more, ◌==◌, MatchBool, ◌≡◌, ◌≢◌, ℕ, zero, suc, ◌+◌, ◌<◌, ◌≤◌, Bool, true}
use Rattle.std.proofs.Common.{false, cond, ◌&&◌, nat_le, List, [], ◌∷◌, ◌++◌, length, get_or, map, filter, take, drop}
use Rattle.std.proofs.Common.{Some, unwrap_or, refl, sym, ap, subst, ◌∙◌, inl, inr, arith, length-take-le}
use Rattle.std.proofs.lemmas.Bool.{cases_Bool, cases_lt}
use Rattle.std.proofs.lemmas.Bool.Decides.{nat_tests}
use Rattle.std.proofs.lemmas.List.{drop_more, get_or-map, length-map, map-append, map_more, take-append-drop, take_all}
use Rattle.std.proofs.lemmas.List.{take_more}
use Rattle.std.proofs.lemmas.List.Elements.{filter-append}
use Rattle.std.specs.List.{last_or, range_with_len}
use Rattle.quota_types.specs.declared.file_kind.Format.{Format}
use Rattle.free_chains.specs.declared.chain_link.ChainLink.{ChainLink}
use Rattle.file_blocks.specs.Block.{block_of}
use Rattle.file_blocks.specs.BlockSet.{AreFlagsOf}
use Rattle.byte_order.specs.declared.order.Order.{Order}
use Rattle.tree_meaning.specs.Compared.{HasEntriesOf, leading_ids, is_room, rooms}
use Rattle.tree_meaning.specs.Entries.{has_unused}
use Rattle.quota_types.specs.Times.{StandsIn, times}
use Rattle.tree_check.specs.EntryList.{AreListed, NamesOther}
use Rattle.free_chains.specs.Walk.{linked_blocks, previous_in}
use Rattle.quota_types.proofs.TimesLemmas.{times-append, times-filter-no, times-filter-yes, times-range-high}
use Rattle.quota_types.proofs.TimesLemmas.{times_cases}
use Rattle.tree_meaning.proofs.EntryLemmas.{range-suc}

-- what holds of the numbers of some things holds of those of one more
pub mapped_more : {X : Type 0} (P : ℕ → Type 0) (f : X → ℕ) (xs : List X) (i : ℕ) (d : X) → i < length xs
    → ((n : ℕ) → StandsIn (map f (take i xs)) n → P n) → P (f (get_or xs i d))
    → (n : ℕ) → StandsIn (map f (take (i + 1) xs)) n → P n
mapped_more P f xs i d low before here n stands =
    let both : times (map f (take (i + 1) xs)) n ≡ times (map f (take i xs)) n + times (f (get_or xs i d) ∷ []) n =
    ap (λ (all : List ℕ). times all n) (map_more f xs i d low)
    ∙ times-append (map f (take i xs)) (f (get_or xs i d) ∷ []) n in
    elim (times_cases (f (get_or xs i d)) [] n) [
      | inl same ↦ subst P same.0 here
      | inr other ↦ before n (omega (arith, both, stands, other.1))
    ]

-- and in the end of those of all
pub mapped_all : {X : Type 0} (f : X → ℕ) (xs : List X) (i n : ℕ) → length xs ≤ i → StandsIn (map f xs) n
    → StandsIn (map f (take i xs)) n
mapped_all {X} f xs i n all stands = subst (λ (ys : List X). StandsIn (map f ys) n) (sym (take_all i xs all)) stands

-- the block before a place of a list, or the number from which the list begins
pub last_before : (from : ℕ) (chain : List ℕ) (i : ℕ) → i ≤ length chain
    → unwrap_or (last_or (Some from) (take i chain)) 0 ≡ get_or (from ∷ chain) i 0
last_before from chain zero low = refl
last_before from [] (suc i) low = absurd (omega arith)
last_before from (x ∷ chain) (suc i) low = last_before x chain i (omega arith)

map-take : {X : Type 0} (f : X → ℕ) (xs : List X) (i : ℕ) → map f (take i xs) ≡ take i (map f xs)
map-take f xs zero = refl
map-take f [] (suc i) = refl
map-take f (x ∷ xs) (suc i) = ap (λ (ns : List ℕ). f x ∷ ns) (map-take f xs i)

-- a link that does not name the block before it
pub names_other : (links : List ChainLink) (i : ℕ) (d : ChainLink) (before : ℕ) → i < length links
    → before ≡ get_or (0 ∷ linked_blocks links) i 0
    → (get_or links i d).previous ≢ before
    → NamesOther (linked_blocks links) (previous_in links) (get_or links i d).block
names_other links i d before low is other =
    let front : List ℕ = linked_blocks (take i links) in
    let long : length front ≡ i =
    length-map (take i links) (λ (l : ChainLink). l.block) ∙ length-take-le i links (omega arith) in
    record {
      before = front;
      behind = linked_blocks (drop (i + 1) links);
      split =
          ap linked_blocks (sym (take-append-drop i links))
          ∙ map-append (λ (l : ChainLink). l.block) (take i links) (drop i links)
          ∙ ap (λ (ls : List ChainLink). front ++ linked_blocks ls) (drop_more links i d low);
      other = λ e. other (
          sym (get_or-map (λ (l : ChainLink). l.previous) links i d 0 low)
          ∙ ap (λ (n : ℕ). get_or (previous_in links) n 0) (sym long) ∙ e
          ∙ ap (λ (ns : List ℕ). unwrap_or (last_or (Some 0) ns) 0) (map-take (λ (l : ChainLink). l.block) links i)
          ∙ last_before 0 (linked_blocks links) i (omega (arith, length-map links (λ (l : ChainLink). l.block)))
          ∙ sym is);
    }

-- one more link that names the block before it
pub in_order_more : (links : List ChainLink) (i : ℕ) (d : ChainLink) (before : ℕ) → i < length links
    → before ≡ get_or (0 ∷ linked_blocks links) i 0 → (get_or links i d).previous ≡ before
    → previous_in (take i links) ≡ take i (0 ∷ linked_blocks links)
    → previous_in (take (i + 1) links) ≡ take (i + 1) (0 ∷ linked_blocks links)
in_order_more links i d before low is same so_far =
    map_more (λ (l : ChainLink). l.previous) links i d low
    ∙ ap (λ (ns : List ℕ). ns ++ (get_or links i d).previous ∷ []) so_far
    ∙ ap (λ (n : ℕ). take i (0 ∷ linked_blocks links) ++ n ∷ []) (same ∙ is)
    ∙ sym (take_more (0 ∷ linked_blocks links) i 0 (omega (arith, length-map links (λ (l : ChainLink). l.block))))

-- the block behind which the list goes on
pub before_more : (links : List ChainLink) (i : ℕ) (d : ChainLink) → i < length links
    → (get_or links i d).block ≡ get_or (0 ∷ linked_blocks links) (i + 1) 0
before_more links i d low = rw add-one (sym (get_or-map (λ (l : ChainLink). l.block) links i d 0 low))

-- the data blocks with room before a block do not have it
pub not_before : (test : ℕ → Bool) (block : ℕ) → times (filter test (range_with_len 0 block)) block ≡ 0
not_before test block = elim (cases_Bool (test block)) [
  | inl passes ↦
      times-filter-yes test (range_with_len 0 block) block passes ∙ times-range-high 0 block block (omega arith)
  | inr fails ↦ times-filter-no test (range_with_len 0 block) block fails
]

-- the data blocks with room among one more block
pub rooms_more : (format : Format) (file : List ℕ) (groups : List (List ℕ)) (block : ℕ)
    → rooms format file groups (block + 1)
    ≡ rooms format file groups block ++ cond (is_room format file groups block) (block ∷ []) []
rooms_more format file groups block =
    ap (filter (is_room format file groups)) (range-suc block)
    ∙ filter-append (is_room format file groups) (range_with_len 0 block) (block ∷ [])

-- a list that has each of some blocks, and no other
pub listed : (blocks : ℕ) (flags met : List Bool) (numbers chain previous : List ℕ) → AreFlagsOf blocks flags numbers
    → AreFlagsOf blocks met chain
    → ((n : ℕ) → StandsIn chain n → StandsIn numbers n) → ((n : ℕ) → n < blocks → StandsIn numbers n → StandsIn chain n)
    → previous ≡ take (length chain) (0 ∷ chain) → AreListed numbers chain previous
listed blocks flags met numbers chain previous are is none_foreign none_missing in_order = record {
  those = λ n. elim (cases_lt 0 (times chain n)) [
    | inl listed' ↦ omega (arith, listed', none_foreign n listed', are.distinct n, is.distinct n)
    | inr absent ↦ elim (cases_lt 0 (times numbers n)) [
      | inl room ↦ absurd (omega (arith, absent, none_missing n (are.inside n room) room))
      | inr none ↦ omega arith
    ]
  ];
  in_order = in_order;
}

-- a list that is not empty has a length
pub some_length : (n : ℕ) → (n == 0) ≡ false → nat_le 1 n ≡ true
some_length n e = grind (arith, nat_tests)

-- a block that has room, and was added
pub room_added : (blocks number : ℕ) (flags : List Bool) (numbers : List ℕ) (result some room : Bool) → some ≡ true
    → room ≡ true → times numbers number ≡ 0
    → MatchBool result (AreFlagsOf blocks flags (numbers ++ number ∷ []) × (times numbers number ≡ 0))
    (1 ≤ times numbers number)
    → AreFlagsOf blocks flags (numbers ++ cond (some && room) (number ∷ []) [])
room_added blocks number flags numbers true some room s r new added =
    subst (λ (b : Bool). AreFlagsOf blocks flags (numbers ++ cond b (number ∷ []) []))
    (sym (ap (λ (b : Bool). b && room) s ∙ r)) added.0
room_added blocks number flags numbers false some room s r new added = absurd (omega (arith, new, added))

-- the blocks that were compared, with one more
pub entries_more : (order : Order) (format : Format) (file now : List ℕ) (groups : List (List ℕ))
    (block : ℕ) (ids : List ℕ)
    → now ≡ file → leading_ids groups block ≡ ids
    → ((b : ℕ) → b < block → HasEntriesOf order format file b (leading_ids groups b))
    → HasEntriesOf order format now block ids
    → (b : ℕ) → b < block + 1 → HasEntriesOf order format file b (leading_ids groups b)
entries_more order format file now groups block ids same group before here =
    below_more (λ (b : ℕ). HasEntriesOf order format file b (leading_ids groups b)) block before
    (subst (λ (f : List ℕ). HasEntriesOf order format f block (leading_ids groups block)) same
    (subst (λ (i : List ℕ). HasEntriesOf order format now block i) (sym group) here))

-- the set of those with room, with one more
pub room_more : (format : Format) (file now : List ℕ) (groups : List (List ℕ)) (block blocks : ℕ) (ids : List ℕ)
    (flags new : List Bool) → now ≡ file → leading_ids groups block ≡ ids
    → block < blocks → AreFlagsOf blocks flags (rooms format file groups block)
    → ((all : ℕ) (numbers : List ℕ) → AreFlagsOf all flags numbers → block < all → times numbers block ≡ 0
    → AreFlagsOf all new
    (numbers ++ cond (nat_le 1 (length ids) && has_unused format (block_of now block)) (block ∷ []) []))
    → AreFlagsOf blocks new (rooms format file groups (block + 1))
room_more format file now groups block blocks ids flags new same group low are added =
    let more : AreFlagsOf blocks new
    (rooms format file groups block
    ++ cond (nat_le 1 (length ids) && has_unused format (block_of now block)) (block ∷ []) []) =
    added blocks (rooms format file groups block) are low (not_before (is_room format file groups) block) in
    let here : (nat_le 1 (length ids) && has_unused format (block_of now block)) ≡ is_room format file groups block =
    ap (λ (i : List ℕ). nat_le 1 (length i) && has_unused format (block_of now block)) (sym group)
    ∙ ap (λ (f : List ℕ). nat_le 1 (length (leading_ids groups block)) && has_unused format (block_of f block)) same in
    subst (λ (ns : List ℕ). AreFlagsOf blocks new ns)
    (ap (λ (b : Bool). rooms format file groups block ++ cond b (block ∷ []) []) here
    ∙ sym (rooms_more format file groups block)) more
