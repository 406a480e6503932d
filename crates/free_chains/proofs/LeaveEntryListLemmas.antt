-- The list of data blocks that have room once a block was taken out of it.
use Rattle.std.proofs.Common.{◌≡◌, ◌≢◌, ℕ, ◌+◌, true, false, List, [], ◌∷◌, ◌++◌, refl, sym, ap, subst, ◌∙◌, ◌⊎◌, inl}
use Rattle.std.proofs.Common.{inr, arith, cond}
use Rattle.std.specs.Prelude.{◌==◌, if◌then◌else◌}
use Rattle.std.proofs.lemmas.Bool.{cond-true, cond-false}
use Rattle.std.proofs.lemmas.Bool.Decides.{eqb_tells}
use Rattle.quota_types.specs.Times.{StandsIn, times}
use Rattle.quota_types.proofs.TimesLemmas.{stands_left, stands_right, times-append, times-cons-other, times-cons-same}
use Rattle.file_blocks.specs.Block.{block_of, next_of, previous_of}
use Rattle.quota_pages.specs.Used.{HasWord}
use Rattle.quota_pages.specs.KeptBlocks.{KeepsBlocksBut}
use Rattle.free_chains.specs.Chain.{IsChain}
use Rattle.free_chains.specs.Links.{led_to}
use Rattle.free_chains.specs.EntryList.{AreApart, LeavesList, NamesPrevious, Unlinks}
use Rattle.free_chains.specs.declared.heads.Heads.{Heads}
use Rattle.free_chains.proofs.SpliceLemmas.{GoesBy, NamesBy, goes_join, goes_linked, goes_same, goes_split, last_behind}
use Rattle.free_chains.proofs.SpliceLemmas.{last_behind-push, last_cases, linked-goes, named-names, names_join}
use Rattle.free_chains.proofs.SpliceLemmas.{names_named, names_same, names_split, stands_some}
use Rattle.free_chains.proofs.EntryListLemmas.{next_same, next_stays, not_led_to, previous_same, previous_stays}

-- what is known where a block stands in a list whose blocks name those before them
record StandsBetween (file : List ℕ) (blocks head block : ℕ) (front back : List ℕ) : Type 0 where
  is_chain : IsChain file blocks head (front ++ block ∷ back) 0
  to : GoesBy (next_of file) head front block
  from : GoesBy (next_of file) (next_of file block) back 0
  named : NamesBy (previous_of file) 0 front
  names : previous_of file block ≡ last_behind 0 front
  behind : NamesBy (previous_of file) block back

stands_between : (file : List ℕ) (blocks head block : ℕ) (front back : List ℕ)
    → IsChain file blocks head (front ++ block ∷ back) 0 → NamesPrevious file (front ++ block ∷ back)
    → StandsBetween file blocks head block front back
stands_between file blocks head block front back c named =
    let links = goes_split (next_of file) head front (block ∷ back) 0
    (goes_linked (next_of file) head (front ++ block ∷ back) 0 c.linked) in
    let names = names_split (previous_of file) 0 front (block ∷ back)
    (names_named (previous_of file) 0 (front ++ block ∷ back) named) in
    record {
      is_chain = c;
      to = subst (λ (at : ℕ). GoesBy (next_of file) head front at) (sym links.2.0) links.1;
      from = links.2.1;
      named = names.0;
      names = names.1.0;
      behind = names.1.1;
    }

-- how often numbers stand around a block
around : (front back : List ℕ) (block number : ℕ)
    → times (front ++ block ∷ back) number ≡ times front number + times (block ∷ []) number + times back number
around front back block number =
    omega (arith, times-append front (block ∷ back) number, times-append (block ∷ []) back number)

in_front : (file : List ℕ) (blocks head block : ℕ) (front back : List ℕ)
    → StandsBetween file blocks head block front back → (number : ℕ) → StandsIn front number
    → (number ≢ 0) × (number ≢ block) × (times back number ≡ 0)
in_front file blocks head block front back is number stands =
    let once = is.is_chain.distinct number in (
      stands_some file blocks head (front ++ block ∷ back) 0 number is.is_chain
          (stands_left front (block ∷ back) number stands),
      (λ same. absurd (omega (
        arith,
        once,
        stands,
        around front back block number,
        times-cons-same block [],
        ap (times (block ∷ [])) same,
      ))),
      omega (arith, once, stands, around front back block number),
    )

in_back : (file : List ℕ) (blocks head block : ℕ) (front back : List ℕ)
    → StandsBetween file blocks head block front back → (number : ℕ) → StandsIn back number
    → (number ≢ 0) × (number ≢ block) × (times front number ≡ 0)
in_back file blocks head block front back is number stands =
    let once = is.is_chain.distinct number in (
      stands_some file blocks head (front ++ block ∷ back) 0 number is.is_chain
          (stands_right front (block ∷ back) number (stands_right (block ∷ []) back number stands)),
      (λ same. absurd (omega (
        arith,
        once,
        stands,
        around front back block number,
        times-cons-same block [],
        ap (times (block ∷ [])) same,
      ))),
      omega (arith, once, stands, around front back block number),
    )

-- the block before a block, or 0
previous_cases : (file : List ℕ) (blocks head block : ℕ) (front back : List ℕ)
    → StandsBetween file blocks head block front back
    → ((front ≡ []) × (previous_of file block ≡ 0))
    ⊎ ((done : List ℕ) × (front ≡ done ++ previous_of file block ∷ []) × StandsIn front (previous_of file block))
previous_cases file blocks head block front back is = elim (last_cases 0 front) [
  | inl none ↦ inl (none.0, is.names ∙ none.1)
  | inr some ↦
      let same : some.1 ≡ previous_of file block = sym (is.names ∙ some.3) in
      let split : front ≡ some.0 ++ previous_of file block ∷ [] = some.2 ∙ ap (λ (x : ℕ). some.0 ++ x ∷ []) same in
      inr (
        some.0,
        split,
        omega (
          arith,
          ap (λ (xs : List ℕ). times xs (previous_of file block)) split,
          times-append some.0 (previous_of file block ∷ []) (previous_of file block),
          times-cons-same (previous_of file block) [],
        ),
      )
]

-- the block behind a block, or 0
next_cases : (file : List ℕ) (blocks head block : ℕ) (front back : List ℕ)
    → StandsBetween file blocks head block front back
    → ((back ≡ []) × (next_of file block ≡ 0))
    ⊎ ((rest : List ℕ) × (back ≡ next_of file block ∷ rest) × StandsIn back (next_of file block))
next_cases file blocks head block front [] is = inl (refl, sym is.from)
next_cases file blocks head block front (first ∷ rest) is =
    inr (
      rest,
      ap (λ (x : ℕ). x ∷ rest) is.from.0,
      subst (λ (x : ℕ). StandsIn (first ∷ rest) x) is.from.0 (omega (arith, times-cons-same first rest)),
    )

-- 0 is no block of a list
block_some : (file : List ℕ) (blocks head block : ℕ) (front back : List ℕ)
    → StandsBetween file blocks head block front back → block ≢ 0
block_some file blocks head block front back is =
    stands_some file blocks head (front ++ block ∷ back) 0 block is.is_chain
    (omega (arith, around front back block block, times-cons-same block []))

apart : (file : List ℕ) (blocks head block : ℕ) (front back : List ℕ) → StandsBetween file blocks head block front back
    → AreApart block (next_of file block) (previous_of file block)
apart file blocks head block front back is = record {
  next_other = elim (next_cases file blocks head block front back is) [
    | inl none ↦ λ same. block_some file blocks head block front back is (sym same ∙ none.1)
    | inr some ↦ (in_back file blocks head block front back is (next_of file block) some.2).1
  ];
  previous_other = elim (previous_cases file blocks head block front back is) [
    | inl none ↦ λ same. block_some file blocks head block front back is (sym same ∙ none.1)
    | inr some ↦ (in_front file blocks head block front back is (previous_of file block) some.2).1
  ];
  each_other = λ given same. elim (next_cases file blocks head block front back is) [
    | inl none ↦ given none.1
    | inr some ↦ elim (previous_cases file blocks head block front back is) [
      | inl first ↦ given (same ∙ first.1)
      | inr before ↦ absurd (omega (
        arith,
        before.2,
        (in_back file blocks head block front back is (next_of file block) some.2).2,
        ap (times front) same,
      ))
    ]
  ];
}

-- the blocks that change are the block and those around it
others_stay : (old new : List ℕ) (block next previous number : ℕ)
    → KeepsBlocksBut (block ∷ led_to previous ++ led_to next) old new → number ≢ block → number ≢ next
    → number ≢ previous → block_of new number ≡ block_of old number
others_stay old new block next previous number keeps one two three =
    keeps.others number
    (omega (
      arith,
      times-append (block ∷ led_to previous) (led_to next) number,
      times-cons-other block (led_to previous) number (λ is. one (sym is)),
      not_led_to previous number three,
      not_led_to next number two,
    ))

leave_next : (old new : List ℕ) (block next previous number : ℕ)
    → KeepsBlocksBut (block ∷ led_to previous ++ led_to next) old new → Unlinks old new block next previous → number ≢ 0
    → number ≢ block → number ≢ previous → next_of new number ≡ next_of old number
leave_next old new block next previous number keeps un some one three = elim (eqb_tells number next) [
  | inl same ↦ subst (λ (k : ℕ). next_of new k ≡ next_of old k) (sym same.1)
      (next_stays old new next (un.behind (λ none. some (same.1 ∙ none))).others)
  | inr other ↦ next_same old new number (others_stay old new block next previous number keeps one other.1 three)
]

leave_previous : (old new : List ℕ) (block next previous number : ℕ)
    → KeepsBlocksBut (block ∷ led_to previous ++ led_to next) old new → Unlinks old new block next previous → number ≢ 0
    → number ≢ block → number ≢ next → previous_of new number ≡ previous_of old number
leave_previous old new block next previous number keeps un some one two = elim (eqb_tells number previous) [
  | inl same ↦ subst (λ (k : ℕ). previous_of new k ≡ previous_of old k) (sym same.1)
      (previous_stays old new previous (un.before (λ none. some (same.1 ∙ none))).others)
  | inr other ↦ previous_same old new number (others_stay old new block next previous number keeps one two other.1)
]

-- the links behind the block stay
back_goes : (old new : List ℕ) (blocks head block : ℕ) (front back : List ℕ)
    → StandsBetween old blocks head block front back
    → KeepsBlocksBut (block ∷ led_to (previous_of old block) ++ led_to (next_of old block)) old new
    → Unlinks old new block (next_of old block) (previous_of old block)
    → GoesBy (next_of new) (next_of old block) back 0
back_goes old new blocks head block front back is keeps un =
    goes_same (next_of old) (next_of new) (next_of old block) back 0
    (λ number stands.
    let other = in_back old blocks head block front back is number stands in
    leave_next old new block (next_of old block) (previous_of old block) number keeps un other.0 other.1
    (λ same. elim (previous_cases old blocks head block front back is) [
      | inl none ↦ other.0 (same ∙ none.1)
      | inr some ↦ absurd (omega (arith, some.2, other.2, ap (times front) same))
    ]))
    is.from

-- the list goes on from its head past the block
head_goes : (old new : List ℕ) (blocks head after block : ℕ) (front back : List ℕ)
    → StandsBetween old blocks head block front back
    → KeepsBlocksBut (block ∷ led_to (previous_of old block) ++ led_to (next_of old block)) old new
    → Unlinks old new block (next_of old block) (previous_of old block) → (front ≡ [] → after ≡ next_of old block)
    → (front ≢ [] → after ≡ head) → GoesBy (next_of new) after (front ++ back) 0
head_goes old new blocks head after block front back is keeps un first stays =
    elim (previous_cases old blocks head block front back is) [
      | inl none ↦
          subst (λ (xs : List ℕ). GoesBy (next_of new) after (xs ++ back) 0) (sym none.0)
          (subst (λ (x : ℕ). GoesBy (next_of new) x back 0) (sym (first none.0))
          (back_goes old new blocks head block front back is keeps un))
      | inr some ↦
          let previous : ℕ = previous_of old block in
          let done : List ℕ = some.0 in
          let to : GoesBy (next_of old) head (done ++ previous ∷ []) block =
          subst (λ (xs : List ℕ). GoesBy (next_of old) head xs block) some.1 is.to in
          let split = goes_split (next_of old) head done (previous ∷ []) block to in
          let same : (number : ℕ) → StandsIn done number → next_of new number ≡ next_of old number = λ number stands.
          let stands_there : StandsIn front number =
          subst (λ (xs : List ℕ). StandsIn xs number) (sym some.1) (stands_left done (previous ∷ []) number stands) in
          let other = in_front old blocks head block front back is number stands_there in
          leave_next old new block (next_of old block) previous number keeps un other.0 other.1
          (λ is_previous. absurd (omega (
            arith,
            is.is_chain.distinct number,
            around front back block number,
            ap (λ (xs : List ℕ). times xs number) some.1,
            times-append done (previous ∷ []) number,
            stands,
            times-cons-same previous [],
            ap (times (previous ∷ [])) is_previous,
          ))) in
          let before : GoesBy (next_of new) head done split.0 =
          goes_same (next_of old) (next_of new) head done split.0 same split.1 in
          let given : previous ≢ 0 = (in_front old blocks head block front back is previous some.2).0 in
          let link : next_of new previous ≡ next_of old block = (un.before given).is in
          let through : GoesBy (next_of new) split.0 (previous ∷ []) (next_of old block) = (split.2.0, sym link) in
          let whole : GoesBy (next_of new) head (done ++ previous ∷ []) (next_of old block) =
          goes_join (next_of new) head done (previous ∷ []) split.0 (next_of old block) before through in
          let rest : GoesBy (next_of new) head ((done ++ previous ∷ []) ++ back) 0 =
          goes_join (next_of new) head (done ++ previous ∷ []) back (next_of old block) 0 whole
          (back_goes old new blocks head block front back is keeps un) in
          let kept : after ≡ head =
          stays (λ none. absurd (omega (arith, some.2, ap (λ (xs : List ℕ). times xs previous) none))) in
          subst (λ (x : ℕ). GoesBy (next_of new) x (front ++ back) 0) (sym kept)
          (subst (λ (xs : List ℕ). GoesBy (next_of new) head (xs ++ back) 0) (sym some.1) rest)
    ]

-- the blocks behind the block name those before them, the first of them the one before the block
back_names : (old new : List ℕ) (blocks head block : ℕ) (front back : List ℕ)
    → StandsBetween old blocks head block front back
    → KeepsBlocksBut (block ∷ led_to (previous_of old block) ++ led_to (next_of old block)) old new
    → Unlinks old new block (next_of old block) (previous_of old block)
    → NamesBy (previous_of new) (previous_of old block) back
back_names old new blocks head block front [] is keeps un = tt
back_names old new blocks head block front (first ∷ rest) is keeps un =
    let at : first ≡ next_of old block = is.from.0 in
    let stands_here : StandsIn (first ∷ rest) first = omega (arith, times-cons-same first rest) in
    let given : next_of old block ≢ 0 =
    λ none. (in_back old blocks head block front (first ∷ rest) is first stands_here).0 (at ∙ none) in (
      ap (previous_of new) at ∙ (un.behind given).is,
      names_same (previous_of old) (previous_of new) first rest
          (λ number stands.
          let stands_there : StandsIn (first ∷ rest) number = stands_right (first ∷ []) rest number stands in
          let other = in_back old blocks head block front (first ∷ rest) is number stands_there in
          leave_previous old new block (next_of old block) (previous_of old block) number keeps un other.0 other.1
          (λ same. absurd (omega (
            arith,
            stands,
            is.is_chain.distinct first,
            around front (first ∷ rest) block first,
            times-cons-same first rest,
            ap (times rest) (same ∙ sym at),
          ))))
          is.behind.1,
    )

front_names : (old new : List ℕ) (blocks head block : ℕ) (front back : List ℕ)
    → StandsBetween old blocks head block front back
    → KeepsBlocksBut (block ∷ led_to (previous_of old block) ++ led_to (next_of old block)) old new
    → Unlinks old new block (next_of old block) (previous_of old block) → NamesBy (previous_of new) 0 front
front_names old new blocks head block front back is keeps un =
    names_same (previous_of old) (previous_of new) 0 front
    (λ number stands.
    let other = in_front old blocks head block front back is number stands in
    leave_previous old new block (next_of old block) (previous_of old block) number keeps un other.0 other.1
    (λ same. elim (next_cases old blocks head block front back is) [
      | inl none ↦ other.0 (same ∙ none.1)
      | inr some ↦ absurd (omega (arith, some.2, other.2, ap (times back) same))
    ]))
    is.named

pub leaves_between : (old new : List ℕ) (heads now : Heads) (block : ℕ) (front back : List ℕ)
    → KeepsBlocksBut (block ∷ led_to (previous_of old block) ++ led_to (next_of old block)) old new
    → (AreApart block (next_of old block) (previous_of old block)
    → Unlinks old new block (next_of old block) (previous_of old block))
    → now.first ≡ (if previous_of old block == 0 then next_of old block else heads.first)
    → IsChain old heads.blocks heads.first (front ++ block ∷ back) 0 → NamesPrevious old (front ++ block ∷ back)
    → LeavesList old new heads now block front back
leaves_between old new heads now block front back keeps unlinks head c named =
    let is = stands_between old heads.blocks heads.first block front back c named in
    let un = unlinks (apart old heads.blocks heads.first block front back is) in
    let first : front ≡ [] → now.first ≡ next_of old block =
    λ none. elim (previous_cases old heads.blocks heads.first block front back is) [
      | inl begins ↦ head ∙ cond-true _ _ _ (zero_test (previous_of old block) begins.1)
      | inr some ↦ absurd (omega (arith, some.2, ap (λ (xs : List ℕ). times xs (previous_of old block)) none))
    ] in
    let stays : front ≢ [] → now.first ≡ heads.first =
    λ some_front. elim (previous_cases old heads.blocks heads.first block front back is) [
      | inl begins ↦ absurd (some_front begins.0)
      | inr some ↦ head
          ∙ cond-false _ _ _
          (some_test (previous_of old block)
          (in_front old heads.blocks heads.first block front back is (previous_of old block) some.2).0)
    ] in
    let goes = head_goes old new heads.blocks heads.first now.first block front back is keeps un first stays in
    let back_is : NamesBy (previous_of new) (last_behind 0 front) back =
    subst (λ (x : ℕ). NamesBy (previous_of new) x back) is.names
    (back_names old new heads.blocks heads.first block front back is keeps un) in
    record {
      chain = record {
        linked = linked-goes (next_of new) now.first (front ++ back) 0 goes;
        inside = λ number stands.
            c.inside number (omega (arith, stands, times-append front back number, around front back block number));
        distinct =
            λ number. omega (arith, c.distinct number, times-append front back number, around front back block number);
        stops = inl refl;
      };
      previous = named-names (previous_of new) 0 (front ++ back)
          (names_join (previous_of new) 0 front back
          (front_names old new heads.blocks heads.first block front back is keeps un) back_is);
      links = un.links;
      first = first;
      stays = stays;
      before = λ done number split.
          let same : previous_of old block ≡ number =
          is.names ∙ ap (last_behind 0) split ∙ last_behind-push 0 done number in
          let stands_there : StandsIn front number = omega (
            arith,
            ap (λ (xs : List ℕ). times xs number) split,
            times-append done (number ∷ []) number,
            times-cons-same number [],
          ) in
          let given : previous_of old block ≢ 0 = λ none.
          (in_front old heads.blocks heads.first block front back is number stands_there).0 (sym same ∙ none) in
          subst (λ (k : ℕ). HasWord k 0 (next_of old block) old new) same (un.before given);
      behind = λ number rest split.
          let goes_on : GoesBy (next_of old) (next_of old block) (number ∷ rest) 0 =
          subst (λ (xs : List ℕ). GoesBy (next_of old) (next_of old block) xs 0) split is.from in
          let same : number ≡ next_of old block = goes_on.0 in
          let stands_there : StandsIn back number =
          omega (arith, ap (λ (xs : List ℕ). times xs number) split, times-cons-same number rest) in
          let given : next_of old block ≢ 0 =
          λ none. (in_back old heads.blocks heads.first block front back is number stands_there).0 (same ∙ none) in
          subst (λ (k : ℕ). HasWord k 4 (previous_of old block) old new) (sym same) (un.behind given);
    }
  where
    zero_test : (n : ℕ) → n ≡ 0 → (n == 0) ≡ true
    zero_test n is = elim (eqb_tells n 0) [ inl same ↦ same.0 | inr other ↦ absurd (other.1 is) ]

    some_test : (n : ℕ) → n ≢ 0 → (n == 0) ≡ false
    some_test n some = elim (eqb_tells n 0) [ inl same ↦ absurd (some same.1) | inr other ↦ other.0 ]

-- the same, where the links of the block are known by other names, and its bytes and those around it were the same in
-- between
pub leaves : (old between new : List ℕ) (heads now : Heads) (block next previous : ℕ) (front back : List ℕ)
    → next ≡ next_of old block → previous ≡ previous_of old block
    → KeepsBlocksBut (block ∷ led_to previous ++ led_to next) old new → between ≡ old
    → (AreApart block next previous → Unlinks between new block next previous)
    → now.first ≡ (if previous == 0 then next else heads.first)
    → IsChain old heads.blocks heads.first (front ++ block ∷ back) 0 → NamesPrevious old (front ++ block ∷ back)
    → LeavesList old new heads now block front back
leaves old between new heads now block next previous front back next_is previous_is keeps same unlinks head c named =
    leaves_between old new heads now block front back
    (subst (λ (x : ℕ). KeepsBlocksBut (block ∷ led_to (previous_of old block) ++ led_to x) old new) next_is
    (subst (λ (x : ℕ). KeepsBlocksBut (block ∷ led_to x ++ led_to next) old new) previous_is keeps))
    (subst
    (λ (x : ℕ). AreApart block x (previous_of old block) → Unlinks old new block x (previous_of old block)) next_is
    (subst (λ (x : ℕ). AreApart block next x → Unlinks old new block next x) previous_is
    (subst (λ (file : List ℕ). AreApart block next previous → Unlinks file new block next previous) same unlinks)))
    (head ∙ ap (λ (x : ℕ). cond (x == 0) next heads.first) previous_is
    ∙ ap (λ (x : ℕ). cond (previous_of old block == 0) x heads.first) next_is)
    c named

-- the head becomes the link to the block behind where the link to the one before is 0
pub head-first : (previous next first : ℕ) → previous ≡ 0 → next ≡ (if previous == 0 then next else first)
head-first previous next first none =
    sym (cond-true (previous == 0) next first (elim (eqb_tells previous 0) [
      | inl same ↦ same.0
      | inr other ↦ absurd (other.1 none)
    ]))

pub head-stays : (previous next first : ℕ) → previous ≢ 0 → first ≡ (if previous == 0 then next else first)
head-stays previous next first some =
    sym (cond-false (previous == 0) next first (elim (eqb_tells previous 0) [
      | inl same ↦ absurd (some same.1)
      | inr other ↦ other.0
    ]))
