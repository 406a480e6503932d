-- The lists of free blocks and of data blocks that have room: each head has one, and it ends.
use Rattle.std.proofs.Common.{◌≡◌, ℕ, zero, suc, ◌+◌, ◌≤◌, false, true, IsTrue, List, [], ◌∷◌, ◌++◌, length, map, refl}
use Rattle.std.proofs.Common.{sym, ap, subst, ◌∙◌, ◌⊎◌, inl, inr, arith, zero-le, append_assoc, append-nil}
use Rattle.std.proofs.Common.{length-append}
use Rattle.std.proofs.lemmas.Bool.{cases_lt, cond-false, cond-true}
use Rattle.std.proofs.lemmas.List.{map-append}
use Rattle.file_blocks.specs.Block.{next_of, leads}
use Rattle.free_chains.specs.Chain.{IsChain, chain_from}
use Rattle.quota_types.specs.Times.{StandsIn, times}
use Rattle.quota_types.proofs.TimesLemmas.{few_of_distinct, stands_right, times-append, times-cons-same, times_cases}
use Rattle.file_blocks.proofs.LeadsLemmas.{leads_within, leads_from}

pub goes_on_by_one : (next : ℕ → ℕ) (head at : ℕ) (done : List ℕ) → done ++ at ∷ [] ≡ head ∷ map next done
    → (done ++ at ∷ []) ++ next at ∷ [] ≡ head ∷ map next (done ++ at ∷ [])
goes_on_by_one next head at done linked =
    ap (λ (xs : List ℕ). xs ++ next at ∷ []) linked
    ∙ ap (λ (xs : List ℕ). head ∷ xs) (sym (map-append next done (at ∷ [])))

-- a number is the end of a chain, or it is one more block of it
end_or_block : (blocks at : ℕ) (done : List ℕ)
    → ((at ≡ 0) ⊎ (blocks ≤ at) ⊎ StandsIn done at) ⊎ (IsTrue (leads blocks at) × (times done at ≡ 0))
end_or_block blocks at done = elim (cases_lt 0 at) [
  | inr none ↦ inl (inl (omega arith))
  | inl some ↦ elim (cases_lt at blocks) [
    | inr out ↦ inl (inr (inl out))
    | inl low ↦ elim (cases_lt 0 (times done at)) [
      | inl met ↦ inl (inr (inr met))
      | inr new ↦ inr (leads_from blocks at some low, omega arith)
    ]
  ]
]

pub inside_with : (blocks at : ℕ) (done : List ℕ) → ((n : ℕ) → StandsIn done n → IsTrue (leads blocks n))
    → IsTrue (leads blocks at)
    → (n : ℕ) → StandsIn (done ++ at ∷ []) n → IsTrue (leads blocks n)
inside_with blocks at done inside here n stands = elim (times_cases at [] n) [
  | inl same ↦ subst (λ (k : ℕ). IsTrue (leads blocks k)) same.0 here
  | inr other ↦ inside n (omega (arith, stands, times-append done (at ∷ []) n, other.1))
]

pub distinct_with : (at : ℕ) (done : List ℕ) → ((n : ℕ) → times done n ≤ 1) → times done at ≡ 0 → (n : ℕ)
    → times (done ++ at ∷ []) n ≤ 1
distinct_with at done distinct new n = elim (times_cases at [] n) [
  | inl same ↦ omega (arith, times-append done (at ∷ []) n, same.1, ap (λ (k : ℕ). times done k) same.0, new)
  | inr other ↦ omega (arith, times-append done (at ∷ []) n, other.1, distinct n)
]

goes_on_within : (file : List ℕ) (blocks head room : ℕ) (done : List ℕ) (at : ℕ) → blocks ≤ room + length done
    → done ++ at ∷ [] ≡ head ∷ map (next_of file) done
    → ((n : ℕ) → StandsIn done n → IsTrue (leads blocks n)) → ((n : ℕ) → times done n ≤ 1)
    → (rest : List ℕ) × (end : ℕ) × IsChain file blocks head (done ++ rest) end
goes_on_within file blocks head zero done at enough linked inside distinct = elim (end_or_block blocks at done) [
  | inl stops ↦ (
    [],
    at,
    subst (λ (chain : List ℕ). IsChain file blocks head chain at) (sym (append-nil done))
        (record { linked = linked; inside = inside; distinct = distinct; stops = stops }),
  )
  | inr goes ↦
      let few = few_of_distinct blocks (done ++ at ∷ []) (distinct_with at done distinct goes.1)
      (λ n stands. (leads_within blocks n (inside_with blocks at done inside goes.0 n stands)).1) in
      absurd (omega (arith, few, enough, length-append done (at ∷ [])))
]
goes_on_within file blocks head (suc room) done at enough linked inside distinct = elim (end_or_block blocks at done) [
  | inl stops ↦ (
    [],
    at,
    subst (λ (chain : List ℕ). IsChain file blocks head chain at) (sym (append-nil done))
        (record { linked = linked; inside = inside; distinct = distinct; stops = stops }),
  )
  | inr goes ↦
      let more = goes_on_within file blocks head room (done ++ at ∷ []) (next_of file at)
      (omega (arith, enough, length-append done (at ∷ [])))
      (goes_on_by_one (next_of file) head at done linked) (inside_with blocks at done inside goes.0)
      (distinct_with at done distinct goes.1) in (
        at ∷ more.0,
        more.1,
        subst (λ (chain : List ℕ). IsChain file blocks head chain more.1) (append_assoc done (at ∷ []) more.0) more.2,
      )
]

-- every beginning of a chain goes on to a whole one
pub chain_goes_on : (file : List ℕ) (blocks head : ℕ) (done : List ℕ) (at : ℕ)
    → done ++ at ∷ [] ≡ head ∷ map (next_of file) done
    → ((n : ℕ) → StandsIn done n → IsTrue (leads blocks n)) → ((n : ℕ) → times done n ≤ 1)
    → (rest : List ℕ) × (end : ℕ) × IsChain file blocks head (done ++ rest) end
chain_goes_on file blocks head done at linked inside distinct =
    goes_on_within file blocks head blocks done at (omega arith) linked inside distinct

-- so each head has a chain
pub some_chain : (file : List ℕ) (blocks head : ℕ) → (chain : List ℕ) × (end : ℕ) × IsChain file blocks head chain end
some_chain file blocks head =
    chain_goes_on file blocks head [] head refl (λ n stands. absurd (omega (arith, stands))) (λ n. zero-le)

-- the link to a block, where a chain goes on from it
linked_at : (next : ℕ → ℕ) (head at end : ℕ) (done rest : List ℕ)
    → (done ++ at ∷ rest) ++ end ∷ [] ≡ head ∷ map next (done ++ at ∷ rest) → done ++ at ∷ [] ≡ head ∷ map next done
linked_at next head at end [] rest linked =
    let first : at ≡ head = cc in
    ap (λ (x : ℕ). x ∷ []) first
linked_at next head at end (d ∷ done) rest linked =
    let first : d ≡ head = cc in
    let behind : (done ++ at ∷ rest) ++ end ∷ [] ≡ next d ∷ map next (done ++ at ∷ rest) = cc in
    ap (λ (x : ℕ). x ∷ (done ++ at ∷ [])) first
    ∙ ap (λ (xs : List ℕ). head ∷ xs) (linked_at next (next d) at end done rest behind)

same_last : (done : List ℕ) (x y : ℕ) → done ++ x ∷ [] ≡ done ++ y ∷ [] → x ≡ y
same_last [] x y e = cc
same_last (d ∷ done) x y e = same_last done x y (cc)

-- where two chains begin alike, one cannot end where the other goes on
not_ended : (file : List ℕ) (blocks head : ℕ) (done : List ℕ) (end : ℕ) (at : ℕ) (rest : List ℕ) (end' : ℕ)
    → IsChain file blocks head done end → IsChain file blocks head (done ++ at ∷ rest) end' → ⊥
not_ended file blocks head done end at rest end' ended goes =
    let same : end ≡ at =
    same_last done end at (ended.linked ∙ sym (linked_at (next_of file) head at end' done rest goes.linked)) in
    let here = times-append done (at ∷ rest) at in
    let one = times-cons-same at rest in
    let within = leads_within blocks at (goes.inside at (omega (arith, here, one))) in
    elim ended.stops [
      | inl none ↦ omega (arith, none, same, within)
      | inr (inl out) ↦ omega (arith, out, same, within)
      | inr (inr met) ↦ omega (arith, goes.distinct at, here, one, subst (λ (k : ℕ). StandsIn done k) same met)
    ]

one_rest : (file : List ℕ) (blocks head : ℕ) (done : List ℕ) (rest : List ℕ) (end : ℕ) (rest' : List ℕ) (end' : ℕ)
    → IsChain file blocks head (done ++ rest) end → IsChain file blocks head (done ++ rest') end' → rest ≡ rest'
one_rest file blocks head done [] end [] end' c c' = refl
one_rest file blocks head done [] end (y ∷ rest') end' c c' =
    absurd (not_ended file blocks head done end y rest' end'
    (subst (λ (chain : List ℕ). IsChain file blocks head chain end) (append-nil done) c) c')
one_rest file blocks head done (x ∷ rest) end [] end' c c' =
    absurd (not_ended file blocks head done end' x rest end
    (subst (λ (chain : List ℕ). IsChain file blocks head chain end') (append-nil done) c') c)
one_rest file blocks head done (x ∷ rest) end (y ∷ rest') end' c c' =
    let same : x ≡ y = same_last done x y
    (linked_at (next_of file) head x end done rest c.linked
    ∙ sym (linked_at (next_of file) head y end' done rest' c'.linked)) in
    let c2 : IsChain file blocks head (done ++ x ∷ rest') end' =
    subst (λ (z : ℕ). IsChain file blocks head (done ++ z ∷ rest') end') (sym same) c' in
    let more = one_rest file blocks head (done ++ x ∷ []) rest end rest' end'
    (subst (λ (chain : List ℕ). IsChain file blocks head chain end) (sym (append_assoc done (x ∷ []) rest)) c)
    (subst (λ (chain : List ℕ). IsChain file blocks head chain end') (sym (append_assoc done (x ∷ []) rest')) c2) in
    ap (λ (z : ℕ). z ∷ rest) same ∙ ap (λ (xs : List ℕ). y ∷ xs) more

-- two chains of one head are the same, and end alike
pub one_chain : (file : List ℕ) (blocks head : ℕ) (chain : List ℕ) (end : ℕ) (chain' : List ℕ) (end' : ℕ)
    → IsChain file blocks head chain end → IsChain file blocks head chain' end' → (chain ≡ chain') × (end ≡ end')
one_chain file blocks head chain end chain' end' c c' =
    let same : chain ≡ chain' = one_rest file blocks head [] chain end chain' end' c c' in (
      same,
      same_last chain end end'
          (c.linked
          ∙ sym (subst (λ (xs : List ℕ). xs ++ end' ∷ [] ≡ head ∷ map (next_of file) xs) (sym same) c'.linked)),
    )

-- the blocks that are met from a head on are those of its chain, where that ends at a number that leads to no block
chain_walked : (file : List ℕ) (blocks head end most : ℕ) (chain : List ℕ)
    → chain ++ end ∷ [] ≡ head ∷ map (next_of file) chain → ((n : ℕ) → StandsIn chain n → IsTrue (leads blocks n))
    → leads blocks end ≡ false
    → length chain ≤ most → chain_from file blocks head most ≡ chain
unfolding chain_from
chain_walked file blocks head end zero [] linked inside ends few = refl
chain_walked file blocks head end zero (at ∷ rest) linked inside ends few = absurd (omega arith)
chain_walked file blocks head end (suc most) [] linked inside ends few =
    let last : end ≡ head = cc in
    cond-false _ _ _ (ap (leads blocks) (sym last) ∙ ends)
chain_walked file blocks head end (suc most) (at ∷ rest) linked inside ends few =
    let first : at ≡ head = cc in
    let behind : rest ++ end ∷ [] ≡ next_of file at ∷ map (next_of file) rest = cc in
    let here : leads blocks at ≡ true = inside at (omega (arith, times-cons-same at rest)) in
    ap (λ (number : ℕ). chain_from file blocks number (suc most)) (sym first)
    ∙ cond-true _ _ _ here
    ∙ ap (λ (numbers : List ℕ). at ∷ numbers)
    (chain_walked file blocks (next_of file at) end most rest behind
    (λ n stands. inside n (stands_right (at ∷ []) rest n stands)) ends (omega arith))

-- a list that ends at 0, with as many steps as it has blocks or more
pub chain_is_met : (file : List ℕ) (blocks head most : ℕ) (chain : List ℕ) → IsChain file blocks head chain 0
    → length chain ≤ most → chain_from file blocks head most ≡ chain
chain_is_met file blocks head most chain c few = chain_walked file blocks head 0 most chain c.linked c.inside refl few

-- it has no more blocks than the file has
pub few_of_chain : (file : List ℕ) (blocks head : ℕ) (chain : List ℕ) (end : ℕ) → IsChain file blocks head chain end
    → length chain ≤ blocks
few_of_chain file blocks head chain end c =
    few_of_distinct blocks chain c.distinct (λ n stands. (leads_within blocks n (c.inside n stands)).1)
