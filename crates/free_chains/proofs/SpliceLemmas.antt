-- Lists of blocks whose blocks stay, into which a block is put, and out of which one is taken: all of it on files as
-- bytes.
use Rattle.std.proofs.Common.{◌≡◌, ◌≢◌, ℕ, ◌≤◌, IsTrue, List, [], ◌∷◌, ◌++◌, length, map, take, refl, sym, ap, subst}
use Rattle.std.proofs.Common.{◌∙◌, ◌⊎◌, inl, inr, arith, zero-le}
use Rattle.quota_types.specs.Times.{StandsIn, times}
use Rattle.quota_types.proofs.TimesLemmas.{stands_cons, stands_right, times-append, times-cons-same, times_cases}
use Rattle.file_blocks.specs.Block.{leads, next_of, previous_of}
use Rattle.file_blocks.proofs.LeadsLemmas.{leads_from, leads_within}
use Rattle.quota_types.specs.Bytes.{number_at}
use Rattle.quota_pages.specs.KeptBlocks.{KeepsBlocksBut}
use Rattle.free_chains.specs.Chain.{IsChain}
use Rattle.free_chains.specs.EntryList.{NamesPrevious}

-- the links from a head on, block by block, to an end
abbrev pub GoesBy : (next : ℕ → ℕ) (head : ℕ) (chain : List ℕ) (end : ℕ) → Type 0
GoesBy next head [] end = end ≡ head
GoesBy next head (block ∷ chain) end = (block ≡ head) × GoesBy next (next block) chain end

pub linked-goes : (next : ℕ → ℕ) (head : ℕ) (chain : List ℕ) (end : ℕ) → GoesBy next head chain end
    → chain ++ end ∷ [] ≡ head ∷ map next chain
linked-goes next head [] end goes = ap (λ (x : ℕ). x ∷ []) goes
linked-goes next head (block ∷ chain) end goes =
    ap (λ (x : ℕ). x ∷ (chain ++ end ∷ [])) goes.0
    ∙ ap (λ (xs : List ℕ). head ∷ xs) (linked-goes next (next block) chain end goes.1)

pub goes_linked : (next : ℕ → ℕ) (head : ℕ) (chain : List ℕ) (end : ℕ) → chain ++ end ∷ [] ≡ head ∷ map next chain
    → GoesBy next head chain end
goes_linked next head [] end linked = cc
goes_linked next head (block ∷ chain) end linked =
    let first : block ≡ head = cc in
    let rest : chain ++ end ∷ [] ≡ next block ∷ map next chain = cc in
    (first, goes_linked next (next block) chain end rest)

pub goes_split : (next : ℕ → ℕ) (head : ℕ) (front back : List ℕ) (end : ℕ) → GoesBy next head (front ++ back) end
    → (at : ℕ) × GoesBy next head front at × GoesBy next at back end
goes_split next head [] back end goes = (head, refl, goes)
goes_split next head (block ∷ front) back end goes =
    let rest = goes_split next (next block) front back end goes.1 in
    (rest.0, (goes.0, rest.1), rest.2)

pub goes_join : (next : ℕ → ℕ) (head : ℕ) (front back : List ℕ) (at end : ℕ) → GoesBy next head front at
    → GoesBy next at back end → GoesBy next head (front ++ back) end
goes_join next head [] back at end first second = subst (λ (x : ℕ). GoesBy next x back end) first second
goes_join next head (block ∷ front) back at end first second =
    (first.0, goes_join next (next block) front back at end first.1 second)

stands_first : (block : ℕ) (chain : List ℕ) → StandsIn (block ∷ chain) block
stands_first block chain = omega (arith, times-cons-same block chain)

-- links that stay lead on as before
pub goes_same : (old new : ℕ → ℕ) (head : ℕ) (chain : List ℕ) (end : ℕ)
    → ((number : ℕ) → StandsIn chain number → new number ≡ old number) → GoesBy old head chain end
    → GoesBy new head chain end
goes_same old new head [] end same goes = goes
goes_same old new head (block ∷ chain) end same goes = (
  goes.0,
  goes_same old new (new block) chain end (λ number stands. same number (stands_right (block ∷ []) chain number stands))
      (subst (λ (x : ℕ). GoesBy old x chain end) (sym (same block (stands_first block chain))) goes.1),
)

-- each block names the one before it, the first one a given number
abbrev pub NamesBy : (previous : ℕ → ℕ) (before : ℕ) (chain : List ℕ) → Type 0
NamesBy previous before [] = Unit {0}
NamesBy previous before (block ∷ chain) = (previous block ≡ before) × NamesBy previous block chain

pub named-names : (previous : ℕ → ℕ) (before : ℕ) (chain : List ℕ) → NamesBy previous before chain
    → map previous chain ≡ take (length chain) (before ∷ chain)
named-names previous before [] names = refl
named-names previous before (block ∷ chain) names =
    ap (λ (x : ℕ). x ∷ map previous chain) names.0
    ∙ ap (λ (xs : List ℕ). before ∷ xs) (named-names previous block chain names.1)

pub names_named : (previous : ℕ → ℕ) (before : ℕ) (chain : List ℕ)
    → map previous chain ≡ take (length chain) (before ∷ chain) → NamesBy previous before chain
names_named previous before [] named = tt
names_named previous before (block ∷ chain) named =
    let first : previous block ≡ before = cc in
    let rest : map previous chain ≡ take (length chain) (block ∷ chain) = cc in
    (first, names_named previous block chain rest)

-- the last number of a list, behind another one
abbrev pub last_behind : ℕ → List ℕ → ℕ
last_behind before [] = before
last_behind before (block ∷ chain) = last_behind block chain

pub last_behind-push : (before : ℕ) (done : List ℕ) (block : ℕ) → last_behind before (done ++ block ∷ []) ≡ block
last_behind-push before [] block = refl
last_behind-push before (x ∷ done) block = last_behind-push x done block

pub last_cases : (before : ℕ) (chain : List ℕ)
    → ((chain ≡ []) × (last_behind before chain ≡ before))
    ⊎ ((done : List ℕ) × (block : ℕ) × (chain ≡ done ++ block ∷ []) × (last_behind before chain ≡ block))
last_cases before [] = inl (refl, refl)
last_cases before (x ∷ chain) = elim (last_cases x chain) [
  | inl none ↦ inr ([], x, ap (λ (ys : List ℕ). x ∷ ys) none.0, none.1)
  | inr some ↦ inr (x ∷ some.0, some.1, ap (λ (ys : List ℕ). x ∷ ys) some.2, some.3)
]

pub names_split : (previous : ℕ → ℕ) (before : ℕ) (front back : List ℕ) → NamesBy previous before (front ++ back)
    → NamesBy previous before front × NamesBy previous (last_behind before front) back
names_split previous before [] back names = (tt, names)
names_split previous before (block ∷ front) back names =
    let rest = names_split previous block front back names.1 in
    ((names.0, rest.0), rest.1)

pub names_join : (previous : ℕ → ℕ) (before : ℕ) (front back : List ℕ) → NamesBy previous before front
    → NamesBy previous (last_behind before front) back → NamesBy previous before (front ++ back)
names_join previous before [] back first second = second
names_join previous before (block ∷ front) back first second =
    (first.0, names_join previous block front back first.1 second)

-- blocks that stay name the same ones
pub names_same : (old new : ℕ → ℕ) (before : ℕ) (chain : List ℕ)
    → ((number : ℕ) → StandsIn chain number → new number ≡ old number) → NamesBy old before chain
    → NamesBy new before chain
names_same old new before [] same names = tt
names_same old new before (block ∷ chain) same names = (
  same block (stands_first block chain) ∙ names.0,
  names_same old new block chain (λ number stands. same number (stands_right (block ∷ []) chain number stands)) names.1,
)

-- a list whose links stay is one of the new bytes
pub chain-same : (old new : List ℕ) (blocks head : ℕ) (chain : List ℕ) (end : ℕ)
    → ((number : ℕ) → StandsIn chain number → next_of new number ≡ next_of old number)
    → IsChain old blocks head chain end → IsChain new blocks head chain end
chain-same old new blocks head chain end same c = record {
  linked = linked-goes (next_of new) head chain end
      (goes_same (next_of old) (next_of new) head chain end same (goes_linked (next_of old) head chain end c.linked));
  inside = c.inside;
  distinct = c.distinct;
  stops = c.stops;
}

pub chain-stays : (numbers old new : List ℕ) (blocks head : ℕ) (chain : List ℕ) (end : ℕ)
    → KeepsBlocksBut numbers old new → ((number : ℕ) → StandsIn chain number → times numbers number ≡ 0)
    → IsChain old blocks head chain end → IsChain new blocks head chain end
chain-stays numbers old new blocks head chain end keeps apart c =
    chain-same old new blocks head chain end
    (λ number stands. ap (λ (block : List ℕ). number_at 4 block 0) (keeps.others number (apart number stands))) c

pub names-stay : (numbers old new chain : List ℕ) → KeepsBlocksBut numbers old new
    → ((number : ℕ) → StandsIn chain number → times numbers number ≡ 0) → NamesPrevious old chain
    → NamesPrevious new chain
names-stay numbers old new chain keeps apart named =
    named-names (previous_of new) 0 chain
    (names_same (previous_of old) (previous_of new) 0 chain
    (λ number stands. ap (λ (block : List ℕ). number_at 4 block 4) (keeps.others number (apart number stands)))
    (names_named (previous_of old) 0 chain named))

-- what stands in a list differs from what does not
pub other_than : (chain : List ℕ) (block number : ℕ) → times chain block ≡ 0 → StandsIn chain number → number ≢ block
other_than chain block number none stands same = omega (arith, none, stands, ap (λ (k : ℕ). times chain k) same)

pub none_of_one : (block number : ℕ) → number ≢ block → times (block ∷ []) number ≡ 0
none_of_one block number other = elim (times_cases block [] number) [
  | inl same ↦ absurd (other (sym same.0))
  | inr differs ↦ differs.1
]

-- a block is put before a list
pub chain-put : (file : List ℕ) (blocks head : ℕ) (chain : List ℕ) (end block : ℕ) → IsChain file blocks head chain end
    → next_of file block ≡ head → times chain block ≡ 0 → IsTrue (leads blocks block)
    → IsChain file blocks block (block ∷ chain) end
chain-put file blocks head chain end block c is none leads_there = record {
  linked = linked-goes (next_of file) block (block ∷ chain) end (
    refl,
    subst (λ (x : ℕ). GoesBy (next_of file) x chain end) (sym is) (goes_linked (next_of file) head chain end c.linked),
  );
  inside = λ number stands. elim (stands_cons block chain number stands) [
    | inl same ↦ subst (λ (k : ℕ). IsTrue (leads blocks k)) same leads_there
    | inr behind ↦ c.inside number behind
  ];
  distinct = λ number. elim (times_cases block chain number) [
    | inl same ↦ omega (arith, same.1, none, ap (λ (k : ℕ). times chain k) same.0)
    | inr other ↦ omega (arith, other.1, c.distinct number)
  ];
  stops = elim c.stops [
    | inl none_more ↦ inl none_more
    | inr (inl out) ↦ inr (inl out)
    | inr (inr met) ↦ inr (inr (stands_right (block ∷ []) chain end met))
  ];
}

-- a list that ends loses its first block
pub chain-rest : (file : List ℕ) (blocks head block : ℕ) (rest : List ℕ) → IsChain file blocks head (block ∷ rest) 0
    → IsChain file blocks (next_of file block) rest 0
chain-rest file blocks head block rest c = record {
  linked = linked-goes (next_of file) (next_of file block) rest 0
      (goes_linked (next_of file) head (block ∷ rest) 0 c.linked).1;
  inside = λ number stands. c.inside number (stands_right (block ∷ []) rest number stands);
  distinct = λ number. omega (arith, c.distinct number, times-append (block ∷ []) rest number);
  stops = inl refl;
}

-- a list is empty where its head is 0
pub chain-none : (file : List ℕ) (blocks : ℕ) → IsChain file blocks 0 [] 0
chain-none file blocks = record {
  linked = refl;
  inside = λ number stands. absurd (omega (arith, stands));
  distinct = λ number. zero-le;
  stops = inl refl;
}

-- what stands in a list is no 0
pub stands_some : (file : List ℕ) (blocks head : ℕ) (chain : List ℕ) (end number : ℕ)
    → IsChain file blocks head chain end → StandsIn chain number → number ≢ 0
stands_some file blocks head chain end number c stands is =
    omega (arith, is, leads_within blocks number (c.inside number stands))

-- the first block of a list is its head
pub first_is_head : (file : List ℕ) (blocks head block : ℕ) (rest : List ℕ) (end : ℕ)
    → IsChain file blocks head (block ∷ rest) end → block ≡ head
first_is_head file blocks head block rest end c = (goes_linked (next_of file) head (block ∷ rest) end c.linked).0

-- a list that ends leads to blocks alone
pub head_leads : (file : List ℕ) (blocks head : ℕ) (chain : List ℕ) → IsChain file blocks head chain 0
    → (head ≡ 0) ⊎ IsTrue (leads blocks head)
head_leads file blocks head [] c = inl (sym (goes_linked (next_of file) head [] 0 c.linked))
head_leads file blocks head (block ∷ rest) c =
    inr (subst (λ (k : ℕ). IsTrue (leads blocks k)) (first_is_head file blocks head block rest 0 c)
    (c.inside block (stands_first block rest)))

pub links_lead : (file : List ℕ) (blocks head : ℕ) (chain : List ℕ) (number : ℕ) → IsChain file blocks head chain 0
    → StandsIn chain number → (next_of file number ≡ 0) ⊎ IsTrue (leads blocks (next_of file number))
links_lead file blocks head [] number c stands = absurd (omega (arith, stands))
links_lead file blocks head (block ∷ rest) number c stands =
    let behind = chain-rest file blocks head block rest c in
    elim (stands_cons block rest number stands) [
      | inl same ↦ subst (λ (k : ℕ). (next_of file k ≡ 0) ⊎ IsTrue (leads blocks (next_of file k))) same
          (head_leads file blocks (next_of file block) rest behind)
      | inr later ↦ links_lead file blocks (next_of file block) rest number behind later
    ]

-- and it is a list among more blocks
pub chain-more : (file : List ℕ) (blocks more head : ℕ) (chain : List ℕ) → blocks ≤ more
    → IsChain file blocks head chain 0 → IsChain file more head chain 0
chain-more file blocks more head chain grows c = record {
  linked = c.linked;
  inside = λ number stands. let low = leads_within blocks number (c.inside number stands) in
      leads_from more number low.0 (omega (arith, low.1, grows));
  distinct = c.distinct;
  stops = inl refl;
}
