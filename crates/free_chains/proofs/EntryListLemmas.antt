-- The list of data blocks that have room once a block was put before it or taken out of it.
use Rattle.std.proofs.Common.{◌≡◌, ◌≢◌, ℕ, IsTrue, List, [], ◌∷◌, sym, ap, subst, ◌∙◌, inl, inr, arith}
use Rattle.std.proofs.lemmas.Bool.{cond-true, cond-false}
use Rattle.std.proofs.lemmas.Bool.Decides.{eqb_tells}
use Rattle.quota_types.specs.Bytes.{number_at}
use Rattle.quota_types.specs.Times.{times}
use Rattle.quota_types.proofs.TimesLemmas.{stands_right, times-cons-other, times-cons-same}
use Rattle.file_blocks.specs.Block.{block_of, leads, next_of, previous_of}
use Rattle.quota_types.specs.KeptBytes.{KeepsOutside}
use Rattle.file_blocks.proofs.LeadsLemmas.{leads_within}
use Rattle.quota_types.proofs.BytesLemmas.{number_same}
use Rattle.quota_pages.specs.Used.{HasWord}
use Rattle.quota_pages.specs.KeptBlocks.{KeepsBlocksBut}
use Rattle.free_chains.specs.Chain.{IsChain}
use Rattle.free_chains.specs.Links.{HasLinks, led_to}
use Rattle.free_chains.specs.EntryList.{EntersList}
use Rattle.free_chains.specs.declared.heads.Heads.{Heads}
use Rattle.free_chains.proofs.SpliceLemmas.{NamesBy, chain-put, chain-same, first_is_head, goes_linked, named-names}
use Rattle.free_chains.proofs.SpliceLemmas.{names_named, names_same, other_than, stands_some}

-- a link that is not 0 leads to one block
led_to-some : (number : ℕ) → number ≢ 0 → led_to number ≡ number ∷ []
led_to-some number some =
    elim (eqb_tells number 0) [ inl same ↦ absurd (some same.1) | inr other ↦ cond-false _ _ _ other.0 ]

led_to-none : (number : ℕ) → number ≡ 0 → led_to number ≡ []
led_to-none number none =
    elim (eqb_tells number 0) [ inl same ↦ cond-true _ _ _ same.0 | inr other ↦ absurd (other.1 none) ]

-- and to no other one
pub not_led_to : (link number : ℕ) → number ≢ link → times (led_to link) number ≡ 0
not_led_to link number differs = elim (eqb_tells link 0) [
  | inl same ↦ ap (λ (xs : List ℕ). times xs number) (led_to-none link same.1)
  | inr other ↦ ap (λ (xs : List ℕ). times xs number) (led_to-some link other.1)
      ∙ times-cons-other link [] number (λ is. differs (sym is))
]

-- a word that stands outside of what changed is as before
pub next_stays : (old new : List ℕ) (number : ℕ) → KeepsOutside 4 8 (block_of old number) (block_of new number)
    → next_of new number ≡ next_of old number
next_stays old new number keeps =
    number_same 4 0 (block_of new number) (block_of old number) (λ at above below. keeps.before at (omega arith))

pub previous_stays : (old new : List ℕ) (number : ℕ) → KeepsOutside 0 4 (block_of old number) (block_of new number)
    → previous_of new number ≡ previous_of old number
previous_stays old new number keeps =
    number_same 4 4 (block_of new number) (block_of old number) (λ at above below. keeps.behind at (omega arith))

-- the links of a block that stays
pub next_same : (old new : List ℕ) (number : ℕ) → block_of new number ≡ block_of old number
    → next_of new number ≡ next_of old number
next_same old new number same = ap (λ (block : List ℕ). number_at 4 block 0) same

pub previous_same : (old new : List ℕ) (number : ℕ) → block_of new number ≡ block_of old number
    → previous_of new number ≡ previous_of old number
previous_same old new number same = ap (λ (block : List ℕ). number_at 4 block 4) same

-- a block that is put before a list is not its head
not_head : (file : List ℕ) (blocks head : ℕ) (chain : List ℕ) (end block : ℕ) → IsChain file blocks head chain end
    → times chain block ≡ 0 → IsTrue (leads blocks block) → block ≢ head
not_head file blocks head [] end block c none leads_there same =
    let within = leads_within blocks block leads_there in
    let ends : end ≡ head = goes_linked (next_of file) head [] end c.linked in
    elim c.stops [
      | inl zero_end ↦ absurd (omega (arith, zero_end, ends, same, within))
      | inr (inl out) ↦ absurd (omega (arith, out, ends, same, within))
      | inr (inr met) ↦ absurd (omega (arith, met))
    ]
not_head file blocks head (first ∷ rest) end block c none leads_there same =
    let is : first ≡ block = first_is_head file blocks head first rest end c ∙ sym same in
    absurd (omega (arith, times-cons-same first rest, none, ap (times (first ∷ rest)) is))

-- the blocks of a list before which a block is put lead on as before
enter_next : (old new : List ℕ) (first block number : ℕ) → KeepsBlocksBut (block ∷ led_to first) old new
    → (first ≢ 0 → HasWord first 4 block old new) → number ≢ 0 → number ≢ block
    → next_of new number ≡ next_of old number
enter_next old new first block number keeps behind some differs = elim (eqb_tells number first) [
  | inl same ↦
      let named = behind (λ none. some (same.1 ∙ none)) in
      subst (λ (k : ℕ). next_of new k ≡ next_of old k) (sym same.1) (next_stays old new first named.others)
  | inr other ↦ next_same old new number (keeps.others number (omega (
    arith,
    times-cons-other block (led_to first) number (λ is. differs (sym is)),
    not_led_to first number other.1,
  )))
]

-- and all but the first one name the block before them as before
enter_previous : (old new : List ℕ) (first block number : ℕ) → KeepsBlocksBut (block ∷ led_to first) old new
    → number ≢ block → number ≢ first → previous_of new number ≡ previous_of old number
enter_previous old new first block number keeps differs other =
    previous_same old new number (keeps.others number (omega (
      arith,
      times-cons-other block (led_to first) number (λ is. differs (sym is)),
      not_led_to first number other,
    )))

enter_names : (old new : List ℕ) (blocks head : ℕ) (chain : List ℕ) (end block : ℕ)
    → KeepsBlocksBut (block ∷ led_to head) old new → (head ≢ 0 → HasWord head 4 block old new)
    → IsChain old blocks head chain end → times chain block ≡ 0
    → NamesBy (previous_of old) 0 chain → NamesBy (previous_of new) block chain
enter_names old new blocks head [] end block keeps behind c none names = tt
enter_names old new blocks head (first ∷ rest) end block keeps behind c none names =
    let is : first ≡ head = first_is_head old blocks head first rest end c in
    let some : first ≢ 0 =
    stands_some old blocks head (first ∷ rest) end first c (omega (arith, times-cons-same first rest)) in
    let named = behind (λ zero_head. some (is ∙ zero_head)) in (
      ap (previous_of new) is ∙ named.is,
      names_same (previous_of old) (previous_of new) first rest
          (λ number stands. enter_previous old new head block number keeps
          (other_than (first ∷ rest) block number none (stands_right (first ∷ []) rest number stands))
          (λ same. absurd (omega (
            arith,
            stands,
            c.distinct first,
            times-cons-same first rest,
            ap (times rest) (same ∙ sym is),
          ))))
          names.1,
    )

pub enters : (old new : List ℕ) (heads : Heads) (block : ℕ) → KeepsBlocksBut (block ∷ led_to heads.first) old new
    → (block ≢ heads.first → HasLinks block heads.first 0 old new)
    → (block ≢ heads.first → heads.first ≢ 0 → HasWord heads.first 4 block old new) → EntersList old new heads block
enters old new heads block keeps links behind = record {
  links = links;
  behind = behind;
  chain = λ chain end c none leads_there.
      let other = not_head old heads.blocks heads.first chain end block c none leads_there in
      chain-put new heads.blocks heads.first chain end block
      (chain-same old new heads.blocks heads.first chain end
      (λ number stands. enter_next old new heads.first block number keeps (behind other)
      (stands_some old heads.blocks heads.first chain end number c stands) (other_than chain block number none stands))
      c)
      (links other).next none leads_there;
  previous = λ chain end c none leads_there named.
      let other = not_head old heads.blocks heads.first chain end block c none leads_there in
      let names : NamesBy (previous_of new) block chain = enter_names old new heads.blocks heads.first chain end block
      keeps (behind other) c none (names_named (previous_of old) 0 chain named) in
      named-names (previous_of new) 0 (block ∷ chain) ((links other).previous, names);
}
