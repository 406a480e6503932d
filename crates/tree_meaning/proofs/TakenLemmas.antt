-- A block that is taken is held then, and one that is given is free.
use Rattle.std.proofs.Common.{◌≡◌, ◌≢◌, ℕ, ◌+◌, ◌*◌, ◌<◌, ◌≤◌, Bool, if◌then◌else◌, nat_lt, List, [], ◌∷◌, Option, None}
use Rattle.std.proofs.Common.{refl, sym, ap, subst, ◌∙◌, inl, inr, arith, lt-ltb, le-ltb}
use Rattle.std.proofs.lemmas.Bool.{cases_eq, cases_lt}
use Rattle.quota_types.specs.declared.file_kind.Format.{Format}
use Rattle.quota_types.specs.Times.{times}
use Rattle.quota_types.proofs.TimesLemmas.{times-append, times-cons-other, times-cons-same}
use Rattle.quota_value.specs.QuotaValue.{Records}
use Rattle.file_blocks.proofs.LeadsLemmas.{leads_from, leads_within}
use Rattle.quota_pages.specs.KeptBlocks.{KeepsBlocksBut}
use Rattle.free_chains.specs.Chain.{IsChain}
use Rattle.free_chains.specs.FreeList.{GivesBlock, TakesBlock, TakesHead, TakesListed, TakesNew}
use Rattle.free_chains.specs.declared.heads.Heads.{Heads}
use Rattle.free_chains.proofs.SpliceLemmas.{first_is_head, goes_linked}
use Rattle.file_blocks.specs.Block.{next_of}
use Rattle.quota_radix.specs.declared.tree_path.TreePath.{TreePath}
use Rattle.tree_meaning.specs.IsTree.{IsTree}
use Rattle.tree_meaning.specs.Loose.{loose_of}
use Rattle.tree_meaning.specs.Roles.{roles}
use Rattle.tree_meaning.proofs.MovedLemmas.{MovesBlock, moved, times-roles}

-- whether one number more is a block
one_more : (blocks number : ℕ) → number ≢ blocks
    → ◌≡◌ {A = ℕ} (if nat_lt number (blocks + 1) then 1 else 0) (if nat_lt number blocks then 1 else 0)
one_more blocks number other = elim (cases_lt number blocks) [
  | inl low ↦ ap {B = ℕ} (λ (b : Bool). if b then 1 else 0)
      (lt-ltb number (blocks + 1) (omega arith) ∙ sym (lt-ltb number blocks low))
  | inr high ↦ ap {B = ℕ} (λ (b : Bool). if b then 1 else 0)
      (le-ltb number (blocks + 1) (omega arith) ∙ sym (le-ltb number blocks high))
]

is_below : (blocks number : ℕ) → number < blocks → ◌≡◌ {A = ℕ} (if nat_lt number blocks then 1 else 0) 1
is_below blocks number low = ap {B = ℕ} (λ (b : Bool). if b then 1 else 0) (lt-ltb number blocks low)

is_above : (blocks number : ℕ) → blocks ≤ number → ◌≡◌ {A = ℕ} (if nat_lt number blocks then 1 else 0) 0
is_above blocks number high = ap {B = ℕ} (λ (b : Bool). if b then 1 else 0) (le-ltb number blocks high)

module _ (held : List ℕ) (awaited : Option TreePath) (format : Format) (old new : List ℕ) (len : ℕ) (heads now : Heads)
    (records : Records) (block : ℕ)
    (keeps : KeepsBlocksBut (block ∷ []) old new) (takes : TakesBlock old new heads now block)
    (head : TakesHead heads now block)
    (tree : IsTree (loose_of held awaited None) format old len heads records) where
  -- a block behind the last one
  took_new : tree.roles.free ≡ [] → IsChain new now.blocks now.free [] 0
      → MovesBlock held (block ∷ held) awaited old new heads now block
  took_new none is_free =
      let empty : IsChain old heads.blocks heads.free [] 0 =
      subst (λ (chain : List ℕ). IsChain old heads.blocks heads.free chain 0) none tree.roles.is_free in
      let no_head : heads.free ≡ 0 = sym (goes_linked (next_of old) heads.free [] 0 empty.linked) in
      let is : TakesNew heads now block = head.none no_head in
      let was : (number : ℕ)
      → times (roles (loose_of held awaited None) old heads.blocks []) number
      ≡ (if nat_lt number heads.blocks then 1 else 0) =
      subst (λ (free : List ℕ). (number : ℕ)
      → times (roles (loose_of held awaited None) old heads.blocks free) number
      ≡ (if nat_lt number heads.blocks then 1 else 0)) none tree.roles.once in
      record {
        keeps = keeps;
        grows = omega (arith, is.blocks);
        first = head.first;
        no_tree = omega (
          arith,
          was block,
          is_above heads.blocks block (omega (arith, is.block_is)),
          times-roles (loose_of held awaited None) old heads.blocks [] block,
        );
        no_data = omega (
          arith,
          was block,
          is_above heads.blocks block (omega (arith, is.block_is)),
          times-roles (loose_of held awaited None) old heads.blocks [] block,
        );
        free = [];
        is_free = is_free;
        once =
            λ number. subst (λ (n : ℕ). times (roles (loose_of (block ∷ held) awaited None) old heads.blocks []) number
            ≡ (if nat_lt number n then 1 else 0)) (sym is.blocks)
            (elim (cases_eq block number) [
              | inl same ↦ omega (
                arith,
                was number,
                same,
                is.block_is,
                is_above heads.blocks number (omega (arith, same, is.block_is)),
                is_below (heads.blocks + 1) number (omega (arith, same, is.block_is)),
                times-roles (loose_of held awaited None) old heads.blocks [] number,
                times-roles (loose_of (block ∷ held) awaited None) old heads.blocks [] number,
                times-cons-same block held,
                ap (times (block ∷ held)) same,
                ap (times held) same,
              )
              | inr other ↦ omega (
                arith,
                was number,
                one_more heads.blocks number (λ is_it. other (is.block_is ∙ sym is_it)),
                times-roles (loose_of held awaited None) old heads.blocks [] number,
                times-roles (loose_of (block ∷ held) awaited None) old heads.blocks [] number,
                times-cons-other block held number other,
              )
            ]);
      }

  -- the first block of the list
  took_listed : (rest : List ℕ) → tree.roles.free ≡ block ∷ rest → IsChain new now.blocks now.free rest 0
      → MovesBlock held (block ∷ held) awaited old new heads now block
  took_listed rest listed is_free =
      let full : IsChain old heads.blocks heads.free (block ∷ rest) 0 =
      subst (λ (chain : List ℕ). IsChain old heads.blocks heads.free chain 0) listed tree.roles.is_free in
      let first : block ≡ heads.free = first_is_head old heads.blocks heads.free block rest 0 full in
      let within = leads_within heads.blocks block (full.inside block (omega (arith, times-cons-same block rest))) in
      let is : TakesListed heads now block = head.some (λ none. omega (arith, none, first, within.0)) in
      let was : (number : ℕ)
      → times (roles (loose_of held awaited None) old heads.blocks (block ∷ rest)) number
      ≡ (if nat_lt number heads.blocks then 1 else 0) =
      subst (λ (free : List ℕ). (number : ℕ)
      → times (roles (loose_of held awaited None) old heads.blocks free) number
      ≡ (if nat_lt number heads.blocks then 1 else 0)) listed tree.roles.once in
      record {
        keeps = keeps;
        grows = omega (arith, is.blocks);
        first = head.first;
        no_tree = omega (
          arith,
          was block,
          is_below heads.blocks block within.1,
          times-roles (loose_of held awaited None) old heads.blocks (block ∷ rest) block,
          times-cons-same block rest,
        );
        no_data = omega (
          arith,
          was block,
          is_below heads.blocks block within.1,
          times-roles (loose_of held awaited None) old heads.blocks (block ∷ rest) block,
          times-cons-same block rest,
        );
        free = rest;
        is_free = is_free;
        once = λ number. subst
            (λ (n : ℕ). times (roles (loose_of (block ∷ held) awaited None) old heads.blocks rest) number
            ≡ (if nat_lt number n then 1 else 0)) (sym is.blocks) (omega (
              arith,
              was number,
              times-roles (loose_of held awaited None) old heads.blocks (block ∷ rest) number,
              times-roles (loose_of (block ∷ held) awaited None) old heads.blocks rest number,
              times-append (block ∷ []) rest number,
              times-append (block ∷ []) held number,
            ));
      }

  pub taken : (now_len : ℕ) → len ≤ now_len → 1024 * block + 1024 ≤ now_len
      → IsTree (loose_of (block ∷ held) awaited None) format new now_len now records
  taken now_len longer whole =
      let long : 2 < now.blocks → 1024 * now.blocks ≤ now_len = λ more. elim (cases_eq heads.free 0) [
        | inl none ↦ omega (arith, (head.none none).block_is, (head.none none).blocks, whole)
        | inr some ↦
            omega (arith, (head.some some).blocks, tree.long (omega (arith, more, (head.some some).blocks)), longer)
      ] in
      let moves : MovesBlock held (block ∷ held) awaited old new heads now block =
      elim (takes.chain tree.roles.free tree.roles.is_free) [
        | inl empty ↦ took_new empty.0 empty.1
        | inr some ↦ took_listed some.0 some.1 some.2
      ] in
      moved held (block ∷ held) awaited format old new len now_len heads now records block moves long tree

module _ (held : List ℕ) (awaited : Option TreePath) (format : Format) (old new : List ℕ) (len : ℕ) (heads : Heads)
    (records : Records) (block : ℕ)
    (keeps : KeepsBlocksBut (block ∷ []) old new) (gives : GivesBlock old new heads block)
    (tree : IsTree (loose_of (block ∷ held) awaited None) format old len heads records) where
  gave : MovesBlock (block ∷ held) held awaited old new heads (record heads { free = block }) block
  gave =
      let free : List ℕ = tree.roles.free in
      let all = times-roles (loose_of (block ∷ held) awaited None) old heads.blocks free block in
      let low : block < heads.blocks = elim (cases_lt block heads.blocks) [
        | inl low ↦ low
        | inr high ↦ absurd
            (omega (arith, tree.roles.once block, is_above heads.blocks block high, all, times-cons-same block held))
      ] in
      let once : times (roles (loose_of (block ∷ held) awaited None) old heads.blocks free) block ≡ 1 =
      tree.roles.once block ∙ is_below heads.blocks block low in
      let some : 0 < block = elim (cases_lt 0 block) [
        | inl some ↦ some
        | inr none ↦ absurd (omega (
          arith,
          once,
          all,
          times-cons-same block held,
          ap (times (0 ∷ [])) (let zero_is : 0 ≡ block = omega (arith, none) in zero_is),
          times-cons-same 0 [],
        ))
      ] in
      record {
        keeps = keeps;
        grows = omega arith;
        first = refl;
        no_tree = omega (arith, once, all, times-cons-same block held);
        no_data = omega (arith, once, all, times-cons-same block held);
        free = block ∷ free;
        is_free = gives.chain free 0 tree.roles.is_free (omega (arith, once, all, times-cons-same block held))
            (leads_from heads.blocks block some low);
        once = λ number. omega (
          arith,
          tree.roles.once number,
          times-roles (loose_of (block ∷ held) awaited None) old heads.blocks free number,
          times-roles (loose_of held awaited None) old heads.blocks (block ∷ free) number,
          times-append (block ∷ []) free number,
          times-append (block ∷ []) held number,
        );
      }

  pub given : (now_len : ℕ) → len ≤ now_len
      → IsTree (loose_of held awaited None) format new now_len (record heads { free = block }) records
  given now_len longer =
      moved (block ∷ held) held awaited format old new len now_len heads (record heads { free = block }) records block
      gave (λ more. omega (arith, tree.long more, longer)) tree
