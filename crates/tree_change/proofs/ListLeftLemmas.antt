-- A misplaced block without room that leaves the entry list of a tree.
use Rattle.std.proofs.Common.{◌≡◌, ◌≢◌, ◌⊎◌, ℕ, ◌<◌, ◌≤◌, Bool, not, if◌then◌else◌, List, [], ◌∷◌, ◌++◌, drop, length}
use Rattle.std.proofs.Common.{map, take, Option, Some, None, false, inl, inr, sym, ap, subst, ◌∙◌, arith}
use Rattle.std.specs.Prelude.{◌==◌}
use Rattle.std.proofs.lemmas.Bool.{cases_eq}
use Rattle.std.proofs.lemmas.List.{take-append-drop}
use Rattle.quota_types.specs.Times.{StandsIn}
use Rattle.quota_types.specs.declared.file_kind.Format.{Format}
use Rattle.quota_types.proofs.TimesLemmas.{only_one, stands_cons, stands_either, stands_left, stands_right}
use Rattle.quota_types.proofs.TimesLemmas.{times-cons-same}
use Rattle.file_blocks.specs.Block.{next_of, previous_of}
use Rattle.file_blocks.proofs.LeadsLemmas.{leads_within}
use Rattle.quota_value.specs.QuotaValue.{Records}
use Rattle.outside.specs.Seen.{StoreSeen}
use Rattle.quota_pages.specs.Used.{IsKnown, shown_over}
use Rattle.quota_pages.specs.KeptBlocks.{KeepsBlocksBut}
use Rattle.quota_pages.specs.declared.page_buffer.Pages.{Pages}
use Rattle.quota_pages.proofs.UsedLemmas.{shown_over-lends}
use Rattle.quota_radix.specs.declared.tree_path.TreePath.{TreePath}
use Rattle.free_chains.specs.Chain.{IsChain}
use Rattle.free_chains.specs.EntryList.{LeavesList, NamesPrevious, StopsLeaving, TakesOut}
use Rattle.free_chains.specs.Links.{led_to}
use Rattle.free_chains.specs.declared.heads.Heads.{Heads}
use Rattle.tree_meaning.specs.Loose.{Loose, loose_of}
use Rattle.tree_meaning.specs.Roles.{data_with, has_room}
use Rattle.tree_meaning.proofs.ListedLemmas.{left_list, misplaced-same}
use Rattle.tree_change.specs.FreedTree.{BecomesTree}
use Rattle.tree_change.specs.Removes.{IsNoTreeMisplacing, LeavesTree}
use Rattle.tree_change.specs.Shows.{IsWholeTree}
use Rattle.tree_change.proofs.AddedLemmas.{led_is}
use Rattle.tree_change.proofs.StaysLemmas.{data_of_room, listed_beside, none_freed}

stands_map : (f : ℕ → ℕ) (xs : List ℕ) (n : ℕ) → StandsIn xs n → StandsIn (map f xs) (f n)
stands_map f [] n stands = absurd (omega (arith, stands))
stands_map f (x ∷ xs) n stands = elim (stands_cons x xs n stands) [
  | inl same ↦ subst (λ (k : ℕ). StandsIn (map f (x ∷ xs)) (f k)) same (omega (arith, times-cons-same (f x) (map f xs)))
  | inr later ↦ stands_right (f x ∷ []) (map f xs) (f n) (stands_map f xs n later)
]

-- a block of a list has another one of the list behind it, or none
next_listed : (file : List ℕ) (blocks head : ℕ) (chain : List ℕ) (block : ℕ) → IsChain file blocks head chain 0
    → StandsIn chain block
    → (next_of file block ≡ 0) ⊎ StandsIn chain (next_of file block)
next_listed file blocks head chain block is stands =
    elim (stands_either chain (0 ∷ []) (next_of file block)
    (subst (λ (xs : List ℕ). StandsIn xs (next_of file block)) (sym is.linked)
    (stands_right (head ∷ []) (map (next_of file) chain) (next_of file block)
    (stands_map (next_of file) chain block stands)))) [
      | inl listed ↦ inr listed
      | inr end ↦ inl (sym (only_one 0 (next_of file block) end))
    ]

-- and one before it, or none
previous_listed : (file chain : List ℕ) (block : ℕ) → NamesPrevious file chain → StandsIn chain block
    → (previous_of file block ≡ 0) ⊎ StandsIn chain (previous_of file block)
previous_listed file chain block named stands =
    let before : StandsIn (take (length chain) (0 ∷ chain)) (previous_of file block) =
    subst (λ (xs : List ℕ). StandsIn xs (previous_of file block)) named
    (stands_map (previous_of file) chain block stands) in
    elim (stands_cons 0 chain (previous_of file block)
    (subst (λ (xs : List ℕ). StandsIn xs (previous_of file block)) (take-append-drop (length chain) (0 ∷ chain))
    (stands_left (take (length chain) (0 ∷ chain)) (drop (length chain) (0 ∷ chain))
    (previous_of file block) before))) [
      | inl none ↦ inl (sym none)
      | inr listed ↦ inr listed
    ]

module _ (held : List ℕ) (awaited : Option TreePath) (block : ℕ) (format : Format) (file : List ℕ) (heads : Heads)
    (records : Records)
    (tree : IsWholeTree (loose_of held awaited (Some block)) format file heads records)
    (room : has_room (loose_of held awaited (Some block)) format file heads.blocks block ≡ false) where
  abbrev loose : Loose
  loose = loose_of held awaited (Some block)

  -- a misplaced block without room is in the list
  listed : StandsIn tree.chained.chain block
  listed = omega (
    arith,
    tree.chained.has_those block
        ∙ ap (λ (b : Bool). if b then 1 else 0)
        (misplaced-same block (has_room (loose_of held awaited (Some block)) format file heads.blocks block)
        ∙ ap not room),
  )

  low : (number : ℕ) → (number ≡ 0) ⊎ StandsIn tree.chained.chain number → number < heads.blocks
  low number (inl none) = omega (arith, none, tree.two)
  low number (inr there) = (leads_within heads.blocks number (tree.chained.is_chain.inside number there)).1

  -- its links lead to no block past the last one
  pub links_low : (next_of file block < heads.blocks) × (previous_of file block < heads.blocks)
  links_low = (
    low (next_of file block)
        (next_listed file heads.blocks heads.first tree.chained.chain block tree.chained.is_chain listed),
    low (previous_of file block) (previous_listed file tree.chained.chain block tree.chained.previous listed),
  )

  -- the blocks that it links are data, as it is itself where it has that role
  linked_data : (link number : ℕ) → (link ≡ 0) ⊎ StandsIn tree.chained.chain link → StandsIn (led_to link) number
      → block ≢ number
      → StandsIn (held ++ data_with loose file heads.blocks) number
  linked_data link number (inl none) led other = absurd ((led_is link number led).0 none)
  linked_data link number (inr there) led other =
      stands_right held (data_with loose file heads.blocks) number
      (data_of_room loose format file heads records number tree
      (listed_beside held awaited block format file heads records number tree
      (subst (StandsIn tree.chained.chain) (led_is link number led).1 there) other))

  pub leaving_data : StandsIn (held ++ data_with loose file heads.blocks) block
      → (number : ℕ) → StandsIn (block ∷ led_to (previous_of file block) ++ led_to (next_of file block)) number
      → StandsIn (held ++ data_with loose file heads.blocks) number
  leaving_data role number stands = elim (cases_eq block number) [
    | inl same ↦ subst (StandsIn (held ++ data_with loose file heads.blocks)) same role
    | inr other ↦
        elim (stands_either (block ∷ led_to (previous_of file block)) (led_to (next_of file block)) number stands) [
          | inl here ↦ elim (stands_cons block (led_to (previous_of file block)) number here) [
            | inl same ↦ absurd (other same)
            | inr led ↦ linked_data (previous_of file block) number
                (previous_listed file tree.chained.chain block tree.chained.previous listed) led other
          ]
          | inr led ↦ linked_data (next_of file block) number
              (next_listed file heads.blocks heads.first tree.chained.chain block tree.chained.is_chain listed)
              led other
        ]
  ]

-- A number past the last block that stops a block from leaving is one of no tree.
pub leaving_no_tree : (format : Format) (file : List ℕ) (heads : Heads) (block number : ℕ) → heads.blocks ≤ number
    → StopsLeaving file heads.blocks block number → IsNoTreeMisplacing format file heads block
leaving_no_tree format file heads block number out stops = λ held awaited records room tree.
    let low = links_low held awaited block format file heads records tree room in
    omega (arith, stops.previous low.0, low.1, out)

-- A block that was taken out of the list is misplaced no longer.
pub left_tree : (tells : Bool) (block : ℕ) (before now : StoreSeen) (heads new_heads : Heads) (old new : Pages)
    (format : Format) → TakesOut tells block before now heads new_heads old new → IsKnown tells before old
    → ((front back : List ℕ) → IsChain (shown_over before old) heads.blocks heads.first (front ++ block ∷ back) 0
    → NamesPrevious (shown_over before old) (front ++ block ∷ back)
    → LeavesList (shown_over before old) (shown_over now new) heads new_heads block front back)
    → LeavesTree format block (shown_over before old) (shown_over now new) heads new_heads
left_tree tells block before now heads new_heads old new format out known leaves =
    λ held awaited records role room tree.
    let was : List ℕ = shown_over before old in
    let is : List ℕ = shown_over now new in
    let first : ℕ = if out.previous == 0 then out.next else heads.first in
    let keeps : KeepsBlocksBut (block ∷ led_to (previous_of was block) ++ led_to (next_of was block)) was is =
    subst (λ (previous : ℕ). KeepsBlocksBut (block ∷ led_to previous ++ led_to (next_of was block)) was is)
    (out.previous_is known)
    (subst (λ (next : ℕ). KeepsBlocksBut (block ∷ led_to out.previous ++ led_to next) was is) (out.next_is known)
    (shown_over-lends out.lends)) in
    subst (λ (h : Heads). BecomesTree (loose_of held awaited None) [] format was is heads h records)
    (sym out.heads_are) (
      left_list held awaited format was is (length was) heads records first block tree role room keeps
          (λ front back chain named. subst (λ (h : Heads). LeavesList was is heads h block front back) out.heads_are
          (leaves front back chain named))
          (length is) keeps.longer,
      none_freed (loose_of held awaited (Some block)) format was is heads records
          (block ∷ led_to (previous_of was block) ++ led_to (next_of was block)) tree keeps
          (leaving_data held awaited block format was heads records tree room role) first,
    )
