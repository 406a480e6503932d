-- What stays of a tree where blocks changed that are held or have entries: the ways of all identifiers, the free and
-- the data blocks, and the header.
use Rattle.std.proofs.Common.{◌≡◌, ◌≢◌, ℕ, ◌+◌, ◌^◌, ◌<◌, ◌≤◌, Bool, true, false, true≢false, ◌&&◌, if◌then◌else◌, List}
use Rattle.std.proofs.Common.{[], ◌++◌, length, Option, Some, None, refl, sym, ap, ◌∙◌, inl, inr, arith}
use Rattle.std.proofs.lemmas.Bool.{cases_Bool, cases_lt}
use Rattle.quota_types.specs.declared.file_kind.Format.{Format}
use Rattle.quota_types.specs.Times.{StandsIn, times}
use Rattle.quota_types.proofs.TimesLemmas.{times-append}
use Rattle.file_blocks.specs.Block.{block_of}
use Rattle.quota_value.specs.QuotaValue.{Records}
use Rattle.quota_pages.specs.KeptBlocks.{KeepsBlocksBut}
use Rattle.quota_radix.specs.Tree.{tree_blocks}
use Rattle.quota_radix.specs.OnWay.{blocks_on_way}
use Rattle.quota_radix.specs.declared.tree_path.TreePath.{TreePath}
use Rattle.free_chains.specs.declared.heads.Heads.{Heads}
use Rattle.tree_meaning.specs.Entries.{has_unused}
use Rattle.tree_meaning.specs.Loose.{Loose, but_misplaced, loose_of}
use Rattle.tree_meaning.specs.Roles.{counts_as_data, data_with, has_room}
use Rattle.tree_meaning.proofs.ListedLemmas.{misplaced-other}
use Rattle.tree_meaning.proofs.MovedLemmas.{times-data_with, times-roles}
use Rattle.block_changes.proofs.KeptLemmas.{held_or_data_stay}
use Rattle.tree_change.specs.FreedTree.{FreesBeside}
use Rattle.tree_change.specs.Putting.{TakesCounted}
use Rattle.tree_change.specs.Shows.{IsWholeTree}
use Rattle.tree_change.proofs.CountedLemmas.{counted_none}
use Rattle.tree_change.proofs.FreshLemmas.{role_above, role_below, role_low}
use Rattle.tree_change.proofs.FreedLemmas.{frees_none, named_apart, not_changed, ways_apart}
use Rattle.tree_change.proofs.HeaderStaysLemmas.{aside_from_header}

module _ (loose : Loose) (format : Format) (old new : List ℕ) (heads : Heads) (records : Records) (numbers : List ℕ)
    (tree : IsWholeTree loose format old heads records) (keeps : KeepsBlocksBut numbers old new)
    (aside : (number : ℕ) → StandsIn numbers number
    → StandsIn (loose.held ++ data_with loose old heads.blocks) number) where
  stands_low : (number : ℕ) → StandsIn numbers number → number < heads.blocks
  stands_low number stands = role_low loose old heads.blocks heads.free tree.roles number (omega (
    arith,
    aside number stands,
    times-append loose.held (data_with loose old heads.blocks) number,
    times-roles loose old heads.blocks tree.roles.free number,
  ))

  no_other_role : (number : ℕ) → StandsIn numbers number
      → (times (tree_blocks old heads.blocks) number ≡ 0) × (times tree.roles.free number ≡ 0)
  no_other_role number stands =
      let all = times-roles loose old heads.blocks tree.roles.free number in
      let there : 1 ≤ times loose.held number + times (data_with loose old heads.blocks) number =
      omega (arith, aside number stands, times-append loose.held (data_with loose old heads.blocks) number) in
      elim (cases_lt number heads.blocks) [
        | inl low ↦ (
          omega (arith, tree.roles.once number, role_below heads.blocks number low, all, there),
          omega (arith, tree.roles.once number, role_below heads.blocks number low, all, there),
        )
        | inr high ↦ absurd (omega (arith, tree.roles.once number, role_above heads.blocks number high, all, there))
      ]

  pub ways_stay : (other : ℕ) → other < 2 ^ 32
      → blocks_on_way new heads.blocks other ≡ blocks_on_way old heads.blocks other
  ways_stay =
      ways_apart loose format old new heads records numbers tree keeps
      (λ number stands. (no_other_role number stands).0)

  pub counted_stays : (now : Heads) → now.blocks ≡ heads.blocks → now.free ≡ heads.free
      → TakesCounted 0 old new heads now
  counted_stays now blocks_are free_is =
      counted_none numbers old new heads now tree.roles.free keeps blocks_are free_is tree.roles.is_free
      (not_changed loose format old new heads records numbers tree keeps
      (λ number stands. (no_other_role number stands).1)) stands_low

  pub header_stays : block_of new 0 ≡ block_of old 0
  header_stays = keeps.others 0 (aside_from_header loose old heads.blocks heads.free tree.roles numbers aside)

  pub none_freed : (first : ℕ) → FreesBeside [] old new heads (record heads { first = first })
  none_freed first = record {
    frees = frees_none loose format old new heads records numbers tree keeps
        (λ number stands. (no_other_role number stands).1) stands_low first;
    ways = ways_stay;
    named = named_apart loose format old new heads records numbers tree keeps
        (λ number stands. (no_other_role number stands).0);
    header = header_stays;
  }

  -- where it is a tree still, with the same blocks held, the data blocks are those that were
  pub data_stays : (next : Loose) (first : ℕ) (others : Records)
      → IsWholeTree next format new (record heads { first = first }) others
      → ((number : ℕ) → times next.held number ≡ times loose.held number)
      → (number : ℕ) → times (data_with next new heads.blocks) number ≡ times (data_with loose old heads.blocks) number
  data_stays next first others after same number = omega (
    arith,
    held_or_data_stay loose format old new numbers (length old) heads records tree aside keeps next (length new) first
        others after number,
    same number,
    times-append loose.held (data_with loose old heads.blocks) number,
    times-append next.held (data_with next new heads.blocks) number,
  )

-- a block that counts as one with room is a data block
pub data_of_room : (loose : Loose) (format : Format) (old : List ℕ) (heads : Heads) (records : Records) (number : ℕ)
    → IsWholeTree loose format old heads records
    → has_room loose format old heads.blocks number ≡ true → StandsIn (data_with loose old heads.blocks) number
data_of_room loose format old heads records number tree room =
    elim (cases_Bool (counts_as_data loose old heads.blocks number)) [
      | inl is ↦ omega (
        arith,
        times-data_with loose old heads.blocks number tree.awaited,
        ap {B = ℕ} (λ (b : Bool). if b then 1 else 0) is,
      )
      | inr other ↦
          absurd (true≢false (sym room ∙ ap (λ (b : Bool). b && has_unused format (block_of old number)) other))
    ]

-- a block of the entry list has a role there, but for the misplaced one
counted_true : (holds : Bool) → 1 ≤ (if holds then 1 else 0) → holds ≡ true
counted_true true some = refl
counted_true false some = absurd (omega (arith, some))

pub listed_data : (held : List ℕ) (awaited : Option TreePath) (format : Format) (old : List ℕ) (heads : Heads)
    (records : Records) (number : ℕ)
    (tree : IsWholeTree (loose_of held awaited None) format old heads records) → StandsIn tree.chained.chain number
    → has_room (loose_of held awaited None) format old heads.blocks number ≡ true
listed_data held awaited format old heads records number tree stands =
    counted_true (has_room (loose_of held awaited None) format old heads.blocks number)
    (omega (arith, stands, tree.chained.has_those number))

pub listed_beside : (held : List ℕ) (awaited : Option TreePath) (misplaced : ℕ) (format : Format) (old : List ℕ)
    (heads : Heads) (records : Records) (number : ℕ)
    (tree : IsWholeTree (loose_of held awaited (Some misplaced)) format old heads records)
    → StandsIn tree.chained.chain number → misplaced ≢ number
    → has_room (loose_of held awaited (Some misplaced)) format old heads.blocks number ≡ true
listed_beside held awaited misplaced format old heads records number tree stands other =
    sym (misplaced-other misplaced number
    (has_room (loose_of held awaited (Some misplaced)) format old heads.blocks number) other)
    ∙ counted_true (but_misplaced (Some misplaced) number
    (has_room (loose_of held awaited (Some misplaced)) format old heads.blocks number))
    (omega (arith, stands, tree.chained.has_those number))
