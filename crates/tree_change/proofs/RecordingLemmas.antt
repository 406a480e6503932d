-- A record that is put into a file: it is put into the tree, and then the heads are written in the header.
use Rattle.std.proofs.Common.{◌≡◌, ℕ, ◌+◌, ◌*◌, ◌-◌, ◌^◌, ◌<◌, ◌≤◌, List, [], ◌∷◌, length, get_or, Option, None, refl}
use Rattle.std.proofs.Common.{sym, ap, subst, ◌∙◌, inl, inr, arith}
use Rattle.std.specs.Prelude.{IsSome}
use Rattle.std.specs.FinMap.{insert}
use Rattle.std.proofs.lemmas.Bool.{cases_eq, le-leb}
use Rattle.quota_types.specs.Times.{StandsIn, times}
use Rattle.quota_types.proofs.TimesLemmas.{only_one, stands_cons, times-cons-other}
use Rattle.quota_types.specs.declared.file_kind.Format.{Format}
use Rattle.quota_types.specs.declared.record.Rec.{Rec}
use Rattle.quota_types.specs.KeptBytes.{KeepsOutside}
use Rattle.file_blocks.specs.Block.{block_of}
use Rattle.file_blocks.proofs.LeadsLemmas.{leads_within}
use Rattle.entry_codec.specs.Header.{HeaderNumbers, header_of}
use Rattle.entry_codec.specs.Spelling.{AreOf}
use Rattle.entry_codec.specs.declared.header.Header.{Header}
use Rattle.quota_value.specs.QuotaValue.{QuotaValue, Records}
use Rattle.quota_pages.specs.KeptBlocks.{KeepsBlocksBut}
use Rattle.quota_radix.specs.Tree.{blocks_of, data_blocks, tree_blocks}
use Rattle.free_chains.specs.Chain.{IsChain}
use Rattle.free_chains.specs.declared.heads.Heads.{Heads}
use Rattle.free_chains.proofs.SpliceLemmas.{chain-stays}
use Rattle.tree_meaning.specs.TreeHeads.{heads_of}
use Rattle.tree_meaning.specs.Loose.{loose_of, nothing_loose}
use Rattle.tree_meaning.specs.Roles.{counted_leaves, data_with}
use Rattle.tree_meaning.specs.TreeFile.{TreeStandsFor}
use Rattle.tree_meaning.proofs.AsideLemmas.{header_changed}
use Rattle.tree_meaning.proofs.FrameLemmas.{data_kept, data_leads}
use Rattle.tree_meaning.proofs.MovedLemmas.{keeps_entries}
use Rattle.block_changes.proofs.OneLeafLemmas.{inserted_own}
use Rattle.tree_change.specs.Freed.{free_blocks}
use Rattle.tree_change.specs.HeaderHeads.{SetsHeads, with_heads}
use Rattle.tree_change.specs.Putting.{PutsIn, PutsRecord, TakesCounted}
use Rattle.tree_change.specs.BlocksWanted.{blocks_taken, blocks_with}
use Rattle.tree_change.specs.Shows.{IsNoCompleteTree, IsWholeTree}
use Rattle.tree_change.specs.Behind.{KeepsBehind}
use Rattle.tree_change.proofs.BehindLemmas.{behind_of, behind_then}
use Rattle.tree_change.proofs.FreedLemmas.{free_are}
use Rattle.tree_change.proofs.HeaderChangedLemmas.{format_is, header_same, heads_are, tree_by_header, value_with_heads}
use Rattle.tree_change.proofs.HeaderStaysLemmas.{header_apart}
use Rattle.tree_change.proofs.ManyBlocksLemmas.{long_with_record}

-- a list of free blocks that has none begins with no block
no_head : (file : List ℕ) (blocks head : ℕ) (chain : List ℕ) → length chain ≡ 0
    → IsChain file blocks head chain 0 → head ≡ 0
no_head file blocks head [] none is = ap (λ (xs : List ℕ). get_or xs 0 0) (sym is.linked)
no_head file blocks head (block ∷ chain) none is = absurd (omega (arith, none))

-- The blocks that were taken are counted: they are as many as free ones are lacking, and where there are more blocks
-- than before none is free.
module _ (count : ℕ) (old between : List ℕ) (start heads : Heads)
    (counted : TakesCounted count old between start heads) (free : List ℕ)
    (is_free : IsChain old start.blocks start.free free 0) where
  pub more_by_count : heads.blocks ≡ start.blocks + (count - length (free_blocks old start))
  more_by_count =
      counted.sum free is_free
      ∙ ap (λ (xs : List ℕ). start.blocks + (count - length xs)) (sym (free_are old start free is_free))

  pub none_left : start.blocks < heads.blocks → heads.free ≡ 0
  none_left grown =
      let rest = counted.rest free is_free in
      no_head between heads.blocks heads.free rest.0 (omega (arith, rest.2, counted.sum free is_free, grown)) rest.1

  -- those that are left are free too once block 0 has changed
  pub free_left : (new : List ℕ) → KeepsBlocksBut (0 ∷ []) between new
      → length (free_blocks new heads) ≡ length (free_blocks old start) - count
  free_left new keeps =
      let rest = counted.rest free is_free in
      let beside : (number : ℕ) → StandsIn rest.0 number → times (0 ∷ []) number ≡ 0 =
      λ number stands. times-cons-other 0 [] number
      (λ is. let within = leads_within heads.blocks number (rest.1.inside number stands) in omega (
        arith,
        within.0,
        is,
      )) in
      omega (
        arith,
        rest.2,
        ap {B = ℕ} length (free_are old start free is_free),
        ap {B = ℕ} length
            (free_are new heads rest.0
            (chain-stays (0 ∷ []) between new heads.blocks heads.free rest.0 0 keeps beside rest.1)),
      )

-- Where block 0 alone changed the data blocks are those that were.
data_same : (format : Format) (between new : List ℕ) (heads : Heads) (records : Records)
    → IsWholeTree nothing_loose format between heads records → KeepsBlocksBut (0 ∷ []) between new
    → data_with nothing_loose new heads.blocks ≡ data_with nothing_loose between heads.blocks
data_same format between new heads records tree keeps =
    let blocks : ℕ = heads.blocks in
    let only : (block : ℕ) → StandsIn (0 ∷ []) block → block ≡ 0 =
    λ block stands. elim (stands_cons 0 [] block stands) [
      | inl same ↦ sym same
      | inr there ↦ absurd (omega (arith, there))
    ] in
    data_kept nothing_loose format between new blocks blocks
    (keeps_entries nothing_loose format blocks blocks between new (0 ∷ []) (omega arith) keeps
    (λ block stands. ap (times (tree_blocks between blocks)) (only block stands)
    ∙ (header_apart nothing_loose between blocks heads.free tree.roles).1)
    (λ block stands named. absurd
    (let within = leads_within blocks block
    (data_leads nothing_loose between blocks block tt
    (le-leb 1 (times (blocks_of (counted_leaves nothing_loose between blocks)) block) named)) in
    omega (arith, within.0, only block stands))))
    tree.roles.references tt

-- So a data block is new only where none had room.
new_only : (id : ℕ) (rec : Rec) (format : Format) (old between new : List ℕ) (start heads : Heads) (records : Records)
    → PutsIn id rec [] format old between start heads records
    → KeepsBlocksBut (0 ∷ []) between new → (block : ℕ) → StandsIn (data_blocks new heads.blocks) block
    → times (data_blocks old start.blocks) block ≡ 0 → start.first ≡ 0
new_only id rec format old between new start heads records puts keeps block stands absent =
    elim (cases_eq start.first 0) [
      | inl none ↦ none
      | inr some ↦ absurd (omega (
        arith,
        stands,
        absent,
        puts.same_data some block,
        ap (λ (xs : List ℕ). times xs block)
            (data_same format between new heads (insert records id rec) puts.tree keeps),
      ))
    ]

-- A record was put into the tree of a file, and the heads were written in its header.
pub puts_record : (id : ℕ) (rec : Rec) (header : Header) (start heads : Heads) (old between new : List ℕ)
    (value : QuotaValue) → id < 2 ^ 32
    → AreOf header (header_of old) → start.blocks ≡ header.blocks → start.free ≡ header.free
    → start.first ≡ header.first → TreeStandsFor old value
    → ((held : List ℕ) (records : Records) → IsWholeTree (loose_of held None None) header.format old start records
    → PutsIn id rec held header.format old between start heads records)
    → start.blocks ≤ heads.blocks
    → KeepsBlocksBut (0 ∷ []) between new → (AreOf header (header_of between) → SetsHeads heads between new)
    → PutsRecord id rec value old new heads
puts_record id rec header start heads old between new value small are blocks free first stands puts
    at_least keeps writes =
    let at : start ≡ heads_of (header_of old) = heads_are header (header_of old) start are blocks free first in
    let before : IsWholeTree (loose_of [] None None) header.format old start value.records =
    tree_by_header old header start value are at stands in
    let put : PutsIn id rec [] header.format old between start heads value.records = puts [] value.records before in
    let unchanged : header_of between ≡ header_of old = header_same old between put.header in
    let set : SetsHeads heads between new = writes (subst (AreOf header) (sym unchanged) are) in
    let numbers : header_of new ≡ with_heads (header_of old) heads =
    set.numbers ∙ ap (λ (was : HeaderNumbers). with_heads was heads) unchanged in
    let tree : IsWholeTree (loose_of [] None None) header.format new heads (insert value.records id rec) =
    header_changed [] None header.format between new (length between) (length new) heads (insert value.records id rec)
    put.tree keeps keeps.longer in
    let behind : KeepsBehind start.blocks heads.blocks old new =
    behind_then start.blocks heads.blocks heads.blocks old between new put.counted.behind
    (behind_of (0 ∷ []) heads.blocks heads.blocks between new (omega arith)
    (λ number stands. omega (arith, only_one 0 number stands, put.tree.two)) keeps) in
    let long : 1024 * heads.blocks ≤ length new =
    long_with_record [] header.format new heads (insert value.records id rec) id small tree
    (subst (λ (found : Option Rec). IsSome found) (sym (inserted_own value.records id rec)) refl) in
    record {
      stands = value_with_heads old new value (insert value.records id rec) heads stands numbers
          (subst (λ (format : Format). IsWholeTree (loose_of [] None None) format new heads
          (insert value.records id rec)) (sym (format_is header old value are stands)) tree);
      heads_are = ap heads_of (sym numbers);
      header = subst (λ (block : List ℕ). KeepsOutside 20 32 block (block_of new 0)) put.header set.others;
      behind = behind.behind;
      long = omega (arith, behind.longer, behind.within, long);
      at_least = subst (λ (h : Heads). h.blocks ≤ heads.blocks) at at_least;
      sum = subst (λ (h : Heads). heads.blocks ≡ blocks_with old h id) at
          (more_by_count (blocks_taken old start id) old between start heads put.counted before.roles.free
          before.roles.is_free);
      growth = subst (λ (h : Heads). h.blocks < heads.blocks → heads.free ≡ 0) at
          (none_left (blocks_taken old start id) old between start heads put.counted before.roles.free
          before.roles.is_free);
      rest =
          subst (λ (h : Heads). length (free_blocks new heads) ≡ length (free_blocks old h) - blocks_taken old h id) at
          (free_left (blocks_taken old start id) old between start heads put.counted before.roles.free
          before.roles.is_free new keeps);
      new_data =
          subst (λ (h : Heads). (block : ℕ) → StandsIn (data_blocks new heads.blocks) block
          → times (data_blocks old h.blocks) block ≡ 0 → h.first ≡ 0) at
          (new_only id rec header.format old between new start heads value.records put keeps);
    }

-- Bytes that stand for no value, where the file's own heads make no tree of them.
pub no_value_put : (header : Header) (start : Heads) (old : List ℕ) (value : QuotaValue)
    → AreOf header (header_of old) → start.blocks ≡ header.blocks → start.free ≡ header.free
    → start.first ≡ header.first
    → IsNoCompleteTree header.format old start → ¬ TreeStandsFor old value
no_value_put header start old value are blocks free first none stands =
    none [] value.records
    (tree_by_header old header start value are (heads_are header (header_of old) start are blocks free first) stands)

-- The number of blocks that a full file would have is told by its own header.
pub full_by_header : (id blocks_then : ℕ) (header : Header) (start : Heads) (old : List ℕ) (value : QuotaValue)
    → AreOf header (header_of old) → start.blocks ≡ header.blocks → start.free ≡ header.free
    → start.first ≡ header.first
    → ((held : List ℕ) (records : Records) → IsWholeTree (loose_of held None None) header.format old start records
    → blocks_then ≡ blocks_with old start id)
    → TreeStandsFor old value → blocks_then ≡ blocks_with old (heads_of (header_of old)) id
full_by_header id blocks_then header start old value are blocks free first tells stands =
    let at : start ≡ heads_of (header_of old) = heads_are header (header_of old) start are blocks free first in
    subst (λ (h : Heads). blocks_then ≡ blocks_with old h id) at
    (tells [] value.records (tree_by_header old header start value are at stands))
