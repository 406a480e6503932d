-- A record that is removed: its leaf is unlinked first, and then its entry is cleared.
use Rattle.std.proofs.Common.{◌≡◌, ℕ, ◌*◌, ◌^◌, ◌<◌, ◌≤◌, ◌==◌, List, [], ◌∷◌, ◌++◌, length, get_or, drop, filter, take}
use Rattle.std.proofs.Common.{Bool, true, Some, None, inl, inr, refl, sym, ap, subst, ◌∙◌, arith}
use Rattle.std.proofs.lemmas.Bool.{cases_Bool}
use Rattle.std.proofs.lemmas.Bool.Decides.{nat_tests}
use Rattle.std.specs.FinMap.{remove}
use Rattle.std.specs.List.{range_with_len}
use Rattle.quota_types.specs.Times.{StandsIn, times}
use Rattle.quota_types.specs.declared.file_kind.Format.{Format}
use Rattle.quota_types.proofs.TimesLemmas.{only_one, times-cons, times-cons-same, times-filter-no, times-filter-yes}
use Rattle.quota_types.specs.KeptBytes.{KeepsOutside}
use Rattle.file_blocks.specs.Block.{block_of}
use Rattle.entry_codec.specs.Header.{HeaderNumbers, header_of}
use Rattle.entry_codec.specs.Spelling.{AreOf}
use Rattle.entry_codec.specs.declared.header.Header.{Header}
use Rattle.quota_value.specs.QuotaValue.{QuotaValue, Records}
use Rattle.quota_pages.specs.KeptBlocks.{KeepsBlocksBut}
use Rattle.quota_radix.specs.Tree.{data_blocks, is_data, level, tree_blocks}
use Rattle.quota_radix.specs.declared.tree_path.TreePath.{TreePath}
use Rattle.quota_radix.specs.OnWay.{blocks_on_way}
use Rattle.free_chains.specs.declared.heads.Heads.{Heads}
use Rattle.tree_meaning.specs.TreeHeads.{heads_of}
use Rattle.tree_meaning.specs.Loose.{Loose, loose_of}
use Rattle.tree_meaning.specs.Roles.{counts_as_data, data_with}
use Rattle.tree_meaning.specs.TreeFile.{TreeStandsFor}
use Rattle.tree_meaning.proofs.AsideLemmas.{header_changed}
use Rattle.tree_meaning.proofs.MovedLemmas.{times-roles}
use Rattle.block_changes.proofs.OneBlockLemmas.{one_role}
use Rattle.tree_change.specs.Freed.{FreesBlocks, freed_blocks, lost_blocks, unnamed_of}
use Rattle.tree_change.specs.Removes.{AwaitsInNoTree, RemovesEntry}
use Rattle.tree_change.specs.HeaderHeads.{SetsHeads, with_heads}
use Rattle.tree_change.specs.Removal.{HasNoWay, RemovesRecord, TakesRecord}
use Rattle.tree_change.specs.Shows.{IsWholeTree}
use Rattle.tree_change.specs.Unlinked.{TreeStays, UnlinksLeaf}
use Rattle.tree_change.proofs.FreedLemmas.{frees_none, frees_then, named_apart, ways_apart}
use Rattle.tree_change.proofs.HeaderChangedLemmas.{format_is, header_same, heads_are, tree_by_header, value_with_heads}
use Rattle.tree_change.proofs.HeaderStaysLemmas.{header_apart}
use Rattle.tree_change.proofs.ManyBlocksLemmas.{long_by_way}

-- a way of five blocks has the fifth one behind four
fifth_alone : (way : List ℕ) → length way ≡ 5 → drop 4 way ≡ get_or way 4 0 ∷ []
fifth_alone [] five = absurd (omega (arith, five))
fifth_alone (a ∷ []) five = absurd (omega (arith, five))
fifth_alone (a ∷ b ∷ []) five = absurd (omega (arith, five))
fifth_alone (a ∷ b ∷ c ∷ []) five = absurd (omega (arith, five))
fifth_alone (a ∷ b ∷ c ∷ d ∷ []) five = absurd (omega (arith, five))
fifth_alone (a ∷ b ∷ c ∷ d ∷ e ∷ []) five = refl
fifth_alone (a ∷ b ∷ c ∷ d ∷ e ∷ f ∷ way) five = absurd (omega (arith, five))

-- a number that a filter keeps, another one keeps that passes what it passes
stands-filter : (few more : ℕ → Bool) (xs : List ℕ) (n : ℕ) → (few n ≡ true → more n ≡ true)
    → StandsIn (filter few xs) n → StandsIn (filter more xs) n
stands-filter few more xs n passes stands = elim (cases_Bool (few n)) [
  | inl is ↦ omega (arith, stands, times-filter-yes few xs n is, times-filter-yes more xs n (passes is))
  | inr other ↦ absurd (omega (arith, stands, times-filter-no few xs n other))
]

-- a data block is one where a leaf is awaited besides
data_awaited : (leaf : TreePath) (file : List ℕ) (blocks block : ℕ) → StandsIn (data_blocks file blocks) block
    → StandsIn (data_with (loose_of [] (Some leaf) None) file blocks) block
data_awaited leaf file blocks block =
    stands-filter (is_data file blocks) (counts_as_data (loose_of [] (Some leaf) None) file blocks)
    (range_with_len 0 blocks) block
    (λ is. grind (arith, nat_tests, is, times-cons leaf.block (level file blocks 4) block))

module _ (format : Format) (way : List ℕ) (id block : ℕ) (old between : List ℕ) (heads middle : Heads)
    (fifth : block ≡ get_or way 4 0)
    (unlinks : UnlinksLeaf way id old between heads middle) where
  awaits : (records : Records) → way ≡ blocks_on_way old heads.blocks id
      → IsWholeTree (loose_of [] None None) format old heads records
      → TreeStays (loose_of [] None None) (loose_of [] (Some (record { number = id; block = block })) None) format old
      between heads middle records
      × FreesBlocks (lost_blocks old between middle.blocks id) old between heads middle
  awaits records is tree =
      subst (λ (b : ℕ). TreeStays (loose_of [] None None) (loose_of [] (Some (record { number = id; block = b })) None)
      format old between heads middle records
      × FreesBlocks (lost_blocks old between middle.blocks id) old between heads middle) (sym fifth)
      (unlinks [] format records is tree)

  -- both parts, one after the other
  pub takes_record : (new : List ℕ) (now : Heads) → id < 2 ^ 32 → length way ≡ 5 → middle.blocks ≡ heads.blocks
      → now.blocks ≡ middle.blocks
      → RemovesEntry format id block between new middle now → TakesRecord format way id old new heads now
  takes_record new now small five same same_then removes = λ records is tree.
      let gone = awaits records is tree in
      let removed = removes [] records gone.0.tree in
      let fifth_block : block ∷ [] ≡ drop 4 (blocks_on_way old now.blocks id) =
      ap (λ (b : ℕ). b ∷ []) fifth ∙ sym (fifth_alone way five)
      ∙ ap (drop 4) (is ∙ ap (λ (n : ℕ). blocks_on_way old n id) (sym (same_then ∙ same))) in
      let lost : lost_blocks old between middle.blocks id ≡ lost_blocks old new now.blocks id =
      ap (λ (n : ℕ). drop (length (blocks_on_way between middle.blocks id)) (take 4 (blocks_on_way old n id))) (sym
      same_then)
      ∙ ap (λ (xs : List ℕ). drop (length xs) (take 4 (blocks_on_way old now.blocks id)))
      (sym (removed.1.ways id small)) in
      record {
        tree = removed.0;
        header = removed.1.header ∙ gone.0.header;
        freed = subst (λ (freed : List ℕ). FreesBlocks freed old new heads now)
            (ap (λ (numbers : List ℕ).
            unnamed_of new now.blocks numbers ++ lost_blocks old between middle.blocks id) fifth_block
            ∙ ap
            (λ (lower : List ℕ). unnamed_of new now.blocks (drop 4 (blocks_on_way old now.blocks id)) ++ lower) lost)
            (frees_then (lost_blocks old between middle.blocks id) (unnamed_of new now.blocks (block ∷ [])) old between
            new heads middle now gone.1 removed.1.frees);
        new_data = λ number stands.
            subst (λ (numbers : List ℕ). StandsIn numbers number) gone.0.same_data
            (data_awaited (record { number = id; block = block }) between middle.blocks number
            (subst (λ (numbers : List ℕ). StandsIn numbers number) removed.1.named stands));
      }

  -- or the second one was refused
  pub has_no_way : AwaitsInNoTree format between middle id block → HasNoWay format way id old heads
  has_no_way wrong = λ records is tree. wrong [] records (awaits records is tree).0.tree

-- Where block 0 alone changed no block was freed, and the ways and the data blocks are as before.
header_frees : (format : Format) (between new : List ℕ) (heads : Heads) (records : Records)
    → IsWholeTree (loose_of [] None None) format between heads records
    → KeepsBlocksBut (0 ∷ []) between new
    → FreesBlocks [] between new heads heads
    × ((id : ℕ) → id < 2 ^ 32 → blocks_on_way new heads.blocks id ≡ blocks_on_way between heads.blocks id)
    × (data_blocks new heads.blocks ≡ data_blocks between heads.blocks)
header_frees format between new heads records tree keeps =
    let loose : Loose = loose_of [] None None in
    let apart = header_apart loose between heads.blocks heads.free tree.roles in
    let no_tree : (number : ℕ) → StandsIn (0 ∷ []) number → times (tree_blocks between heads.blocks) number ≡ 0 =
    λ number stands.
    subst (λ (n : ℕ). times (tree_blocks between heads.blocks) n ≡ 0) (only_one 0 number stands) apart.1 in
    let not_free : (number : ℕ) → StandsIn (0 ∷ []) number → times tree.roles.free number ≡ 0 = λ number stands.
    subst (λ (n : ℕ). times tree.roles.free n ≡ 0) (only_one 0 number stands)
    (omega (
      arith,
      one_role loose between heads.blocks heads.free tree.roles 0,
      times-roles loose between heads.blocks tree.roles.free 0,
      times-cons-same 0 [],
    )) in (
      frees_none loose format between new heads records (0 ∷ []) tree keeps not_free
          (λ number stands. omega (arith, only_one 0 number stands, tree.two)) heads.first,
      ways_apart loose format between new heads records (0 ∷ []) tree keeps no_tree,
      named_apart loose format between new heads records (0 ∷ []) tree keeps no_tree,
    )

-- the same blocks are freed where the ways and the data blocks are the same
freed_same : (old between new : List ℕ) (blocks id : ℕ) → blocks_on_way new blocks id ≡ blocks_on_way between blocks id
    → data_blocks new blocks ≡ data_blocks between blocks
    → freed_blocks old between blocks id ≡ freed_blocks old new blocks id
freed_same old between new blocks id way named =
    ap (λ (numbers : List ℕ). filter (λ (number : ℕ). times numbers number == 0) (drop 4 (blocks_on_way old blocks id))
    ++ lost_blocks old between blocks id) (sym named)
    ∙ ap (λ (xs : List ℕ). unnamed_of new blocks (drop 4 (blocks_on_way old blocks id))
    ++ drop (length xs) (take 4 (blocks_on_way old blocks id))) (sym way)

-- A record is taken out of a file, by the way of its identifier and with the heads that the header has, and the heads
-- that are left are then written in the header.
pub record TakesAndWrites (id : ℕ) (way : List ℕ) (header : Header) (start heads : Heads) (old between new : List ℕ)
    : Type 0 where
  pub small : id < 2 ^ 32
  pub are : AreOf header (header_of old)
  pub blocks : start.blocks ≡ header.blocks
  pub free : start.free ≡ header.free
  pub first : start.first ≡ header.first
  pub is : way ≡ blocks_on_way old header.blocks id
  pub five : length way ≡ 5
  pub takes : TakesRecord header.format way id old between start heads
  pub same : heads.blocks ≡ start.blocks
  pub keeps : KeepsBlocksBut (0 ∷ []) between new
  pub writes : AreOf header (header_of between) → SetsHeads heads between new

-- so the record is removed
pub removes_record : {id : ℕ} {way : List ℕ} {header : Header} {start heads : Heads} {old between new : List ℕ}
    (value : QuotaValue) → TreeStandsFor old value → TakesAndWrites id way header start heads old between new
    → RemovesRecord id value old new heads
removes_record {id} {way} {header} {start} {heads} {old} {between} {new} value stands t =
    let at : start ≡ heads_of (header_of old) = heads_are header (header_of old) start t.are t.blocks t.free t.first in
    let was : IsWholeTree (loose_of [] None None) header.format old start value.records =
    tree_by_header old header start value t.are at stands in
    let found : way ≡ blocks_on_way old start.blocks id =
    t.is ∙ ap (λ (n : ℕ). blocks_on_way old n id) (sym t.blocks) in
    let taken = t.takes value.records found was in
    let unchanged : header_of between ≡ header_of old = header_same old between taken.header in
    let set : SetsHeads heads between new = t.writes (subst (AreOf header) (sym unchanged) t.are) in
    let numbers : header_of new ≡ with_heads (header_of old) heads =
    set.numbers ∙ ap (λ (was : HeaderNumbers). with_heads was heads) unchanged in
    let tree : IsWholeTree (loose_of [] None None) header.format new heads (remove value.records id) =
    header_changed [] None header.format between new (length between) (length new) heads (remove value.records id)
    taken.tree t.keeps t.keeps.longer in
    let beside = header_frees header.format between new heads (remove value.records id) taken.tree t.keeps in
    let freed =
    frees_then (freed_blocks old between heads.blocks id) [] old between new start heads heads taken.freed beside.0 in
    let long : 1024 * start.blocks ≤ length old =
    long_by_way [] header.format old start value.records id t.small was
    (omega (arith, t.five, ap {B = ℕ} length found)) in
    record {
      stands = value_with_heads old new value (remove value.records id) heads stands numbers
          (subst (λ (format : Format). IsWholeTree (loose_of [] None None) format new heads (remove value.records id))
          (sym (format_is header old value t.are stands)) tree);
      heads_are = ap heads_of (sym numbers);
      header = subst (λ (block : List ℕ). KeepsOutside 20 32 block (block_of new 0)) taken.header set.others;
      blocks = t.same ∙ t.blocks ∙ sym t.are.blocks;
      long = omega (arith, freed.behind.longer, freed.behind.within, long, t.same);
      freed = subst (λ (h : Heads). FreesBlocks (freed_blocks old new heads.blocks id) old new h heads) at
          (subst (λ (freed : List ℕ). FreesBlocks freed old new start heads)
          (freed_same old between new heads.blocks id (beside.1 id t.small) beside.2) freed);
      new_data = λ block stands.
          subst (λ (blocks : ℕ). StandsIn (data_blocks old blocks) block) (t.blocks ∙ sym t.are.blocks)
          (taken.new_data block (subst (λ (numbers : List ℕ). StandsIn numbers block) beside.2 stands));
    }

-- Where none could be taken out of it the file stands for no value.
pub no_value : (id : ℕ) (way : List ℕ) (header : Header) (start : Heads) (old : List ℕ) (value : QuotaValue)
    → AreOf header (header_of old) → start.blocks ≡ header.blocks → start.free ≡ header.free
    → start.first ≡ header.first
    → way ≡ blocks_on_way old header.blocks id → HasNoWay header.format way id old start → ¬ TreeStandsFor old value
no_value id way header start old value are blocks free first is none stands =
    none value.records (is ∙ ap (λ (n : ℕ). blocks_on_way old n id) (sym blocks))
    (tree_by_header old header start value are (heads_are header (header_of old) start are blocks free first) stands)
