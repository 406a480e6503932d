-- The roles of a file's blocks, as a check finds them one after another.
use Rattle.std.proofs.Common.{◌≡◌, ◌≢◌, ℕ, ◌<◌, ◌≤◌, Bool, true, false, if◌then◌else◌, IsTrue, MatchBool, List, [], ◌∷◌}
use Rattle.std.proofs.Common.{◌++◌, length, refl, sym, ap, subst, ◌∙◌, inl, inr, arith, append_assoc, Option}
use Rattle.std.proofs.lemmas.Bool.{cases_lt, le-ltb, lt-ltb}
use Rattle.entry_codec.specs.Header.{HeaderNumbers}
use Rattle.quota_types.specs.declared.damage.Damage.{Damage}
use Rattle.quota_types.specs.declared.damage.DamageKind.{DamageKind}
use Rattle.quota_types.specs.declared.damage.DamageKind.TheVariants.{BadCount, BadPrev, ChainLoop, ChainOut}
use Rattle.quota_types.specs.declared.damage.DamageKind.TheVariants.{DoubleEntry, EmptyTree, ForeignInChain}
use Rattle.quota_types.specs.declared.damage.DamageKind.TheVariants.{MissingEntry, MissingInChain, NoRole}
use Rattle.quota_types.specs.declared.damage.DamageKind.TheVariants.{PartialRecord, RefOut, Short, StrayEntry, TwoRoles}
use Rattle.quota_types.specs.declared.file_kind.Format.{Format}
use Rattle.file_blocks.specs.declared.check_fault.CheckFault.{CheckFault}
use Rattle.file_blocks.specs.declared.check_fault.CheckFault.TheVariants.{Store, Damage as Damaged, Memory}
use Rattle.free_chains.specs.declared.chain_link.ChainLink.{ChainLink}
use Rattle.quota_radix.specs.declared.tree_path.TreePath.{TreePath}
use Rattle.file_blocks.specs.BlockSet.{AreFlagsOf}
use Rattle.free_chains.specs.Chain.{IsChain}
use Rattle.file_blocks.specs.CheckFault.{IsCheckFault}
use Rattle.quota_types.specs.Times.{StandsIn, times}
use Rattle.byte_order.specs.declared.order.Order.{Order}
use Rattle.byte_order.specs.Words.{in_order, words_of}
use Rattle.outside.specs.World.{World}
use Rattle.tree_meaning.specs.Entries.{stated_in}
use Rattle.tree_meaning.specs.Defect.{IsDefectOf}
use Rattle.quota_types.specs.Damage.{NamesItsId}
use Rattle.tree_check.specs.Found.{HasNoEmptyBlock, IsRoleDefect, AreRoles}
use Rattle.tree_check.specs.Groups.{AreGroupsOf, groups_of, named_blocks}
use Rattle.tree_check.proofs.ByBlockLemmas.{same_groups}
use Rattle.tree_check.proofs.FoundLemmas.{same_words}
use Rattle.tree_check.specs.declared.roles.Roles.{Roles}
use Rattle.quota_radix.specs.Levels.{AreTreeBlocksWhole, IsSecondRole, IsTreeFault, IsTreeFaultOf}
use Rattle.tree_meaning.specs.Loose.{nothing_loose}
use Rattle.tree_meaning.specs.Roles.{OneRole, roles}
use Rattle.quota_radix.specs.Tree.{data_blocks, ids_at, leaves, lower_blocks, tree_blocks}
use Rattle.file_blocks.specs.Block.{leads, bytes_of}
use Rattle.free_chains.specs.Walk.{linked_blocks, AreLinksTo, IsWalk}
use Rattle.file_blocks.proofs.LeadsLemmas.{leads_within}
use Rattle.free_chains.proofs.ChainLemmas.{some_chain}
use Rattle.free_chains.specs.declared.chain.Walk.{Walk}
use Rattle.free_chains.proofs.WalkLemmas.{walked}
use Rattle.quota_types.proofs.TimesLemmas.{times-append, times-cons-same, times-cons-other}

-- the set that has the header's block
pub header_marked : (blocks : ℕ) (flags now : List Bool) (result : Bool) → 2 ≤ blocks → AreFlagsOf blocks flags []
    → ((all : ℕ) (numbers : List ℕ) → AreFlagsOf all flags numbers → 0 < all
    → MatchBool result (AreFlagsOf all now (numbers ++ 0 ∷ []) × (times numbers 0 ≡ 0)) (1 ≤ times numbers 0))
    → AreFlagsOf blocks now (0 ∷ [])
header_marked blocks flags now true two none added = (added blocks [] none (omega arith)).0
header_marked blocks flags now false two none added =
    absurd (let twice = added blocks [] none (omega arith) in omega (arith, twice))

second_role_of : (stated : ℕ → ℕ) (len : ℕ) (format : Format) (file : List ℕ) (numbers : HeaderNumbers)
    (free : List ℕ) (end : ℕ) (front rest : List ℕ) (damage : Damage)
    → IsChain file numbers.blocks numbers.free free end → front ++ rest ≡ roles nothing_loose file numbers.blocks free
    → IsSecondRole front damage
    → IsDefectOf stated len format file numbers damage.kind damage.block damage.id × NamesItsId damage.kind damage.id
second_role_of stated len format file numbers free end front rest damage is_free all is =
    subst (λ (kind : DamageKind).
    IsDefectOf stated len format file numbers kind damage.block damage.id × NamesItsId kind damage.id) (sym is.kind) (
      record {
        free = free;
        end = end;
        is_free = is_free;
        twice = omega
            (arith, is.twice, times-append front rest damage.block, ap (λ (ns : List ℕ). times ns damage.block) all);
      },
      is.no_id,
    )

-- a second role among those that were found so far is one of the file
pub second_role : (order : Order) (read : List ℕ) (blocks free_head : ℕ) (free : List ℕ) (end : ℕ)
    (front rest : List ℕ) (damage : Damage)
    → IsChain (in_order order read) blocks free_head free end
    → front ++ rest ≡ roles nothing_loose (in_order order read) blocks free
    → IsSecondRole front damage → IsRoleDefect order read blocks free_head damage
second_role order read blocks free_head free end front rest damage is_free all is format numbers same same_free =
    let file : List ℕ = in_order order read in
    second_role_of (stated_in order read) (length read) format file numbers free end front rest damage
    (subst (λ (b : ℕ). IsChain file b numbers.free free end) (sym same)
    (subst (λ (h : ℕ). IsChain file blocks h free end) (sym same_free) is_free))
    (subst (λ (b : ℕ). front ++ rest ≡ roles nothing_loose file b free) (sym same) all) is

-- the damages of the tree
tree_fault_of : (stated : ℕ → ℕ) (len : ℕ) (format : Format) (file : List ℕ) (numbers : HeaderNumbers) (block id : ℕ)
    (kind : DamageKind) → id ≡ 0
    → IsTreeFaultOf file numbers.blocks (0 ∷ []) kind block
    → IsDefectOf stated len format file numbers kind block id × NamesItsId kind id
tree_fault_of stated len format file numbers block id RefOut no_id is = (is, no_id)
tree_fault_of stated len format file numbers block id EmptyTree no_id is = (is, no_id)
tree_fault_of stated len format file numbers block id TwoRoles no_id is =
    let found = some_chain file numbers.blocks numbers.free in
    let rest : List ℕ = data_blocks file numbers.blocks ++ found.0 in (
      record {
        free = found.0;
        end = found.1;
        is_free = found.2;
        twice = omega (
          arith,
          is,
          times-append (0 ∷ tree_blocks file numbers.blocks) rest block,
          ap (λ (ns : List ℕ). times ns block)
              (append_assoc (0 ∷ tree_blocks file numbers.blocks) (data_blocks file numbers.blocks) found.0),
        );
      },
      no_id,
    )
tree_fault_of stated len format file numbers block id Short no_id is = absurd is
tree_fault_of stated len format file numbers block id NoRole no_id is = absurd is
tree_fault_of stated len format file numbers block id ChainOut no_id is = absurd is
tree_fault_of stated len format file numbers block id ChainLoop no_id is = absurd is
tree_fault_of stated len format file numbers block id ForeignInChain no_id is = absurd is
tree_fault_of stated len format file numbers block id MissingInChain no_id is = absurd is
tree_fault_of stated len format file numbers block id BadPrev no_id is = absurd is
tree_fault_of stated len format file numbers block id BadCount no_id is = absurd is
tree_fault_of stated len format file numbers block id MissingEntry no_id is = absurd is
tree_fault_of stated len format file numbers block id StrayEntry no_id is = absurd is
tree_fault_of stated len format file numbers block id DoubleEntry no_id is = absurd is
tree_fault_of stated len format file numbers block id PartialRecord no_id is = absurd is

-- what the search for the leaves was refused for
pub tree_refused : (before now : ℕ) (tells : Bool) (order : Order) (read : List ℕ) (blocks free_head : ℕ)
    (flags : List Bool) (fault : CheckFault) → AreFlagsOf blocks flags (0 ∷ [])
    → IsCheckFault before now
    (λ damage. IsTrue tells → (numbers : List ℕ) → AreFlagsOf blocks flags numbers
    → IsTreeFault (in_order order read) blocks numbers damage) fault
    → IsCheckFault before now (λ damage. IsTrue tells → IsRoleDefect order read blocks free_head damage) fault
tree_refused before now tells order read blocks free_head flags Store are is = is
tree_refused before now tells order read blocks free_head flags (Damaged damage) are is = (
  is.0,
  λ told format numbers same same_free.
      let fault = is.1 told (0 ∷ []) are in
      tree_fault_of (stated_in order read) (length read) format (in_order order read) numbers damage.block damage.id
      damage.kind fault.1
      (subst (λ (b : ℕ). IsTreeFaultOf (in_order order read) b (0 ∷ []) damage.kind damage.block) (sym same) fault.0),
)
tree_refused before now tells order read blocks free_head flags Memory are is = tt

-- a block without a role
pub no_role : (order : Order) (read : List ℕ) (blocks free_head : ℕ) (free : List ℕ) (end block : ℕ)
    → IsChain (in_order order read) blocks free_head free end → block < blocks
    → times (roles nothing_loose (in_order order read) blocks free) block ≡ 0
    → IsRoleDefect order read blocks free_head (record { kind = NoRole; block = block; id = 0 })
no_role order read blocks free_head free end block is_free low none format numbers same same_free =
    let file : List ℕ = in_order order read in (
      record {
        free = free;
        end = end;
        is_free = subst (λ (b : ℕ). IsChain file b numbers.free free end) (sym same)
            (subst (λ (h : ℕ). IsChain file blocks h free end) (sym same_free) is_free);
        inside = subst (λ (b : ℕ). block < b) (sym same) low;
        none = subst (λ (b : ℕ). times (roles nothing_loose file b free) block ≡ 0) (sym same) none;
      },
      refl,
    )

-- each block has one role
one_role : (file : List ℕ) (blocks free_head : ℕ) (free : List ℕ) (flags : List Bool) → AreTreeBlocksWhole file blocks
    → IsChain file blocks free_head free 0
    → AreFlagsOf blocks flags (roles nothing_loose file blocks free)
    → ((n : ℕ) → n < blocks → StandsIn (roles nothing_loose file blocks free) n)
    → OneRole nothing_loose file blocks free_head
one_role file blocks free_head free flags whole is_free are each = record {
  references = whole.references;
  free = free;
  is_free = is_free;
  once = λ block. elim (cases_lt block blocks) [
    | inl low ↦ omega (
      arith,
      each block low,
      are.distinct block,
      ap {B = ℕ} (λ (b : Bool). if b then 1 else 0) (lt-ltb block blocks low),
    )
    | inr high ↦ elim (cases_lt 0 (times (roles nothing_loose file blocks free) block)) [
      | inl some ↦ absurd (omega (arith, are.inside block some, high))
      | inr none ↦ omega (arith, none, ap {B = ℕ} (λ (b : Bool). if b then 1 else 0) (le-ltb block blocks high))
    ]
  ];
}

one_role-free : (file : List ℕ) (blocks free_head : ℕ) (free : List ℕ) (flags : List Bool)
    (whole : AreTreeBlocksWhole file blocks) (is_free : IsChain file blocks free_head free 0)
    (are : AreFlagsOf blocks flags (roles nothing_loose file blocks free))
    (each : (n : ℕ) → n < blocks → StandsIn (roles nothing_loose file blocks free) n)
    → length (one_role file blocks free_head free flags whole is_free are each).free ≡ length free
unfolding one_role
one_role-free file blocks free_head free flags whole is_free are each = refl

-- the root is no block below it
none_empty : (file : List ℕ) (blocks : ℕ) (free : List ℕ) (flags : List Bool) → AreTreeBlocksWhole file blocks
    → AreFlagsOf blocks flags (roles nothing_loose file blocks free) → HasNoEmptyBlock file blocks
none_empty file blocks free flags whole are block lower =
    let not_root : block ≢ 1 = λ e.
    let again : StandsIn (lower_blocks file blocks) 1 =
    subst (λ (b : ℕ). StandsIn (lower_blocks file blocks) b) e lower in
    omega (
      arith,
      again,
      are.distinct 1,
      times-append ((0 ∷ tree_blocks file blocks) ++ data_blocks file blocks) free 1,
      times-append (0 ∷ tree_blocks file blocks) (data_blocks file blocks) 1,
      times-cons-other 0 (tree_blocks file blocks) 1 (λ z. omega (arith, z)),
      times-cons-same 1 (lower_blocks file blocks),
    ) in
    whole.not_empty block lower not_root

-- the roles that a check answers are those of the file
pub are_roles : (file : List ℕ) (blocks free_head : ℕ) (free : List ℕ) (flags : List Bool) (found : List TreePath)
    (checked : Roles) → found ≡ leaves file blocks
    → AreTreeBlocksWhole file blocks → IsChain file blocks free_head free 0
    → AreFlagsOf blocks flags (roles nothing_loose file blocks free)
    → ((n : ℕ) → n < blocks → StandsIn (roles nothing_loose file blocks free) n)
    → AreGroupsOf blocks found (groups_of blocks checked.leaves.items) → checked.used ≡ length found
    → checked.free ≡ length free → AreRoles file blocks free_head checked
are_roles file blocks free_head free flags found checked are_leaves whole is_free are each groups used count = record {
  one_role = one_role file blocks free_head free flags whole is_free are each;
  not_empty = none_empty file blocks free flags whole are;
  groups =
      subst (λ (ps : List TreePath). AreGroupsOf blocks ps (groups_of blocks checked.leaves.items)) are_leaves groups;
  used = used ∙ ap length are_leaves;
  free = count ∙ sym (one_role-free file blocks free_head free flags whole is_free are each);
}

-- the leaves that a search has found, the groups of their identifiers, and the set of the blocks of the header and the
-- tree
pub record AreFound (tells : Bool) (file : List ℕ) (blocks : ℕ) (flags : List Bool) (found : List TreePath)
    (ids : List (List ℕ)) : Type 0 where
  pub groups : AreGroupsOf blocks found ids
  pub are_leaves : IsTrue tells → found ≡ leaves file blocks
  pub marked : IsTrue tells → AreFlagsOf blocks flags (0 ∷ tree_blocks file blocks)

-- they are so by what the calls answered: the search, and the sort of its leaves
pub are_found : (tells : Bool) (file : List ℕ) (blocks : ℕ) (header flags : List Bool) (found sorted : List TreePath)
    → AreFlagsOf blocks header (0 ∷ []) → (IsTrue tells → found ≡ leaves file blocks)
    → (IsTrue tells → (numbers : List ℕ) → AreFlagsOf blocks header numbers
    → AreFlagsOf blocks flags (numbers ++ tree_blocks file blocks))
    → ((block : ℕ) → ids_at sorted block ≡ ids_at found block)
    → AreFound tells file blocks flags found (groups_of blocks sorted)
are_found tells file blocks header flags found sorted marked are_leaves more same = record {
  groups = same_groups blocks found sorted same;
  are_leaves = are_leaves;
  marked = λ told. more told (0 ∷ []) marked;
}

-- what the marking of the data blocks was refused for
pub data_marked_refused : (tells : Bool) (order : Order) (read : List ℕ) (blocks free_head : ℕ) (flags : List Bool)
    (found : List TreePath) (groups : List (List ℕ)) (damage : Damage)
    → AreFound tells (in_order order read) blocks flags found groups
    → ((led : List TreePath) → (numbers : List ℕ) → AreGroupsOf blocks led groups → AreFlagsOf blocks flags numbers
    → IsSecondRole (numbers ++ named_blocks blocks led) damage)
    → IsTrue tells → IsRoleDefect order read blocks free_head damage
data_marked_refused tells order read blocks free_head flags found groups damage are is told =
    let file : List ℕ = in_order order read in
    let chain = some_chain file blocks free_head in
    second_role order read blocks free_head chain.0 chain.1
    ((0 ∷ tree_blocks file blocks) ++ data_blocks file blocks) chain.0 damage chain.2 refl
    (is (leaves file blocks) (0 ∷ tree_blocks file blocks)
    (subst (λ (ps : List TreePath). AreGroupsOf blocks ps groups) (are.are_leaves told) are.groups) (are.marked told))

-- what follows of the blocks of a list once they are marked, or are not
pub links_marked : (R : ℕ → List ℕ → Type 0) (blocks : ℕ) (flags : List Bool) (numbers : List ℕ)
    (links given : List ChainLink) → given ≡ links
    → ((n : ℕ) → StandsIn (linked_blocks links) n → IsTrue (leads blocks n)) → AreFlagsOf blocks flags numbers
    → ((all : ℕ) (ns : List ℕ) → AreFlagsOf all flags ns → ((n : ℕ) → StandsIn (linked_blocks given) n → n < all)
    → R all (ns ++ linked_blocks given))
    → R blocks (numbers ++ linked_blocks links)
links_marked R blocks flags numbers links given same inside are marks =
    subst (λ (ls : List ChainLink). R blocks (numbers ++ linked_blocks ls)) same
    (marks blocks numbers are
    (λ n stands.
    (leads_within blocks n (inside n (subst (λ (ls : List ChainLink). StandsIn (linked_blocks ls) n) same stands))).1))

-- what follows of all roles once the data blocks and the blocks of the free list are marked, or are not
pub roles_marked : (R : ℕ → List ℕ → Type 0) (tells : Bool) (file : List ℕ) (blocks : ℕ) (flags now : List Bool)
    (found : List TreePath) (groups : List (List ℕ)) (links given : List ChainLink)
    → AreFound tells file blocks flags found groups → IsTrue tells
    → ((led : List TreePath) (numbers : List ℕ) → AreGroupsOf blocks led groups → AreFlagsOf blocks flags numbers
    → AreFlagsOf blocks now (numbers ++ named_blocks blocks led))
    → given ≡ links → ((n : ℕ) → StandsIn (linked_blocks links) n → IsTrue (leads blocks n))
    → ((all : ℕ) (ns : List ℕ) → AreFlagsOf all now ns → ((n : ℕ) → StandsIn (linked_blocks given) n → n < all)
    → R all (ns ++ linked_blocks given))
    → R blocks (roles nothing_loose file blocks (linked_blocks links))
roles_marked R tells file blocks flags now found groups links given are told more same inside marks =
    let led : AreFlagsOf blocks now ((0 ∷ tree_blocks file blocks) ++ data_blocks file blocks) =
    more (leaves file blocks) (0 ∷ tree_blocks file blocks)
    (subst (λ (ps : List TreePath). AreGroupsOf blocks ps groups) (are.are_leaves told) are.groups) (are.marked told) in
    links_marked R blocks now ((0 ∷ tree_blocks file blocks) ++ data_blocks file blocks) links given same
    inside led marks

-- the free list, by a walk along it in a file that stayed
pub walk_is_free : (order : Order) (files now : World) (name : List ℕ) (blocks free_head : ℕ) (walk : Walk)
    → now ≡ files → IsWalk blocks walk → AreLinksTo (words_of order now name) free_head walk.links.items 0
    → IsChain (words_of order files name) blocks free_head (linked_blocks walk.links.items) 0
walk_is_free order files now name blocks free_head walk stayed is links =
    walked (words_of order files name) blocks free_head walk.links.items
    (subst (λ (file : List ℕ). AreLinksTo file free_head walk.links.items 0) (same_words order files now name stayed)
    links)
    is.marked.distinct is.inside
