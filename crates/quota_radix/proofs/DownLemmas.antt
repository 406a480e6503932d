-- The way down the tree, level by level: what is known of those that were read.
use Rattle.std.proofs.Common.{◌≡◌, ◌≢◌, ℕ, zero, suc, ◌+◌, ◌*◌, ◌<◌, ◌≤◌, IsTrue, Result, Ok, Err, List, []}
use Rattle.std.proofs.Common.{◌∷◌, ◌++◌, refl, sym, ap, subst, ◌∙◌, ◌⊎◌, inl, inr, arith}
use Rattle.std.specs.Prelude.{All, Bool, IfErr, OnOk, IfOk}
use Rattle.std.specs.List.{flat_map}
use Rattle.std.proofs.lemmas.List.{append_assoc, append-nil}
use Rattle.std.proofs.lemmas.List.Elements.{All-cons, All-head, All-nil, All-tail}
use Rattle.std.proofs.lemmas.Bool.{cases_lt, lt-ltb}
use Rattle.quota_types.specs.declared.damage.Damage.{Damage}
use Rattle.quota_types.specs.declared.damage.DamageKind.{DamageKind}
use Rattle.quota_types.specs.declared.damage.DamageKind.TheVariants.{RefOut, EmptyTree}
use Rattle.file_blocks.specs.declared.check_fault.CheckFault.{CheckFault}
use Rattle.file_blocks.specs.declared.check_fault.CheckFault.TheVariants.{Store, Damage as Damaged, Memory}
use Rattle.quota_radix.specs.declared.tree_path.TreePath.{TreePath}
use Rattle.file_blocks.specs.BlockSet.{AreFlagsOf}
use Rattle.file_blocks.specs.CheckFault.{IsCheckFault, IsStepFault}
use Rattle.file_blocks.specs.Block.{leads}
use Rattle.byte_order.specs.declared.order.Order.{Order}
use Rattle.byte_order.specs.Words.{words_of}
use Rattle.outside.specs.World.{World}
use Rattle.quota_types.specs.Times.{StandsIn, StandsTwiceIn, times}
use Rattle.quota_radix.specs.Levels.{AreTreeBlocksWhole, AreWithin, IsBlockDefect, IsLevelDefect, IsSecondRole}
use Rattle.quota_radix.specs.Levels.{IsTreeFault, IsTreeFaultOf, IsWhole}
use Rattle.quota_radix.specs.Tree.{blocks_of, level, lower_blocks, paths, steps, tree_blocks}
use Rattle.quota_types.proofs.TimesLemmas.{times-append, times_cases, only_one}

-- a fact that holds whatever a call answers
pub on_ok : {T E : Type 0} (P : Type 0) (r : Result T E) → P → OnOk r P
on_ok P (Ok x) p = p
on_ok P (Err e) p = tt

-- a refusal to mark a level is one to go down from it
pub mark_refused : (before now blocks bound : ℕ) (tells : Bool) (file : List ℕ) (flags : List Bool)
    (level : List TreePath) → AreWithin blocks bound level
    → (fault : CheckFault)
    → IsStepFault
    (λ damage. (so_many high : ℕ) → (numbers : List ℕ) → AreFlagsOf so_many flags numbers → AreWithin so_many high level
    → IsSecondRole (numbers ++ blocks_of level) damage) fault
    → IsCheckFault before now (λ damage. IsTrue tells → (numbers : List ℕ) → AreFlagsOf blocks flags numbers
    → (IsSecondRole (numbers ++ blocks_of level) damage ⊎ IsLevelDefect file blocks (blocks_of level) damage)) fault
mark_refused before now blocks bound tells file flags level within Store refused = absurd refused
mark_refused before now blocks bound tells file flags level within (Damaged damage) refused =
    (refused.0, λ told numbers are. inl (refused.1 blocks bound numbers are within))
mark_refused before now blocks bound tells file flags level within Memory refused = tt

-- the blocks of the levels above one, level by level
abbrev pub blocks_above : List ℕ → ℕ → ℕ → List ℕ
blocks_above file blocks zero = []
blocks_above file blocks (suc digits) = blocks_above file blocks digits ++ level file blocks digits

-- these paths are those of this many digits, and the levels above are marked and whole
pub record IsDown (file : List ℕ) (blocks digits : ℕ) (flags now : List Bool) (found : List TreePath) : Type 0 where
  pub is : found ≡ paths file blocks digits
  pub marked : (numbers : List ℕ) → AreFlagsOf blocks flags numbers
      → AreFlagsOf blocks now (numbers ++ blocks_above file blocks digits)
  pub whole : (block : ℕ) → StandsIn (blocks_above file blocks digits) block → IsWhole file blocks block

-- what holds of each block of a level
whole_of_all : (file : List ℕ) (blocks : ℕ) (level : List TreePath)
    → All (λ (path : TreePath). IsWhole file blocks path.block) level
    → (block : ℕ) → StandsIn (blocks_of level) block → IsWhole file blocks block
whole_of_all file blocks [] all block stands = absurd (omega arith)
whole_of_all file blocks (path ∷ level) all block stands = elim (times_cases path.block (blocks_of level) block) [
  | inl same ↦ subst (λ (n : ℕ). IsWhole file blocks n) same.0
      (All-head (λ (p : TreePath). IsWhole file blocks p.block) path level all)
  | inr other ↦ whole_of_all file blocks level (All-tail (λ (p : TreePath). IsWhole file blocks p.block) path level all)
      block (omega (arith, stands, other.1))
]

-- at the root
pub down_none : (file : List ℕ) (blocks : ℕ) (flags : List Bool)
    → IsDown file blocks 0 flags flags (record { number = 0; block = 1 } ∷ [])
down_none file blocks flags = record {
  is = refl;
  marked = λ numbers are. subst (λ (all : List ℕ). AreFlagsOf blocks flags all) (sym (append-nil numbers)) are;
  whole = λ block stands. absurd (omega arith);
}

-- one level down
pub down_more : (file : List ℕ) (blocks digits : ℕ) (flags now next : List Bool) (level found : List TreePath)
    → IsDown file blocks digits flags now level
    → found ≡ flat_map (steps file blocks) level
    → ((numbers : List ℕ) → AreFlagsOf blocks now numbers → AreFlagsOf blocks next (numbers ++ blocks_of level))
    → All (λ (path : TreePath). IsWhole file blocks path.block) level
    → IsDown file blocks (suc digits) flags next found
down_more file blocks digits flags now next level found down is marks all = record {
  is = is ∙ ap (λ (ps : List TreePath). flat_map (steps file blocks) ps) down.is;
  marked = λ numbers are.
      subst (λ (all_of : List ℕ). AreFlagsOf blocks next all_of)
      (append_assoc numbers (blocks_above file blocks digits) (blocks_of level)
      ∙ ap (λ (ps : List TreePath). numbers ++ (blocks_above file blocks digits ++ blocks_of ps)) down.is)
      (marks (numbers ++ blocks_above file blocks digits) (down.marked numbers are));
  whole = λ block stands. elim (cases_lt 0 (times (blocks_above file blocks digits) block)) [
    | inl above ↦ down.whole block above
    | inr none ↦ whole_of_all file blocks level all block
        (subst (λ (ps : List TreePath). StandsIn (blocks_of ps) block) (sym down.is)
        (omega (
          arith,
          stands,
          none,
          times-append (blocks_above file blocks digits) (blocks_of (paths file blocks digits)) block,
        )))
  ];
}

-- the blocks above the leaves' level are the tree's
above_is_tree : (file : List ℕ) (blocks : ℕ) → blocks_above file blocks 4 ≡ tree_blocks file blocks
above_is_tree file blocks =
    let root : List ℕ = level file blocks 0 in
    ap (λ (all : List ℕ). all ++ level file blocks 3) (append_assoc root (level file blocks 1) (level file blocks 2))
    ∙ append_assoc root (level file blocks 1 ++ level file blocks 2) (level file blocks 3)

-- how often a block stands in the levels of the tree
pub times_in_tree : (file : List ℕ) (blocks block : ℕ)
    → times (tree_blocks file blocks) block
    ≡ times (level file blocks 0) block
    + (times (level file blocks 1) block + times (level file blocks 2) block + times (level file blocks 3) block)
times_in_tree file blocks block =
    omega (
      arith,
      times-append (level file blocks 0) (lower_blocks file blocks) block,
      times-append (level file blocks 1 ++ level file blocks 2) (level file blocks 3) block,
      times-append (level file blocks 1) (level file blocks 2) block,
    )

-- the levels down to one of the tree are part of it
pub times_above : (file : List ℕ) (blocks digits block : ℕ) → digits < 4
    → times (blocks_above file blocks digits) block + times (level file blocks digits) block
    ≤ times (tree_blocks file blocks) block
times_above file blocks zero block few = omega (arith, times_in_tree file blocks block)
times_above file blocks (suc zero) block few =
    omega (arith, times_in_tree file blocks block, times-append [] (level file blocks 0) block)
times_above file blocks (suc (suc zero)) block few =
    omega (arith, times_in_tree file blocks block, times-append (level file blocks 0) (level file blocks 1) block)
times_above file blocks (suc (suc (suc zero))) block few =
    omega (
      arith,
      times_in_tree file blocks block,
      times-append (level file blocks 0 ++ level file blocks 1) (level file blocks 2) block,
      times-append (level file blocks 0) (level file blocks 1) block,
    )
times_above file blocks (suc (suc (suc (suc digits)))) block few = absurd (omega arith)

-- a block of a level that is not the root is one below it
lower_of : (file : List ℕ) (blocks digits block : ℕ) → digits < 4 → block ≢ 1
    → StandsIn (level file blocks digits) block
    → StandsIn (lower_blocks file blocks) block
lower_of file blocks digits block few below stands = go digits few stands
  where
    total : times (lower_blocks file blocks) block
        ≡ times (level file blocks 1) block + times (level file blocks 2) block + times (level file blocks 3) block
    total =
        omega (
          arith,
          times-append (level file blocks 1 ++ level file blocks 2) (level file blocks 3) block,
          times-append (level file blocks 1) (level file blocks 2) block,
        )

    go : (k : ℕ) → k < 4 → StandsIn (level file blocks k) block → StandsIn (lower_blocks file blocks) block
    go zero low here = absurd (below (sym (only_one 1 block here)))
    go (suc zero) low here = omega (arith, total, here)
    go (suc (suc zero)) low here = omega (arith, total, here)
    go (suc (suc (suc zero))) low here = omega (arith, total, here)
    go (suc (suc (suc (suc k)))) low here = absurd (omega arith)

-- a damage of a block of one level is one of the tree
fault_of : (file : List ℕ) (blocks digits : ℕ) (numbers : List ℕ) → digits < 4 → (kind : DamageKind) (block : ℕ)
    → StandsIn (level file blocks digits) block
    → IsBlockDefect file blocks block kind → IsTreeFaultOf file blocks numbers kind block
fault_of file blocks digits numbers few RefOut block stands defect = record {
  tree = omega (arith, stands, times_above file blocks digits block few);
  digit = defect.0;
  is_digit = defect.1;
  out = defect.2;
}
fault_of file blocks digits numbers few EmptyTree block stands defect = record {
  lower = lower_of file blocks digits block few defect.0 stands;
  empty = defect.1;
}
fault_of file blocks digits numbers few _ block stands defect = absurd defect

-- a damage that is found on the way down is one of the tree
down_fault : (file : List ℕ) (blocks digits : ℕ) (flags now : List Bool) (level : List TreePath) → digits < 4
    → IsDown file blocks digits flags now level
    → (numbers : List ℕ) (damage : Damage)
    → IsSecondRole ((numbers ++ blocks_above file blocks digits) ++ blocks_of level) damage
    ⊎ IsLevelDefect file blocks (blocks_of level) damage
    → IsTreeFault file blocks numbers damage
down_fault file blocks digits flags now found few down numbers damage (inl second) =
    let block : ℕ = damage.block in
    let twice : StandsTwiceIn (numbers ++ tree_blocks file blocks) block =
    omega (
      arith,
      second.twice,
      times_above file blocks digits block few,
      times-append numbers (tree_blocks file blocks) block,
      times-append (numbers ++ blocks_above file blocks digits) (blocks_of found) block,
      times-append numbers (blocks_above file blocks digits) block,
      ap (λ (ps : List TreePath). times (blocks_of ps) block) down.is,
    ) in
    (subst (λ (kind : DamageKind). IsTreeFaultOf file blocks numbers kind block) (sym second.kind) twice, second.no_id)
down_fault file blocks digits flags now found few down numbers damage (inr defect) = (
  fault_of file blocks digits numbers few damage.kind damage.block
      (subst (λ (ps : List TreePath). StandsIn (blocks_of ps) damage.block) down.is defect.stands) defect.defect,
  defect.no_id,
)

-- a refusal on the way down is one of the whole way
pub down_refused : (before between now blocks digits : ℕ) (tells : Bool) (file file_there : List ℕ)
    (flags flags_there : List Bool) (level : List TreePath)
    → before ≤ between → file_there ≡ file → digits < 4
    → (IsTrue tells → IsDown file blocks digits flags flags_there level)
    → (fault : CheckFault)
    → IsCheckFault between now (λ damage. IsTrue tells → (numbers : List ℕ) → AreFlagsOf blocks flags_there numbers
    → (IsSecondRole (numbers ++ blocks_of level) damage ⊎ IsLevelDefect file_there blocks (blocks_of level) damage))
    fault
    → IsCheckFault before now
    (λ damage.
    IsTrue tells → (numbers : List ℕ) → AreFlagsOf blocks flags numbers → IsTreeFault file blocks numbers damage) fault
down_refused before between now blocks digits tells file file_there flags flags_there found later same_file few down
    Store refused = omega (arith, later, refused)
down_refused before between now blocks digits tells file file_there flags flags_there found later same_file few down
    (Damaged damage) refused = (
      refused.0,
      λ told numbers are.
          down_fault file blocks digits flags flags_there found few (down told) numbers damage
          (subst (λ (f : List ℕ). IsSecondRole ((numbers ++ blocks_above file blocks digits) ++ blocks_of found) damage
          ⊎ IsLevelDefect f blocks (blocks_of found) damage) same_file
          (refused.1 told (numbers ++ blocks_above file blocks digits) ((down told).marked numbers are))),
    )
down_refused before between now blocks digits tells file file_there flags flags_there found later same_file few down
    Memory refused = tt

-- why a call that went down a level was refused
pub down_refused_at : {T : Type 0} (before between now blocks digits : ℕ) (tells : Bool) (file file_there : List ℕ)
    (flags flags_there : List Bool) (level : List TreePath)
    → before ≤ between → file_there ≡ file → digits < 4
    → (IsTrue tells → IsDown file blocks digits flags flags_there level)
    → (result : Result T CheckFault)
    → IfErr result
    (IsCheckFault between now (λ damage. IsTrue tells → (numbers : List ℕ) → AreFlagsOf blocks flags_there numbers
    → (IsSecondRole (numbers ++ blocks_of level) damage ⊎ IsLevelDefect file_there blocks (blocks_of level) damage)))
    → IfErr result (IsCheckFault before now
    (λ damage.
    IsTrue tells → (numbers : List ℕ) → AreFlagsOf blocks flags numbers → IsTreeFault file blocks numbers damage))
down_refused_at before between now blocks digits tells file file_there flags flags_there found later same_file few down
    (Ok value) refused = tt
down_refused_at before between now blocks digits tells file file_there flags flags_there found later same_file few down
    (Err fault) refused =
    down_refused before between now blocks digits tells file file_there flags flags_there found later same_file few
    down fault refused

-- the whole way down
pub down_whole : (file : List ℕ) (blocks : ℕ) (flags now : List Bool) (found : List TreePath)
    → IsDown file blocks 4 flags now found
    → AreTreeBlocksWhole file blocks
down_whole file blocks flags now found down =
    let whole : (block : ℕ) → StandsIn (tree_blocks file blocks) block → IsWhole file blocks block =
    subst (λ (all : List ℕ). (block : ℕ) → StandsIn all block → IsWhole file blocks block)
    (above_is_tree file blocks) down.whole in
    record {
      references = λ block stands. (whole block stands).references;
      not_empty = λ block stands below. (whole block
          (omega (arith, stands, times-append (level file blocks 0) (lower_blocks file blocks) block))).not_empty below;
    }

pub down_marked : (file : List ℕ) (blocks : ℕ) (flags now : List Bool) (found : List TreePath)
    → IsDown file blocks 4 flags now found
    → (numbers : List ℕ) → AreFlagsOf blocks flags numbers → AreFlagsOf blocks now (numbers ++ tree_blocks file blocks)
down_marked file blocks flags now found down numbers are =
    subst (λ (all : List ℕ). AreFlagsOf blocks now (numbers ++ all)) (above_is_tree file blocks)
    (down.marked numbers are)

-- a higher bound
pub within_higher : (blocks low high : ℕ) (before now : List TreePath) → low ≤ high → now ≡ before
    → AreWithin blocks low before → AreWithin blocks high now
within_higher blocks low high before now le same within =
    subst (λ (ps : List TreePath). AreWithin blocks high ps) (sym same)
    (λ k d here. let at = within k d here in (omega (arith, at.0), at.1))

-- the same bound, of a list that is the same
pub within_same : (blocks bound : ℕ) (before now : List TreePath) → now ≡ before → AreWithin blocks bound before
    → AreWithin blocks bound now
within_same blocks bound before now same within =
    subst (λ (ps : List TreePath). AreWithin blocks bound ps) (sym same) within

-- the root's path
pub within_root : (blocks : ℕ) → 2 ≤ blocks → AreWithin blocks 1 (record { number = 0; block = 1 } ∷ [])
within_root blocks two =
    All-cons (λ (path : TreePath). (path.number < 1) × IsTrue (leads blocks path.block))
    (record { number = 0; block = 1 }) []
    (omega arith, lt-ltb 1 blocks (omega arith))
    (All-nil (λ (path : TreePath). (path.number < 1) × IsTrue (leads blocks path.block)))

-- one level down, by what a call tells of a store whose files stay
pub down_on : (file file_there : List ℕ) (blocks digits : ℕ) (tells : Bool) (flags now next : List Bool)
    (level items found : List TreePath)
    → file_there ≡ file → (IsTrue tells → IsDown file blocks digits flags now level)
    → (IsTrue tells → items ≡ flat_map (steps file_there blocks) level) → found ≡ items
    → ((numbers : List ℕ) → AreFlagsOf blocks now numbers → AreFlagsOf blocks next (numbers ++ blocks_of level))
    → (IsTrue tells → All (λ (path : TreePath). IsWhole file_there blocks path.block) level)
    → IsTrue tells → IsDown file blocks (suc digits) flags next found
down_on file file_there blocks digits tells flags now next found items below same_file down is same marks all told =
    down_more file blocks digits flags now next found below (down told)
    (same ∙ is told ∙ ap (λ (f : List ℕ). flat_map (steps f blocks) found) same_file)
    marks
    (subst (λ (f : List ℕ). All (λ (path : TreePath). IsWhole f blocks path.block) found) same_file (all told))

-- the file of one name, of files that stay
pub file_same : (order : Order) (name : List ℕ) (files now : World) → now ≡ files
    → words_of order now name ≡ words_of order files name
file_same order name files now same = ap (λ (fs : World). words_of order fs name) same

-- the last level down, of what a call answers
pub down_end : {T : Type 0} (items : T → List TreePath) (file file_there : List ℕ) (blocks digits : ℕ) (tells : Bool)
    (flags now next : List Bool) (level : List TreePath)
    → file_there ≡ file → (IsTrue tells → IsDown file blocks digits flags now level)
    → (result : Result T CheckFault)
    → IfOk result (λ found. IsTrue tells → items found ≡ flat_map (steps file_there blocks) level)
    → OnOk result
    ((numbers : List ℕ) → AreFlagsOf blocks now numbers → AreFlagsOf blocks next (numbers ++ blocks_of level))
    → OnOk result (IsTrue tells → All (λ (path : TreePath). IsWhole file_there blocks path.block) level)
    → IfOk result (λ found. IsTrue tells → IsDown file blocks (suc digits) flags next (items found))
down_end items file file_there blocks digits tells flags now next below same_file down (Ok found) is marks all =
    down_on file file_there blocks digits tells flags now next below (items found) (items found) same_file down
    is refl marks all
down_end items file file_there blocks digits tells flags now next below same_file down (Err fault) is marks all = tt

pub down_end_marked : {T : Type 0} (items : T → List TreePath) (file : List ℕ) (blocks : ℕ) (tells : Bool)
    (flags now : List Bool) (result : Result T CheckFault)
    → IfOk result (λ found. IsTrue tells → IsDown file blocks 4 flags now (items found))
    → OnOk result (IsTrue tells → (numbers : List ℕ) → AreFlagsOf blocks flags numbers
    → AreFlagsOf blocks now (numbers ++ tree_blocks file blocks))
down_end_marked items file blocks tells flags now (Ok found) down =
    λ told. down_marked file blocks flags now (items found) (down told)
down_end_marked items file blocks tells flags now (Err fault) down = tt

pub down_end_whole : {T : Type 0} (items : T → List TreePath) (file : List ℕ) (blocks : ℕ) (tells : Bool)
    (flags now : List Bool) (result : Result T CheckFault)
    → IfOk result (λ found. IsTrue tells → IsDown file blocks 4 flags now (items found))
    → OnOk result (IsTrue tells → AreTreeBlocksWhole file blocks)
down_end_whole items file blocks tells flags now (Ok found) down =
    λ told. down_whole file blocks flags now (items found) (down told)
down_end_whole items file blocks tells flags now (Err fault) down = tt

-- the paths that a call answers, with one more digit than those of the level
pub within_end : {T : Type 0} (items : T → List TreePath) (blocks low high : ℕ) (level : List TreePath)
    → AreWithin blocks low level → 256 * low ≤ high
    → (result : Result T CheckFault)
    → IfOk result (λ found. (bound : ℕ) → AreWithin blocks bound level → AreWithin blocks (256 * bound) (items found))
    → IfOk result (λ found. AreWithin blocks high (items found))
within_end items blocks low high level within le (Ok found) next =
    within_higher blocks (256 * low) high (items found) (items found) le refl (next low within)
within_end items blocks low high level within le (Err fault) next = tt
