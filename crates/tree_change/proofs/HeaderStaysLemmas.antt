-- Block 0, which has the header, has no other role, and stays where blocks with another role change.
use Rattle.std.proofs.Common.{◌≡◌, ℕ, List, [], ◌++◌, ◌⊎◌, Option, None, inl, inr, arith}
use Rattle.std.proofs.lemmas.Bool.{cases_lt}
use Rattle.quota_types.specs.Times.{StandsIn, times}
use Rattle.quota_types.proofs.TimesLemmas.{times-append, times-cons-same}
use Rattle.quota_radix.specs.Tree.{tree_blocks}
use Rattle.quota_radix.specs.declared.tree_path.TreePath.{TreePath}
use Rattle.tree_meaning.specs.Loose.{Loose, loose_of}
use Rattle.tree_meaning.specs.Roles.{OneRole, data_with}
use Rattle.tree_meaning.proofs.MovedLemmas.{times-roles}
use Rattle.block_changes.proofs.OneBlockLemmas.{one_role}

-- Block 0 is not held, and is none of the tree, and no data block.
pub header_apart : (loose : Loose) (file : List ℕ) (blocks head : ℕ) → OneRole loose file blocks head
    → (times loose.held 0 ≡ 0) × (times (tree_blocks file blocks) 0 ≡ 0) × (times (data_with loose file blocks) 0 ≡ 0)
header_apart loose file blocks head are =
    let one = one_role loose file blocks head are 0 in
    let all = times-roles loose file blocks are.free 0 in
    let own = times-cons-same 0 [] in
    (omega (arith, one, all, own), omega (arith, one, all, own), omega (arith, one, all, own))

-- So it is none of some tree blocks.
pub none_is_header : (loose : Loose) (file : List ℕ) (blocks head : ℕ) → OneRole loose file blocks head
    → (numbers : List ℕ) → ((block : ℕ) → StandsIn numbers block → StandsIn (tree_blocks file blocks) block)
    → times numbers 0 ≡ 0
none_is_header loose file blocks head are numbers in_tree = elim (cases_lt 0 (times numbers 0)) [
  | inl is ↦ absurd (omega (arith, in_tree 0 (omega (arith, is)), (header_apart loose file blocks head are).1))
  | inr none ↦ omega (arith, none)
]

-- And none of some blocks that are of the tree or held.
pub none_is_header_or_fresh : (fresh held : List ℕ) (awaited : Option TreePath) (file : List ℕ) (blocks head : ℕ)
    → OneRole (loose_of (fresh ++ held) awaited None) file blocks head
    → (numbers : List ℕ)
    → ((block : ℕ) → StandsIn numbers block → StandsIn (tree_blocks file blocks) block ⊎ StandsIn fresh block)
    → times numbers 0 ≡ 0
none_is_header_or_fresh fresh held awaited file blocks head are numbers which = elim (cases_lt 0 (times numbers 0)) [
  | inl is ↦
      let apart = header_apart (loose_of (fresh ++ held) awaited None) file blocks head are in
      elim (which 0 (omega (arith, is))) [
        | inl in_tree ↦ absurd (omega (arith, in_tree, apart.1))
        | inr is_fresh ↦ absurd (omega (arith, is_fresh, apart.0, times-append fresh held 0))
      ]
  | inr none ↦ omega (arith, none)
]

-- And none of some that are held or data.
pub aside_from_header : (loose : Loose) (file : List ℕ) (blocks head : ℕ) → OneRole loose file blocks head
    → (numbers : List ℕ)
    → ((block : ℕ) → StandsIn numbers block → StandsIn (loose.held ++ data_with loose file blocks) block)
    → times numbers 0 ≡ 0
aside_from_header loose file blocks head are numbers aside = elim (cases_lt 0 (times numbers 0)) [
  | inl is ↦
      let apart = header_apart loose file blocks head are in
      absurd (omega (
        arith,
        aside 0 (omega (arith, is)),
        apart.0,
        apart.2,
        times-append loose.held (data_with loose file blocks) 0,
      ))
  | inr none ↦ omega (arith, none)
]
