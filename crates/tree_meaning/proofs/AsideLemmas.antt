-- What changes beside the tree and leaves it: the bytes of the header's block, and the order in which held blocks are
-- listed.
use Rattle.std.proofs.Common.{◌≡◌, ℕ, ◌≤◌, Bool, if◌then◌else◌, nat_lt, List, [], ◌∷◌, Option, None, refl, ap, arith}
use Rattle.std.proofs.Common.{lt-ltb}
use Rattle.quota_types.specs.declared.file_kind.Format.{Format}
use Rattle.quota_types.specs.Times.{StandsIn, times}
use Rattle.quota_types.proofs.TimesLemmas.{times-cons-same}
use Rattle.quota_value.specs.QuotaValue.{Records}
use Rattle.file_blocks.proofs.LeadsLemmas.{leads_within}
use Rattle.quota_pages.specs.KeptBlocks.{KeepsBlocksBut}
use Rattle.free_chains.specs.declared.heads.Heads.{Heads}
use Rattle.free_chains.proofs.SpliceLemmas.{chain-stays, none_of_one}
use Rattle.quota_radix.specs.declared.tree_path.TreePath.{TreePath}
use Rattle.tree_meaning.specs.IsTree.{IsTree}
use Rattle.tree_meaning.specs.Loose.{Loose, loose_of}
use Rattle.tree_meaning.proofs.MovedLemmas.{moved, times-roles}

-- held blocks in another order
pub reordered : (these those : List ℕ) (awaited : Option TreePath) (misplaced : Option ℕ) (format : Format)
    (file : List ℕ) (len : ℕ) (heads : Heads) (records : Records)
    → ((number : ℕ) → times those number ≡ times these number)
    → IsTree (loose_of these awaited misplaced) format file len heads records
    → IsTree (loose_of those awaited misplaced) format file len heads records
reordered these those awaited misplaced format file len heads records same tree = record {
  two = tree.two;
  long = tree.long;
  awaited = tree.awaited;
  roles = record {
    references = tree.roles.references;
    free = tree.roles.free;
    is_free = tree.roles.is_free;
    once = λ number. omega (
      arith,
      tree.roles.once number,
      same number,
      times-roles (loose_of these awaited misplaced) file heads.blocks tree.roles.free number,
      times-roles (loose_of those awaited misplaced) file heads.blocks tree.roles.free number,
    );
  };
  chained = record {
    chain = tree.chained.chain;
    is_chain = tree.chained.is_chain;
    has_those = tree.chained.has_those;
    previous = tree.chained.previous;
  };
  filled = record {
    not_empty = tree.filled.not_empty;
    one_entry = tree.filled.one_entry;
    stated = tree.filled.stated;
    counted = tree.filled.counted;
  };
  each_record = tree.each_record;
}

-- another header
pub header_changed : (held : List ℕ) (awaited : Option TreePath) (format : Format) (old new : List ℕ) (len now_len : ℕ)
    (heads : Heads) (records : Records)
    → IsTree (loose_of held awaited None) format old len heads records → KeepsBlocksBut (0 ∷ []) old new → len ≤ now_len
    → IsTree (loose_of held awaited None) format new now_len heads records
header_changed held awaited format old new len now_len heads records tree keeps longer =
    let loose : Loose = loose_of held awaited None in
    let free : List ℕ = tree.roles.free in
    let below : ◌≡◌ {A = ℕ} (if nat_lt 0 heads.blocks then 1 else 0) 1 =
    ap {B = ℕ} (λ (b : Bool). if b then 1 else 0) (lt-ltb 0 heads.blocks (omega (arith, tree.two))) in
    let apart : (number : ℕ) → StandsIn free number → times (0 ∷ []) number ≡ 0 = λ number stands.
    none_of_one 0 number
    (λ same. absurd (let within = leads_within heads.blocks number (tree.roles.is_free.inside number stands) in
    omega (arith, within.0, same))) in
    moved held held awaited format old new len now_len heads heads records 0
    (record {
      keeps = keeps;
      grows = omega arith;
      first = refl;
      no_tree =
          omega (arith, tree.roles.once 0, below, times-roles loose old heads.blocks free 0, times-cons-same 0 []);
      no_data =
          omega (arith, tree.roles.once 0, below, times-roles loose old heads.blocks free 0, times-cons-same 0 []);
      free = free;
      is_free = chain-stays (0 ∷ []) old new heads.blocks heads.free free 0 keeps apart tree.roles.is_free;
      once = tree.roles.once;
    })
    (λ more. omega (arith, tree.long more, longer))
    tree
