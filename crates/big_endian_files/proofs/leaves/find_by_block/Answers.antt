use Rattle.std.proofs.Common.{◌<◌, List, [], ◌∷◌, subst, arith, rules}
use Rattle.std.specs.Prelude.{IsPermutation, IsTrue}
use Rattle.std.proofs.lemmas.List.Sorted.{All-permutation, IsNonDecreasingBy-from_sort_by_key}
use Rattle.std.proofs.lemmas.Result.{err_from_is_err_and}
use Rattle.file_blocks.specs.Block.{file_of, leads}
use Rattle.quota_radix.specs.declared.tree_path.TreePath.{TreePath}
use Rattle.tree_check.proofs.RoleLemmas.{header_marked}
use Rattle.big_endian_files.proofs.LeavesLemmas.{leaves_refused}
use Rattle.big_endian_files.proofs.leaves.find_by_block.Goals as goal

pub returns-in_err-by_block-clause-refused : goal.returns-in_err-by_block-clause-refused
returns-in_err-by_block-clause-refused g c =
    let p = err_from_is_err_and c.from_residual-in_err-by_block.result c.from_residual-in_err-by_block.ensures.1 in
    rw p.1 (rw p.2 (leaves_refused _ _ g.S.Store.tells
    (file_of (g.S.Store.seen c.args.store.now).files c.args.name.now) c.args.blocks _ _
    (header_marked _ _ _ _ c.requires.two c.in_ok-met.ensures c.insert.ensures.added)
    c.in_err-by_block.ensures.refused))

pub returns-clause-found : goal.returns-clause-found
returns-clause-found g c = λ told.
    subst (λ (ls : List TreePath). IsPermutation ls c.sort_by_key.new.self.items) (c.in_ok-by_block.ensures.found told)
    c.sort_by_key.ensures.permutation

pub returns-clause-by_block : goal.returns-clause-by_block
returns-clause-by_block g c =
    IsNonDecreasingBy-from_sort_by_key (λ (leaf : TreePath). leaf.block) _ c.in_ok-sort_by_key.ensures.sorted
    (λ a r q k. search rules)

pub returns-clause-within : goal.returns-clause-within
returns-clause-within g c =
    All-permutation (λ (path : TreePath). (path.number < 4294967296) × IsTrue (leads c.args.blocks path.block))
    c.in_ok-by_block.by_block.items c.sort_by_key.new.self.items c.sort_by_key.ensures.permutation
    c.in_ok-by_block.ensures.within

pub returns-clause-marked : goal.returns-clause-marked
returns-clause-marked g c = λ told. c.in_ok-by_block.ensures.marked told (0 ∷ [])
    (header_marked _ _ _ _ c.requires.two c.in_ok-met.ensures c.insert.ensures.added)

pub returns-clause-reads : goal.returns-clause-reads
returns-clause-reads g c = c.in_ok-by_block.ensures.reads (0 ∷ [])
    (header_marked _ _ _ _ c.requires.two c.in_ok-met.ensures c.insert.ensures.added)

pub returns-in_err-by_block-clause-few_reads : goal.returns-in_err-by_block-clause-few_reads
returns-in_err-by_block-clause-few_reads g c =
    omega (
      arith,
      c.in_err-by_block.ensures.few_reads (0 ∷ [])
          (header_marked _ _ _ _ c.requires.two c.in_ok-met.ensures c.insert.ensures.added),
    )

pub returns-in_err-sort_by_key-clause-few_reads : goal.returns-in_err-sort_by_key-clause-few_reads
returns-in_err-sort_by_key-clause-few_reads g c =
    omega (
      arith,
      c.in_ok-by_block.ensures.few_reads (0 ∷ [])
          (header_marked _ _ _ _ c.requires.two c.in_ok-met.ensures c.insert.ensures.added),
    )

pub returns-clause-few_reads : goal.returns-clause-few_reads
returns-clause-few_reads g c =
    omega (
      arith,
      c.in_ok-by_block.ensures.few_reads (0 ∷ [])
          (header_marked _ _ _ _ c.requires.two c.in_ok-met.ensures c.insert.ensures.added),
    )
