use Rattle.std.proofs.Common.{ℕ, Bool, List, [], ◌∷◌, ◌++◌, sym, subst, ap, ◌∙◌, arith}
use Rattle.std.proofs.Common.{length-append}
use Rattle.std.proofs.lemmas.List.Sorted.{All-permutation}
use Rattle.std.proofs.lemmas.Result.{err_from_is_err_and}
use Rattle.outside.specs.World.{World}
use Rattle.quota_types.specs.Kept.{IsKept}
use Rattle.quota_types.specs.declared.file_kind.Format.TheVariants.{V2R0}
use Rattle.quota_types.specs.declared.record.Entry.{Entry}
use Rattle.byte_order.specs.declared.order.Order.TheVariants.{Big}
use Rattle.byte_order.specs.Words.{in_order, words_of}
use Rattle.file_blocks.specs.Block.{file_of}
use Rattle.quota_radix.specs.declared.tree_path.TreePath.{TreePath}
use Rattle.quota_radix.specs.Levels.{AreWithin}
use Rattle.quota_radix.specs.Tree.{leaves, numbers_of}
use Rattle.big_endian_files.specs.ReadBig.{CanBeRead, records_at}
use Rattle.big_endian_files.proofs.ReadLemmas.{refused_later, refused_step}
use Rattle.big_endian_files.proofs.ViewLemmas.{can_be_read, ids_differ, no_role_defect, records_moved}
use Rattle.big_endian_files.proofs.reading.read_checked.Goals as goal

pub returns-in_err-found-clause-refused : goal.returns-in_err-found-clause-refused
returns-in_err-found-clause-refused g c =
    let p = err_from_is_err_and c.from_residual.result c.from_residual.ensures.1 in
    let file : List ℕ = file_of (g.S.Store.seen c.args.store.now).files c.args.name.now in
    rw p.1 (rw p.2 (refused_later _ _ _ _ _ c.in_err-found.field-0.0 (omega arith)
    (λ damage was told is. no_role_defect file c.args.blocks damage is (was told)) c.in_err-found.ensures.refused))

pub returns-in_err-entries-clause-refused : goal.returns-in_err-entries-clause-refused
returns-in_err-entries-clause-refused g c =
    let p = err_from_is_err_and c.from_residual-in_err-entries.result c.from_residual-in_err-entries.ensures.1 in
    let files : World = (g.S.Store.seen c.args.store.now).files in
    let file : List ℕ = file_of files c.args.name.now in
    let blocks : ℕ = c.args.blocks in
    let found = c.in_ok-found.ensures in
    let flags : List Bool = c.in_ok-found.found.met.flags.items in
    rw p.1 (rw p.2 (refused_later _ (g.S.Store.seen c.find_by_block.new.store).faults _ _ _ c.in_err-entries.field-0.0
    found.leaves.later
    (λ damage was told is. was told blocks
    (subst (λ (ls : List TreePath). AreWithin blocks 4294967296 ls) (sym c.deref.ensures.value) found.within)
    (subst (λ (there : World). CanBeRead (file_of there c.args.name.now) blocks flags c.deref.result.now)
    (sym found.leaves.files)
    (subst (λ (ls : List TreePath). CanBeRead file blocks flags ls) (sym c.deref.ensures.value)
    (can_be_read file blocks flags c.in_ok-found.found.by_block.items is (found.found told) (found.marked told)))))
    c.in_err-entries.ensures.refused))

pub returns-in_err-entries-clause-reads : goal.returns-in_err-entries-clause-reads
returns-in_err-entries-clause-reads g c =
    let found = c.in_ok-found.ensures in
    omega (
      arith,
      found.reads.few,
      length-append (0 ∷ []) found.reads.more,
      c.in_err-entries.ensures.reads c.args.blocks ((0 ∷ []) ++ found.reads.more) found.reads.marked
          (subst (λ (ls : List TreePath). AreWithin c.args.blocks 4294967296 ls) (sym c.deref.ensures.value)
          found.within),
    )

pub returns-in_err-sort_by_id-clause-refused : goal.returns-in_err-sort_by_id-clause-refused
returns-in_err-sort_by_id-clause-refused g c =
    let p = err_from_is_err_and c.from_residual-in_err-sort_by_id.result c.from_residual-in_err-sort_by_id.ensures.1 in
    let words : List ℕ = words_of Big (g.S.Store.seen c.args.store.now).files c.args.name.now in
    rw p.1 (rw p.2 (refused_step _ _ _ _ c.in_err-sort_by_id.field-0.0
    (λ damage was told is. was (ids_differ words c.args.blocks c.in_ok-found.found.by_block.items
    c.in_ok-entries.entries.items (c.in_ok-found.ensures.found told)
    (c.in_ok-entries.ensures.ids ∙ ap numbers_of c.deref.ensures.value)))
    c.in_err-sort_by_id.ensures.refused))

pub returns-in_err-sort_by_id-clause-reads : goal.returns-in_err-sort_by_id-clause-reads
returns-in_err-sort_by_id-clause-reads g c =
    let found = c.in_ok-found.ensures in
    omega (
      arith,
      found.reads.few,
      length-append (0 ∷ []) found.reads.more,
      c.in_ok-entries.ensures.reads c.args.blocks ((0 ∷ []) ++ found.reads.more) found.reads.marked
          (subst (λ (ls : List TreePath). AreWithin c.args.blocks 4294967296 ls) (sym c.deref.ensures.value)
          found.within),
    )

pub returns-clause-read : goal.returns-clause-read
returns-clause-read g c = λ told is.
    let files : World = (g.S.Store.seen c.args.store.now).files in
    let file : List ℕ = file_of files c.args.name.now in
    let found = c.in_ok-found.ensures in
    records_moved file (leaves (in_order Big file) c.args.blocks) c.in_ok-found.found.by_block.items
    c.in_ok-entries.entries.items c.sort_by_id.new.entries.items (found.found told)
    (c.in_ok-entries.ensures.records told
    ∙ ap (λ (there : World). records_at (file_of there c.args.name.now) c.deref.result.now) found.leaves.files
    ∙ ap (records_at file) c.deref.ensures.value)
    c.sort_by_id.ensures.moved

pub returns-clause-kept : goal.returns-clause-kept
returns-clause-kept g c =
    All-permutation (λ (entry : Entry). IsKept V2R0 entry.id entry.rec) c.in_ok-entries.entries.items
    c.sort_by_id.new.entries.items c.sort_by_id.ensures.moved c.in_ok-entries.ensures.kept

pub returns-clause-reads : goal.returns-clause-reads
returns-clause-reads g c =
    let found = c.in_ok-found.ensures in
    omega (
      arith,
      found.reads.few,
      length-append (0 ∷ []) found.reads.more,
      c.in_ok-entries.ensures.reads c.args.blocks ((0 ∷ []) ++ found.reads.more) found.reads.marked
          (subst (λ (ls : List TreePath). AreWithin c.args.blocks 4294967296 ls) (sym c.deref.ensures.value)
          found.within),
    )
