use Rattle.std.proofs.Common.{ℕ, List, [], ◌∷◌, ◌++◌, refl, ap, ◌∙◌, arith, append-nil}
use Rattle.std.proofs.lemmas.List.{length-map}
use Rattle.std.proofs.lemmas.Result.{err_from_is_err_and}
use Rattle.free_chains.specs.declared.chain_link.ChainLink.{ChainLink}
use Rattle.quota_radix.specs.declared.tree_path.TreePath.{TreePath}
use Rattle.file_blocks.specs.BlockSet.{AreFlagsOf}
use Rattle.byte_order.specs.Words.{words_of}
use Rattle.file_blocks.specs.Block.{bytes_of}
use Rattle.tree_check.specs.Groups.{named_blocks}
use Rattle.quota_radix.specs.Levels.{IsSecondRole}
use Rattle.tree_meaning.specs.Loose.{nothing_loose}
use Rattle.tree_meaning.specs.Roles.{roles}
use Rattle.free_chains.specs.Walk.{linked_blocks}
use Rattle.free_chains.proofs.WalkLemmas.{walk_fits}
use Rattle.quota_radix.specs.Tree.{ids_at}
use Rattle.tree_check.proofs.ByBlockLemmas.{same_groups}
use Rattle.tree_check.proofs.ReadLemmas.{roles_few}
use Rattle.tree_check.proofs.RoleLemmas.{are_found, are_roles, data_marked_refused, header_marked, links_marked}
use Rattle.tree_check.proofs.RoleLemmas.{no_role, roles_marked, second_role, tree_refused, walk_is_free}
use Rattle.tree_check.proofs.roles.check_roles.Goals as goal

pub returns-in_err-leaves-clause-refused : goal.returns-in_err-leaves-clause-refused
returns-in_err-leaves-clause-refused g c =
    let p = err_from_is_err_and c.from_residual-in_err-leaves.result c.from_residual-in_err-leaves.ensures.1 in
    rw (p.1, p.2) (tree_refused (g.S.Store.seen c.args.store.now).faults (g.S.Store.seen c.find_leaves.new.store).faults
    g.S.Store.tells c.args.order (bytes_of ((g.S.Store.seen c.args.store.now).files c.args.name.now)) c.args.blocks
    c.args.free_head _ _
    (header_marked _ _ _ _ c.requires.two c.in_ok-met.ensures c.insert.ensures.added) c.in_err-leaves.ensures.refused)

pub returns-in_err-mark_data-clause-refused : goal.returns-in_err-mark_data-clause-refused
returns-in_err-mark_data-clause-refused g c =
    let p = err_from_is_err_and c.from_residual-in_err-mark_data.result c.from_residual-in_err-mark_data.ensures.1 in
    let found = are_found g.S.Store.tells _ c.args.blocks _ _ c.in_ok-leaves.leaves.items c.as_slice.result.now
    (header_marked _ _ _ _ c.requires.two c.in_ok-met.ensures c.insert.ensures.added)
    c.in_ok-leaves.ensures.found c.in_ok-leaves.ensures.marked
    (λ block.
    ap (λ (ps : List TreePath). ids_at ps block) c.as_slice.ensures.value ∙ c.in_ok-sort_by_block.ensures.same block) in
    rw (p.1, p.2) (
      c.in_err-mark_data.ensures.names_id,
      data_marked_refused g.S.Store.tells c.args.order
          (bytes_of ((g.S.Store.seen c.args.store.now).files c.args.name.now)) c.args.blocks
          c.args.free_head _ _ _ _ found
          c.in_err-mark_data.ensures.refused,
    )

pub returns-in_err-mark_links-clause-refused : goal.returns-in_err-mark_links-clause-refused
returns-in_err-mark_links-clause-refused g c =
    let p = err_from_is_err_and c.from_residual-in_err-mark_links.result c.from_residual-in_err-mark_links.ensures.1 in
    let found = are_found g.S.Store.tells _ c.args.blocks _ _ c.in_ok-leaves.leaves.items c.as_slice.result.now
    (header_marked _ _ _ _ c.requires.two c.in_ok-met.ensures c.insert.ensures.added)
    c.in_ok-leaves.ensures.found c.in_ok-leaves.ensures.marked
    (λ block.
    ap (λ (ps : List TreePath). ids_at ps block) c.as_slice.ensures.value ∙ c.in_ok-sort_by_block.ensures.same block) in
    rw (p.1, p.2) (
      c.in_err-mark_links.ensures.names_id,
      λ told.
          let all = roles nothing_loose (words_of c.args.order (g.S.Store.seen c.args.store.now).files c.args.name.now)
          c.args.blocks (linked_blocks c.in_ok-free.free.links.items) in
          second_role c.args.order (bytes_of ((g.S.Store.seen c.args.store.now).files c.args.name.now)) c.args.blocks
          c.args.free_head (linked_blocks c.in_ok-free.free.links.items) 0 all [] _
          (walk_is_free c.args.order _ _ c.args.name.now c.args.blocks c.args.free_head c.in_ok-free.free
          c.in_ok-leaves.ensures.leaves.files c.in_ok-free.ensures.walk (c.in_ok-free.ensures.links told))
          (append-nil all)
          (roles_marked (λ (n : ℕ) (ns : List ℕ). IsSecondRole ns c.in_err-mark_links.field-0.0) g.S.Store.tells _
          c.args.blocks _ _ _ _ c.in_ok-free.free.links.items _ found told
          c.in_ok-mark_data.ensures.marked c.as_slice-2.ensures.value c.in_ok-free.ensures.walk.inside
          c.in_err-mark_links.ensures.refused),
    )

pub returns-in-Some-clause-refused : goal.returns-in-Some-clause-refused
returns-in-Some-clause-refused g c =
    let found = are_found g.S.Store.tells _ c.args.blocks _ _ c.in_ok-leaves.leaves.items c.as_slice.result.now
    (header_marked _ _ _ _ c.requires.two c.in_ok-met.ensures c.insert.ensures.added)
    c.in_ok-leaves.ensures.found c.in_ok-leaves.ensures.marked
    (λ block.
    ap (λ (ps : List TreePath). ids_at ps block) c.as_slice.ensures.value ∙ c.in_ok-sort_by_block.ensures.same block) in
    rw c.damage_at.ensures (
      refl,
      λ told.
          let marked = roles_marked (λ (n : ℕ) (ns : List ℕ). AreFlagsOf n c.mark_links.new.met.flags.items ns)
          g.S.Store.tells _ c.args.blocks _ _ _ _ c.in_ok-free.free.links.items _ found told
          c.in_ok-mark_data.ensures.marked c.as_slice-2.ensures.value c.in_ok-free.ensures.walk.inside
          c.in_ok-mark_links.ensures.marked in
          let without = c.in-Some.ensures _ marked in
          no_role c.args.order (bytes_of ((g.S.Store.seen c.args.store.now).files c.args.name.now)) c.args.blocks
          c.args.free_head (linked_blocks c.in_ok-free.free.links.items) 0 c.in-Some.block
          (walk_is_free c.args.order _ _ c.args.name.now c.args.blocks c.args.free_head c.in_ok-free.free
          c.in_ok-leaves.ensures.leaves.files c.in_ok-free.ensures.walk (c.in_ok-free.ensures.links told))
          without.0 without.1,
    )

pub overflow_cast-result : goal.overflow_cast-result
overflow_cast-result g c =
    let walk = c.in_ok-free.free in
    omega (
      arith,
      walk_fits c.args.blocks walk c.in_ok-free.ensures.walk,
      length-map walk.links.items (λ (link : ChainLink). link.block),
      walk.links.ok.0,
      c.len.ensures,
      c.ranges.blocks.fits,
    )

pub returns-clause-roles : goal.returns-clause-roles
returns-clause-roles g c =
    let found = are_found g.S.Store.tells _ c.args.blocks _ _ c.in_ok-leaves.leaves.items c.as_slice.result.now
    (header_marked _ _ _ _ c.requires.two c.in_ok-met.ensures c.insert.ensures.added)
    c.in_ok-leaves.ensures.found c.in_ok-leaves.ensures.marked
    (λ block.
    ap (λ (ps : List TreePath). ids_at ps block) c.as_slice.ensures.value ∙ c.in_ok-sort_by_block.ensures.same block) in
    λ told.
    let links : List ChainLink = c.in_ok-free.free.links.items in
    let all = roles_marked (λ (n : ℕ) (ns : List ℕ). AreFlagsOf n c.mark_links.new.met.flags.items ns) g.S.Store.tells _
    c.args.blocks _ _ _ _ links _ found told
    c.in_ok-mark_data.ensures.marked c.as_slice-2.ensures.value c.in_ok-free.ensures.walk.inside
    c.in_ok-mark_links.ensures.marked in
    are_roles _ c.args.blocks c.args.free_head (linked_blocks links) c.mark_links.new.met.flags.items
    c.in_ok-leaves.leaves.items _ (found.are_leaves told) (c.in_ok-leaves.ensures.whole told)
    (walk_is_free c.args.order _ _ c.args.name.now c.args.blocks c.args.free_head c.in_ok-free.free
    c.in_ok-leaves.ensures.leaves.files c.in_ok-free.ensures.walk (c.in_ok-free.ensures.links told))
    all (c.in_default.ensures _ all)
    (same_groups c.args.blocks c.in_ok-leaves.leaves.items _ c.in_ok-sort_by_block.ensures.same)
    (omega (arith, c.len-used.ensures, c.in_ok-sort_by_block.ensures.many, c.sort_by_block.new.leaves.ok.0))
    (omega (arith, c.len.ensures, c.in_ok-free.free.links.ok.0, length-map links (λ (link : ChainLink). link.block)))

pub returns-in_err-leaves-clause-few_reads : goal.returns-in_err-leaves-clause-few_reads
returns-in_err-leaves-clause-few_reads g c =
    omega (
      arith,
      c.in_err-leaves.ensures.few_reads (0 ∷ [])
          (header_marked _ _ _ _ c.requires.two c.in_ok-met.ensures c.insert.ensures.added),
    )

pub returns-in_err-sort_by_block-clause-few_reads : goal.returns-in_err-sort_by_block-clause-few_reads
returns-in_err-sort_by_block-clause-few_reads g c =
    omega (
      arith,
      c.in_ok-leaves.ensures.few_reads (0 ∷ [])
          (header_marked _ _ _ _ c.requires.two c.in_ok-met.ensures c.insert.ensures.added),
    )

pub returns-in_err-mark_data-clause-few_reads : goal.returns-in_err-mark_data-clause-few_reads
returns-in_err-mark_data-clause-few_reads g c =
    omega (
      arith,
      c.in_ok-leaves.ensures.few_reads (0 ∷ [])
          (header_marked _ _ _ _ c.requires.two c.in_ok-met.ensures c.insert.ensures.added),
    )

pub returns-in_err-free-clause-few_reads : goal.returns-in_err-free-clause-few_reads
returns-in_err-free-clause-few_reads g c =
    omega (
      arith,
      c.in_ok-leaves.ensures.few_reads (0 ∷ [])
          (header_marked _ _ _ _ c.requires.two c.in_ok-met.ensures c.insert.ensures.added),
      c.in_err-free.ensures.few_reads,
    )

pub returns-in_err-mark_links-clause-few_reads : goal.returns-in_err-mark_links-clause-few_reads
returns-in_err-mark_links-clause-few_reads g c =
    omega (
      arith,
      c.in_ok-leaves.ensures.few_reads (0 ∷ [])
          (header_marked _ _ _ _ c.requires.two c.in_ok-met.ensures c.insert.ensures.added),
      c.in_ok-free.ensures.few_reads,
    )

pub returns-in-Some-clause-few_reads : goal.returns-in-Some-clause-few_reads
returns-in-Some-clause-few_reads g c =
    omega (
      arith,
      c.in_ok-leaves.ensures.few_reads (0 ∷ [])
          (header_marked _ _ _ _ c.requires.two c.in_ok-met.ensures c.insert.ensures.added),
      c.in_ok-free.ensures.few_reads,
    )

pub returns-clause-few_reads : goal.returns-clause-few_reads
returns-clause-few_reads g c =
    omega (
      arith,
      c.in_ok-leaves.ensures.few_reads (0 ∷ [])
          (header_marked _ _ _ _ c.requires.two c.in_ok-met.ensures c.insert.ensures.added),
      c.in_ok-free.ensures.few_reads,
    )

pub returns-clause-reads : goal.returns-clause-reads
returns-clause-reads g c =
    let found = are_found g.S.Store.tells _ c.args.blocks _ _ c.in_ok-leaves.leaves.items c.as_slice.result.now
    (header_marked _ _ _ _ c.requires.two c.in_ok-met.ensures c.insert.ensures.added)
    c.in_ok-leaves.ensures.found c.in_ok-leaves.ensures.marked
    (λ block.
    ap (λ (ps : List TreePath). ids_at ps block) c.as_slice.ensures.value ∙ c.in_ok-sort_by_block.ensures.same block) in
    let read = c.in_ok-leaves.ensures.reads (0 ∷ [])
    (header_marked _ _ _ _ c.requires.two c.in_ok-met.ensures c.insert.ensures.added) in
    let links : List ChainLink = c.in_ok-free.free.links.items in
    let leaves : List TreePath = c.in_ok-leaves.leaves.items in
    let tree : List ℕ = (0 ∷ []) ++ read.more in
    let all = links_marked (λ (n : ℕ) (ns : List ℕ). AreFlagsOf n c.mark_links.new.met.flags.items ns) c.args.blocks _
    (tree ++ named_blocks c.args.blocks leaves) links _ c.as_slice-2.ensures.value
    c.in_ok-free.ensures.walk.inside (c.in_ok-mark_data.ensures.marked leaves tree found.groups read.marked)
    c.in_ok-mark_links.ensures.marked in
    roles_few c.args.blocks c.find_leaves.new.met.flags.items c.mark_links.new.met.flags.items leaves _ links
    (g.S.Store.seen c.args.store.now).reads (g.S.Store.seen c.find_leaves.new.store).reads
    (g.S.Store.seen c.walk_chain.new.store).reads read
    (omega (arith, c.in_ok-free.ensures.reads, c.in_ok-free.free.links.ok.0))
    (same_groups c.args.blocks leaves _ c.in_ok-sort_by_block.ensures.same) all
