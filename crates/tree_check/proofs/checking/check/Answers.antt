use Rattle.std.proofs.Common.{ℕ, ◌∙◌, List, sym, subst, arith}
use Rattle.std.proofs.lemmas.Result.{err_from_is_err_and}
use Rattle.file_blocks.specs.Block.{bytes_of}
use Rattle.byte_order.specs.Words.{in_order, words_of}
use Rattle.tree_meaning.specs.Entries.{stated_in}
use Rattle.tree_check.specs.Found.{AreRoles, HasNoEmptyBlock}
use Rattle.tree_check.specs.Groups.{AreGroupsOf, groups_of}
use Rattle.tree_meaning.specs.Loose.{nothing_loose}
use Rattle.tree_meaning.specs.Roles.{Chained, FilledBy}
use Rattle.quota_radix.specs.declared.tree_path.TreePath.{TreePath}
use Rattle.quota_radix.specs.Tree.{leaves}
use Rattle.tree_check.proofs.CheckedLemmas.{is_checked, length_refused, lists_refused, only_damaged, roles_refused}
use Rattle.tree_check.proofs.FoundLemmas.{same_bytes, same_words}
use Rattle.tree_check.proofs.checking.check.Goals as goal

pub returns-in_err-check_length-clause-refused : goal.returns-in_err-check_length-clause-refused
returns-in_err-check_length-clause-refused g c =
    let p = err_from_is_err_and c.from_residual.result c.from_residual.ensures.1 in
    rw (p.1, p.2) (length_refused (g.S.Store.seen c.args.store.now).faults
    (g.S.Store.seen c.check_length.new.store).faults g.S.Store.tells c.args.order
    (bytes_of ((g.S.Store.seen c.args.store.now).files c.args.name.now)) c.args.header.now _
    c.in_err-check_length.ensures.refused)

pub returns-in_err-check_length-clause-only_damaged : goal.returns-in_err-check_length-clause-only_damaged
returns-in_err-check_length-clause-only_damaged g c =
    only_damaged (g.S.Store.seen c.args.store.now).faults
    (g.S.Store.seen c.check_length.new.store).faults g.S.Store.tells c.args.order
    (bytes_of ((g.S.Store.seen c.args.store.now).files c.args.name.now)) c.args.header.now c.from_residual.result
    (returns-in_err-check_length-clause-refused g c)

pub returns-in_err-roles-clause-refused : goal.returns-in_err-roles-clause-refused
returns-in_err-roles-clause-refused g c =
    let p = err_from_is_err_and c.from_residual-in_err-roles.result c.from_residual-in_err-roles.ensures.1 in
    let length = c.in_ok-check_length.ensures in
    rw (p.1, p.2) (roles_refused (g.S.Store.seen c.args.store.now).faults
    (g.S.Store.seen c.check_length.new.store).faults (g.S.Store.seen c.check_roles.new.store).faults
    g.S.Store.tells c.args.order (bytes_of ((g.S.Store.seen c.args.store.now).files c.args.name.now))
    (bytes_of ((g.S.Store.seen c.check_length.new.store).files c.args.name.now)) c.args.header.now _
    length.leaves.later (same_bytes _ _ c.args.name.now length.leaves.files) c.in_err-roles.ensures.refused)

pub returns-in_err-roles-clause-only_damaged : goal.returns-in_err-roles-clause-only_damaged
returns-in_err-roles-clause-only_damaged g c =
    only_damaged (g.S.Store.seen c.args.store.now).faults
    (g.S.Store.seen c.check_roles.new.store).faults g.S.Store.tells c.args.order
    (bytes_of ((g.S.Store.seen c.args.store.now).files c.args.name.now)) c.args.header.now
    c.from_residual-in_err-roles.result (returns-in_err-roles-clause-refused g c)

pub returns-in_err-check_lists-clause-refused : goal.returns-in_err-check_lists-clause-refused
returns-in_err-check_lists-clause-refused g c =
    let p =
    err_from_is_err_and c.from_residual-in_err-check_lists.result c.from_residual-in_err-check_lists.ensures.1 in
    let length = c.in_ok-check_length.ensures in
    let roles = c.in_ok-roles.ensures in
    let header = c.args.header.now in
    let file : List ℕ = bytes_of ((g.S.Store.seen c.args.store.now).files c.args.name.now) in
    let words : List ℕ = words_of c.args.order (g.S.Store.seen c.args.store.now).files c.args.name.now in
    rw (p.1, p.2) (lists_refused (g.S.Store.seen c.args.store.now).faults
    (g.S.Store.seen c.check_roles.new.store).faults (g.S.Store.seen c.check_lists.new.store).faults
    g.S.Store.tells c.args.order file
    (bytes_of ((g.S.Store.seen c.check_roles.new.store).files c.args.name.now)) header
    (groups_of header.blocks c.as_slice.result.now) _
    (omega (arith, length.leaves.later, roles.leaves.later))
    (same_bytes _ _ c.args.name.now (roles.leaves.files ∙ length.leaves.files))
    (λ told.
    let found : AreRoles words header.blocks header.free c.in_ok-roles.roles =
    subst (λ (f : List ℕ). AreRoles f header.blocks header.free c.in_ok-roles.roles)
    (same_words c.args.order _ _ c.args.name.now length.leaves.files)
    (roles.roles told) in
    subst (λ (sorted : List TreePath). AreGroupsOf header.blocks (leaves words header.blocks)
    (groups_of header.blocks sorted)) (sym c.as_slice.ensures.value) found.groups)
    c.in_err-check_lists.ensures.refused)

pub returns-in_err-check_lists-clause-only_damaged : goal.returns-in_err-check_lists-clause-only_damaged
returns-in_err-check_lists-clause-only_damaged g c =
    only_damaged (g.S.Store.seen c.args.store.now).faults
    (g.S.Store.seen c.check_lists.new.store).faults g.S.Store.tells c.args.order
    (bytes_of ((g.S.Store.seen c.args.store.now).files c.args.name.now)) c.args.header.now
    c.from_residual-in_err-check_lists.result (returns-in_err-check_lists-clause-refused g c)

pub returns-clause-checked : goal.returns-clause-checked
returns-clause-checked g c = λ told are.
    let length = c.in_ok-check_length.ensures in
    let roles = c.in_ok-roles.ensures in
    let lists = c.in_ok-check_lists.ensures in
    let header = c.args.header.now in
    let file : List ℕ = bytes_of ((g.S.Store.seen c.args.store.now).files c.args.name.now) in
    let words : List ℕ = words_of c.args.order (g.S.Store.seen c.args.store.now).files c.args.name.now in
    let groups : List (List ℕ) = groups_of header.blocks c.as_slice.result.now in
    let found : AreRoles words header.blocks header.free c.in_ok-roles.roles =
    subst (λ (f : List ℕ). AreRoles f header.blocks header.free c.in_ok-roles.roles)
    (same_words c.args.order _ _ c.args.name.now length.leaves.files)
    (roles.roles told) in
    let grouped : AreGroupsOf header.blocks (leaves words header.blocks) groups =
    subst (λ (sorted : List TreePath). AreGroupsOf header.blocks (leaves words header.blocks)
    (groups_of header.blocks sorted)) (sym c.as_slice.ensures.value) found.groups in
    let same =
    same_bytes ((g.S.Store.seen c.args.store.now).files) _ c.args.name.now (roles.leaves.files ∙ length.leaves.files) in
    let same_words =
    same_words c.args.order ((g.S.Store.seen c.args.store.now).files) _ c.args.name.now
    (roles.leaves.files ∙ length.leaves.files) in
    let chained : Chained nothing_loose header.format words header.blocks header.first =
    subst (λ (f : List ℕ). AreGroupsOf header.blocks (leaves f header.blocks) groups
    → Chained nothing_loose header.format f header.blocks header.first) same_words (lists.chained told) grouped in
    let filled : FilledBy (stated_in c.args.order file) nothing_loose header.format words header.blocks =
    subst (λ (f : List ℕ). AreGroupsOf header.blocks (leaves (in_order c.args.order f) header.blocks) groups
    → HasNoEmptyBlock (in_order c.args.order f) header.blocks
    → FilledBy (stated_in c.args.order f) nothing_loose header.format (in_order c.args.order f) header.blocks) same
    (lists.filled told) grouped found.not_empty in
    is_checked c.args.order file header c.in_ok-roles.roles are c.requires.two (length.long told) found chained filled
