use Rattle.std.proofs.Common.{◌≡◌, ℕ, List, Some, None, ap, sym, ◌∙◌, arith, inl}
use Rattle.std.proofs.lemmas.Result.{err_from_is_err_and}
use Rattle.std.specs.Option.{option_and_then}
use Rattle.file_blocks.specs.Block.{block_of}
use Rattle.quota_pages.specs.Used.{shown_over}
use Rattle.quota_pages.proofs.UsedLemmas.{held_since}
use Rattle.quota_radix.specs.Descent.{leaf_block}
use Rattle.quota_radix.proofs.LeafLemmas.{leaf_of_block, no_leaf_of_block}
use Rattle.tree_meaning.specs.TreeFile.{record_in}
use Rattle.tree_file.proofs.WalkFaultLemmas.{found_before, leaf_named, leaf_walk, way_named, way_walk}
use Rattle.tree_file.proofs.LookupLemmas.{no_record, one_record}
use Rattle.tree_file.proofs.lookup.record_of.Goals as goal

pub leaf-requires : goal.leaf-requires
leaf-requires g c = inl (omega (arith, c.requires.room))

pub returns-in_err-block-clause-refused : goal.returns-in_err-block-clause-refused
returns-in_err-block-clause-refused g c =
    let p = err_from_is_err_and c.from_residual.result c.from_residual.ensures.1 in
    rw (p.1, p.2) (way_walk g.S.Store.tells (g.S.Store.seen c.args.store.now) (g.S.Store.seen c.leaf.new.store)
    c.args.pages.now c.leaf.new.pages c.args.header.now c.args.id _ c.in_err-block.ensures.refused)

pub returns-in_err-block-clause-named : goal.returns-in_err-block-clause-named
returns-in_err-block-clause-named g c =
    let p = err_from_is_err_and c.from_residual.result c.from_residual.ensures.1 in
    rw (p.1, p.2) (way_named g.S.Store.tells (g.S.Store.seen c.args.store.now) (g.S.Store.seen c.leaf.new.store)
    c.args.pages.now c.leaf.new.pages c.args.header.now c.args.id _
    c.in_err-block.ensures.refused c.in_err-block.ensures.named)

pub returns-in_default-clause-found : goal.returns-in_default-clause-found
returns-in_default-clause-found g c = λ known of value stands.
    let file : List ℕ = shown_over (g.S.Store.seen c.args.store.now) c.args.pages.now in
    let led : None ≡ leaf_block file c.args.header.now.blocks c.args.id =
    sym c.in_default.is ∙ c.in_ok-block.ensures.found known in
    sym (no_record c.args.header.now file c.args.id of
    (no_leaf_of_block file c.args.header.now.blocks c.args.id (omega arith) led) value stands)

pub returns-in_err-rec-clause-refused : goal.returns-in_err-rec-clause-refused
returns-in_err-rec-clause-refused g c =
    let p = err_from_is_err_and c.from_residual-in_err-rec.result c.from_residual-in_err-rec.ensures.1 in
    let file : List ℕ = shown_over (g.S.Store.seen c.args.store.now) c.args.pages.now in
    rw (p.1, p.2)
    (leaf_walk g.S.Store.tells (g.S.Store.seen c.args.store.now) (g.S.Store.seen c.leaf.new.store)
    (g.S.Store.seen c.record_at.new.store) c.args.pages.now c.leaf.new.pages c.record_at.new.pages c.args.header.now
    (record { number = c.args.id; block = c.in-Some.block }) _ c.in_ok-block.ensures.looked
    (λ known. leaf_of_block file c.args.header.now.blocks c.args.id c.in-Some.block (omega arith)
    (sym c.in-Some.is ∙ c.in_ok-block.ensures.found known))
    c.in_err-rec.ensures.refused)

pub returns-in_err-rec-clause-named : goal.returns-in_err-rec-clause-named
returns-in_err-rec-clause-named g c =
    let p = err_from_is_err_and c.from_residual-in_err-rec.result c.from_residual-in_err-rec.ensures.1 in
    let leads : List ℕ → Type 0 = λ file. c.in_ok-block.field-0 ≡ leaf_block file c.args.header.now.blocks c.args.id in
    rw (p.1, p.2)
    (leaf_named c.record_at.new.pages c.args.header.now (record { number = c.args.id; block = c.in-Some.block }) _
    (λ file clean. leaf_of_block _ c.args.header.now.blocks c.args.id c.in-Some.block (omega arith)
    (sym c.in-Some.is ∙ held_since c.in_err-rec.ensures.looked leads c.in_ok-block.ensures.held file clean))
    c.in_err-rec.ensures.named)

pub returns-clause-found : goal.returns-clause-found
returns-clause-found g c = λ known of value stands.
    let file : List ℕ = shown_over (g.S.Store.seen c.args.store.now) c.args.pages.now in
    let led : Some c.in-Some.block ≡ leaf_block file c.args.header.now.blocks c.args.id =
    sym c.in-Some.is ∙ c.in_ok-block.ensures.found known in
    sym (one_record c.args.header.now file (record { number = c.args.id; block = c.in-Some.block }) c.in_ok-rec.rec of
    (leaf_of_block file c.args.header.now.blocks c.args.id c.in-Some.block (omega arith) led)
    (found_before c.args.header.now.format c.in-Some.block c.args.id c.in_ok-rec.rec c.in_ok-block.ensures.looked known
    c.in_ok-rec.ensures.found) value stands)

pub returns-in_default-clause-led : goal.returns-in_default-clause-led
returns-in_default-clause-led g c = λ known.
    let file : List ℕ = shown_over (g.S.Store.seen c.args.store.now) c.args.pages.now in
    let led : None ≡ leaf_block file c.args.header.now.blocks c.args.id =
    sym c.in_default.is ∙ c.in_ok-block.ensures.found known in
    ap (option_and_then (λ (block : ℕ). record_in c.args.header.now.format (block_of file block) c.args.id)) led

pub returns-clause-led : goal.returns-clause-led
returns-clause-led g c = λ known.
    let file : List ℕ = shown_over (g.S.Store.seen c.args.store.now) c.args.pages.now in
    let led : Some c.in-Some.block ≡ leaf_block file c.args.header.now.blocks c.args.id =
    sym c.in-Some.is ∙ c.in_ok-block.ensures.found known in
    sym (found_before c.args.header.now.format c.in-Some.block c.args.id c.in_ok-rec.rec c.in_ok-block.ensures.looked
    known c.in_ok-rec.ensures.found)
    ∙ ap (option_and_then (λ (block : ℕ). record_in c.args.header.now.format (block_of file block) c.args.id)) led
