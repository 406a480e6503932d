use Rattle.std.proofs.Common.{ℕ, List, refl, sym, ◌∙◌, arith, inl}
use Rattle.std.proofs.lemmas.Result.{err_from_is_err_and}
use Rattle.quota_pages.specs.Used.{shown_over}
use Rattle.quota_radix.proofs.LeafLemmas.{leaf_of_block}
use Rattle.tree_file.proofs.ComingLemmas.{next_leads}
use Rattle.tree_file.proofs.NextLemmas.{coming_before, entry_found, entry_none, next_found, next_none}
use Rattle.tree_file.proofs.WalkFaultLemmas.{found_before, leaf_walk}
use Rattle.tree_file.proofs.lookup.next_record.Goals as goal

pub next_leaf-requires : goal.next_leaf-requires
next_leaf-requires g c = λ small. inl (omega (arith, c.requires.room))

pub returns-in_default-clause-found : goal.returns-in_default-clause-found
returns-in_default-clause-found g c = λ known of value stands.
    let file : List ℕ = shown_over (g.S.Store.seen c.args.store.now) c.args.pages.now in
    next_none c.args.header.now file c.args.after value of stands (sym c.in_default.is ∙ c.in_ok-id.ensures.found known)

pub returns-in_err-rec-clause-refused : goal.returns-in_err-rec-clause-refused
returns-in_err-rec-clause-refused g c =
    let p = err_from_is_err_and c.from_residual-in_err-rec.result c.from_residual-in_err-rec.ensures.1 in
    let file : List ℕ = shown_over (g.S.Store.seen c.args.store.now) c.args.pages.now in
    rw (p.1, p.2)
    (leaf_walk g.S.Store.tells (g.S.Store.seen c.args.store.now) (g.S.Store.seen c.next_leaf.new.store)
    (g.S.Store.seen c.record_at.new.store) c.args.pages.now c.next_leaf.new.pages c.record_at.new.pages
    c.args.header.now (record { number = c.in-Some.id; block = c.in-Some.block }) _ c.in_ok-id.ensures.looked
    (λ known.
    leaf_of_block file c.args.header.now.blocks c.in-Some.id c.in-Some.block (grind (arith, c.next_leaf.type_inv))
    (sym (next_leads file c.args.header.now.blocks c.args.after c.in-Some.id c.in-Some.block
    (grind (arith, c.next_leaf.type_inv)) (sym c.in-Some.is ∙ c.in_ok-id.ensures.found known))))
    c.in_err-rec.ensures.refused)

pub returns-clause-found : goal.returns-clause-found
returns-clause-found g c = λ known of value stands.
    let file : List ℕ = shown_over (g.S.Store.seen c.args.store.now) c.args.pages.now in
    next_found c.args.header.now file c.args.after c.in-Some.id c.in-Some.block c.in_ok-rec.rec value of stands
    (grind (arith, c.next_leaf.type_inv)) (sym c.in-Some.is ∙ c.in_ok-id.ensures.found known)
    (found_before c.args.header.now.format c.in-Some.block c.in-Some.id c.in_ok-rec.rec c.in_ok-id.ensures.looked known
    c.in_ok-rec.ensures.found)

pub returns-clause-next : goal.returns-clause-next
returns-clause-next g c = λ known of value stands.
    let file : List ℕ = shown_over (g.S.Store.seen c.args.store.now) c.args.pages.now in
    coming_before c.beside.result c.in_ok-id.ensures.looked c.in_ok-rec.ensures.looked known c.args.header.now
    c.in-Some.id c.in-Some.block value of stands
    (next_leads file c.args.header.now.blocks c.args.after c.in-Some.id c.in-Some.block
    (grind (arith, c.next_leaf.type_inv)) (sym c.in-Some.is ∙ c.in_ok-id.ensures.found known))
    (λ seen_known are stood leads.
    c.beside.ensures.next _ _ c.args.header.now value seen_known are refl refl stood leads)

pub returns-in_default-clause-led : goal.returns-in_default-clause-led
returns-in_default-clause-led g c = λ known.
    let file : List ℕ = shown_over (g.S.Store.seen c.args.store.now) c.args.pages.now in
    entry_none c.args.header.now.format file c.args.header.now.blocks c.args.after
    (sym c.in_default.is ∙ c.in_ok-id.ensures.found known)

pub returns-clause-led : goal.returns-clause-led
returns-clause-led g c = λ known.
    let file : List ℕ = shown_over (g.S.Store.seen c.args.store.now) c.args.pages.now in
    entry_found c.args.header.now.format file c.args.header.now.blocks c.args.after c.in-Some.id c.in-Some.block
    c.in_ok-rec.rec (sym c.in-Some.is ∙ c.in_ok-id.ensures.found known)
    (found_before c.args.header.now.format c.in-Some.block c.in-Some.id c.in_ok-rec.rec c.in_ok-id.ensures.looked known
    c.in_ok-rec.ensures.found)
