use Rattle.std.proofs.Common.{◌≡◌, ℕ, List, sym, subst, ◌∙◌, arith}
use Rattle.std.specs.Prelude.{IsSome}
use Rattle.std.proofs.lemmas.Result.{err_from_is_err_and}
use Rattle.file_blocks.specs.Block.{block_of}
use Rattle.quota_pages.specs.Used.{shown_over}
use Rattle.quota_pages.proofs.UsedLemmas.{shown_over-looks}
use Rattle.tree_meaning.specs.EntryRecords.{record_by}
use Rattle.block_changes.specs.EntryChanges.{RewritesEntry}
use Rattle.tree_change.proofs.OverLemmas.{overwrites, overwriting_refused}
use Rattle.tree_change.proofs.WithinLemmas.{other_block}
use Rattle.tree_change.proofs.overwriting.overwrite_record.Goals as goal

pub returns-in_err-place-clause-refused : goal.returns-in_err-place-clause-refused
returns-in_err-place-clause-refused g c =
    let p = err_from_is_err_and c.from_residual.result c.from_residual.ensures.1 in
    rw (p.1, p.2) (overwriting_refused _ _ _ c.args.format _ c.args.block c.args.id _ (omega (arith, c.ranges.id.fits))
    c.in_err-place.ensures.refused)

pub returns-clause-header : goal.returns-clause-header
returns-clause-header g c = λ other.
    c.in_ok-rewrite_record.ensures.lends.lent 0 (other_block c.args.block other) ∙ c.in_ok-place.ensures.looked.lent 0

pub returns-clause-overwritten : goal.returns-clause-overwritten
returns-clause-overwritten g c = λ known held heads records led tree.
    let S = g.S.Store in
    let looked = c.in_ok-place.ensures.looked in
    let old : List ℕ = shown_over (S.seen c.args.store.now) c.args.pages.now in
    let between : List ℕ = shown_over (S.seen c.place_of.new.store) c.place_of.new.pages in
    let new : List ℕ = shown_over (S.seen c.rewrite_record.new.store) c.rewrite_record.new.pages in
    let same : between ≡ old = shown_over-looks looked in
    let place : ℕ = c.in_ok-place.place in
    let used : IsSome (record_by c.args.format (block_of between c.args.block) c.args.id place) =
    subst (λ (file : List ℕ). IsSome (record_by c.args.format (block_of file c.args.block) c.args.id place)) (sym same)
    (c.in_ok-place.ensures.used known) in
    let rewrites : RewritesEntry c.args.format c.args.block place
    (record { id = c.args.id; rec = c.args.rec.now }) old new =
    subst (λ (file : List ℕ).
    RewritesEntry c.args.format c.args.block place (record { id = c.args.id; rec = c.args.rec.now }) file new) same
    (c.in_ok-rewrite_record.ensures.rewritten (looked.known known) used) in
    overwrites held c.args.format old new heads records c.args.block place c.args.id c.args.rec.now
    (omega (arith, c.ranges.id.fits)) led rewrites tree
