use Rattle.std.proofs.lemmas.Result.{err_from_is_err_and}
use Rattle.std.proofs.Common.{ℕ, List, [], length, sym, ap, subst, ◌∙◌, arith}
use Rattle.quota_pages.specs.Page.{Page, is_lent, lent_count}
use Rattle.quota_pages.specs.Pages.{pages_of}
use Rattle.quota_pages.proofs.LentLemmas.{few_lent}
use Rattle.tree_change.specs.HeaderHeads.{HasHeads}
use Rattle.tree_change.proofs.ChangeFaultLemmas.{full_then, of_later}
use Rattle.tree_change.proofs.HeaderChangedLemmas.{heads_are, tree_by_header}
use Rattle.tree_change.proofs.RecordingLemmas.{full_by_header, no_value_put, puts_record}
use Rattle.tree_change.proofs.recording.put_record.Goals as goal

pub returns-in_err-put_in-clause-refused : goal.returns-in_err-put_in-clause-refused
returns-in_err-put_in-clause-refused g c =
    let p = err_from_is_err_and c.from_residual.result c.from_residual.ensures.1 in
    let start = c.heads_in-heads.ensures in
    rw (p.1, p.2) (of_later _ _ _ _ _ _ _ c.in_err-put_in.field-0.0 (omega arith)
    (λ wrong known are value.
    no_value_put c.args.header.now _ _ value are start.blocks start.free start.first (wrong known))
    (λ blocks most full. (
      full.0,
      full.1,
      λ known are value. full_by_header c.args.id blocks c.args.header.now _ _ value are start.blocks start.free
          start.first (full.2 known),
    ))
    c.in_err-put_in.ensures.refused)

pub returns-clause-shown : goal.returns-clause-shown
returns-clause-shown g c = λ known are value stands.
    let start = c.heads_in-heads.ensures in
    let put = c.in_ok-put_in.ensures in
    puts_record c.args.id c.args.rec.now c.args.header.now _ _ _ _ _ value (omega (arith, c.ranges.id.fits)) are
    start.blocks start.free start.first stands (put.put known) put.takes.at_least
    c.in_ok-renew_heads.ensures.keeps (c.in_ok-renew_heads.ensures.set (put.uses.known known))

pub returns-clause-known : goal.returns-clause-known
returns-clause-known g c = λ known are value stands some.
    let start = c.heads_in-heads.ensures in
    let over = c.in_ok-put_in.ensures.over known [] value.records
    (tree_by_header _ c.args.header.now c.heads_in-heads.result value are
    (heads_are c.args.header.now _ c.heads_in-heads.result are start.blocks start.free start.first) stands) some in
    let same : HasHeads c.args.header.now c.put_in.new.heads =
    subst (HasHeads c.args.header.now) (sym over.same) start in
    omega (
      arith,
      over.lent,
      ap {B = ℕ} lent_count (c.in_ok-renew_heads.ensures.idle same),
      ap {B = ℕ} lent_count c.requires.empty,
    )

pub returns-clause-header : goal.returns-clause-header
returns-clause-header g c = λ same.
    omega (
      arith,
      ap {B = ℕ} lent_count (c.in_ok-renew_heads.ensures.idle same),
      few_lent (pages_of c.put_in.new.pages),
      c.in_ok-put_in.ensures.uses.few,
      ap {B = ℕ} length c.requires.empty,
    )

pub returns-clause-header_stays : goal.returns-clause-header_stays
returns-clause-header_stays g c = λ same known.
    let start = c.heads_in-heads.ensures in
    ap (λ (pages : List Page). is_lent pages 0) (c.in_ok-renew_heads.ensures.idle same)
    ∙ c.in_ok-put_in.ensures.takes.header known (λ none. omega (arith, none, start.blocks, c.requires.two))
    ∙ ap (λ (pages : List Page). is_lent pages 0) c.requires.empty

pub returns-in_err-put_in-clause-full : goal.returns-in_err-put_in-clause-full
returns-in_err-put_in-clause-full g c =
    let p = err_from_is_err_and c.from_residual.result c.from_residual.ensures.1 in
    let start = c.heads_in-heads.ensures in
    rw (p.1, p.2) (full_then _ _ c.in_err-put_in.field-0.0
    (λ kept known are value stands.
    kept known [] value.records
    (tree_by_header _ c.args.header.now c.heads_in-heads.result value are
    (heads_are c.args.header.now _ c.heads_in-heads.result are start.blocks start.free start.first) stands)
    ∙ ap {B = ℕ} lent_count c.requires.empty)
    c.in_err-put_in.ensures.full)
