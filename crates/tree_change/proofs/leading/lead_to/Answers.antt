use Rattle.std.proofs.Common.{◌≡◌, ℕ, ◌+◌, ◌-◌, List, [], ◌∷◌, length, get_or, sym, ap, subst, ◌∙◌, arith}
use Rattle.std.proofs.lemmas.Result.{err_from_is_err_and}
use Rattle.quota_types.specs.Times.{times}
use Rattle.quota_types.proofs.TimesLemmas.{times-append}
use Rattle.quota_pages.specs.Pages.{pages_of}
use Rattle.quota_pages.specs.Used.{shown_over}
use Rattle.quota_pages.proofs.UsedLemmas.{shown_over-lends}
use Rattle.quota_pages.proofs.UsesLemmas.{none_missing, uses_more, uses_of_lends, uses_of_looks, uses_then}
use Rattle.quota_radix.specs.Link.{AreBuffered, changed_blocks}
use Rattle.tree_change.specs.Fresh.{TakesFresh}
use Rattle.tree_change.specs.Leads.{LeadsLeaf}
use Rattle.tree_change.proofs.LeadingLemmas.{changed_buffered, led_by_fresh}
use Rattle.tree_change.proofs.WithinLemmas.{other_block}
use Rattle.tree_change.proofs.leading.lead_to.Goals as goal

pub link-requires-clause-room : goal.link-requires-clause-room
link-requires-clause-room g c =
    let took = c.in_ok-fresh.ensures in
    let there : AreBuffered (pages_of c.take_fresh.new.pages)
    (changed_blocks c.args.path.now.found.items c.as_slice.result.now) =
    changed_buffered (pages_of c.args.pages.now) (pages_of c.take_fresh.new.pages) c.args.path.now.found.items
    c.as_slice.result.now c.requires.found took.uses.stay c.requires.brought
    (subst (AreBuffered (pages_of c.take_fresh.new.pages)) (sym c.as_slice.ensures.value) took.brought) in
    omega (
      arith,
      none_missing (pages_of c.take_fresh.new.pages)
          (changed_blocks c.args.path.now.found.items c.as_slice.result.now) there,
      took.uses.few,
      c.len-lacking.ensures.value,
      c.requires.room,
    )

pub returns-in_err-link-clause-uses : goal.returns-in_err-link-clause-uses
returns-in_err-link-clause-uses g c =
    let took = c.in_ok-fresh.ensures in
    let p = err_from_is_err_and c.from_residual-in_err-link.result c.from_residual-in_err-link.ensures.1 in
    let there : AreBuffered (pages_of c.take_fresh.new.pages)
    (changed_blocks c.args.path.now.found.items c.as_slice.result.now) =
    changed_buffered (pages_of c.args.pages.now) (pages_of c.take_fresh.new.pages) c.args.path.now.found.items
    c.as_slice.result.now c.requires.found took.uses.stay c.requires.brought
    (subst (AreBuffered (pages_of c.take_fresh.new.pages)) (sym c.as_slice.ensures.value) took.brought) in
    rw p.1
    (uses_more (4 - length c.args.path.now.found.items)
    (omega (
      arith,
      none_missing (pages_of c.take_fresh.new.pages)
          (changed_blocks c.args.path.now.found.items c.as_slice.result.now) there,
      c.len-lacking.ensures.value,
    ))
    (uses_then took.uses (uses_of_looks c.in_err-link.ensures.kept)))

pub returns-clause-takes : goal.returns-clause-takes
returns-clause-takes g c =
    let took = c.in_ok-fresh.ensures in
    let found : List ℕ = c.args.path.now.found.items in
    let fresh : List ℕ = c.as_slice.result.now in
    let last : ℕ = get_or found (length found - 1) 0 in
    record {
      at_least = took.takes.at_least;
      within = took.takes.within;
      header = λ other some.
          c.in_ok-link.ensures.lends.lent 0 (omega (
            arith,
            other_block last other,
            took.beside some,
            ap {B = ℕ} (λ (xs : List ℕ). times xs 0) c.as_slice.ensures.value,
            times-append (last ∷ []) fresh 0,
          )) ∙ took.takes.header tt some;
    }

pub returns-clause-led : goal.returns-clause-led
returns-clause-led g c = λ known held format records way tree.
    let S = g.S.Store in
    let took = c.in_ok-fresh.ensures in
    let links = c.in_ok-link.ensures in
    let known' = took.uses.known known in
    let old : List ℕ = shown_over (S.seen c.args.store.now) c.args.pages.now in
    let between : List ℕ = shown_over (S.seen c.take_fresh.new.store) c.take_fresh.new.pages in
    let found : List ℕ = c.args.path.now.found.items in
    let takes : TakesFresh c.as_slice.result.now old between c.args.heads.now c.take_fresh.new.heads =
    subst (λ (fresh : List ℕ). TakesFresh fresh old between c.args.heads.now c.take_fresh.new.heads)
    (sym c.as_slice.ensures.value) (took.taken known) in
    let lacking : length found + length c.as_slice.result.now ≡ 4 =
    subst (λ (fresh : List ℕ). length found + length fresh ≡ 4) (sym c.as_slice.ensures.value)
    (omega (arith, took.count, c.len-lacking.ensures.value, c.requires.few)) in
    subst (λ (count : ℕ). LeadsLeaf count (record { number = c.args.id; block = c.args.leaf_block }) held format old
    (shown_over (S.seen c.link.new.store) c.link.new.pages) c.args.heads.now c.take_fresh.new.heads records)
    (let e : length c.as_slice.result.now ≡ 4 - length found = omega (arith, lacking) in e)
    (led_by_fresh c.as_slice.result.now held format old between (shown_over (S.seen c.link.new.store) c.link.new.pages)
    found c.args.heads.now c.take_fresh.new.heads records c.args.id c.args.leaf_block
    c.requires.found lacking (omega (arith, c.ranges.id.fits)) takes
    (record {
      keeps = shown_over-lends links.lends;
      words = links.words known';
      leaves = links.leaves known';
      levels = links.levels known';
    })
    way tree)

pub returns-clause-uses : goal.returns-clause-uses
returns-clause-uses g c =
    let took = c.in_ok-fresh.ensures in
    let there : AreBuffered (pages_of c.take_fresh.new.pages)
    (changed_blocks c.args.path.now.found.items c.as_slice.result.now) =
    changed_buffered (pages_of c.args.pages.now) (pages_of c.take_fresh.new.pages) c.args.path.now.found.items
    c.as_slice.result.now c.requires.found took.uses.stay c.requires.brought
    (subst (AreBuffered (pages_of c.take_fresh.new.pages)) (sym c.as_slice.ensures.value) took.brought) in
    uses_more (4 - length c.args.path.now.found.items)
    (omega (
      arith,
      none_missing (pages_of c.take_fresh.new.pages)
          (changed_blocks c.args.path.now.found.items c.as_slice.result.now) there,
      c.len-lacking.ensures.value,
    ))
    (uses_then took.uses (uses_of_lends c.in_ok-link.ensures.lends))
