use Rattle.std.proofs.Common.{◌≡◌, ℕ, List, [], ◌∷◌, sym, ap, subst, ◌∙◌, arith}
use Rattle.std.proofs.lemmas.Result.{err_from_is_err_and}
use Rattle.quota_pages.specs.Used.{shown_over}
use Rattle.quota_pages.proofs.UsedLemmas.{shown_over-lends, missing-there}
use Rattle.quota_types.proofs.TimesLemmas.{times-append}
use Rattle.free_chains.specs.Links.{led_to}
use Rattle.free_chains.specs.declared.heads.Heads.{Heads}
use Rattle.tree_change.specs.Enters.{EntersRecord}
use Rattle.tree_change.proofs.AddedLemmas.{added, entering_refused}
use Rattle.tree_change.proofs.WithinLemmas.{no_link_to_header, other_block}
use Rattle.quota_pages.specs.Pages.{pages_of}
use Rattle.free_chains.proofs.RoomLemmas.{enter_room}
use Rattle.tree_change.proofs.adding.add_block.Goals as goal

pub enter_entry_list-requires : goal.enter_entry_list-requires
enter_entry_list-requires g c =
    λ inside. enter_room (pages_of c.write_record.new.pages) c.in_ok-block.block c.take_one.new.heads.first
    (omega (
      arith,
      c.requires.room,
      c.in_ok-block.ensures.lends.few,
      c.in_ok-write_record.ensures.lends.few,
      missing-there (pages_of c.take_one.new.pages) c.in_ok-block.block c.in_ok-block.ensures.brought,
    ))

pub returns-in_err-enter_entry_list-clause-refused :
    goal.returns-in_err-enter_entry_list-clause-refused
returns-in_err-enter_entry_list-clause-refused g c =
    let p = err_from_is_err_and c.from_residual-in_err-enter_entry_list.result
    c.from_residual-in_err-enter_entry_list.ensures.1 in
    let took = c.in_ok-block.ensures in
    rw (p.1, p.2) (entering_refused _ _ _ _ c.in_ok-block.block c.args.limit _ _ c.args.heads.now c.take_one.new.heads _
    (omega (arith, took.lends.leaves.later, c.in_ok-write_record.ensures.lends.leaves.later)) took.taken
    c.in_err-enter_entry_list.ensures.refused)

pub returns-clause-takes : goal.returns-clause-takes
returns-clause-takes g c =
    let took = c.in_ok-block.ensures in
    let block : ℕ = c.in_ok-block.block in
    let entered = c.in_ok-enter_entry_list.ensures in
    let same : c.enter_entry_list.new.heads.blocks ≡ c.take_one.new.heads.blocks =
    ap (λ (heads : Heads). heads.blocks) entered.head in
    record {
      at_least = omega (arith, took.takes.at_least, same);
      within = λ few. omega (arith, took.takes.within few, same);
      header = λ is some.
          let other = other_block block (took.beside some) in
          entered.lends.lent 0 (omega (
            arith,
            other,
            no_link_to_header c.take_one.new.heads.first,
            times-append (block ∷ []) (led_to c.take_one.new.heads.first) 0,
          ))
          ∙ c.in_ok-write_record.ensures.lends.lent 0 other ∙ took.takes.header is some;
    }

pub returns-clause-added : goal.returns-clause-added
returns-clause-added g c = λ known held records tree none.
    let S = g.S.Store in
    let took = c.in_ok-block.ensures in
    let wrote = c.in_ok-write_record.ensures in
    let entered = c.in_ok-enter_entry_list.ensures in
    let first : List ℕ = shown_over (S.seen c.args.store.now) c.args.pages.now in
    let last : List ℕ = shown_over (S.seen c.enter_entry_list.new.store) c.enter_entry_list.new.pages in
    let known' = took.lends.known known in
    subst (λ (now : Heads). EntersRecord c.in_ok-block.block c.args.id c.args.rec.now 1 held c.args.format first last
    c.args.heads.now now records) (sym entered.head)
    (added held c.args.format first (shown_over (S.seen c.take_one.new.store) c.take_one.new.pages)
    (shown_over (S.seen c.write_record.new.store) c.write_record.new.pages) last c.args.heads.now c.take_one.new.heads
    records c.in_ok-block.block c.args.id c.args.rec.now
    (omega (arith, c.ranges.id.fits)) none (took.taken known) (wrote.written known') (shown_over-lends entered.lends)
    (entered.entered (wrote.lends.known known')) tree)
