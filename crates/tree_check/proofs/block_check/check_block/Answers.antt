use Rattle.std.proofs.Common.{◌≡◌, ℕ, List, sym, ap, subst, ◌∙◌}
use Rattle.std.proofs.lemmas.Result.{err_from_is_err_and}
use Rattle.quota_types.specs.declared.damage.Damage.{Damage}
use Rattle.byte_order.specs.Number.{number_in}
use Rattle.byte_order.specs.Words.{in_order}
use Rattle.byte_order.proofs.WordsLemmas.{block_in_order}
use Rattle.file_blocks.specs.Block.{block_of, file_of}
use Rattle.tree_meaning.specs.Compared.{AreEntriesOf, IsEntryDefectAt}
use Rattle.tree_meaning.specs.Entries.{has_unused, stated_in, used_ids}
use Rattle.tree_check.proofs.block_check.check_block.Goals as goal

pub returns-in_err-compare_entries-clause-refused : goal.returns-in_err-compare_entries-clause-refused
returns-in_err-compare_entries-clause-refused g c =
    let p = err_from_is_err_and c.from_residual-in_err-compare_entries.result
    c.from_residual-in_err-compare_entries.ensures.1 in
    let order = c.args.order in
    let file : List ℕ = file_of (g.S.Store.seen c.args.store.now).files c.args.name.now in
    rw (p.1, p.2) (
      c.in_err-compare_entries.ensures.names_id,
      λ told.
          let read = c.in_ok-read_block.ensures.bytes told in
          let stated : c.half_at-stated.result ≡ stated_in order file c.args.number =
          c.half_at-stated.ensures ∙ ap (λ (b : List ℕ). number_in order 2 b 8) read in
          let words : c.put_in_order.new.block ≡ block_of (in_order order file) c.args.number =
          c.put_in_order.ensures ∙ ap (in_order order) read ∙ sym (block_in_order order file c.args.number) in
          subst (λ (b : List ℕ). IsEntryDefectAt c.args.number (stated_in order file c.args.number)
          (used_ids c.args.format b) c.args.ids.now c.in_err-compare_entries.field-0.0) words
          (subst (λ (n : ℕ). IsEntryDefectAt c.args.number n (used_ids c.args.format c.put_in_order.new.block)
          c.args.ids.now c.in_err-compare_entries.field-0.0) stated c.in_err-compare_entries.ensures.refused),
    )

pub returns-clause-entries : goal.returns-clause-entries
returns-clause-entries g c = λ told.
    let order = c.args.order in
    let file : List ℕ = file_of (g.S.Store.seen c.args.store.now).files c.args.name.now in
    let read = c.in_ok-read_block.ensures.bytes told in
    let stated : c.half_at-stated.result ≡ stated_in order file c.args.number =
    c.half_at-stated.ensures ∙ ap (λ (b : List ℕ). number_in order 2 b 8) read in
    let words : c.put_in_order.new.block ≡ block_of (in_order order file) c.args.number =
    c.put_in_order.ensures ∙ ap (in_order order) read ∙ sym (block_in_order order file c.args.number) in
    subst (λ (b : List ℕ). AreEntriesOf (stated_in order file c.args.number) (used_ids c.args.format b) c.args.ids.now)
    words
    (subst (λ (n : ℕ). AreEntriesOf n (used_ids c.args.format c.put_in_order.new.block) c.args.ids.now) stated
    c.in_ok-compare_entries.ensures.entries)

pub returns-clause-room : goal.returns-clause-room
returns-clause-room g c = λ told.
    let order = c.args.order in
    let file : List ℕ = file_of (g.S.Store.seen c.args.store.now).files c.args.name.now in
    let words : c.put_in_order.new.block ≡ block_of (in_order order file) c.args.number =
    c.put_in_order.ensures ∙ ap (in_order order) (c.in_ok-read_block.ensures.bytes told)
    ∙ sym (block_in_order order file c.args.number) in
    c.in_ok-compare_entries.ensures.room ∙ ap (has_unused c.args.format) words
