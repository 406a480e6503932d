use Rattle.std.proofs.Common.{ℕ, List, IsTrue, sym, subst, arith}
use Rattle.std.specs.Prelude.{IsPermutation}
use Rattle.std.proofs.lemmas.Result.{err_from_is_err_and}
use Rattle.outside.specs.World.{World}
use Rattle.byte_order.specs.Words.{words_of}
use Rattle.byte_order.specs.declared.order.Order.TheVariants.{Big}
use Rattle.entry_codec.specs.declared.header.Header.{Header}
use Rattle.file_blocks.specs.Block.{file_of}
use Rattle.quota_radix.specs.Tree.{leaves}
use Rattle.big_endian_files.specs.ReadBig.{StandsBig, records_at, records_in}
use Rattle.big_endian_files.proofs.ReadLemmas.{refused_later}
use Rattle.big_endian_files.proofs.ViewLemmas.{refused_untold, seen_stands, view_read}
use Rattle.big_endian_files.proofs.reading.read_big.Goals as goal

pub returns-in_err-entries-clause-refused : goal.returns-in_err-entries-clause-refused
returns-in_err-entries-clause-refused g c =
    let p = err_from_is_err_and c.from_residual-in_err-entries.result c.from_residual-in_err-entries.ensures.1 in
    let head = c.in_ok-header.ensures in
    let header : Header = c.in_ok-header.header in
    let files : World = (g.S.Store.seen c.args.store.now).files in
    let name : List ℕ = c.args.name.now in
    let checked : ℕ = (g.S.Store.seen c.check_tree.new.store).faults in
    let stands : IsTrue g.S.Store.tells
    → StandsBig (file_of (g.S.Store.seen c.check_tree.new.store).files name) header.blocks = λ told.
    let seen = head.seen told in
    subst (λ (there : World). StandsBig (file_of there name) header.blocks) (sym head.leaves.files)
    (seen_stands (files name) c.args.kind c.args.limit header seen.0 (head.numbers told) seen.1) in
    rw p.1 (rw p.2 (refused_untold _ checked _ g.S.Store.tells (files name) c.args.kind c.args.limit
    c.in_err-entries.field-0.0 head.leaves.later
    (refused_later checked checked _ _ _ c.in_err-entries.field-0.0 (omega arith)
    (λ damage was told. was told (stands told)) c.in_err-entries.ensures.refused)))

pub returns-clause-seen : goal.returns-clause-seen
returns-clause-seen g c =
    let head = c.in_ok-header.ensures in
    let header : Header = c.in_ok-header.header in
    let files : World = (g.S.Store.seen c.args.store.now).files in
    let name : List ℕ = c.args.name.now in
    record {
      flags = header.flags;
      view = λ told.
          let seen = head.seen told in
          let stands : StandsBig (file_of (g.S.Store.seen c.check_tree.new.store).files name) header.blocks =
          subst (λ (there : World). StandsBig (file_of there name) header.blocks) (sym head.leaves.files)
          (seen_stands (files name) c.args.kind c.args.limit header seen.0 (head.numbers told) seen.1) in
          view_read (files name) c.args.kind c.args.limit header c.in_ok-entries.entries.items seen.0
          (head.numbers told) seen.1
          (subst (λ (there : World). IsPermutation
          (records_at (file_of there name) (leaves (words_of Big there name) header.blocks))
          (records_in c.in_ok-entries.entries.items)) head.leaves.files
          (c.in_ok-entries.ensures.read told stands));
    }
