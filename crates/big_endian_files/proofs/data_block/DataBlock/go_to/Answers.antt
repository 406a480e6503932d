use Rattle.std.proofs.Common.{◌<◌, refl, arith}
use Rattle.std.proofs.lemmas.Result.{err_from_is_err_and}
use Rattle.big_endian_files.proofs.ReadLemmas.{marked_before, one_more, one_more_fits, reads_fit}
use Rattle.big_endian_files.proofs.data_block.DataBlock.go_to.Goals as goal

pub returns-then-not-insert-clause-refused : goal.returns-then-not-insert-clause-refused
returns-then-not-insert-clause-refused g c = rw c.damage_at.ensures (
  refl,
  λ blocks first numbers low past so_far.
      let beyond : c.args.self.now.number < c.args.number = omega (arith, past, c.if-number-self.false) in
      marked_before blocks c.args.met.now.flags.items numbers c.args.self.now.number first _ c.args.number so_far beyond
      (c.if-not-insert.ensures.added blocks _ so_far.marked low),
)

pub returns-then-not-insert-clause-few : goal.returns-then-not-insert-clause-few
returns-then-not-insert-clause-few g c = λ blocks first numbers low so_far.
    reads_fit blocks c.args.met.now.flags.items numbers c.args.self.now.number first _ so_far

pub returns-in_err-read_block-clause-few : goal.returns-in_err-read_block-clause-few
returns-in_err-read_block-clause-few g c =
    let p = err_from_is_err_and c.from_residual.result c.from_residual.ensures.1 in
    rw p.1 (λ blocks first numbers low so_far.
    one_more_fits blocks c.args.met.now.flags.items c.insert.new.self.flags.items numbers
    c.args.self.now.number first _ _
    c.args.number so_far (c.if-not-insert.ensures.added blocks _ so_far.marked low).0
    (omega (arith, c.in_err-read_block.ensures.reads)))

pub returns-clause-read : goal.returns-clause-read
returns-clause-read g c = λ blocks first numbers low past so_far.
    one_more blocks c.args.met.now.flags.items c.insert.new.self.flags.items numbers c.args.self.now.number first _ _
    c.args.number so_far past (c.if-not-insert.ensures.added blocks _ so_far.marked low).0
    (omega (arith, c.in_ok-read_block.ensures.reads))
