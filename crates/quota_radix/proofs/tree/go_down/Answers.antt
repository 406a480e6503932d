use Rattle.std.proofs.Common.{arith}
use Rattle.std.proofs.lemmas.Result.{err_from_is_err_and}
use Rattle.quota_radix.proofs.DownLemmas.{mark_refused, on_ok}
use Rattle.quota_radix.proofs.ReadLemmas.{level_fits}
use Rattle.file_blocks.proofs.MarkedLemmas.{marked_fit}
use Rattle.quota_radix.proofs.tree.go_down.Goals as goal

pub returns-in_err-mark_all-clause-refused : goal.returns-in_err-mark_all-clause-refused
returns-in_err-mark_all-clause-refused g c =
    let p = err_from_is_err_and c.from_residual.result c.from_residual.ensures.1 in
    rw (p.1, p.2) (mark_refused _ _ c.args.blocks _ _ _ c.args.met.now.flags.items c.args.level.now c.requires.small _
    c.in_err-mark_all.ensures.refused)

pub returns-clause-marked : goal.returns-clause-marked
returns-clause-marked g c =
    on_ok _ c.next_level.result
    (λ numbers are. c.in_ok-mark_all.ensures.marked c.args.blocks _ numbers are c.requires.small)

pub returns-in_err-mark_all-clause-few_reads : goal.returns-in_err-mark_all-clause-few_reads
returns-in_err-mark_all-clause-few_reads g c =
    λ numbers are. omega (arith, marked_fit c.args.blocks c.args.met.now.flags.items numbers are)

pub returns-clause-few_reads : goal.returns-clause-few_reads
returns-clause-few_reads g c = λ numbers are.
    omega (
      arith,
      c.next_level.ensures.reads,
      level_fits c.args.blocks _ numbers c.args.level.now
          (c.in_ok-mark_all.ensures.marked c.args.blocks _ numbers are c.requires.small),
    )
