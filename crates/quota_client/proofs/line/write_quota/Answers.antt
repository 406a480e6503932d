use Rattle.std.proofs.lemmas.Result.{err_from_is_err_and}
use Rattle.quota_client.specs.Line.{block_warning, blocks_of, file_warning, files_of}
use Rattle.quota_client.proofs.LineLemmas.{fails-first, writes-second}
use Rattle.quota_client.proofs.line.write_quota.Goals as goal

pub returns-in_err-write_block_warning-in-Warn : goal.returns-in_err-write_block_warning-in-Warn
returns-in_err-write_block_warning-in-Warn g c =
    let O = g.O.Sink in
    let p = err_from_is_err_and c.from_residual.result c.from_residual.ensures.1 in
    rw (p.1, c.in-Warn.is)
    (fails-first O.tells (block_warning c.args.path.now (blocks_of c.args.quota.now))
    (file_warning c.args.path.now (files_of c.args.quota.now)) (O.seen c.args.out.now)
    (O.seen c.write_block_warning.new.out)
    (rw c.of_blocks-blocks.ensures at c.in_err-write_block_warning-in-Warn.ensures))

pub returns-in_ok-write_block_warning-in-Warn : goal.returns-in_ok-write_block_warning-in-Warn
returns-in_ok-write_block_warning-in-Warn g c =
    let O = g.O.Sink in
    rw c.in-Warn.is (writes-second O.tells (block_warning c.args.path.now (blocks_of c.args.quota.now))
    (file_warning c.args.path.now (files_of c.args.quota.now)) (O.seen c.args.out.now)
    (O.seen c.write_block_warning.new.out) (O.seen c.write_file_warning.new.out) c.write_file_warning.result
    (rw c.of_blocks-blocks.ensures at c.in_ok-write_block_warning-in-Warn.ensures)
    (rw c.of_files-files.ensures at c.write_file_warning.ensures))
