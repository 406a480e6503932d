use Rattle.std.proofs.Common.{◌≡◌, ℕ, ◌*◌, length, ap, arith}
use Rattle.file_blocks.proofs.BlockLemmas.{read_whole}
use Rattle.file_blocks.specs.Block.{bytes_of}
use Rattle.file_blocks.proofs.block.read_block.Goals as goal

pub returns-clause-bytes : goal.returns-clause-bytes
returns-clause-bytes g c = λ told.
    let whole : length c.args.block.now ≡ 1024 = omega arith in
    let long : length c.read.new.buf ≡ 1024 = omega (arith, c.read.auto.buf) in
    read_whole (bytes_of ((g.S.Store.seen c.args.store.now).files c.args.name.now)) c.args.number (1024 * c.from.result)
    (length c.args.block.now) c.in_ok-count.count c.read.new.buf c.fill.new.self
    (ap (λ (n : ℕ). 1024 * n) c.from.ensures) whole long (omega (arith, c.in_ok-count.ensures.fits))
    (c.in_ok-count.ensures.count told) (c.in_ok-count.ensures.bytes told)
    (c.fill.ensures.after (λ y same. same))
