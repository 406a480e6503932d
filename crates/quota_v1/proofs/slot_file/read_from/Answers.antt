use Rattle.std.proofs.Common.{◌≡◌, List, ℕ, length, take, drop, ap, ◌∙◌, arith}
use Rattle.file_blocks.specs.Block.{bytes_of}
use Rattle.quota_v1.proofs.SlotLemmas.{read_shows}
use Rattle.quota_v1.proofs.slot_file.read_from.Goals as goal

pub returns-clause-shown : goal.returns-clause-shown
returns-clause-shown g c = λ told.
    let file : List ℕ = bytes_of ((g.S.Store.seen c.args.store.now).files c.args.name.now) in
    let long : length c.args.buf.now ≡ length c.read.new.buf = omega (arith, c.read.auto.buf) in
    read_shows file c.args.at (length c.read.new.buf) c.in_ok-count.count c.read.new.buf c.fill.new.self
    (omega arith) (omega (arith, c.in_ok-count.ensures.fits))
    (c.in_ok-count.ensures.count told ∙ ap (λ (n : ℕ). length (take n (drop c.args.at file))) long)
    (c.in_ok-count.ensures.bytes told ∙ ap (λ (n : ℕ). take n (drop c.args.at file)) long)
    (c.fill.ensures.after (λ y same. same))
