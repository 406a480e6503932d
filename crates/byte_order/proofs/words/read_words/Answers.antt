use Rattle.std.proofs.Common.{sym, ap, ◌∙◌}
use Rattle.file_blocks.specs.Block.{file_of}
use Rattle.byte_order.specs.Words.{in_order}
use Rattle.byte_order.proofs.WordsLemmas.{block_in_order}
use Rattle.byte_order.proofs.words.read_words.Goals as goal

pub returns-clause-words : goal.returns-clause-words
returns-clause-words g c = λ told.
    let files = (g.S.Store.seen c.args.store.now).files in
    c.put_in_order.ensures ∙ ap (in_order c.args.order) (c.in_ok-read_block.ensures.bytes told)
    ∙ sym (block_in_order c.args.order (file_of files c.args.name.now) c.args.number)
