use Rattle.std.proofs.Common.{◌<◌, ◌^◌, sym, ◌∙◌, arith}
use Rattle.tree_file.proofs.ComingLemmas.{next_by_reference}
use Rattle.tree_file.proofs.coming.entry_behind.Goals as goal

pub returns-clause-next : goal.returns-clause-next
returns-clause-next c = λ value by.
    let leaf = c.in_ok-leaf.leaf in
    let found = c.in_ok-leaf.ensures in
    let narrow : leaf.number < 2 ^ 32 = omega arith in
    next_by_reference c.args.format c.args.lowest.now c.args.data_block.now c.args.after c.args.block leaf.number
    c.in_ok-rec.rec value by
    found.comes_after narrow found.beside (sym c.if-leaf-block.false ∙ found.reference) found.between
    c.in_ok-rec.ensures.there
