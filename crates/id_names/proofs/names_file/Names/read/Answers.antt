use Rattle.id_names.proofs.ReadLemmas.{read_more, read_none}
use Rattle.id_names.proofs.names_file.Names.read.Goals as goal

pub loop-line-init : goal.loop-line-init
loop-line-init c =
    read_none c.args.kind c.args.bytes.now c.new-index.result c.new-index.ensures.lines c.new-index.ensures.index

pub loop-line-preserved : goal.loop-line-preserved
loop-line-preserved c =
    let taken = c.in_ok-take_line.ensures in
    read_more c.args.kind c.args.bytes.now c.loop-line.rest.now c.in-Some.line.now c.in-Some.behind.now
    c.loop-line.number c.loop-line.index c.take_line.new.index
    c.loop-line.invariant c.in-Some.ensures.parts c.in-Some.ensures.shorter taken.lines taken.index taken.accepted
