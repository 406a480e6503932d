use Rattle.inode_scan.proofs.ScanLemmas.{fault-of, next-of}
use Rattle.inode_scan.proofs.scanning.next_line.Goals as goal

pub returns-clause-next : goal.returns-clause-next
returns-clause-next g c =
    let n = c.next_line in
    next-of n.result g.I.Source.tells c.args.reader.now n.new.self (g.I.Source.seen c.args.source.now).left
    (g.I.Source.seen n.new.source).left n.new.line.items
    n.ensures.next n.ensures.given

pub returns-clause-refused : goal.returns-clause-refused
returns-clause-refused g c =
    let n = c.next_line in
    fault-of n.result (g.I.Source.seen c.args.source.now).faults (g.I.Source.seen n.new.source).faults g.I.Source.tells
    c.args.reader.now (g.I.Source.seen c.args.source.now).left
    n.ensures.cause n.ensures.named
