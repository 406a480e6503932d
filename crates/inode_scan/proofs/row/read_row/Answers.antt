use Rattle.std.proofs.Common.{sym, ◌∙◌}
use Rattle.inode_scan.proofs.RowLemmas.{row_in_five}
use Rattle.inode_scan.proofs.row.read_row.Goals as goal

pub returns : goal.returns
returns c =
    c.row_from.ensures
    ∙ sym (row_in_five c.args.line.now c.in_ok-owner.owner.now c.in_ok-owner.rest.now c.in_ok-group.group.now
    c.in_ok-group.rest.now c.in_ok-device.device.now c.in_ok-device.rest.now
    c.in_ok-inode.inode.now c.in_ok-inode.rest.now c.in_ok-size.size.now c.in_ok-size.rest.now
    c.in_ok-owner.ensures.word c.in_ok-group.ensures.word c.in_ok-device.ensures.word c.in_ok-inode.ensures.word
    c.in_ok-size.ensures.word
    (sym c.has_no_word.ensures ∙ c.if-not-has_no_word.false))
