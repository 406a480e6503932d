use Rattle.std.proofs.Common.{sym, ◌∙◌}
use Rattle.inode_scan.proofs.RowLemmas.{id_is, id_none}
use Rattle.inode_scan.proofs.row.read_id.Goals as goal

pub returns-in_err-number_in : goal.returns-in_err-number_in
returns-in_err-number_in c = c.from_residual.ensures ∙ sym (id_none c.args.word.now (sym c.in_err-number_in.ensures))

pub returns : goal.returns
returns c =
    id_is c.args.word.now c.in_ok-number_in.field-0 c.in_32_bits.result c.in_ok-number_in.ensures c.in_32_bits.ensures
