use Rattle.std.proofs.Common.{◌+◌, ◌-◌, length, arith}
use Rattle.std.proofs.lemmas.Slice.{drop-put_mid}
use Rattle.report_text.proofs.page.write_at.Goals as goal

pub returns-clause-rest : goal.returns-clause-rest
returns-clause-rest c =
    let end = c.args.at + length c.args.text.now in
    drop-put_mid c.args.at (end - c.args.at) c.args.bytes.now c.copy_from_slice.new.self end (omega arith)
    (omega arith) (omega arith)
