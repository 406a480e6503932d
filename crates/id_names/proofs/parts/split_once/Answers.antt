use Rattle.std.proofs.Common.{◌==◌, sym}
use Rattle.std.proofs.lemmas.List.{take_rest}
use Rattle.id_names.proofs.PartsLemmas.{cut_at, cut_nowhere}
use Rattle.id_names.proofs.parts.split_once.Goals as goal

pub returns-in_err-at-clause-whole : goal.returns-in_err-at-clause-whole
returns-in_err-at-clause-whole c =
    let none = cut_nowhere (λ byte. byte == c.args.separator) c.args.bytes.now (sym c.in_err-at.ensures) in
    rw c.from_residual.ensures none

pub returns-clause-parts : goal.returns-clause-parts
returns-clause-parts c =
    let cut = cut_at (λ byte. byte == c.args.separator) c.args.bytes.now c.in_ok-at.at (sym c.in_ok-at.ensures) in
    simp take_rest cut
