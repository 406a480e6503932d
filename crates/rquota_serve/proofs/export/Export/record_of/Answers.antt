use Rattle.std.proofs.Common.{Ok, Err, Some, refl}
use Rattle.std.proofs.lemmas.Result.{err_from_is_err_and}
use Rattle.opened_file.proofs.LooksUpLemmas.{looks_up-answer, looks_up-within}
use Rattle.quota_map.specs.AnyFile.{any_seen}
use Rattle.quota_map.proofs.AnyLemmas.{get_few}
use Rattle.rquota_serve.proofs.export.Export.record_of.Goals as goal

pub returns-clause-looks : goal.returns-clause-looks
returns-clause-looks g c =
    looks_up-answer Some Some _ _ _ _ (Ok c.in_ok-found.found) (Ok _) tt
    (looks_up-within Some _ _ _ _ _ _ (get_few (any_seen c.args.self.now.file).format) c.in_ok-found.ensures.looks)

pub returns-in_err-found-clause-looks : goal.returns-in_err-found-clause-looks
returns-in_err-found-clause-looks g c =
    let p = err_from_is_err_and c.from_residual.result c.from_residual.ensures.1 in
    rw (p.1, p.2)
    (looks_up-answer Some Some _ _ _ _ (Err c.in_err-found.field-0.0) (Err _) refl
    (looks_up-within Some _ _ _ _ _ _ (get_few (any_seen c.args.self.now.file).format) c.in_err-found.ensures.looks))
