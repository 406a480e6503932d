use Rattle.rquota_serve.proofs.ExportLemmas.{serves-none}
use Rattle.rquota_serve.proofs.exports.Exports.new.Goals as goal

pub returns-clause-serves : goal.returns-clause-serves
returns-clause-serves c = λ tells files. serves-none tells files _ c.new.ensures.items
