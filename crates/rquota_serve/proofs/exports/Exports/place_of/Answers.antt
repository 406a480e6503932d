use Rattle.std.proofs.Common.{ap, ◌∙◌}
use Rattle.std.specs.Option.{is_some}
use Rattle.rquota_serve.proofs.ExportLemmas.{place-exported, place-found}
use Rattle.rquota_serve.proofs.exports.Exports.place_of.Goals as goal

pub returns-clause-found : goal.returns-clause-found
returns-clause-found c =
    place-found c.args.path.now c.args.kind c.args.self.now c.first_named.result c.first_named.ensures

pub returns-clause-exported : goal.returns-clause-exported
returns-clause-exported c =
    ap is_some c.first_named.ensures ∙ place-exported c.args.path.now c.args.kind c.args.self.now
