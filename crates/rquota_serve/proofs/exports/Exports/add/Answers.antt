use Rattle.std.proofs.Common.{◌≡◌, true, if◌then◌else◌, List, [], ◌∷◌, ◌++◌, ap, ◌∙◌}
use Rattle.std.specs.Result.{is_ok}
use Rattle.rquota_serve.specs.Exports.{exports_seen, kept_in}
use Rattle.rquota_serve.specs.ExportSeen.{ExportSeen}
use Rattle.rquota_serve.specs.declared.export.Export.{Export}
use Rattle.rquota_serve.proofs.ExportLemmas.{free-of, serves-push}
use Rattle.rquota_serve.proofs.exports.Exports.add.Goals as goal

pub returns-clause-serves : goal.returns-clause-serves
returns-clause-serves g c = λ told exported value serves view.
    let S = g.S.Store in
    let opened = c.in_ok-export.ensures in
    let fresh = opened.seen.2 in
    let old : List Export = kept_in c.args.self.now in
    let export : Export = c.in_ok-export.export in
    let ok : is_ok c.push.result ≡ true = c.if-is_err.ensures.negation in
    let pushed : c.push.new.self.items ≡ old ++ export ∷ [] =
    ◌∙◌ {A = List Export} c.push.ensures.items (ap (λ b. if b then (old ++ export ∷ []) else old) ok) in
    serves-push S.tells (S.seen c.args.store.now).files (S.seen c.open.new.store).files c.args.self.now
    (record { list = c.push.new.self }) exported c.args.path.now c.args.kind value export
    pushed opened.leaves.files (ap (λ (e : ExportSeen). e.path) fresh) (ap (λ (e : ExportSeen). e.kind) fresh)
    (free-of (exports_seen c.args.self.now) c.args.path.now c.args.kind c.requires) (opened.held told value view) serves
