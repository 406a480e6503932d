use Rattle.std.proofs.Common.{◌≡◌, None, subst}
use Rattle.std.specs.Prelude.{All}
use Rattle.quota_types.specs.Kept.{IsKept}
use Rattle.quota_types.specs.Range.{grace_unfit}
use Rattle.quota_types.specs.declared.file_kind.Format.{Format}
use Rattle.quota_types.specs.declared.record.Entry.{Entry}
use Rattle.convert.proofs.SourceLemmas.{read_of}
use Rattle.convert.proofs.source.read_source.Goals as goal

pub returns-in-Ok-read_all-clause-read : goal.returns-in-Ok-read_all-clause-read
returns-in-Ok-read_all-clause-read g c =
    let S = g.S.Store in
    let opened = c.in-Ok.ensures in
    let read = c.in-Ok-read_all.ensures in
    let list = c.in-Ok-read_all.entries.items in
    let grace = c.grace-grace.result in
    read_of S.tells ((S.seen c.args.store.now).files c.args.name.now) c.args.kind c.args.format grace list
    opened.seen
    (λ told value view. let held = opened.held told value view in
    (c.grace-grace.ensures.value c.open_file.new.store value held, read.records value held))
    (subst (λ (f : Format). grace_unfit f grace ≡ None) opened.as_asked c.grace-grace.ensures.fits)
    (subst (λ (f : Format). All (λ (entry : Entry). IsKept f entry.id entry.rec) list) opened.as_asked read.kept)
