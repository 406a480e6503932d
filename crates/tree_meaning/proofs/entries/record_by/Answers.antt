use Rattle.std.proofs.Common.{◌≡◌, ℕ, sym, subst}
use Rattle.quota_types.specs.Kept.{IsKept}
use Rattle.tree_meaning.proofs.RecordLemmas.{other_entry, same_entry, stored_entry}
use Rattle.tree_meaning.proofs.entries.record_by.Goals as goal

pub returns-then-le32-id-clause-value : goal.returns-then-le32-id-clause-value
returns-then-le32-id-clause-value c =
    sym (other_entry c.args.format c.args.block.now c.args.id c.args.place c.record_size.result c.le32.result
    c.requires.tree c.record_size.ensures c.le32.ensures c.if-le32-id.true)

pub returns-clause-value : goal.returns-clause-value
returns-clause-value c =
    let same : c.in_ok-rec.field-0-0 ≡ c.args.id =
    stored_entry c.args.format c.args.block.now c.entry_bytes-bytes.result.now c.args.id c.in_ok-rec.field-0-0
    c.args.place c.record_size.result c.le32.result c.in_ok-rec.rec
    c.requires.tree c.record_size.ensures c.le32.ensures c.if-le32-id.false c.entry_bytes-bytes.ensures.value
    c.in_ok-rec.ensures.used in
    same_entry c.args.format c.args.block.now c.entry_bytes-bytes.result.now c.args.id c.in_ok-rec.field-0-0
    c.args.place c.in_ok-rec.rec
    c.entry_bytes-bytes.ensures.value c.in_ok-rec.ensures.used same

pub returns-clause-kept : goal.returns-clause-kept
returns-clause-kept c =
    let same : c.in_ok-rec.field-0-0 ≡ c.args.id =
    stored_entry c.args.format c.args.block.now c.entry_bytes-bytes.result.now c.args.id c.in_ok-rec.field-0-0
    c.args.place c.record_size.result c.le32.result c.in_ok-rec.rec
    c.requires.tree c.record_size.ensures c.le32.ensures c.if-le32-id.false c.entry_bytes-bytes.ensures.value
    c.in_ok-rec.ensures.used in
    subst (λ (id : ℕ). IsKept c.args.format id c.in_ok-rec.rec) same
    (record { fits = c.in_ok-rec.ensures.fits; again = c.in_ok-rec.ensures.kept })
