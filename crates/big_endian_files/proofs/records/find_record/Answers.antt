use Rattle.std.proofs.Common.{◌+◌, ◌<◌, Option, ap, sym, ◌∙◌}
use Rattle.std.specs.Option.{option_or}
use Rattle.quota_types.specs.declared.record.Rec.{Rec}
use Rattle.big_endian_files.proofs.EntryLemmas.{from_first, from_next, record_from}
use Rattle.big_endian_files.proofs.records.find_record.Goals as goal

pub loop-place-init : goal.loop-place-init
loop-place-init c = from_first c.args.block.now c.args.id

pub loop-place-preserved : goal.loop-place-preserved
loop-place-preserved c =
    let low : c.loop-place.place < 21 = c.loop-place-test.true in
    let rest : Option Rec = record_from c.args.block.now c.args.id (c.loop-place.place + 1) in
    c.loop-place.invariant ∙ from_next c.args.block.now c.args.id c.loop-place.place low
    ∙ ap (λ (o : Option Rec). option_or o rest) (sym c.record_at.ensures.value ∙ c.in_default.is)

pub returns-in-Some-clause-value : goal.returns-in-Some-clause-value
returns-in-Some-clause-value c =
    let low : c.loop-place.place < 21 = c.loop-place-test.true in
    let rest : Option Rec = record_from c.args.block.now c.args.id (c.loop-place.place + 1) in
    sym (c.loop-place.invariant ∙ from_next c.args.block.now c.args.id c.loop-place.place low
    ∙ ap (λ (o : Option Rec). option_or o rest) (sym c.record_at.ensures.value ∙ c.in-Some.is))
