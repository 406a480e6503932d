use Rattle.std.proofs.Common.{◌+◌, ◌<◌, Option, sym, ap, ◌∙◌, arith}
use Rattle.std.specs.Option.{option_or}
use Rattle.quota_types.specs.declared.record.Rec.{Rec}
use Rattle.entry_codec.specs.Entry.{entries_per_block}
use Rattle.tree_meaning.proofs.RecordLemmas.{record_from, record_from-first, record_from-next}
use Rattle.tree_meaning.proofs.entries.first_used.Goals as goal

pub loop-place-init : goal.loop-place-init
loop-place-init c = record_from-first c.args.format c.args.block.now c.args.id

pub loop-place-preserved-then-not-has_id : goal.loop-place-preserved-then-not-has_id
loop-place-preserved-then-not-has_id c =
    let low : c.loop-place.place < entries_per_block c.args.format =
    omega (arith, c.entries_per_block-place-end.ensures) in
    let rest : Option Rec = record_from c.args.format c.args.block.now c.args.id (c.loop-place.place + 1) in
    c.loop-place.invariant
    ∙ record_from-next c.args.format c.args.block.now c.args.id c.loop-place.place low
    ∙ ap (λ (o : Option Rec). option_or o rest) c.if-not-has_id.ensures.other

pub loop-place-preserved : goal.loop-place-preserved
loop-place-preserved c =
    let low : c.loop-place.place < entries_per_block c.args.format =
    omega (arith, c.entries_per_block-place-end.ensures) in
    let rest : Option Rec = record_from c.args.format c.args.block.now c.args.id (c.loop-place.place + 1) in
    c.loop-place.invariant
    ∙ record_from-next c.args.format c.args.block.now c.args.id c.loop-place.place low
    ∙ ap (λ (o : Option Rec). option_or o rest) (sym c.record_by.ensures.value ∙ c.in_default.is)

pub returns-in-Some-clause-value : goal.returns-in-Some-clause-value
returns-in-Some-clause-value c =
    let low : c.loop-place.place < entries_per_block c.args.format =
    omega (arith, c.entries_per_block-place-end.ensures) in
    let rest : Option Rec = record_from c.args.format c.args.block.now c.args.id (c.loop-place.place + 1) in
    sym (c.loop-place.invariant
    ∙ record_from-next c.args.format c.args.block.now c.args.id c.loop-place.place low
    ∙ ap (λ (o : Option Rec). option_or o rest) (sym c.record_by.ensures.value ∙ c.in-Some.is))
