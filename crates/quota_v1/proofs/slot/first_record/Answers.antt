use Rattle.std.proofs.Common.{below_more, ℕ, ◌≤◌, ◌≡◌, None, sym, ◌∙◌, arith}
use Rattle.quota_v1.specs.FlatFile.{flat_record}
use Rattle.quota_v1.specs.Place.{record_start}
use Rattle.quota_v1.proofs.PlaceLemmas.{place_among, within_among}
use Rattle.quota_v1.proofs.SlotLemmas.{record_from}
use Rattle.quota_v1.proofs.slot.first_record.Goals as goal

pub record_at-requires-clause-within : goal.record_at-requires-clause-within
record_at-requires-clause-within c =
    within_among c.args.format c.args.first c.loop-id.id c.args.to _ _
    (omega (arith, c.loop-id.auto.id, c.requires.begins)) c.loop-id-test.true c.record_start-at.ensures.place
    c.requires.within

pub loop-id-preserved : goal.loop-id-preserved
loop-id-preserved c = λ file whole from.
    let first = c.args.first in
    let later : first ≤ c.loop-id.id = omega (arith, c.loop-id.auto.id, c.requires.begins) in
    below_more (λ (k : ℕ). c.args.from ≤ k → flat_record c.args.format file k ≡ None) _
    (c.loop-id.invariant file whole from)
    (λ _. record_from c.args.format c.requires.flat file (record_start c.args.format first) c.args.bytes.now _
    c.loop-id.id whole from
    (within_among c.args.format first c.loop-id.id c.args.to _ _ later c.loop-id-test.true
    c.record_start-at.ensures.place c.requires.within)
    (place_among c.args.format first c.loop-id.id _ later c.record_start-at.ensures.place)
    ∙ sym c.record_at.ensures.value ∙ c.in_default.is)

pub returns-in-Some-clause-found : goal.returns-in-Some-clause-found
returns-in-Some-clause-found c = λ file whole from.
    let first = c.args.first in (
      c.loop-id.auto.id,
      c.loop-id-test.true,
      record_from c.args.format c.requires.flat file (record_start c.args.format first) c.args.bytes.now _
          c.loop-id.id whole from
          (within_among c.args.format first c.loop-id.id c.args.to _ _
          (omega (arith, c.loop-id.auto.id, c.requires.begins)) c.loop-id-test.true c.record_start-at.ensures.place
          c.requires.within)
          (place_among c.args.format first c.loop-id.id _ (omega (arith, c.loop-id.auto.id, c.requires.begins))
          c.record_start-at.ensures.place)
          ∙ sym c.record_at.ensures.value ∙ c.in-Some.is,
      λ id low high. c.loop-id.invariant file whole from id high low,
    )
