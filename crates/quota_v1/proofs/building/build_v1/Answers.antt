use Rattle.std.proofs.Common.{◌≡◌, ◌+◌, ℕ, List, length, get_or, take, replicate, rules, sym, ap, subst, ◌∙◌, arith}
use Rattle.std.proofs.lemmas.List.{take_more}
use Rattle.quota_types.specs.declared.record.Entry.{Entry}
use Rattle.quota_value.specs.Listed.{ids_of}
use Rattle.quota_types.specs.Bytes.{number_at}
use Rattle.quota_v1.specs.Build.{greatest, records_needed}
use Rattle.quota_v1.specs.Place.{inode_time_at, record_start, time_width}
use Rattle.quota_v1.proofs.PlaceLemmas.{end_within, start_of_first, start_of_next, start_whole, starts_apart}
use Rattle.quota_v1.proofs.BuildLemmas.{IsBuiltOf, built_all, built_more, built_none, built_stands, greatest_fits}
use Rattle.quota_v1.proofs.BuildLemmas.{id_le_greatest, no_entry, not_before, written_whole}
use Rattle.quota_v1.proofs.building.build_v1.Goals as goal

pub write_times-requires-clause-within : goal.write_times-requires-clause-within
write_times-requires-clause-within c =
    let long : length c.deref_mut.result.now ≡ record_start c.args.format (records_needed (ids_of c.args.list.now)) =
    search rules in
    omega (arith, long, starts_apart c.args.format 0 (records_needed (ids_of c.args.list.now)) (omega arith))

pub loop-entry-init : goal.loop-entry-init
loop-entry-init c =
    let count : ℕ = record_start c.args.format (records_needed (ids_of c.args.list.now)) in
    let zeros : c.deref_mut.result.now ≡ replicate count 0 = search rules in
    let long : length c.write_times.new.bytes ≡ count = search rules in
    let kept = rw zeros at c.write_times.ensures.kept in
    let first = start_of_first c.args.format in
    let block : record_start c.args.format 0 + 24 ≡ 24 = omega (arith, first) in
    let inode : record_start c.args.format 0 + inode_time_at c.args.format ≡ 0 + inode_time_at c.args.format =
    omega (arith, first) in
    subst (IsBuiltOf c.args.format c.args.grace _ count)
    (sym (written_whole _ c.write_times.new.bytes _ (search rules)))
    (built_none c.args.format c.requires.flat c.args.grace count c.write_times.new.bytes
    (start_whole c.args.format _) long
    (ap (number_at (time_width c.args.format) c.write_times.new.bytes) block ∙ c.write_times.ensures.block)
    (ap (number_at (time_width c.args.format) c.write_times.new.bytes) inode ∙ c.write_times.ensures.inode)
    (record {
      before = λ k low. kept.before k (omega (arith, low, first));
      behind = λ k high. kept.behind k (omega (arith, high, first, start_of_next c.args.format 0));
    }))

pub write_record-requires-clause-within : goal.write_record-requires-clause-within
write_record-requires-clause-within c =
    let low = id_le_greatest c.args.list.now c.loop-entry.entry-index c.loop-entry-test.true in
    omega (
      arith,
      starts_apart c.args.format (get_or c.args.list.now c.loop-entry.entry-index no_entry).id
          (records_needed (ids_of c.args.list.now)) (omega (arith, low)),
      c.loop-entry.invariant.long,
      c.deref_mut-in-loop-entry.ensures.len,
      c.loop-entry.file.ok.0,
    )

pub loop-entry-preserved : goal.loop-entry-preserved
loop-entry-preserved c =
    let count : ℕ = record_start c.args.format (records_needed (ids_of c.args.list.now)) in
    let place : ℕ = c.loop-entry.entry-index in
    let entry : Entry = get_or c.args.list.now place no_entry in
    let more : IsBuiltOf c.args.format c.args.grace _ count c.write_record.new.bytes =
    built_more c.args.format c.requires.flat c.args.grace (take place c.args.list.now) count entry
    c.loop-entry.file.items c.write_record.new.bytes c.loop-entry.invariant (search rules)
    c.write_record.ensures.written
    (rw c.deref_mut-in-loop-entry.ensures.value at c.write_record.ensures.others)
    (rw c.deref_mut-in-loop-entry.ensures.value at c.write_record.ensures.times)
    (c.requires.not_zeros place no_entry c.loop-entry-test.true)
    (not_before c.args.list.now place c.requires.ascending c.loop-entry-test.true) in
    subst (IsBuiltOf c.args.format c.args.grace _ count)
    (sym (written_whole _ c.write_record.new.bytes _ (search rules)))
    (subst (λ (es : List Entry). IsBuiltOf c.args.format c.args.grace es count c.write_record.new.bytes)
    (sym (take_more c.args.list.now place no_entry c.loop-entry-test.true)) more)

pub returns-clause-stands : goal.returns-clause-stands
returns-clause-stands c = λ kind.
    built_stands c.args.format c.requires.flat c.args.grace c.args.list.now _ c.loop-entry.file.items kind
    (built_all c.args.format c.args.grace c.args.list.now c.loop-entry.entry-index _ c.loop-entry.file.items
    c.loop-entry-test.false c.loop-entry.invariant) c.requires.grace

pub returns-clause-limited : goal.returns-clause-limited
returns-clause-limited c =
    let last : ℕ = greatest (ids_of c.args.list.now) in
    omega (
      arith,
      end_within c.args.format last (greatest_fits c.args.format c.requires.flat c.args.list.now c.requires.fits),
      start_of_next c.args.format last,
      c.loop-entry.invariant.long,
      c.loop-entry.file.ok.0,
    )

pub returns-clause-elsewhere : goal.returns-clause-elsewhere
returns-clause-elsewhere c =
    (built_all c.args.format c.args.grace c.args.list.now c.loop-entry.entry-index _ c.loop-entry.file.items
    c.loop-entry-test.false c.loop-entry.invariant).elsewhere
